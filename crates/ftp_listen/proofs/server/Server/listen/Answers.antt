use Rattle.ftp_listen.proofs.ErrorLemmas.{IsErrOf-elsewhere}
use Rattle.ftp_listen.proofs.server.Server.listen.Goals as goal

pub returns-in-Err-clause-address : goal.returns-in-Err-clause-address
returns-in-Err-clause-address g c = IsErrOf-elsewhere c.in-Err.error _ c.in-Err.ensures.address

pub returns-in-Err-clause-ipv6 : goal.returns-in-Err-clause-ipv6
returns-in-Err-clause-ipv6 g c = IsErrOf-elsewhere c.in-Err.error _ c.in-Err.ensures.ipv6
