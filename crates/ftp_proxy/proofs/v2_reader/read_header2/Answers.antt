use Rattle.ftp_proxy.proofs.OutcomeLemmas.{begun_none}
use Rattle.ftp_proxy.proofs.HeaderLaws.{found, only}
use Rattle.ftp_proxy.proofs.v2_reader.read_header2.Goals as goal

pub returns-clause-found : goal.returns-clause-found
returns-clause-found g c = found c.read_from.result _ _ (λ all e. c.read_from.ensures.read all (begun_none all _ _ e))

pub returns-clause-only : goal.returns-clause-only
returns-clause-only g c = only c.read_from.result _ _ (λ all e. c.read_from.ensures.read all (begun_none all _ _ e))
