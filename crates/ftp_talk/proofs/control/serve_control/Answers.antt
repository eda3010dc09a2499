use Rattle.std.proofs.Common.{None}
use Rattle.ftp_talk.proofs.PlainLemmas.{serves-plain}
use Rattle.ftp_talk.proofs.control.serve_control.Goals as goal

pub returns-clause-served : goal.returns-clause-served
returns-clause-served g c = serves-plain None _ c.args.opening c.args.answer _ _ _ _ c.serve_control_with.ensures.served
