use Rattle.std.proofs.Common.{arith}
use Rattle.ftp_script_run.proofs.AdmissionLemmas.{GivesItem-from_LetsIn}
use Rattle.ftp_script_run.proofs.admission.Admission.line.Goals as goal

pub returns-in-Ok-clause-let_in : goal.returns-in-Ok-clause-let_in
returns-in-Ok-clause-let_in c =
    λ before stands set. GivesItem-from_LetsIn before c.args.taken c.args.line.now c.in-Ok.item c.keep.result c.keep.new.self (omega arith) (omega arith)
    c.in-Ok.ensures.found (λ j spelled. (let one = c.in-Ok.ensures.only j spelled in cc)) c.keep.ensures.same (c.keep.ensures.let_in before stands set)
