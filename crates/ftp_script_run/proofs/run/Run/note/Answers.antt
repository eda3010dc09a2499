use Rattle.std.proofs.Common.{None, []}
use Rattle.ftp_control.proofs.WritingLemmas.{on_ok-then}
use Rattle.ftp_script_run.proofs.run.Run.note.Goals as goal

pub returns-in_default-clause-noted : goal.returns-in_default-clause-noted
returns-in_default-clause-noted c =
    on_ok-then c.set_up.result c.set_up.ensures.took (λ took items log kept may heard. ([], took None items log kept (record { stands = may; goes_on = tt }), heard))
