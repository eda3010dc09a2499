use Rattle.std.proofs.Common.{None, [], ◌∷◌}
use Rattle.ftp_script_run.proofs.run.Run.note_event.Goals as goal

pub returns-in-Ok-clause-noted : goal.returns-in-Ok-clause-noted
returns-in-Ok-clause-noted c = λ items log kept may heard.
    (c.in_ok-entry.entry ∷ [], c.in_ok-entry.ensures.due None items log kept (record { stands = may; goes_on = tt }), c.in-Ok.ensures.heard log heard)
