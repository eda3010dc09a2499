use Rattle.std.proofs.Common.{sym, ap, ◌∙◌, subst, ◌∷◌}
use Rattle.ftp_events.specs.declared.entry.Entry.{Entry}
use Rattle.ftp_events.specs.Log.{past_of}
use Rattle.ftp_hub.specs.Stands.{Stands, options_of}
use Rattle.ftp_hub.specs.Twin.{started_job}
use Rattle.ftp_shared.proofs.ready.step.Goals as goal

-- the entry that is told is the one that is kept
pub returns-clause-due : goal.returns-clause-due
returns-clause-due c log st = c.step_twin-kept.ensures.told ∙ c.step_twin-kept.ensures.due log st

pub returns-clause-stands : goal.returns-clause-stands
returns-clause-stands c log st =
    subst (λ (e : Entry). Stands c.step_twin-kept.new.self (e ∷ log)) (sym c.step_twin-kept.ensures.told) (c.step_twin-kept.ensures.stands log st)

pub returns-clause-job : goal.returns-clause-job
returns-clause-job c log st =
    c.share_of.ensures ∙ c.step_twin-kept.ensures.job log st
    ∙ ap (started_job (options_of c.args.hub.now) (past_of log)) (sym c.step_twin-kept.ensures.told)
