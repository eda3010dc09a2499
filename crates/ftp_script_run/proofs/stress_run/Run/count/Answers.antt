use Rattle.std.proofs.Common.{◌∷◌, subst}
use Rattle.ftp_events.specs.declared.entry.Entry.{Entry}
use Rattle.ftp_hub.specs.Stands.{Stands}
use Rattle.ftp_script_run.specs.Counts.{AreCounts}
use Rattle.ftp_script_run.proofs.stress_run.Run.count.Goals as goal

pub returns-clause-stands : goal.returns-clause-stands
returns-clause-stands c = λ log stands. subst (λ (e : Entry). Stands c.step-entry.new.self (e ∷ log)) (c.step-entry.ensures.due log stands) (c.step-entry.ensures.stands log stands)

pub returns-clause-counts : goal.returns-clause-counts
returns-clause-counts c = λ log stands counts. subst (λ (e : Entry). AreCounts c.add.new.self.numbers (e ∷ log)) (c.step-entry.ensures.due log stands) (c.add.ensures log counts)
