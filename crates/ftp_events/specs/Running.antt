-- How many jobs run.
use Rattle.std.specs.Prelude.{ℕ, ◌+◌, ◌-◌, List, [], ◌∷◌}
use Rattle.ftp_events.specs.declared.action.Action.{Action}
use Rattle.ftp_events.specs.declared.action.Action.TheVariants as action
use Rattle.ftp_events.specs.declared.decision.Decision.{Decision}
use Rattle.ftp_events.specs.declared.decision.Decision.TheVariants.{Cut}
use Rattle.ftp_events.specs.declared.entry.Entry.{Entry}
use Rattle.ftp_events.specs.Words.{total}

-- how many jobs end with an action
abbrev pub ended : Action → ℕ
ended (action.Completed ticket delivered) = 1
ended _ = 0

-- how many jobs start with it
abbrev pub started : Action → ℕ
started (action.Start ticket number) = 1
started _ = 0

-- how many jobs end with a decision, and are not completed
abbrev pub stopped : Decision → ℕ
stopped Cut = 1
stopped _ = 0

-- how many jobs run after a decision and its actions
abbrev pub running_after : Decision → List Action → ℕ → ℕ
running_after d actions n = n - (stopped d + total ended actions) + total started actions

-- how many jobs run
abbrev pub running_count : List Entry → ℕ
running_count [] = 0
running_count (e ∷ past) = running_after e.decision e.actions (running_count past)
