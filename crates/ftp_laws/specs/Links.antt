-- What links are used for.
use Rattle.std.specs.Prelude.{ℕ, Bool, false, ◌==◌, List, count_by}
use Rattle.ftp_events.specs.declared.action.Action.{Action}
use Rattle.ftp_events.specs.declared.action.Action.TheVariants.{Start}
use Rattle.ftp_events.specs.declared.entry.Entry.{Entry}
use Rattle.ftp_events.specs.Words.{total}

-- the action starts a transfer on link n
abbrev pub starts_on : ℕ → Action → Bool
starts_on n (Start ticket number) = number == n
starts_on n _ = false

-- how many transfers were started on link n
abbrev pub start_count : ℕ → List Entry → ℕ
start_count n log = total (λ e. count_by (starts_on n) e.actions) log
