-- What a run keeps while it goes on.
use Rattle.std.specs.Prelude.{◌≡◌, ℕ, ◌<◌, ◌+◌, ◌^◌, List, ◌++◌, length}
use Rattle.ftp_events.specs.declared.event.EventKind.{EventKind}
use Rattle.ftp_hub.specs.Stands.{Stands, options_of, count_of}
use Rattle.ftp_script_run.specs.declared.stress_run.Run.{Run}
use Rattle.ftp_script_run.specs.Counts.{AreCounts}
use Rattle.ftp_script_run.specs.Stress.{stress_options, log_after}

-- the hub stands for the log of these kinds of events, and their decisions were counted
pub record Keeps (run : Run) (ks : List EventKind) : Type 0 where
  pub options : options_of run.hub ≡ stress_options
  pub stands : Stands run.hub (log_after ks)
  pub counts : AreCounts run.counts.numbers (log_after ks)
  pub events : count_of run.hub ≡ length ks

-- so many events more keep a run within its limit
abbrev pub HasPlace : ℕ → Run → Type 0
HasPlace n run = (ks : List EventKind) × Keeps run ks × (length ks + n < 2 ^ 64)

-- these events were taken
abbrev pub Takes : Run → List EventKind → Run → Type 0
Takes old more new = (ks : List EventKind) → Keeps old ks → Keeps new (ks ++ more)
