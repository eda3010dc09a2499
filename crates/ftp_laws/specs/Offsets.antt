-- What sets a session's restart offset.
use Rattle.std.specs.Prelude.{ℕ, ◌≡◌, true, Some}
use Rattle.ftp_transfer.specs.declared.job.Outcome.{Outcome}
use Rattle.ftp_events.specs.declared.decision.Decision.TheVariants.{RestOk, Finished}
use Rattle.ftp_events.specs.declared.entry.Entry.{Entry}
use Rattle.ftp_events.specs.declared.event.Answer.TheVariants.{Done}
use Rattle.ftp_events.specs.declared.event.EventKind.TheVariants.{Rest}
use Rattle.ftp_events.specs.Log.{named_session}
use Rattle.ftp_events.specs.Transfer.{moves_file}

-- a REST of session s is taken
abbrev pub TakesRest : Entry → ℕ → Type 0
TakesRest e s = (n : ℕ) × (e.event.kind ≡ Rest s n) × (e.decision ≡ RestOk)

-- a RETR, STOR or APPE of session s ends, and succeeded
abbrev pub EndsWell : Entry → ℕ → Type 0
EndsWell e s =
    (outcome : Outcome) × (named_session e.event.kind ≡ Some s) × (e.answer ≡ Done outcome) × (e.decision ≡ Finished) × (moves_file outcome.result ≡ true)
