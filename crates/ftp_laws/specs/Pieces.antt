-- What the log tells of the pieces of a transfer, and of an ABOR that is to stop it.
use Rattle.std.specs.Prelude.{ℕ, Bool, true, false, ◌&&◌, ◌||◌, List, [], ◌∷◌, if◌then◌else◌}
use Rattle.std.specs.Option.{option_map_or}
use Rattle.ftp_transfer.specs.declared.job.Ticket.{Ticket}
use Rattle.ftp_events.specs.declared.decision.Decision.{Decision}
use Rattle.ftp_events.specs.declared.decision.Decision.TheVariants.{Aborting, Moved}
use Rattle.ftp_events.specs.declared.entry.Entry.{Entry}
use Rattle.ftp_events.specs.declared.event.Answer.{Answer}
use Rattle.ftp_events.specs.declared.event.Answer.TheVariants as answer
use Rattle.ftp_events.specs.declared.event.EventKind.{EventKind}
use Rattle.ftp_events.specs.Log.{job_ticket, named_session}
use Rattle.ftp_events.specs.Transfer.{same_ticket}
use Rattle.ftp_events.specs.Words.{is_number, total}
use Rattle.ftp_laws.specs.Transfers.{was_started}

-- an event is about transfer t: a piece of it, or its end
abbrev pub is_about : Ticket → EventKind → Bool
is_about t k = option_map_or (λ u. same_ticket u t) (job_ticket k) false

-- the bytes that are told to have moved, where they were taken
abbrev pub bytes_moved : Decision → Answer → ℕ
bytes_moved Moved (answer.Moved bytes) = bytes
bytes_moved d given = 0

-- those of transfer t
abbrev pub moved_by : Ticket → Entry → ℕ
moved_by t e = if is_about t e.event.kind then bytes_moved e.decision e.answer else 0

-- the bytes of all its pieces
abbrev pub piece_bytes : Ticket → List Entry → ℕ
piece_bytes t past = total (moved_by t) past

-- an ABOR is to stop a job
abbrev pub is_aborting : Decision → Bool
is_aborting Aborting = true
is_aborting _ = false

-- that of the session of transfer t
abbrev pub aborts : Ticket → Entry → Bool
aborts t e = is_aborting e.decision && is_number (named_session e.event.kind) t.session

-- transfer t started on link n, and an entry after that was to stop it
abbrev pub was_aborted : Ticket → ℕ → List Entry → Bool
was_aborted t n [] = false
was_aborted t n (e ∷ log) = aborts t e && was_started t n log || was_aborted t n log
