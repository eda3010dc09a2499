-- Which entries and replies a call under the lock can give.
use Rattle.std.specs.Prelude.{◌≡◌, ℕ, Bool, true, false, List, [], length, Option, Some, MatchOption, if◌then◌else◌}
use Rattle.ftp_options.specs.declared.options.Options.{Options}
use Rattle.ftp_transfer.specs.declared.job.Job.{Job}
use Rattle.ftp_events.specs.declared.decision.Decision.{Decision}
use Rattle.ftp_events.specs.declared.decision.Decision.TheVariants.{Moved}
use Rattle.ftp_events.specs.declared.entry.Entry.{Entry}
use Rattle.ftp_events.specs.declared.event.Answer.{Answer}
use Rattle.ftp_events.specs.declared.event.Answer.TheVariants as answer
use Rattle.ftp_events.specs.declared.event.EventKind.TheVariants.{End, Piece}
use Rattle.ftp_events.specs.declared.event.HubEvent.{HubEvent}
use Rattle.ftp_events.specs.Log.{past_of}
use Rattle.ftp_events.specs.Right.{IsRight, IsActed, next_entry, replies}
use Rattle.ftp_hub.specs.Twin.{started_job}
use Rattle.ftp_shared.specs.declared.receipt.Receipt.{Receipt}
use Rattle.ftp_shared.specs.declared.receipt.Submitted.{Submitted}
use Rattle.ftp_shared.specs.declared.receipt.Turn.{Turn}
use Rattle.ftp_shared.specs.Jobs.{behind}
use Rattle.ftp_shared.specs.Outbox.{IsRest, own_session}

-- the end of a job
abbrev pub end_of : Job → ℕ → HubEvent
end_of job at = record { at = at; kind = End job.ticket }

-- a piece of a job
abbrev pub piece_of : Job → ℕ → HubEvent
piece_of job at = record { at = at; kind = Piece job.ticket }

-- a piece is counted, and its job goes on
abbrev pub is_moved : Decision → Bool
is_moved Moved = true
is_moved _ = false

-- the entry is the next one of a right and acted journal, at its place
pub record Next (o : Options) (r : Receipt) (event : HubEvent) (answer : Answer) : Type 0 where
  pub journal : List Entry
  pub right : IsRight o journal
  pub acted : IsActed o journal
  pub place : r.place ≡ length journal
  pub entry : r.entry ≡ next_entry o journal event answer

-- there is such a journal
abbrev pub IsNextAt : Options → Receipt → HubEvent → Answer → Type 0
IsNextAt o r event answer = ∥ Next o r event answer ∥₁

-- and the job that comes with it is the one of this piece where that is counted, and else the one that starts with the entry
pub record NextPiece (o : Options) (s : Submitted) (job : Job) (at bytes : ℕ) : Type 0 where
  pub next : Next o s.receipt (piece_of job at) (answer.Moved bytes)
  pub comes : s.job ≡ (if is_moved s.receipt.entry.decision then Some (behind job bytes) else started_job o (past_of next.journal) s.receipt.entry)

-- there is such a journal
abbrev pub IsPieceAt : Options → Submitted → Job → ℕ → ℕ → Type 0
IsPieceAt o s job at bytes = ∥ NextPiece o s job at bytes ∥₁

-- and the replies that were handed out before it are the last that the journal sends to the session, if there is one
pub record NextTurn (o : Options) (t : Turn) (own : Option ℕ) (event : HubEvent) (answer : Answer) : Type 0 where
  pub next : Next o t.submitted.receipt event answer
  pub earlier : MatchOption own (t.earlier ≡ []) (λ s. IsRest t.earlier (replies next.journal s))

-- there is such a journal
abbrev pub IsTurnOf : Options → Turn → Option ℕ → HubEvent → Answer → Type 0
IsTurnOf o t own event answer = ∥ NextTurn o t own event answer ∥₁

-- for the session that the event names
abbrev pub IsTurnAt : Options → Turn → HubEvent → Answer → Type 0
IsTurnAt o t event answer = IsTurnOf o t (own_session event.kind) event answer
