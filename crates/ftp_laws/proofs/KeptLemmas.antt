-- What stays of a job that an ABOR marks, or of which a piece is counted: all but the mark and the count.
use Rattle.std.proofs.Common.{◌≡◌, refl, ap, ℕ, Option, Some, None}
use Rattle.std.specs.Prelude.{is_some}
use Rattle.std.proofs.lemmas.Option.{same_Some}
use Rattle.ftp_transfer.specs.declared.job.Job.{Job}
use Rattle.ftp_events.specs.declared.decision.Decision.TheVariants as decision
use Rattle.ftp_events.specs.declared.event.Answer.TheVariants as answer
use Rattle.ftp_events.specs.Fate.{is_running}
use Rattle.ftp_events.specs.Slot.{mark, raise}
use Rattle.ftp_laws.proofs.Common.{Decision, Answer, Lane, Pending, Running, Ticket, kept_running, slot_move, starts_by}

-- a job but for what its pieces moved
abbrev pub fresh : Job → Job
fresh job = record job { done = 0 }

-- two jobs that run are one but for the mark and the count
abbrev pub IsSame : Running → Running → Type 0
IsSame i j = fresh i.job ≡ fresh j.job

-- what runs is the job that ran
pub kept-same : (d : Decision) (given : Answer) (job : Option Running) (j : Running) →
    kept_running d given job ≡ Some j → (i : Running) × (job ≡ Some i) × IsSame i j
kept-same decision.Aborting given None j h = cc
kept-same decision.Aborting given (Some i) j h = (i, refl, ap (λ (r : Running). fresh r.job) (same_Some _ _ h))
kept-same decision.Moved (answer.Moved bytes) None j h = cc
kept-same decision.Moved (answer.Moved bytes) (Some i) j h = (i, refl, ap (λ (r : Running). fresh r.job) (same_Some _ _ h))
kept-same d given job j h = (j, h, refl)

-- the job that ran runs on
pub kept-some : (d : Decision) (given : Answer) (i : Running) → (j : Running) × (kept_running d given (Some i) ≡ Some j) × IsSame i j
kept-some decision.Aborting given i = (mark i, refl, refl)
kept-some decision.Moved (answer.Moved bytes) i = (raise bytes i, refl, refl)
kept-some d given i = (i, refl, refl)

-- a job runs where one ran
pub kept-is_some : (d : Decision) (given : Answer) (job : Option Running) → is_some (kept_running d given job) ≡ is_some job
kept-is_some decision.Aborting given None = refl
kept-is_some decision.Aborting given (Some i) = refl
kept-is_some decision.Moved (answer.Moved bytes) None = refl
kept-is_some decision.Moved (answer.Moved bytes) (Some i) = refl
kept-is_some d given job = refl

-- and it is of the same transfer
pub kept-is_running : (t : Ticket) (d : Decision) (given : Answer) (job : Option Running) → is_running t (kept_running d given job) ≡ is_running t job
kept-is_running t decision.Aborting given None = refl
kept-is_running t decision.Aborting given (Some i) = refl
kept-is_running t decision.Moved (answer.Moved bytes) None = refl
kept-is_running t decision.Moved (answer.Moved bytes) (Some i) = refl
kept-is_running t d given job = refl

-- none runs where none ran
pub kept-none : (d : Decision) (given : Answer) (job : Option Running) → kept_running d given job ≡ None → job ≡ None
kept-none decision.Aborting given None h = refl
kept-none decision.Aborting given (Some i) h = cc
kept-none decision.Moved (answer.Moved bytes) None h = refl
kept-none decision.Moved (answer.Moved bytes) (Some i) h = cc
kept-none d given job h = h

-- where a job starts, nothing else becomes of it
pub kept-started :
    (d : Decision) (given : Answer) (number : Option ℕ) (queued : Option Pending) (l : Lane) (j : Running) (job : Option Running) →
    starts_by (slot_move d) number queued l ≡ Some j → kept_running d given job ≡ job
kept-started decision.Aborting given number queued l j job h = cc
kept-started decision.Moved given number queued l j job h = cc
kept-started d given number queued l j job h = refl
