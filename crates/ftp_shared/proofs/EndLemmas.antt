-- The last entry of a job has the moment and the answer that were handed in.
use Rattle.std.proofs.Common.{◌≡◌, inl, inr, refl, sym, ap, subst, ℕ, false, Option}
use Rattle.std.specs.Prelude.{IfOk, IfSome, IsSome, OnErr, Result, Ok, Err}
use Rattle.ftp_events.specs.declared.event.Answer.{Answer}
use Rattle.ftp_events.specs.declared.event.Answer.TheVariants.{Done, Moved}
use Rattle.ftp_events.specs.declared.event.EventKind.{EventKind}
use Rattle.ftp_events.specs.declared.event.EventKind.TheVariants.{End, Piece}
use Rattle.ftp_events.specs.declared.event.HubEvent.{HubEvent}
use Rattle.ftp_options.specs.declared.options.Options.{Options}
use Rattle.ftp_transfer.specs.declared.job.Job.{Job}
use Rattle.ftp_transfer.specs.declared.job.Outcome.{Outcome}
use Rattle.ftp_transfer.specs.declared.job.Ticket.{Ticket}
use Rattle.ftp_shared.specs.Answers.{moved_in, outcome_in}
use Rattle.ftp_shared.specs.Runs.{IsLastOf}
use Rattle.ftp_shared.specs.declared.receipt.Receipt.{Receipt}
use Rattle.ftp_shared.specs.declared.receipt.Submitted.{Submitted}
use Rattle.ftp_shared.specs.Next.{IsNextAt, end_of, is_moved, piece_of}
use Rattle.ftp_shared.proofs.TurnLemmas.{answer-told, event-told}

-- its moment
pub moment-told : (o : Options) (r : Receipt) (k : EventKind) (at : ℕ) (answer : Answer) → IsNextAt o r (record { at = at; kind = k }) answer → at ≡ r.entry.event.at
moment-told o r k at answer next = sym (ap (λ (e : HubEvent). e.at) (event-told o r (record { at = at; kind = k }) answer next))

-- so it is the next one of what it tells itself
next-told : (o : Options) (r : Receipt) (k : EventKind) (at : ℕ) (answer : Answer) →
    IsNextAt o r (record { at = at; kind = k }) answer → IsNextAt o r (record { at = r.entry.event.at; kind = k }) r.entry.answer
next-told o r k at answer next =
    subst (λ (at : ℕ). IsNextAt o r (record { at = at; kind = k }) r.entry.answer) (moment-told o r k at answer next)
    (subst (λ (given : Answer). IsNextAt o r (record { at = at; kind = k }) given) (sym (answer-told o r (record { at = at; kind = k }) answer next)) next)

-- the end of a job, of which more was told by then
pub last-end : (o : Options) (r : Receipt) (job told : Job) (at : ℕ) (outcome : Outcome) → told ≡ record job { done = told.done } →
    IsNextAt o r (end_of told at) (Done outcome) → IsLastOf o job r
last-end o r job told at outcome same next =
    let here : IsNextAt o r (end_of job at) (Done outcome) =
    subst (λ (t : Ticket). IsNextAt o r (record { at = at; kind = End t }) (Done outcome)) (ap (λ (j : Job). j.ticket) same) next in
    inl (
      next-told o r (End job.ticket) at (Done outcome) here,
      subst (λ (given : Answer). IsSome (outcome_in given)) (sym (answer-told o r (end_of job at) (Done outcome) here)) refl,
    )

-- a piece of a job that is over
pub last-piece : (o : Options) (r : Receipt) (job told : Job) (at bytes : ℕ) → told ≡ record job { done = told.done } → is_moved r.entry.decision ≡ false →
    IsNextAt o r (piece_of told at) (Moved bytes) → IsLastOf o job r
last-piece o r job told at bytes same over next =
    let here : IsNextAt o r (piece_of job at) (Moved bytes) =
    subst (λ (t : Ticket). IsNextAt o r (record { at = at; kind = Piece t }) (Moved bytes)) (ap (λ (j : Job). j.ticket) same) next in
    inr (
      next-told o r (Piece job.ticket) at (Moved bytes) here,
      subst (λ (given : Answer). IsSome (moved_in given)) (sym (answer-told o r (piece_of job at) (Moved bytes) here)) refl,
      over,
    )

-- what is true of a part of the answer that was handed in is true of that of the entry's
pub told-in : {A : Type 0} (part : Answer → Option A) (P : A → Type 0) (o : Options) (r : Receipt) (event : HubEvent) (answer : Answer) →
    IsNextAt o r event answer → IfSome (part answer) P → IfSome (part r.entry.answer) P
told-in part P o r event answer next = subst (λ (given : Answer). IfSome (part given) P) (sym (answer-told o r event answer next))

-- so it is of what was submitted
pub told-by : {A X : Type 0} (part : Answer → Option A) (P : A → Type 0) (o : Options) (r : Result Submitted X) (event : HubEvent) (answer : Answer) →
    IfOk r (λ s. IsNextAt o s.receipt event answer) → IfSome (part answer) P → IfOk r (λ s. IfSome (part s.receipt.entry.answer) P)
told-by part P o (Ok s) event answer next h = told-in part P o s.receipt event answer next h
told-by part P o (Err e) event answer next h = tt

-- what follows from an error
pub with-err : {T X : Type 0} {Q R : Type 0} (r : Result T X) → OnErr r Q → (Q → R) → OnErr r R
with-err (Ok x) also next = tt
with-err (Err e) also next = next also
