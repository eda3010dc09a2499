-- An empty slot has no age.
use Rattle.std.proofs.Common.{◌≡◌, refl, sym, ap, ◌∙◌, ℕ, Bool, true, false, cond, List, [], ◌∷◌, Option, Some, None}
use Rattle.ftp_events.specs.declared.decision.SlotMove.TheVariants.{Awaits, Connects, Links, Queues, Finishes}
use Rattle.ftp_events.specs.declared.session.Slot.TheVariants.{Empty, Waits, Linked}
use Rattle.ftp_events.specs.Ages.{slot_at, slot_at_after}
use Rattle.ftp_laws.proofs.Common.{SlotMove, slot_move, Options, Entry, Pending, Running, Session, Slot, empties, history, lane, moved, new_number, queued_in, session}
use Rattle.ftp_laws.proofs.QuestionLemmas.{session-told}

-- an empty slot has no age after a move, where it had none before
aged-step :
    (m : SlotMove) (at : ℕ) (number : Option ℕ) (queued : Option Pending) (slot : Slot) (pending : Option Pending) (running : Option Running) (before : ℕ) →
    (slot ≡ Empty → before ≡ 0) →
    (moved m number queued (record { slot = slot; pending = pending; running = running })).slot ≡ Empty →
    slot_at_after m at number queued (record { slot = slot; pending = pending; running = running }) before ≡ 0
aged-step (Awaits port) at number queued slot pending running before ih e = cc
aged-step Connects at None queued slot pending running before ih e = refl
aged-step Connects at (Some n) queued slot pending running before ih e = cc
aged-step Links at number queued Empty pending running before ih e = ih refl
aged-step Links at None queued (Waits port) pending running before ih e = cc
aged-step Links at (Some n) queued (Waits port) None running before ih e = cc
aged-step Links at (Some n) queued (Waits port) (Some p) None before ih e = refl
aged-step Links at (Some n) queued (Waits port) (Some p) (Some r) before ih e = cc
aged-step Links at number queued (Linked k) None running before ih e = cc
aged-step Links at number queued (Linked k) (Some p) None before ih e = refl
aged-step Links at number queued (Linked k) (Some p) (Some r) before ih e = cc
aged-step (Queues t) at number queued Empty pending running before ih e = ih refl
aged-step (Queues t) at number queued (Waits port) pending running before ih e = cc
aged-step (Queues t) at number None (Linked k) pending running before ih e = cc
aged-step (Queues t) at number (Some p) (Linked k) pending None before ih e = refl
aged-step (Queues t) at number (Some p) (Linked k) pending (Some r) before ih e = cc
aged-step Finishes at number queued Empty pending running before ih e = ih refl
aged-step Finishes at number queued (Waits port) pending running before ih e = cc
aged-step Finishes at number queued (Linked k) None running before ih e = cc
aged-step Finishes at number queued (Linked k) (Some p) running before ih e = refl
aged-step m at number queued slot pending running before ih e = go (empties m slot) e
  where
    go : (b : Bool) → cond b Empty slot ≡ Empty → cond b 0 before ≡ 0
    go true e = refl
    go false e = ih e

-- in every history an empty slot has no age
pub aged-empty : (h : List Entry) → (lane h).slot ≡ Empty → slot_at h ≡ 0
aged-empty [] e = refl
aged-empty (x ∷ h) e =
    aged-step (slot_move x.decision) x.event.at (new_number x.event.kind x.decision) (queued_in h x) (lane h).slot (lane h).pending (lane h).running (slot_at h) (aged-empty h) e

-- so it is of a live session
pub session-aged : (o : Options) (past : List Entry) (s : ℕ) (v : Session) → session o past s ≡ Some v → v.slot ≡ Empty → v.slot_at ≡ 0
session-aged o past s v known e =
    let told = (session-told o past s v known).told in
    sym (ap (λ (w : Session). w.slot_at) told) ∙ aged-empty (history o past s) (ap (λ (w : Session). w.slot) told ∙ e)
