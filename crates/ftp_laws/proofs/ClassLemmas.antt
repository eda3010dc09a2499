-- What a class, or a question on a decision, tells of the decision: here alone the laws go back from the one to the other.
use Rattle.std.proofs.Common.{◌≡◌, refl, ap, ℕ, true, false, eqb-true, inl, inr}
use Rattle.std.specs.Prelude.{◌⊎◌}
use Rattle.ftp_events.specs.declared.decision.Decision.TheVariants as decision
use Rattle.ftp_events.specs.declared.decision.Life.TheVariants.{Opens, Ends}
use Rattle.ftp_events.specs.declared.decision.SlotMove.TheVariants.{Empties, Awaits, Connects, Expires, Queues, Finishes}
use Rattle.ftp_events.specs.Classes.{is_stop}
use Rattle.ftp_laws.proofs.Common.{Decision, is_refusal, EventKind, Life, Ticket, is_number, opened_number, granted_port, life, ends, is_ending, slot_move, gives_up}
use Rattle.ftp_laws.specs.Fates.{queues}
use Rattle.ftp_laws.proofs.TicketLemmas.{same_ticket-equal}

-- a port is awaited by a grant
pub awaits-is : (d : Decision) (p : ℕ) → slot_move d ≡ Awaits p → d ≡ decision.Granted p
awaits-is (decision.Granted port) p h = cc
awaits-is d p h = cc

-- the connection of a PORT is taken by its decision
pub connects-is : (d : Decision) → slot_move d ≡ Connects → d ≡ decision.PortOk
connects-is decision.PortOk h = refl
connects-is d h = cc

-- a slot that stood too long is dropped by its decision
pub expires-is : (d : Decision) → slot_move d ≡ Expires → d ≡ decision.SlotDropped
expires-is decision.SlotDropped h = refl
expires-is d h = cc

-- a transfer is queued by its decision
pub queues-is : (d : Decision) (t : Ticket) → slot_move d ≡ Queues t → d ≡ decision.Queued t
queues-is (decision.Queued ticket) t h = cc
queues-is d t h = cc

-- a job ends, or is cut, by its decision
pub finishes-is : (d : Decision) → slot_move d ≡ Finishes → (d ≡ decision.Finished) ⊎ (d ≡ decision.Cut)
finishes-is decision.Finished h = inl refl
finishes-is decision.Cut h = inr refl
finishes-is d h = cc

-- a life begins with an opening
pub opens-is : (d : Decision) → life d ≡ Opens → d ≡ decision.Opened
opens-is decision.Opened h = refl
opens-is d h = cc

-- where a life ends the slot is emptied
pub ending-empties : (d : Decision) → life d ≡ Ends → slot_move d ≡ Empties
ending-empties decision.Closed h = refl
ending-empties d h = cc

-- a slot that is emptied, whatever it has, is that of a session that ends, or is dropped by an ABOR
pub empties-is : (d : Decision) → slot_move d ≡ Empties → ((d ≡ decision.Aborted) ⊎ (d ≡ decision.Aborting)) ⊎ (is_ending d ≡ true)
empties-is decision.Aborted h = inl (inl refl)
empties-is decision.Aborting h = inl (inr refl)
empties-is decision.Quit h = inr refl
empties-is decision.Closed h = inr refl
empties-is decision.TimedOut h = inr refl
empties-is decision.Stopped h = inr refl
empties-is d h = cc

-- a stop is decided as one
pub stop-is : (d : Decision) → is_stop d ≡ true → d ≡ decision.Stopped
stop-is decision.Stopped h = refl
stop-is d h = cc

-- and is no refusal
pub stop-counts : (d : Decision) → is_stop d ≡ true → is_refusal d ≡ false
stop-counts d h = ap is_refusal (stop-is d h)

-- an ending gives the slot up
pub ending-gives_up : (d : Decision) → is_ending d ≡ true → gives_up (slot_move d) ≡ true
ending-gives_up d h = go (life d) refl h
  where
    go : (l : Life) → life d ≡ l → ends l ≡ true → gives_up (slot_move d) ≡ true
    go Ends x y = ap gives_up (ending-empties d x)
    go l x y = cc

-- a port that was granted is that of a grant
pub granted-is :
    (d : Decision) (p : ℕ) →
    is_number (granted_port d) p ≡ true →
    d ≡ decision.Granted p
granted-is (decision.Granted port) p h = ap decision.Granted (eqb-true port p h)
granted-is _ p h = cc

-- an entry that opens session s is decided as an opening
pub opened-is :
    (k : EventKind) (d : Decision) (s : ℕ) →
    is_number (opened_number k d) s ≡ true →
    d ≡ decision.Opened
opened-is k decision.Opened s h = refl
opened-is k _ s h = cc

-- a transfer that is queued is decided so
pub queued-as : (t : Ticket) (d : Decision) → queues t d ≡ true → d ≡ decision.Queued t
queued-as t (decision.Queued ticket) h = ap decision.Queued (same_ticket-equal ticket t h)
queued-as t d h = cc
