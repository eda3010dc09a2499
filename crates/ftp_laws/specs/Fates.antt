-- Which transfers there are, and what settles them.
use Rattle.std.specs.Prelude.{ℕ, ◌≡◌, ◌||◌, Bool, true, false, List, count_by, IsSomeAnd, if◌then◌else◌}
use Rattle.std.specs.List.{list_any}
use Rattle.ftp_options.specs.declared.options.Options.{Options}
use Rattle.ftp_transfer.specs.declared.job.Ticket.{Ticket}
use Rattle.ftp_events.specs.declared.action.Action.{Action}
use Rattle.ftp_events.specs.declared.decision.Decision.{Decision}
use Rattle.ftp_events.specs.declared.decision.Decision.TheVariants.{Cut}
use Rattle.ftp_events.specs.declared.decision.SlotMove.{SlotMove}
use Rattle.ftp_events.specs.declared.decision.SlotMove.TheVariants.{Empties, EmptiesWaiting, Awaits, Connects, Expires, Queues}
use Rattle.ftp_events.specs.declared.entry.Entry.{Entry}
use Rattle.ftp_events.specs.Words.{total}
use Rattle.ftp_events.specs.Classes.{slot_move}
use Rattle.ftp_events.specs.History.{concerns}
use Rattle.ftp_events.specs.Slot.{drops}
use Rattle.ftp_events.specs.Session.{session, running_job}
use Rattle.ftp_events.specs.Transfer.{same_ticket}
use Rattle.ftp_events.specs.Fate.{completes, cancels, is_pending, is_running}
use Rattle.ftp_laws.specs.Jobs.{is_cut}

-- a move queues the transfer
abbrev pub queues_it : Ticket → SlotMove → Bool
queues_it t (Queues ticket) = same_ticket ticket t
queues_it t _ = false

-- the transfer is queued
abbrev pub queues : Ticket → Decision → Bool
queues t d = queues_it t (slot_move d)

-- some entry queued it
abbrev pub was_queued : Ticket → List Entry → Bool
was_queued t log = list_any (λ e. queues t e.decision) log

-- how often it was queued
abbrev pub queue_count : Ticket → List Entry → ℕ
queue_count t log = total (λ e. if queues t e.decision then 1 else 0) log

-- the action completes or cancels the transfer
abbrev pub settles : Ticket → Action → Bool
settles t action = completes t action || cancels t action

-- how often the transfer was completed or cancelled
abbrev pub settle_count : Ticket → List Entry → ℕ
settle_count t log = total (λ e. count_by (settles t) e.actions) log

-- the moves that can cancel a transfer: another grant, the connection of a PORT, one that is turned away, a slot that stood too long, an ABOR, and the end of the session
abbrev pub may_cancel : SlotMove → Bool
may_cancel (Awaits port) = true
may_cancel Connects = true
may_cancel Expires = true
may_cancel EmptiesWaiting = true
may_cancel Empties = true
may_cancel _ = false

-- the decisions that can, and the one that cuts a transfer that runs
abbrev pub can_cancel : Decision → Bool
can_cancel d = may_cancel (slot_move d) || is_cut d

-- the entry takes from the transfer's live session the slot in which it waits
abbrev pub LosesSlot : Options → List Entry → Entry → Ticket → Type 0
LosesSlot o past e t =
    (concerns o past e t.session ≡ true)
    × IsSomeAnd (session o past t.session) (λ v. (drops e.decision v.slot ≡ true) × (is_pending t v.pending ≡ true))

-- the entry cuts the transfer, which runs
abbrev pub CutsIt : Options → List Entry → Entry → Ticket → Type 0
CutsIt o past e t =
    (e.decision ≡ Cut)
    × (concerns o past e t.session ≡ true)
    × (is_running t (running_job o past t.session) ≡ true)
