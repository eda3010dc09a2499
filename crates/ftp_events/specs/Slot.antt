-- A session's slot, the transfer that waits in it, and the job that runs, read from the session's history.
use Rattle.std.specs.Prelude.{ℕ, ◌+◌, Bool, true, false, List, [], ◌∷◌, Option, Some, None, if◌then◌else◌}
use Rattle.std.specs.Option.{option_map, option_map_or}
use Rattle.ftp_base.specs.declared.command.DataChanCmd.{DataChanCmd}
use Rattle.ftp_base.specs.declared.command.DataChanCmd.TheVariants.{Stor}
use Rattle.ftp_events.specs.declared.session.Running.{Running}
use Rattle.ftp_events.specs.declared.entry.Entry.{Entry}
use Rattle.ftp_events.specs.declared.event.EventKind.{EventKind}
use Rattle.ftp_events.specs.declared.event.EventKind.TheVariants.{Transfer, Stou}
use Rattle.ftp_events.specs.declared.event.Answer.{Answer}
use Rattle.ftp_events.specs.declared.event.Answer.TheVariants as answer
use Rattle.ftp_events.specs.declared.decision.Decision.{Decision}
use Rattle.ftp_events.specs.declared.decision.Decision.TheVariants.{Queued, Aborting, Moved}
use Rattle.ftp_events.specs.declared.decision.SlotMove.{SlotMove}
use Rattle.ftp_events.specs.declared.decision.SlotMove.TheVariants.{Empties, EmptiesWaiting, Awaits, Connects, Expires, Links, Queues, Finishes}
use Rattle.ftp_events.specs.declared.session.Pending.{Pending}
use Rattle.ftp_events.specs.declared.session.Slot.{Slot}
use Rattle.ftp_events.specs.declared.session.Slot.TheVariants.{Empty, Waits, Linked}
use Rattle.ftp_events.specs.Classes.{slot_move}
use Rattle.ftp_events.specs.Log.{new_number}
use Rattle.ftp_events.specs.Login.{login_state, user_name, logged_user}
use Rattle.ftp_events.specs.Place.{cwd, offset}
use Rattle.ftp_events.specs.Text.{unique_name}
use Rattle.ftp_events.specs.Transfer.{pending_of, run_of}

-- the command that an event asks for: STOU stores under a unique name
abbrev pub asked_command : EventKind → Option DataChanCmd
asked_command (Transfer session c) = Some c
asked_command (Stou session word) = Some (Stor (unique_name word))
asked_command _ = None

-- the transfer that an entry queues
abbrev pub queued_by : Decision → EventKind → List ℕ → List ℕ → ℕ → Option Pending
queued_by (Queued ticket) k user dir n = option_map (pending_of ticket user dir n) (asked_command k)
queued_by _ k user dir n = None

-- a link comes for a slot that waits
abbrev pub with_link : Slot → Option ℕ → Slot
with_link (Waits port) (Some number) = Linked number
with_link slot _ = slot

-- the slot waits for a connection
abbrev pub is_waiting : Slot → Bool
is_waiting (Waits port) = true
is_waiting slot = false

-- the port that the slot waits for
abbrev pub waiting_port : Slot → Option ℕ
waiting_port (Waits port) = Some port
waiting_port slot = None

-- the moves that drop what the slot has
abbrev pub empties : SlotMove → Slot → Bool
empties Empties slot = true
empties (Awaits port) slot = true
empties Connects slot = true
empties Expires slot = true
empties EmptiesWaiting slot = is_waiting slot
empties _ slot = false

-- the decisions that do
abbrev pub drops : Decision → Slot → Bool
drops d slot = empties (slot_move d) slot

-- a slot, the transfer that waits in it, and the job that runs
pub record Lane : Type 0 where
  pub slot : Slot
  pub pending : Option Pending
  pub running : Option Running

-- the job that can start: the slot has a link and a transfer, and no job runs
abbrev pub startable : Slot → Option Pending → Option Running → Option Running
startable (Linked number) (Some p) None = Some (run_of p number)
startable _ _ _ = None

-- where a job can start, it starts, and the slot is empty
abbrev pub lane_of : Slot → Option Pending → Option Running → Lane
lane_of (Linked number) (Some p) None = record { slot = Empty; pending = None; running = Some (run_of p number) }
lane_of slot pending running = record { slot = slot; pending = pending; running = running }

-- what a move makes of the slot and the job, with the connection that comes and the transfer that is queued
abbrev pub moved : SlotMove → Option ℕ → Option Pending → Lane → Lane
moved (Awaits port) number queued l = record { slot = Waits port; pending = None; running = l.running }
moved Connects number queued l = record { slot = option_map_or Linked number Empty; pending = None; running = l.running }
moved Links number queued l = lane_of (with_link l.slot number) l.pending l.running
moved (Queues ticket) number queued l = lane_of l.slot queued l.running
moved Finishes number queued l = lane_of l.slot l.pending None
moved m number queued l =
    record { slot = if empties m l.slot then Empty else l.slot; pending = if empties m l.slot then None else l.pending; running = l.running }

-- what an entry makes of them
abbrev pub lane_after : EventKind → Decision → Option Pending → Lane → Lane
lane_after k d queued l = moved (slot_move d) (new_number k d) queued l

-- a job that is to stop
abbrev pub mark : Running → Running
mark r = record { job = r.job; marked = true }

-- a job of which so many bytes moved more
abbrev pub raise : ℕ → Running → Running
raise bytes r = record { job = record r.job { done = r.job.done + bytes }; marked = r.marked }

-- what becomes of the job that runs, beside its end: an ABOR marks it, and its pieces are counted
abbrev pub kept_running : Decision → Answer → Option Running → Option Running
kept_running Aborting given job = option_map mark job
kept_running Moved (answer.Moved bytes) job = option_map (raise bytes) job
kept_running d given job = job

-- the job that starts with a move
abbrev pub starts_by : SlotMove → Option ℕ → Option Pending → Lane → Option Running
starts_by Links number queued l = startable (with_link l.slot number) l.pending l.running
starts_by (Queues ticket) number queued l = startable l.slot queued l.running
starts_by Finishes number queued l = startable l.slot l.pending None
starts_by _ number queued l = None

-- the job that starts with an entry
abbrev pub started_by : EventKind → Decision → Option Pending → Lane → Option Running
started_by k d queued l = starts_by (slot_move d) (new_number k d) queued l

-- the transfer that an entry queues, after a history
abbrev pub queued_in : List Entry → Entry → Option Pending
queued_in h e = queued_by e.decision e.event.kind (logged_user (login_state h) (user_name h)) (cwd h) (offset h)

-- the slot and the job after a history
abbrev pub lane : List Entry → Lane
lane [] = record { slot = Empty; pending = None; running = None }
lane (e ∷ h) =
    let after = lane_after e.event.kind e.decision (queued_in h e) (lane h) in
    record { slot = after.slot; pending = after.pending; running = kept_running e.decision e.answer after.running }
