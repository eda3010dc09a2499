-- How long a slot has stood, and how long a session has been idle, read from the session's history.
use Rattle.std.specs.Prelude.{ℕ, Bool, true, false, not, ◌&&◌, ◌||◌, List, [], ◌∷◌, Option, is_some}
use Rattle.std.specs.Bool.{then_some}
use Rattle.std.specs.Option.{option_map_or}
use Rattle.ftp_events.specs.declared.entry.Entry.{Entry}
use Rattle.ftp_events.specs.declared.event.EventKind.{EventKind}
use Rattle.ftp_events.specs.declared.event.EventKind.TheVariants.{User, Pass, AuthDone, Pasv, Port, Transfer, Stou, Rest, Cwd, Abor, Internal, End, Piece}
use Rattle.ftp_events.specs.declared.decision.Decision.{Decision}
use Rattle.ftp_events.specs.declared.decision.Decision.TheVariants.{Opened, Waited}
use Rattle.ftp_events.specs.declared.decision.SlotMove.{SlotMove}
use Rattle.ftp_events.specs.declared.decision.SlotMove.TheVariants.{Awaits, Connects, Links}
use Rattle.ftp_events.specs.declared.session.Pending.{Pending}
use Rattle.ftp_events.specs.declared.session.Running.{Running}
use Rattle.ftp_events.specs.declared.session.Slot.{Slot}
use Rattle.ftp_events.specs.Words.{◌⇒◌∣◌, latest}
use Rattle.ftp_events.specs.Classes.{slot_move}
use Rattle.ftp_events.specs.Log.{is_refusal, new_number}
use Rattle.ftp_events.specs.Slot.{Lane, empties, is_waiting, lane, queued_in, starts_by}

-- the moment after a move from which the age of the slot counts, with the connection that comes: one that is dropped has none
abbrev pub moved_at : SlotMove → ℕ → Option ℕ → Slot → ℕ → ℕ
moved_at (Awaits port) at number slot before = at
moved_at Connects at number slot before = option_map_or (λ n. at) number 0
moved_at Links at number slot before = is_waiting slot ⇒ at ∣ before
moved_at m at number slot before = empties m slot ⇒ 0 ∣ before

-- a job that starts leaves the slot empty
abbrev pub left_at : Option Running → ℕ → ℕ
left_at job at = is_some job ⇒ 0 ∣ at

-- what a move at a moment makes of it, with the connection that comes and the transfer that is queued
abbrev pub slot_at_after : SlotMove → ℕ → Option ℕ → Option Pending → Lane → ℕ → ℕ
slot_at_after m at number queued l before = left_at (starts_by m number queued l) (moved_at m at number l.slot before)

-- the moment from which the age of the slot counts, and 0 where the slot is empty
abbrev pub slot_at : List Entry → ℕ
slot_at [] = 0
slot_at (e ∷ h) = slot_at_after (slot_move e.decision) e.event.at (new_number e.event.kind e.decision) (queued_in h e) (lane h) (slot_at h)

-- a command of the client, a message of its control layer, a piece and the end of a transfer show a session at work
abbrev pub is_activity : EventKind → Bool
is_activity (User session name) = true
is_activity (Pass session) = true
is_activity (AuthDone session answer) = true
is_activity (Pasv session word lookup bound) = true
is_activity (Port session text number) = true
is_activity (Transfer session command) = true
is_activity (Stou session word) = true
is_activity (Rest session offset) = true
is_activity (Cwd session path refusal) = true
is_activity (Abor session) = true
is_activity (Internal session message) = true
is_activity (End ticket) = true
is_activity (Piece ticket) = true
is_activity _ = false

-- an opening begins the idle time, and a look at a session at work begins it again
abbrev pub begins_idle : Decision → Bool
begins_idle Opened = true
begins_idle Waited = true
begins_idle _ = false

-- the moment that an entry gives to the idle time; a refusal is no activity
abbrev pub active_at_by : EventKind → Decision → ℕ → Option ℕ
active_at_by k d at = then_some (is_activity k && not (is_refusal d) || begins_idle d) at

-- the moment from which the idle time counts
abbrev pub active_at : List Entry → ℕ
active_at h = latest 0 (λ e. active_at_by e.event.kind e.decision e.event.at) h
