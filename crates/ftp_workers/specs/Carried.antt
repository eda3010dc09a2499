-- What an entry asks of its server.
--   is_closed actions n    an action closes the connection of this number
--   settled_by action        the job that waits no longer behind the action
--   to_stop e              the session whose job is to stop
--   not_taken e            the connection that came with the event and was not taken
use Rattle.std.specs.Prelude.{ℕ, Bool, true, false, ◌==◌, List, [], ◌∷◌, Option, Some, None, if◌then◌else◌}
use Rattle.std.specs.List.{list_any}
use Rattle.ftp_events.specs.declared.action.Action.{Action}
use Rattle.ftp_events.specs.declared.action.Action.TheVariants.{Cancelled, Close, Notify, Start}
use Rattle.ftp_events.specs.declared.decision.Decision.{Decision}
use Rattle.ftp_events.specs.declared.decision.Decision.TheVariants.{Aborting, Attached, Opened, PortOk}
use Rattle.ftp_events.specs.declared.entry.Entry.{Entry}
use Rattle.ftp_events.specs.Covers.{link_number}
use Rattle.ftp_events.specs.Log.{named_session}
use Rattle.ftp_transfer.specs.declared.job.Ticket.{Ticket}

-- the action closes a connection
abbrev pub is_close : Action → Bool
is_close (Close number) = true
is_close _ = false

-- the action closes the connection of this number
abbrev pub closes : ℕ → Action → Bool
closes n (Close number) = number == n
closes n _ = false

-- an action closes the connection of this number
abbrev pub is_closed : List Action → ℕ → Bool
is_closed actions n = list_any (closes n) actions

-- the action tells listeners something
abbrev pub is_notice : Action → Bool
is_notice (Notify session meta what) = true
is_notice _ = false

-- the job that waits no longer behind the action: it starts, or is given up
abbrev pub settled_by : Action → Option Ticket
settled_by (Start ticket number) = Some ticket
settled_by (Cancelled ticket) = Some ticket
settled_by _ = None

-- a job that runs is to stop
abbrev pub is_aborting : Decision → Bool
is_aborting Aborting = true
is_aborting _ = false

-- the session whose job is to stop
abbrev pub to_stop : Entry → Option ℕ
to_stop e = if is_aborting e.decision then named_session e.event.kind else None

-- a session takes the connection that comes with the event
abbrev pub takes : Decision → Bool
takes Opened = true
takes (Attached session) = true
takes PortOk = true
takes _ = false

-- the connection that came with the event and was not taken
abbrev pub not_taken : Entry → Option ℕ
not_taken e = if takes e.decision then None else link_number e.event.kind
