-- The classes of decisions: what one makes of a session's life, and what of its slot. All that is said of lives and slots is said of these.
use Rattle.std.specs.Prelude.{Bool, true, false}
use Rattle.ftp_events.specs.declared.decision.Decision.{Decision}
use Rattle.ftp_events.specs.declared.decision.Decision.TheVariants.{Opened, Quit, Closed, TimedOut, Stopped, Granted, PortOk, SlotDropped, Aborted, Aborting, Attached, Queued, Finished, Cut, Turned}
use Rattle.ftp_events.specs.declared.decision.Life.{Life}
use Rattle.ftp_events.specs.declared.decision.Life.TheVariants.{Goes, Opens, Ends}
use Rattle.ftp_events.specs.declared.decision.SlotMove.{SlotMove}
use Rattle.ftp_events.specs.declared.decision.SlotMove.TheVariants.{Keeps, Empties, EmptiesWaiting, Awaits, Connects, Expires, Links, Queues, Finishes}

-- what a decision makes of the life of the session that it is about
abbrev pub life : Decision → Life
life Opened = Opens
life Quit = Ends
life Closed = Ends
life TimedOut = Ends
life Stopped = Ends
life _ = Goes

-- what a life that takes this turn does to the slot: an ending drops what is in it
abbrev pub move_of_life : Life → SlotMove
move_of_life Ends = Empties
move_of_life _ = Keeps

-- what a decision makes of that session's slot
abbrev pub slot_move : Decision → SlotMove
slot_move (Granted port) = Awaits port
slot_move PortOk = Connects
slot_move SlotDropped = Expires
slot_move Aborted = Empties
slot_move Aborting = Empties
slot_move (Attached session) = Links
slot_move (Queued ticket) = Queues ticket
slot_move Finished = Finishes
slot_move Cut = Finishes
slot_move Turned = EmptiesWaiting
slot_move d = move_of_life (life d)

-- a life that ends
abbrev pub ends : Life → Bool
ends Ends = true
ends _ = false

-- a decision that ends a session: the one that the event names, or every live one
abbrev pub is_ending : Decision → Bool
is_ending d = ends (life d)

-- a decision that ends every live session
abbrev pub is_stop : Decision → Bool
is_stop Stopped = true
is_stop _ = false

-- the moves that replace or drop the slot, whatever it has, and so end a hold
abbrev pub gives_up : SlotMove → Bool
gives_up Empties = true
gives_up (Awaits port) = true
gives_up Connects = true
gives_up _ = false

-- the moves that put a transfer into the slot
abbrev pub queues_one : SlotMove → Bool
queues_one (Queues ticket) = true
queues_one _ = false
