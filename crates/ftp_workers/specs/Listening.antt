-- How long the port of a session waits for its connection.
use Rattle.std.specs.Prelude.{Bool, true, false}
use Rattle.ftp_events.specs.declared.decision.Decision.{Decision}
use Rattle.ftp_events.specs.declared.decision.SlotMove.{SlotMove}
use Rattle.ftp_events.specs.declared.decision.SlotMove.TheVariants.{Connects, Empties, Expires}
use Rattle.ftp_events.specs.declared.event.EventKind.{EventKind}
use Rattle.ftp_events.specs.declared.event.EventKind.TheVariants.{Abor, Closed, IdleTick, Pasv, Port, Quit, SlotTick}
use Rattle.ftp_events.specs.Classes.{slot_move}

-- behind the move the slot waits at no port
abbrev pub leaves_no_wait : SlotMove → Bool
leaves_no_wait Empties = true
leaves_no_wait Connects = true
leaves_no_wait Expires = true
leaves_no_wait _ = false

-- behind the decision the session that it is about waits at no port
abbrev pub ends_wait : Decision → Bool
ends_wait d = leaves_no_wait (slot_move d)

-- the event may end its session's wait
abbrev pub may_end_wait : EventKind → Bool
may_end_wait (Pasv session word lookup bound) = true
may_end_wait (Port session text number) = true
may_end_wait (Abor session) = true
may_end_wait (Quit session) = true
may_end_wait (Closed session) = true
may_end_wait (SlotTick session) = true
may_end_wait (IdleTick session) = true
may_end_wait _ = false
