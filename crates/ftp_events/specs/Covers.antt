-- The connection that comes with an event.
use Rattle.std.specs.Prelude.{ℕ, Bool, true, Option, Some, None}
use Rattle.std.specs.Option.{option_map_or}
use Rattle.ftp_events.specs.declared.event.EventKind.{EventKind}
use Rattle.ftp_events.specs.declared.event.EventKind.TheVariants.{Proxied, DataIn, Accepted, Port}

-- the number of the connection that comes with an event
abbrev pub link_number : EventKind → Option ℕ
link_number (Proxied number raw trace) = Some number
link_number (DataIn number raw port) = Some number
link_number (Accepted session number raw) = Some number
link_number (Port session text number) = number
link_number _ = None

-- where a connection comes with the event, its number is among those that are linked
abbrev pub is_covered : (ℕ → Bool) → EventKind → Bool
is_covered linked kind = option_map_or linked (link_number kind) true
