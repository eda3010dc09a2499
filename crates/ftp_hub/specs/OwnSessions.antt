-- Which sessions a client has.
use Rattle.std.specs.Prelude.{◌≡◌, ℕ, Bool, false, List, Some, nat_eq}
use Rattle.std.specs.HashSet as set
use Rattle.std.specs.Option.{option_map_or}
use Rattle.ftp_base.specs.declared.net.IpAddr.{IpAddr}
use Rattle.ftp_base.specs.Net.{same_ip}
use Rattle.ftp_events.specs.declared.entry.Entry.{Entry}
use Rattle.ftp_events.specs.Board.{is_client}
use Rattle.ftp_events.specs.Log.{past_of}
use Rattle.ftp_events.specs.Opening.{opening_by}
use Rattle.ftp_hub.specs.declared.own_sessions.OwnSessions.{OwnSessions}

-- the entry tells of a new control connection of client a
abbrev pub opens_for : Entry → IpAddr → Bool
opens_for e a = option_map_or (λ opening. same_ip opening.client a) (opening_by e.event.kind e.answer) false

-- the numbers are those of the sessions that the log opened for the client
abbrev pub Knows : OwnSessions → List Entry → Type 0
Knows own log = (n : ℕ) → set.contains nat_eq own.numbers n ≡ is_client (past_of log) (Some n) own.client
