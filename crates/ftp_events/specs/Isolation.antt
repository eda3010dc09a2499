-- The part of a log that belongs to one client.
use Rattle.std.specs.Prelude.{◌++◌, option_to_list, Contains, Bool, true, false, not, ◌||◌, List, [], ◌∷◌, Option, Some, None, Ok, ℕ, if◌then◌else◌}
use Rattle.std.specs.Option.{option_and_then, option_map, option_map_or}
use Rattle.ftp_base.specs.declared.net.IpAddr.{IpAddr}
use Rattle.ftp_base.specs.Net.{same_ip}
use Rattle.ftp_options.specs.declared.lockout.FailedLoginsBlock.{FailedLoginsBlock}
use Rattle.ftp_options.specs.declared.lockout.FailedLoginsBlock.TheVariants.{User}
use Rattle.ftp_options.specs.declared.lockout.FailedLoginsPolicy.{FailedLoginsPolicy}
use Rattle.ftp_events.specs.declared.entry.Entry.{Entry}
use Rattle.ftp_events.specs.declared.event.EventKind.{EventKind}
use Rattle.ftp_events.specs.declared.event.EventKind.TheVariants.{Connect, Proxied, DataIn, Sweep, Scavenge, Shutdown}
use Rattle.ftp_events.specs.declared.event.Answer.{Answer}
use Rattle.ftp_events.specs.declared.event.Answer.TheVariants.{Header}
use Rattle.ftp_events.specs.declared.decision.Decision.TheVariants.{PortOk}
use Rattle.ftp_events.specs.Log.{past_of, is_refusal, new_number, named_session}
use Rattle.ftp_events.specs.Opening.{opener}

-- the client whose entry it is: that of the session that it names, or that of the connection
abbrev pub owner : List Entry → EventKind → Answer → Option IpAddr
owner past (Connect session raw local trace) answer = Some raw.ip
owner past (DataIn number raw port) answer = Some raw.ip
owner past (Proxied number raw trace) (Header (Ok line)) = Some line.source.ip
owner past k answer = option_map (λ opening. opening.client) (option_and_then (opener past) (named_session k))

-- the entry belongs to client a
abbrev pub is_own : List Entry → Entry → IpAddr → Bool
is_own log e a = option_map_or (λ client. same_ip client a) (owner (past_of log) e.event.kind e.answer) false

-- the events that concern every client
abbrev pub is_common : EventKind → Bool
is_common Sweep = true
is_common Scavenge = true
is_common Shutdown = true
is_common _ = false

-- the entries that belong to client a, with those that concern every client
abbrev pub client_log : List Entry → IpAddr → List Entry
client_log [] a = []
client_log (e ∷ log) a = if is_common e.event.kind || is_own log e a then e ∷ client_log log a else client_log log a

-- the numbers that an event carries: as a name, or as new, where it is a PORT whatever is decided of it
abbrev pub numbers_in : EventKind → List ℕ
numbers_in k = option_to_list (named_session k) ++ option_to_list (new_number k PortOk)

-- the numbers that the entries of client a carry
abbrev pub own_numbers : List Entry → IpAddr → List ℕ
own_numbers [] a = []
own_numbers (e ∷ log) a = if is_own log e a then numbers_in e.event.kind ++ own_numbers log a else own_numbers log a

-- the numbers that entries of others brought in as new
abbrev pub foreign_numbers : List Entry → IpAddr → List ℕ
foreign_numbers [] a = []
foreign_numbers (e ∷ log) a =
    if is_own log e a || is_refusal e.decision then foreign_numbers log a
    else option_to_list (new_number e.event.kind e.decision) ++ foreign_numbers log a

-- nobody else brings in a number of client a
abbrev pub IsApart : List Entry → IpAddr → Type 0
IsApart log a = (n : ℕ) → Contains (own_numbers log a) n → ¬ Contains (foreign_numbers log a) n

-- failures are counted by name alone, whatever the address
abbrev pub is_by_name : FailedLoginsBlock → Bool
is_by_name User = true
is_by_name _ = false

-- failed logins of one address lock no other
abbrev pub locks_by_address : Option FailedLoginsPolicy → Bool
locks_by_address None = true
locks_by_address (Some p) = not (is_by_name p.block_by)
