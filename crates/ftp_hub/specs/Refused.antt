-- What a hub refuses of a state that it is to be made from.
use Rattle.std.specs.Prelude.{◌≡◌, ◌≢◌, ◌⊎◌, ℕ, ◌≤◌, ◌==◌, Bool, true, false, not, ◌&&◌, ◌||◌, nat_le, List, Option, Some, None, is_some}
use Rattle.std.specs.List.{list_any}
use Rattle.std.specs.Option.{option_and_then, option_map_or}
use Rattle.ftp_base.specs.declared.net.IpAddr.{IpAddr}
use Rattle.ftp_base.specs.declared.net.IpAddr.TheVariants.{V4, V6}
use Rattle.ftp_base.specs.Net.{is_v6, same_ip}
use Rattle.ftp_options.specs.declared.options.Options.{Options}
use Rattle.ftp_options.specs.Modes.{is_legacy, is_proxy}
use Rattle.ftp_switchboard.specs.Used.{has, is_used as is_in_lines}
use Rattle.ftp_switchboard.specs.Board.{Board, holder_at}
use Rattle.ftp_events.specs.declared.entry.Entry.{Entry}
use Rattle.ftp_events.specs.declared.session.Login.{Login}
use Rattle.ftp_events.specs.declared.session.Login.TheVariants as login
use Rattle.ftp_events.specs.declared.session.Running.{Running}
use Rattle.ftp_events.specs.declared.session.Session.{Session}
use Rattle.ftp_events.specs.declared.session.Slot.{Slot}
use Rattle.ftp_events.specs.declared.session.Slot.TheVariants.{Waits}
use Rattle.ftp_events.specs.Acts.{link_in}
use Rattle.ftp_events.specs.CommandRows.{is_empty, is_logged_in}
use Rattle.ftp_events.specs.Modes.{in_range}
use Rattle.ftp_events.specs.Slot.{startable, waiting_port}
use Rattle.ftp_events.specs.Right.{IsActed, IsRight}
use Rattle.ftp_hub.specs.declared.hub.Hub.{Hub}
use Rattle.ftp_hub.specs.declared.state.HubState.{HubState}
use Rattle.ftp_hub.specs.declared.state.RecordLine.{RecordLine}
use Rattle.ftp_hub.specs.declared.state.StateError.{StateError}
use Rattle.ftp_hub.specs.declared.state.StateError.TheVariants.{BadLine, Number, Port, Ticket, Mode, Login as Early, OutOfMemory}
use Rattle.ftp_hub.specs.State.{AreMadeBy, IsState, WaitsFor, running_in, session_in}

-- the number of the session was used, and that of the link in its slot
abbrev pub has_numbers : (ℕ → Bool) → ℕ → Session → Bool
has_numbers used s v = used s && option_map_or used (link_in v.slot) true

-- the port that its slot waits for is one of the range
abbrev pub has_port : Options → Session → Bool
has_port o v = option_map_or (in_range o) (waiting_port v.slot) true

-- it has no more transfers and notices than there were events, its transfer is one of these, and does not wait where it could
-- start
abbrev pub has_tickets : ℕ → Option Running → Session → Bool
has_tickets events job v =
    (nat_le v.tickets events && nat_le v.notices events)
    && (option_map_or (λ p. nat_le p.ticket.nr v.tickets) v.pending true && not (is_some (startable v.slot v.pending job)))

-- no stop came, and its addresses are those of the mode: of version 4 where the sessions share the ports, and those of the
-- client and of the peer are one where no proxy is
abbrev pub has_place : Options → Bool → Session → Bool
has_place o stopped v =
    not stopped
    && ((is_legacy o.mode || not (is_v6 v.opening.raw.ip || (is_v6 v.opening.local.ip || is_v6 v.opening.client)))
    && (is_proxy o.mode || same_ip v.opening.client v.opening.raw.ip))

-- a login that has not begun
abbrev pub is_at_start : Login → Bool
is_at_start login.New = true
is_at_start _ = false

-- it has a slot and a transfer only where it is logged in, and a name where its login has begun
abbrev pub has_login : Session → Bool
has_login v = (is_logged_in v.login || (is_empty v.slot && not (is_some v.pending))) && (is_some v.name || is_at_start v.login)

-- what is known beside the sessions and the jobs: the options, the numbers that were used, the count of events, and the stop
pub record Known : Type 0 where
  pub options : Options
  pub used : ℕ → Bool
  pub events : ℕ
  pub stopped : Bool

-- a session, with its job, gives cause to the refusal
abbrev pub session_lacks : Known → StateError → Option Running → ℕ → Session → Bool
session_lacks k Number job s v = not (has_numbers k.used s v)
session_lacks k Port job s v = not (has_port k.options v)
session_lacks k Ticket job s v = not (has_tickets k.events job v)
session_lacks k Mode job s v = not (has_place k.options k.stopped v)
session_lacks k Early job s v = not (has_login v)
session_lacks k _ job s v = false

-- the ticket of a job is one of its session, where that is live
abbrev pub ticket_fits : Option Session → Running → Bool
ticket_fits session r = option_map_or (λ v. nat_le r.job.ticket.nr v.tickets) session true

-- a job, with its session where that is live, gives cause to the refusal
abbrev pub job_lacks : Known → StateError → Option Session → Running → Bool
job_lacks k Number session r = not (k.used r.job.ticket.session && k.used r.job.number)
job_lacks k Ticket session r = not (ticket_fits session r)
job_lacks k _ session r = false

-- session s, where it is live, gives cause to the refusal
abbrev pub session_lacks_at : Known → (ℕ → Option Session) → (ℕ → Option Running) → StateError → ℕ → Bool
session_lacks_at k live jobs e s = option_map_or (session_lacks k e (jobs s) s) (live s) false

-- the job of session s, where one runs, does
abbrev pub job_lacks_at : Known → (ℕ → Option Session) → (ℕ → Option Running) → StateError → ℕ → Bool
job_lacks_at k live jobs e s = option_map_or (job_lacks k e (live s)) (jobs s) false

-- the record is of an address of version 6
abbrev pub is_of_v6 : RecordLine → Bool
is_of_v6 line = option_map_or is_v6 line.ip false

-- two sessions of one client wait for one port
abbrev pub WaitTwice : (ℕ → Option Session) → Type 0
WaitTwice live = (client : IpAddr) × (p : ℕ) × (s : ℕ) × (t : ℕ) × (s ≢ t) × WaitsFor (live s) client p × WaitsFor (live t) client p

-- a session or a job gives cause to the refusal
abbrev pub OneLacks : Known → (ℕ → Option Session) → (ℕ → Option Running) → StateError → Type 0
OneLacks k live jobs e = ((s : ℕ) × (session_lacks_at k live jobs e s ≡ true)) ⊎ ((s : ℕ) × (job_lacks_at k live jobs e s ≡ true))

-- one of them does, or, where the sessions share the ports, a record of an address of version 6 or two sessions that wait for
-- one port
abbrev pub GivesCause : Known → (ℕ → Option Session) → (ℕ → Option Running) → Bool → StateError → Type 0
GivesCause k live jobs brings_v6 e =
    OneLacks k live jobs e
    ⊎ (((e ≡ Mode) × (is_legacy k.options.mode ≡ false) × (brings_v6 ≡ true))
    ⊎ ((e ≡ Port) × (is_legacy k.options.mode ≡ false) × WaitTwice live))

-- what is known by a state, and by a hub
abbrev pub known_of : Options → HubState → Known
known_of o x = record { options = o; used = is_in_lines x.used; events = x.events; stopped = x.stopped }

abbrev pub known_by : Hub → Known
known_by hub = record { options = hub.options; used = has hub.numbers; events = hub.count; stopped = hub.stopped }

-- the state gives cause to the refusal
abbrev pub HasCause : Options → HubState → StateError → Type 0
HasCause o x e = GivesCause (known_of o x) (session_in x) (running_in x) (list_any is_of_v6 x.records) e

-- where a refusal stands among the others
abbrev pub refusal_place : StateError → ℕ
refusal_place (BadLine k) = 1
refusal_place Number = 2
refusal_place Port = 3
refusal_place Ticket = 4
refusal_place Mode = 5
refusal_place Early = 6
refusal_place OutOfMemory = 7

-- it has a cause, and no refusal before it has one
pub record IsFirst (has_cause : StateError → Type 0) (e : StateError) : Type 0 where
  pub cause : has_cause e
  pub first : (f : StateError) → has_cause f → refusal_place e ≤ refusal_place f

-- the first refusal to which the state gives cause
abbrev pub IsFirstRefusal : Options → HubState → StateError → Type 0
IsFirstRefusal o x e = IsFirst (HasCause o x) e

-- the session's client waits for a port for which another holds it
abbrev pub FindsHolder : Board → Session → Type 0
FindsHolder board v = (a : ℕ) × (p : ℕ) × (s : ℕ) × (v.opening.client ≡ V4 a) × (v.slot ≡ Waits p) × (holder_at board a p ≡ Some s)

-- an address of version 6 and the port that a slot waits for
abbrev pub wait_of_v6 : IpAddr → Slot → Option (ℕ × ℕ)
wait_of_v6 (V6 n) (Waits p) = Some (n, p)
wait_of_v6 ip slot = None

-- the port that a client of version 6 waits for, with its address
abbrev pub v6_wait : Session → Option (ℕ × ℕ)
v6_wait v = wait_of_v6 v.opening.client v.slot

-- another session than s waits so
abbrev pub waits_so : (ℕ → Option Session) → ℕ → ℕ × ℕ → ℕ → Bool
waits_so live s wait t = not (t == s) && option_map_or (λ other. (other.0 == wait.0) && (other.1 == wait.1)) (option_and_then v6_wait (live t)) false

-- among these, there is another that waits as session s does
abbrev pub has_v6_rival : (ℕ → Option Session) → List ℕ → ℕ → Bool
has_v6_rival live numbers s = option_map_or (λ wait. list_any (waits_so live s wait) numbers) (option_and_then v6_wait (live s)) false

-- the state of a right and acted log gives cause to none, where its records are of keys of the policy
abbrev pub LogsPass : Type 0
LogsPass =
    (o : Options) (log : List Entry) (x : HubState) (e : StateError) → IsRight o log → IsActed o log → IsState o log x →
    AreMadeBy o.lockout x.records → HasCause o x e → ⊥
