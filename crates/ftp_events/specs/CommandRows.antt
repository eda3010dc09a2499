-- What is decided on the commands of a session.
use Rattle.std.specs.Prelude.{ℕ, ◌+◌, ◌-◌, Bool, true, false, not, ◌&&◌, ◌||◌, nat_le, nat_lt, List, Option, Some, None}
use Rattle.std.specs.Option.{option_and_then, option_map_or}
use Rattle.ftp_base.specs.declared.error_kind.ErrorKind.{ErrorKind}
use Rattle.ftp_base.specs.declared.message.ControlChanMsg.{ControlChanMsg}
use Rattle.ftp_base.specs.declared.net.SocketAddr.{SocketAddr}
use Rattle.ftp_base.specs.Net.{same_ip}
use Rattle.ftp_base.specs.Ports.{first_free}
use Rattle.ftp_lockout.specs.declared.key.LoginKey.{LoginKey}
use Rattle.ftp_lockout.specs.declared.cache.Failures.{Failures}
use Rattle.ftp_options.specs.declared.options.Options.{Options}
use Rattle.ftp_options.specs.declared.host.PassiveHost.{PassiveHost}
use Rattle.ftp_options.specs.Features.{has_restart}
use Rattle.ftp_options.specs.Modes.{is_legacy, is_passive_off, is_active_off}
use Rattle.ftp_options.specs.Host.{lacks_lookup}
use Rattle.ftp_events.specs.declared.decision.Decision.{Decision}
use Rattle.ftp_events.specs.declared.decision.Decision.TheVariants.{UnknownNumber, UsedNumber, Misplaced, NotExpected, Turned, Attached, NotLoggedIn, ModeOff, Full, NoLookup, NoSocket, Granted, BadAddress, OtherAddress, NoConnection, PortOk, Aborted, Aborting, NothingToAbort, Told, SlotDropped, Early, Waited, TimedOut, NoSlot, Queued, NoRestart, RestOk, CwdRefused, CwdOk, Quit, Closed}
use Rattle.ftp_events.specs.declared.event.EventKind.{EventKind}
use Rattle.ftp_events.specs.declared.event.EventKind.TheVariants as kind
use Rattle.ftp_events.specs.declared.session.Login.{Login}
use Rattle.ftp_events.specs.declared.session.Login.TheVariants as login
use Rattle.ftp_events.specs.declared.session.Pending.{Pending}
use Rattle.ftp_events.specs.declared.session.Session.{Session}
use Rattle.ftp_events.specs.declared.session.Slot.{Slot}
use Rattle.ftp_events.specs.declared.session.Slot.TheVariants.{Empty, Waits, Linked}
use Rattle.ftp_events.specs.Words.{◌⇒◌∣◌}
use Rattle.ftp_events.specs.Modes.{in_range}
use Rattle.ftp_events.specs.Advertised.{lacks_address}
use Rattle.ftp_events.specs.Message.{is_for_control}
use Rattle.ftp_events.specs.Slot.{is_waiting}
use Rattle.ftp_events.specs.Text.{port_target}
use Rattle.ftp_events.specs.Lockout.{login_key}
use Rattle.ftp_events.specs.LoginRows.{user_row, pass_row, auth_row}

-- the login is done
abbrev pub is_logged_in : Login → Bool
is_logged_in login.LoggedIn = true
is_logged_in _ = false

-- the rows of a session that has to be logged in
abbrev pub if_logged_in : Session → Decision → Decision
if_logged_in v d = is_logged_in v.login ⇒ d ∣ NotLoggedIn

-- a port that was found is granted, where there is an address to show with it
abbrev pub grant_row : PassiveHost → Option ℕ → ℕ → Decision
grant_row host lookup port = lacks_lookup host lookup ⇒ NoLookup ∣ Granted port

-- the socket that was bound for a session alone: it has a port of the range, and an address that its client can be shown
abbrev pub bound_row : Options → Session → Option ℕ → Option ℕ → Decision
bound_row o v lookup None = NoSocket
bound_row o v lookup (Some port) =
    not (in_range o port) || lacks_address o.host v.opening.local.ip ⇒ NoSocket
    ∣ grant_row o.host lookup port

-- PASV: the first port, in the order that the word chooses, that has no holder, or the one that was bound
abbrev pub pasv_row : Options → (ℕ → Option ℕ) → ℕ → Option ℕ → Option ℕ → Session → Decision
pasv_row o holders word lookup bound v =
    is_passive_off o.active_passive ⇒ ModeOff
    ∣ is_legacy o.mode ⇒ bound_row o v lookup bound
    ∣ option_map_or (grant_row o.host lookup) (first_free holders o.lo o.hi word) Full

-- PORT, to the peer: by the number of the connection that was made
abbrev pub made_row : (ℕ → Bool) → Option ℕ → Decision
made_row used None = NoConnection
made_row used (Some number) = used number ⇒ UsedNumber ∣ PortOk

-- PORT, by the address that its text gives
abbrev pub address_row : (ℕ → Bool) → Option ℕ → Session → Option SocketAddr → Decision
address_row used number v None = BadAddress
address_row used number v (Some to) = same_ip to.ip v.opening.raw.ip ⇒ made_row used number ∣ OtherAddress

-- PORT: a connection to the peer
abbrev pub port_row : Options → (ℕ → Bool) → List ℕ → Option ℕ → Session → Decision
port_row o used text number v =
    is_active_off o.active_passive ⇒ ModeOff
    ∣ address_row used number v (port_target text)

-- a data connection to the port that was bound for a session alone
abbrev pub accepted_row : Options → (ℕ → Bool) → ℕ → ℕ → SocketAddr → Session → Decision
accepted_row o used s number raw v =
    not (is_legacy o.mode) ⇒ Misplaced
    ∣ used number ⇒ UsedNumber
    ∣ is_waiting v.slot && same_ip v.opening.raw.ip raw.ip ⇒ Attached s
    ∣ Turned

-- the slot can take a transfer
abbrev pub can_queue : Slot → Option Pending → Bool
can_queue Empty pending = false
can_queue slot (Some p) = false
can_queue slot None = true

-- a transfer waits in the slot, under the next number of the session
abbrev pub transfer_row : ℕ → Session → Decision
transfer_row s v = can_queue v.slot v.pending ⇒ Queued (record { session = s; nr = v.tickets + 1 }) ∣ NoSlot

-- REST
abbrev pub rest_row : Options → Decision
rest_row o = has_restart o.features ⇒ RestOk ∣ NoRestart

-- CWD: by what the storage said
abbrev pub cwd_row : Option ErrorKind → Decision
cwd_row None = CwdOk
cwd_row (Some refusal) = CwdRefused refusal

-- how long the slot may stand, in milliseconds: with a link and no transfer, or where it waits on a port of its own
abbrev pub slot_limit : Options → Slot → Option Pending → Option ℕ
slot_limit o (Linked number) None = Some 300000
slot_limit o (Waits port) pending = is_legacy o.mode ⇒ Some 15000 ∣ None
slot_limit o _ pending = None

-- a look at the age of the slot; it is 0 where moments fall
abbrev pub slot_row : Options → ℕ → Session → Decision
slot_row o at v = option_map_or (λ limit. nat_le limit (at - v.slot_at)) (slot_limit o v.slot v.pending) false ⇒ SlotDropped ∣ Early

-- the slot has nothing
abbrev pub is_empty : Slot → Bool
is_empty Empty = true
is_empty _ = false

-- the slot has a link
abbrev pub is_linked : Slot → Bool
is_linked (Linked number) = true
is_linked _ = false

-- ABOR: a job that runs is to stop, or there is something to drop
abbrev pub abor_row : Bool → Session → Decision
abor_row can_stop v =
    can_stop ⇒ Aborting
    ∣ is_empty v.slot ⇒ NothingToAbort
    ∣ Aborted

-- a message for the client: only the control layer's own are told
abbrev pub internal_row : ControlChanMsg → Decision
internal_row message = is_for_control message ⇒ Told ∣ NotExpected

-- a look at the idle time: a session is at work where a job runs or its slot has a link; the time is 0 where moments fall
abbrev pub idle_row : Options → Bool → ℕ → Session → Decision
idle_row o runs at v =
    nat_lt (at - v.active_at) o.idle_ms ⇒ Early
    ∣ runs || is_linked v.slot ⇒ Waited
    ∣ TimedOut

-- what a command is decided by beside its session: the holders of the client's ports, the failures of each key, the numbers that were used, whether a job of the session runs, whether it is not to stop yet, and the moment
pub record Around : Type 0 where
  pub holders : ℕ → Option ℕ
  pub failures : LoginKey → Option Failures
  pub used : ℕ → Bool
  pub runs : Bool
  pub can_stop : Bool
  pub at : ℕ

-- the failures of the key of a session's login
abbrev pub own_failures : Options → (LoginKey → Option Failures) → Session → Option Failures
own_failures o failures v = option_and_then (λ p. failures (login_key p v)) o.lockout

-- what is decided on a command of a live session
abbrev pub command_row : Options → Around → EventKind → Session → Decision
command_row o a (kind.Accepted s number raw) v = accepted_row o a.used s number raw v
command_row o a (kind.User s name) v = user_row v.login
command_row o a (kind.Pass s) v = pass_row v.login
command_row o a (kind.AuthDone s said) v = auth_row o.lockout a.at (own_failures o a.failures v) said v.login
command_row o a (kind.Pasv s word lookup bound) v = if_logged_in v (pasv_row o a.holders word lookup bound v)
command_row o a (kind.Port s text number) v = if_logged_in v (port_row o a.used text number v)
command_row o a (kind.Transfer s c) v = if_logged_in v (transfer_row s v)
command_row o a (kind.Stou s word) v = if_logged_in v (transfer_row s v)
command_row o a (kind.Rest s offset) v = if_logged_in v (rest_row o)
command_row o a (kind.Cwd s path refusal) v = if_logged_in v (cwd_row refusal)
command_row o a (kind.Quit s) v = Quit
command_row o a (kind.Closed s) v = Closed
command_row o a (kind.Abor s) v = if_logged_in v (abor_row a.can_stop v)
command_row o a (kind.Internal s message) v = internal_row message
command_row o a (kind.SlotTick s) v = slot_row o a.at v
command_row o a (kind.IdleTick s) v = idle_row o a.runs a.at v
command_row o a _ v = UnknownNumber
