-- What a handler decides on a live session, and what it makes of the board.
use Rattle.std.proofs.Common.{BuildHasherDefault, FoldHasher}
use Rattle.std.specs.Prelude.{◌≡◌, ℕ, ◌+◌, ◌-◌, ◌^◌, ◌<◌, ◌==◌, nat_eq, is_some, length, min, Bool, true, false, List, [], codes, ◌||◌, ◌&&◌, Option, Some, None, unwrap_or, if◌then◌else◌}
use Rattle.std.specs.Option.{IfSome, option_or, option_map, option_map_or, option_and_then}
use Rattle.std.specs.HashMap as map
use Rattle.ftp_base.specs.declared.error_kind.ErrorKind.{ErrorKind}
use Rattle.ftp_base.specs.declared.message.ControlChanMsg.{ControlChanMsg}
use Rattle.ftp_base.specs.declared.message.ControlChanMsg.TheVariants.{ExitControlLoop}
use Rattle.ftp_base.specs.Net.{ipv4}
use Rattle.ftp_base.specs.Storage.{root}
use Rattle.ftp_options.specs.declared.options.Options.{Options}
use Rattle.ftp_options.specs.declared.host.PassiveHost.{PassiveHost}
use Rattle.ftp_options.specs.declared.host.PassiveHost.TheVariants.{Dns}
use Rattle.ftp_options.specs.Host.{lacks_lookup}
use Rattle.ftp_options.specs.declared.lockout.FailedLoginsPolicy.{FailedLoginsPolicy}
use Rattle.ftp_lockout.specs.declared.key.LoginKey.{LoginKey}
use Rattle.ftp_lockout.specs.declared.cache.Failures.{Failures}
use Rattle.ftp_lockout.specs.Keys.{same_key}
use Rattle.ftp_lockout.specs.Failures.{Table, failures_of}
use Rattle.ftp_events.specs.declared.session.Running.{Running}
use Rattle.ftp_transfer.specs.declared.job.Ticket.{Ticket}
use Rattle.ftp_transfer.specs.Path.{join_path}
use Rattle.ftp_switchboard.specs.Board.{Board, HasRoom, holder_for, is_key, still_holder}
use Rattle.ftp_events.specs.declared.event.EventKind.{EventKind}
use Rattle.ftp_events.specs.declared.event.EventKind.TheVariants as kind
use Rattle.ftp_events.specs.declared.event.Answer.{Answer}
use Rattle.ftp_events.specs.declared.event.Answer.TheVariants.{Done}
use Rattle.ftp_events.specs.declared.decision.Decision.{Decision}
use Rattle.ftp_events.specs.declared.decision.Decision.TheVariants.{Queued, Finished, LoggedIn, LoginFailed}
use Rattle.ftp_events.specs.declared.decision.Decision.TheVariants as decision
use Rattle.ftp_events.specs.declared.session.Login.{Login}
use Rattle.ftp_events.specs.declared.session.Login.TheVariants as login
use Rattle.ftp_events.specs.declared.session.Pending.{Pending}
use Rattle.ftp_events.specs.declared.session.Session.{Session}
use Rattle.ftp_events.specs.declared.decision.Life.{Life}
use Rattle.ftp_events.specs.declared.decision.Life.TheVariants.{Goes, Ends}
use Rattle.ftp_events.specs.declared.decision.SlotMove.{SlotMove}
use Rattle.ftp_events.specs.declared.decision.SlotMove.TheVariants.{Keeps, Empties, EmptiesWaiting, Awaits, Connects, Expires}
use Rattle.ftp_events.specs.Classes.{life, slot_move}
use Rattle.ftp_events.specs.Log.{job_ticket, named_session}
use Rattle.ftp_events.specs.Login.{logged_user}
use Rattle.ftp_events.specs.Message.{is_for_control, notice_of, reply_of}
use Rattle.ftp_events.specs.Place.{offset_by, is_queued}
use Rattle.ftp_events.specs.Session.{queued_for}
use Rattle.ftp_events.specs.Slot.{Lane}
use Rattle.ftp_events.specs.Text.{unique_name}
use Rattle.ftp_events.specs.Transfer.{moves_file}
use Rattle.ftp_events.specs.CommandRows.{Around}
use Rattle.ftp_events.specs.Lockout.{failures_by, login_key}
use Rattle.ftp_events.specs.Words.{◌⇒◌∣◌}
use Rattle.ftp_handlers.specs.declared.auth_done.Refusal.{Refusal}
use Rattle.ftp_handlers.specs.declared.telling.Told.{Told}
use Rattle.ftp_handlers.specs.Rooms.{most_actions}

-- the kinds of the handlers
abbrev pub is_user : EventKind → Bool
is_user (kind.User s name) = true
is_user _ = false

abbrev pub is_pass : EventKind → Bool
is_pass (kind.Pass s) = true
is_pass _ = false

abbrev pub is_auth : EventKind → Bool
is_auth (kind.AuthDone s said) = true
is_auth _ = false

abbrev pub is_pasv : EventKind → Bool
is_pasv (kind.Pasv s word lookup bound) = true
is_pasv _ = false

abbrev pub is_closed : EventKind → Bool
is_closed (kind.Closed s) = true
is_closed _ = false

abbrev pub is_quit : EventKind → Bool
is_quit (kind.Quit s) = true
is_quit _ = false

abbrev pub is_port : EventKind → Bool
is_port (kind.Port s text number) = true
is_port _ = false

abbrev pub is_slot_tick : EventKind → Bool
is_slot_tick (kind.SlotTick s) = true
is_slot_tick _ = false

abbrev pub is_idle_tick : EventKind → Bool
is_idle_tick (kind.IdleTick s) = true
is_idle_tick _ = false

-- the kinds that end a live session, or can
abbrev pub ends_session : EventKind → Bool
ends_session k = is_closed k || is_quit k || is_idle_tick k

abbrev pub is_rest : EventKind → Bool
is_rest (kind.Rest s offset) = true
is_rest _ = false

abbrev pub is_cwd : EventKind → Bool
is_cwd (kind.Cwd s path refusal) = true
is_cwd _ = false

abbrev pub is_abor : EventKind → Bool
is_abor (kind.Abor s) = true
is_abor _ = false

abbrev pub is_internal : EventKind → Bool
is_internal (kind.Internal s message) = true
is_internal _ = false

-- RETR, STOR, APPE, LIST, NLST, MLSD and STOU
abbrev pub is_transfer : EventKind → Bool
is_transfer (kind.Transfer s c) = true
is_transfer (kind.Stou s word) = true
is_transfer _ = false

-- the other kinds about a session that goes on, but for the connections that come to it and a look at its idle time
abbrev pub is_command : EventKind → Bool
is_command k =
    is_user k || is_pass k || is_auth k || is_pasv k || is_port k || is_rest k || is_cwd k || is_abor k || is_internal k || is_slot_tick k

-- how many actions of an event of this kind can need a place, but for those of a stop
abbrev pub places_for : EventKind → ℕ
places_for k = most_actions + (if is_quit k || is_idle_tick k || is_some (job_ticket k) then 1 else 0)

-- the kinds that a reply answers whose text is written when it is sent
abbrev pub can_reply : EventKind → Bool
can_reply (kind.Connect s raw local trace) = false
can_reply (kind.Proxied number raw trace) = false
can_reply (kind.DataIn number raw port) = false
can_reply (kind.Accepted s number raw) = false
can_reply (kind.Closed s) = false
can_reply (kind.Internal s message) = false
can_reply (kind.SlotTick s) = false
can_reply kind.Sweep = false
can_reply kind.Scavenge = false
can_reply kind.Shutdown = false
can_reply _ = true

-- the kinds with which a transfer may be dropped whose session goes on
abbrev pub can_drop : EventKind → Bool
can_drop (kind.Proxied number raw trace) = true
can_drop (kind.DataIn number raw port) = true
can_drop (kind.Accepted s number raw) = true
can_drop (kind.Pasv s word lookup bound) = true
can_drop (kind.Port s text number) = true
can_drop (kind.Abor s) = true
can_drop (kind.SlotTick s) = true
can_drop (kind.End ticket) = true
can_drop (kind.Piece ticket) = true
can_drop _ = false

-- how many bytes suffice for the text that answers a PASV, also where that shows a name
abbrev pub passive_width : PassiveHost → Option ℕ → ℕ
passive_width (Dns name) None = 64 + length name
passive_width _ _ = 64

-- how many suffice for the text of the reply on an event
abbrev pub width_for : Options → EventKind → ℕ
width_for o (kind.Pasv s word lookup bound) = passive_width o.host lookup
width_for o _ = 64

-- a life that goes on, with a move of the slot that neither starts nor ends a job
abbrev pub is_quiet : Life → SlotMove → Bool
is_quiet Goes Keeps = true
is_quiet Goes Empties = true
is_quiet Goes EmptiesWaiting = true
is_quiet Goes (Awaits port) = true
is_quiet Goes Connects = true
is_quiet Goes Expires = true
is_quiet _ _ = false

-- with a decision the session goes on, and no job of it starts or ends
abbrev pub goes_on : Decision → Bool
goes_on d = is_quiet (life d) (slot_move d)

-- the session that an event names
abbrev pub number_of : EventKind → ℕ
number_of k = unwrap_or (named_session k) 0

-- the word of a PASV
abbrev pub word_of : EventKind → ℕ
word_of (kind.Pasv s word lookup bound) = word
word_of _ = 0

-- a PASV may be decided so on what was looked up: a port is granted where nothing lacks that its reply shows
abbrev pub FitsLookup : PassiveHost → Option ℕ → Decision → Type 0
FitsLookup host lookup (decision.Granted port) = lacks_lookup host lookup ≡ false
FitsLookup host lookup decision.NoLookup = lacks_lookup host lookup ≡ true
FitsLookup host lookup decision.Full = Unit {0}
FitsLookup host lookup decision.NoSocket = Unit {0}
FitsLookup host lookup _ = ⊥

-- the port that was bound for the session of a PASV alone
abbrev pub bound_of : EventKind → Option ℕ
bound_of (kind.Pasv s word lookup bound) = bound
bound_of _ = None

-- the text of a PORT
abbrev pub text_of : EventKind → List ℕ
text_of (kind.Port s text number) = text
text_of _ = []

-- the number of the connection that was made for a PORT
abbrev pub made_of : EventKind → Option ℕ
made_of (kind.Port s text number) = number
made_of _ = None

-- the holders of a client's ports, by the board; a client of version 6 holds nothing
abbrev pub held_for : Board → Session → ℕ → Option ℕ
held_for board v = holder_for board (ipv4 v.opening.client)

-- the failures of a key, by the table
abbrev pub failures_in : Option Table → LoginKey → Option Failures
failures_in failures key = option_and_then (λ t. failures_of t key) failures

-- the policy of the table
abbrev pub policy_in : Option Table → Option FailedLoginsPolicy
policy_in failures = option_map (λ t. t.policy) failures

-- one more failed login takes no memory
abbrev pub HasSpare : Option Table → Type 0
HasSpare failures = IfSome failures (λ t. 0 < t.spare)

-- the table goes by the policy of the options, and one more failed login takes no memory
pub record CanCount (failures : Option Table) (o : Options) : Type 0 where
  pub policy : policy_in failures ≡ o.lockout
  pub spare : HasSpare failures

-- what stands around a command: the holders by the board, the failures by the table, whether its number is used, a job of its session runs, and is not to stop yet, and the moment
abbrev pub surroundings : Board → Option Table → Bool → Bool → Bool → ℕ → Session → Around
surroundings board failures used runs stops at v =
    record { holders = held_for board v; failures = failures_in failures; used = λ n. used; runs = runs; can_stop = stops; at = at }

-- the password is out
abbrev pub is_checking : Login → Bool
is_checking login.Checking = true
is_checking _ = false

-- what a command of a session leaves of the failures of a key
abbrev pub failures_left : FailedLoginsPolicy → Session → LoginKey → EventKind → ℕ → Option Failures → Option Failures
failures_left p v key (kind.AuthDone s said) at f = is_checking v.login && same_key (login_key p v) key ⇒ failures_by said p at f ∣ f
failures_left p v key _ at f = f

-- what is decided on a login that is let in, or refused
abbrev pub login_decision : Option Refusal → Decision
login_decision None = LoggedIn
login_decision (Some refusal) = LoginFailed refusal.lock refusal.delay

-- what an event keeps whatever its session is: a new session, or one that may come of it, is in the root, and STOU has a unique name
abbrev pub kept_alone : EventKind → List ℕ
kept_alone (kind.Connect s raw local trace) = root
kept_alone (kind.Proxied number raw trace) = root
kept_alone (kind.Stou s word) = unique_name word
kept_alone _ = []

-- the name or the path that an event keeps or tells of a session
abbrev pub kept_by : EventKind → Session → List ℕ
kept_by (kind.User s name) v = name
kept_by (kind.AuthDone s said) v = unwrap_or v.name (codes "unknown")
kept_by (kind.Closed s) v = logged_user v.login v.name
kept_by (kind.Quit s) v = logged_user v.login v.name
kept_by (kind.End ticket) v = logged_user v.login v.name
kept_by (kind.Piece ticket) v = logged_user v.login v.name
kept_by (kind.Internal s message) v = logged_user v.login v.name
kept_by (kind.IdleTick s) v = logged_user v.login v.name
kept_by (kind.Cwd s path refusal) v = join_path v.cwd path
kept_by k v = kept_alone k

-- what an event tells: the reply to its client and what listeners are told, of a message that is the control layer's own
abbrev pub telling_for : EventKind → Option Told
telling_for (kind.Internal s message) =
    is_for_control message ⇒ Some (record { reply = reply_of message; notice = notice_of message }) ∣ None
telling_for _ = None

-- the message of an event
abbrev pub message_of : EventKind → ControlChanMsg
message_of (kind.Internal s message) = message
message_of _ = ExitControlLoop

-- how many notices a decision with this turn of a life sends to its session, with the event and the answer that it is on
abbrev pub notices_by : Life → Decision → EventKind → Answer → ℕ
notices_by Ends d k answer = 1
notices_by _ LoggedIn k answer = 1
notices_by _ decision.Told (kind.Internal s message) answer = if is_some (notice_of message) then 1 else 0
notices_by _ Finished k (Done outcome) = if moves_file outcome.result then 1 else 0
notices_by _ d k answer = 0

-- how many a decision on an event sends
abbrev pub notices_of : EventKind → Decision → Answer → ℕ
notices_of k d answer = notices_by (life d) d k answer

-- a session has so few notices and transfers that one more of each can be counted
pub record IsFew (v : Session) : Type 0 where
  pub notices : v.notices + 1 < 2 ^ 64
  pub tickets : v.tickets + 1 < 2 ^ 64

-- the next ticket of session s; at the end of the count it stands still
abbrev pub next_ticket : ℕ → Session → Ticket
next_ticket s v = record { session = s; nr = min (v.tickets + 1) (2 ^ 64 - 1) }

-- the transfer that an event asks for, as it is fixed now
abbrev pub asked_for : EventKind → Session → Option Pending
asked_for k v = queued_for (Queued (next_ticket (number_of k) v)) k v

-- a session at a moment with the transfer that is queued, before it starts
abbrev pub with_queued : ℕ → EventKind → Decision → Session → Session
with_queued at k d v =
    record v { active_at = at; pending = option_or (queued_for d k v) v.pending; tickets = v.tickets + (if is_queued d then 1 else 0) }

-- a session that is told at a moment of the end of its transfer, before another starts
abbrev pub with_end : ℕ → EventKind → Answer → Session → Session
with_end at k answer v =
    record v { offset = unwrap_or (offset_by Finished k answer) v.offset; active_at = at; notices = v.notices + notices_of k Finished answer }

-- a session with another slot and transfer, and the moment of that slot
abbrev pub with_lane : Session → Lane → ℕ → Session
with_lane v l at = record v { slot = l.slot; slot_at = at; pending = l.pending }

-- the jobs that run, by session
abbrev pub Jobs : Type 0
Jobs = map.HashMap ℕ Running (BuildHasherDefault FoldHasher)

-- a job starts for session s in a table of jobs, or none
pub record Starts (old new : Jobs) (s : ℕ) (job : Option Running) : Type 0 where
  pub jobs : (q : ℕ) → map.get nat_eq new q ≡ (if s == q then option_or job (map.get nat_eq old q) else map.get nat_eq old q)
  pub len : map.hash_map_len new ≡ map.hash_map_len old + (if is_some job then 1 else 0)

-- a client of version 4 can be given a port of the board without more memory
abbrev pub HasRoomFor : Board → Session → Type 0
HasRoomFor board v = IfSome (ipv4 v.opening.client) (HasRoom board)

-- the board has the range of the options
pub record HasRange (board : Board) (o : Options) : Type 0 where
  pub lo : board.lo ≡ o.lo
  pub hi : board.hi ≡ o.hi

-- who holds port p for client a once session s, with this client, has given up the port that it waits for
abbrev pub held_without : ℕ → Option ℕ → Option ℕ → ℕ → ℕ → Option ℕ → Option ℕ
held_without s client waited a p before = option_map_or (λ c. still_holder c waited s a p before) client before

-- who holds it once that session has taken a port in its place
abbrev pub held_with : ℕ → ℕ → Option ℕ → Option ℕ → ℕ → ℕ → Option ℕ → Option ℕ
held_with port s client waited a p before =
    option_map_or (λ c. if is_key a p c port then Some s else still_holder c waited s a p before) client before

-- who holds it after a move of the slot of that session
abbrev pub held_by : SlotMove → ℕ → Option ℕ → Option ℕ → ℕ → ℕ → Option ℕ → Option ℕ
held_by (Awaits port) s client waited a p before = held_with port s client waited a p before
held_by Empties s client waited a p before = held_without s client waited a p before
held_by Connects s client waited a p before = held_without s client waited a p before
held_by _ s client waited a p before = before

-- who holds it after a decision on that session
abbrev pub held_after : Decision → ℕ → Option ℕ → Option ℕ → ℕ → ℕ → Option ℕ → Option ℕ
held_after d s client waited a p before = held_by (slot_move d) s client waited a p before

-- what the storage said of the directory of a CWD
abbrev pub refusal_of : EventKind → Option ErrorKind
refusal_of (kind.Cwd s path refusal) = refusal
refusal_of _ = None
