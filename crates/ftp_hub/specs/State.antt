-- What a state tells: plain data, from which the tables of a hub can be made.
use Rattle.std.specs.Prelude.{◌≡◌, ◌≢◌, ℕ, ◌≤◌, ◌==◌, ◌&&◌, ◌||◌, ◌↔◌, Bool, true, false, not, List, [], ◌∷◌, filter, length, map as each, slice_get, Option, Some, None, is_some, nat_eq, unwrap_or, if◌then◌else◌}
use Rattle.std.specs.List.{AllByRecursion}
use Rattle.std.specs.Option.{option_map, option_and_then}
use Rattle.std.proofs.Common.{BuildHasherDefault, FoldHasher}
use Rattle.std.specs.HashMap as map
use Rattle.ftp_base.specs.declared.net.IpAddr.{IpAddr}
use Rattle.ftp_base.specs.declared.net.IpAddr.TheVariants.{V4}
use Rattle.ftp_options.specs.declared.options.Options.{Options}
use Rattle.ftp_options.specs.declared.lockout.FailedLoginsBlock.{FailedLoginsBlock}
use Rattle.ftp_options.specs.declared.lockout.FailedLoginsBlock.TheVariants.{IP, User, UserAndIP}
use Rattle.ftp_options.specs.declared.lockout.FailedLoginsPolicy.{FailedLoginsPolicy}
use Rattle.ftp_options.specs.Modes.{is_legacy}
use Rattle.ftp_lockout.specs.declared.cache.Failures.{Failures}
use Rattle.ftp_lockout.specs.declared.key.LoginKey.{LoginKey}
use Rattle.ftp_lockout.specs.Failures.{recorded}
use Rattle.ftp_lockout.specs.Keys.{key_at}
use Rattle.ftp_lockout.specs.Places.{AreInKeyOrder}
use Rattle.ftp_switchboard.specs.Used.{IsApart, has, is_used as is_in_lines}
use Rattle.ftp_transfer.specs.Path.{is_slash}
use Rattle.ftp_switchboard.specs.Board.{holder_at}
use Rattle.ftp_events.specs.declared.entry.Entry.{Entry}
use Rattle.ftp_events.specs.declared.session.Login.{Login}
use Rattle.ftp_events.specs.declared.session.Login.TheVariants as login
use Rattle.ftp_events.specs.declared.session.Pending.{Pending}
use Rattle.ftp_events.specs.declared.session.Running.{Running}
use Rattle.ftp_events.specs.declared.session.Session.{Session}
use Rattle.ftp_events.specs.declared.session.Slot.{Slot}
use Rattle.ftp_events.specs.declared.session.Slot.TheVariants.{Empty, Waits, Linked}
use Rattle.ftp_events.specs.Lockout.{failures}
use Rattle.ftp_events.specs.Log.{past_of, is_stopped, is_used}
use Rattle.ftp_events.specs.Login.{logged_user}
use Rattle.ftp_events.specs.Right.{IsActed, IsRight}
use Rattle.ftp_events.specs.Running.{running_count}
use Rattle.ftp_events.specs.Session.{session, running_job, live_count}
use Rattle.ftp_handlers.specs.Handlers.{Jobs, failures_in}
use Rattle.ftp_laws.specs.Census.{IsAscending}
use Rattle.ftp_hub.specs.declared.hub.Hub.{Hub}
use Rattle.ftp_hub.specs.Stands.{Stands, options_of}
use Rattle.ftp_hub.specs.declared.state.HubState.{HubState}
use Rattle.ftp_hub.specs.declared.state.JobLine.{JobLine}
use Rattle.ftp_hub.specs.declared.state.LoginState.{LoginState}
use Rattle.ftp_hub.specs.declared.state.LoginState.TheVariants as told
use Rattle.ftp_hub.specs.declared.state.QueuedLine.{QueuedLine}
use Rattle.ftp_hub.specs.declared.state.RecordLine.{RecordLine}
use Rattle.ftp_hub.specs.declared.state.SessionLine.{SessionLine}
use Rattle.ftp_hub.specs.declared.state.SlotKind.{SlotKind}
use Rattle.ftp_hub.specs.declared.state.SlotKind.TheVariants as kept
use Rattle.ftp_hub.specs.declared.state.SlotLine.{SlotLine}

-- the live sessions, by number
abbrev pub Sessions : Type 0
Sessions = map.HashMap ℕ Session (BuildHasherDefault FoldHasher)

-- how far a login is
abbrev pub told_login : LoginState → Login
told_login told.New = login.New
told_login told.Pass = login.Named
told_login told.Out = login.Checking
told_login told.Cmd = login.LoggedIn

-- as a line tells it
abbrev pub told_of : Login → LoginState
told_of login.New = told.New
told_of login.Named = told.Pass
told_of login.Checking = told.Out
told_of login.LoggedIn = told.Cmd

-- what a slot has
abbrev pub told_slot : SlotKind → Slot
told_slot (kept.Waits port) = Waits port
told_slot (kept.HasLink number) = Linked number

-- the first line of a number
abbrev pub line_of : {A : Type 0} → (A → ℕ) → List A → ℕ → Option A
line_of number [] s = None
line_of number (line ∷ lines) s = if number line == s then Some line else line_of number lines s

-- the line of session s
abbrev pub session_line : List SessionLine → ℕ → Option SessionLine
session_line lines s = line_of (λ (line : SessionLine). line.session) lines s

-- the line of its slot
abbrev pub slot_line : List SlotLine → ℕ → Option SlotLine
slot_line lines s = line_of (λ (line : SlotLine). line.session) lines s

-- the line of its transfer
abbrev pub queued_line : List QueuedLine → ℕ → Option QueuedLine
queued_line lines s = line_of (λ (line : QueuedLine). line.session) lines s

-- the line of its job
abbrev pub job_line : List JobLine → ℕ → Option JobLine
job_line lines s = line_of (λ (line : JobLine). line.job.ticket.session) lines s

-- the session of a line, with nothing in its slot
abbrev pub bare_session : SessionLine → Session
bare_session line =
    record {
      opening = record { raw = line.raw; local = line.local; client = line.client; trace = line.trace };
      login = told_login line.state;
      name = line.user;
      cwd = line.cwd;
      offset = line.offset;
      slot = Empty;
      slot_at = 0;
      active_at = line.active;
      pending = None;
      tickets = line.tickets;
      notices = line.notices;
    }

-- with its slot, where there is a line of it
abbrev pub with_slot : Option SlotLine → Session → Session
with_slot None v = v
with_slot (Some line) v = record v { slot = told_slot line.what; slot_at = line.at }

-- the transfer of a line, for the user of its session
abbrev pub told_pending : QueuedLine → Session → Pending
told_pending line v =
    record {
      ticket = record { session = line.session; nr = line.nr };
      user = logged_user v.login v.name;
      command = line.command;
      path = line.path;
      offset = line.offset;
    }

-- with its transfer, where there is a line of it
abbrev pub with_transfer : Option QueuedLine → Session → Session
with_transfer None v = v
with_transfer (Some line) v = record v { pending = Some (told_pending line v) }

-- what a slot has, as a line tells it
abbrev pub kept_of : Slot → Option SlotKind
kept_of Empty = None
kept_of (Waits port) = Some (kept.Waits port)
kept_of (Linked number) = Some (kept.HasLink number)

-- the line of session s
abbrev pub session_told : ℕ → Session → SessionLine
session_told s v =
    record {
      session = s;
      raw = v.opening.raw;
      local = v.opening.local;
      client = v.opening.client;
      trace = v.opening.trace;
      state = told_of v.login;
      active = v.active_at;
      offset = v.offset;
      tickets = v.tickets;
      notices = v.notices;
      user = v.name;
      cwd = v.cwd;
    }

-- the line of its slot
abbrev pub slot_told : ℕ → Session → Option SlotLine
slot_told s v = option_map (λ what. record { session = s; at = v.slot_at; what = what }) (kept_of v.slot)

-- the line of its transfer
abbrev pub queued_told : ℕ → Session → Option QueuedLine
queued_told s v =
    option_map (λ (p : Pending). record { session = s; nr = p.ticket.nr; offset = p.offset; command = p.command; path = p.path }) v.pending

-- the path begins with a slash
abbrev pub IsAbsolute : List ℕ → Type 0
IsAbsolute path = is_slash (slice_get path 0) ≡ true

-- lines tell all of session s: an empty slot has no age, a transfer waits in a slot that is not, and is of the session and
-- its user, and paths begin with a slash
pub record IsTidy (s : ℕ) (v : Session) : Type 0 where
  pub absolute : IsAbsolute v.cwd
  pub path : (p : Pending) → v.pending ≡ Some p → IsAbsolute p.path
  pub aged : v.slot ≡ Empty → v.slot_at ≡ 0
  pub placed : (p : Pending) → v.pending ≡ Some p → v.slot ≢ Empty
  pub own : (p : Pending) → v.pending ≡ Some p → p.ticket.session ≡ s
  pub user : (p : Pending) → v.pending ≡ Some p → p.user ≡ logged_user v.login v.name

-- they do of every live session
abbrev pub AreTidy : (ℕ → Option Session) → Type 0
AreTidy live = (s : ℕ) (v : Session) → live s ≡ Some v → IsTidy s v

-- session s by its lines
abbrev pub session_by_lines : List SessionLine → List SlotLine → List QueuedLine → ℕ → Option Session
session_by_lines sessions slots queued s =
    option_map (with_transfer (queued_line queued s)) (option_map (with_slot (slot_line slots s)) (option_map bare_session (session_line sessions s)))

-- lines of sessions, slots and transfers are in order of the numbers, a slot's is of a session that is there, a transfer's of
-- one that has a slot, and paths begin with a slash
pub record AreSessionLines (sessions : List SessionLine) (slots : List SlotLine) (queued : List QueuedLine) : Type 0 where
  pub sessions_rise : IsAscending (each (λ (line : SessionLine). line.session) sessions)
  pub slots_rise : IsAscending (each (λ (line : SlotLine). line.session) slots)
  pub queued_rise : IsAscending (each (λ (line : QueuedLine). line.session) queued)
  pub live : (s : ℕ) → is_some (slot_line slots s) ≡ true → is_some (session_line sessions s) ≡ true
  pub placed : (s : ℕ) → is_some (queued_line queued s) ≡ true → is_some (slot_line slots s) ≡ true
  pub absolute : AllByRecursion (λ (line : SessionLine). IsAbsolute line.cwd) sessions
  pub paths : AllByRecursion (λ (line : QueuedLine). IsAbsolute line.path) queued

-- lines tell the sessions of a table, in order of their numbers
pub record TellsSessions (table : Sessions) (sessions : List SessionLine) (slots : List SlotLine) (queued : List QueuedLine) : Type 0 where
  pub told : (s : ℕ) → session_by_lines sessions slots queued s ≡ map.get nat_eq table s
  pub len : length sessions ≡ map.hash_map_len table
  pub form : AreSessionLines sessions slots queued

-- the job of a line, as it runs
abbrev pub told_running : JobLine → Running
told_running line = record { job = line.job; marked = line.marked }

-- each job is of the session that it stands for, and its path begins with a slash
abbrev pub AreOwn : (ℕ → Option Running) → Type 0
AreOwn jobs = (s : ℕ) (r : Running) → jobs s ≡ Some r → (r.job.ticket.session ≡ s) × IsAbsolute r.job.path

-- the line of a job
abbrev pub job_told : Running → JobLine
job_told r = record { job = r.job; marked = r.marked }

-- lines of jobs are in order of their sessions, and paths begin with a slash
pub record AreJobLines (lines : List JobLine) : Type 0 where
  pub in_order : IsAscending (each (λ (line : JobLine). line.job.ticket.session) lines)
  pub paths : AllByRecursion (λ (line : JobLine). IsAbsolute line.job.path) lines

-- lines tell the jobs of a table
pub record TellsJobs (table : Jobs) (lines : List JobLine) : Type 0 where
  pub told : (s : ℕ) → option_map told_running (job_line lines s) ≡ map.get nat_eq table s
  pub len : length lines ≡ map.hash_map_len table
  pub form : AreJobLines lines

-- session s by its lines
abbrev pub session_in : HubState → ℕ → Option Session
session_in x s = session_by_lines x.sessions x.slots x.queued s

-- the job of session s by its line
abbrev pub running_in : HubState → ℕ → Option Running
running_in x s = option_map told_running (job_line x.jobs s)

-- the key of an address, or of none, with a name
abbrev pub key_with : Option IpAddr → List ℕ → LoginKey
key_with None name = record { version = 0; number = 0; name = name }
key_with (Some ip) name = key_at ip name

-- the key of a record: without an address the version is 0, without a name the name is empty
abbrev pub record_key : RecordLine → LoginKey
record_key line = key_with line.ip (unwrap_or line.user [])

-- the failures of a record
abbrev pub record_failures : RecordLine → Failures
record_failures line = record { count = line.count; last = line.at }

-- the records by their keys
abbrev pub entries_of : List RecordLine → List (LoginKey × Failures)
entries_of lines = each (λ (line : RecordLine). (record_key line, record_failures line)) lines

-- the failures of a key by the records
abbrev pub recorded_in : List RecordLine → LoginKey → Option Failures
recorded_in lines key = recorded (entries_of lines) key

-- the record is of a key that some policy makes: it has an address, a name, or both
abbrev pub is_keyed : RecordLine → Bool
is_keyed line = is_some line.ip || is_some line.user

-- lines of records are of such keys, in order of these
pub record AreRecords (lines : List RecordLine) : Type 0 where
  pub keyed : AllByRecursion (λ (line : RecordLine). is_keyed line ≡ true) lines
  pub in_order : AreInKeyOrder (entries_of lines)

-- the record is of a key that this policy makes: it has an address and a name, or one of them alone
abbrev pub is_made_by : FailedLoginsBlock → RecordLine → Bool
is_made_by UserAndIP line = is_some line.ip && is_some line.user
is_made_by IP line = is_some line.ip && not (is_some line.user)
is_made_by User line = not (is_some line.ip) && is_some line.user

-- each record is; where failed logins do not lock there is none
abbrev pub AreMadeBy : Option FailedLoginsPolicy → List RecordLine → Type 0
AreMadeBy None lines = lines ≡ []
AreMadeBy (Some policy) lines = AllByRecursion (λ (line : RecordLine). is_made_by policy.block_by line ≡ true) lines

-- the failures of a key, where failed logins lock at all: records of keys that the policy does not make count for nothing
abbrev pub failures_told : Option FailedLoginsPolicy → List RecordLine → LoginKey → Option Failures
failures_told policy lines key = option_and_then (λ p. recorded_in (filter (is_made_by p.block_by) lines) key) policy

-- the lists have the order and the form of a state's lines
pub record IsForm (x : HubState) : Type 0 where
  pub used : IsApart x.used
  pub records : AreRecords x.records
  pub sessions : AreSessionLines x.sessions x.slots x.queued
  pub jobs : AreJobLines x.jobs

-- the state answers each question as the log does
pub record IsState (o : Options) (log : List Entry) (x : HubState) : Type 0 where
  pub sessions : (s : ℕ) → session_in x s ≡ session o (past_of log) s
  pub live : length x.sessions ≡ live_count (past_of log)
  pub jobs : (s : ℕ) → running_in x s ≡ running_job o (past_of log) s
  pub running : length x.jobs ≡ running_count (past_of log)
  pub numbers : (n : ℕ) → is_in_lines x.used n ≡ is_used (past_of log) n
  pub failures : (key : LoginKey) → failures_told o.lockout x.records key ≡ failures o (past_of log) key
  pub stopped : x.stopped ≡ is_stopped (past_of log)
  pub events : length log ≤ x.events

-- the tables of the hub answer each question as the state does, but for the holders of ports, whom sessions tell
pub record TellsState (hub : Hub) (x : HubState) : Type 0 where
  pub sessions : (s : ℕ) → map.get nat_eq hub.sessions s ≡ session_in x s
  pub live : map.hash_map_len hub.sessions ≡ length x.sessions
  pub jobs : (s : ℕ) → map.get nat_eq hub.jobs s ≡ running_in x s
  pub running : map.hash_map_len hub.jobs ≡ length x.jobs
  pub numbers : (n : ℕ) → has hub.numbers n ≡ is_in_lines x.used n
  pub failures : (key : LoginKey) → failures_in hub.failures key ≡ failures_told hub.options.lockout x.records key
  pub stopped : hub.stopped ≡ x.stopped
  pub events : hub.count ≡ x.events

-- the session is there, waits for port p, and this is its client
abbrev pub WaitsFor : Option Session → IpAddr → ℕ → Type 0
WaitsFor there client p = (v : Session) × (there ≡ Some v) × (v.opening.client ≡ client) × (v.slot ≡ Waits p)

-- the session is there, waits for port p, and its client is a
abbrev pub WaitsAt : Option Session → ℕ → ℕ → Type 0
WaitsAt there a p = WaitsFor there (V4 a) p

-- by the state, session s waits for port p, and its client is a
abbrev pub WaitsIn : HubState → ℕ → ℕ → ℕ → Type 0
WaitsIn x s a p = WaitsAt (session_in x s) a p

-- the holders of ports are those who wait; where each session has a listener of its own nobody holds one
pub record HoldsAreTold (hub : Hub) (x : HubState) : Type 0 where
  pub waiting : is_legacy hub.options.mode ≡ false → (a p s : ℕ) → (holder_at hub.board a p ≡ Some s) ↔ WaitsIn x s a p
  pub nobody : is_legacy hub.options.mode ≡ true → (a p : ℕ) → holder_at hub.board a p ≡ None

-- what a hub tells is the state of each log that it stands for
abbrev pub HubsTellStates : Type 0
HubsTellStates = (hub : Hub) (log : List Entry) (x : HubState) → TellsState hub x → Stands hub log → IsState (options_of hub) log x

-- a hub that tells the state of a right and acted log, and whose ports are held by those who wait by it, stands for the log
abbrev pub StatesGiveHubs : Type 0
StatesGiveHubs =
    (hub : Hub) (log : List Entry) (x : HubState) → IsRight (options_of hub) log → IsActed (options_of hub) log → IsState (options_of hub) log x →
    TellsState hub x → HoldsAreTold hub x → Stands hub log

-- so a hub that stands for a log stands for every other of which it tells the state
abbrev pub EqualStatesStandAlike : Type 0
EqualStatesStandAlike =
    (hub : Hub) (log other : List Entry) (x : HubState) → TellsState hub x → Stands hub log →
    IsRight (options_of hub) other → IsActed (options_of hub) other → IsState (options_of hub) other x →
    Stands hub other

-- the lines of the sessions of a hub that stands for a log tell all of them
abbrev pub LiveSessionsAreTidy : Type 0
LiveSessionsAreTidy = (hub : Hub) (log : List Entry) → Stands hub log → AreTidy (map.get nat_eq hub.sessions)

-- so do those of its jobs
abbrev pub RunningJobsAreOwn : Type 0
RunningJobsAreOwn = (hub : Hub) (log : List Entry) → Stands hub log → AreOwn (map.get nat_eq hub.jobs)
