-- When a hub stands for a log.
use Rattle.std.specs.Prelude.{◌≡◌, ℕ, ◌+◌, ◌-◌, ◌^◌, ◌<◌, ◌≤◌, [], ◌∷◌, List, length, Bool, false, not, ◌||◌, Option, Some, None, IfSome, is_some, IsTrue, nat_eq}
use Rattle.std.specs.Option.{option_and_then, option_map, option_map_or}
use Rattle.std.specs.HashMap as map
use Rattle.ftp_base.specs.declared.net.IpAddr.TheVariants.{V4}
use Rattle.ftp_base.specs.Net.{ipv4, is_v6}
use Rattle.ftp_options.specs.declared.options.Options.{Options}
use Rattle.ftp_options.specs.Modes.{is_legacy, is_proxy}
use Rattle.ftp_lockout.specs.declared.key.LoginKey.{LoginKey}
use Rattle.ftp_transfer.specs.declared.job.Job.{Job}
use Rattle.ftp_switchboard.specs.Board.{holder_at, HasRoom}
use Rattle.ftp_switchboard.specs.Used.{has, HasSpare}
use Rattle.ftp_events.specs.declared.action.Action.{Action}
use Rattle.ftp_events.specs.declared.decision.Decision.{Decision}
use Rattle.ftp_events.specs.declared.counters.Counters.{Counters}
use Rattle.ftp_events.specs.declared.entry.Entry.{Entry}
use Rattle.ftp_events.specs.declared.event.Answer.{Answer}
use Rattle.ftp_events.specs.declared.event.EventKind.{EventKind}
use Rattle.ftp_events.specs.declared.event.EventKind.TheVariants as kind
use Rattle.ftp_events.specs.declared.event.HubEvent.{HubEvent}
use Rattle.ftp_events.specs.declared.session.Pending.{Pending}
use Rattle.ftp_events.specs.declared.session.Running.{Running}
use Rattle.ftp_events.specs.declared.status.Ended.{Ended}
use Rattle.ftp_events.specs.Statuses.{ended_of}
use Rattle.ftp_events.specs.declared.session.Session.{Session}
use Rattle.ftp_events.specs.Log.{job_ticket, past_of, is_stopped, is_used, named_session}
use Rattle.ftp_events.specs.Board.{holder}
use Rattle.ftp_events.specs.Lockout.{failures}
use Rattle.ftp_events.specs.Session.{session, running_job, live_count}
use Rattle.ftp_events.specs.Leads.{job_of_ticket}
use Rattle.ftp_events.specs.Running.{running_count}
use Rattle.ftp_events.specs.Decide.{decide, is_stoppable}
use Rattle.ftp_events.specs.Acts.{acts}
use Rattle.ftp_events.specs.Right.{IsRight, IsActed}
use Rattle.ftp_events.specs.Words.{◌⇒◌∣◌}
use Rattle.ftp_hub.specs.declared.hub.Hub.{Hub}
use Rattle.ftp_handlers.specs.Rooms.{CanReply, CanTellDropped, HasCopy, HasLeave, IsReady, RoomState, kept_in, leavers_in, need_for, need_in, telling_in}
use Rattle.ftp_handlers.specs.Handlers.{CanCount, asked_for, can_drop, can_reply, failures_in, is_abor, is_auth, is_pasv, is_port, kept_alone, kept_by, places_for, telling_for, width_for}
use Rattle.ftp_hub.specs.Arrivals.{brings_number, may_open, may_start}
use Rattle.ftp_hub.specs.Endings.{is_piece}
use Rattle.ftp_hub.specs.Leavers.{AreLeavers, is_shutdown}

-- the options that a hub was made from
abbrev pub options_of : Hub → Options
options_of hub = hub.options

-- what a hub has counted of the entries that it made
abbrev pub counters_of : Hub → Counters
counters_of hub = hub.counters

-- how many events a hub has counted
abbrev pub count_of : Hub → ℕ
count_of hub = hub.count

-- each table answers each question as the past does
pub record Tables (hub : Hub) (past : List Entry) : Type 0 where
  pub sessions : (s : ℕ) → map.get nat_eq hub.sessions s ≡ session hub.options past s
  pub live : map.hash_map_len hub.sessions ≡ live_count past
  pub jobs : (s : ℕ) → map.get nat_eq hub.jobs s ≡ running_job hub.options past s
  pub running : map.hash_map_len hub.jobs ≡ running_count past
  pub numbers : (n : ℕ) → has hub.numbers n ≡ is_used past n
  -- where each session has a listener of its own nobody holds a port
  pub holders : (a p : ℕ) → holder_at hub.board a p ≡ holder hub.options past (V4 a) p
  pub failures : (key : LoginKey) → failures_in hub.failures key ≡ failures hub.options past key
  pub stopped : hub.stopped ≡ is_stopped past

-- the log is right and acted, the tables answer as it does, and its entries were counted
pub record Stands (hub : Hub) (log : List Entry) : Type 0 where
  pub right : IsRight hub.options log
  pub acted : IsActed hub.options log
  pub tables : Tables hub (past_of log)
  pub counted : length log ≤ hub.count

-- an entry with these parts
abbrev pub entry : HubEvent → Answer → Decision → List Action → Entry
entry event answer d actions = record { event = event; answer = answer; decision = d; actions = actions }

-- what is decided and done on an event is due, and the tables then answer as the log does with its entry
pub record Serves (old new : Hub) (log : List Entry) (event : HubEvent) (answer : Answer) (d : Decision) (actions : List Action) : Type 0 where
  pub decision : d ≡ decide old.options log event answer
  pub done : actions ≡ acts old.options log (entry event answer d actions)
  pub tables : Tables new (past_of (entry event answer d actions ∷ log))

-- what no event changes but the step itself
pub record SameHead (old new : Hub) : Type 0 where
  pub options : new.options ≡ old.options
  pub count : new.count ≡ old.count
  pub counters : new.counters ≡ old.counters

-- every table answers as before; what is reserved may differ
pub record SameTables (old new : Hub) : Type 0 where
  pub sessions : (s : ℕ) → map.get nat_eq new.sessions s ≡ map.get nat_eq old.sessions s
  pub live : map.hash_map_len new.sessions ≡ map.hash_map_len old.sessions
  pub jobs : (s : ℕ) → map.get nat_eq new.jobs s ≡ map.get nat_eq old.jobs s
  pub running : map.hash_map_len new.jobs ≡ map.hash_map_len old.jobs
  pub numbers : (n : ℕ) → has new.numbers n ≡ has old.numbers n
  pub holders : (a p : ℕ) → holder_at new.board a p ≡ holder_at old.board a p
  pub failures : (key : LoginKey) → failures_in new.failures key ≡ failures_in old.failures key
  pub stopped : new.stopped ≡ old.stopped

-- the hub answers every question as before
pub record SameAnswers (old new : Hub) : Type 0 where
  pub head : SameHead old new
  pub tables : SameTables old new

-- the session that an event names, where it is live
abbrev pub named_in : Hub → EventKind → Option Session
named_in hub k = option_and_then (map.get nat_eq hub.sessions) (named_session k)

-- the name or the path that an event keeps or tells
abbrev pub kept_for : Hub → EventKind → List ℕ
kept_for hub k = option_map_or (kept_by k) (named_in hub k) (kept_alone k)

-- the transfer that an event asks for
abbrev pub pending_for : Hub → EventKind → Option Pending
pending_for hub k = option_and_then (asked_for k) (named_in hub k)

-- the connection whose header is to be read for an event: that of a proxy, where the event is not refused or turned away without it
abbrev pub header_for : Hub → EventKind → Option ℕ
header_for hub (kind.Proxied number raw trace) =
    ((not (is_proxy hub.options.mode) || is_v6 raw.ip) || has hub.numbers number) || hub.stopped ⇒ None ∣ Some number
header_for hub _ = None

-- the job that is to be run for an event, whole or a piece of it: that of its ticket, where it runs and is not to stop
abbrev pub job_for : Hub → EventKind → Option Job
job_for hub k = option_and_then (λ t. job_of_ticket (map.get nat_eq hub.jobs t.session) t) (job_ticket k)

-- the path of a job that runs
abbrev pub path_of : Option Running → List ℕ
path_of running = option_map_or (λ r. r.job.path) running []

-- the path of the job whose end it may be
abbrev pub path_for : Hub → EventKind → List ℕ
path_for hub k = option_map_or (λ t. path_of (map.get nat_eq hub.jobs t.session)) (job_ticket k) []

-- what is counted of the job whose end an event may tell, where counts are kept
abbrev pub ended_in : Hub → EventKind → Option Ended
ended_in hub k =
    hub.options.collect_metrics ⇒
    option_and_then (λ t. option_map (λ r. ended_of r.job) (map.get nat_eq hub.jobs t.session)) (job_ticket k)
    ∣ None

-- a job of the session that an ABOR names runs, and is not to stop yet
abbrev pub stops_for : Hub → EventKind → Bool
stops_for hub (kind.Abor s) = is_stoppable (map.get nat_eq hub.jobs s)
stops_for hub _ = false

-- the address of version 4 that the client of the session has which an event names
abbrev pub client_for : Hub → EventKind → Option ℕ
client_for hub k = option_and_then (λ v. ipv4 v.opening.client) (named_in hub k)

-- the number of the connection that was made for a PORT was used
abbrev pub used_for : Hub → EventKind → Bool
used_for hub (kind.Port s text number) = option_map_or (has hub.numbers) number false
used_for hub _ = false

-- the room is ready, and the hub can take one number more, and one job
pub record CanArrive (room : RoomState) (hub : Hub) : Type 0 where
  pub ready : IsReady room
  pub numbers : HasSpare hub.numbers
  pub jobs : 0 < map.spare hub.jobs

-- the room is of this event and this count, holds what the event needs, and fits this hub
pub record Fits (room : RoomState) (hub : Hub) (event : HubEvent) : Type 0 where
  pub below : hub.count < 2 ^ 64 - 1
  pub counted : room.count ≡ hub.count
  pub ready : IsReady room
  pub places : places_for event.kind ≤ room.places
  pub letters : IsTrue (can_reply event.kind) → CanReply (width_for hub.options event.kind) room
  pub dropped : IsTrue (can_drop event.kind) → CanTellDropped room
  pub kept : kept_in room ≡ kept_for hub event.kind
  pub path : HasCopy room (path_for hub event.kind)
  pub telling : telling_in room ≡ telling_for event.kind
  pub leavers : IsTrue (is_shutdown event.kind) → AreLeavers (map.get nat_eq hub.sessions) (leavers_in room)
  pub leave : HasLeave room
  pub pending : room.pending ≡ pending_for hub event.kind
  pub need : need_in room ≡ need_for (is_some (header_for hub event.kind)) (is_piece event.kind) (job_for hub event.kind)
  pub sessions : IsTrue (may_open event.kind) → 0 < map.spare hub.sessions
  pub jobs : IsTrue (may_start event.kind) → 0 < map.spare hub.jobs
  pub numbers : IsTrue (brings_number event.kind) → HasSpare hub.numbers
  pub used : IsTrue (is_port event.kind) → room.used ≡ used_for hub event.kind
  pub stops : IsTrue (is_abor event.kind) → room.stops ≡ stops_for hub event.kind
  pub failures : IsTrue (is_auth event.kind) → CanCount hub.failures hub.options
  pub board : IsTrue (is_pasv event.kind) → is_legacy hub.options.mode ≡ false → IfSome (client_for hub event.kind) (HasRoom hub.board)
