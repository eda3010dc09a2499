-- What the log tells of a session.
use Rattle.std.specs.Prelude.{ℕ, ◌+◌, ◌-◌, Bool, true, false, List, [], ◌∷◌, Option, Some, None, unwrap_or, is_some, filter, nat_lt, if◌then◌else◌}
use Rattle.std.specs.Option.{option_map, option_map_or}
use Rattle.ftp_base.specs.Storage.{root}
use Rattle.ftp_options.specs.declared.options.Options.{Options}
use Rattle.ftp_events.specs.declared.session.Running.{Running}
use Rattle.ftp_events.specs.declared.entry.Entry.{Entry}
use Rattle.ftp_events.specs.declared.event.EventKind.{EventKind}
use Rattle.ftp_events.specs.declared.event.Answer.{Answer}
use Rattle.ftp_events.specs.declared.decision.Decision.{Decision}
use Rattle.ftp_events.specs.declared.decision.Life.{Life}
use Rattle.ftp_events.specs.declared.decision.Life.TheVariants.{Goes, Opens, Ends}
use Rattle.ftp_events.specs.declared.session.Opening.{Opening}
use Rattle.ftp_events.specs.declared.session.Login.TheVariants as login
use Rattle.ftp_events.specs.declared.session.Pending.{Pending}
use Rattle.ftp_events.specs.declared.session.Session.{Session}
use Rattle.ftp_events.specs.declared.session.Slot.TheVariants.{Empty}
use Rattle.ftp_events.specs.Words.{◌⇒◌∣◌, latest}
use Rattle.ftp_events.specs.Classes.{life, is_stop, slot_move}
use Rattle.ftp_events.specs.Log.{new_number}
use Rattle.ftp_events.specs.Opening.{opener, opened_number}
use Rattle.ftp_events.specs.History.{history}
use Rattle.ftp_events.specs.Login.{login_by, name_by, login_state, user_name, logged_user}
use Rattle.ftp_events.specs.Notices.{notice_count}
use Rattle.ftp_events.specs.Place.{cwd_after, cwd, offset_by, offset, is_queued, ticket_count}
use Rattle.ftp_events.specs.Slot.{Lane, lane_after, lane, queued_by, kept_running}
use Rattle.ftp_events.specs.Ages.{slot_at_after, slot_at, active_at_by, active_at}

-- what a turn of a life says of it
abbrev pub told_of_life : Life → Option Bool
told_of_life Opens = Some true
told_of_life Ends = Some false
told_of_life Goes = None

-- what a decision says of the session's life
abbrev pub life_by : Decision → Option Bool
life_by d = told_of_life (life d)

-- the session was opened and did not end
abbrev pub is_live : List Entry → Bool
is_live h = latest false (λ e. life_by e.decision) h

-- a live session, from its history and its opening
abbrev pub session_by_history : ℕ → List Entry → Opening → Session
session_by_history s h opening =
    record {
      opening = opening;
      login = login_state h;
      name = user_name h;
      cwd = cwd h;
      offset = offset h;
      slot = (lane h).slot;
      slot_at = slot_at h;
      active_at = active_at h;
      pending = (lane h).pending;
      tickets = ticket_count h;
      notices = notice_count s h;
    }

-- session s, where it is live
abbrev pub session : Options → List Entry → ℕ → Option Session
session o past s =
    let h = history o past s in
    is_live h ⇒ option_map (session_by_history s h) (opener past s)
    ∣ None

-- a number put in its place
abbrev pub in_order : ℕ → List ℕ → List ℕ
in_order s [] = s ∷ []
in_order s (x ∷ xs) = nat_lt s x ⇒ s ∷ x ∷ xs ∣ x ∷ in_order s xs

-- the sessions that were opened, in order of their numbers
abbrev pub opened_sessions : List Entry → List ℕ
opened_sessions [] = []
opened_sessions (e ∷ past) =
    let before = opened_sessions past in
    option_map_or (λ s. in_order s before) (opened_number e.event.kind e.decision) before

-- the live sessions, in order of their numbers
abbrev pub live_sessions : Options → List Entry → List ℕ
live_sessions o past = filter (λ s. is_some (session o past s)) (opened_sessions past)

-- the job of session s that runs, also of a session that has ended
abbrev pub running_job : Options → List Entry → ℕ → Option Running
running_job o past s = (lane (history o past s)).running

-- a session that is live goes on living
abbrev pub lives_on : Decision → Bool
lives_on d = unwrap_or (life_by d) true

-- the transfer that an event queues for a session
abbrev pub queued_for : Decision → EventKind → Session → Option Pending
queued_for d k v = queued_by d k (logged_user v.login v.name) v.cwd v.offset

-- the slot of a session, with the job that runs
abbrev pub lane_in : Session → Option Running → Lane
lane_in v job = record { slot = v.slot; pending = v.pending; running = job }

-- the slot and the job after an event
abbrev pub next_lane : EventKind → Decision → Option Running → Session → Lane
next_lane k d job v = lane_after k d (queued_for d k v) (lane_in v job)

-- the job that runs after an event, with its answer
abbrev pub next_running : EventKind → Answer → Decision → Option Running → Session → Option Running
next_running k given d job v = kept_running d given (next_lane k d job v).running

-- what an event at a moment makes of a live session, with its answer, its decision, how many notices it sends and the job that ran before it
abbrev pub session_after : ℕ → EventKind → Answer → Decision → ℕ → Option Running → Session → Session
session_after at k answer d sent job v =
    record {
      opening = v.opening;
      login = unwrap_or (login_by d) v.login;
      name = unwrap_or (name_by d k) v.name;
      cwd = cwd_after d k v.cwd;
      offset = unwrap_or (offset_by d k answer) v.offset;
      slot = (next_lane k d job v).slot;
      slot_at = slot_at_after (slot_move d) at (new_number k d) (queued_for d k v) (lane_in v job) v.slot_at;
      active_at = unwrap_or (active_at_by k d at) v.active_at;
      pending = (next_lane k d job v).pending;
      tickets = v.tickets + (if is_queued d then 1 else 0);
      notices = v.notices + sent;
    }

-- how many sessions are live where one life took this turn
abbrev pub live_by_life : Life → ℕ → ℕ
live_by_life Opens n = n + 1
live_by_life Ends n = n - 1
live_by_life Goes n = n

-- how many sessions are live after a decision: none after a stop
abbrev pub live_after : Decision → ℕ → ℕ
live_after d n = is_stop d ⇒ 0 ∣ live_by_life (life d) n

-- how many sessions are live
abbrev pub live_count : List Entry → ℕ
live_count [] = 0
live_count (e ∷ past) = live_after e.decision (live_count past)

-- a session when it is opened, at a moment
abbrev pub new_session : ℕ → Opening → Session
new_session at opening =
    record { opening = opening; login = login.New; name = None; cwd = root; offset = 0; slot = Empty; slot_at = 0; active_at = at; pending = None; tickets = 0; notices = 0 }
