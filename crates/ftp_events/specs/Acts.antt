-- What is done because of an entry, in order.
use Rattle.std.specs.Prelude.{ℕ, ◌+◌, ◌&&◌, Bool, List, [], ◌∷◌, ◌++◌, Option, Some, None, codes, flat_map, is_some, unwrap_or, if◌then◌else◌}
use Rattle.std.specs.Option.{option_and_then, option_map, option_map_or}
use Rattle.ftp_base.specs.declared.message.ControlChanMsg.{ControlChanMsg}
use Rattle.ftp_base.specs.declared.notice.Notice.{Notice}
use Rattle.ftp_base.specs.declared.notice.Notice.TheVariants.{Presence, Data}
use Rattle.ftp_base.specs.declared.notice.PresenceEvent.{PresenceEvent}
use Rattle.ftp_base.specs.declared.notice.PresenceEvent.TheVariants as presence
use Rattle.ftp_base.specs.declared.reply.Reply.{Reply}
use Rattle.ftp_base.specs.declared.reply.Reply.TheVariants as reply
use Rattle.ftp_base.specs.declared.reply.ReplyCode.TheVariants as code
use Rattle.ftp_events.specs.declared.session.Running.{Running}
use Rattle.ftp_transfer.specs.declared.job.Ticket.{Ticket}
use Rattle.ftp_options.specs.declared.options.Options.{Options}
use Rattle.ftp_events.specs.declared.action.Action.{Action}
use Rattle.ftp_events.specs.declared.action.Action.TheVariants as action
use Rattle.ftp_events.specs.declared.entry.Entry.{Entry}
use Rattle.ftp_events.specs.declared.event.EventKind.{EventKind}
use Rattle.ftp_events.specs.declared.event.Answer.{Answer}
use Rattle.ftp_events.specs.declared.decision.Decision.{Decision}
use Rattle.ftp_events.specs.declared.decision.Decision.TheVariants.{Turned, HeaderFault, LoggedIn, Finished, Cut}
use Rattle.ftp_events.specs.declared.decision.Life.{Life}
use Rattle.ftp_events.specs.declared.decision.Life.TheVariants.{Ends}
use Rattle.ftp_events.specs.declared.session.Pending.{Pending}
use Rattle.ftp_events.specs.declared.session.Slot.{Slot}
use Rattle.ftp_events.specs.declared.session.Slot.TheVariants.{Empty, Linked}
use Rattle.ftp_events.specs.declared.session.Session.{Session}
use Rattle.ftp_events.specs.Words.{◌⇒◌∣◌}
use Rattle.ftp_events.specs.Classes.{life, is_ending}
use Rattle.ftp_events.specs.Log.{is_refusal, past_of, new_number, job_ticket}
use Rattle.ftp_events.specs.History.{Subject, Nobody, One, All, subject}
use Rattle.ftp_events.specs.Login.{login_by, logged_user}
use Rattle.ftp_events.specs.Slot.{drops, started_by}
use Rattle.ftp_events.specs.Session.{lives_on, queued_for, lane_in, session, live_sessions, running_job}
use Rattle.ftp_events.specs.Message.{notice_of}
use Rattle.ftp_events.specs.Reply.{trace_of, message_for, reply_for, delay_of}

-- the link that a slot has
abbrev pub link_in : Slot → Option ℕ
link_in (Linked number) = Some number
link_in _ = None

-- a transfer is cancelled, and a session that stays is told
abbrev pub cancelled : ℕ → Bool → Ticket → List Action
cancelled s stays ticket =
    action.Cancelled ticket ∷ (if stays then action.Reply s 0 (reply.CodeAndMsg code.ConnectionClosed (codes "Datachannel unexpectedly closed")) ∷ [] else [])

-- a transfer that is dropped is cancelled
abbrev pub cancellations : ℕ → Bool → Option Pending → List Action
cancellations s stays None = []
cancellations s stays (Some p) = cancelled s stays p.ticket

-- a link that is dropped is closed
abbrev pub closings : Option ℕ → List Action
closings None = []
closings (Some number) = action.Close number ∷ []

-- a job that is cut is cancelled, and its link is closed
abbrev pub cuttings : ℕ → Bool → Option Running → List Action
cuttings s stays None = []
cuttings s stays (Some r) = cancelled s stays r.job.ticket ++ closings (Some r.job.number)

-- the end of a job is told to the session, where that is live
abbrev pub completions : ℕ → EventKind → Decision → Bool → Option Running → List Action
completions s k Finished delivered job = option_map_or (λ ticket. action.Completed ticket delivered ∷ []) (job_ticket k) []
completions s k Cut delivered job = cuttings s delivered job
completions s k d delivered job = []

-- every end of a life is a going, and a login a coming
abbrev pub presence_of : Life → Decision → Option PresenceEvent
presence_of Ends d = Some presence.LoggedOut
presence_of _ LoggedIn = Some presence.LoggedIn
presence_of _ d = None

-- the coming or going that a decision is
abbrev pub presence_for : Decision → Option PresenceEvent
presence_for d = presence_of (life d) d

-- what listeners are told: a coming or going, or what a message notifies
abbrev pub notice_for : Option ControlChanMsg → Option PresenceEvent → Option Notice
notice_for m (Some p) = Some (Presence p)
notice_for m None = option_map Data (option_and_then notice_of m)

-- a notification has the next number of the session
abbrev pub notifications : ℕ → Session → List ℕ → Option Notice → List Action
notifications s v user None = []
notifications s v user (Some what) =
    action.Notify s (record { username = user; trace_id = trace_of v.opening.trace; sequence_number = v.notices + 1 }) what ∷ []

-- a reply is sent where there is one
abbrev pub reply_acts : ℕ → ℕ → Reply → List Action
reply_acts s delay reply.None = []
reply_acts s delay (reply.CodeAndMsg c msg) = action.Reply s delay (reply.CodeAndMsg c msg) ∷ []

-- a new connection that is turned away is closed, and so is one whose header is none
abbrev pub refused_link : EventKind → Decision → List Action
refused_link k Turned = closings (new_number k Turned)
refused_link k (HeaderFault fault) = closings (new_number k (HeaderFault fault))
refused_link k _ = []

-- at an ending the session's own connection is closed last
abbrev pub farewells : ℕ → Decision → List Action
farewells s d = is_ending d ⇒ action.Close s ∷ [] ∣ []

-- what a live session gets: a notice, and a reply
abbrev pub notice_and_reply : Options → ℕ → EventKind → Answer → Decision → Option Running → Session → List Action
notice_and_reply o s k answer d job v =
    let m = message_for v job k answer d in
    notifications s v (logged_user (unwrap_or (login_by d) v.login) v.name) (notice_for m (presence_for d)) ++
    reply_acts s (delay_of d) (reply_for o v m k d)

-- the slot of a session that is live
abbrev pub slot_of : Option Session → Slot
slot_of None = Empty
slot_of (Some v) = v.slot

-- the transfer that waits in the slot of a session that is live
abbrev pub pending_in : Option Session → Option Pending
pending_in None = None
pending_in (Some v) = v.pending

-- the session is live after a decision
abbrev pub stays : Decision → Option Session → Bool
stays d v = is_some v && lives_on d

-- what a session loses with its slot
abbrev pub drop_acts : ℕ → Bool → Decision → Slot → Option Pending → List Action
drop_acts s staying d slot pending = if drops d slot then cancellations s staying pending ++ closings (link_in slot) else []

-- the job that starts
abbrev pub start_acts : Option Running → List Action
start_acts None = []
start_acts (Some r) = action.Start r.job.ticket r.job.number ∷ []

-- the job of a live session that starts with an event
abbrev pub starting : EventKind → Decision → Option Running → Session → Option Running
starting k d job v = started_by k d (queued_for d k v) (lane_in v job)

-- what an event does for the session that it is about, in order, from what the session is before and the job that ran
abbrev pub session_acts : Options → ℕ → EventKind → Answer → Decision → Option Running → Option Session → List Action
session_acts o s k answer d job v =
    completions s k d (stays d v) job ++
    drop_acts s (stays d v) d (slot_of v) (pending_in v) ++
    refused_link k d ++
    option_map_or (notice_and_reply o s k answer d job) v [] ++
    start_acts (option_and_then (starting k d job) v) ++
    farewells s d

-- what an entry does for the session that it is about
abbrev pub acts_for : Options → List Entry → Entry → ℕ → List Action
acts_for o past e s = session_acts o s e.event.kind e.answer e.decision (running_job o past s) (session o past s)

-- what an entry does for whom it is about, one session after the other
abbrev pub subject_acts : Options → List Entry → Entry → Subject → List Action
subject_acts o past e Nobody = refused_link e.event.kind e.decision
subject_acts o past e (One s) = acts_for o past e s
subject_acts o past e All = flat_map (acts_for o past e) (live_sessions o past)

-- what an entry does
abbrev pub acts_of : Options → List Entry → Entry → List Action
acts_of o past e =
    is_refusal e.decision ⇒ []
    ∣ subject_acts o past e (subject o past e)

-- the actions of an entry, after a log
unfoldable pub acts : Options → List Entry → Entry → List Action
acts o log e = acts_of o (past_of log) e
