-- An entry that is given twice, and the job that starts with it.
use Rattle.std.specs.Prelude.{◌≡◌, ℕ, List, [], ◌∷◌, nat_eq, IsTrue, Option, Some, None, Ok}
use Rattle.std.specs.Option.{option_and_then, option_map}
use Rattle.std.specs.HashMap as map
use Rattle.ftp_base.specs.declared.net.IpAddr.{IpAddr}
use Rattle.ftp_base.specs.declared.net.IpAddr.TheVariants.{V4}
use Rattle.ftp_options.specs.declared.options.Options.{Options}
use Rattle.ftp_options.specs.Modes.{is_control_port}
use Rattle.ftp_transfer.specs.declared.job.Job.{Job}
use Rattle.ftp_transfer.specs.declared.job.Ticket.{Ticket}
use Rattle.ftp_switchboard.specs.Board.{holder_at}
use Rattle.ftp_events.specs.declared.action.Action.{Action}
use Rattle.ftp_events.specs.declared.action.Action.TheVariants as action
use Rattle.ftp_events.specs.declared.decision.Decision.{Decision}
use Rattle.ftp_events.specs.declared.decision.Decision.TheVariants.{Queued}
use Rattle.ftp_events.specs.declared.entry.Entry.{Entry}
use Rattle.ftp_events.specs.declared.event.Answer.{Answer}
use Rattle.ftp_events.specs.declared.event.Answer.TheVariants.{Header}
use Rattle.ftp_events.specs.declared.event.EventKind.{EventKind}
use Rattle.ftp_events.specs.declared.event.EventKind.TheVariants as kind
use Rattle.ftp_events.specs.declared.event.HubEvent.{HubEvent}
use Rattle.ftp_events.specs.declared.session.Pending.{Pending}
use Rattle.ftp_events.specs.declared.session.Session.{Session}
use Rattle.ftp_events.specs.Acts.{starting}
use Rattle.ftp_events.specs.History.{Subject, One, subject}
use Rattle.ftp_events.specs.Log.{is_refusal, named_session}
use Rattle.ftp_events.specs.Session.{session, running_job}
use Rattle.ftp_events.specs.Words.{◌⇒◌∣◌}
use Rattle.ftp_hub.specs.declared.hub.Hub.{Hub}
use Rattle.ftp_hub.specs.declared.twin.TwinRoom.{TwinRoom}
use Rattle.ftp_handlers.specs.Rooms.{twice_in}
use Rattle.ftp_hub.specs.Stands.{Fits, pending_for}

-- the job that starts for whom an entry is about
abbrev pub started_for : Options → List Entry → Entry → Subject → Option Job
started_for o past e (One s) =
    option_map (λ r. r.job) (option_and_then (starting e.event.kind e.decision (running_job o past s)) (session o past s))
started_for o past e _ = None

-- the job that starts with an entry
abbrev pub started_job : Options → List Entry → Entry → Option Job
started_job o past e = is_refusal e.decision ⇒ None ∣ started_for o past e (subject o past e)

-- the ticket and the link of the first job that starts
abbrev pub first_start : List Action → Option (Ticket × ℕ)
first_start [] = None
first_start (action.Start ticket number ∷ rest) = Some (ticket, number)
first_start (a ∷ rest) = first_start rest

-- the job of a transfer, under this ticket, on this link, of which nothing has moved
abbrev pub job_at : Pending → Ticket × ℕ → Job
job_at p at =
    record { ticket = at.0; user = p.user; command = p.command; path = p.path; offset = p.offset; number = at.1; done = 0 }

-- the transfer that an entry can start: the one that it queues, or the one that waits
abbrev pub can_start : Decision → Option Pending → Option Pending → Option Pending
can_start (Queued ticket) asked waiting = asked
can_start d asked waiting = waiting

-- the session that holds what a connection comes for
abbrev pub arrival_holder : Hub → IpAddr → ℕ → Option ℕ
arrival_holder hub (V4 source) port = holder_at hub.board source port
arrival_holder hub _ port = None

-- the session that an event with its answer names, or that holds what it comes for
abbrev pub concerned_in : Hub → EventKind → Answer → Option ℕ
concerned_in hub (kind.DataIn number raw port) answer = arrival_holder hub raw.ip port
concerned_in hub (kind.Proxied number raw trace) (Header (Ok line)) =
    is_control_port hub.options.mode line.destination.port ⇒ None
    ∣ arrival_holder hub line.source.ip line.destination.port
concerned_in hub k answer = named_session k

-- that session, where it is live
abbrev pub subject_in : Hub → EventKind → Answer → Option Session
subject_in hub k answer = option_and_then (map.get nat_eq hub.sessions) (concerned_in hub k answer)

-- the transfer that waits in its slot
abbrev pub waiting_in : Hub → EventKind → Answer → Option Pending
waiting_in hub k answer = option_and_then (λ v. v.pending) (subject_in hub k answer)

-- the room is of this event and answer, and holds all twice, with copies of the event and of the transfers that it can start
pub record FitsTwin (room : TwinRoom) (hub : Hub) (event : HubEvent) (answer : Answer) : Type 0 where
  pub fits : Fits room.room.value hub event
  pub twice : IsTrue (twice_in room.room.value)
  pub copy : room.copies.value.event ≡ event
  pub asked : room.copies.value.asked ≡ pending_for hub event.kind
  pub waiting : room.copies.value.waiting ≡ waiting_in hub event.kind answer
