-- What is decided on each event.
use Rattle.std.specs.Prelude.{ℕ, Bool, false, not, is_some, List, Option, Some, None}
use Rattle.std.specs.Option.{option_and_then, option_map_or}
use Rattle.ftp_options.specs.declared.options.Options.{Options}
use Rattle.ftp_events.specs.declared.entry.Entry.{Entry}
use Rattle.ftp_events.specs.declared.event.HubEvent.{HubEvent}
use Rattle.ftp_events.specs.declared.event.EventKind.{EventKind}
use Rattle.ftp_events.specs.declared.event.EventKind.TheVariants as kind
use Rattle.ftp_events.specs.declared.event.Answer.{Answer}
use Rattle.ftp_events.specs.declared.decision.Decision.{Decision}
use Rattle.ftp_events.specs.declared.decision.Decision.TheVariants.{UnknownNumber, Swept, Scavenged, Stopped}
use Rattle.ftp_events.specs.declared.session.Running.{Running}
use Rattle.ftp_events.specs.declared.session.Session.{Session}
use Rattle.ftp_events.specs.Log.{past_of, named_session, is_used}
use Rattle.ftp_events.specs.Board.{holder}
use Rattle.ftp_events.specs.Session.{session, running_job}
use Rattle.ftp_events.specs.ConnectionRows.{connect_row, data_row, proxied_row}
use Rattle.ftp_events.specs.CommandRows.{Around, command_row}
use Rattle.ftp_events.specs.Lockout.{failures}
use Rattle.ftp_events.specs.EndRows.{end_row, piece_row}

-- the rows of a session that has to be live
abbrev pub if_live : Option Session → (Session → Decision) → Decision
if_live v row = option_map_or row v UnknownNumber

-- a job of the session that an event names runs
abbrev pub is_at_work : Options → List Entry → EventKind → Bool
is_at_work o past k = option_map_or (λ s. is_some (running_job o past s)) (named_session k) false

-- the job that runs is not to stop yet
abbrev pub is_stoppable : Option Running → Bool
is_stoppable None = false
is_stoppable (Some r) = not r.marked

-- a job of the session that an event names runs, and is not to stop yet
abbrev pub can_stop : Options → List Entry → EventKind → Bool
can_stop o past k = option_map_or (λ s. is_stoppable (running_job o past s)) (named_session k) false

-- what a command of a session is decided by beside that session
abbrev pub around : Options → List Entry → ℕ → EventKind → Session → Around
around o past at k v =
    record { holders = holder o past v.opening.client; failures = failures o past; used = is_used past; runs = is_at_work o past k; can_stop = can_stop o past k; at = at }

-- the decision that is due: on a connection, on the end of a job, on what concerns every session, or on a command of the session that is named
abbrev pub due : Options → List Entry → ℕ → EventKind → Answer → Decision
due o past at (kind.Connect s raw local trace) answer = connect_row o past s raw local
due o past at (kind.Proxied number raw trace) answer = proxied_row o past number raw answer
due o past at (kind.DataIn number raw port) answer = data_row o past number raw port
due o past at (kind.End ticket) answer = end_row ticket answer (running_job o past ticket.session)
due o past at (kind.Piece ticket) answer = piece_row ticket answer (running_job o past ticket.session)
due o past at kind.Sweep answer = Swept
due o past at kind.Scavenge answer = Scavenged
due o past at kind.Shutdown answer = Stopped
due o past at k answer =
    if_live (option_and_then (session o past) (named_session k)) (λ v. command_row o (around o past at k v) k v)

-- the decision on an event and its answer, after a log
unfoldable pub decide : Options → List Entry → HubEvent → Answer → Decision
decide o log event answer = due o (past_of log) event.at event.kind answer
