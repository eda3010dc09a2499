-- The words that most proofs on the hub cite, passed on from one place. Declares nothing.
pub use Rattle.ftp_base.specs.Net.{ipv4}
pub use Rattle.ftp_base.specs.declared.net.IpAddr.{IpAddr}
pub use Rattle.ftp_base.specs.declared.net.IpAddr.TheVariants.{V4}
pub use Rattle.ftp_events.specs.Acts.{session_acts, starting}
unfoldable pub use Rattle.ftp_events.specs.Acts.{acts}
pub use Rattle.ftp_events.specs.Board.{holder}
unfoldable pub use Rattle.ftp_events.specs.Decide.{decide}
pub use Rattle.ftp_events.specs.History.{history}
pub use Rattle.ftp_events.specs.Lockout.{failures}
pub use Rattle.ftp_events.specs.Log.{is_refusal, is_used, job_ticket, named_session, new_number, past_of}
pub use Rattle.ftp_events.specs.Right.{IsActed, IsRight}
pub use Rattle.ftp_events.specs.Running.{running_after, stopped}
pub use Rattle.ftp_events.specs.Session.{live_after, lives_on, next_lane, next_running, running_job, session, session_after}
pub use Rattle.ftp_events.specs.Slot.{kept_running, waiting_port}
pub use Rattle.ftp_events.specs.declared.action.Action.{Action}
pub use Rattle.ftp_events.specs.declared.decision.Decision.{Decision}
pub use Rattle.ftp_events.specs.declared.entry.Entry.{Entry}
pub use Rattle.ftp_events.specs.declared.event.Answer.{Answer}
pub use Rattle.ftp_events.specs.declared.event.EventKind.{EventKind}
pub use Rattle.ftp_events.specs.declared.event.HubEvent.{HubEvent}
pub use Rattle.ftp_events.specs.declared.session.Pending.{Pending}
pub use Rattle.ftp_events.specs.declared.session.Running.{Running}
pub use Rattle.ftp_events.specs.declared.session.Session.{Session}
pub use Rattle.ftp_handlers.specs.Handlers.{IsFew, Jobs, Starts, failures_in, held_after, notices_of}
pub use Rattle.ftp_hub.specs.Runs.{is_linked}
pub use Rattle.ftp_hub.specs.Stands.{Serves, Stands, Tables, entry, options_of}
pub use Rattle.ftp_hub.specs.declared.hub.Hub.{Hub}
pub use Rattle.ftp_laws.proofs.TableLemmas.{same-both}
pub use Rattle.ftp_lockout.specs.declared.key.LoginKey.{LoginKey}
pub use Rattle.ftp_switchboard.specs.Used.{has}
pub use Rattle.ftp_options.specs.Modes.{is_legacy}
pub use Rattle.ftp_options.specs.declared.options.Options.{Options}
pub use Rattle.ftp_switchboard.specs.Board.{holder_at}
pub use Rattle.ftp_transfer.specs.declared.job.Ticket.{Ticket}
