-- The words of logs that most proofs cite, passed on from one place. Declares nothing.
pub use Rattle.ftp_base.specs.Net.{same_ip}
pub use Rattle.ftp_base.specs.declared.net.IpAddr.{IpAddr}
pub use Rattle.ftp_events.specs.Acts.{acts_for, acts_of, cancellations, closings, completions, drop_acts, subject_acts, link_in, pending_in, refused_link, slot_of, start_acts, starting, stays}
unfoldable pub use Rattle.ftp_events.specs.Acts.{acts}
pub use Rattle.ftp_events.specs.Board.{Target, comes_to, ends_hold, gives_hold, gives_up_hold, granted_port, holder, holder_of_target, is_client, target}
unfoldable pub use Rattle.ftp_events.specs.Decide.{decide}
pub use Rattle.ftp_events.specs.Classes.{life, ends, is_ending, slot_move, gives_up}
pub use Rattle.ftp_events.specs.Decide.{due}
pub use Rattle.ftp_events.specs.Fate.{is_pending}
pub use Rattle.ftp_events.specs.History.{Subject, concerns, history, meant, opens, subject}
pub use Rattle.ftp_events.specs.Isolation.{client_log}
pub use Rattle.ftp_events.specs.Log.{is_refusal, is_used, job_ticket, named_session, new_number, past_of}
pub use Rattle.ftp_events.specs.Opening.{opened_number, opener, opening_by}
pub use Rattle.ftp_events.specs.Right.{IsActed, IsRight}
pub use Rattle.ftp_events.specs.Session.{lives_on, running_job, session}
pub use Rattle.ftp_events.specs.Slot.{Lane, drops, empties, kept_running, lane, lane_after, lane_of, moved, queued_in, starts_by, with_link}
pub use Rattle.ftp_events.specs.Words.{is_number}
pub use Rattle.ftp_events.specs.declared.action.Action.{Action}
pub use Rattle.ftp_events.specs.declared.decision.Decision.{Decision}
pub use Rattle.ftp_events.specs.declared.decision.Life.{Life}
pub use Rattle.ftp_events.specs.declared.decision.SlotMove.{SlotMove}
pub use Rattle.ftp_events.specs.declared.entry.Entry.{Entry}
pub use Rattle.ftp_events.specs.declared.event.Answer.{Answer}
pub use Rattle.ftp_events.specs.declared.event.EventKind.{EventKind}
pub use Rattle.ftp_events.specs.declared.session.Opening.{Opening}
pub use Rattle.ftp_events.specs.declared.session.Pending.{Pending}
pub use Rattle.ftp_events.specs.declared.session.Running.{Running}
pub use Rattle.ftp_events.specs.declared.session.Session.{Session}
pub use Rattle.ftp_events.specs.declared.session.Slot.{Slot}
pub use Rattle.ftp_options.specs.Modes.{is_legacy}
pub use Rattle.ftp_options.specs.declared.options.Options.{Options}
pub use Rattle.ftp_transfer.specs.declared.job.Ticket.{Ticket}
