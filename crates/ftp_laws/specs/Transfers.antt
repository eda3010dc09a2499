-- What was fixed of a transfer when it was queued, and on which link it was started.
use Rattle.std.specs.Prelude.{ℕ, ◌≡◌, ◌⊎◌, ◌&&◌, Bool, false, ◌==◌, List, [], ◌∷◌, Some}
use Rattle.std.specs.List.{list_any}
use Rattle.ftp_options.specs.declared.options.Options.{Options}
use Rattle.ftp_transfer.specs.declared.job.Job.{Job}
use Rattle.ftp_transfer.specs.declared.job.Ticket.{Ticket}
use Rattle.ftp_events.specs.declared.action.Action.{Action}
use Rattle.ftp_events.specs.declared.action.Action.TheVariants.{Start}
use Rattle.ftp_events.specs.declared.decision.Decision.TheVariants.{Queued}
use Rattle.ftp_events.specs.declared.entry.Entry.{Entry}
use Rattle.ftp_events.specs.declared.session.Pending.{Pending}
use Rattle.ftp_events.specs.declared.session.Session.{Session}
use Rattle.ftp_events.specs.Login.{logged_user}
use Rattle.ftp_events.specs.Session.{session}
use Rattle.ftp_events.specs.Slot.{asked_command}
use Rattle.ftp_events.specs.Transfer.{same_ticket, command_path, command_offset}

-- a job without its link
abbrev pub transfer_of : Job → Pending
transfer_of j = record { ticket = j.ticket; user = j.user; command = j.command; path = j.path; offset = j.offset }

-- the entry queues the transfer that its command asks for: for the user of its session, at the path in the session's
-- directory, from the session's offset, as they are then
pub record IsQueuedBy (o : Options) (past : List Entry) (e : Entry) (p : Pending) : Type 0 where
  pub session_then : Session
  pub live : session o past p.ticket.session ≡ Some session_then
  pub decided : e.decision ≡ Queued p.ticket
  pub asked : asked_command e.event.kind ≡ Some p.command
  pub user : p.user ≡ logged_user session_then.login session_then.name
  pub path : p.path ≡ command_path session_then.cwd p.command
  pub offset : p.offset ≡ command_offset session_then.offset p.command

-- some entry queued it so
abbrev pub WasQueuedSo : Options → List Entry → Pending → Type 0
WasQueuedSo o [] p = ⊥
WasQueuedSo o (e ∷ past) p = IsQueuedBy o past e p ⊎ WasQueuedSo o past p

-- the action starts the transfer on link n
abbrev pub starts_it : Ticket → ℕ → Action → Bool
starts_it t n (Start ticket number) = same_ticket ticket t && (number == n)
starts_it t n _ = false

-- some entry started it on link n
abbrev pub was_started : Ticket → ℕ → List Entry → Bool
was_started t n log = list_any (λ e. list_any (starts_it t n) e.actions) log
