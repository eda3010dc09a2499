-- The log, newest entry first.
use Rattle.std.specs.Prelude.{ℕ, Bool, true, false, not, List, filter, Option, Some, None}
use Rattle.std.specs.List.{list_any}
use Rattle.ftp_transfer.specs.declared.job.Ticket.{Ticket}
use Rattle.ftp_events.specs.declared.entry.Entry.{Entry}
use Rattle.ftp_events.specs.declared.event.EventKind.{EventKind}
use Rattle.ftp_events.specs.declared.event.EventKind.TheVariants.{Connect, Proxied, DataIn, Accepted, User, Pass, AuthDone, Pasv, Port, Transfer, Stou, Rest, Cwd, Abor, Internal, SlotTick, IdleTick, End, Piece}
use Rattle.ftp_events.specs.declared.event.EventKind.TheVariants as kind
use Rattle.ftp_events.specs.declared.decision.Decision.{Decision}
use Rattle.ftp_events.specs.declared.decision.Decision.TheVariants.{UnknownNumber, UsedNumber, Misplaced, NotExpected, PortOk}
use Rattle.ftp_events.specs.Words.{is_number}
use Rattle.ftp_events.specs.Classes.{is_stop}

-- a log as callers see it: the entries, the newest first, and how many more need no memory
pub record LogState : Type 0 where
  pub entries : List Entry
  pub room : ℕ

-- the four refusals
abbrev pub is_refusal : Decision → Bool
is_refusal UnknownNumber = true
is_refusal UsedNumber = true
is_refusal Misplaced = true
is_refusal NotExpected = true
is_refusal _ = false

-- the entries that were not refused: every question on the past is asked of these alone
abbrev pub past_of : List Entry → List Entry
past_of log = filter (λ e. not (is_refusal e.decision)) log

-- the number that an entry carries as new: that of a PORT where its connection is taken
abbrev pub new_number : EventKind → Decision → Option ℕ
new_number (Connect session raw local trace) d = Some session
new_number (Proxied number raw trace) d = Some number
new_number (DataIn number raw port) d = Some number
new_number (Accepted session number raw) d = Some number
new_number (Port session text number) PortOk = number
new_number _ _ = None

-- some entry carries n as new
abbrev pub is_used : List Entry → ℕ → Bool
is_used past n = list_any (λ e. is_number (new_number e.event.kind e.decision) n) past

-- the ticket of the job that an event tells of: of its end, or of a piece, which may be its last
abbrev pub job_ticket : EventKind → Option Ticket
job_ticket (End ticket) = Some ticket
job_ticket (Piece ticket) = Some ticket
job_ticket _ = None

-- the session that an event or its ticket names
abbrev pub named_session : EventKind → Option ℕ
named_session (Accepted session number raw) = Some session
named_session (User session name) = Some session
named_session (Pass session) = Some session
named_session (AuthDone session answer) = Some session
named_session (Pasv session word lookup bound) = Some session
named_session (Port session text number) = Some session
named_session (Transfer session command) = Some session
named_session (Stou session word) = Some session
named_session (Rest session offset) = Some session
named_session (Cwd session path refusal) = Some session
named_session (End ticket) = Some ticket.session
named_session (Piece ticket) = Some ticket.session
named_session (kind.Quit session) = Some session
named_session (kind.Closed session) = Some session
named_session (Abor session) = Some session
named_session (Internal session message) = Some session
named_session (SlotTick session) = Some session
named_session (IdleTick session) = Some session
named_session _ = None

-- a stop has ended every session, and no other is opened
abbrev pub is_stopped : List Entry → Bool
is_stopped past = list_any (λ e. is_stop e.decision) past

-- the event has a name, an address, a path, a command or a message, so that its copy takes memory
abbrev pub has_text : EventKind → Bool
has_text (User session name) = true
has_text (Port session text number) = true
has_text (Transfer session command) = true
has_text (Cwd session path refusal) = true
has_text (Internal session message) = true
has_text _ = false
