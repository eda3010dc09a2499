-- The lines that an entry tells, one for each: a control connection that opens, a login, one that fails or is locked out, a
-- transfer that is settled, a change of a file or a directory, and a session that ends.
use Rattle.std.specs.Prelude.{ℕ, ◌+◌, ◌-◌, List, [], ◌++◌, Option, Some, None, codes, filter_map, unwrap_or}
use Rattle.std.specs.Option.{option_map, option_to_list}
use Rattle.ftp_base.specs.declared.login.LockState.{LockState}
use Rattle.ftp_base.specs.declared.login.LockState.TheVariants.{AlreadyLocked}
use Rattle.ftp_base.specs.declared.net.IpAddr.{IpAddr}
use Rattle.ftp_base.specs.declared.notice.Notice.{Notice}
use Rattle.ftp_base.specs.declared.notice.Notice.TheVariants.{Presence, Data}
use Rattle.ftp_base.specs.declared.notice.DataEvent.TheVariants.{Deleted, RemovedDir, MadeDir, Renamed}
use Rattle.ftp_base.specs.declared.notice.PresenceEvent.TheVariants as presence
use Rattle.ftp_transfer.specs.declared.job.Completion.{Completion}
use Rattle.ftp_transfer.specs.declared.job.Completion.TheVariants as outcome
use Rattle.ftp_transfer.specs.declared.job.Ticket.{Ticket}
use Rattle.ftp_events.specs.declared.action.Action.{Action}
use Rattle.ftp_events.specs.declared.action.Action.TheVariants.{Notify, Completed, Cancelled}
use Rattle.ftp_events.specs.declared.decision.Decision.{Decision}
use Rattle.ftp_events.specs.declared.decision.Decision.TheVariants as decision
use Rattle.ftp_events.specs.declared.entry.Entry.{Entry}
use Rattle.ftp_events.specs.declared.event.Answer.{Answer}
use Rattle.ftp_events.specs.declared.event.Answer.TheVariants as answer
use Rattle.ftp_events.specs.Log.{named_session, new_number}
use Rattle.ftp_events.specs.Opening.{opening_by}
use Rattle.ftp_events.specs.Tallies.{saturated}
use Rattle.ftp_audit.specs.declared.guest.Guest.{Guest}
use Rattle.ftp_audit.specs.declared.request.Request.{Request}
use Rattle.ftp_audit.specs.declared.line.LogLine.{LogLine}
use Rattle.ftp_audit.specs.declared.line.LineWord.{LineWord}
use Rattle.ftp_audit.specs.declared.line.LineWord.TheVariants as word
use Rattle.ftp_audit.specs.declared.line.LineResult.{LineResult}
use Rattle.ftp_audit.specs.declared.line.LineResult.TheVariants as result

-- a line of no transfer
abbrev pub plain_line : Entry → ℕ → Option IpAddr → List ℕ → LineWord → LineResult → List ℕ → LogLine
plain_line e s client user w r path =
    record { at = e.event.at; session = s; client = client; user = user; word = w; bytes = 0; millis = 0; result = r; path = path; to = None }

-- where the client of a session is
abbrev pub client_of_guest : Option Guest → Option IpAddr
client_of_guest g = option_map (λ g. g.client) g

-- the name that a session gave last
unfoldable pub name_of_guest : Option Guest → List ℕ
name_of_guest None = codes "unknown"
name_of_guest (Some g) = unwrap_or g.name (codes "unknown")

-- ---- decisions

-- a login failed, or would have been let in or not, but its key is locked
abbrev pub failure_result : Option LockState → LineResult
failure_result (Some AlreadyLocked) = result.Locked
failure_result _ = result.Failed

-- a control connection opens
abbrev pub opening_line : Entry → ℕ → LogLine
opening_line e s = plain_line e s (option_map (λ opening. opening.client) (opening_by e.event.kind e.answer)) (codes "unknown") word.Connect result.Done []

-- a login fails
abbrev pub failure_line : Entry → Option LockState → ℕ → Option Guest → LogLine
failure_line e lock s g = plain_line e s (client_of_guest g) (name_of_guest g) word.Login (failure_result lock) []

-- the line that a decision tells
abbrev pub line_by_decision : (ℕ → Option Guest) → Entry → Decision → Option LogLine
line_by_decision guests e decision.Opened = option_map (opening_line e) (new_number e.event.kind decision.Opened)
line_by_decision guests e (decision.LoginFailed lock delay) = option_map (λ s. failure_line e lock s (guests s)) (named_session e.event.kind)
line_by_decision guests e d = None

-- ---- notifications

-- why a session ends
abbrev pub ending_result : Decision → LineResult
ending_result decision.Quit = result.Quit
ending_result decision.TimedOut = result.TimedOut
ending_result decision.Stopped = result.Stopped
ending_result d = result.Closed

-- what a notification of a user tells: a word, how it came out, and a path. What moved is told by its transfer
unfoldable pub told_by_notice : Decision → Notice → Option (LineWord × LineResult × List ℕ)
told_by_notice d (Presence presence.LoggedIn) = Some (word.Login, result.Done, [])
told_by_notice d (Presence presence.LoggedOut) = Some (word.End, ending_result d, [])
told_by_notice d (Data (Deleted path)) = Some (word.Dele, result.Done, path)
told_by_notice d (Data (RemovedDir path)) = Some (word.Rmd, result.Done, path)
told_by_notice d (Data (MadeDir path)) = Some (word.Mkd, result.Done, path)
told_by_notice d (Data (Renamed from to)) = Some (word.Rnto, result.Done, from)
told_by_notice d _ = None

-- the path that a file or a directory has once it was renamed
unfoldable pub new_path : Notice → Option (List ℕ)
new_path (Data (Renamed from to)) = Some to
new_path _ = None

-- the line that a notification of a user tells
abbrev pub line_by_notice : Entry → ℕ → Option Guest → List ℕ → Notice → Option LogLine
line_by_notice e s g user what =
    option_map (λ (t : LineWord × LineResult × List ℕ). record (plain_line e s (client_of_guest g) user t.0 t.1 t.2) { to = new_path what }) (told_by_notice e.decision what)

-- ---- transfers

-- how a transfer ended
abbrev pub line_result_of : Completion → LineResult
line_result_of outcome.Sent = result.Done
line_result_of outcome.Written = result.Done
line_result_of outcome.Listed = result.Done
line_result_of outcome.WriteFailed = result.Failed
line_result_of (outcome.Refused kind) = result.Refused kind
line_result_of outcome.OutOfMemory = result.OutOfMemory

-- how one ended that was not cut
abbrev pub completed_result : Answer → LineResult
completed_result (answer.Done found) = line_result_of found.result
completed_result _ = result.Failed

-- how many bytes it moved, wherever in its file it began
abbrev pub completed_bytes : Answer → ℕ
completed_bytes (answer.Done found) = found.bytes
completed_bytes _ = 0

-- how many bytes one had moved that was cut, or was cancelled before it ran, where its pieces had moved so many
abbrev pub cancelled_bytes : Decision → Answer → ℕ → ℕ
cancelled_bytes decision.Cut (answer.Done found) moved = found.bytes
cancelled_bytes decision.Cut (answer.Moved bytes) moved = saturated (moved + bytes)
cancelled_bytes d given moved = moved

-- the line of a transfer, with its bytes and its result: its time is that from its start on, and 0 where it did not start
abbrev pub settled_line : Entry → Ticket → Option Request → ℕ → LineResult → LogLine
settled_line e t None bytes r =
    record (plain_line e t.session None (codes "unknown") (word.Transfer None) r []) { bytes = bytes }
settled_line e t (Some x) bytes r =
    record (plain_line e t.session (Some x.client) x.user (word.Transfer (Some x.word)) r x.path) {
      bytes = bytes;
      millis = e.event.at - unwrap_or x.started e.event.at;
    }

-- how many bytes the pieces of a transfer moved, where it is known
abbrev pub moved_of : Option Request → ℕ
moved_of None = 0
moved_of (Some x) = x.moved

-- ---- all of them

-- the line that an action tells
abbrev pub line_by_action : (ℕ → Option Guest) → (Ticket → Option Request) → Entry → Action → Option LogLine
line_by_action guests requests e (Notify s meta what) = line_by_notice e s (guests s) meta.username what
line_by_action guests requests e (Completed ticket delivered) =
    Some (settled_line e ticket (requests ticket) (completed_bytes e.answer) (completed_result e.answer))
line_by_action guests requests e (Cancelled ticket) =
    Some (settled_line e ticket (requests ticket) (cancelled_bytes e.decision e.answer (moved_of (requests ticket))) result.Aborted)
line_by_action guests requests e action = None

-- the lines that an entry tells, with what was known before it of sessions and transfers
abbrev pub lines_by : (ℕ → Option Guest) → (Ticket → Option Request) → Entry → List LogLine
lines_by guests requests e =
    option_to_list (line_by_decision guests e e.decision) ++ filter_map (line_by_action guests requests e) e.actions
