-- How the log is printed: the lines of each entry.
use Rattle.std.specs.Prelude.{ℕ, Bool, true, false, List, [], ◌∷◌, ◌++◌, length, codes, Option, Result, Ok, Err}
use Rattle.std.specs.List.{flat_map}
use Rattle.std.specs.Option.{option_map_or}
use Rattle.ftp_base.specs.declared.notice.PresenceEvent.TheVariants as presence
use Rattle.ftp_base.specs.declared.notice.DataEvent.TheVariants.{Got, Put, Deleted, MadeDir, RemovedDir, Renamed}
use Rattle.ftp_base.specs.declared.notice.Notice.{Notice}
use Rattle.ftp_base.specs.declared.notice.Notice.TheVariants as notice
use Rattle.ftp_base.specs.declared.notice.EventMeta.{EventMeta}
use Rattle.ftp_base.specs.declared.reply.Reply.{Reply}
use Rattle.ftp_base.specs.declared.reply.Reply.TheVariants as reply
use Rattle.ftp_base.specs.Reply.{code_text}
use Rattle.ftp_base.specs.Trace.{trace_text}
use Rattle.ftp_base.specs.declared.login.LockState.{LockState}
use Rattle.ftp_base.specs.declared.login.LockState.TheVariants as lock
use Rattle.ftp_base.specs.contracts.login.LockStatePartialEq.TheImpl as lock_eq
use Rattle.ftp_proxy.specs.declared.error.ProxyError.{ProxyError}
use Rattle.ftp_proxy.specs.declared.header.ProxyHeader.{ProxyHeader}
use Rattle.ftp_transfer.specs.declared.job.Completion.{Completion}
use Rattle.ftp_transfer.specs.declared.job.Completion.TheVariants as result
use Rattle.ftp_transfer.specs.declared.job.Outcome.{Outcome}
use Rattle.ftp_events.specs.declared.action.Action.{Action}
use Rattle.ftp_events.specs.declared.action.Action.TheVariants as action
use Rattle.ftp_events.specs.declared.decision.Decision.{Decision}
use Rattle.ftp_events.specs.declared.decision.Decision.TheVariants as decision
use Rattle.ftp_events.specs.declared.entry.Entry.{Entry}
use Rattle.ftp_events.specs.declared.event.Answer.{Answer}
use Rattle.ftp_events.specs.declared.event.Answer.TheVariants as answer
use Rattle.ftp_text.specs.Fields.{field, number, address_text, escape, optional, ticket, word_in, kind_text, fault_text, proxy_error_text}
use Rattle.ftp_text.specs.Events.{event_line}

-- a line with its line feed
abbrev pub line : List ℕ → List ℕ
line text = text ++ 10 ∷ []

-- ---- decisions

-- the words of the lock
abbrev pub lock_words : List (List ℕ × LockState)
lock_words = (codes "reached", lock.MaxFailuresReached) ∷ (codes "locked", lock.AlreadyLocked) ∷ []

-- how a login stands with the lock
abbrev pub lock_text : Option LockState → List ℕ
lock_text state = option_map_or (word_in lock_eq.ghosts.eq lock_words) state (codes "none")

-- the name of a decision
abbrev pub decision_text : Decision → List ℕ
decision_text decision.UnknownNumber = codes "unknown"
decision_text decision.UsedNumber = codes "used"
decision_text decision.Misplaced = codes "misplaced"
decision_text decision.NotExpected = codes "notexpected"
decision_text decision.Opened = codes "opened"
decision_text decision.Turned = codes "turned"
decision_text (decision.HeaderFault fault) = codes "headerfault"
decision_text (decision.Attached s) = codes "attached"
decision_text decision.BadSequence = codes "badsequence"
decision_text decision.NeedPass = codes "needpass"
decision_text decision.PassOut = codes "passout"
decision_text decision.Reauth = codes "reauth"
decision_text decision.LoggedIn = codes "loggedin"
decision_text (decision.LoginFailed lock delay) = codes "loginfailed"
decision_text decision.NotLoggedIn = codes "notloggedin"
decision_text decision.ModeOff = codes "modeoff"
decision_text decision.Full = codes "full"
decision_text decision.NoLookup = codes "nolookup"
decision_text (decision.Granted port) = codes "granted"
decision_text decision.NoSocket = codes "nosocket"
decision_text decision.BadAddress = codes "badaddress"
decision_text decision.OtherAddress = codes "otheraddress"
decision_text decision.NoConnection = codes "noconnection"
decision_text decision.PortOk = codes "portok"
decision_text decision.NoSlot = codes "noslot"
decision_text (decision.Queued t) = codes "queued"
decision_text decision.Finished = codes "finished"
decision_text decision.Moved = codes "moved"
decision_text decision.Cut = codes "cut"
decision_text decision.NoRestart = codes "norestart"
decision_text decision.RestOk = codes "restok"
decision_text (decision.CwdRefused kind) = codes "cwdrefused"
decision_text decision.CwdOk = codes "cwdok"
decision_text decision.Closed = codes "closed"
decision_text decision.Quit = codes "quit"
decision_text decision.Early = codes "early"
decision_text decision.SlotDropped = codes "slotdropped"
decision_text decision.Swept = codes "swept"
decision_text decision.Aborted = codes "aborted"
decision_text decision.Aborting = codes "aborting"
decision_text decision.NothingToAbort = codes "nothingtoabort"
decision_text decision.Told = codes "told"
decision_text decision.Waited = codes "waited"
decision_text decision.TimedOut = codes "timedout"
decision_text decision.Scavenged = codes "scavenged"
decision_text decision.Stopped = codes "stopped"

-- decided on an event of the server's own: a piece that moved or was the last, a look at a session or at the tables, or the
-- stop
abbrev pub is_of_own : Decision → Bool
is_of_own decision.Moved = true
is_of_own decision.Cut = true
is_of_own decision.Early = true
is_of_own decision.Waited = true
is_of_own decision.SlotDropped = true
is_of_own decision.TimedOut = true
is_of_own decision.Swept = true
is_of_own decision.Scavenged = true
is_of_own decision.Stopped = true
is_of_own _ = false

-- the fields behind a decision's name
abbrev pub decision_fields : Decision → List ℕ
decision_fields (decision.HeaderFault fault) = field (proxy_error_text fault)
decision_fields (decision.Attached s) = number s
decision_fields (decision.LoginFailed lock delay) = field (lock_text lock) ++ number delay
decision_fields (decision.Granted port) = number port
decision_fields (decision.Queued t) = ticket t.session t.nr
decision_fields (decision.CwdRefused kind) = field (kind_text kind)
decision_fields _ = []

-- the line of a decision
abbrev pub decision_line : Decision → List ℕ
decision_line d = line (61 ∷ field (decision_text d) ++ decision_fields d)

-- ---- answers

-- the client and the address that it called, or why the header of a proxy is none
abbrev pub header_fields : Result ProxyHeader ProxyError → List ℕ
header_fields (Ok line) = field (address_text line.source) ++ field (address_text line.destination)
header_fields (Err fault) = field (proxy_error_text fault)

-- how a transfer ended
abbrev pub result_text : Completion → List ℕ
result_text result.Sent = codes "sent"
result_text result.Written = codes "written"
result_text result.Listed = codes "listed"
result_text result.WriteFailed = codes "writefailed"
result_text (result.Refused kind) = kind_text kind
result_text result.OutOfMemory = codes "memory"

-- how a transfer ended, how many bytes it moved, and what its link met
abbrev pub outcome_fields : Outcome → List ℕ
outcome_fields o = field (result_text o.result) ++ number o.bytes ++ optional fault_text o.fault

-- the line of an answer, where something was asked
abbrev pub answer_line : Answer → List ℕ
answer_line answer.None = []
answer_line (answer.Header header) = line (codes "? header" ++ header_fields header)
answer_line (answer.Done o) = line (codes "? done" ++ outcome_fields o)
answer_line (answer.Moved bytes) = line (codes "? moved" ++ number bytes)

-- ---- actions

-- the word of a notice
abbrev pub notice_text : Notice → List ℕ
notice_text (notice.Presence presence.LoggedIn) = codes "login"
notice_text (notice.Presence presence.LoggedOut) = codes "logout"
notice_text (notice.Data (Got path bytes)) = codes "got"
notice_text (notice.Data (Put path bytes)) = codes "put"
notice_text (notice.Data (Deleted path)) = codes "deleted"
notice_text (notice.Data (MadeDir path)) = codes "madedir"
notice_text (notice.Data (RemovedDir path)) = codes "removeddir"
notice_text (notice.Data (Renamed from to)) = codes "renamed"

-- the bytes that a notice tells of, 0 where it tells of none
abbrev pub notice_bytes : Notice → ℕ
notice_bytes (notice.Data (Got path bytes)) = bytes
notice_bytes (notice.Data (Put path bytes)) = bytes
notice_bytes _ = 0

-- the paths of a notice, the first and the second
abbrev pub first_path : Notice → List ℕ
first_path (notice.Presence p) = []
first_path (notice.Data (Got path bytes)) = path
first_path (notice.Data (Put path bytes)) = path
first_path (notice.Data (Deleted path)) = path
first_path (notice.Data (MadeDir path)) = path
first_path (notice.Data (RemovedDir path)) = path
first_path (notice.Data (Renamed from to)) = from

abbrev pub second_path : Notice → List ℕ
second_path (notice.Data (Renamed from to)) = to
second_path _ = []

-- whom a notice is about, what it says, and the lengths of the user name and the first path before all texts as one
abbrev pub notify_fields : ℕ → EventMeta → Notice → List ℕ
notify_fields s meta what =
    number s ++ number meta.sequence_number ++ field (trace_text meta.trace_id.0) ++ field (notice_text what) ++ number (notice_bytes what)
    ++ number (length meta.username) ++ number (length (first_path what)) ++ field (escape (meta.username ++ first_path what ++ second_path what))

-- the code and the text of a reply
abbrev pub reply_fields : Reply → List ℕ
reply_fields reply.None = []
reply_fields (reply.CodeAndMsg code text) = field (code_text code) ++ field (escape text)

-- whether a session was told of the end
abbrev pub delivered_text : Bool → List ℕ
delivered_text true = codes "delivered"
delivered_text false = codes "lost"

-- the name and the fields of an action
abbrev pub action_fields : Action → List ℕ
action_fields (action.Completed t delivered) = codes "- completed" ++ ticket t.session t.nr ++ field (delivered_text delivered)
action_fields (action.Cancelled t) = codes "- cancelled" ++ ticket t.session t.nr
action_fields (action.Close n) = codes "- close" ++ number n
action_fields (action.Notify s meta what) = codes "- notify" ++ notify_fields s meta what
action_fields (action.Reply s delay r) = codes "- reply" ++ number s ++ number delay ++ reply_fields r
action_fields (action.Start t n) = codes "- start" ++ ticket t.session t.nr ++ number n

-- the line of an action
abbrev pub action_line : Action → List ℕ
action_line a = line (action_fields a)

-- ---- entries

-- the lines of an entry: its event, its answer, its decision, and its actions
abbrev pub entry_lines : Entry → List ℕ
entry_lines e = line (codes "> " ++ event_line e.event) ++ answer_line e.answer ++ decision_line e.decision ++ flat_map action_line e.actions

-- the printed log, the oldest entry first
abbrev pub print : List Entry → List ℕ
print log = flat_map entry_lines log
