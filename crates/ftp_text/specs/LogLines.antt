-- The lines of a printed log, without their line feeds: an options line, and what the lines of entries say.
use Rattle.std.specs.Prelude.{◌≡◌, ℕ, ◌^◌, ◌<◌, Bool, true, false, List, [], ◌∷◌, ◌++◌, length, codes, Option, Some, None, Ok, Err}
use Rattle.ftp_base.specs.declared.fault.LinkFault.{LinkFault}
use Rattle.ftp_base.specs.declared.notice.DataEvent.TheVariants.{Got, Put, Deleted, MadeDir, RemovedDir, Renamed}
use Rattle.ftp_base.specs.declared.notice.Notice.{Notice}
use Rattle.ftp_base.specs.declared.notice.Notice.TheVariants as notice
use Rattle.ftp_base.specs.declared.notice.EventMeta.{EventMeta}
use Rattle.ftp_base.specs.declared.reply.Reply.TheVariants as reply
use Rattle.ftp_transfer.specs.declared.job.Ticket.{Ticket}
use Rattle.ftp_events.specs.declared.action.Action.{Action}
use Rattle.ftp_events.specs.declared.action.Action.TheVariants as action
use Rattle.ftp_events.specs.declared.decision.Decision.{Decision}
use Rattle.ftp_events.specs.declared.decision.Decision.TheVariants as decision
use Rattle.ftp_events.specs.declared.event.Answer.{Answer}
use Rattle.ftp_events.specs.declared.event.Answer.TheVariants as answer
use Rattle.ftp_text.specs.Fields.{field, number, fault_text, IsAddress, IsNumber, IsText}
use Rattle.ftp_text.specs.declared.setup.Item.{Item}
use Rattle.ftp_text.specs.declared.setup.Item.TheVariants as item
use Rattle.ftp_text.specs.Events.{event_line, IsEvent}
use Rattle.ftp_text.specs.Setup.{item_line, IsItem}
use Rattle.ftp_text.specs.Printing.{decision_text, decision_fields, header_fields, outcome_fields, action_fields}
use Rattle.ftp_text.specs.LineWords.{AnswerWord}
use Rattle.ftp_text.specs.LineWords as word
use Rattle.ftp_text.specs.declared.line.LogLine.{LogLine}
use Rattle.ftp_text.specs.declared.line.LogLine.TheVariants as says

-- ---- spelling

-- the word of each answer
abbrev pub answer_word_text : AnswerWord → List ℕ
answer_word_text word.Header = codes "header"
answer_word_text word.Done = codes "done"
answer_word_text word.Moved = codes "moved"

-- what a link met, or a hyphen
abbrev pub maybe_fault_text : Option LinkFault → List ℕ
maybe_fault_text None = codes "-"
maybe_fault_text (Some fault) = fault_text fault

-- an answer, where something was asked
abbrev pub answer_text : Answer → List ℕ
answer_text answer.None = []
answer_text (answer.Header header) = codes "? header" ++ header_fields header
answer_text (answer.Done o) = codes "? done" ++ outcome_fields o
answer_text (answer.Moved bytes) = codes "? moved" ++ number bytes

-- a decision
abbrev pub decided_text : Decision → List ℕ
decided_text d = 61 ∷ field (decision_text d) ++ decision_fields d

-- what a line says, as it is spelled
abbrev pub log_line : LogLine → List ℕ
log_line (says.Options i) = item_line i
log_line (says.Event e) = codes "> " ++ event_line e
log_line (says.Answer a) = answer_text a
log_line (says.Decision d) = decided_text d
log_line (says.Action a) = action_fields a

-- ---- the ranges of the values

-- the numbers of a transfer fit their types
abbrev pub IsTicket : Ticket → Type 0
IsTicket t = IsNumber t.session × IsNumber t.nr

-- something was asked, and the fields of the answer fit their types
abbrev pub IsAnswer : Answer → Type 0
IsAnswer answer.None = ⊥
IsAnswer (answer.Header (Ok header)) = IsAddress header.source × IsAddress header.destination
IsAnswer (answer.Header (Err fault)) = Unit {0}
IsAnswer (answer.Done o) = IsNumber o.bytes
IsAnswer (answer.Moved bytes) = IsNumber bytes

-- the fields of a decision fit their types
abbrev pub IsDecision : Decision → Type 0
IsDecision (decision.Attached s) = IsNumber s
IsDecision (decision.LoginFailed lock delay) = delay < 2 ^ 32
IsDecision (decision.Granted port) = port < 2 ^ 16
IsDecision (decision.Queued t) = IsTicket t
IsDecision _ = Unit {0}

-- the path is bytes, and its length fits its type
abbrev pub IsPath : List ℕ → Type 0
IsPath path = IsText path × IsNumber (length path)

-- the fields of a notice fit their types
abbrev pub IsNotice : Notice → Type 0
IsNotice (notice.Presence p) = Unit {0}
IsNotice (notice.Data (Got path bytes)) = IsPath path × IsNumber bytes
IsNotice (notice.Data (Put path bytes)) = IsPath path × IsNumber bytes
IsNotice (notice.Data (Deleted path)) = IsPath path
IsNotice (notice.Data (MadeDir path)) = IsPath path
IsNotice (notice.Data (RemovedDir path)) = IsPath path
IsNotice (notice.Data (Renamed from to)) = IsPath from × IsText to

-- the trace id, the place and the name of whom a notice is about fit their types
abbrev pub IsMeta : EventMeta → Type 0
IsMeta meta = IsNumber meta.sequence_number × IsNumber meta.trace_id.0 × IsPath meta.username

-- the fields of an action fit their types, and a reply says something
abbrev pub IsAction : Action → Type 0
IsAction (action.Completed t delivered) = IsTicket t
IsAction (action.Cancelled t) = IsTicket t
IsAction (action.Close n) = IsNumber n
IsAction (action.Notify s meta what) = IsNumber s × IsMeta meta × IsNotice what
IsAction (action.Reply s delay reply.None) = ⊥
IsAction (action.Reply s delay (reply.CodeAndMsg code text)) = IsNumber s × (delay < 2 ^ 32) × IsText text
IsAction (action.Start t n) = IsTicket t × IsNumber n

-- whether an item is the options
abbrev pub is_options : Item → Bool
is_options (item.Options mode lo hi host active idle lockout restart) = true
is_options _ = false

-- what a line says fits its type
abbrev pub IsLogLine : LogLine → Type 0
IsLogLine (says.Options i) = (is_options i ≡ true) × IsItem i
IsLogLine (says.Event e) = IsEvent e
IsLogLine (says.Answer a) = IsAnswer a
IsLogLine (says.Decision d) = IsDecision d
IsLogLine (says.Action a) = IsAction a
