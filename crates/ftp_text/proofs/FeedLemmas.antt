-- No line of a printed log has a line feed within it.
use Rattle.std.proofs.Common.{◌≡◌, ℕ, zero, suc, ◌/◌, ◌%◌, ◌^◌, ◌<◌, ◌≤◌, Bool, true, false, List, [], ◌∷◌, ◌++◌, length, Option, Some, None, refl, sym, subst, arith, inl, inr}
use Rattle.std.specs.Prelude.{codes, Result, Ok, Err}
use Rattle.std.specs.Fmt.{decimal, digits, digit_glyph}
use Rattle.std.proofs.lemmas.Bool.{cases_lt}
use Rattle.std.proofs.lemmas.Fmt.{hex_one_digit}
use Rattle.ftp_base.specs.declared.command.DataChanCmd.TheVariants as command
use Rattle.ftp_base.specs.declared.error_kind.ErrorKind.{ErrorKind}
use Rattle.ftp_base.specs.declared.error_kind.ErrorKind.TheVariants as error
use Rattle.ftp_base.specs.declared.fault.LinkFault.{LinkFault}
use Rattle.ftp_base.specs.declared.fault.LinkFault.TheVariants as link
use Rattle.ftp_base.specs.declared.login.AuthAnswer.{AuthAnswer}
use Rattle.ftp_base.specs.declared.login.AuthAnswer.TheVariants as auth
use Rattle.ftp_base.specs.declared.login.LockState.{LockState}
use Rattle.ftp_base.specs.declared.login.LockState.TheVariants as lock
use Rattle.ftp_base.specs.declared.message.ControlChanMsg.{ControlChanMsg}
use Rattle.ftp_base.specs.declared.message.ControlChanMsg.TheVariants as message
use Rattle.ftp_base.specs.declared.notice.Notice.{Notice}
use Rattle.ftp_base.specs.declared.notice.Notice.TheVariants as notice
use Rattle.ftp_base.specs.declared.notice.DataEvent.TheVariants.{Got, Put, Deleted, MadeDir, RemovedDir, Renamed}
use Rattle.ftp_base.specs.declared.notice.EventMeta.{EventMeta}
use Rattle.ftp_base.specs.declared.notice.PresenceEvent.TheVariants as presence
use Rattle.ftp_base.specs.declared.reply.Reply.TheVariants as reply
use Rattle.ftp_base.specs.declared.reply.ReplyCode.{ReplyCode}
use Rattle.ftp_base.specs.declared.reply.ReplyCode.TheVariants as code
use Rattle.ftp_base.specs.Reply.{code_text}
use Rattle.ftp_base.specs.Trace.{trace_text}
use Rattle.ftp_options.specs.declared.options.ListenerMode.{ListenerMode}
use Rattle.ftp_options.specs.declared.options.ListenerMode.TheVariants.{Legacy, Pooled, Proxy}
use Rattle.ftp_options.specs.declared.options.ActivePassiveMode.{ActivePassiveMode}
use Rattle.ftp_options.specs.declared.options.ActivePassiveMode.TheVariants.{PassiveOnly, ActiveOnly, ActiveAndPassive}
use Rattle.ftp_options.specs.declared.host.PassiveHost.{PassiveHost}
use Rattle.ftp_options.specs.declared.host.PassiveHost.TheVariants.{FromConnection, Ip, Dns}
use Rattle.ftp_options.specs.declared.lockout.FailedLoginsBlock.{FailedLoginsBlock}
use Rattle.ftp_options.specs.declared.lockout.FailedLoginsBlock.TheVariants as block
use Rattle.ftp_options.specs.declared.lockout.FailedLoginsPolicy.{FailedLoginsPolicy}
use Rattle.ftp_proxy.specs.declared.error.ProxyError.{ProxyError}
use Rattle.ftp_proxy.specs.declared.error.ProxyError.TheVariants as proxy
use Rattle.ftp_proxy.specs.declared.error.ReadError.TheVariants as read
use Rattle.ftp_proxy.specs.declared.header.ProxyHeader.{ProxyHeader}
use Rattle.ftp_transfer.specs.declared.job.Completion.{Completion}
use Rattle.ftp_transfer.specs.declared.job.Completion.TheVariants as result
use Rattle.ftp_events.specs.declared.action.Action.{Action}
use Rattle.ftp_events.specs.declared.action.Action.TheVariants as action
use Rattle.ftp_events.specs.declared.decision.Decision.{Decision}
use Rattle.ftp_events.specs.declared.decision.Decision.TheVariants as decision
use Rattle.ftp_events.specs.declared.event.Answer.{Answer}
use Rattle.ftp_events.specs.declared.event.Answer.TheVariants as answer
use Rattle.ftp_events.specs.declared.event.EventKind.{EventKind}
use Rattle.ftp_events.specs.declared.event.EventKind.TheVariants as event_kind
use Rattle.ftp_events.specs.declared.event.HubEvent.{HubEvent}
use Rattle.ftp_text.specs.Fields.{field, number, dotted, address_text, escape, optional, ticket, answer_text as said_text, kind_text, refusal_text, fault_text, proxy_error_text, IsText, IsNumber, Each}
use Rattle.ftp_text.specs.Forms.{Shape, Number, Port, Address, Ticket, Answer as Said, Refusal, HexWord, MaybeIp, MaybePort, MaybeNumber, Form, Nothing, Last, Text, MaybeText, Message, ◌▸◌, Value, spelled, Fits, Values, all_spelled, AllFit}
use Rattle.ftp_text.specs.Message.{message_fields, IsMessage}
use Rattle.ftp_text.proofs.Exact.{passes_true}
use Rattle.ftp_text.proofs.Names.{name_fits}
use Rattle.ftp_text.proofs.TraceLemmas.{digits-push}
use Rattle.ftp_text.specs.declared.setup.Item.{Item}
use Rattle.ftp_text.specs.declared.setup.Item.TheVariants as item
use Rattle.ftp_text.specs.declared.event_word.EventWord.{EventWord}
use Rattle.ftp_text.specs.declared.event_word.EventWord.TheVariants as event_word
use Rattle.ftp_text.specs.Events.{event_word_text, form, told, told_text, kind_fields, event_line, IsEvent}
use Rattle.ftp_text.specs.Options.{mode_text, host_text, active_text, block_text, lockout_text, restart_text, listening_fields, rule_fields, IsMode, IsHost, IsPolicy}
use Rattle.ftp_text.specs.Setup.{item_line, IsItem}
use Rattle.ftp_text.specs.Printing.{lock_text, decision_text, decision_fields, header_fields, result_text, outcome_fields, notice_text, notice_bytes, first_path, second_path, notify_fields, delivered_text, action_fields}
use Rattle.ftp_text.specs.declared.line.LogLine.{LogLine}
use Rattle.ftp_text.specs.declared.line.LogLine.TheVariants as says
use Rattle.ftp_text.specs.LogLines.{answer_text, decided_text, log_line, IsAnswer, IsDecision, IsAction, is_options, IsLogLine}
use Rattle.ftp_text.proofs.NoticeLemmas.{in-range}
use Rattle.ftp_text.proofs.FieldFeeds.{is_line_byte, HasNone, both, decimal_none, number_none, glyph_none, escape_none, text_none, hex_none, dotted_none, address_none}

-- ---- fields

ticket_none : (session nr : ℕ) → IsNumber session → IsNumber nr → HasNone (ticket session nr)
ticket_none session nr s n = both (number session) (46 ∷ decimal nr) (number_none session s) (refl, decimal_none nr n)

kind_none : (k : ErrorKind) → HasNone (kind_text k)
kind_none error.TransientFileNotAvailable = passes_true is_line_byte (kind_text error.TransientFileNotAvailable) refl
kind_none k = passes_true is_line_byte (kind_text k) refl

fault_none : (f : LinkFault) → HasNone (fault_text f)
fault_none link.Reset = passes_true is_line_byte (fault_text link.Reset) refl
fault_none f = passes_true is_line_byte (fault_text f) refl

maybe_fault_none : (f : Option LinkFault) → HasNone (optional fault_text f)
maybe_fault_none None = (refl, (refl, tt))
maybe_fault_none (Some f) = (refl, fault_none f)

said_none : (a : AuthAnswer) → HasNone (said_text a)
said_none auth.Good = passes_true is_line_byte (said_text auth.Good) refl
said_none a = passes_true is_line_byte (said_text a) refl

refusal_none : (r : Option ErrorKind) → HasNone (refusal_text r)
refusal_none None = (refl, (refl, tt))
refusal_none (Some k) = kind_none k

proxy_error_none : (e : ProxyError) → HasNone (proxy_error_text e)
proxy_error_none (proxy.ReadError read.UnexpectedEof) = passes_true is_line_byte (codes "eof") refl
proxy_error_none (proxy.ReadError read.Fault) = passes_true is_line_byte (codes "fault") refl
proxy_error_none e = passes_true is_line_byte (proxy_error_text e) refl

trace_by : (k n : ℕ) → n ≤ k → n < 2 ^ 64 → HasNone (digits 16 false n)
trace_by zero n le lt = subst HasNone (sym (hex_one_digit false n (omega arith))) (glyph_none n (omega arith), tt)
trace_by (suc k) n le lt =
    elim (cases_lt n 16) [
      | inl small ↦ subst HasNone (sym (hex_one_digit false n small)) (glyph_none n small, tt)
      | inr large ↦
          subst HasNone (sym (digits-push n large lt))
          (both (digits 16 false (n / 16)) (digit_glyph false (n % 16) ∷ []) (trace_by k (n / 16) (omega arith) (omega arith)) (glyph_none (n % 16) (omega arith), tt))
    ]

-- ---- events

message_none : (m : ControlChanMsg) → IsMessage m → HasNone (message_fields m)
message_none message.PermissionDenied fits = passes_true is_line_byte (message_fields message.PermissionDenied) refl
message_none message.NotFound fits = passes_true is_line_byte (message_fields message.NotFound) refl
message_none message.DelFail fits = passes_true is_line_byte (message_fields message.DelFail) refl
message_none message.MkdirFail fits = passes_true is_line_byte (message_fields message.MkdirFail) refl
message_none (message.DelFileSuccess path) fits = both (field (codes "deleted")) (field (escape path)) (passes_true is_line_byte (field (codes "deleted")) refl) (text_none path fits)
message_none (message.RmDirSuccess path) fits = both (field (codes "removed")) (field (escape path)) (passes_true is_line_byte (field (codes "removed")) refl) (text_none path fits)
message_none (message.MkDirSuccess path) fits = both (field (codes "made")) (field (escape path)) (passes_true is_line_byte (field (codes "made")) refl) (text_none path fits)
message_none (message.RenameSuccess old_path new_path) fits =
    both (field (codes "renamed")) (number (length old_path) ++ field (escape (old_path ++ new_path))) (passes_true is_line_byte (field (codes "renamed")) refl)
    (both (number (length old_path)) (field (escape (old_path ++ new_path))) (number_none (length old_path) fits.0) (text_none (old_path ++ new_path) (texts old_path new_path fits.1 fits.2))) where
      texts : (a b : List ℕ) → IsText a → IsText b → IsText (a ++ b)
      texts [] b f g = g
      texts (c ∷ a) b f g = (f.0, texts a b f.1 g)
message_none (message.StorageError kind) fits = both (field (codes "kind")) (field (kind_text kind)) (passes_true is_line_byte (field (codes "kind")) refl) (refl, kind_none kind)
message_none (message.CommandChannelReply (reply.CodeAndMsg c text)) fits =
    both (field (codes "reply")) (field (code_text c) ++ field (escape text)) (passes_true is_line_byte (field (codes "reply")) refl)
    (both (field (code_text c)) (field (escape text)) (refl, code_none c) (text_none text fits)) where
      code_none : (c : ReplyCode) → HasNone (code_text c)
      code_none code.FileStatusOkay = passes_true is_line_byte (code_text code.FileStatusOkay) refl
      code_none c = passes_true is_line_byte (code_text c) refl
message_none m fits = absurd fits

shape_none : (f : Shape) (v : Value f) → Fits f v → HasNone (spelled f v)
shape_none Number v fits = number_none v fits
shape_none Port v fits = number_none v (omega (arith, fits))
shape_none Address v fits = address_none v fits
shape_none Ticket v fits = ticket_none v.0 v.1 fits.0 fits.1
shape_none Said v fits = (refl, said_none v)
shape_none Refusal v fits = (refl, refusal_none v)
shape_none HexWord v fits = (refl, hex_none 32 v)
shape_none MaybeIp None fits = (refl, (refl, tt))
shape_none MaybeIp (Some ip) fits = (refl, dotted_none ip)
shape_none MaybePort None fits = (refl, (refl, tt))
shape_none MaybePort (Some port) fits = (refl, decimal_none port (omega (arith, fits)))
shape_none MaybeNumber None fits = (refl, (refl, tt))
shape_none MaybeNumber (Some n) fits = (refl, decimal_none n fits)

form_none : (form : Form) (v : Values form) → AllFit form v → HasNone (all_spelled form v)
form_none Nothing v fits = tt
form_none (Last f) v fits = shape_none f v fits
form_none Text v fits = text_none v fits
form_none MaybeText None fits = tt
form_none MaybeText (Some text) fits = text_none text fits
form_none Message v fits = message_none v fits
form_none (f ▸ more) v fits = both (spelled f v.0) (all_spelled more v.1) (shape_none f v.0 fits.0) (form_none more v.1 fits.1)

event_word_none : (w : EventWord) → HasNone (event_word_text w)
event_word_none event_word.Connect = passes_true is_line_byte (event_word_text event_word.Connect) refl
event_word_none w = passes_true is_line_byte (event_word_text w) refl

-- the fields of an event are what it says
fields_told : (k : EventKind) → kind_fields k ≡ told_text (told k)
fields_told (event_kind.Transfer s (command.Retr path)) = refl
fields_told _ = refl

event_none : (e : HubEvent) → IsEvent e → HasNone (event_line e)
event_none e fits =
    both (decimal e.at) (kind_fields e.kind) (decimal_none e.at fits.0)
    (subst HasNone (sym (fields_told e.kind))
    (both (field (event_word_text (told e.kind).0)) (all_spelled (form (told e.kind).0) (told e.kind).1) (refl, event_word_none (told e.kind).0)
    (form_none (form (told e.kind).0) (told e.kind).1 fits.1.0)))

-- ---- options

mode_none : (m : ListenerMode) → IsMode m → HasNone (mode_text m)
mode_none Legacy fits = passes_true is_line_byte (codes "legacy") refl
mode_none Pooled fits = passes_true is_line_byte (codes "pooled") refl
mode_none (Proxy port) fits = both (codes "proxy:") (decimal port) (passes_true is_line_byte (codes "proxy:") refl) (decimal_none port (omega (arith, fits)))

host_none : (h : PassiveHost) → IsHost h → HasNone (host_text h)
host_none FromConnection fits = passes_true is_line_byte (codes "connection") refl
host_none (Ip ip) fits = both (codes "ip:") (dotted ip) (passes_true is_line_byte (codes "ip:") refl) (dotted_none ip)
host_none (Dns name) fits = both (codes "dns:") (escape name) (passes_true is_line_byte (codes "dns:") refl) (escape_none name (name_fits name fits))

active_none : (a : ActivePassiveMode) → HasNone (active_text a)
active_none PassiveOnly = passes_true is_line_byte (codes "passive") refl
active_none ActiveOnly = passes_true is_line_byte (codes "active") refl
active_none ActiveAndPassive = passes_true is_line_byte (codes "both") refl

block_none : (b : FailedLoginsBlock) → HasNone (block_text b)
block_none block.UserAndIP = passes_true is_line_byte (codes "both") refl
block_none block.IP = passes_true is_line_byte (codes "ip") refl
block_none block.User = passes_true is_line_byte (codes "user") refl

lockout_none : (p : Option FailedLoginsPolicy) → Each IsPolicy p → HasNone (lockout_text p)
lockout_none None fits = passes_true is_line_byte (codes "off") refl
lockout_none (Some p) fits =
    both (decimal p.max_attempts) (58 ∷ (decimal (p.expires_after_ms / 1000) ++ 58 ∷ block_text p.block_by)) (decimal_none p.max_attempts (omega (arith, fits.0)))
    (refl, both (decimal (p.expires_after_ms / 1000)) (58 ∷ block_text p.block_by) (decimal_none (p.expires_after_ms / 1000) (omega (arith, fits.1))) (refl, block_none p.block_by))

restart_none : (r : Bool) → HasNone (restart_text r)
restart_none true = passes_true is_line_byte (codes "restart") refl
restart_none false = passes_true is_line_byte (codes "norestart") refl

options_none : (i : Item) → is_options i ≡ true → IsItem i → HasNone (item_line i)
options_none (item.Options mode lo hi host active idle lockout restart) is fits =
    both (codes "options") (listening_fields mode lo hi ++ rule_fields host active idle lockout restart) (passes_true is_line_byte (codes "options") refl)
    (both (listening_fields mode lo hi) (rule_fields host active idle lockout restart)
    (both (field (mode_text mode)) (number lo ++ number hi) (refl, mode_none mode fits.0.0)
    (both (number lo) (number hi) (number_none lo (omega (arith, fits.0.2, fits.0.3))) (number_none hi (omega (arith, fits.0.3)))))
    (both (field (host_text host)) (field (active_text active) ++ (number idle ++ (field (lockout_text lockout) ++ field (restart_text restart)))) (refl, host_none host fits.1.0)
    (both (field (active_text active)) (number idle ++ (field (lockout_text lockout) ++ field (restart_text restart))) (refl, active_none active)
    (both (number idle) (field (lockout_text lockout) ++ field (restart_text restart)) (number_none idle (omega (arith, fits.1.1)))
    (both (field (lockout_text lockout)) (field (restart_text restart)) (refl, lockout_none lockout fits.1.2) (refl, restart_none restart))))))
options_none _ is fits = absurd cc

-- ---- answers, decisions, actions

header_none : (h : Result ProxyHeader ProxyError) → IsAnswer (answer.Header h) → HasNone (header_fields h)
header_none (Ok line) fits = both (field (address_text line.source)) (field (address_text line.destination)) (address_none line.source fits.0) (address_none line.destination fits.1)
header_none (Err fault) fits = (refl, proxy_error_none fault)

result_none : (r : Completion) → HasNone (result_text r)
result_none (result.Refused kind) = kind_none kind
result_none result.Sent = passes_true is_line_byte (codes "sent") refl
result_none r = passes_true is_line_byte (result_text r) refl

answer_none : (a : Answer) → IsAnswer a → HasNone (answer_text a)
answer_none answer.None fits = absurd fits
answer_none (answer.Header h) fits = both (codes "? header") (header_fields h) (passes_true is_line_byte (codes "? header") refl) (header_none h fits)
answer_none (answer.Done o) fits =
    both (codes "? done") (outcome_fields o) (passes_true is_line_byte (codes "? done") refl)
    (both (field (result_text o.result) ++ number o.bytes) (optional fault_text o.fault)
    (both (field (result_text o.result)) (number o.bytes) (refl, result_none o.result) (number_none o.bytes fits)) (maybe_fault_none o.fault))
answer_none (answer.Moved bytes) fits = both (codes "? moved") (number bytes) (passes_true is_line_byte (codes "? moved") refl) (number_none bytes fits)

name_none : (d : Decision) → HasNone (decision_text d)
name_none (decision.Attached s) = passes_true is_line_byte (codes "attached") refl
name_none d = passes_true is_line_byte (decision_text d) refl

lock_none : (l : Option LockState) → HasNone (lock_text l)
lock_none None = passes_true is_line_byte (codes "none") refl
lock_none (Some lock.MaxFailuresReached) = passes_true is_line_byte (codes "reached") refl
lock_none (Some lock.AlreadyLocked) = passes_true is_line_byte (codes "locked") refl

fields_none : (d : Decision) → IsDecision d → HasNone (decision_fields d)
fields_none (decision.HeaderFault fault) fits = (refl, proxy_error_none fault)
fields_none (decision.Attached s) fits = number_none s fits
fields_none (decision.LoginFailed lock delay) fits = both (field (lock_text lock)) (number delay) (refl, lock_none lock) (number_none delay (omega (arith, fits)))
fields_none (decision.Granted port) fits = number_none port (omega (arith, fits))
fields_none (decision.Queued t) fits = ticket_none t.session t.nr fits.0 fits.1
fields_none (decision.CwdRefused kind) fits = (refl, kind_none kind)
fields_none d fits = tt

decided_none : (d : Decision) → IsDecision d → HasNone (decided_text d)
decided_none d fits = (refl, both (field (decision_text d)) (decision_fields d) (refl, name_none d) (fields_none d fits))

notice_none : (what : Notice) → HasNone (notice_text what)
notice_none (notice.Presence presence.LoggedIn) = passes_true is_line_byte (codes "login") refl
notice_none (notice.Presence presence.LoggedOut) = passes_true is_line_byte (codes "logout") refl
notice_none (notice.Data (Got path bytes)) = passes_true is_line_byte (codes "got") refl
notice_none (notice.Data (Put path bytes)) = passes_true is_line_byte (codes "put") refl
notice_none (notice.Data (Deleted path)) = passes_true is_line_byte (codes "deleted") refl
notice_none (notice.Data (MadeDir path)) = passes_true is_line_byte (codes "madedir") refl
notice_none (notice.Data (RemovedDir path)) = passes_true is_line_byte (codes "removeddir") refl
notice_none (notice.Data (Renamed from to)) = passes_true is_line_byte (codes "renamed") refl

texts_fit : (a b : List ℕ) → IsText a → IsText b → IsText (a ++ b)
texts_fit [] b f g = g
texts_fit (c ∷ a) b f g = (f.0, texts_fit a b f.1 g)

notify_none : (s : ℕ) (meta : EventMeta) (what : Notice) → IsAction (action.Notify s meta what) → HasNone (notify_fields s meta what)
notify_none s meta what fits =
    let r = in-range what fits.2 in
    let text = meta.username ++ first_path what ++ second_path what in
    let a : List ℕ = number s ++ number meta.sequence_number in
    let b : List ℕ = a ++ field (trace_text meta.trace_id.0) in
    let c : List ℕ = b ++ field (notice_text what) in
    let d : List ℕ = c ++ number (notice_bytes what) in
    let e : List ℕ = d ++ number (length meta.username) in
    let f : List ℕ = e ++ number (length (first_path what)) in
    let trace : HasNone (field (trace_text meta.trace_id.0)) = (refl, (refl, (refl, trace_by meta.trace_id.0 meta.trace_id.0 (omega arith) fits.1.1))) in
    let first : HasNone a = both (number s) (number meta.sequence_number) (number_none s fits.0) (number_none meta.sequence_number fits.1.0) in
    let second : HasNone b = both a (field (trace_text meta.trace_id.0)) first trace in
    let third : HasNone c = both b (field (notice_text what)) second (refl, notice_none what) in
    let fourth : HasNone d = both c (number (notice_bytes what)) third (number_none (notice_bytes what) r.bytes) in
    let fifth : HasNone e = both d (number (length meta.username)) fourth (number_none (length meta.username) fits.1.2.1) in
    let sixth : HasNone f = both e (number (length (first_path what))) fifth (number_none (length (first_path what)) r.first.1) in
    both f (field (escape text)) sixth
    (text_none text (texts_fit (meta.username ++ first_path what) (second_path what) (texts_fit meta.username (first_path what) fits.1.2.0 r.first.0) r.second))

action_none : (a : Action) → IsAction a → HasNone (action_fields a)
action_none (action.Completed t delivered) fits =
    both (codes "- completed" ++ ticket t.session t.nr) (field (delivered_text delivered))
    (both (codes "- completed") (ticket t.session t.nr) (passes_true is_line_byte (codes "- completed") refl) (ticket_none t.session t.nr fits.0 fits.1)) (refl, told_none delivered) where
      told_none : (d : Bool) → HasNone (delivered_text d)
      told_none true = passes_true is_line_byte (codes "delivered") refl
      told_none false = passes_true is_line_byte (codes "lost") refl
action_none (action.Cancelled t) fits = both (codes "- cancelled") (ticket t.session t.nr) (passes_true is_line_byte (codes "- cancelled") refl) (ticket_none t.session t.nr fits.0 fits.1)
action_none (action.Close n) fits = both (codes "- close") (number n) (passes_true is_line_byte (codes "- close") refl) (number_none n fits)
action_none (action.Notify s meta what) fits = both (codes "- notify") (notify_fields s meta what) (passes_true is_line_byte (codes "- notify") refl) (notify_none s meta what fits)
action_none (action.Reply s delay reply.None) fits = absurd fits
action_none (action.Reply s delay (reply.CodeAndMsg c text)) fits =
    both (codes "- reply" ++ number s ++ number delay) (field (code_text c) ++ field (escape text))
    (both (codes "- reply" ++ number s) (number delay) (both (codes "- reply") (number s) (passes_true is_line_byte (codes "- reply") refl) (number_none s fits.0)) (number_none delay (omega (arith, fits.1))))
    (both (field (code_text c)) (field (escape text)) (refl, code_none c) (text_none text fits.2)) where
      code_none : (c : ReplyCode) → HasNone (code_text c)
      code_none code.FileStatusOkay = passes_true is_line_byte (code_text code.FileStatusOkay) refl
      code_none c = passes_true is_line_byte (code_text c) refl
action_none (action.Start t n) fits =
    both (codes "- start" ++ ticket t.session t.nr) (number n)
    (both (codes "- start") (ticket t.session t.nr) (passes_true is_line_byte (codes "- start") refl) (ticket_none t.session t.nr fits.0.0 fits.0.1)) (number_none n fits.1)

-- no line has a line feed within it
pub line_none : (x : LogLine) → IsLogLine x → HasNone (log_line x)
line_none (says.Options i) fits = options_none i fits.0 fits.1
line_none (says.Event e) fits = both (codes "> ") (event_line e) (passes_true is_line_byte (codes "> ") refl) (event_none e fits)
line_none (says.Answer a) fits = answer_none a fits
line_none (says.Decision d) fits = decided_none d fits
line_none (says.Action a) fits = action_none a fits
