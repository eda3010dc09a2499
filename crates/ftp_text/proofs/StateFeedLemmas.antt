-- No line of a state has a line feed within it.
use Rattle.std.proofs.Common.{ℕ, Bool, true, false, List, [], ◌∷◌, ◌++◌, length, Option, Some, None, refl, arith}
use Rattle.std.specs.Prelude.{codes}
use Rattle.std.specs.Fmt.{decimal}
use Rattle.std.specs.Option.{option_map}
use Rattle.ftp_base.specs.declared.net.IpAddr.{IpAddr}
use Rattle.ftp_base.specs.declared.command.DataChanCmd.{DataChanCmd}
use Rattle.ftp_base.specs.Command.{path_of}
use Rattle.ftp_text.specs.Fields.{field, number, ip_text, address_text, optional, Each, IsNumber}
use Rattle.ftp_text.proofs.Exact.{Pass, passes_true}
use Rattle.ftp_hub.specs.declared.state.LoginState.{LoginState}
use Rattle.ftp_hub.specs.declared.state.LoginState.TheVariants as login
use Rattle.ftp_hub.specs.declared.state.SlotKind.{SlotKind}
use Rattle.ftp_hub.specs.declared.state.SlotKind.TheVariants as kept
use Rattle.ftp_text.specs.declared.state_line.StateLine.{StateLine}
use Rattle.ftp_text.specs.declared.state_line.StateLine.TheVariants as says
use Rattle.ftp_events.specs.declared.status.CommandWord.{CommandWord}
use Rattle.ftp_events.specs.declared.status.CommandWord.TheVariants as command_word
use Rattle.ftp_text.specs.LineWords.{LineWord}
use Rattle.ftp_text.specs.LineWords as word
use Rattle.ftp_events.specs.Statuses.{word_of}
use Rattle.ftp_text.specs.Spelling.{line_word_text, login_state_text, command_word_text, bit, bytes_or_none, length_field, slot_kind_fields, command_options, command_lengths, command_parts, command_field, line_fields, line_word_of, state_line, IsPiece, HasPieces, IsSlotKind, IsStateLine}
use Rattle.ftp_text.proofs.Lists.{text-append}
use Rattle.ftp_text.proofs.Pieces.{piece-length, piece-text, parts-text}
use Rattle.ftp_text.proofs.FieldFeeds.{is_line_byte, HasNone, both, number_none, text_none, ip_none, address_none}

maybe_ip_none : (ip : Option IpAddr) → HasNone (optional ip_text ip)
maybe_ip_none None = (refl, (refl, tt))
maybe_ip_none (Some ip) = (refl, ip_none ip)

maybe_none : (n : Option ℕ) → Each IsNumber n → HasNone (optional decimal n)
maybe_none None fits = (refl, (refl, tt))
maybe_none (Some n) fits = number_none n fits

length_none : (p : Option (List ℕ)) → Each IsPiece p → HasNone (length_field p)
length_none p fits = maybe_none (option_map length p) (piece-length p fits)

bit_none : (b : Bool) → HasNone (bit b)
bit_none true = number_none 1 (omega arith)
bit_none false = number_none 0 (omega arith)

login_none : (w : LoginState) → HasNone (field (login_state_text w))
login_none login.New = passes_true is_line_byte (field (login_state_text login.New)) refl
login_none login.Pass = passes_true is_line_byte (field (login_state_text login.Pass)) refl
login_none login.Out = passes_true is_line_byte (field (login_state_text login.Out)) refl
login_none login.Cmd = passes_true is_line_byte (field (login_state_text login.Cmd)) refl

command_word_none : (w : CommandWord) → HasNone (field (command_word_text w))
command_word_none command_word.Retr = passes_true is_line_byte (field (command_word_text command_word.Retr)) refl
command_word_none command_word.Stor = passes_true is_line_byte (field (command_word_text command_word.Stor)) refl
command_word_none command_word.Appe = passes_true is_line_byte (field (command_word_text command_word.Appe)) refl
command_word_none command_word.List = passes_true is_line_byte (field (command_word_text command_word.List)) refl
command_word_none command_word.Nlst = passes_true is_line_byte (field (command_word_text command_word.Nlst)) refl
command_word_none command_word.Mlsd = passes_true is_line_byte (field (command_word_text command_word.Mlsd)) refl

kind_none : (k : SlotKind) → IsSlotKind k → HasNone (slot_kind_fields k)
kind_none (kept.Waits port) fits = both (32 ∷ codes "waits") (number port) (passes_true is_line_byte (32 ∷ codes "waits") refl) (number_none port (omega (arith, fits)))
kind_none (kept.HasLink n) fits = both (32 ∷ codes "link") (number n) (passes_true is_line_byte (32 ∷ codes "link") refl) (number_none n fits)

lengths_none : (c : DataChanCmd) → HasPieces c → HasNone (command_lengths c)
lengths_none c pieces = both (length_field (command_options c)) (length_field (path_of c)) (length_none (command_options c) pieces.0) (length_none (path_of c) pieces.1)

fields_none : (x : StateLine) → IsStateLine x → HasNone (line_fields x)
fields_none (says.Checkpoint events stopped) f =
    both (32 ∷ 49 ∷ []) (number events ++ bit stopped) (refl, (refl, tt)) (both (number events) (bit stopped) (number_none events f) (bit_none stopped))
fields_none (says.Used i) f = both (number i.lo) (number i.hi) (number_none i.lo f.0) (number_none i.hi f.1)
fields_none (says.Record r) f =
    both (number r.count) _ (number_none r.count (omega (arith, f.0)))
    (both (number r.at) _ (number_none r.at f.1)
    (both (optional ip_text r.ip) _ (maybe_ip_none r.ip)
    (both (length_field r.user) _ (length_none r.user f.3) (text_none (bytes_or_none r.user) (piece-text r.user f.3)))))
fields_none (says.Session s) f =
    both (number s.session ++ _) _
    (both (number s.session) _ (number_none s.session f.session)
    (both (field (address_text s.raw)) _ (address_none s.raw f.raw)
    (both (field (address_text s.local)) _ (address_none s.local f.local)
    (both (field (ip_text s.client)) _ (refl, ip_none s.client) (number_none s.trace f.trace)))))
    (both (field (login_state_text s.state) ++ _) _
    (both (field (login_state_text s.state)) _ (login_none s.state)
    (both (number s.active) _ (number_none s.active f.active)
    (both (number s.offset) _ (number_none s.offset f.offset)
    (both (number s.tickets) _ (number_none s.tickets f.tickets) (number_none s.notices f.notices)))))
    (both (length_field s.user) _ (length_none s.user f.user)
    (text_none (bytes_or_none s.user ++ s.cwd) (text-append (bytes_or_none s.user) s.cwd (piece-text s.user f.user) f.cwd.0))))
fields_none (says.Slot l) f =
    both (number l.session) _ (number_none l.session f.0) (both (number l.at) _ (number_none l.at f.1) (kind_none l.what f.2))
fields_none (says.Queued q) f =
    both (number q.session) _ (number_none q.session f.session)
    (both (number q.nr) _ (number_none q.nr f.nr)
    (both (number q.offset) _ (number_none q.offset f.offset)
    (both (command_field q.command) _ (command_word_none (word_of q.command))
    (both (command_lengths q.command) _ (lengths_none q.command f.command)
    (text_none (command_parts q.command q.path) (parts-text q.command q.path f.command f.path.0))))))
fields_none (says.Job j) f =
    both (number j.job.ticket.session ++ _) _
    (both (number j.job.ticket.session) _ (number_none j.job.ticket.session f.session)
    (both (number j.job.ticket.nr) _ (number_none j.job.ticket.nr f.nr)
    (both (number j.job.offset) _ (number_none j.job.offset f.offset)
    (both (number j.job.done) _ (number_none j.job.done f.done)
    (both (bit j.marked) _ (bit_none j.marked) (number_none j.job.number f.link))))))
    (both (command_field j.job.command) _ (command_word_none (word_of j.job.command))
    (both (number (length j.job.user)) _ (number_none (length j.job.user) f.user.1)
    (both (command_lengths j.job.command) _ (lengths_none j.job.command f.command)
    (text_none (j.job.user ++ command_parts j.job.command j.job.path)
    (text-append j.job.user (command_parts j.job.command j.job.path) f.user.0 (parts-text j.job.command j.job.path f.command f.path.0))))))

word_none : (w : LineWord) → HasNone (line_word_text w)
word_none word.Checkpoint = passes_true is_line_byte (line_word_text word.Checkpoint) refl
word_none word.Used = passes_true is_line_byte (line_word_text word.Used) refl
word_none word.Record = passes_true is_line_byte (line_word_text word.Record) refl
word_none word.Session = passes_true is_line_byte (line_word_text word.Session) refl
word_none word.Slot = passes_true is_line_byte (line_word_text word.Slot) refl
word_none word.Queued = passes_true is_line_byte (line_word_text word.Queued) refl
word_none word.Job = passes_true is_line_byte (line_word_text word.Job) refl

pub line_none : (x : StateLine) → IsStateLine x → HasNone (state_line x)
line_none x fits = both (line_word_text (line_word_of x)) (line_fields x) (word_none (line_word_of x)) (fields_none x fits)
