-- Reading a line of a state.
use Rattle.std.specs.Prelude.{ℕ, ◌^◌, ◌==◌, ◌&&◌, nat_le, Bool, List, [], ◌∷◌, length, take, drop, codes, Option, Some, None, if◌then◌else◌}
use Rattle.ftp_base.specs.declared.command.DataChanCmd.{DataChanCmd}
use Rattle.ftp_base.specs.declared.command.DataChanCmd.TheVariants as command
use Rattle.ftp_base.specs.declared.net.IpAddr.{IpAddr}
use Rattle.ftp_base.specs.declared.net.SocketAddr.{SocketAddr}
use Rattle.ftp_text.specs.Reading.{◌>>=◌, Reader, pair, made, tested, all_of, behind_text, number_at, ip_at, number_field, small_field, address_field, ip_field, optional_field, text_field, word_value, worded}
use Rattle.ftp_hub.specs.declared.state.JobLine.{JobLine}
use Rattle.ftp_hub.specs.declared.state.LoginState.{LoginState}
use Rattle.ftp_hub.specs.declared.state.QueuedLine.{QueuedLine}
use Rattle.ftp_hub.specs.declared.state.RecordLine.{RecordLine}
use Rattle.ftp_hub.specs.declared.state.SessionLine.{SessionLine}
use Rattle.ftp_hub.specs.declared.state.SlotKind.{SlotKind}
use Rattle.ftp_hub.specs.declared.state.SlotKind.TheVariants as kept
use Rattle.ftp_text.specs.declared.state_line.StateLine.{StateLine}
use Rattle.ftp_text.specs.declared.state_line.StateLine.TheVariants as says
use Rattle.ftp_events.specs.declared.status.CommandWord.{CommandWord}
use Rattle.ftp_events.specs.declared.status.CommandWord.TheVariants as command_word
use Rattle.ftp_text.specs.LineWords.{LineWord, SlotWord}
use Rattle.ftp_text.specs.LineWords as word
use Rattle.ftp_text.specs.Fields.{values}
use Rattle.ftp_text.specs.Spelling.{line_word_text, login_state_words, login_state_text, slot_word_text, command_names, command_word_text, is_from_root, has_key}

-- ---- words

abbrev pub line_words : List LineWord
line_words = word.Checkpoint ∷ word.Used ∷ word.Record ∷ word.Session ∷ word.Slot ∷ word.Queued ∷ word.Job ∷ []

abbrev pub login_states : List LoginState
login_states = values login_state_words

abbrev pub slot_words : List SlotWord
slot_words = word.Waits ∷ word.Link ∷ []

abbrev pub command_words : List CommandWord
command_words = values command_names

-- ---- ways to read

-- a value that some of what is read gives
abbrev pub checked : {A B : Type 0} → (A → Option B) → Reader A → Reader B
checked of read bytes = do
  x ← read bytes
  y ← of x.0
  Some (y, x.1)

-- the first n bytes, where there are so many
abbrev pub cut_at : ℕ → Reader (List ℕ)
cut_at n text = if nat_le n (length text) then Some (take n text, drop n text) else None

-- none for a hyphen
unfoldable pub cut_off : Option ℕ → Reader (Option (List ℕ))
cut_off None text = Some (None, text)
cut_off (Some n) text = made Some (cut_at n) text

-- 1 for yes, 0 for no
unfoldable pub bit_field : Reader Bool
bit_field = made (λ n. n == 1) (small_field 2)

-- ---- commands

-- the command of a word, with its options and its argument, where it has such
abbrev pub command_with : CommandWord → Option (List ℕ) → Option (List ℕ) → Option DataChanCmd
command_with command_word.Retr None (Some path) = Some (command.Retr path)
command_with command_word.Stor None (Some path) = Some (command.Stor path)
command_with command_word.Appe None (Some path) = Some (command.Appe path)
command_with command_word.List options path = Some (command.List options path)
command_with command_word.Nlst None path = Some (command.Nlst path)
command_with command_word.Mlsd None path = Some (command.Mlsd path)
command_with _ _ _ = None

-- how long the options and the argument are
abbrev pub Lengths : Type 0
Lengths = Option ℕ × Option ℕ

abbrev pub lengths_at : Reader Lengths
lengths_at = pair (optional_field number_at) (optional_field number_at)

-- the command, and the path behind its parts
unfoldable pub command_in : CommandWord → Lengths → List ℕ → Option (DataChanCmd × List ℕ)
command_in w lengths text = do
  options ← cut_off lengths.0 text
  argument ← cut_off lengths.1 options.1
  c ← command_with w options.0 argument.0
  if is_from_root argument.1 then Some (c, argument.1) else None

abbrev pub command_word_field : Reader CommandWord
command_word_field = word_value command_word_text command_words

-- ---- lines

-- the line of the checkpoint
unfoldable pub checkpoint_at : Reader StateLine
checkpoint_at = made (λ x. says.Checkpoint x.0 x.1) (behind_text (codes " 1") (pair number_field bit_field))

-- an interval that has a number
abbrev pub has_number : ℕ × ℕ → Bool
has_number x = nat_le x.0 x.1

unfoldable pub used_at : Reader StateLine
used_at = made (λ x. says.Used (record { lo = x.0; hi = x.1 })) (tested has_number (pair number_field number_field))

-- what stands in the line of a record
abbrev pub RecordFields : Type 0
RecordFields = ℕ × (ℕ × (Option IpAddr × (Option ℕ × List ℕ)))

-- the record, where its text is the name and it has a key
unfoldable pub record_of : RecordFields → Option RecordLine
record_of x = do
  user ← cut_off x.1.1.1.0 x.1.1.1.1
  let r : RecordLine = record { count = x.0; at = x.1.0; ip = x.1.1.0; user = user.0 }
  if length user.1 == 0 && has_key r then Some r else None

unfoldable pub record_at : Reader RecordLine
record_at =
    checked record_of (pair (small_field (2 ^ 32)) (pair number_field (pair (optional_field ip_at) (pair (optional_field number_at) text_field))))

-- who came from where
abbrev pub OpeningFields : Type 0
OpeningFields = ℕ × (SocketAddr × (SocketAddr × (IpAddr × ℕ)))

unfoldable pub opening_at : Reader OpeningFields
opening_at = pair number_field (pair address_field (pair address_field (pair ip_field number_field)))

-- how far the session is
abbrev pub ProgressFields : Type 0
ProgressFields = LoginState × (ℕ × (ℕ × (ℕ × ℕ)))

unfoldable pub progress_at : Reader ProgressFields
progress_at = pair (word_value login_state_text login_states) (pair number_field (pair number_field (pair number_field number_field)))

abbrev pub SessionFields : Type 0
SessionFields = OpeningFields × (ProgressFields × (Option ℕ × List ℕ))

-- the session with this name and directory
abbrev pub session_with : SessionFields → Option (List ℕ) → List ℕ → SessionLine
session_with x user cwd = record {
  session = x.0.0;
  raw = x.0.1.0;
  local = x.0.1.1.0;
  client = x.0.1.1.1.0;
  trace = x.0.1.1.1.1;
  state = x.1.0.0;
  active = x.1.0.1.0;
  offset = x.1.0.1.1.0;
  tickets = x.1.0.1.1.1.0;
  notices = x.1.0.1.1.1.1;
  user = user;
  cwd = cwd;
}

-- the session, where its directory begins with a slash
unfoldable pub session_of : SessionFields → Option SessionLine
session_of x = do
  user ← cut_off x.1.1.0 x.1.1.1
  if is_from_root user.1 then Some (session_with x user.0 user.1) else None

unfoldable pub session_at : Reader SessionLine
session_at = checked session_of (pair opening_at (pair progress_at (pair (optional_field number_at) text_field)))

-- what a slot has, behind its word
abbrev pub slot_kind_behind : SlotWord → Reader SlotKind
slot_kind_behind word.Waits = made kept.Waits (small_field (2 ^ 16))
slot_kind_behind word.Link = made kept.HasLink number_field

unfoldable pub slot_kind_at : Reader SlotKind
slot_kind_at = worded slot_word_text slot_words slot_kind_behind

unfoldable pub slot_at : Reader StateLine
slot_at = made (λ x. says.Slot (record { session = x.0; at = x.1.0; what = x.1.1 })) (pair number_field (pair number_field slot_kind_at))

-- what stands in the line of a waiting transfer
abbrev pub QueuedFields : Type 0
QueuedFields = ℕ × (ℕ × (ℕ × (CommandWord × (Lengths × List ℕ))))

-- the transfer, where its text is that of its command and its path begins with a slash
unfoldable pub queued_of : QueuedFields → Option QueuedLine
queued_of x = do
  c ← command_in x.1.1.1.0 x.1.1.1.1.0 x.1.1.1.1.1
  Some (record { session = x.0; nr = x.1.0; offset = x.1.1.0; command = c.0; path = c.1 })

unfoldable pub queued_at : Reader QueuedLine
queued_at = checked queued_of (pair number_field (pair number_field (pair number_field (pair command_word_field (pair lengths_at text_field)))))

-- which job runs, and how far
abbrev pub RunFields : Type 0
RunFields = ℕ × (ℕ × (ℕ × (ℕ × (Bool × ℕ))))

unfoldable pub run_at : Reader RunFields
run_at = pair number_field (pair number_field (pair number_field (pair number_field (pair bit_field number_field))))

-- what stands in the line of a job
abbrev pub JobFields : Type 0
JobFields = RunFields × (CommandWord × (ℕ × (Lengths × List ℕ)))

-- the job of this user, with this command and path
abbrev pub job_with : JobFields → List ℕ → DataChanCmd → List ℕ → JobLine
job_with x user c path = record {
  job = record {
    ticket = record { session = x.0.0; nr = x.0.1.0 };
    user = user;
    command = c;
    path = path;
    offset = x.0.1.1.0;
    number = x.0.1.1.1.1.1;
    done = x.0.1.1.1.0;
  };
  marked = x.0.1.1.1.1.0;
}

-- the job, where its text is the user's name and that of its command and its path begins with a slash
unfoldable pub job_of : JobFields → Option JobLine
job_of x = do
  user ← cut_at x.1.1.0 x.1.1.1.1
  c ← command_in x.1.0 x.1.1.1.0 user.1
  Some (job_with x user.0 c.0 c.1)

unfoldable pub job_at : Reader JobLine
job_at = checked job_of (pair run_at (pair command_word_field (pair number_field (pair lengths_at text_field))))

-- what stands behind each word
abbrev pub line_behind : LineWord → Reader StateLine
line_behind word.Checkpoint = checkpoint_at
line_behind word.Used = used_at
line_behind word.Record = made says.Record record_at
line_behind word.Session = made says.Session session_at
line_behind word.Slot = slot_at
line_behind word.Queued = made says.Queued queued_at
line_behind word.Job = made says.Job job_at

-- the word at the front of a line: it is read as one behind a space
abbrev pub line_word_at : Reader LineWord
line_word_at line = word_value line_word_text line_words (32 ∷ line)

-- what stands at the front of a line
abbrev pub line_at : Reader StateLine
line_at line = do
  w ← line_word_at line
  line_behind w.0 w.1

-- what a whole line says
unfoldable pub state_line_of : List ℕ → Option StateLine
state_line_of line = all_of line_at line
