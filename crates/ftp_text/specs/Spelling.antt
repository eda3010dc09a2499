-- The lines of a state: how each is spelled, without its line feed, and the ranges of what it says.
use Rattle.std.specs.Prelude.{◌≡◌, ℕ, ◌^◌, ◌<◌, ◌≤◌, ◌||◌, Bool, true, List, [], ◌∷◌, ◌++◌, length, codes, decimal, Option, None, is_some, unwrap_or, if◌then◌else◌}
use Rattle.std.specs.Option.{option_map}
use Rattle.ftp_base.specs.declared.command.DataChanCmd.{DataChanCmd}
use Rattle.ftp_base.specs.declared.command.DataChanCmd.TheVariants as command
use Rattle.ftp_base.specs.Command.{path_of}
use Rattle.ftp_events.specs.Statuses.{word_of}
use Rattle.ftp_text.specs.Fields.{field, number, word_in, ip_text, address_text, escape, optional, Each, IsAddress, IsIp, IsNumber, IsText}
use Rattle.ftp_text.specs.Reading.{begins}
use Rattle.ftp_hub.specs.declared.state.JobLine.{JobLine}
use Rattle.ftp_hub.specs.declared.state.LoginState.{LoginState}
use Rattle.ftp_hub.specs.declared.state.LoginState.TheVariants as login
use Rattle.ftp_hub.specs.contracts.state.LoginStatePartialEq.TheImpl as login_eq
use Rattle.ftp_hub.specs.declared.state.QueuedLine.{QueuedLine}
use Rattle.ftp_hub.specs.declared.state.RecordLine.{RecordLine}
use Rattle.ftp_hub.specs.declared.state.SessionLine.{SessionLine}
use Rattle.ftp_hub.specs.declared.state.SlotKind.{SlotKind}
use Rattle.ftp_hub.specs.declared.state.SlotKind.TheVariants as kept
use Rattle.ftp_text.specs.declared.state_line.StateLine.{StateLine}
use Rattle.ftp_text.specs.declared.state_line.StateLine.TheVariants as says
use Rattle.ftp_events.specs.declared.status.CommandWord.{CommandWord}
use Rattle.ftp_events.specs.declared.status.CommandWord.TheVariants as command_word
use Rattle.ftp_events.specs.contracts.status.CommandWordPartialEq.TheImpl as command_word_eq
use Rattle.ftp_text.specs.LineWords.{LineWord, SlotWord}
use Rattle.ftp_text.specs.LineWords as word

-- ---- words

-- the word of each kind of line
abbrev pub line_word_text : LineWord → List ℕ
line_word_text word.Checkpoint = codes "checkpoint"
line_word_text word.Used = codes "used"
line_word_text word.Record = codes "record"
line_word_text word.Session = codes "session"
line_word_text word.Slot = codes "slot"
line_word_text word.Queued = codes "queued"
line_word_text word.Job = codes "job"

-- the words of how far a login is
abbrev pub login_state_words : List (List ℕ × LoginState)
login_state_words =
    (codes "new", login.New) ∷ (codes "pass", login.Pass) ∷ (codes "out", login.Out) ∷ (codes "cmd", login.Cmd) ∷ []

-- how far a login is
abbrev pub login_state_text : LoginState → List ℕ
login_state_text = word_in login_eq.ghosts.eq login_state_words

-- what a slot has: a port that is waited for, or a link
abbrev pub slot_word_text : SlotWord → List ℕ
slot_word_text word.Waits = codes "waits"
slot_word_text word.Link = codes "link"

-- the words of commands
abbrev pub command_names : List (List ℕ × CommandWord)
command_names =
    (codes "retr", command_word.Retr) ∷ (codes "stor", command_word.Stor) ∷ (codes "appe", command_word.Appe)
    ∷ (codes "list", command_word.List) ∷ (codes "nlst", command_word.Nlst) ∷ (codes "mlsd", command_word.Mlsd) ∷ []

-- the word of each command
abbrev pub command_word_text : CommandWord → List ℕ
command_word_text = word_in command_word_eq.ghosts.eq command_names

-- ---- fields

-- 1 for yes, 0 for no
abbrev pub bit : Bool → List ℕ
bit b = number (if b then 1 else 0)

-- bytes that may be missing
abbrev pub bytes_or_none : Option (List ℕ) → List ℕ
bytes_or_none bytes = unwrap_or bytes []

-- how long they are, or a hyphen
abbrev pub length_field : Option (List ℕ) → List ℕ
length_field bytes = optional decimal (option_map length bytes)

-- what a slot has
abbrev pub slot_kind_fields : SlotKind → List ℕ
slot_kind_fields (kept.Waits port) = field (slot_word_text word.Waits) ++ number port
slot_kind_fields (kept.HasLink n) = field (slot_word_text word.Link) ++ number n

-- the options of a command
abbrev pub command_options : DataChanCmd → Option (List ℕ)
command_options (command.List options path) = options
command_options _ = None

-- how long its options and its argument are
abbrev pub command_lengths : DataChanCmd → List ℕ
command_lengths c = length_field (command_options c) ++ length_field (path_of c)

-- both, and what stands behind them
abbrev pub command_parts : DataChanCmd → List ℕ → List ℕ
command_parts c behind = bytes_or_none (command_options c) ++ (bytes_or_none (path_of c) ++ behind)

-- the word of a command
abbrev pub command_field : DataChanCmd → List ℕ
command_field c = field (command_word_text (word_of c))

-- ---- lines

-- who came from where
abbrev pub opening_fields : SessionLine → List ℕ
opening_fields s =
    number s.session ++ (field (address_text s.raw) ++ (field (address_text s.local) ++ (field (ip_text s.client) ++ number s.trace)))

-- how far the session is
abbrev pub progress_fields : SessionLine → List ℕ
progress_fields s =
    field (login_state_text s.state) ++ (number s.active ++ (number s.offset ++ (number s.tickets ++ number s.notices)))

-- the failed logins of a key
abbrev pub record_fields : RecordLine → List ℕ
record_fields r =
    number r.count ++ (number r.at ++ (optional ip_text r.ip ++ (length_field r.user ++ field (escape (bytes_or_none r.user)))))

-- a session: its text is the name and the directory
abbrev pub session_fields : SessionLine → List ℕ
session_fields s =
    opening_fields s ++ (progress_fields s ++ (length_field s.user ++ field (escape (bytes_or_none s.user ++ s.cwd))))

-- a transfer that waits: its text are the options, the argument and the path
abbrev pub queued_fields : QueuedLine → List ℕ
queued_fields q =
    number q.session ++ (number q.nr ++ (number q.offset
    ++ (command_field q.command ++ (command_lengths q.command ++ field (escape (command_parts q.command q.path))))))

-- which job runs, and how far
abbrev pub run_fields : JobLine → List ℕ
run_fields j =
    number j.job.ticket.session ++ (number j.job.ticket.nr ++ (number j.job.offset ++ (number j.job.done ++ (bit j.marked ++ number j.job.number))))

-- a transfer that runs: its text begins with the name of the user
abbrev pub job_fields : JobLine → List ℕ
job_fields j =
    run_fields j
    ++ (command_field j.job.command
    ++ (number (length j.job.user)
    ++ (command_lengths j.job.command ++ field (escape (j.job.user ++ command_parts j.job.command j.job.path)))))

-- what stands behind the word of a line
abbrev pub line_fields : StateLine → List ℕ
line_fields (says.Checkpoint events stopped) = codes " 1" ++ (number events ++ bit stopped)
line_fields (says.Used i) = number i.lo ++ number i.hi
line_fields (says.Record r) = record_fields r
line_fields (says.Session s) = session_fields s
line_fields (says.Slot l) = number l.session ++ (number l.at ++ slot_kind_fields l.what)
line_fields (says.Queued q) = queued_fields q
line_fields (says.Job j) = job_fields j

-- the word of a line
abbrev pub line_word_of : StateLine → LineWord
line_word_of (says.Checkpoint events stopped) = word.Checkpoint
line_word_of (says.Used i) = word.Used
line_word_of (says.Record r) = word.Record
line_word_of (says.Session s) = word.Session
line_word_of (says.Slot l) = word.Slot
line_word_of (says.Queued q) = word.Queued
line_word_of (says.Job j) = word.Job

-- a line, as it is spelled
abbrev pub state_line : StateLine → List ℕ
state_line l = line_word_text (line_word_of l) ++ line_fields l

-- ---- the ranges of the values

-- the bytes are bytes, and how many there are fits its type
abbrev pub IsPiece : List ℕ → Type 0
IsPiece bytes = IsText bytes × IsNumber (length bytes)

-- a directory or a path begins with a slash
abbrev pub is_from_root : List ℕ → Bool
is_from_root path = begins 47 path

-- the path is bytes, and begins with a slash
abbrev pub IsFromRoot : List ℕ → Type 0
IsFromRoot path = IsText path × (is_from_root path ≡ true)

-- a record is of an address, of a name, or of both
abbrev pub has_key : RecordLine → Bool
has_key r = is_some r.ip || is_some r.user

-- the options and the argument of a command are bytes
abbrev pub HasPieces : DataChanCmd → Type 0
HasPieces c = Each IsPiece (command_options c) × Each IsPiece (path_of c)

-- the address, the numbers and the name of a session fit their types
pub record IsSessionLine (s : SessionLine) : Type 0 where
  pub session : IsNumber s.session
  pub raw : IsAddress s.raw
  pub local : IsAddress s.local
  pub client : IsIp s.client
  pub trace : IsNumber s.trace
  pub active : IsNumber s.active
  pub offset : IsNumber s.offset
  pub tickets : IsNumber s.tickets
  pub notices : IsNumber s.notices
  pub user : Each IsPiece s.user
  pub cwd : IsFromRoot s.cwd

-- what a slot has fits its type
abbrev pub IsSlotKind : SlotKind → Type 0
IsSlotKind (kept.Waits port) = port < 2 ^ 16
IsSlotKind (kept.HasLink n) = IsNumber n

-- the numbers and the texts of a waiting transfer fit their types
pub record IsQueuedLine (q : QueuedLine) : Type 0 where
  pub session : IsNumber q.session
  pub nr : IsNumber q.nr
  pub offset : IsNumber q.offset
  pub command : HasPieces q.command
  pub path : IsFromRoot q.path

-- the numbers and the texts of a running transfer fit their types
pub record IsJobLine (j : JobLine) : Type 0 where
  pub session : IsNumber j.job.ticket.session
  pub nr : IsNumber j.job.ticket.nr
  pub offset : IsNumber j.job.offset
  pub done : IsNumber j.job.done
  pub link : IsNumber j.job.number
  pub user : IsPiece j.job.user
  pub command : HasPieces j.job.command
  pub path : IsFromRoot j.job.path

-- what a line says fits its type: an interval has a number, a record a key, and directories and paths begin with a slash
abbrev pub IsStateLine : StateLine → Type 0
IsStateLine (says.Checkpoint events stopped) = IsNumber events
IsStateLine (says.Used i) = IsNumber i.lo × IsNumber i.hi × (i.lo ≤ i.hi)
IsStateLine (says.Record r) = (r.count < 2 ^ 32) × IsNumber r.at × Each IsIp r.ip × Each IsPiece r.user × (has_key r ≡ true)
IsStateLine (says.Session s) = IsSessionLine s
IsStateLine (says.Slot l) = IsNumber l.session × IsNumber l.at × IsSlotKind l.what
IsStateLine (says.Queued q) = IsQueuedLine q
IsStateLine (says.Job j) = IsJobLine j
