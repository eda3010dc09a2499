-- A printed log as a text: an options line or none, and the lines of the entries, the oldest first.
use Rattle.std.specs.Prelude.{◌≡◌, ℕ, ◌+◌, ◌<◌, ◌≤◌, ◌⊎◌, List, [], ◌∷◌, ◌++◌, length, map, Option, Some, None}
use Rattle.std.specs.List.{flat_map, position_or_len, AllByRecursion}
use Rattle.ftp_events.specs.declared.entry.Entry.{Entry}
use Rattle.ftp_events.specs.declared.event.Answer.{Answer}
use Rattle.ftp_events.specs.declared.event.Answer.TheVariants as answer
use Rattle.ftp_control.specs.Lines.{is_line_feed, first_line}
use Rattle.ftp_text.specs.declared.setup.Item.{Item}
use Rattle.ftp_text.specs.Setup.{item_line}
use Rattle.ftp_text.specs.Printing.{line, print}
use Rattle.ftp_text.specs.declared.line.LogLine.{LogLine}
use Rattle.ftp_text.specs.declared.line.LogLine.TheVariants as says
use Rattle.ftp_text.specs.LogLines.{log_line, IsLogLine}

-- what the line of an answer says, where something was asked
abbrev pub answers : Answer → List LogLine
answers answer.None = []
answers a = says.Answer a ∷ []

-- what the lines of an entry say
abbrev pub says_of : Entry → List LogLine
says_of e = says.Event e.event ∷ answers e.answer ++ says.Decision e.decision ∷ map says.Action e.actions

-- what the options line says, where there is one
abbrev pub opening : Option Item → List LogLine
opening None = []
opening (Some i) = says.Options i ∷ []

-- what the lines of a printed log say
abbrev pub lines_of : Option Item → List Entry → List LogLine
lines_of options log = opening options ++ flat_map says_of log

-- the lines as a text, each with its line feed
abbrev pub text_of : List LogLine → List ℕ
text_of lines = flat_map (λ x. line (log_line x)) lines

-- these are the lines of a printed log with these options and entries, and what they say fits its types
pub record IsLogOf (lines : List LogLine) (options : Option Item) (log : List Entry) : Type 0 where
  pub same : lines ≡ lines_of options log
  pub fits : AllByRecursion IsLogLine lines

-- these are the lines of a printed log
abbrev pub IsLog : List LogLine → Type 0
IsLog lines = (options : Option Item) × (log : List Entry) × IsLogOf lines options log

-- a printed log begins with these lines
abbrev pub IsFront : List LogLine → Type 0
IsFront lines = (more : List LogLine) × IsLog (lines ++ more)

-- how many bytes the first line and its line feed are
abbrev pub line_size : List ℕ → ℕ
line_size bytes = length (first_line bytes) + 1

-- behind the lines before it, the first line of the bytes is that of x: it ends in a line feed, up to which no log is too long,
-- and a printed log can begin so
pub record ComesNext (before : List LogLine) (bytes : List ℕ) (x : LogLine) : Type 0 where
  pub ends : position_or_len is_line_feed bytes < length bytes
  pub spelled : log_line x ≡ first_line bytes
  pub front : IsFront (before ++ x ∷ [])
  pub small : length (text_of before) + line_size bytes ≤ 67108864

-- the options line, where there is one
abbrev pub options_line : Option Item → List ℕ
options_line None = []
options_line (Some i) = line (item_line i)

-- the text is that of these options and of this log, the oldest entry first
pub record IsPrintOf (bytes : List ℕ) (options : Option Item) (log : List Entry) : Type 0 where
  pub spelled : bytes ≡ options_line options ++ print log
  pub fits : AllByRecursion IsLogLine (lines_of options log)
  pub small : length bytes ≤ 67108864

-- the text is that of a printed log, and not too long: an options line or none, and the log as it is printed, of which all
-- fits its types
abbrev pub IsPrinted : List ℕ → Type 0
IsPrinted bytes = (options : Option Item) × (log : List Entry) × IsPrintOf bytes options log

-- these lines stand before line k, which is the first that no printed log with these lines before it can have; where a log ends
-- in the middle of an entry, that is its last line
pub record IsFirstBad (k : ℕ) (before : List LogLine) (rest : List ℕ) : Type 0 where
  pub front : IsFront before
  pub small : length (text_of before) ≤ 67108864
  pub bad :
      ((0 < length rest) × ((x : LogLine) → ComesNext before rest x → ⊥) × (k ≡ length before + 1))
      ⊎ ((rest ≡ []) × (IsLog before → ⊥) × (k ≡ length before))

-- line k is the first that no printed log with these lines before it can have
abbrev pub HasFirstBad : ℕ → List ℕ → Type 0
HasFirstBad k bytes = (before : List LogLine) × (rest : List ℕ) × (text_of before ++ rest ≡ bytes) × IsFirstBad k before rest
