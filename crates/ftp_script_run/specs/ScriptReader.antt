-- How far a script is read.
use Rattle.std.specs.Prelude.{◌≡◌, ℕ, ◌≤◌, ◌⊎◌, true, List, [], ◌∷◌, ◌++◌, length, Option, Some, None, Result, Ok, Err}
use Rattle.ftp_control.specs.Lines.{bytes_in, IsWithin, Rest, HasNoFeed, IsNext}
use Rattle.ftp_control.specs.declared.lines.Span.{Span}
use Rattle.ftp_control.specs.declared.lines.NextLineError.TheVariants as line_error
use Rattle.ftp_text.specs.declared.setup.Item.{Item}
use Rattle.ftp_script_run.specs.declared.text_script.TheConstants.{BUFFER_SIZE}
use Rattle.ftp_script_run.specs.declared.text_script.ScriptReader.{ScriptReader}
use Rattle.ftp_script_run.specs.declared.text_script.ScriptError.{ScriptError}
use Rattle.ftp_script_run.specs.declared.text_script.ScriptError.TheVariants as error
use Rattle.ftp_script_run.specs.declared.text_script.Next.{Next}
use Rattle.ftp_script_run.specs.declared.text_script.Next.TheVariants as next
use Rattle.ftp_script_run.specs.Script.{may_stand, Continues, IsScriptOf}
use Rattle.ftp_script_run.specs.Admission.{Remembers}

-- the reader and its buffer belong together, and no more than the limit was read
pub record IsLawful (reader : ScriptReader) (buffer : List ℕ) : Type 0 where
  pub len : length buffer ≡ 65537
  pub within : IsWithin buffer reader.held
  pub number : reader.number ≤ reader.taken
  pub small : reader.taken ≤ 16777216

-- the reader knows which lines may follow these items
abbrev pub Follows : ScriptReader → List Item → Type 0
Follows reader before = Remembers reader.admission before

-- nothing, or lines of which the last has its line feed
abbrev pub EndsLine : List ℕ → Type 0
EndsLine bytes = (bytes ≡ []) ⊎ ((front : List ℕ) × (bytes ≡ front ++ 10 ∷ []))

-- the bytes that were read are whole lines, of which the last of all may lack its line feed
abbrev pub AreWhole : List ℕ → List ℕ → Type 0
AreWhole read rest = EndsLine read ⊎ (rest ≡ [])

-- with further items of these bytes, all bytes are a script of these items and the further ones
abbrev pub GoesOn : List Item → ℕ → List ℕ → List ℕ → Type 0
GoesOn before taken bytes all = (items : List Item) (bad : Option ℕ) → Continues before taken bytes items bad → IsScriptOf all (before ++ items) bad

-- these items are those of the lines read, and the script goes on with what the buffer holds and what is left
pub record HasRead (before : List Item) (all : List ℕ) (reader : ScriptReader) (buffer : List ℕ) (left : Option (List ℕ)) : Type 0 where
  pub number : reader.number ≡ length before
  pub known : Follows reader before
  pub read : List ℕ
  pub bytes : List ℕ
  pub all_is : read ++ bytes ≡ all
  pub rest : Rest (bytes_in buffer reader.held) left bytes
  pub whole : AreWhole read bytes
  pub items : IsScriptOf read before None
  pub same : GoesOn before reader.taken bytes all
  pub open_end : ((more : List ℕ) → GoesOn before reader.taken more (read ++ more)) ⊎ (bytes ≡ [])

-- these items are those of whole lines from the front of the bytes, and of what stands behind these lines at most one buffer
-- was taken from the source
pub record ReadsAhead (before : List Item) (all : List ℕ) (left : Option (List ℕ)) : Type 0 where
  pub read : List ℕ
  pub ahead : List ℕ
  pub rest : List ℕ
  pub all_is : read ++ (ahead ++ rest) ≡ all
  pub left_is : left ≡ Some rest
  pub whole : AreWhole read (ahead ++ rest)
  pub items : IsScriptOf read before None
  pub buffer : length ahead ≤ BUFFER_SIZE

-- whole lines of the bytes were read, with these items; behind them the begin of a line is held, and the rest is left
pub record StopsBehind (before : List Item) (all : List ℕ) (left : Option (List ℕ)) : Type 0 where
  pub reads : ReadsAhead before all left
  pub no_feed : HasNoFeed reads.ahead

-- what is answered behind these items of the script: its next item, its end, the number of its bad line, or a fault between lines
abbrev pub Answers : List Item → List ℕ → Result (Option Item) ScriptError → ScriptReader → List ℕ → Option (List ℕ) → Type 0
Answers before all (Ok (Some i)) reader buffer left = HasRead (before ++ i ∷ []) all reader buffer left
Answers before all (Ok None) reader buffer left = IsScriptOf all before None × (left ≡ Some [])
Answers before all (Err (error.BadLine k)) reader buffer left = IsScriptOf all before (Some k)
Answers before all (Err error.Fault) reader buffer left = StopsBehind before all left
Answers before all (Err error.Memory) reader buffer left = Unit {0}

-- an item may stand behind these, and is then among them
abbrev pub IsLetIn : List Item → Item → ScriptReader → Type 0
IsLetIn before i reader = (may_stand before i ≡ true) × Follows reader (before ++ i ∷ [])

-- the line that was found, or none
abbrev pub next_of : Option Span → Next
next_of (Some line) = next.Line line
next_of None = next.End

-- P holds of the line
abbrev pub IfLine : Next → (Span → Type 0) → Type 0
IfLine (next.Line line) P = P line
IfLine _ P = Unit {0}

-- the source failed
abbrev pub IsFault : Next → Type 0
IsFault next.Fault = Unit {0}
IsFault _ = ⊥

-- what a search for the next line answers over these bytes
abbrev pub NextIs : List ℕ → Next → List ℕ → List ℕ → Option (List ℕ) → Type 0
NextIs bytes (next.Line line) buffer held left = IsNext 65536 bytes (Ok (Some line)) buffer held left
NextIs bytes next.End buffer held left = IsNext 65536 bytes (Ok None) buffer held left
NextIs bytes next.Long buffer held left = IsNext 65536 bytes (Err line_error.Long) buffer held left
NextIs bytes next.Fault buffer held left = IsNext 65536 bytes (Err line_error.Fault) buffer held left
