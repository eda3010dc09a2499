-- What was read and what was written, by the status of a run.
use Rattle.std.specs.Prelude.{◌≡◌, ◌⊎◌, ℕ, List, [], ◌∷◌, ◌++◌, codes, reverse, Option, Some, None}
use Rattle.ftp_base.specs.LinkTable.{Numbered}
use Rattle.ftp_base.specs.Memory.{LinkState}
use Rattle.ftp_base.specs.Outside.{Writes}
use Rattle.ftp_options.specs.declared.options.Options.{Options}
use Rattle.ftp_events.specs.declared.entry.Entry.{Entry}
use Rattle.ftp_hub.specs.declared.state.HubState.{HubState}
use Rattle.ftp_hub.specs.State.{AreMadeBy, IsState}
use Rattle.ftp_control.specs.Writing.{WritesFront}
use Rattle.ftp_text.specs.Fields.{number}
use Rattle.ftp_text.specs.declared.setup.Item.{Item}
use Rattle.ftp_text.specs.Printing.{print}
use Rattle.ftp_text.specs.declared.state_line.StateLine.{StateLine}
use Rattle.ftp_text.specs.Grammar.{AreStateLines}
use Rattle.ftp_text.specs.StateText.{state_text}
use Rattle.ftp_script_run.specs.Script.{IsScriptOf}
use Rattle.ftp_script_run.specs.ScriptReader.{AreWhole, ReadsAhead, StopsBehind}
use Rattle.ftp_script_run.specs.SetUp.{StorageState}
use Rattle.ftp_script_run.specs.declared.command.Ending.{Ending}
use Rattle.ftp_script_run.specs.declared.command.Ending.TheVariants as ending
use Rattle.ftp_script_run.specs.declared.status.Status.{Status}
use Rattle.ftp_script_run.specs.declared.status.Status.TheVariants as status
use Rattle.ftp_script_run.specs.Left.{end_lines}
use Rattle.ftp_script_run.specs.Legal.{IsLegal}

-- the lines of the log, the oldest entry first
abbrev pub log_lines : List Entry → List ℕ
log_lines log = print (reverse log)

-- the line that names a bad line
abbrev pub bad_line : ℕ → List ℕ
bad_line k = (codes "bad line" ++ number k) ++ 10 ∷ []

-- ---- what stands behind the log

-- the text of the lines of a state which answers each question as the log does
pub record IsStateText (o : Options) (log : List Entry) (text : List ℕ) : Type 0 where
  pub state : HubState
  pub of_log : IsState o log state
  pub made : AreMadeBy o.lockout state.records
  pub lines : List StateLine
  pub has : AreStateLines state lines
  pub text_is : text ≡ state_text lines

-- behind the log of a whole script: the lines on the links and files that it leaves, or the text of the state
abbrev pub IsEnd : Ending → Options → List Entry → Numbered LinkState → StorageState → List ℕ → Type 0
IsEnd ending.LinksAndFiles o log links storage text = text ≡ end_lines links storage
IsEnd ending.State o log links storage text = IsStateText o log text

-- behind the log of a script's front, with the rest behind it: the line that names its bad line, or with no rest what stands
-- behind that of a whole script
abbrev pub IsBehindFront : Ending → Options → List Entry → Numbered LinkState → StorageState → Option ℕ → List ℕ → List ℕ → Type 0
IsBehindFront e o log links storage (Some k) rest text = text ≡ bad_line k
IsBehindFront e o log links storage None [] text = IsEnd e o log links storage text
IsBehindFront e o log links storage None (c ∷ rest) text = text ≡ []

-- what stands behind the log was written
abbrev pub Ends : Ending → Options → List Entry → Numbered LinkState → StorageState → Option (List ℕ) → Option (List ℕ) → Type 0
Ends e o log links storage old new = (text : List ℕ) × IsEnd e o log links storage text × Writes old new text

-- nothing was written, or a part from the front of it
abbrev pub EndsPart : Ending → Options → List Entry → Numbered LinkState → StorageState → Option (List ℕ) → Option (List ℕ) → Type 0
EndsPart e o log links storage old new = (new ≡ old) ⊎ ((text : List ℕ) × IsEnd e o log links storage text × WritesFront old new text)

-- ---- how it ends

-- items were read so, and so was written of what their legal log is
pub record ReadsAndWrites (Read : List Item → Type 0) (Wrote : Options → List Entry → Numbered LinkState → StorageState → Type 0) : Type 0 where
  pub items : List Item
  pub log : List Entry
  pub read : Read items
  pub links : Numbered LinkState
  pub storage : StorageState
  pub legal : IsLegal items log links storage
  pub wrote : Wrote legal.due.options log links storage

-- all bytes are a script of these items, and are read
abbrev pub IsReadWhole : List ℕ → Option (List ℕ) → List Item → Type 0
IsReadWhole bytes left items = IsScriptOf bytes items None × (left ≡ Some [])

-- line k is the first bad one; behind the lines before it, which are those of the items, at most one buffer was taken from the
-- source
abbrev pub IsReadToBad : ℕ → List ℕ → Option (List ℕ) → List Item → Type 0
IsReadToBad k bytes left items = IsScriptOf bytes items (Some k) × ReadsAhead items bytes left

-- a front of whole lines was read, of which line k may be the first bad one, and so was written of what the legal log of its
-- items is; behind their lines at most one buffer was taken from the source
pub record ReadsFrontAndWrites (bytes : List ℕ) (left : Option (List ℕ)) (Wrote : Options → List Entry → Numbered LinkState → StorageState → Option ℕ → List ℕ → Type 0) : Type 0 where
  pub read : List ℕ
  pub rest : List ℕ
  pub items : List Item
  pub bad : Option ℕ
  pub log : List Entry
  pub all_is : read ++ rest ≡ bytes
  pub whole : AreWhole read rest
  pub script : IsScriptOf read items bad
  pub reads : ReadsAhead items bytes left
  pub links : Numbered LinkState
  pub storage : StorageState
  pub legal : IsLegal items log links storage
  pub wrote : Wrote legal.due.options log links storage bad rest

-- what was read of these bytes, by the status, and what was written of the legal log, of a script or a front of its lines
abbrev pub ScriptOutcome :
    (Status → Options → List Entry → Numbered LinkState → StorageState → Type 0) →
    (Options → List Entry → Numbered LinkState → StorageState → Option ℕ → List ℕ → Type 0) → Status → List ℕ → Option (List ℕ) → Type 0
ScriptOutcome Wrote Part status.Done bytes left = ReadsAndWrites (IsReadWhole bytes left) (Wrote status.Done)
ScriptOutcome Wrote Part (status.BadLine k) bytes left = ReadsAndWrites (IsReadToBad k bytes left) (Wrote (status.BadLine k))
ScriptOutcome Wrote Part status.ReadFault bytes left = ReadsAndWrites (λ items. StopsBehind items bytes left) (Wrote status.ReadFault)
ScriptOutcome Wrote Part status.WriteFault bytes left = ReadsFrontAndWrites bytes left Part
ScriptOutcome Wrote Part status.OutOfMemory bytes left = ReadsFrontAndWrites bytes left Part
ScriptOutcome Wrote Part status.Usage bytes left = ⊥

-- the log was written, and behind that of a whole script what stands there, or the line that names a bad line
abbrev pub WritesLog : Ending → Option (List ℕ) → Option (List ℕ) → Status → Options → List Entry → Numbered LinkState → StorageState → Type 0
WritesLog e old new status.Done o log links storage = (behind : List ℕ) × IsEnd e o log links storage behind × Writes old new (log_lines log ++ behind)
WritesLog e old new (status.BadLine k) o log links storage = Writes old new (log_lines log ++ bad_line k)
WritesLog e old new _ o log links storage = Writes old new (log_lines log)

-- a part of the log was written, or the log and a part of what stands behind it
abbrev pub WritesLogPart : Ending → Option (List ℕ) → Option (List ℕ) → Options → List Entry → Numbered LinkState → StorageState → Option ℕ → List ℕ → Type 0
WritesLogPart e old new o log links storage bad rest =
    WritesFront old new (log_lines log)
    ⊎ ((behind : List ℕ) × IsBehindFront e o log links storage bad rest behind × WritesFront old new (log_lines log ++ behind))

-- what was read of these bytes and what was written, by the status
abbrev pub Outcome : Ending → Status → List ℕ → Option (List ℕ) → Option (List ℕ) → Option (List ℕ) → Type 0
Outcome e s bytes left old new = ScriptOutcome (WritesLog e old new) (WritesLogPart e old new) s bytes left

-- all bytes are a script, and are read; its legal log was written, and what stands behind it
abbrev pub IsDone : Ending → List ℕ → Option (List ℕ) → Option (List ℕ) → Option (List ℕ) → Type 0
IsDone e bytes left old new = Outcome e status.Done bytes left old new

-- line k is the first bad one; behind the lines before it at most one buffer was taken from the source; the legal log of these
-- lines was written, and the line that names the bad one
abbrev pub HasBadLine : ℕ → List ℕ → Option (List ℕ) → Option (List ℕ) → Option (List ℕ) → Type 0
HasBadLine k bytes left old new = ReadsAndWrites (IsReadToBad k bytes left) (λ o log links storage. Writes old new (log_lines log ++ bad_line k))

-- whole lines were read, and of the line behind them a part, at most one buffer; exactly the legal log of the whole lines was written
abbrev pub WritesWhole : List ℕ → Option (List ℕ) → Option (List ℕ) → Option (List ℕ) → Type 0
WritesWhole bytes left old new = ReadsAndWrites (λ items. StopsBehind items bytes left) (λ o log links storage. Writes old new (log_lines log))

-- a part from the front of the whole output was written, as a front of whole lines tells it; behind the lines of its items at
-- most one buffer was taken from the source
abbrev pub WritesPart : Ending → List ℕ → Option (List ℕ) → Option (List ℕ) → Option (List ℕ) → Type 0
WritesPart e bytes left old new = ReadsFrontAndWrites bytes left (WritesLogPart e old new)
