-- What a run keeps that goes on from the state of a hub, and what it wrote, by its status.
use Rattle.std.specs.Prelude.{◌≡◌, ◌⊎◌, ℕ, ◌+◌, true, false, List, [], ◌++◌, length, Option, Some, option_to_list, IfSome, Result, Ok, Err}
use Rattle.std.specs.List.{list_all}
use Rattle.ftp_base.specs.Outside.{Writes}
use Rattle.ftp_options.specs.declared.options.Options.{Options}
use Rattle.ftp_control.specs.Lines.{Rest}
use Rattle.ftp_control.specs.Writing.{WritesFront}
use Rattle.ftp_hub.specs.declared.state.HubState.{HubState}
use Rattle.ftp_hub.specs.declared.state.StateError.{StateError}
use Rattle.ftp_hub.specs.Refused.{HasCause}
use Rattle.ftp_text.specs.StateText.{IsFirstBadStateLine, IsSpelledBy}
use Rattle.ftp_text.specs.declared.setup.Item.{Item}
use Rattle.ftp_script_run.specs.declared.head.Head.{Head}
use Rattle.ftp_script_run.specs.declared.resumed.Resumed.{Resumed}
use Rattle.ftp_script_run.specs.declared.run.Run.{Run}
use Rattle.ftp_script_run.specs.declared.status.Status.{Status}
use Rattle.ftp_script_run.specs.declared.status.Status.TheVariants as status
use Rattle.ftp_script_run.specs.declared.text_script.ScriptError.{ScriptError}
use Rattle.ftp_script_run.specs.declared.text_script.ScriptError.TheVariants as error
use Rattle.ftp_script_run.specs.declared.text_script.ScriptReader.{ScriptReader}
use Rattle.ftp_script_run.specs.Outcome.{bad_line}
use Rattle.ftp_script_run.specs.Resumed.{AllGoOn, AreOptionsOf, HasBadResumedLine, IsBadHead, IsHead, IsResumed, ResumesPart, bar_place, links_named}
use Rattle.ftp_script_run.specs.Runs.{Keeps, Running}
use Rattle.ftp_script_run.specs.Script.{has_link}
use Rattle.ftp_script_run.specs.SetUp.{has_event}
use Rattle.ftp_script_run.specs.Statuses.{IsCutShort}

-- ---- while it goes on

-- the bytes begin with a state that the options do not refuse, and this rest stands behind so many lines
pub record IsBegunAt (bytes rest : List ℕ) (before : ℕ) (o : Options) (x : HubState) : Type 0 where
  pub line : Option Item
  pub texts : List (List ℕ)
  pub head : IsHead bytes line texts rest before
  pub spelled : IsSpelledBy texts x
  pub set : AreOptionsOf line o
  pub passed : (e : StateError) → HasCause o x e → ⊥

-- the links that the state names are waited for, or each of them has its line; behind an event none is waited for
pub record Awaits (resumed : Resumed) (x : HubState) (items : List Item) : Type 0 where
  pub links : (resumed.links.items ≡ links_named x) ⊎ ((resumed.links.items ≡ []) × (list_all (λ n. has_link n items) (links_named x) ≡ true))
  pub none : has_event items ≡ true → resumed.links.items ≡ []

-- a run goes on from a state that the options do not refuse; where the bytes are told, they begin with it
pub record Begins (front : List ℕ) (all : Option (List ℕ)) (resumed : Resumed) (run : Run) (held : List ℕ) (left : Option (List ℕ)) : Type 0 where
  pub options : Options
  pub state : HubState
  pub kept : Keeps (Some (options, state)) run [] []
  pub awaits : Awaits resumed state []
  pub begun : IfSome all (λ bytes. (rest : List ℕ) × Rest held left rest × IsBegunAt (front ++ bytes) rest resumed.before options state)

-- the state of the lines behind which the line of two hyphens stands; or the first bad line: one of them, or the one that is missing
abbrev pub GivesState : Head → List (List ℕ) → Result HubState ScriptError → Type 0
GivesState head texts (Ok x) = IsSpelledBy texts x × (head.is_closed ≡ true)
GivesState head texts (Err (error.BadLine k)) =
    ((j : ℕ) × IsFirstBadStateLine j texts × (k ≡ length (option_to_list head.options) + j))
    ⊎ ((x : HubState) × IsSpelledBy texts x × (head.is_closed ≡ false) × (k ≡ bar_place head))
GivesState head texts (Err error.Fault) = ⊥
GivesState head texts (Err error.Memory) = Unit {0}

-- items were read behind a state and their log was written, on the way through these bytes, where they are told
pub record Resuming (all : Option (List ℕ)) (resumed : Resumed) (reader : ScriptReader) (run : Run) (buffer : List ℕ) (left old new : Option (List ℕ)) : Type 0 where
  pub options : Options
  pub state : HubState
  pub behind : Option (List ℕ)
  pub running : Running (Some (options, state)) behind reader run buffer left old new
  pub begun : IfSome all (λ bytes. (rest : List ℕ) × (behind ≡ Some rest) × IsBegunAt bytes rest resumed.before options state)
  pub goes_on : AllGoOn state [] running.items
  pub awaits : Awaits resumed state running.items

-- ---- how it ends

-- a bad line was named, or a part of its line was written; else nothing was
abbrev pub IsRefusedSo : ScriptError → Status → Option (List ℕ) → Option (List ℕ) → Type 0
IsRefusedSo (error.BadLine k) s old new =
    ((s ≡ status.BadLine k) × Writes old new (bad_line k)) ⊎ (IsCutShort s × WritesFront old new (bad_line k))
IsRefusedSo error.Fault s old new = (s ≡ status.ReadFault) × (new ≡ old)
IsRefusedSo error.Memory s old new = (s ≡ status.OutOfMemory) × (new ≡ old)

-- nothing was written, or a part of the line that names a bad line before the script, or a part of the log and of what stands
-- behind it
abbrev pub IsResumeCut : List ℕ → Option (List ℕ) → Option (List ℕ) → Type 0
IsResumeCut bytes old new =
    (new ≡ old) ⊎ (((k : ℕ) × IsBadHead k bytes × WritesFront old new (bad_line k)) ⊎ ResumesPart bytes old new)

-- what was read of these bytes and what was written, by the status
abbrev pub ResumeOutcome : Status → List ℕ → Option (List ℕ) → Option (List ℕ) → Option (List ℕ) → Type 0
ResumeOutcome status.Done bytes left old new = IsResumed bytes left old new
ResumeOutcome (status.BadLine k) bytes left old new = HasBadResumedLine k bytes old new
ResumeOutcome status.Usage bytes left old new = ⊥
ResumeOutcome _ bytes left old new = IsResumeCut bytes old new
