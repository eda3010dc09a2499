-- What a check of a printed log comes to.
use Rattle.std.specs.Prelude.{◌≡◌, ◌≢◌, ◌≤◌, ℕ, ◌⊎◌, List, [], ◌∷◌, ◌++◌, length, map, reverse, Option}
use Rattle.std.specs.List.{AllByRecursion}
use Rattle.ftp_options.specs.declared.options.Options.{Options}
use Rattle.ftp_options.specs.Builder.{settings_of}
use Rattle.ftp_events.specs.declared.action.Action.{Action}
use Rattle.ftp_events.specs.declared.decision.Decision.{Decision}
use Rattle.ftp_events.specs.declared.entry.Entry.{Entry}
use Rattle.ftp_events.specs.declared.event.Answer.{Answer}
use Rattle.ftp_events.specs.declared.event.HubEvent.{HubEvent}
use Rattle.ftp_events.specs.Right.{IsRight, IsActed}
use Rattle.ftp_text.specs.declared.setup.Item.{Item}
use Rattle.ftp_text.specs.declared.line.LogLine.{LogLine}
use Rattle.ftp_text.specs.declared.line.LogLine.TheVariants as says
use Rattle.ftp_text.specs.LogLines.{IsLogLine}
use Rattle.ftp_text.specs.Settings.{settings_in}
use Rattle.ftp_text.specs.LogText.{answers, lines_of, text_of, IsFront, IsPrintOf, IsFirstBad}
use Rattle.ftp_check_log.specs.declared.verdict.Verdict.{Verdict}
use Rattle.ftp_check_log.specs.declared.verdict.Verdict.TheVariants as verdict

-- by options with the settings of the options line each decision and each action of the log is due, the newest entry first
pub record IsDueLog (line : Option Item) (log : List Entry) : Type 0 where
  pub options : Options
  pub set : settings_of options ≡ settings_in line
  pub right : IsRight options log
  pub acted : IsActed options log

-- the text is an options line or none and the print of a right and acted log of so many entries
pub record IsRightText (n : ℕ) (bytes : List ℕ) : Type 0 where
  pub line : Option Item
  pub log : List Entry
  pub due : IsDueLog line log
  pub print : IsPrintOf bytes line (reverse log)
  pub count : n ≡ length log

-- these lines, which fit their types and with which a printed log can begin, stand at the front of the text, and behind them the
-- rest; they are not longer than a log may be
pub record AreLinesOf (lines : List LogLine) (rest bytes : List ℕ) : Type 0 where
  pub fits : AllByRecursion IsLogLine lines
  pub front : IsFront lines
  pub small : length (text_of lines) ≤ 67108864
  pub text : text_of lines ++ rest ≡ bytes

-- the event and the answer of an entry
abbrev pub head_of : Entry → List LogLine
head_of e = says.Event e.event ∷ answers e.answer

-- the lines of so many right and acted entries, and then an event with its answer and another decision than the due one
pub record HasOtherDecision (n : ℕ) (due : Decision) (lines : List LogLine) : Type 0 where
  pub line : Option Item
  pub log : List Entry
  pub next : Entry
  pub is_due : IsDueLog line (next ∷ log)
  pub count : n ≡ length log
  pub due_is : due ≡ next.decision
  pub other : Decision
  pub differs : other ≢ due
  pub parts : lines ≡ lines_of line (reverse log) ++ (head_of next ++ says.Decision other ∷ [])

-- the line does not go on with the actions that are missing: it is another action, or the next event
abbrev pub Strays : List Action → LogLine → Type 0
Strays missing (says.Action a) = (more : List Action) → missing ≡ a ∷ more → ⊥
Strays missing (says.Event e) = missing ≢ []
Strays missing _ = ⊥

-- the text ends before the actions that are missing, or its next line does not go on with them
abbrev pub GoesAstray : List Action → List LogLine → List ℕ → Type 0
GoesAstray missing [] rest = (missing ≢ []) × (rest ≡ [])
GoesAstray missing (x ∷ []) rest = Strays missing x
GoesAstray missing (x ∷ y ∷ lines) rest = ⊥

-- the lines of so many right and acted entries, and then an event with its answer, the decision that is due and other actions
pub record HasOtherActions (n : ℕ) (lines : List LogLine) (rest : List ℕ) : Type 0 where
  pub line : Option Item
  pub log : List Entry
  pub next : Entry
  pub is_due : IsDueLog line (next ∷ log)
  pub count : n ≡ length log
  pub done : List Action
  pub missing : List Action
  pub actions : next.actions ≡ done ++ missing
  pub last : List LogLine
  pub astray : GoesAstray missing last rest
  pub parts : lines ≡ (lines_of line (reverse log) ++ (head_of next ++ says.Decision next.decision ∷ map says.Action done)) ++ last

-- as far as they go, these are the lines of a right and acted log, of which some last actions are missing, and then perhaps
-- of an event that is not decided yet, with its answer
pub record AreDue (lines : List LogLine) : Type 0 where
  pub line : Option Item
  pub log : List Entry
  pub due : IsDueLog line log
  pub missing : List Action
  pub undecided : List LogLine
  pub parts : lines ++ map says.Action missing ≡ lines_of line (reverse log) ++ undecided
  pub half : (undecided ≡ []) ⊎ ((e : HubEvent) × (a : Answer) × (undecided ≡ says.Event e ∷ answers a))

-- line k is the first bad one, and as far as they go the lines before it are due
pub record HasBadText (k : ℕ) (before : List LogLine) (rest : List ℕ) : Type 0 where
  pub bad : IsFirstBad k before rest
  pub due : AreDue before

-- what a verdict says of the lines at the front of a text, and of the rest
abbrev pub TellsOfLines : Verdict → List LogLine → List ℕ → Type 0
TellsOfLines (verdict.Right n) lines rest = ⊥
TellsOfLines (verdict.Decided n due) lines rest = HasOtherDecision n due lines
TellsOfLines (verdict.Acted n) lines rest = HasOtherActions n lines rest
TellsOfLines (verdict.BadText k) lines rest = HasBadText k lines rest

-- what a verdict says of a text
abbrev pub TellsOfText : Verdict → List ℕ → Type 0
TellsOfText (verdict.Right n) bytes = IsRightText n bytes
TellsOfText v bytes = (lines : List LogLine) × (rest : List ℕ) × AreLinesOf lines rest bytes × TellsOfLines v lines rest

-- no other verdict is so of the text
abbrev pub IsOnlyVerdict : Verdict → List ℕ → Type 0
IsOnlyVerdict v bytes = (w : Verdict) → TellsOfText w bytes → w ≡ v
