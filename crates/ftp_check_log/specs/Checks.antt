-- How far a printed log is checked.
use Rattle.std.specs.Prelude.{◌≡◌, ℕ, ◌≤◌, List, [], ◌∷◌, ◌++◌, length, map, take, reverse, true, Option, Some, None}
use Rattle.ftp_options.specs.Builder.{settings_of}
use Rattle.ftp_events.specs.declared.action.Action.{Action}
use Rattle.ftp_events.specs.declared.entry.Entry.{Entry}
use Rattle.ftp_events.specs.declared.event.Answer.{Answer}
use Rattle.ftp_events.specs.declared.event.Answer.TheVariants as answer
use Rattle.ftp_events.specs.declared.event.HubEvent.{HubEvent}
use Rattle.ftp_events.specs.Right.{IsRight, IsActed}
use Rattle.ftp_hub.specs.Stands.{Stands, options_of, count_of}
use Rattle.ftp_text.specs.declared.setup.Item.{Item}
use Rattle.ftp_text.specs.declared.line.LogLine.{LogLine}
use Rattle.ftp_text.specs.declared.line.LogLine.TheVariants as says
use Rattle.ftp_text.specs.declared.place.Stage.{Stage}
use Rattle.ftp_text.specs.declared.place.Stage.TheVariants as stage
use Rattle.ftp_text.specs.LogLines.{IsAnswer, IsLogLine}
use Rattle.ftp_text.specs.LogText.{lines_of, IsPrintOf}
use Rattle.ftp_text.specs.Place.{stage_after, HasRead}
use Rattle.ftp_text.specs.Settings.{settings_in}
use Rattle.ftp_check_log.specs.declared.checker.Checker.{Checker}
use Rattle.ftp_check_log.specs.declared.verdict.Verdict.{Verdict}
use Rattle.ftp_check_log.specs.declared.verdict.Verdict.TheVariants as verdict
use Rattle.ftp_check_log.specs.Verdicts.{head_of, TellsOfLines, TellsOfText}

-- what the lines are at a stage: those of the decided entries, and of an event that is not decided yet; of the actions of the
-- last entry so many came
abbrev pub LinesAt : Stage → Option Item → List Entry → Option HubEvent → Answer → List Action → ℕ → List LogLine → Type 0
LinesAt stage.Start line log event given due came lines = (line ≡ None) × (log ≡ []) × (due ≡ []) × (lines ≡ [])
LinesAt stage.Opened line log event given due came lines = (log ≡ []) × (due ≡ []) × (lines ≡ lines_of line [])
LinesAt stage.Happened line log event given due came lines =
    (e : HubEvent) × (event ≡ Some e) × (given ≡ answer.None) × (due ≡ []) × (lines ≡ lines_of line (reverse log) ++ says.Event e ∷ [])
LinesAt stage.Answered line log event given due came lines =
    (e : HubEvent) × (event ≡ Some e) × IsAnswer given × (due ≡ []) × (lines ≡ lines_of line (reverse log) ++ says.Event e ∷ says.Answer given ∷ [])
LinesAt stage.Decided line log event given due came lines =
    (older : List Entry) × (last : Entry) × (log ≡ last ∷ older) × (due ≡ last.actions) × (came ≤ length due)
    × (lines ≡ lines_of line (reverse older) ++ (head_of last ++ says.Decision last.decision ∷ map says.Action (take came due)))

-- the hub stands for the entries of these lines, which are in the log where entries are kept, and what is known of the last one is
-- what it is at this stage
pub record Holds (s : Stage) (c : Checker) (lines : List LogLine) : Type 0 where
  pub line : Option Item
  pub log : List Entry
  pub set : settings_of (options_of c.hub) ≡ settings_in line
  pub stands : Stands c.hub log
  pub count : count_of c.hub ≡ length log
  pub shape : LinesAt s line log c.event c.answer c.due c.came lines
  pub kept : c.keeps ≡ true → c.log.entries ≡ log

-- these lines were read of the bytes and are as they are due
pub record Checks (c : Checker) (lines : List LogLine) (all rest : List ℕ) : Type 0 where
  pub read : HasRead lines all rest c.place
  pub holds : Holds c.place.stage c lines

-- a line was taken behind these where it may stand: it is as it is due, or it is not
abbrev pub Takes : LogLine → Option Verdict → Checker → Checker → Type 0
Takes x None old new =
    (s t : Stage) (lines : List LogLine) → IsLogLine x → stage_after s x ≡ Some t → Holds s old lines → Holds t new (lines ++ x ∷ [])
Takes x (Some v) old new =
    (s t : Stage) (lines : List LogLine) (rest : List ℕ) → IsLogLine x → stage_after s x ≡ Some t → Holds s old lines → TellsOfLines v (lines ++ x ∷ []) rest

-- the text is an options line or none and the print of so many entries that are right and acted by the hub's options, and these are in
-- the log where entries are kept
pub record IsRightBy (n : ℕ) (c : Checker) (bytes : List ℕ) : Type 0 where
  pub line : Option Item
  pub log : List Entry
  pub set : settings_of (options_of c.hub) ≡ settings_in line
  pub right : IsRight (options_of c.hub) log
  pub acted : IsActed (options_of c.hub) log
  pub print : IsPrintOf bytes line (reverse log)
  pub count : n ≡ length log
  pub kept : c.keeps ≡ true → c.log.entries ≡ log

-- what a verdict says of a text where a check comes to it
abbrev pub TellsBy : Verdict → Checker → List ℕ → Type 0
TellsBy (verdict.Right n) c bytes = IsRightBy n c bytes
TellsBy v c bytes = TellsOfText v bytes

-- where a check comes to right and entries are kept, the log that was kept is right by the hub's options
abbrev pub KeepsRight : Verdict → Checker → Type 0
KeepsRight (verdict.Right n) c = c.keeps ≡ true → IsRight (options_of c.hub) c.log.entries
KeepsRight v c = Unit {0}
