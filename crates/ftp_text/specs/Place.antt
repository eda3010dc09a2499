-- How far a printed log is read.
use Rattle.std.specs.Prelude.{◌≡◌, ℕ, ◌≤◌, Bool, true, false, List, [], ◌∷◌, ◌++◌, length, Option, Some, None}
use Rattle.std.specs.List.{AllByRecursion}
use Rattle.ftp_events.specs.declared.entry.Entry.{Entry}
use Rattle.ftp_events.specs.declared.event.Answer.{Answer}
use Rattle.ftp_events.specs.declared.event.HubEvent.{HubEvent}
use Rattle.ftp_text.specs.Reading.{◌>>=◌}
use Rattle.ftp_text.specs.declared.setup.Item.{Item}
use Rattle.ftp_text.specs.declared.line.LogLine.{LogLine}
use Rattle.ftp_text.specs.declared.line.LogLine.TheVariants as says
use Rattle.ftp_text.specs.declared.place.Place.{Place}
use Rattle.ftp_text.specs.declared.place.Stage.{Stage}
use Rattle.ftp_text.specs.declared.place.Stage.TheVariants as stage
use Rattle.ftp_text.specs.LogLines.{IsAnswer, IsLogLine}
use Rattle.ftp_text.specs.LogText.{lines_of, text_of}

-- the stage behind a line, where it may stand there: options come first, an event first or behind the options or an entry, an
-- answer behind an event, a decision behind an event or its answer, and an action behind a decision or an action
abbrev pub stage_after : Stage → LogLine → Option Stage
stage_after stage.Start (says.Options i) = Some stage.Opened
stage_after stage.Start (says.Event e) = Some stage.Happened
stage_after stage.Opened (says.Event e) = Some stage.Happened
stage_after stage.Happened (says.Answer a) = Some stage.Answered
stage_after stage.Happened (says.Decision d) = Some stage.Decided
stage_after stage.Answered (says.Decision d) = Some stage.Decided
stage_after stage.Decided (says.Event e) = Some stage.Happened
stage_after stage.Decided (says.Action a) = Some stage.Decided
stage_after _ _ = None

-- a log can end here
abbrev pub is_whole : Stage → Bool
is_whole stage.Happened = false
is_whole stage.Answered = false
is_whole _ = true

-- the stage behind further lines
abbrev pub stage_behind : Stage → List LogLine → Option Stage
stage_behind s [] = Some s
stage_behind s (x ∷ lines) = stage_after s x >>= λ t. stage_behind t lines

-- what is known of the options, the whole entries and the half entry that were read
abbrev pub IsAt : Stage → Option Item → List Entry → List LogLine → Type 0
IsAt stage.Start options log half = (options ≡ None) × (log ≡ []) × (half ≡ [])
IsAt stage.Opened options log half = half ≡ []
IsAt stage.Happened options log half = (e : HubEvent) × (half ≡ says.Event e ∷ [])
IsAt stage.Answered options log half = (e : HubEvent) × (a : Answer) × IsAnswer a × (half ≡ says.Event e ∷ says.Answer a ∷ [])
IsAt stage.Decided options log half = (older : List Entry) × (last : Entry) × (log ≡ older ++ last ∷ []) × (half ≡ [])

-- the lines were read up to this stage: those of the options and of whole entries, and those of an entry that is half
pub record Reached (s : Stage) (before : List LogLine) : Type 0 where
  pub fits : AllByRecursion IsLogLine before
  pub stands : stage_behind stage.Start before ≡ Some s
  pub options : Option Item
  pub log : List Entry
  pub open_lines : List LogLine
  pub parts : before ≡ lines_of options log ++ open_lines
  pub is_at : IsAt s options log open_lines

-- these lines were read, and the rest of all bytes stands behind them
pub record HasRead (before : List LogLine) (all rest : List ℕ) (place : Place) : Type 0 where
  pub lines : place.lines ≡ length before
  pub taken : place.taken ≡ length (text_of before)
  pub small : place.taken ≤ 67108864
  pub reached : Reached place.stage before
  pub all_is : text_of before ++ rest ≡ all

-- the place can be gone on from
abbrev pub IsLawful : Place → Type 0
IsLawful place = (place.lines ≤ place.taken) × (place.taken ≤ 67108864)
