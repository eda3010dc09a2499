-- Reading a line of a printed log.
use Rattle.std.specs.Prelude.{ℕ, List, codes, Option, Some, None, if◌then◌else◌}
use Rattle.ftp_text.specs.Reading.{◌>>=◌, begins, literal_at, all_of}
use Rattle.ftp_text.specs.EventReading.{event_of}
use Rattle.ftp_text.specs.SetupReading.{item_of}
use Rattle.ftp_text.specs.declared.line.LogLine.{LogLine}
use Rattle.ftp_text.specs.declared.line.LogLine.TheVariants as says
use Rattle.ftp_text.specs.LogLines.{is_options}
use Rattle.ftp_text.specs.AnswerReading.{answer_at}
use Rattle.ftp_text.specs.DecisionReading.{decision_at}
use Rattle.ftp_text.specs.ActionReading.{action_at}

-- the options of a whole line
abbrev pub options_of : List ℕ → Option LogLine
options_of line = do
  i ← item_of line
  if is_options i then Some (says.Options i) else None

-- the event of a whole line
abbrev pub event_in : List ℕ → Option LogLine
event_in line = do
  rest ← literal_at (codes "> ") line
  e ← event_of rest
  Some (says.Event e)

-- the answer of a whole line
abbrev pub answer_in : List ℕ → Option LogLine
answer_in line = all_of answer_at line >>= λ a. Some (says.Answer a)

-- the decision of a whole line
abbrev pub decision_in : List ℕ → Option LogLine
decision_in line = all_of decision_at line >>= λ d. Some (says.Decision d)

-- the action of a whole line
abbrev pub action_in : List ℕ → Option LogLine
action_in line = all_of action_at line >>= λ a. Some (says.Action a)

-- what a whole line says, by its first byte
unfoldable pub log_line_of : List ℕ → Option LogLine
log_line_of line =
    if begins 111 line then options_of line
    else if begins 62 line then event_in line
    else if begins 63 line then answer_in line
    else if begins 61 line then decision_in line
    else action_in line
