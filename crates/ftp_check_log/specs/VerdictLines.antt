-- The line that tells what a check came to, or why an entry was decided as it was.
use Rattle.std.specs.Prelude.{ℕ, List, [], ◌++◌, codes}
use Rattle.ftp_events.specs.declared.decision.Decision.{Decision}
use Rattle.ftp_text.specs.Fields.{field, number}
use Rattle.ftp_text.specs.Printing.{line, decision_text}
use Rattle.ftp_check_log.specs.declared.explanation.Explanation.{Explanation}
use Rattle.ftp_check_log.specs.declared.explanation.Explanation.TheVariants as explanation
use Rattle.ftp_check_log.specs.declared.verdict.Verdict.{Verdict}
use Rattle.ftp_check_log.specs.declared.verdict.Verdict.TheVariants as verdict
use Rattle.ftp_check_log.specs.Evidence.{evidence_text}

-- a word and a number
abbrev pub number_line : List ℕ → ℕ → List ℕ
number_line word n = line (word ++ number n)

-- the entry with another decision, and the name of the one that is due
abbrev pub due_line : ℕ → Decision → List ℕ
due_line n due = line (codes "wrong" ++ number n ++ field (codes "due") ++ field (decision_text due))

-- the line that tells the verdict: none for a bad text
abbrev pub verdict_text : Verdict → List ℕ
verdict_text (verdict.Right n) = number_line (codes "right") n
verdict_text (verdict.Decided n due) = due_line n due
verdict_text (verdict.Acted n) = number_line (codes "actions") n
verdict_text (verdict.BadText k) = []

-- the line that tells an explanation: none where there is no entry
abbrev pub explanation_text : Explanation → List ℕ
explanation_text (explanation.Found x) = line (evidence_text x)
explanation_text explanation.NoEntry = []
explanation_text (explanation.Wrong v) = verdict_text v
