-- How far what a source gives is checked.
use Rattle.std.specs.Prelude.{ℕ, List, ◌++◌, Option, IfSome}
use Rattle.ftp_control.specs.Lines.{Rest}
use Rattle.ftp_text.specs.declared.line.LogLine.{LogLine}
use Rattle.ftp_text.specs.LogText.{text_of}
use Rattle.ftp_check_log.specs.declared.checker.Checker.{Checker}
use Rattle.ftp_check_log.specs.Checks.{Checks}

-- these lines are as they are due; of all that the source had, the bytes that were read and not taken stand behind them, and then
-- what is left
pub record ReadsOn (all : Option (List ℕ)) (c : Checker) (held : List ℕ) (left : Option (List ℕ)) : Type 0 where
  pub lines : List LogLine
  pub checks : Checks c lines (text_of lines ++ held) held
  pub rest : IfSome all (λ bytes. Rest (text_of lines ++ held) left bytes)
