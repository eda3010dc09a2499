-- What holds of the texts of printed logs.
use Rattle.std.specs.Prelude.{◌≡◌, ℕ, List}
use Rattle.ftp_text.specs.LogText.{IsPrinted, HasFirstBad}

-- the text of a printed log has no bad line
abbrev pub PrintedLogsHaveNoBadLine : Type 0
PrintedLogsHaveNoBadLine = (bytes : List ℕ) (k : ℕ) → IsPrinted bytes → HasFirstBad k bytes → ⊥

-- a text has at most one first bad line
abbrev pub OneLineIsTheFirstBad : Type 0
OneLineIsTheFirstBad = (bytes : List ℕ) (k l : ℕ) → HasFirstBad k bytes → HasFirstBad l bytes → l ≡ k
