-- Why an entry of a printed log was decided as it was.
use Rattle.std.specs.Prelude.{◌≡◌, ℕ, ◌<◌, ◌≤◌, List, length, reverse, Option}
use Rattle.ftp_options.specs.declared.options.Options.{Options}
use Rattle.ftp_events.specs.declared.entry.Entry.{Entry}
use Rattle.ftp_events.specs.Right.{IsRight}
use Rattle.ftp_text.specs.declared.setup.Item.{Item}
use Rattle.ftp_text.specs.LogText.{IsPrintOf}
use Rattle.ftp_check_log.specs.declared.evidence.Evidence.{Evidence}
use Rattle.ftp_check_log.specs.declared.explanation.Explanation.{Explanation}
use Rattle.ftp_check_log.specs.declared.explanation.Explanation.TheVariants as explanation
use Rattle.ftp_check_log.specs.declared.verdict.Verdict.{Verdict}
use Rattle.ftp_check_log.specs.declared.verdict.Verdict.TheVariants as verdict
use Rattle.ftp_check_log.specs.Evidence.{IsEvidence, IsOnlyEvidence}
use Rattle.ftp_check_log.specs.Verdicts.{IsDueLog, IsRightText, TellsOfText}

-- the text is an options line or none and the print of a right and acted log, and this is the evidence for its entry at place k
pub record HasEvidence (k : ℕ) (x : Evidence) (bytes : List ℕ) : Type 0 where
  pub line : Option Item
  pub log : List Entry
  pub due : IsDueLog line log
  pub print : IsPrintOf bytes line (reverse log)
  pub entry : k < length log
  pub evidence : IsEvidence due.options (reverse log) k x
  pub only : IsOnlyEvidence due.options (reverse log) k x

-- what an explanation of the entry at place k says of a right log
abbrev pub TellsOfRight : Options → List Entry → ℕ → Explanation → Type 0
TellsOfRight o log k (explanation.Found x) = (k < length log) × IsEvidence o (reverse log) k x × IsOnlyEvidence o (reverse log) k x
TellsOfRight o log k explanation.NoEntry = length log ≤ k
TellsOfRight o log k (explanation.Wrong v) = ⊥

-- what it says of a log with this verdict
abbrev pub TellsOfLog : Verdict → Options → List Entry → ℕ → Explanation → Type 0
TellsOfLog (verdict.Right n) o log k x = TellsOfRight o log k x
TellsOfLog v o log k x = x ≡ explanation.Wrong v

-- the log is right where the verdict says so
abbrev pub IsRightAsSaid : Verdict → Options → List Entry → Type 0
IsRightAsSaid (verdict.Right n) o log = IsRight o log
IsRightAsSaid v o log = Unit {0}

-- the text is an options line or none and the print of a right and acted log with no entry at place k
abbrev pub HasNoEntry : ℕ → List ℕ → Type 0
HasNoEntry k bytes = (n : ℕ) × IsRightText n bytes × (n ≤ k)

-- the verdict is another one than right
abbrev pub IsNotRight : Verdict → Type 0
IsNotRight (verdict.Right n) = ⊥
IsNotRight v = Unit {0}

-- what an explanation of the entry at place k says of a text
abbrev pub TellsWhy : ℕ → Explanation → List ℕ → Type 0
TellsWhy k (explanation.Found x) bytes = HasEvidence k x bytes
TellsWhy k explanation.NoEntry bytes = HasNoEntry k bytes
TellsWhy k (explanation.Wrong v) bytes = IsNotRight v × TellsOfText v bytes

-- which explanation of the entry at place k a log with this verdict has
abbrev pub Explains : ℕ → Explanation → Verdict → Type 0
Explains k (explanation.Found x) (verdict.Right n) = k < n
Explains k explanation.NoEntry (verdict.Right n) = n ≤ k
Explains k (explanation.Wrong w) v = v ≡ w
Explains k x v = ⊥
