-- What a log is and what was written, by the status of a check.
use Rattle.std.specs.Prelude.{◌≡◌, ℕ, ◌⊎◌, List, [], Option, IfSome, codes}
use Rattle.ftp_base.specs.Outside.{Writes}
use Rattle.ftp_control.specs.Writing.{WritesFront}
use Rattle.ftp_text.specs.Printing.{line}
use Rattle.ftp_check_log.specs.declared.command.CheckCommand.{CheckCommand}
use Rattle.ftp_check_log.specs.declared.command.CheckCommand.TheVariants as command
use Rattle.ftp_check_log.specs.declared.telling.TheConstants.{CHECK_HELP, CHECK_VERSION}
use Rattle.ftp_check_log.specs.declared.evidence.Evidence.{Evidence}
use Rattle.ftp_check_log.specs.declared.explanation.Explanation.{Explanation}
use Rattle.ftp_check_log.specs.declared.verdict.Verdict.{Verdict}
use Rattle.ftp_check_log.specs.declared.verdict.Verdict.TheVariants as verdict
use Rattle.ftp_check_log.specs.Evidence.{evidence_text}
use Rattle.ftp_check_log.specs.Explanations.{HasEvidence, HasNoEntry, TellsWhy}
use Rattle.ftp_check_log.specs.Verdicts.{IsRightText, TellsOfText}
use Rattle.ftp_check_log.specs.declared.status.CheckStatus.{CheckStatus}
use Rattle.ftp_check_log.specs.declared.status.CheckStatus.TheVariants as status
use Rattle.ftp_check_log.specs.VerdictLines.{number_line, verdict_text, explanation_text}

-- the text is an options line or none and the print of a right and acted log, and `right` with the number of its entries was
-- written
pub record TellsRight (bytes : List ℕ) (old new : Option (List ℕ)) : Type 0 where
  pub entries : ℕ
  pub right : IsRightText entries bytes
  pub written : Writes old new (number_line (codes "right") entries)

-- the text is an options line or none and the print of a right and acted log with an entry at place k, and the evidence for it was
-- written
pub record TellsEvidence (k : ℕ) (bytes : List ℕ) (old new : Option (List ℕ)) : Type 0 where
  pub evidence : Evidence
  pub so : HasEvidence k evidence bytes
  pub written : Writes old new (line (evidence_text evidence))

-- the text is an options line or none and the print of a right and acted log with no entry at place k, and nothing was written
pub record TellsNoEntry (k : ℕ) (bytes : List ℕ) (old new : Option (List ℕ)) : Type 0 where
  pub so : HasNoEntry k bytes
  pub written : Writes old new []

-- an entry has another decision or other actions
abbrev pub IsOfEntry : Verdict → Type 0
IsOfEntry (verdict.Decided n due) = Unit {0}
IsOfEntry (verdict.Acted n) = Unit {0}
IsOfEntry _ = ⊥

-- so many entries from the front are right and acted, and the next one is not, as the line says that was written
pub record TellsWrong (bytes : List ℕ) (old new : Option (List ℕ)) : Type 0 where
  pub verdict : Verdict
  pub of_entry : IsOfEntry verdict
  pub so : TellsOfText verdict bytes
  pub written : Writes old new (verdict_text verdict)

-- the line is the first bad one, with all due before it, and nothing was written
pub record TellsBad (k : ℕ) (bytes : List ℕ) (old new : Option (List ℕ)) : Type 0 where
  pub so : TellsOfText (verdict.BadText k) bytes
  pub written : Writes old new []

-- nothing was written, or a part from the front of the line that tells the verdict of the text
abbrev pub TellsPart : List ℕ → Option (List ℕ) → Option (List ℕ) → Type 0
TellsPart bytes old new = (new ≡ old) ⊎ ((v : Verdict) × TellsOfText v bytes × WritesFront old new (verdict_text v))

-- by the status
abbrev pub CheckOutcome : CheckStatus → List ℕ → Option (List ℕ) → Option (List ℕ) → Type 0
CheckOutcome status.Done bytes old new = TellsRight bytes old new
CheckOutcome status.Wrong bytes old new = TellsWrong bytes old new
CheckOutcome (status.BadText k) bytes old new = TellsBad k bytes old new
CheckOutcome status.ReadFault bytes old new = new ≡ old
CheckOutcome status.WriteFault bytes old new = TellsPart bytes old new
CheckOutcome status.OutOfMemory bytes old new = TellsPart bytes old new
CheckOutcome status.NoEntry bytes old new = ⊥
CheckOutcome status.Usage bytes old new = ⊥

-- nothing was written, or a part from the front of the line that tells the explanation of the text's entry at place k
abbrev pub TellsWhyPart : ℕ → List ℕ → Option (List ℕ) → Option (List ℕ) → Type 0
TellsWhyPart k bytes old new = (new ≡ old) ⊎ ((x : Explanation) × TellsWhy k x bytes × WritesFront old new (explanation_text x))

-- by the status, where the entry at place k was asked for
abbrev pub WhyOutcome : ℕ → CheckStatus → List ℕ → Option (List ℕ) → Option (List ℕ) → Type 0
WhyOutcome k status.Done bytes old new = TellsEvidence k bytes old new
WhyOutcome k status.Wrong bytes old new = TellsWrong bytes old new
WhyOutcome k (status.BadText l) bytes old new = TellsBad l bytes old new
WhyOutcome k status.ReadFault bytes old new = new ≡ old
WhyOutcome k status.WriteFault bytes old new = TellsWhyPart k bytes old new
WhyOutcome k status.OutOfMemory bytes old new = TellsWhyPart k bytes old new
WhyOutcome k status.NoEntry bytes old new = TellsNoEntry k bytes old new
WhyOutcome k status.Usage bytes old new = ⊥

-- where a text is told, all of it was written, or a part from the front where the sink failed or memory ran out
abbrev pub TellsText : CheckStatus → List ℕ → Option (List ℕ) → Option (List ℕ) → Type 0
TellsText status.Done text old new = Writes old new text
TellsText status.WriteFault text old new = WritesFront old new text
TellsText status.OutOfMemory text old new = WritesFront old new text
TellsText _ text old new = ⊥

-- by the command and the status
abbrev pub OutcomeOfCommand : CheckCommand → CheckStatus → Option (List ℕ) → Option (List ℕ) → Option (List ℕ) → Type 0
OutcomeOfCommand command.Check s left old new = IfSome left (λ bytes. CheckOutcome s bytes old new)
OutcomeOfCommand (command.Why k) s left old new = IfSome left (λ bytes. WhyOutcome k s bytes old new)
OutcomeOfCommand command.Help s left old new = TellsText s CHECK_HELP.now old new
OutcomeOfCommand command.Version s left old new = TellsText s CHECK_VERSION.now old new
