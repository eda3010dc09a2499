-- What was read and what was written, by the command and the status of its run.
use Rattle.std.specs.Prelude.{◌≡◌, ◌⊎◌, ℕ, List, Option, IfSome}
use Rattle.ftp_base.specs.Outside.{Writes}
use Rattle.ftp_control.specs.Writing.{WritesFront}
use Rattle.ftp_script_run.specs.Audited.{AuditOutcome}
use Rattle.ftp_script_run.specs.Commands.{text_of}
use Rattle.ftp_script_run.specs.Outcome.{Outcome}
use Rattle.ftp_script_run.specs.Resuming.{ResumeOutcome}
use Rattle.ftp_script_run.specs.Statuses.{IsCutShort}
use Rattle.ftp_script_run.specs.declared.command.Command.{Command}
use Rattle.ftp_script_run.specs.declared.command.Command.TheVariants.{Run, Audit, Resume, Tell}
use Rattle.ftp_script_run.specs.declared.status.Status.{Status}
use Rattle.ftp_script_run.specs.declared.status.Status.TheVariants as status

-- a text was written, or where the run was cut short a part of it
abbrev pub TellOutcome : List ℕ → Status → Option (List ℕ) → Option (List ℕ) → Type 0
TellOutcome text s old new = ((s ≡ status.Done) × Writes old new text) ⊎ (IsCutShort s × WritesFront old new text)

-- what a command has read, where it reads, and written, where a source may have failed
abbrev pub CommandOutcome : Command → Status → Type 0 → Option (List ℕ) → Option (List ℕ) → Option (List ℕ) → Option (List ℕ) → Type 0
CommandOutcome (Run e) s failed all left old new = IfSome all (λ bytes. Outcome e s bytes left old new)
CommandOutcome Audit s failed all left old new = IfSome all (λ bytes. AuditOutcome s failed bytes left old new)
CommandOutcome Resume s failed all left old new = IfSome all (λ bytes. ResumeOutcome s bytes left old new)
CommandOutcome (Tell t) s failed all left old new = TellOutcome (text_of t) s old new
