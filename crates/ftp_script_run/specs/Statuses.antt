-- How a run ends.
use Rattle.std.specs.Prelude.{◌≡◌, ◌≢◌, ℕ, ◌≤◌, ◌⊎◌, Option, Some, Result, Ok, Err}
use Rattle.ftp_base.specs.Outside.{HasRisen}
use Rattle.ftp_base.specs.declared.fault.Failed.{Failed}
use Rattle.ftp_base.specs.declared.fault.Failed.TheVariants.{Fault, Memory}
use Rattle.ftp_script_run.specs.declared.status.Status.{Status}
use Rattle.ftp_script_run.specs.declared.status.Status.TheVariants as status

-- the exit status of the program
abbrev pub code_of : Status → ℕ
code_of status.Done = 0
code_of (status.BadLine k) = 2
code_of status.ReadFault = 3
code_of status.WriteFault = 4
code_of status.OutOfMemory = 5
code_of status.Usage = 64

-- the sink failed, or memory ran out
abbrev pub IsCutShort : Status → Type 0
IsCutShort s = (s ≡ status.WriteFault) ⊎ (s ≡ status.OutOfMemory)

-- no fault was counted
abbrev pub HasNotRisen : ℕ → ℕ → Type 0
HasNotRisen old new = HasRisen old new → ⊥

-- a run that goes on, or ends with this status, tells a fault of its source or of its sink only where it was counted, and no count
-- falls
pub record TellsFaults (ended : Option Status) (source_old source_new sink_old sink_new : ℕ) : Type 0 where
  pub no_usage : ended ≢ Some status.Usage
  pub read_fault : ended ≡ Some status.ReadFault → HasRisen source_old source_new
  pub write_fault : ended ≡ Some status.WriteFault → HasRisen sink_old sink_new
  pub source_count : source_old ≤ source_new
  pub sink_count : sink_old ≤ sink_new

-- the status where a write failed
abbrev pub stopped_by : Failed → Status
stopped_by Fault = status.WriteFault
stopped_by Memory = status.OutOfMemory

-- the status where the last write of a run went so
abbrev pub ended_by : {T : Type 0} → Result T Failed → Status → Status
ended_by (Ok x) s = s
ended_by (Err failed) s = stopped_by failed
