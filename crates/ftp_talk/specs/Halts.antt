-- Why a talk goes no further where a call of the outside failed.
use Rattle.ftp_base.specs.declared.fault.Failed.{Failed}
use Rattle.ftp_base.specs.declared.fault.Failed.TheVariants as failed
use Rattle.ftp_talk.specs.declared.halt.Halt.{Halt}
use Rattle.ftp_talk.specs.declared.halt.Halt.TheVariants as halt

-- for a write that failed so
abbrev pub halt_by : Failed → Halt
halt_by failed.Fault = halt.Fault
halt_by failed.Memory = halt.Memory
