use Rattle.std.proofs.Common.{take}
use Rattle.std.specs.List.{AllByRecursion}
use Rattle.ftp_script_run.specs.Fitting.{FitsRecord}
use Rattle.ftp_script_run.proofs.fitting.each_record.Given as goal

abbrev pub invariant-loop-line : goal.invariant-loop-line
invariant-loop-line l = AllByRecursion FitsRecord (take l.line-index l.records)
