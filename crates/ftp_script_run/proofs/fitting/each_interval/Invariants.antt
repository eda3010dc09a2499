use Rattle.std.proofs.Common.{take}
use Rattle.std.specs.List.{AllByRecursion}
use Rattle.ftp_script_run.specs.Fitting.{FitsInterval}
use Rattle.ftp_script_run.proofs.fitting.each_interval.Given as goal

abbrev pub invariant-loop-line : goal.invariant-loop-line
invariant-loop-line l = AllByRecursion FitsInterval (take l.line-index l.used)
