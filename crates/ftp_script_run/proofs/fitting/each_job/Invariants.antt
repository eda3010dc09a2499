use Rattle.std.proofs.Common.{take}
use Rattle.std.specs.List.{AllByRecursion}
use Rattle.ftp_script_run.specs.Fitting.{FitsJob}
use Rattle.ftp_script_run.proofs.fitting.each_job.Given as goal

abbrev pub invariant-loop-line : goal.invariant-loop-line
invariant-loop-line l = AllByRecursion FitsJob (take l.line-index l.jobs)
