use Rattle.std.proofs.Common.{◌≡◌, ◌++◌, map, take}
use Rattle.ftp_hub.specs.declared.state.JobLine.{JobLine}
use Rattle.ftp_script_run.proofs.resuming.push_of_jobs.Given as goal

abbrev pub invariant-loop-line : goal.invariant-loop-line
invariant-loop-line l = l.links.items ≡ l.initial.links.items ++ map (λ (j : JobLine). j.job.number) (take l.line-index l.jobs)
