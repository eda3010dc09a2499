use Rattle.std.proofs.Common.{◌≡◌, ◌≤◌, ◌-◌}
use Rattle.ftp_script_run.specs.ScriptReader.{IsLawful}
use Rattle.ftp_script_run.specs.Audited.{Hearing}
use Rattle.ftp_script_run.proofs.auditing.hear_all.Given as goal

-- the lines so far were read, their log was heard, and nothing was written
abbrev pub invariant-loop-status : goal.invariant-loop-status
invariant-loop-status g l = record {
  lawful : IsLawful l.reader l.buffer;
  hearing : Hearing (g.S.Source.left l.fn.source) l.reader l.run l.audit l.buffer (g.S.Source.left l.source);
  source_count : g.S.Source.faults l.fn.source ≤ g.S.Source.faults l.source;
  quiet : l.sink ≡ l.fn.sink;
}

abbrev pub decreases-loop-status : goal.decreases-loop-status
decreases-loop-status g l = 16777216 - l.reader.taken
