use Rattle.std.proofs.Common.{◌≤◌, ◌-◌}
use Rattle.ftp_script_run.specs.ScriptReader.{IsLawful}
use Rattle.ftp_script_run.specs.Resuming.{Resuming}
use Rattle.ftp_script_run.proofs.resuming.resume_lines.Given as goal

-- the lines so far were read, and their log was written
abbrev pub invariant-loop-status : goal.invariant-loop-status
invariant-loop-status g l = record {
  lawful : IsLawful l.reader l.buffer;
  resuming : Resuming (g.S.Source.left l.fn.source) l.resumed l.reader l.run l.buffer (g.S.Source.left l.source) (g.K.Sink.written l.fn.sink) (g.K.Sink.written l.sink);
  source_count : g.S.Source.faults l.fn.source ≤ g.S.Source.faults l.source;
  sink_count : g.K.Sink.faults l.fn.sink ≤ g.K.Sink.faults l.sink;
}

abbrev pub decreases-loop-status : goal.decreases-loop-status
decreases-loop-status g l = 16777216 - l.reader.taken
