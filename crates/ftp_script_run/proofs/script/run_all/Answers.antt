use Rattle.std.proofs.Common.{arith}
use Rattle.ftp_script_run.proofs.script.run_all.Goals as goal

pub loop-status-init : goal.loop-status-init
loop-status-init g c = record {
  lawful = c.requires.lawful;
  running = c.requires.running;
  source_count = omega arith;
  sink_count = omega arith;
}

pub returns-in-Some-clause-outcome : goal.returns-in-Some-clause-outcome
returns-in-Some-clause-outcome g c = c.in-Some.ensures.ended (g.S.Source.left c.args.source.now) (g.K.Sink.written c.args.sink.now) c.loop-status.invariant.running
