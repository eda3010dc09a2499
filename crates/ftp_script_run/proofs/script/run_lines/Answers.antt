use Rattle.std.proofs.Common.{[]}
use Rattle.ftp_control.proofs.WritingLemmas.{writes-nil}
use Rattle.ftp_script_run.proofs.OutcomeLemmas.{told-start}
use Rattle.ftp_script_run.proofs.script.run_lines.Goals as goal

pub run_all-status-requires-clause-lawful : goal.run_all-status-requires-clause-lawful
run_all-status-requires-clause-lawful g c = c.new-reader.ensures.lawful c.args.buffer.now c.requires

pub run_all-status-requires-clause-running : goal.run_all-status-requires-clause-running
run_all-status-requires-clause-running g c = record {
  items = [];
  log = [];
  known = c.new-reader.ensures.none;
  kept = c.new-run.ensures;
  read = told-start (g.S.Source.left c.args.source.now) c.new-reader.result c.args.buffer.now (λ bytes. c.new-reader.ensures.start c.args.buffer.now bytes);
  written = writes-nil (g.K.Sink.written c.args.sink.now);
}
