use Rattle.std.proofs.Common.{◌∙◌, ap, arith}
use Rattle.std.specs.Prelude.{Err}
use Rattle.std.proofs.lemmas.Option.{same_Some}
use Rattle.ftp_control.specs.Lines.{bytes_in}
use Rattle.ftp_script_run.specs.declared.status.Status.TheVariants as status
use Rattle.ftp_script_run.proofs.GoOnLemmas.{go-start, refused-outcome}
use Rattle.ftp_script_run.proofs.resuming.resume_lines.Goals as goal

-- nothing more is run
pub returns-in-Err-clause-outcome : goal.returns-in-Err-clause-outcome
returns-in-Err-clause-outcome g c =
    refused-outcome c.in-Err.error c.ended.result (g.S.Source.left c.args.source.now) (g.S.Source.left c.begin.new.source) (g.K.Sink.written c.args.sink.now) (g.K.Sink.written c.ended.new.sink)
    (λ k e. c.begin.ensures.bad k (c.in-Err.is ∙ ap Err e))
    c.ended.ensures.named

pub returns-in-Err-clause-faults : goal.returns-in-Err-clause-faults
returns-in-Err-clause-faults g c = record {
  no_usage = λ is. c.ended.ensures.no_usage (same_Some c.ended.result status.Usage is);
  read_fault = λ is. c.begin.ensures.fault_rose (c.in-Err.is ∙ ap Err (c.ended.ensures.read_fault (same_Some c.ended.result status.ReadFault is)));
  write_fault = λ is. c.ended.ensures.write_fault (same_Some c.ended.result status.WriteFault is);
  source_count = c.begin.ensures.count;
  sink_count = c.ended.ensures.sink_count;
}

pub loop-status-init : goal.loop-status-init
loop-status-init g c = record {
  lawful = c.behind-reader.ensures.lawful c.begin.new.buffer (omega (arith, c.begin.ensures.len)) c.begin.ensures.within;
  resuming =
      go-start (g.S.Source.left c.args.source.now) (g.S.Source.left c.begin.new.source) (g.K.Sink.written c.args.sink.now) c.in-Ok.resumed c.behind-reader.result c.begin.new.run c.begin.new.buffer (bytes_in c.begin.new.buffer c.begin.new.held)
      c.in-Ok.ensures.begun
      (c.behind-reader.ensures.start c.begin.new.buffer)
      c.behind-reader.ensures.none;
  source_count = omega arith;
  sink_count = omega arith;
}

pub returns-in-Some-clause-outcome : goal.returns-in-Some-clause-outcome
returns-in-Some-clause-outcome g c = c.in-Some.ensures.ended (g.S.Source.left c.args.source.now) (g.K.Sink.written c.args.sink.now) c.loop-status.invariant.resuming
