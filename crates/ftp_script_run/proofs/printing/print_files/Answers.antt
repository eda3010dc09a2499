use Rattle.std.proofs.Common.{arith}
use Rattle.ftp_base.specs.Storage.{files_in_order}
use Rattle.ftp_text.specs.Setup.{file_line}
use Rattle.ftp_control.proofs.WritingLemmas.{on_err}
use Rattle.ftp_script_run.proofs.Written.{between-more, between-part}
use Rattle.ftp_script_run.proofs.printing.print_files.Goals as goal

pub loop-path-preserved : goal.loop-path-preserved
loop-path-preserved g c = record {
  wrote =
      between-more file_line (files_in_order c.args.storage.now.files) c.loop-path.path-iterator c.next.new.self (c.in-Some.path.now, c.in-Some.bytes.now)
      (g.K.Sink.written c.args.sink.now) (g.K.Sink.written c.loop-path.sink) (g.K.Sink.written c.print_file.new.sink)
      c.loop-path.invariant.wrote c.in-Some.ensures.steps c.in_ok-print_file.ensures.wrote;
  count = omega (arith, c.loop-path.invariant.count, c.print_file.ensures.count);
}

pub returns-in_err-print_file-clause-front : goal.returns-in_err-print_file-clause-front
returns-in_err-print_file-clause-front g c =
    on_err c.from_residual.result
    (between-part file_line (files_in_order c.args.storage.now.files) c.loop-path.path-iterator c.next.new.self (c.in-Some.path.now, c.in-Some.bytes.now)
    (g.K.Sink.written c.args.sink.now) (g.K.Sink.written c.loop-path.sink) (g.K.Sink.written c.print_file.new.sink)
    c.loop-path.invariant.wrote c.in-Some.ensures.steps c.in_err-print_file.ensures.front)
