use Rattle.std.proofs.Common.{◌≤◌}
use Rattle.ftp_base.specs.Storage.{files_in_order}
use Rattle.ftp_script_run.proofs.Written.{IsBetween}
use Rattle.ftp_text.specs.Setup.{file_line}
use Rattle.ftp_script_run.proofs.printing.print_files.Given as goal

-- the lines of the files so far were written
abbrev pub invariant-loop-path : goal.invariant-loop-path
invariant-loop-path g l = record {
  wrote : IsBetween file_line (files_in_order l.storage.files) l.path-iterator (g.K.Sink.written l.initial.sink) (g.K.Sink.written l.sink);
  count : g.K.Sink.faults l.initial.sink ≤ g.K.Sink.faults l.sink;
}
