use Rattle.std.proofs.Common.{◌≤◌, take}
use Rattle.std.specs.List.{flat_map}
use Rattle.ftp_base.specs.Outside.{Writes}
use Rattle.ftp_script_run.specs.Left.{sent_on}
use Rattle.ftp_script_run.proofs.printing.print_links.Given as goal

-- the lines of the numbers so far were written
abbrev pub invariant-loop-number : goal.invariant-loop-number
invariant-loop-number g l = record {
  wrote : Writes (g.K.Sink.written l.initial.sink) (g.K.Sink.written l.sink) (flat_map (sent_on l.links) (take l.number-index l.number-items));
  count : g.K.Sink.faults l.initial.sink ≤ g.K.Sink.faults l.sink;
}
