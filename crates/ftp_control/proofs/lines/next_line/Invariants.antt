use Rattle.std.proofs.Common.{◌≡◌, ◌≤◌, ◌-◌, ◌++◌, length}
use Rattle.std.specs.Prelude.{IfSome}
use Rattle.std.specs.List.{position_or_len}
use Rattle.ftp_control.specs.Lines.{is_line_feed, bytes_in, IsWithin, Rest}
use Rattle.ftp_control.proofs.lines.next_line.Given as goal

abbrev pub invariant-loop-i : goal.invariant-loop-i
invariant-loop-i g l = record {
  len : length l.buffer ≡ length l.initial.buffer;
  within : IsWithin l.buffer l.held;
  none : l.scanned ≤ position_or_len is_line_feed (bytes_in l.buffer l.held);
  scanned : l.scanned ≤ l.held.end - l.held.start;
  told : IfSome (g.S.Source.left l.initial.source) (λ left. Rest (bytes_in l.buffer l.held) (g.S.Source.left l.source) (bytes_in l.initial.buffer l.initial.held ++ left));
  count : g.S.Source.faults l.initial.source ≤ g.S.Source.faults l.source;
}

abbrev pub decreases-loop-i : goal.decreases-loop-i
decreases-loop-i g l = length l.buffer - (l.held.end - l.held.start)
