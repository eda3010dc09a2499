use Rattle.std.proofs.Common.{◌≡◌, ◌^◌, ◌+◌, ◌-◌, ◌≤◌, ◌++◌, length}
use Rattle.std.specs.Prelude.{IfSome}
use Rattle.ftp_control.specs.Lines.{bytes_in, HasNoFeed, IsWithin, Rest}
use Rattle.ftp_script_run.proofs.head_reading.read_line.Given as goal

-- no line feed is in the line so far, and what is held and left stands behind it
abbrev pub invariant-loop-end : goal.invariant-loop-end
invariant-loop-end g l = record {
  len : length l.buffer ≡ length l.fn.buffer;
  within : IsWithin l.buffer l.held;
  none : HasNoFeed l.line.items;
  told : IfSome (g.S.Source.left l.fn.source) (λ left. Rest (l.line.items ++ bytes_in l.buffer l.held) (g.S.Source.left l.source) (bytes_in l.fn.buffer l.fn.held ++ left));
  count : g.S.Source.faults l.fn.source ≤ g.S.Source.faults l.source;
}

-- the line grows by what is held, which is nothing at most at the first time
abbrev pub decreases-loop-end : goal.decreases-loop-end
decreases-loop-end g l = 2 ^ 64 - length l.line.items + (1 - (l.held.end - l.held.start))
