use Rattle.std.proofs.Common.{◌≤◌, ◌-◌, ◌++◌, length}
use Rattle.std.specs.Prelude.{IfSome}
use Rattle.ftp_control.specs.Lines.{Rest}
use Rattle.ftp_check_log.proofs.pending.read_line.Given as goal

abbrev pub invariant-loop-piece : goal.invariant-loop-piece
invariant-loop-piece g l = record {
  told : IfSome (g.S.Source.left l.initial.source) (λ left. Rest l.bytes.items (g.S.Source.left l.source) (l.initial.bytes.items ++ left));
  count : g.S.Source.faults l.initial.source ≤ g.S.Source.faults l.source;
}

abbrev pub decreases-loop-piece : goal.decreases-loop-piece
decreases-loop-piece g l = 67108864 - length l.bytes.items
