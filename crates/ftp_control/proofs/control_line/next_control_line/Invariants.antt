use Rattle.std.proofs.Common.{◌≡◌, ◌≤◌, ◌-◌, ◌++◌, length}
use Rattle.std.specs.Prelude.{IfSome}
use Rattle.ftp_control.specs.Lines.{Rest}
use Rattle.ftp_control.specs.ControlLine.{IsHeld, held_in}
use Rattle.ftp_control.proofs.control_line.next_control_line.Given as goal

abbrev pub invariant-loop-i : goal.invariant-loop-i
invariant-loop-i g l = record {
  len : length l.buffer ≡ length l.initial.buffer;
  held : IsHeld l.buffer l.held;
  told : IfSome (g.C.Source.left l.initial.control) (λ left. Rest (held_in l.buffer l.held) (g.C.Source.left l.control) (held_in l.initial.buffer l.initial.held ++ left));
  count : g.C.Source.faults l.initial.control ≤ g.C.Source.faults l.control;
  sent : (g.C.Source.sending l.control).sent ≡ (g.C.Source.sending l.initial.control).sent;
}

abbrev pub decreases-loop-i : goal.decreases-loop-i
decreases-loop-i g l = length l.buffer - (l.held.span.end - l.held.span.start)
