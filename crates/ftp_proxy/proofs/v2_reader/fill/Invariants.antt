use Rattle.std.proofs.Common.{◌-◌, ◌≤◌, length}
use Rattle.std.specs.Prelude.{IfSome}
use Rattle.ftp_proxy.specs.Reading.{IsBytes, Filling, ReadsWell}
use Rattle.ftp_proxy.proofs.v2_reader.fill.Given as goal

abbrev pub decreases-loop-filled : goal.decreases-loop-filled
decreases-loop-filled g l = length l.initial.out - l.filled

abbrev pub invariant-loop-filled : goal.invariant-loop-filled
invariant-loop-filled g l = record {
  small : IsBytes l.out;
  within : l.filled ≤ length l.out;
  filling : IfSome (g.S.Source.left l.initial.source) (λ all. Filling all l.out l.filled (g.S.Source.left l.source));
  went : ReadsWell g.S.Source.sending g.S.Source.faults g.S.Source.fault_limit g.S.Source.calls l.initial.source l.source;
}
