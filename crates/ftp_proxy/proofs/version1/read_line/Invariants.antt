use Rattle.std.proofs.Common.{◌∷◌, get_or}
use Rattle.std.specs.Prelude.{IfSome}
use Rattle.ftp_proxy.specs.Any.{IsReadTo}
use Rattle.ftp_proxy.specs.Reading.{ReadsWell}
use Rattle.ftp_proxy.proofs.version1.read_line.Given as goal

abbrev pub invariant-loop-i : goal.invariant-loop-i
invariant-loop-i g l = record {
  line : IfSome (g.S.Source.left l.initial.source) (λ left. IsReadTo (get_or l.initial.bytes 0 0 ∷ left) l.bytes l.i (g.S.Source.left l.source));
  went : ReadsWell g.S.Source.sending g.S.Source.faults g.S.Source.fault_limit g.S.Source.calls l.initial.source l.source;
}
