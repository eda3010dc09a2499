use Rattle.std.proofs.Common.{◌≡◌, ℕ, ◌<◌, List, None}
use Rattle.ftp_proxy.specs.Reading.{refusal_at, Begun, ReadsWell}
use Rattle.ftp_proxy.proofs.v2_reader.read_head.Given as goal

abbrev pub invariant-loop-i : goal.invariant-loop-i
invariant-loop-i g l = record {
  head : (all : List ℕ) → Begun all l.initial.head l.begun (g.S.Source.left l.initial.source) → Begun all l.head l.i (g.S.Source.left l.source);
  last : 15 < l.i → refusal_at l.head 15 ≡ None;
  went : ReadsWell g.S.Source.sending g.S.Source.faults g.S.Source.fault_limit g.S.Source.calls l.initial.source l.source;
}
