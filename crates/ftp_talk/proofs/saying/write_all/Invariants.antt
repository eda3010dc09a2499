use Rattle.std.proofs.Common.{◌≡◌, ◌≤◌, length}
use Rattle.ftp_control.proofs.WritingLemmas.{SoFar}
use Rattle.ftp_talk.proofs.saying.write_all.Given as goal

abbrev pub invariant-loop-rest : goal.invariant-loop-rest
invariant-loop-rest g l = record {
  so_far : SoFar (g.L.Source.sending l.initial.link).sent (g.L.Source.sending l.link).sent l.bytes l.rest;
  left : g.L.Source.left l.link ≡ g.L.Source.left l.initial.link;
  count : g.L.Source.faults l.initial.link ≤ g.L.Source.faults l.link;
}

abbrev pub decreases-loop-rest : goal.decreases-loop-rest
decreases-loop-rest g l = length l.rest
