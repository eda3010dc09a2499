use Rattle.std.proofs.Common.{◌≡◌, ◌≤◌, take}
use Rattle.ftp_base.specs.Edge.{Takes}
use Rattle.ftp_talk.specs.Pieces.{Says, pieces_of}
use Rattle.ftp_talk.proofs.saying.add_replies.Given as goal

-- the replies so far were said, or wait
abbrev pub invariant-loop-delay : goal.invariant-loop-delay
invariant-loop-delay g l = record {
  said : Says (g.L.Source.sending l.initial.link).sent (g.L.Source.sending l.link).sent (g.E.Edge.view l.initial.edge).paused (g.E.Edge.view l.edge).paused l.initial.text.items l.text.items (pieces_of (take l.delay-index l.replies));
  left : g.L.Source.left l.link ≡ g.L.Source.left l.initial.link;
  edge : Takes (λ f. f) (g.E.Edge.view l.initial.edge) (g.E.Edge.view l.edge);
  count : g.L.Source.faults l.initial.link ≤ g.L.Source.faults l.link;
}
