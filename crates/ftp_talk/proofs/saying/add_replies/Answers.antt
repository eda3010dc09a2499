use Rattle.std.proofs.Common.{◌∙◌, arith}
use Rattle.ftp_control.proofs.WritingLemmas.{on_err}
use Rattle.ftp_talk.specs.Pieces.{pieces_of}
use Rattle.ftp_talk.proofs.PieceLemmas.{replies-pieces, says-next, says-up-to, takes-on}
use Rattle.ftp_talk.proofs.saying.add_replies.Goals as goal

pub returns-in_err-add-clause-front : goal.returns-in_err-add-clause-front
returns-in_err-add-clause-front g c =
    on_err c.from_residual.result
    (says-up-to pieces_of c.args.replies.now _ c.loop-delay-item.result _ _ _ _ _ _ _ _ replies-pieces c.loop-delay-test.true
    c.loop-delay.invariant.said (rw c.loop-delay-item.is at c.in_err-add.ensures.front))

pub loop-delay-preserved : goal.loop-delay-preserved
loop-delay-preserved g c = record {
  said =
      says-next pieces_of c.args.replies.now _ c.loop-delay-item.result _ _ _ _ _ _ _ _ _ replies-pieces c.loop-delay-test.true
      c.loop-delay.invariant.said (rw c.loop-delay-item.is at c.in_ok-add.ensures.said);
  left = c.in_ok-add.ensures.calls.left ∙ c.loop-delay.invariant.left;
  edge = takes-on _ _ _ c.loop-delay.invariant.edge c.in_ok-add.ensures.calls.edge;
  count = omega (arith, c.loop-delay.invariant.count, c.in_ok-add.ensures.calls.count);
}
