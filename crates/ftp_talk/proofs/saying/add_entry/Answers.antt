use Rattle.std.proofs.Common.{◌∙◌, List, refl, arith}
use Rattle.ftp_events.specs.declared.action.Action.{Action}
use Rattle.ftp_control.proofs.WritingLemmas.{front-none, on_err}
use Rattle.ftp_shared.specs.Outbox.{replies_in}
use Rattle.ftp_talk.specs.Pieces.{pieces_of}
use Rattle.ftp_talk.proofs.PieceLemmas.{pieces-none, replies-parts, says-next, says-up-to, takes-on}
use Rattle.ftp_talk.proofs.saying.add_entry.Goals as goal

pub returns-in_err-add_action-in-None-clause-front : goal.returns-in_err-add_action-in-None-clause-front
returns-in_err-add_action-in-None-clause-front g c =
    rw c.in-None.is
    (on_err c.from_residual.result
    (says-up-to (λ (xs : List Action). pieces_of (replies_in xs c.args.session)) c.args.actions.now _ c.action-item.result _ _ _ _ _ _ _ _ (replies-parts c.args.session)
    c.loop-action-test.true c.loop-action.invariant.said (rw c.action-item.is at c.in_err-add_action-in-None.ensures.front)))

pub loop-action-preserved : goal.loop-action-preserved
loop-action-preserved g c = record {
  said =
      says-next (λ (xs : List Action). pieces_of (replies_in xs c.args.session)) c.args.actions.now _ c.action-item.result _ _ _ _ _ _ _ _ _ (replies-parts c.args.session)
      c.loop-action-test.true c.loop-action.invariant.said (rw c.action-item.is at c.in_ok-add_action-in-None.ensures.said);
  left = c.in_ok-add_action-in-None.ensures.calls.left ∙ c.loop-action.invariant.left;
  edge = takes-on _ _ _ c.loop-action.invariant.edge c.in_ok-add_action-in-None.ensures.calls.edge;
  count = omega (arith, c.loop-action.invariant.count, c.in_ok-add_action-in-None.ensures.calls.count);
}

pub returns-in-Err-clause-front : goal.returns-in-Err-clause-front
returns-in-Err-clause-front g c = pieces-none _ _ _ _ _ _ (front-none _ _) refl
