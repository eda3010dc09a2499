use Rattle.ftp_talk.specs.Pieces.{entry_pieces, pieces_of}
use Rattle.ftp_control.proofs.WritingLemmas.{on_err, on_err-then, on_ok-then}
use Rattle.ftp_talk.proofs.PieceLemmas.{on_ok, pieces-longer, says-behind, says-cut, says-flushed, says-more}
use Rattle.ftp_talk.proofs.saying.say_for.Goals as goal

pub returns-in_err-add_replies-clause-front : goal.returns-in_err-add_replies-clause-front
returns-in_err-add_replies-clause-front g c =
    on_err c.from_residual.result
    (pieces-longer _ _ _ _ _ (pieces_of c.args.earlier.now) (entry_pieces c.args.session c.args.port c.args.actions.now) (rw c.clear.ensures.items at c.in_err-add_replies.ensures.front))

pub returns-in_err-add_entry-clause-front : goal.returns-in_err-add_entry-clause-front
returns-in_err-add_entry-clause-front g c =
    on_err c.from_residual-in_err-add_entry.result
    (says-behind _ _ _ _ _ _ _ _ _ _ (rw c.clear.ensures.items at c.in_ok-add_replies.ensures.said) c.in_err-add_entry.ensures.front)

pub returns-clause-wrote : goal.returns-clause-wrote
returns-clause-wrote g c =
    on_ok-then c.flush.result c.flush.ensures.wrote (λ flushed.
    says-flushed _ _ _ _ _ _ _ _ (says-more _ _ _ _ _ _ _ _ _ _ _ (rw c.clear.ensures.items at c.in_ok-add_replies.ensures.said) c.in_ok-add_entry.ensures.said) flushed)

pub returns-clause-paused : goal.returns-clause-paused
returns-clause-paused g c =
    on_ok c.flush.result (says-more _ _ _ _ _ _ _ _ _ _ _ (rw c.clear.ensures.items at c.in_ok-add_replies.ensures.said) c.in_ok-add_entry.ensures.said).paused

pub returns-clause-front : goal.returns-clause-front
returns-clause-front g c =
    on_err-then c.flush.result c.flush.ensures.front (λ front.
    says-cut _ _ _ _ _ _ _ _ (says-more _ _ _ _ _ _ _ _ _ _ _ (rw c.clear.ensures.items at c.in_ok-add_replies.ensures.said) c.in_ok-add_entry.ensures.said) front)
