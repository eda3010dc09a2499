use Rattle.std.proofs.Common.{get_or}
use Rattle.ftp_events.specs.Counts.{is_reply}
use Rattle.ftp_events.proofs.CountLemmas.{grows-take-more}
use Rattle.ftp_events.proofs.counting.count_replies.Goals as goal

pub loop-action-preserved : goal.loop-action-preserved
loop-action-preserved c =
    λ d.
    grows-take-more (is_reply d) (get_or c.args.replies.now d 0) (get_or c.loop-action.replies d 0) (get_or c.count_reply.new.replies d 0) c.args.actions.now
    c.loop-action.action-index c.action-item.result c.loop-action-test.true c.action-item.is (c.loop-action.invariant d) (c.count_reply.ensures d)
