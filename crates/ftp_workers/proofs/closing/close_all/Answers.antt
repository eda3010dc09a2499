use Rattle.ftp_workers.proofs.CarriedLemmas.{closed-more}
use Rattle.ftp_workers.proofs.closing.close_all.Goals as goal

pub loop-action-preserved : goal.loop-action-preserved
loop-action-preserved c =
    λ n. closed-more _ _ c.action-item.result n _ _ _ c.loop-action-test.true c.action-item.is (c.loop-action.invariant n) (c.close.ensures.links n)
