use Rattle.ftp_events.specs.Delivery.{data_told, presence_told}
use Rattle.ftp_events.proofs.DeliveryLemmas.{hears-take-more}
use Rattle.ftp_events.proofs.delivery.deliver.Goals as goal

pub loop-action-preserved : goal.loop-action-preserved
loop-action-preserved g c = (
  hears-take-more data_told _ _ _ _ _ c.action-item.result c.loop-action-test.true c.action-item.is c.loop-action.invariant.0 c.tell.ensures.data_events,
  hears-take-more presence_told _ _ _ _ _ c.action-item.result c.loop-action-test.true c.action-item.is c.loop-action.invariant.1 c.tell.ensures.presence_events,
)
