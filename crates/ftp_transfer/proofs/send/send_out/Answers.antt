use Rattle.std.proofs.Common.{rules}
use Rattle.ftp_base.proofs.KeptLemmas.{OnlySends-more}
use Rattle.ftp_transfer.proofs.RunLemmas.{LinkRose_later}
use Rattle.ftp_transfer.proofs.send.send_out.Goals as goal

pub returns-in-Ok-clause-wrote : goal.returns-in-Ok-clause-wrote
returns-in-Ok-clause-wrote g c = rw c.flush.ensures.unchanged c.send-sending.ensures.wrote

pub returns-in-Ok-clause-only_sends : goal.returns-in-Ok-clause-only_sends
returns-in-Ok-clause-only_sends g c = OnlySends-more c.send-sending.ensures.only_sends c.flush.ensures.only_sends

pub returns-in-Ok-clause-link_well : goal.returns-in-Ok-clause-link_well
returns-in-Ok-clause-link_well g c held = rw c.flush.ensures.uncounted (c.send-sending.ensures.link_well held)

pub returns-in-Err-clause-wrote : goal.returns-in-Err-clause-wrote
returns-in-Err-clause-wrote g c = rw c.flush.ensures.unchanged c.send-sending.ensures.wrote

pub returns-in-Err-clause-only_sends : goal.returns-in-Err-clause-only_sends
returns-in-Err-clause-only_sends g c = OnlySends-more c.send-sending.ensures.only_sends c.flush.ensures.only_sends

pub returns-in-Err-clause-fault_rose : goal.returns-in-Err-clause-fault_rose
returns-in-Err-clause-fault_rose g c stopped =
    LinkRose_later _ _ _ _ c.send-sending.ensures.only_sends.counts c.flush.ensures.only_sends.counts
    (c.send-sending.ensures.link_well (search rules))
    (c.in-Err.ensures.fault_rose, c.in-Err.ensures.as_listed)
