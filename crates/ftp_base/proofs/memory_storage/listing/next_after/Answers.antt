use Rattle.std.proofs.Common.{ap}
use Rattle.std.specs.Ordering.{is_gt}
use Rattle.ftp_base.proofs.PathOrder.{next-less, next-next}
use Rattle.ftp_base.proofs.Under.{aside-less, aside-none}
use Rattle.ftp_base.proofs.memory_storage.listing.next_after.Goals as goal

pub returns-in_ok-push-in-Some-clause-later : goal.returns-in_ok-push-in-Some-clause-later
returns-in_ok-push-in-Some-clause-later c =
    rw (c.in_ok-push-in-Some.ensures.items, c.in_ok-next-in-Some.ensures.items)
    (aside-less c.args.path.now c.in-Some.at c.in-Some.ensures.0 c.in-Some.ensures.1)

pub returns-in_ok-push-in-Some-clause-skipped : goal.returns-in_ok-push-in-Some-clause-skipped
returns-in_ok-push-in-Some-clause-skipped c q low high =
    aside-none c.args.dir.now c.args.path.now q c.in-Some.at c.in-Some.ensures.0 c.in-Some.ensures.1 c.in-Some.ensures.2 (ap is_gt low)
    (rw (c.in_ok-push-in-Some.ensures.items, c.in_ok-next-in-Some.ensures.items) at high)

pub returns-in_ok-push-in-None-clause-later : goal.returns-in_ok-push-in-None-clause-later
returns-in_ok-push-in-None-clause-later c =
    rw (c.in_ok-push-in-None.ensures.items, c.in_ok-next-in-None.ensures.items) (next-less c.args.path.now)

pub returns-in_ok-push-in-None-clause-skipped : goal.returns-in_ok-push-in-None-clause-skipped
returns-in_ok-push-in-None-clause-skipped c q low high =
    absurd (next-next c.args.path.now q low (rw (c.in_ok-push-in-None.ensures.items, c.in_ok-next-in-None.ensures.items) at high))
