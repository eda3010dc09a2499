use Rattle.std.proofs.Common.{sym, subst}
use Rattle.ftp_lockout.specs.Logins.{AreKeys}
use Rattle.ftp_lockout.specs.Places.{AreBlocks, AreInKeyOrder, records_in}
use Rattle.ftp_lockout.proofs.cache.FailedLoginsCache.room.Goals as goal

-- the records are as they were
pub invariant_of-self : goal.invariant_of-self
invariant_of-self c =
    let items = c.make_room.ensures.items in (
      subst (λ bs. AreInKeyOrder (records_in bs)) (sym items) c.self.invariant.0,
      subst AreBlocks (sym items) c.self.invariant.1,
      c.make_room.ensures.empty,
      subst (λ bs. AreKeys c.self.inside.policy.block_by (records_in bs)) (sym items) c.self.invariant.3,
    )
