use Rattle.std.proofs.Common.{Option, Some, sym, subst}
use Rattle.ftp_lockout.specs.declared.key.LoginKey.{LoginKey}
use Rattle.ftp_lockout.specs.Failures.{one_more, recorded}
use Rattle.ftp_lockout.specs.Logins.{AreKeys}
use Rattle.ftp_lockout.specs.Places.{records_in}
use Rattle.ftp_lockout.proofs.KeyLemmas.{keys-with}
use Rattle.ftp_lockout.proofs.cache.FailedLoginsCache.failed.Goals as goal

-- nothing was recorded
pub invariant_of-self : goal.invariant_of-self
invariant_of-self c = (
  c.count.ensures.order,
  c.count.ensures.blocks,
  c.count.ensures.empty,
  subst (AreKeys c.self.inside.policy.block_by) (sym c.in_err-count.ensures.unchanged) c.self.invariant.3,
)

-- the failure is recorded under the key of its login
pub invariant_of-self-2 : goal.invariant_of-self-2
invariant_of-self-2 c =
    let old = records_in c.self.inside.blocks.items in (
      c.count.ensures.order,
      c.count.ensures.blocks,
      c.count.ensures.empty,
      keys-with c.self.inside.policy.block_by old (records_in c.count.new.blocks.items) c.new-key.result
          (λ other. Some (one_more c.self.inside.policy c.args.at (recorded old other))) (record { ip = c.args.ip; user = c.args.user; address = c.new-key.ensures.within; key_is = c.new-key.ensures.key }) c.in_ok-count.ensures.counted c.self.invariant.3,
    )
