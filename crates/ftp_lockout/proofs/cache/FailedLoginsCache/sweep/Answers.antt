use Rattle.std.proofs.Common.{sym, ◌∙◌}
use Rattle.ftp_lockout.proofs.KeyLemmas.{keys-fewer, swept-fewer}
use Rattle.ftp_lockout.proofs.cache.FailedLoginsCache.sweep.Goals as goal

-- no other key is recorded
pub invariant_of-self : goal.invariant_of-self
invariant_of-self c = (
  c.sweep.ensures.order,
  c.sweep.ensures.blocks,
  c.self.invariant.2,
  keys-fewer c.self.inside.policy.block_by _ _ (λ other f found. swept-fewer c.self.inside.policy c.args.at _ f (sym (c.sweep.ensures.recorded other) ∙ found)) c.self.invariant.3,
)
