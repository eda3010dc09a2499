use Rattle.std.proofs.Common.{sym, ◌∙◌}
use Rattle.ftp_lockout.proofs.KeyLemmas.{keys-fewer, let_in-fewer}
use Rattle.ftp_lockout.proofs.cache.FailedLoginsCache.success.Goals as goal

-- no other key is recorded
pub invariant_of-self : goal.invariant_of-self
invariant_of-self c = (
  c.let_in.ensures.order,
  c.let_in.ensures.blocks,
  c.self.invariant.2,
  keys-fewer c.self.inside.policy.block_by _ _ (λ other f found. let_in-fewer c.self.inside.policy c.args.at _ _ f (sym (c.let_in.ensures.removed other) ∙ found)) c.self.invariant.3,
)
