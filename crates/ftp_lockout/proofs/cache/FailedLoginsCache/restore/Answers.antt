use Rattle.std.proofs.Common.{Some, sym, ap, subst}
use Rattle.ftp_options.specs.declared.lockout.FailedLoginsBlock.{FailedLoginsBlock}
use Rattle.ftp_lockout.specs.Failures.{Table}
use Rattle.ftp_lockout.specs.Logins.{AreKeys, IsKey}
use Rattle.ftp_lockout.specs.Places.{records_in}
use Rattle.ftp_lockout.proofs.KeyLemmas.{keys-with}
use Rattle.ftp_lockout.proofs.cache.FailedLoginsCache.restore.Goals as goal

-- nothing was recorded
pub invariant_of-self : goal.invariant_of-self
invariant_of-self c = (
  c.restore.ensures.order,
  c.restore.ensures.blocks,
  c.restore.ensures.empty,
  subst (AreKeys c.self.inside.policy.block_by) (sym c.in_err-restore.ensures.unchanged) c.self.invariant.3,
)

-- the record stands under the key of a login
pub invariant_of-self-2 : goal.invariant_of-self-2
invariant_of-self-2 c = (
  c.restore.ensures.order,
  c.restore.ensures.blocks,
  c.restore.ensures.empty,
  keys-with c.self.inside.policy.block_by (records_in c.self.inside.blocks.items) (records_in c.restore.new.blocks.items) c.args.key
      (λ other. Some c.args.failures) (subst (λ (by : FailedLoginsBlock). IsKey by c.args.key) (sym (ap (λ (t : Table). t.policy.block_by) c.self.view_is)) c.requires.key) c.in_ok-restore.ensures.recorded c.self.invariant.3,
)
