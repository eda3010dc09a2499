use Rattle.std.proofs.Common.{sym, ap, subst, ◌∙◌}
use Rattle.std.proofs.lemmas.Result.{IfOk-weaker}
use Rattle.std.specs.List.{AllByRecursion}
use Rattle.std.specs.Map.{keys_of}
use Rattle.ftp_options.specs.declared.lockout.FailedLoginsBlock.{FailedLoginsBlock}
use Rattle.ftp_lockout.specs.Failures.{Table}
use Rattle.ftp_lockout.specs.Logins.{IsKey}
use Rattle.ftp_lockout.specs.Places.{records_in}
use Rattle.ftp_lockout.proofs.Records.{Records}
use Rattle.ftp_lockout.proofs.KeyLemmas.{all-keys}
use Rattle.ftp_lockout.proofs.cache.FailedLoginsCache.records.Goals as goal

-- each key is that of a login
pub returns-clause-keys : goal.returns-clause-keys
returns-clause-keys c =
    IfOk-weaker c.write_down.result _ _
    (λ records same.
    subst (λ (es : Records). AllByRecursion (IsKey c.args.self.now.policy.block_by) (keys_of es)) (sym (same ∙ ap (λ bs. records_in bs) c.deref.ensures.value))
    (subst (λ (by : FailedLoginsBlock). AllByRecursion (IsKey by) (keys_of (records_in c.self.inside.blocks.items))) (ap (λ (t : Table). t.policy.block_by) c.self.view_is)
    (all-keys c.self.inside.policy.block_by (records_in c.self.inside.blocks.items) c.self.invariant.3)))
    c.write_down.ensures.records
