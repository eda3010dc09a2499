use Rattle.std.proofs.Common.{ap}
use Rattle.ftp_base.specs.Storage.{ReadAt}
use Rattle.ftp_audit.specs.Quota.{quota_rule}
use Rattle.ftp_audit.proofs.Rules.{rule-passes}
use Rattle.ftp_audit.proofs.quota.storage.QuotaStorage.read_at.Goals as goal

pub invariant_of-self : goal.invariant_of-self
invariant_of-self g c = rw c.read_at.ensures.unchanged c.self.invariant

pub returns-clause-refused : goal.returns-clause-refused
returns-clause-refused g c =
    rw (← c.self.view_is)
    (rule-passes c.self.inside.accounts (g.S.Storage.rule c.self.inside.inner) (g.S.Storage.files c.self.inside.inner) (ReadAt c.args.user.now c.args.path.now c.args.at) c.read_at.result c.self.invariant tt c.read_at.ensures.refused)

pub returns-clause-same_rule : goal.returns-clause-same_rule
returns-clause-same_rule g c = rw (← c.self.view_is) (ap (quota_rule c.self.inside.accounts) c.read_at.ensures.storage_kept.same_rule)
