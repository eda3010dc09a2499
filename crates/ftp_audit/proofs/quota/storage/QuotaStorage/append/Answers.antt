use Rattle.ftp_base.specs.Storage.{Append}
use Rattle.ftp_audit.proofs.Rules.{rule-answers, agrees-on, grown-so}
use Rattle.ftp_audit.proofs.quota.storage.QuotaStorage.append.Goals as goal

pub invariant_of-self : goal.invariant_of-self
invariant_of-self g c =
    agrees-on (g.S.Storage.files c.self.inside.inner) (g.S.Storage.files c.append_owned.new.inner) c.in-Some.accounts c.append_owned.new.accounts
    c.append_owned.ensures.untold c.append_owned.ensures.agreed (rw c.in-Some.is at c.self.invariant)

pub invariant_of-self-in-None : goal.invariant_of-self-in-None
invariant_of-self-in-None g c = rw c.in-None.is tt

pub returns-in-Some-clause-by_rule : goal.returns-in-Some-clause-by_rule
returns-in-Some-clause-by_rule g c =
    rw (← c.self.view_is)
    (rule-answers c.self.inside.accounts (g.S.Storage.rule c.self.inside.inner) (g.S.Storage.files c.self.inside.inner) (Append c.args.user.now c.args.path.now c.args.bytes.now) c.append_owned.result c.self.invariant (rw c.in-Some.is c.append_owned.ensures.refused))

pub returns-in-Some-clause-same_rule : goal.returns-in-Some-clause-same_rule
returns-in-Some-clause-same_rule g c =
    rw (← c.self.view_is, c.in-Some.is)
    (grown-so c.append_owned.result c.in-Some.accounts c.append_owned.new.accounts (g.S.Storage.rule c.self.inside.inner) (g.S.Storage.rule c.append_owned.new.inner)
    c.args.user.now c.args.path.now c.args.bytes.now c.append_owned.ensures.own c.append_owned.ensures.owned c.append_owned.ensures.same_owners c.append_owned.ensures.storage_kept.same_rule)
