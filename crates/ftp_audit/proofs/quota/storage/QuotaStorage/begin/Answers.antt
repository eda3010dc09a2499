use Rattle.ftp_base.specs.Storage.{Begin}
use Rattle.ftp_audit.proofs.Rules.{rule-answers, agrees-on, begun-so}
use Rattle.ftp_audit.proofs.quota.storage.QuotaStorage.begin.Goals as goal

pub invariant_of-self : goal.invariant_of-self
invariant_of-self g c =
    agrees-on (g.S.Storage.files c.self.inside.inner) (g.S.Storage.files c.begin_owned.new.inner) c.in-Some.accounts c.begin_owned.new.accounts
    c.begin_owned.ensures.untold c.begin_owned.ensures.agreed (rw c.in-Some.is at c.self.invariant)

pub invariant_of-self-in-None : goal.invariant_of-self-in-None
invariant_of-self-in-None g c = rw c.in-None.is tt

pub returns-in-Some-clause-by_rule : goal.returns-in-Some-clause-by_rule
returns-in-Some-clause-by_rule g c =
    rw (← c.self.view_is)
    (rule-answers c.self.inside.accounts (g.S.Storage.rule c.self.inside.inner) (g.S.Storage.files c.self.inside.inner) (Begin c.args.user.now c.args.path.now c.args.start) c.begin_owned.result c.self.invariant (rw c.in-Some.is c.begin_owned.ensures.refused))

pub returns-in-Some-clause-new_rule : goal.returns-in-Some-clause-new_rule
returns-in-Some-clause-new_rule g c =
    rw (← c.self.view_is, c.in-Some.is)
    (begun-so c.begin_owned.result c.in-Some.accounts c.begin_owned.new.accounts (g.S.Storage.rule c.self.inside.inner) (g.S.Storage.rule c.begin_owned.new.inner)
    c.args.user.now c.args.path.now c.args.start c.begin_owned.ensures.own c.begin_owned.ensures.owned c.begin_owned.ensures.rule)
