use Rattle.ftp_audit.proofs.Begun.{usage_told}
use Rattle.ftp_audit.proofs.quota.Quota.usage.Goals as goal

pub returns-in-Some-clause-usage : goal.returns-in-Some-clause-usage
returns-in-Some-clause-usage g c =
    rw (← c.self.view_is, c.in-Some.is)
    (usage_told c.in-Some.accounts (g.S.Storage.files c.self.inside.inner) c.args.user.now c.used.result c.used.ensures)
