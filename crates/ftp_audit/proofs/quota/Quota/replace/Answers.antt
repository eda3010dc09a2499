use Rattle.ftp_audit.specs.Quota.{IsUnused}
use Rattle.ftp_audit.proofs.Rules.{agrees-unused}
use Rattle.ftp_audit.proofs.quota.Quota.replace.Goals as goal

pub invariant_of-self : goal.invariant_of-self
invariant_of-self g c =
    let unused : IsUnused c.self.inside.accounts = rw (← c.self.view_is) at c.requires.unused in
    agrees-unused (g.S.Storage.files c.args.inner) c.self.inside.accounts unused
