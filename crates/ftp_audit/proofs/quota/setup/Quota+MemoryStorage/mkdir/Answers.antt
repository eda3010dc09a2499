use Rattle.std.proofs.Common.{Some}
use Rattle.ftp_audit.specs.Quota.{IsUnused}
use Rattle.ftp_audit.proofs.Rules.{agrees-unused}
use Rattle.ftp_audit.proofs.quota.setup.Quota+MemoryStorage.mkdir.Goals as goal

pub invariant_of-self : goal.invariant_of-self
invariant_of-self c =
    let unused : IsUnused c.self.inside.accounts = rw (← c.self.view_is) at c.requires.unused in
    agrees-unused (Some c.mkdir.new.self.files) c.self.inside.accounts unused
