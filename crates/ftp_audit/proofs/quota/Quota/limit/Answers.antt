use Rattle.std.proofs.Common.{Some, refl}
use Rattle.ftp_audit.specs.Book.{new_book}
use Rattle.ftp_audit.proofs.Rules.{agrees-unused}
use Rattle.ftp_audit.proofs.quota.Quota.limit.Goals as goal

pub invariant_of-self : goal.invariant_of-self
invariant_of-self g c = rw c.new.ensures (agrees-unused (g.S.Storage.files c.self.inside.inner) (Some (new_book c.args.default)) refl)
