use Rattle.std.proofs.Common.{Some, refl, sym, subst}
use Rattle.std.specs.Prelude.{IsSomeAnd}
use Rattle.ftp_audit.specs.Usage.{Agrees}
use Rattle.ftp_audit.specs.Book.{Book, new_book, IsWithin}
use Rattle.ftp_audit.proofs.Begun.{within-new, agrees-new}
use Rattle.ftp_audit.proofs.Rules.{agrees-unused}
use Rattle.ftp_audit.proofs.quota.Quota.new.Goals as goal

pub invariant_of-result : goal.invariant_of-result
invariant_of-result g c = rw c.new.ensures (agrees-unused (g.S.Storage.files c.args.inner) (Some (new_book c.args.default)) refl)

pub returns-clause-within : goal.returns-clause-within
returns-clause-within g c = subst IsWithin (sym c.new.ensures) (within-new c.args.default)

pub returns-clause-agreed : goal.returns-clause-agreed
returns-clause-agreed g c files told =
    subst (λ (b : Book). IsSomeAnd (g.S.Storage.files c.args.inner) (Agrees b.owners)) (sym c.new.ensures) (rw told (agrees-new files))
