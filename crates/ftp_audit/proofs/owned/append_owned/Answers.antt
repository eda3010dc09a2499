use Rattle.std.proofs.Common.{◌≡◌, ℕ, ◌+◌, length, refl, sym, subst, ap, ◌∙◌}
use Rattle.std.specs.Prelude.{IsSomeAnd}
use Rattle.ftp_audit.specs.Usage.{Agrees}
use Rattle.ftp_audit.specs.Book.{Book, IsWithin, with_file_of}
use Rattle.ftp_audit.proofs.Begun.{append-owner, true-grown, within-grown}
use Rattle.ftp_audit.proofs.owned.append_owned.Goals as goal

pub returns-clause-agreed : goal.returns-clause-agreed
returns-clause-agreed g c agrees =
    let own = append-owner c.args.accounts.now c.args.user.now c.args.path.now c.args.bytes.now (c.in-Ok.ensures.refused c.args.bytes.now refl) in
    let grown = rw own.1 at c.in-Ok.ensures.grown in
    let put : c.put.new.self ≡ with_file_of c.args.accounts.now c.args.user.now c.args.path.now (own.0.len + length c.args.bytes.now) =
    c.put.ensures ∙ ap (λ (n : ℕ). with_file_of c.args.accounts.now c.args.user.now c.args.path.now n) grown.1
    in
    subst (λ (b : Book). IsSomeAnd (g.S.Storage.files c.append.new.self) (Agrees b.owners)) (sym put)
    (true-grown c.args.accounts.now.owners (g.S.Storage.files c.args.inner.now) (g.S.Storage.files c.append.new.self) c.args.user.now c.args.path.now c.args.bytes.now own.0 own.1 agrees c.in_ok-append.ensures.grown)

pub returns-clause-within : goal.returns-clause-within
returns-clause-within g c within =
    let none = c.in-Ok.ensures.refused c.args.bytes.now refl in
    let own = append-owner c.args.accounts.now c.args.user.now c.args.path.now c.args.bytes.now none in
    let grown = rw own.1 at c.in-Ok.ensures.grown in
    let put : c.put.new.self ≡ with_file_of c.args.accounts.now c.args.user.now c.args.path.now (own.0.len + length c.args.bytes.now) =
    c.put.ensures ∙ ap (λ (n : ℕ). with_file_of c.args.accounts.now c.args.user.now c.args.path.now n) grown.1
    in
    subst IsWithin (sym put) (within-grown c.args.accounts.now c.args.user.now c.args.path.now c.args.bytes.now own.0 own.1 within none)
