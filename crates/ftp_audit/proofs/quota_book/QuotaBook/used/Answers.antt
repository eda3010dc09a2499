use Rattle.std.proofs.Common.{◌≡◌, ℕ, List, Vec, Global, Option, sym, ap, ◌∙◌}
use Rattle.std.specs.Prelude.{unwrap_or}
use Rattle.std.specs.Map.{lookup}
use Rattle.ftp_audit.specs.Names.{by_name}
use Rattle.ftp_audit.specs.Usage.{Owners, given}
use Rattle.ftp_audit.specs.Book.{Book, Balances}
use Rattle.ftp_audit.proofs.ByName.{at_name, get-found}
use Rattle.ftp_audit.proofs.quota_book.QuotaBook.used.Goals as goal

-- what was found for a user, or nothing, is what the user's files were given
counted : (used : List (Vec ℕ Global × ℕ)) (owners : Owners) (user key : List ℕ) (x : Option ℕ) → Balances (by_name used) owners → key ≡ user → x ≡ lookup (at_name key) used →
    unwrap_or x 0 ≡ given owners user
counted used owners user key x balance same found = ap (λ (o : Option ℕ). unwrap_or o 0) (sym (get-found used user key x same found)) ∙ balance.counted user

pub returns-in-Some : goal.returns-in-Some
returns-in-Some c =
    counted c.self.inside.used.entries _ _ _ _ c.self.invariant.balance c.as_slice.ensures c.in-Some.ensures.value
    ∙ ap (λ (b : Book). given b.owners c.args.user.now) c.self.view_is

pub returns-in-None : goal.returns-in-None
returns-in-None c =
    counted c.self.inside.used.entries _ _ _ _ c.self.invariant.balance c.as_slice.ensures c.in-None.ensures.value
    ∙ ap (λ (b : Book). given b.owners c.args.user.now) c.self.view_is
