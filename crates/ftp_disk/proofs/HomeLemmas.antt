-- Homes by the names of their users, as homes are added.
use Rattle.std.proofs.Common.{◌≡◌, ◌∙◌, ℕ, Bool, true, false, cond, List, Vec, Global, Option, Some, None, Bor, refl, sym, ap, is_some}
use Rattle.std.specs.Option.{option_or, option_copied}
use Rattle.std.specs.BTreeMap.{insert_entry}
use Rattle.std.specs.Ordering.{nat_cmp}
use Rattle.std.specs.Cmp.Lexicographic.{slice_cmp}
use Rattle.std.specs.Str.{bytes_eq}
use Rattle.std.proofs.lemmas.Slice.Eq.{bytes_eq-Decides}
use Rattle.ftp_base.proofs.Named.{lookup-insert}
use Rattle.ftp_disk.specs.declared.home.Home.{Home}
use Rattle.ftp_disk.specs.Home.{homes_by_user, home_of, home_if}

or-none : (o : Option Home) → option_or o None ≡ o
or-none None = refl
or-none (Some x) = refl

-- where nothing is lent, nothing is there
absent : (lent : Option (Bor Home)) (there : Option Home) → option_copied lent ≡ there → is_some lent ≡ false → there ≡ None
absent None there same h = sym same
absent (Some x) there same h = absurd (cc h)

-- who had no home has the new one, and nothing else changes
pub add-absent :
    (name : List ℕ) (key : Vec ℕ Global) (home : Home) (entries : List (Vec ℕ Global × Home)) (lent : Option (Bor Home)) →
    option_copied lent ≡ home_of (homes_by_user entries) key.items → is_some lent ≡ false →
    home_of (homes_by_user (insert_entry (λ x y. slice_cmp nat_cmp x.items y.items) entries key home)) name ≡ option_or (home_of (homes_by_user entries) name) (home_if name key.items home)
add-absent name key home entries lent same h =
    let none : home_of (homes_by_user entries) key.items ≡ None = absent lent _ same h in
    lookup-insert entries key home name ∙ at (bytes_eq name key.items) refl none
  where
    at : (b : Bool) → bytes_eq name key.items ≡ b → home_of (homes_by_user entries) key.items ≡ None →
        cond b (Some home) (home_of (homes_by_user entries) name) ≡ option_or (home_of (homes_by_user entries) name) (cond b (Some home) None)
    at true e none =
        sym (ap (λ o. option_or o (Some home)) (ap (λ n. home_of (homes_by_user entries) n) ((bytes_eq-Decides name key.items).0 e) ∙ none))
    at false e none = sym (or-none (home_of (homes_by_user entries) name))
