-- A table after a link was put at a number, as after a write through a lent link.
use Rattle.std.proofs.Common.{◌≡◌, ◌≢◌, ℕ, Bool, true, false, cond, Option, Some, IsSome, is_some, refl, sym, ap, ◌∙◌, eq-eqb, eqb-true}
use Rattle.std.specs.Ordering.{nat_cmp, eq_by_cmp}
use Rattle.std.specs.Cmp.{nat_cmp_total, unsigned_tied}
use Rattle.std.specs.FinMap as map
use Rattle.ftp_base.specs.LinkTable.{Numbered}

if_not : {X : Type 0} (b : Bool) (x y : X) → (b ≡ true → x ≡ y) → cond b x y ≡ y
if_not true x y same = same refl
if_not false x y same = refl

still_some : {X : Type 0} (b : Bool) (x : X) (o : Option X) → (b ≡ true → IsSome o) → is_some (cond b (Some x) o) ≡ is_some o
still_some true x o there = sym (there refl)
still_some false x o there = refl

module _ {L : Type 0} (table : Numbered L) (number : ℕ) (link : L) where
  same_number : (q : ℕ) → eq_by_cmp nat_cmp q number ≡ true → q ≡ number
  same_number q tied = eqb-true q number (sym (unsigned_tied q number) ∙ tied)

  -- the link is at the number
  pub get-insert-same : map.get (map.insert table number link) number ≡ Some link
  get-insert-same =
      map.get-insert nat_cmp_total table number link number
      ∙ ap (λ b. cond b (Some link) (map.get table number)) (unsigned_tied number number ∙ eq-eqb number number refl)

  -- all other links are as they were
  pub get-insert-other : (q : ℕ) → q ≢ number → map.get (map.insert table number link) q ≡ map.get table q
  get-insert-other q other =
      map.get-insert nat_cmp_total table number link q
      ∙ if_not (eq_by_cmp nat_cmp q number) (Some link) (map.get table q) (λ tied. absurd (other (same_number q tied)))

  -- where the number has a link, the same numbers have one
  pub is_some-get-insert : IsSome (map.get table number) → (q : ℕ) → is_some (map.get (map.insert table number link) q) ≡ is_some (map.get table q)
  is_some-get-insert there q =
      ap is_some (map.get-insert nat_cmp_total table number link q)
      ∙ still_some (eq_by_cmp nat_cmp q number) link (map.get table q) (λ tied.
      ap (λ k. is_some (map.get table k)) (same_number q tied) ∙ there)
