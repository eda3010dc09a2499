-- Entries whose keys rise, and look-ups in two orders.
use Rattle.std.proofs.Common.{◌≡◌, ℕ, zero, suc, ◌<◌, ◌≤◌, Bool, true, false, cond, List, [], ◌∷◌, length, get_or, refl, sym, ap, ◌∙◌, arith, inl, inr}
use Rattle.std.specs.List.{AllByRecursion}
use Rattle.std.specs.List.Sorted.{IsStrictlySortedBy, IsNonDecreasingBy}
use Rattle.std.specs.Map.{keys_of}
use Rattle.std.specs.Ordering.{eq_by_cmp, ordering_index, ordering_reverse}
use Rattle.std.specs.Cmp.{IsTotalOrder, Equal-is}
use Rattle.std.specs.declared.cmp.Ordering.{Ordering}
use Rattle.std.specs.declared.cmp.Ordering.TheVariants.{Less, Equal, Greater}
use Rattle.std.proofs.lemmas.Bool.{cases_lt}

-- a choice that was made is made again
pub shadows : {A : Type 0} (b : Bool) (x y z : A) → cond b x z ≡ cond b x (cond b y z)
shadows true x y z = refl
shadows false x y z = refl

-- two choices of which one at most is made, in the other order
pub swaps : {A : Type 0} (a b : Bool) (x y z : A) → (a ≡ true → b ≡ true → ⊥) → cond a x (cond b y z) ≡ cond b y (cond a x z)
swaps true true x y z apart = absurd (apart refl refl)
swaps true false x y z apart = refl
swaps false b x y z apart = refl

-- no key rises
pub none_rises : {K : Type 0} (R : K → K → Ordering) → IsStrictlySortedBy R []
unfolding IsStrictlySortedBy
none_rises R = tt

module _ {K : Type 0} {R : K → K → Ordering} (o : IsTotalOrder R) where
  -- a key is not at two places
  pub apart : (q k l : K) → R k l ≡ Less → eq_by_cmp R q k ≡ true → eq_by_cmp R q l ≡ true → ⊥
  apart q k l less here there =
      let e : R q k ≡ Equal = (Equal-is (R q k)).0 here in
      let f : R q l ≡ Equal = (Equal-is (R q l)).0 there in
      let g : R q l ≡ R k l = o.congr q k l e in
      cc

  -- a higher key compares no lower
  climbs : (k l x : K) → R k l ≡ Less → ordering_index (R k x) ≤ ordering_index (R l x)
  climbs k l x less = by (R k x) refl where
    back : R x l ≡ Less → R l x ≡ Greater
    back lower = o.antisymm l x ∙ ap ordering_reverse lower

    by : (c : Ordering) → R k x ≡ c → ordering_index c ≤ ordering_index (R l x)
    by Less below = omega arith
    by Equal tie =
        let g : R l x ≡ Greater = back (sym (o.congr k x l tie) ∙ less) in
        rw g (omega arith)
    by Greater above =
        let lower : R x k ≡ Less = o.antisymm x k ∙ ap ordering_reverse above in
        let g : R l x ≡ Greater = back (o.trans x k l lower less) in
        rw g (omega arith)

  module _ {X : Type 0} where
    -- the keys rise
    abbrev pub Rises : List (K × X) → Type 0
    Rises es = IsStrictlySortedBy R (keys_of es)

    pub rises-head : (e : K × X) (es : List (K × X)) → Rises (e ∷ es) → AllByRecursion (λ y. R e.0 y ≡ Less) (keys_of es)
    unfolding IsStrictlySortedBy
    rises-head e es rises = rises.0

    pub rises-tail : (e : K × X) (es : List (K × X)) → Rises (e ∷ es) → Rises es
    unfolding IsStrictlySortedBy
    rises-tail e es rises = rises.1

    pub rises-cons : (e : K × X) (es : List (K × X)) → AllByRecursion (λ y. R e.0 y ≡ Less) (keys_of es) → Rises es → Rises (e ∷ es)
    unfolding IsStrictlySortedBy
    rises-cons e es head tail = (head, tail)

    pub all-get_or : (P : K → Type 0) (es : List (K × X)) (i : ℕ) (d : K × X) → AllByRecursion P (keys_of es) → i < length es → P (get_or es i d).0
    all-get_or P [] i d all lt = absurd (omega arith)
    all-get_or P (e ∷ es) zero d all lt = all.0
    all-get_or P (e ∷ es) (suc i) d all lt = all-get_or P es i d all.1 (omega arith)

    rises-at : (es : List (K × X)) (i j : ℕ) (d : K × X) → Rises es → i < j → j < length es → R (get_or es i d).0 (get_or es j d).0 ≡ Less
    rises-at [] i j d rises less lt = absurd (omega arith)
    rises-at (e ∷ es) i zero d rises less lt = absurd (omega arith)
    rises-at (e ∷ es) zero (suc j) d rises less lt = all-get_or (λ y. R e.0 y ≡ Less) es j d (rises-head e es rises) (omega arith)
    rises-at (e ∷ es) (suc i) (suc j) d rises less lt = rises-at es i j d (rises-tail e es rises) (omega arith) (omega arith)

    -- the keys compare to another key no lower from one place to the next
    pub comparisons_climb : (es : List (K × X)) (k : K) → Rises es → IsNonDecreasingBy (λ e. ordering_index (R e.0 k)) es
    comparisons_climb es k rises i j d le lt = elim (cases_lt i j) [
      | inl less ↦ climbs (get_or es i d).0 (get_or es j d).0 k (rises-at es i j d rises less lt)
      | inr ge ↦ (let same : i ≡ j = omega arith in rw same (omega arith))
    ]
