-- The numbers of a table in ascending order: sorted and distinct keys are the keys of the finite map.
use Rattle.std.proofs.Common.{◌≡◌, ℕ, suc, ◌<◌, ◌≤◌, nat_eq, Bool, true, false, cond, ◌&&◌, List, [], ◌∷◌, map, length, get_or, Option, Some, None, is_some, refl, sym, ap, ◌∙◌, subst, arith, inl, inr, T, subst}
use Rattle.std.specs.Ordering.{nat_cmp, is_lt, eq_by_cmp}
use Rattle.std.specs.declared.cmp.Ordering.TheVariants.{Less}
use Rattle.std.specs.Cmp.{nat_cmp_total, nat_eq_equiv, nat_cmp_is, unsigned_ties}
use Rattle.std.specs.List.{AllByRecursion, list_any, IsDistinct}
use Rattle.std.specs.List.Sorted.{IsPermutation, IsSorted}
use Rattle.std.specs.Map.{keys_of}
use Rattle.std.specs.FinMap.{nat_cmp-IsAntisymmetric, get, keys, entries, entries_sorted, from_entries, from_sorted, get-from_sorted, entries-from_sorted, contains_key-keys, same_map, find, is_sorted}
use Rattle.std.specs.FinMap.Entries.{below_all, is_some-find}
use Rattle.std.proofs.lemmas.Map.Made.{is_some-lookup}
use Rattle.std.proofs.lemmas.List.Sorted.{IsNonDecreasingBy-from_sort, list_any-IsPermutation}
use Rattle.ftp_base.proofs.Tables.{get-numbers}
use Rattle.std.proofs.lemmas.Map.Keys.{IsDistinct-IsPermutation}
use Rattle.std.proofs.lemmas.Bool.{eq-eqb, cases_lt}

-- each number with nothing beside it, as a set is a map
abbrev units : List ℕ → List (ℕ × Unit {0})
units ks = map (λ k. (k, tt)) ks

-- a smaller number compares as less
lt_less : (x y : ℕ) → x < y → is_lt (nat_cmp x y) ≡ true
lt_less x y h = ap is_lt (sym (nat_cmp_is x y Less h))

-- equal numbers pass the test
same_number : (x y : ℕ) → x ≡ y → nat_eq x y ≡ true
same_number x y e = eq-eqb x y e

-- a number that is at most another, and not equal, is below it
apart : (x y : ℕ) → nat_eq x y ≡ false → x ≤ y → x < y
apart x y e h =
    elim (cases_lt x y) [
      | inl l ↦ l
      | inr g ↦ (let s : x ≡ y = omega arith in absurd (let t : nat_eq x y ≡ true = same_number x y s in cc))
    ]

-- below all is below all but the first
later : (y z : ℕ) (zs : List ℕ) → ((j d : ℕ) → j < length (z ∷ zs) → y ≤ get_or (z ∷ zs) j d) → (j d : ℕ) → j < length zs → y ≤ get_or zs j d
later y z zs h j d l = h (suc j) d (omega arith)

-- a number that is below each, strictly
below_units : (y : ℕ) (ys : List ℕ) → ((j d : ℕ) → j < length ys → y ≤ get_or ys j d) → AllByRecursion (λ z. nat_eq y z ≡ false) ys → below_all nat_cmp y (units ys) ≡ true
below_units y [] h n = refl
below_units y (z ∷ zs) h n =
    let first : y ≤ z = h 0 0 (omega arith) in
    ap (λ b. b && below_all nat_cmp y (units zs)) (lt_less y z (apart y z n.0 first))
    ∙ below_units y zs (λ j d l. later y z zs h j d l) n.1

-- sorted and distinct, the numbers rise
rise : (ys : List ℕ) → ((i j d : ℕ) → i ≤ j → j < length ys → get_or ys i d ≤ get_or ys j d) → IsDistinct nat_eq ys → is_sorted nat_cmp (units ys) ≡ true
unfolding IsDistinct
rise [] h n = refl
rise (y ∷ ys) h n =
    ap (λ b. b && is_sorted nat_cmp (units ys)) (below_units y ys (λ j d l. h 0 (suc j) d (omega arith) (omega arith)) n.0)
    ∙ rise ys (λ i j d l m. h (suc i) (suc j) d (omega arith) (omega arith)) n.1

-- a test that is true passes
is_true : {b : Bool} → b ≡ true → T b
is_true e = subst (λ b. T b) (sym e) tt

-- an option of nothing is told by whether it is there
of_unit : (x : Option (Unit {0})) → x ≡ cond (is_some x) (Some tt) None
of_unit None = refl
of_unit (Some u) = refl

-- the numbers come back
fst-units : (ks : List ℕ) → map (λ e. e.0) (units ks) ≡ ks
fst-units [] = refl
fst-units (k ∷ ks) = ap (λ l. k ∷ l) (fst-units ks)

-- a number is found exactly where it is in the list
has_units : (ks : List ℕ) (q : ℕ) → is_some (find nat_cmp q (units ks)) ≡ list_any (eq_by_cmp nat_cmp q) ks
has_units ks q = is_some-find nat_cmp q (units ks) ∙ ap (list_any (eq_by_cmp nat_cmp q)) (fst-units ks)

-- the same in the finite map
get_units : (ks : List ℕ) → is_sorted nat_cmp (units ks) ≡ true → (q : ℕ) → is_some (get (from_sorted {R = nat_cmp} (units ks)) q) ≡ list_any (eq_by_cmp nat_cmp q) ks
get_units ks s q = ap is_some (get-from_sorted nat_cmp (units ks) q (is_true s)) ∙ has_units ks q

-- two rising lists with the same members are one
same_risen : (xs ys : List ℕ) → is_sorted nat_cmp (units xs) ≡ true → is_sorted nat_cmp (units ys) ≡ true → ((q : ℕ) → list_any (eq_by_cmp nat_cmp q) xs ≡ list_any (eq_by_cmp nat_cmp q) ys) → xs ≡ ys
same_risen xs ys s t same =
    let A = from_sorted {R = nat_cmp} (units xs) in
    let B = from_sorted {R = nat_cmp} (units ys) in
    let is : A ≡ B = same_map nat_cmp_total nat_cmp-IsAntisymmetric A B (λ q. of_unit (get A q) ∙ ap (λ b. cond b (Some tt) None) (get_units xs s q ∙ same q ∙ sym (get_units ys t q)) ∙ sym (of_unit (get B q))) in
    sym (fst-units xs) ∙ ap (map (λ e. e.0)) (sym (entries-from_sorted nat_cmp (units xs) (is_true s)) ∙ ap entries is ∙ entries-from_sorted nat_cmp (units ys) (is_true t)) ∙ fst-units ys

-- the two tests of equality are one
tied : (q : ℕ) → (λ (x : ℕ). nat_eq q x) ≡ eq_by_cmp nat_cmp q
tied q = λ i x. unsigned_ties q x i

-- what passes is true
true_from : (b : Bool) → T b → b ≡ true
true_from true h = refl
true_from false h = absurd h

-- to be below entries is to be below their keys
below_keys : {X : Type 0} (k : ℕ) (es : List (ℕ × X)) → below_all nat_cmp k (units (map (λ e. e.0) es)) ≡ below_all nat_cmp k es
below_keys k [] = refl
below_keys k (e ∷ es) = ap (λ b. is_lt (nat_cmp k e.0) && b) (below_keys k es)

-- entries are sorted where their keys are
sorted_keys_of : {X : Type 0} (es : List (ℕ × X)) → is_sorted nat_cmp (units (map (λ e. e.0) es)) ≡ is_sorted nat_cmp es
sorted_keys_of [] = refl
sorted_keys_of (e ∷ es) = ap (λ b. b && is_sorted nat_cmp (units (map (λ e. e.0) es))) (below_keys e.0 es) ∙ ap (λ b. below_all nat_cmp e.0 es && b) (sorted_keys_of es)

-- the keys of entries, sorted, are those of their map
pub sorted_numbers : {X : Type 0} (es : List (ℕ × X)) (ks ys : List ℕ) → ks ≡ keys_of es → IsDistinct nat_eq ks → IsPermutation ks ys → IsSorted nat_cmp ys → ys ≡ keys (from_entries {R = nat_cmp} es)
sorted_numbers es ks ys is distinct moved sorted =
    let m = from_entries {R = nat_cmp} es in
    same_risen ys (keys m)
    (rise ys (IsNonDecreasingBy-from_sort (λ x. x) ys sorted) (IsDistinct-IsPermutation nat_eq nat_eq_equiv.symm ks ys moved distinct))
    (sorted_keys_of (entries m) ∙ true_from (is_sorted nat_cmp (entries m)) (entries_sorted m))
    (λ q.
    sym (list_any-IsPermutation (eq_by_cmp nat_cmp q) ks ys moved)
    ∙ ap (λ t. list_any t ks) (sym (tied q))
    ∙ ap (list_any (λ x. nat_eq q x)) is
    ∙ sym (is_some-lookup (λ x. nat_eq q x) es)
    ∙ ap is_some (sym (get-numbers es q))
    ∙ contains_key-keys m q)
