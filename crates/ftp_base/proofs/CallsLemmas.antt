-- The look-up of a call among those that fail, and how many faults can come.
use Rattle.std.proofs.Common.{◌≡◌, ℕ, zero, suc, ◌+◌, ◌-◌, ◌^◌, ◌||◌, Bool, ◌<◌, ◌==◌, true, false, ltb, cond, ◌≤◌, refl, List, [], ◌∷◌, length, get_or, arith, ap, sym, subst, ◌∙◌, eqb-true, inl, inr}
use Rattle.std.specs.Ordering.{nat_cmp, is_eq, is_lt, ordering_index}
use Rattle.std.specs.declared.cmp.Ordering.TheVariants.{Less, Equal, Greater}
use Rattle.std.specs.Cmp.{nat_cmp_total, nat_cmp_is, unsigned_ties}
use Rattle.std.specs.List.{list_any, count_by}
use Rattle.std.specs.List.Sorted.{IsSortedByKey, IsNonDecreasingBy, IsPartitionPoint}
use Rattle.std.proofs.lemmas.Bool.{cases_lt, ltb-true, lt-ltb, le-ltb, eq-eqb, ne_eqb, and_parts}
use Rattle.std.proofs.lemmas.List.Sums.{sum_by-cons}
use Rattle.std.proofs.lemmas.List.Folds.{list_any_at, list_any_none}
use Rattle.std.proofs.lemmas.List.Sorted.{searchable_from_sorted}
use Rattle.ftp_base.specs.Calls.{Calls, one_more, rises_above, fails_next_by, fault_limit_by, after_call, after_fault}

module _ {T : Type 0} (number : T → ℕ) (xs : List T) (n : ℕ) where
  -- a call that a search finds is one of the list
  pub list_any-found : (i : ℕ) (d : T) → i < length xs → nat_cmp (number (get_or xs i d)) n ≡ Equal → list_any (λ f. number f == n) xs ≡ true
  list_any-found i d within same =
      list_any_at (λ f. number f == n) xs i d within (unsigned_ties (number (get_or xs i d)) n ∙ ap is_eq same)

  -- and has the number
  pub number-found : (i : ℕ) (d : T) → nat_cmp (number (get_or xs i d)) n ≡ Equal → number (get_or xs i d) ≡ n
  number-found i d same =
      eqb-true (number (get_or xs i d)) n (unsigned_ties (number (get_or xs i d)) n ∙ ap is_eq same)

  -- where a search in order finds none, no call of the list has the number
  pub list_any-missed : (i : ℕ) → IsSortedByKey number nat_cmp xs → (IsNonDecreasingBy (λ f. ordering_index (nat_cmp (number f) n)) xs → IsPartitionPoint (λ f. nat_cmp (number f) n ≡ Less) (λ f. nat_cmp (number f) n ≡ Greater) xs i) → list_any (λ f. number f == n) xs ≡ false
  list_any-missed i sorted parts =
      let at = parts (searchable_from_sorted nat_cmp_total number xs n sorted) in
      list_any_none (λ f. number f == n) xs (λ k d within.
      unsigned_ties (number (get_or xs k d)) n
      ∙ elim (cases_lt k i) [
        | inl before ↦ ap is_eq (at.0 k d (omega arith) before)
        | inr after ↦ ap is_eq (at.1 k d after within)
      ])

module _ {T : Type 0} (number : T → ℕ) where
  -- where calls rise, each has a number below the next
  rises-next : (n : ℕ) (xs : List T) (k : ℕ) (d : T) → rises_above number n xs ≡ true → k + 1 < length xs → number (get_or xs k d) < number (get_or xs (k + 1) d)
  rises-next n [] k d h lt = absurd (omega arith)
  rises-next n (x ∷ []) k d h lt = absurd (omega arith)
  rises-next n (x ∷ y ∷ xs) zero d h lt =
      let first = and_parts (ltb n (number x)) (rises_above number (number x) (y ∷ xs)) h in
      let second = and_parts (ltb (number x) (number y)) (rises_above number (number y) xs) first.1 in
      ltb-true _ _ second.0
  rises-next n (x ∷ y ∷ xs) (suc k) d h lt =
      let first = and_parts (ltb n (number x)) (rises_above number (number x) (y ∷ xs)) h in
      let at : suc k + 1 ≡ suc (k + 1) = omega arith in
      subst (λ (m : ℕ). number (get_or (x ∷ y ∷ xs) (suc k) d) < number (get_or (x ∷ y ∷ xs) m d)) (sym at) (rises-next (number x) (y ∷ xs) k d first.1 (omega arith))

  -- calls that rise are in order
  pub IsSortedByKey-rises : (n : ℕ) (xs : List T) → rises_above number n xs ≡ true → IsSortedByKey number nat_cmp xs
  IsSortedByKey-rises n xs h = λ k d low lt. not_less (number (get_or xs k d)) (number (get_or xs (k + 1) d)) (rises-next n xs k d h lt) where
    not_less : (a b : ℕ) → a < b → is_lt (nat_cmp b a) ≡ false
    not_less a b lt = ap is_lt (sym (nat_cmp_is b a Greater lt))

-- a number is above another where it is above the next one too, or is that one
above-next : (m k : ℕ) → cond {A = ℕ} (ltb m k) 1 0 ≡ cond {A = ℕ} (ltb (m + 1) k) 1 0 + cond {A = ℕ} (k == m + 1) 1 0
above-next m k =
    elim (cases_lt m k) [
      | inr le ↦ rw (le-ltb m k le, le-ltb (m + 1) k (omega arith), ne_eqb k (m + 1) (λ e. omega (arith, e))) refl
      | inl lt ↦
          elim (cases_lt (m + 1) k) [
            | inl above ↦ rw (lt-ltb m k lt, lt-ltb (m + 1) k above, ne_eqb k (m + 1) (λ e. omega (arith, e))) refl
            | inr le ↦ rw (lt-ltb m k lt, le-ltb (m + 1) k le, eq-eqb k (m + 1) (omega arith)) refl
          ]
    ]

-- one more element counts where it passes
count_by-cons : {X : Type 0} (p : X → Bool) (x : X) (xs : List X) →
    count_by p (x ∷ xs) ≡ cond {A = ℕ} (p x) 1 0 + count_by p xs
count_by-cons p x xs = sum_by-cons (λ y. cond (p y) 1 0) x xs

-- where an element passes, one is counted
count_by-some : {X : Type 0} (p : X → Bool) (xs : List X) → list_any p xs ≡ true → 0 < count_by p xs
count_by-some p [] h = cc
count_by-some p (x ∷ xs) h =
    elim (p x) as (λ b. p x ≡ b → (b || list_any p xs) ≡ true → 0 < count_by p (x ∷ xs)) [
      | true ↦ λ e g.
          let one : cond {A = ℕ} (p x) 1 0 ≡ 1 = rw e refl in
          omega (arith, one, count_by-cons p x xs)
      | false ↦ λ e g. omega (arith, count_by-some p xs g, count_by-cons p x xs)
    ] refl h

-- at most one is counted more
one_more-le : (n : ℕ) → one_more n ≤ n + 1
one_more-le n =
    elim (ltb n (2 ^ 64 - 1)) as (λ b. cond {A = ℕ} b (n + 1) n ≤ n + 1) [ true ↦ omega arith | false ↦ omega arith ]

module _ {T : Type 0} (number : T → ℕ) where
  -- a call that is still to come is the next one or comes after that
  count_by-to_come : (m : ℕ) (xs : List T) →
      count_by (λ f. ltb m (number f)) xs ≡ count_by (λ f. ltb (m + 1) (number f)) xs + count_by (λ f. number f == m + 1) xs
  count_by-to_come m [] = refl
  count_by-to_come m (x ∷ xs) =
      omega (
        arith,
        count_by-cons (λ f. ltb m (number f)) x xs,
        count_by-cons (λ f. ltb (m + 1) (number f)) x xs,
        count_by-cons (λ f. number f == m + 1) x xs,
        above-next m (number x),
        count_by-to_come m xs,
      )

  -- one more call that goes well raises no limit
  pub fault_limit_by-after_call : (c : Calls T) → fault_limit_by number (after_call c) ≤ fault_limit_by number c
  fault_limit_by-after_call c =
      elim (ltb c.made (2 ^ 64 - 1))
      as (λ b. c.faults + count_by (λ f. ltb (cond b (c.made + 1) c.made) (number f)) c.failing ≤ fault_limit_by number c) [
        | true ↦ omega (arith, count_by-to_come c.made c.failing)
        | false ↦ omega arith
      ]

  -- one more call that fails as it is listed raises no limit
  pub fault_limit_by-after_fault : (c : Calls T) → fails_next_by number c ≡ true →
      fault_limit_by number (after_fault c) ≤ fault_limit_by number c
  fault_limit_by-after_fault c fails =
      let parts = and_parts (ltb c.made (2 ^ 64 - 1)) (list_any (λ f. number f == one_more c.made) c.failing) fails in
      let next : one_more c.made ≡ c.made + 1 = rw parts.0 refl in
      let listed : list_any (λ f. number f == c.made + 1) c.failing ≡ true = rw next at parts.1 in
      let left : count_by (λ f. ltb (one_more c.made) (number f)) c.failing
      ≡ count_by (λ f. ltb (c.made + 1) (number f)) c.failing = rw next refl in
      omega (
        arith,
        left,
        count_by-to_come c.made c.failing,
        count_by-some (λ f. number f == c.made + 1) c.failing listed,
        one_more-le c.faults,
      )

  -- calls that rise from above a number on are all above what is below that
  count_by-rises : (m n : ℕ) (xs : List T) → m ≤ n → rises_above number n xs ≡ true →
      count_by (λ f. ltb m (number f)) xs ≡ length xs
  count_by-rises m n [] le h = refl
  count_by-rises m n (x ∷ xs) le h =
      let parts = and_parts (ltb n (number x)) (rises_above number (number x) xs) h in
      let above : n < number x = ltb-true _ _ parts.0 in
      let one : cond {A = ℕ} (ltb m (number x)) 1 0 ≡ 1 = rw (lt-ltb m (number x) (omega arith)) refl in
      omega (arith, one, count_by-cons (λ f. ltb m (number f)) x xs, count_by-rises m (number x) xs (omega arith) parts.1)

  -- where the calls that fail rise, as many faults can come as are listed
  pub fault_limit_by-first : (c : Calls T) (xs : List T) →
      c.made ≡ 0 → c.faults ≡ 0 → c.failing ≡ xs → rises_above number 0 xs ≡ true →
      fault_limit_by number c ≡ length xs
  fault_limit_by-first c xs no_call no_fault kept rises =
      let count = count_by-rises c.made 0 xs (omega (arith, no_call)) rises in
      rw kept (omega (arith, no_fault, count))
