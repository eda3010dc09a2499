-- The search along the ports of a range, from a place that the word chooses and round once.
use Rattle.std.proofs.Common.{◌≡◌, ℕ, zero, suc, ◌+◌, ◌-◌, ◌%◌, ◌<◌, ◌≤◌, Bool, true, false, cond, Option, Some, None, is_none, map, find, refl, sym, ap, ◌∙◌, arith, inl, inr}
use Rattle.std.proofs.Math.Nat.{mod-add-mod, add-mod_left, mod-eq_of_lt}
use Rattle.std.proofs.lemmas.Bool.{cases_eq, cases_lt}
use Rattle.std.proofs.lemmas.Nat.{mod_below}
use Rattle.std.proofs.lemmas.Option.{same_Some}
use Rattle.std.specs.List.{range_with_len}
use Rattle.ftp_base.specs.Ports.{first_free}

module _ (test : ℕ → Bool) (port : ℕ → ℕ) where
  -- The first port that passes the test is found.
  find-first : (m i k : ℕ) → i ≤ k → k < i + m → test (port k) ≡ true → ((e : ℕ) → i ≤ e → e < k → test (port e) ≡ false) →
      find test (map port (range_with_len i m)) ≡ Some (port k)
  find-first zero i k from to passes before = absurd (omega arith)
  find-first (suc m) i k from to passes before =
      elim (cases_eq i k) [
        | inl same ↦ rw same (ap (λ b. cond b (Some (port k)) (find test (map port (range_with_len (k + 1) m)))) passes)
        | inr apart ↦
            ap (λ b. cond b (Some (port i)) (find test (map port (range_with_len (i + 1) m)))) (before i (omega arith) (omega arith))
            ∙ find-first m (i + 1) k (omega arith) (omega arith) passes (λ e after below. before e (omega arith) below)
      ]

  -- Where none passes the test, none is found.
  find-none : (m i : ℕ) → ((e : ℕ) → i ≤ e → e < i + m → test (port e) ≡ false) → find test (map port (range_with_len i m)) ≡ None
  find-none zero i fails = refl
  find-none (suc m) i fails =
      ap (λ b. cond b (Some (port i)) (find test (map port (range_with_len (i + 1) m)))) (fails i (omega arith) (omega arith))
      ∙ find-none m (i + 1) (λ e after below. fails e (omega arith) (omega arith))

  -- What is found is one of the ports, and passes the test.
  find-some : (m i x : ℕ) → find test (map port (range_with_len i m)) ≡ Some x → (k : ℕ) × (port k ≡ x) × (test x ≡ true)
  find-some zero i x found = cc
  find-some (suc m) i x found = by (find-some m (i + 1) x) (test (port i)) refl found
    where
      by : (find test (map port (range_with_len (i + 1) m)) ≡ Some x → (k : ℕ) × (port k ≡ x) × (test x ≡ true)) →
          (b : Bool) → test (port i) ≡ b → cond b (Some (port i)) (find test (map port (range_with_len (i + 1) m))) ≡ Some x → (k : ℕ) × (port k ≡ x) × (test x ≡ true)
      by rest true passes here = let same : port i ≡ x = same_Some (port i) x here in (i, same, ap test (sym same) ∙ passes)
      by rest false fails later = rest later

module _ (n word : ℕ) (some : 0 < n) where
  start-below : word % n < n
  start-below = mod_below word n some

  -- Up to the end of the range the places follow the first one.
  place-late : (i : ℕ) → word % n + i < n → (word + i) % n ≡ word % n + i
  place-late i below = sym (mod-add-mod word n i) ∙ mod-eq_of_lt below

  -- Past the end they begin anew.
  place-early : (i : ℕ) → i < n → n ≤ word % n + i → (word + i) % n ≡ word % n + i - n
  place-early i short above =
      let low : word % n < n = start-below in
      let over : word % n + i ≡ n + (word % n + i - n) = omega arith in
      sym (mod-add-mod word n i) ∙ ap (λ m. m % n) over ∙ add-mod_left n (word % n + i - n) ∙ mod-eq_of_lt (omega arith)

module _ (holder : ℕ → Option ℕ) (lo hi word : ℕ) where
  abbrev count : ℕ
  count = (hi - lo) + 1

  abbrev free : ℕ → Bool
  free p = is_none (holder p)

  abbrev port : ℕ → ℕ
  port i = lo + ((word + i) % count)

  -- Each of these places is held.
  abbrev pub AreHeld : ℕ → ℕ → Type 0
  AreHeld from to = (j : ℕ) → from ≤ j → j < to → free (lo + j) ≡ false

  held-port : (from to i j : ℕ) → AreHeld from to → (word + i) % count ≡ j → from ≤ j → j < to → free (port i) ≡ false
  held-port from to i j held is after below = ap (λ k. free (lo + k)) is ∙ held j after below

  -- The first free place from the word's on is found.
  pub first_free-late : (j : ℕ) → word % count ≤ j → j < count → free (lo + j) ≡ true → AreHeld (word % count) j → first_free holder lo hi word ≡ Some (lo + j)
  first_free-late j after below is_free before =
      let some : 0 < count = omega arith in
      let i : ℕ = j - word % count in
      let here : (word + i) % count ≡ j = place-late count word some i (omega arith) ∙ omega arith in
      find-first free port count 0 i (omega arith) (omega arith) (ap (λ k. free (lo + k)) here ∙ is_free)
      (λ e from to. held-port (word % count) j e (word % count + e) before (place-late count word some e (omega arith)) (omega arith) (omega arith))
      ∙ ap (λ k. Some (lo + k)) here

  module _ (late : AreHeld (word % count) count) where
    round : (some : 0 < count) (to e : ℕ) → AreHeld 0 to → e < count → (count ≤ word % count + e → word % count + e - count < to) → free (port e) ≡ false
    round some to e before short within =
        elim (cases_lt (word % count + e) count) [
          | inl below ↦ held-port (word % count) count e (word % count + e) late (place-late count word some e below) (omega arith) below
          | inr above ↦ held-port 0 to e (word % count + e - count) before (place-early count word some e short above) (omega arith) (within above)
        ]

    -- Where those are held, the first free place from the beginning of the range is found.
    pub first_free-early : (j : ℕ) → j < word % count → free (lo + j) ≡ true → AreHeld 0 j → first_free holder lo hi word ≡ Some (lo + j)
    first_free-early j below is_free before =
        let some : 0 < count = omega arith in
        let low : word % count < count = start-below count word some in
        let i : ℕ = count - word % count + j in
        let here : (word + i) % count ≡ j = place-early count word some i (omega arith) (omega arith) ∙ omega arith in
        find-first free port count 0 i (omega arith) (omega arith) (ap (λ k. free (lo + k)) here ∙ is_free)
        (λ e from to. round some j e before (omega arith) (λ above. omega arith))
        ∙ ap (λ k. Some (lo + k)) here

    -- Where all are held, none is found.
    pub first_free-none : AreHeld 0 (word % count) → first_free holder lo hi word ≡ None
    first_free-none early =
        let some : 0 < count = omega arith in
        let low : word % count < count = start-below count word some in
        find-none free port count 0 (λ e from to. round some (word % count) e early (omega arith) (λ above. omega arith))

-- The first free port lies in the range, and nobody holds it.
pub first_free-is : (holder : ℕ → Option ℕ) (lo hi word port : ℕ) → lo ≤ hi → first_free holder lo hi word ≡ Some port → (lo ≤ port) × (port ≤ hi) × (holder port ≡ None)
first_free-is holder lo hi word port range found =
    let here = find-some (λ p. is_none (holder p)) (λ i. lo + ((word + i) % ((hi - lo) + 1))) ((hi - lo) + 1) 0 port found in
    let at : lo + ((word + here.0) % ((hi - lo) + 1)) ≡ port = here.1 in
    let low : (word + here.0) % ((hi - lo) + 1) < (hi - lo) + 1 = mod_below (word + here.0) ((hi - lo) + 1) (omega arith) in
    (omega arith, omega arith, none (holder port) here.2)
  where
    none : (o : Option ℕ) → is_none o ≡ true → o ≡ None
    none None is = refl
    none (Some s) is = cc
