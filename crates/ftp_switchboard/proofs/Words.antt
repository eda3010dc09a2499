-- The bits of words: one that is set or cleared, and the first that is clear.
use Rattle.std.proofs.Common.{◌≡◌, ◌≢◌, ℕ, ◌+◌, ◌-◌, ◌*◌, ◌/◌, ◌%◌, ◌^◌, ◌<◌, ◌≤◌, min, List, length, get_or, set, bit_and, w64, ap, ◌∙◌, inl, inr, arith, get_or-set_same, get_or-set_other}
use Rattle.std.specs.Int.{bit_at, bit_not, trailing_zeros}
use Rattle.std.proofs.lemmas.Bool.{cases_eq, cases_lt}
use Rattle.std.proofs.lemmas.Nat.{and_le_r, mod_below}
use Rattle.std.proofs.lemmas.Nat.Bits.{bit_at-lt, bit_at_and, bit_at_not, bit_at-zero, bit_at-trailing_zeros, bit_at_mask_inside, bit_at_mask_below, ones_shl}
use Rattle.ftp_switchboard.specs.Bits.{bit_of, AreSet}

module _ (words : List ℕ) (j word : ℕ) (within : j / 64 < length words) where
  -- A bit of a word that is written.
  pub bit_of-set : bit_of (set words (j / 64) word) j ≡ bit_at word (j % 64)
  bit_of-set = ap (λ n. bit_at n (j % 64)) (get_or-set_same words (j / 64) word 0 within)

  -- The other bits stay where the word keeps its own.
  pub bit_of-set-other : ((i : ℕ) → i < 64 → i ≢ j % 64 → bit_at word i ≡ bit_at (get_or words (j / 64) 0) i) → (i : ℕ) → i ≢ j → bit_of (set words (j / 64) word) i ≡ bit_of words i
  bit_of-set-other keeps i apart =
      elim (cases_eq (i / 64) (j / 64)) [
        | inl same ↦ rw (same, get_or-set_same words (j / 64) word 0 within) (keeps (i % 64) (omega arith) (λ here. apart (omega arith)))
        | inr other ↦ ap (λ n. bit_at n (i % 64)) (get_or-set_other words (j / 64) (i / 64) word 0 other)
      ]

module _ (word skipped : ℕ) (fits : word < 2 ^ 64) (small : skipped < 64) where
  -- the bits that are clear from the skipped ones on
  abbrev pub clear_bits : ℕ
  clear_bits = bit_and (bit_not w64 word) ((2 ^ 64 - 1) * 2 ^ skipped % 2 ^ 64)

  mask_is : (2 ^ 64 - 1) * 2 ^ skipped % 2 ^ 64 ≡ 2 ^ 64 - 2 ^ skipped
  mask_is = ones_shl 64 skipped (omega arith)

  clear_bits-at : (i : ℕ) → skipped ≤ i → i < 64 → bit_at clear_bits i ≡ 1 - bit_at word i
  clear_bits-at i from to =
      let low : bit_at word i < 2 = bit_at-lt word i in
      let one : min (1 - bit_at word i) 1 ≡ 1 - bit_at word i = omega arith in
      bit_at_and (bit_not w64 word) ((2 ^ 64 - 1) * 2 ^ skipped % 2 ^ 64) i
      ∙ ap (λ m. min m (bit_at ((2 ^ 64 - 1) * 2 ^ skipped % 2 ^ 64) i)) (bit_at_not w64 word i fits to)
      ∙ ap (λ m. min (1 - bit_at word i) (bit_at m i)) mask_is
      ∙ ap (λ m. min (1 - bit_at word i) m) (bit_at_mask_inside skipped 64 i from to)
      ∙ one

  clear_bits-below : (i : ℕ) → i < skipped → bit_at clear_bits i ≡ 0
  clear_bits-below i before =
      let none : min (bit_at (bit_not w64 word) i) 0 ≡ 0 = omega arith in
      bit_at_and (bit_not w64 word) ((2 ^ 64 - 1) * 2 ^ skipped % 2 ^ 64) i
      ∙ ap (λ m. min (bit_at (bit_not w64 word) i) (bit_at m i)) mask_is
      ∙ ap (λ m. min (bit_at (bit_not w64 word) i) m) (bit_at_mask_below skipped 64 i before)
      ∙ none

  -- A bit that is not among the clear ones is set.
  pub set_bit : (i : ℕ) → skipped ≤ i → i < 64 → bit_at clear_bits i ≡ 0 → bit_at word i ≡ 1
  set_bit i from to none =
      let low : bit_at word i < 2 = bit_at-lt word i in
      let is : bit_at clear_bits i ≡ 1 - bit_at word i = clear_bits-at i from to in
      omega arith

  -- A bit that is among the clear ones is clear, and was not skipped.
  pub clear_bit : (i : ℕ) → i < 64 → bit_at clear_bits i ≡ 1 → (skipped ≤ i) × (bit_at word i ≡ 0)
  clear_bit i to one =
      elim (cases_lt i skipped) [
        | inl before ↦ absurd (let none : bit_at clear_bits i ≡ 0 = clear_bits-below i before in omega arith)
        | inr from ↦ (
          from,
          (let is : bit_at clear_bits i ≡ 1 - bit_at word i = clear_bits-at i from to in
              let low : bit_at word i < 2 = bit_at-lt word i in omega arith),
        )
      ]

  clear_bits-fits : clear_bits < 2 ^ 64
  clear_bits-fits =
      let within : clear_bits ≤ (2 ^ 64 - 1) * 2 ^ skipped % 2 ^ 64 = and_le_r (bit_not w64 word) ((2 ^ 64 - 1) * 2 ^ skipped % 2 ^ 64) in
      let mask : (2 ^ 64 - 1) * 2 ^ skipped % 2 ^ 64 < 2 ^ 64 = mod_below ((2 ^ 64 - 1) * 2 ^ skipped) (2 ^ 64) (omega arith) in
      omega arith

  -- The first of the clear bits is the first bit that is clear.
  pub first_bit : 0 < clear_bits → let bit = trailing_zeros w64 clear_bits in
      (skipped ≤ bit) × (bit < 64) × (bit_at word bit ≡ 0) × ((k : ℕ) → skipped ≤ k → k < bit → bit_at word k ≡ 1)
  first_bit some =
      let lowest = bit_at-trailing_zeros w64 clear_bits some clear_bits-fits in
      let here = clear_bit (trailing_zeros w64 clear_bits) lowest.0 lowest.1 in
      (here.0, lowest.0, here.1, λ k from before. set_bit k from (omega (arith, lowest.0)) (lowest.2 k before))

  -- Where no bit is clear, each is set.
  pub no_bit : clear_bits ≡ 0 → (k : ℕ) → skipped ≤ k → k < 64 → bit_at word k ≡ 1
  no_bit none k from to = set_bit k from to (ap (λ n. bit_at n k) none ∙ bit_at-zero k)

-- The bits up to a word, and those of the word up to a bit.
pub are_set-more : (words : List ℕ) (from j end : ℕ) → AreSet words from (64 * j) → end ≤ 64 →
    ((k : ℕ) → from - j * 64 ≤ k → k < end → bit_at (get_or words j 0) k ≡ 1) → AreSet words from (64 * j + end)
are_set-more words from j end before short here i after below =
    elim (cases_lt i (64 * j)) [
      | inl earlier ↦ before i after earlier
      | inr later ↦
          let word : i / 64 ≡ j = omega arith in
          rw word (here (i % 64) (omega arith) (omega arith))
    ]
