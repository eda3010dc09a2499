-- Numbers in so many digits.
use Rattle.std.proofs.Common.{◌≡◌, ◌∙◌, ap, sym, refl, ℕ, zero, suc, ◌+◌, ◌-◌, ◌/◌, ◌%◌, ◌^◌, ◌<◌, ◌≤◌, List, [], ◌∷◌, ◌++◌, append_assoc, length, replicate, decimal, inl, inr, arith}
use Rattle.std.proofs.lemmas.Bool.{cases_lt}
use Rattle.std.proofs.lemmas.List.{length-append, replicate_more}
use Rattle.std.proofs.lemmas.Fmt.{decimal_digit, decimal_step}
use Rattle.ftp_places.specs.Moment.{in_digits}

-- a number in one digit
in_digits-low : (k n : ℕ) → n < 10 → in_digits (k + 1) n ≡ replicate k 48 ++ ((48 + n) ∷ [])
in_digits-low k n low = let less : k + 1 - 1 ≡ k = omega arith in rw (decimal_digit n low, less) refl

-- a number in one digit more: the last comes behind those of the tenth part
pub in_digits-more : (k n : ℕ) → n < 2 ^ 64 → in_digits (k + 1 + 1) n ≡ in_digits (k + 1) (n / 10) ++ ((48 + n % 10) ∷ [])
in_digits-more k n fits = elim (cases_lt n 10) [
  | inl low ↦
      let tenth : n / 10 ≡ 0 = omega arith in
      let last : n % 10 ≡ n = omega arith in
      rw (in_digits-low (k + 1) n low, tenth, in_digits-low k 0 (omega arith), last) (ap (λ (zeros : List ℕ). zeros ++ ((48 + n) ∷ [])) (sym (replicate_more k 48)))
  | inr high ↦
      let digits = decimal_step n high fits in
      let zeros : k + 1 + 1 - length (decimal (n / 10) ++ ((48 + n % 10) ∷ [])) ≡ k + 1 - length (decimal (n / 10)) =
      omega (arith, length-append (decimal (n / 10)) ((48 + n % 10) ∷ []))
      in
      rw (digits, zeros) (sym (append_assoc _ (decimal (n / 10)) ((48 + n % 10) ∷ [])))
]

-- a number in one digit
pub in_digits-1 : (n : ℕ) → n < 10 → in_digits 1 n ≡ (48 + n) ∷ []
in_digits-1 n low = rw (decimal_digit n low) refl

-- a number in two digits
pub in_digits-2 : (n : ℕ) → n < 100 → in_digits 2 n ≡ (48 + n / 10 % 10) ∷ (48 + n / 1 % 10) ∷ []
in_digits-2 n low =
    let tens : n / 10 % 10 ≡ n / 10 = omega arith in
    let ones : n / 1 ≡ n = omega arith in
    rw (in_digits-more 0 n (omega arith), in_digits-1 (n / 10) (omega arith), tens, ones) refl

-- a number in four digits
pub in_digits-4 : (n : ℕ) → n < 10000 →
    in_digits 4 n ≡ (48 + n / 1000 % 10) ∷ (48 + n / 100 % 10) ∷ (48 + n / 10 % 10) ∷ (48 + n / 1 % 10) ∷ []
in_digits-4 n low =
    let hundreds : n / 10 / 10 ≡ n / 100 = omega arith in
    let thousands : n / 10 / 10 / 10 ≡ n / 1000 = omega arith in
    let first : n / 1000 % 10 ≡ n / 1000 = omega arith in
    let ones : n / 1 ≡ n = omega arith in
    in_digits-more 2 n (omega arith)
    ∙ rw (in_digits-more 1 (n / 10) (omega arith), in_digits-more 0 (n / 10 / 10) (omega arith), in_digits-1 (n / 10 / 10 / 10) (omega arith), thousands, hundreds, first, ones) refl
