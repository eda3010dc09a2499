-- Numbers in decimal digits, without leading zeros.
use Rattle.std.proofs.Common.{◌≡◌, ℕ, suc, ◌+◌, ◌*◌, ◌-◌, ◌^◌, ◌<◌, Bool, true, false, cond, ◌&&◌, ltb, List, [], ◌∷◌, length, get_or, take, Some, None, refl, sym, ap, ◌∙◌, arith, inl, inr}
use Rattle.std.specs.List.{prefix_len}
use Rattle.std.specs.Char.{is_ascii_digit, digit_value}
use Rattle.std.specs.Fmt.{decimal}
use Rattle.std.specs.Str.{bytes_eq}
use Rattle.std.specs.Str.Parse.{AllDigits, digits_value}
use Rattle.std.proofs.lemmas.Bool.{cases_lt, lt-ltb, ltb-true}
use Rattle.std.proofs.lemmas.Fmt.{decimal-digits_value, decimal_nonempty, first_decimal, decimal_digit}
use Rattle.std.proofs.lemmas.Slice.Eq.{bytes_eq-Decides}
use Rattle.std.proofs.lemmas.Str.Parse.{IsNumeralModel, numerals_by_value, tells_digits, digit_at}
use Rattle.std.proofs.lemmas.Str.{digit_value_digit}
use Rattle.std.proofs.lemmas.Int.Digits.{digits_value_more}
use Rattle.std.proofs.lemmas.Bool.Decides.{nat_tests}
pub use Rattle.ftp_proxy.proofs.Numbers.{value_large}
use Rattle.ftp_text.specs.Reading.{numeral}

pub own : IsNumeralModel (AllDigits 10) (digits_value 10)
own = numerals_by_value (AllDigits 10) tells_digits

both : (b c : Bool) (x : ℕ) → b ≡ true → c ≡ true → cond (b && c) (Some x) None ≡ Some x
both b c x p q = rw (p, q) refl

neither : (b c : Bool) (x : ℕ) → (b ≡ true → c ≡ true → ⊥) → cond (b && c) (Some x) None ≡ None
neither true true x h = absurd (h refl refl)
neither true false x h = refl
neither false c x h = refl

-- digits with no leading zero that spell a number of 64 bits
pub numeral_is : (ds : List ℕ) → AllDigits 10 ds → 0 < length ds → (get_or ds 0 0 ≡ 48 → length ds ≡ 1) → digits_value 10 ds < 2 ^ 64 → numeral ds ≡ Some (digits_value 10 ds)
numeral_is ds all some lead small =
    both (bytes_eq (decimal (digits_value 10 ds)) ds) (ltb (digits_value 10 ds) (2 ^ 64)) (digits_value 10 ds)
    ((bytes_eq-Decides _ _).1 (decimal-digits_value own ds all some lead small)) (lt-ltb _ _ small)

-- other bytes spell none
pub numeral_none : (ds : List ℕ) → (decimal (digits_value 10 ds) ≡ ds → digits_value 10 ds < 2 ^ 64 → ⊥) → numeral ds ≡ None
numeral_none ds h =
    neither (bytes_eq (decimal (digits_value 10 ds)) ds) (ltb (digits_value 10 ds) (2 ^ 64)) (digits_value 10 ds)
    (λ p q. h ((bytes_eq-Decides _ _).0 p) (ltb-true _ _ q))

pub numeral_empty : (ds : List ℕ) → length ds ≡ 0 → numeral ds ≡ None
numeral_empty ds none = numeral_none ds (λ e small. omega (arith, decimal_nonempty (digits_value 10 ds) small, ap length e))

pub numeral_leading : (ds : List ℕ) → get_or ds 0 0 ≡ 48 → 1 < length ds → numeral ds ≡ None
numeral_leading ds zero_first long =
    numeral_none ds (λ e small.
    elim (cases_lt 0 (digits_value 10 ds)) [
      | inl lt ↦ omega (arith, first_decimal (digits_value 10 ds) lt small, ap (λ (x : List ℕ). get_or x 0 0) e)
      | inr le ↦
          let z : digits_value 10 ds ≡ 0 = omega arith in
          let d : decimal (digits_value 10 ds) ≡ 48 ∷ [] = rw z (decimal_digit 0 (omega arith)) in
          omega (arith, ap length (sym d ∙ e))
    ])

digit_small : (c : ℕ) → is_ascii_digit c ≡ true → digit_value c < 10
digit_small c h = grind (arith, nat_tests)

front_step : (b : Bool) (c n : ℕ) (bytes : List ℕ) → (b ≡ true → digit_value c < 10) → AllDigits 10 (take n bytes) → AllDigits 10 (take (cond b (1 + n) 0) (c ∷ bytes))
front_step true c n bytes h all = let e : 1 + n ≡ suc n = omega arith in rw e (h refl, all)
front_step false c n bytes h all = tt

-- the digits at the front are digits
pub digits_front : (bytes : List ℕ) → AllDigits 10 (take (prefix_len is_ascii_digit bytes) bytes)
digits_front [] = tt
digits_front (c ∷ bytes) = front_step (is_ascii_digit c) c (prefix_len is_ascii_digit bytes) bytes (digit_small c) (digits_front bytes)

-- a digit more
pub value_more : (ds : List ℕ) (i v : ℕ) → AllDigits 10 ds → i < length ds → v ≡ digits_value 10 (take i ds) → v * 10 + (get_or ds i 0 - 48) ≡ digits_value 10 (take (i + 1) ds)
value_more ds i v all lt e =
    let r = digit_at ds i all lt in
    let d = digit_value_digit (get_or ds i 0) r in
    let m = digits_value_more 10 ds i lt in
    omega (arith, d, m, e)
