-- Numbers in decimal digits, as std reads them.
use Rattle.std.proofs.Common.{◌≡◌, ℕ, ◌^◌, ◌<◌, ◌≤◌, Bool, true, false, ◌&&◌, ◌||◌, not, List, [], ◌∷◌, length, get_or, Err, Some, None, refl, inl, inr, arith}
use Rattle.std.specs.Prelude.{◌==◌, nat_lt, if◌then◌else◌}
use Rattle.std.specs.List.{list_all}
use Rattle.std.specs.Char.{is_ascii_digit, digit_value}
use Rattle.std.specs.Str.{IsUtf8}
use Rattle.std.specs.Str.Parse.{AllDigits, ParsesUnsigned, digits_value}
use Rattle.std.proofs.lemmas.Bool.{cases_lt, le-ltb}
use Rattle.std.proofs.lemmas.Bool.Decides.{nat_tests}
use Rattle.std.proofs.lemmas.Fmt.{IsAscii-from_digits}
use Rattle.std.proofs.lemmas.Str.{IsUtf8-from_ascii}
use Rattle.std.proofs.lemmas.Str.Parse.{IsNumeralModel, numerals_by_value, tells_digits, parse_digits}
use Rattle.ftp_base.specs.Decimal.{decimal_below}

pub own : IsNumeralModel (AllDigits 10) (digits_value 10)
own = numerals_by_value (AllDigits 10) tells_digits

digit_small : (c : ℕ) → is_ascii_digit c ≡ true → digit_value c < 10
digit_small c h = grind (arith, nat_tests)

-- bytes that are all digits
all_digits : (bytes : List ℕ) → list_all is_ascii_digit bytes ≡ true → AllDigits 10 bytes
all_digits [] h = tt
all_digits (b ∷ bytes) h =
    let p = both (is_ascii_digit b) (list_all is_ascii_digit bytes) h in (digit_small b p.0, all_digits bytes p.1) where
      both : (b c : Bool) → (b && c) ≡ true → (b ≡ true) × (c ≡ true)
      both true c h = (refl, h)
      both false c h = (h, cc)

-- digits are text
pub digits-text : (bytes : List ℕ) → list_all is_ascii_digit bytes ≡ true → IsUtf8 bytes
digits-text bytes h = IsUtf8-from_ascii bytes (IsAscii-from_digits bytes (all_digits bytes h))

-- where std parses no number of digits, they spell none of 64 bits
pub none-fits : {E : Type 0} (bytes : List ℕ) (e : E) →
    list_all is_ascii_digit bytes ≡ true →
    0 < length bytes →
    ParsesUnsigned 64 10 bytes (Err e) →
    None ≡ (if nat_lt (digits_value 10 bytes) (2 ^ 64) then Some (digits_value 10 bytes) else None)
none-fits bytes e h some parses =
    let large = parse_digits own 64 bytes (Err e) parses (all_digits bytes h) in
    rw (le-ltb (digits_value 10 bytes) (2 ^ 64) (not_less _ _ (λ small. large (some, small)))) refl where
      not_less : (a b : ℕ) → (a < b → ⊥) → b ≤ a
      not_less a b never = elim (cases_lt a b) [
        | inl less ↦ absurd (never less)
        | inr le ↦ le
      ]

-- a number is written in digits
pub decimal_below-digits : (bytes : List ℕ) (limit n : ℕ) → decimal_below limit bytes ≡ Some n → list_all is_ascii_digit bytes ≡ true
decimal_below-digits bytes limit n e = by (length bytes == 0) (list_all is_ascii_digit bytes) e where
  by : (empty digits : Bool) →
      (if (not empty && digits && (not (get_or bytes 0 0 == 48) || length bytes == 1)) && nat_lt (digits_value 10 bytes) limit then Some (digits_value 10 bytes) else None) ≡ Some n →
      digits ≡ true
  by empty true found = refl
  by true false found = absurd (cc found)
  by false false found = absurd (cc found)
