-- Numbers in decimal digits.
use Rattle.std.proofs.Common.{◌≡◌, ℕ, ◌+◌, ◌*◌, ◌-◌, ◌<◌, ◌≤◌, Bool, true, false, List, length, get_or, take, refl, arith}
use Rattle.std.specs.List.{list_all}
use Rattle.std.specs.Char.{is_ascii_digit}
use Rattle.std.specs.Str.Parse.{digits_value}
use Rattle.std.proofs.lemmas.Bool.Decides.{nat_tests}
use Rattle.std.proofs.lemmas.List.Folds.{list_all_at}
use Rattle.std.proofs.lemmas.Str.Parse.{digits_value-take-le}
use Rattle.std.proofs.lemmas.Str.{digit_value_digit}
use Rattle.std.proofs.lemmas.Int.Digits.{digits_value_more}

-- each of the digits is one
pub digit_in_range : (ds : List ℕ) (i : ℕ) → list_all is_ascii_digit ds ≡ true → i < length ds → (48 ≤ get_or ds i 0) × (get_or ds i 0 ≤ 57)
digit_in_range ds i all lt = by (is_ascii_digit (get_or ds i 0)) refl where
  in_range : (c : ℕ) → is_ascii_digit c ≡ true → (48 ≤ c) × (c ≤ 57)
  in_range c h = (grind (arith, nat_tests), grind (arith, nat_tests))

  by : (b : Bool) → is_ascii_digit (get_or ds i 0) ≡ b → (48 ≤ get_or ds i 0) × (get_or ds i 0 ≤ 57)
  by true h = in_range (get_or ds i 0) h
  by false h = let none = list_all_at is_ascii_digit ds i 0 lt h in absurd (cc (none, all))

-- a digit more
pub value_more : (ds : List ℕ) (i v : ℕ) →
    list_all is_ascii_digit ds ≡ true →
    i < length ds →
    v ≡ digits_value 10 (take i ds) →
    v * 10 + (get_or ds i 0 - 48) ≡ digits_value 10 (take (i + 1) ds)
value_more ds i v all lt e =
    let r = digit_in_range ds i all lt in
    let d = digit_value_digit (get_or ds i 0) r in
    let m = digits_value_more 10 ds i lt in
    omega (arith, d, m, e)

-- no digits behind make a number smaller
pub value_large : (ds : List ℕ) (i n : ℕ) → n ≤ digits_value 10 (take i ds) → n ≤ digits_value 10 ds
value_large ds i n le = omega (arith, digits_value-take-le 10 ds i (omega arith), le)
