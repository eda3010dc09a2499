use Rattle.std.proofs.Common.{ℕ, ◌<◌, List, length, get_or, refl, arith}
use Rattle.std.specs.Int.{IsInRange}
use Rattle.std.specs.Str.Parse.{digits_value}
use Rattle.std.proofs.lemmas.Bool.Decides.{nat_tests}
use Rattle.std.proofs.lemmas.Str.Parse.{IsNumeralModel, numerals_by_value, tells_by_index, digit_at}
use Rattle.ftp_check_log.proofs.command.are_digits.Goals as goal

-- each byte is a digit
abbrev Digits : List ℕ → Type 0
Digits ds = (i : ℕ) → i < length ds → IsInRange 48 57 (get_or ds i 0)

own : IsNumeralModel Digits (digits_value 10)
own = numerals_by_value Digits tells_by_index

pub returns-then-not-is_ascii_digit : goal.returns-then-not-is_ascii_digit
returns-then-not-is_ascii_digit c = (
  λ t. absurd (cc),
  λ all.
      let digit = digit_at c.args.word.now c.loop-b.b-index all c.loop-b-test.true in
      absurd (grind (arith, nat_tests, digit, c.is_ascii_digit.ensures.value, c.if-not-is_ascii_digit.true)),
)

pub returns : goal.returns
returns c = (λ t. own.to c.args.word.now (λ i lt. c.loop-b.invariant i (omega (arith, lt, c.loop-b-test.false))), λ all. refl)
