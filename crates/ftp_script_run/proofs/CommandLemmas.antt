-- The words of the commands, and the numbers among them.
use Rattle.std.proofs.Common.{◌≡◌, ◌⊎◌, inl, inr, ℕ, ◌==◌, Bool, true, false, cond, drop, ◌^◌, ◌<◌, ◌≤◌, List, [], ◌∷◌, length, get_or, Option, Some, None, sym, ap, subst, ◌∙◌, arith}
use Rattle.std.specs.Prelude.{◌↔◌, Result, Ok, Err, OnOk, OnErr, decimal}
use Rattle.std.specs.Str.{IsUtf8, bytes_eq}
use Rattle.std.proofs.lemmas.Slice.Eq.{bytes_eq-Decides}
use Rattle.std.specs.Str.Parse.{ParsesUnsigned, AllDigits, digits_value, without_leading_plus}
use Rattle.std.proofs.lemmas.Bool.{cases_lt}
use Rattle.std.proofs.lemmas.Fmt.{decimal_is_IsNumeral, decimal-digits_value, first_decimal, decimal_digit, IsAscii-decimal}
use Rattle.std.proofs.lemmas.Str.{IsUtf8-from_ascii}
use Rattle.std.proofs.lemmas.Bool.Decides.{nat_tests}
use Rattle.ftp_base.specs.Outside.{Writes}
use Rattle.ftp_base.specs.declared.fault.Failed.{Failed}
use Rattle.ftp_base.specs.declared.fault.Failed.TheVariants.{Fault, Memory}
use Rattle.ftp_control.specs.Writing.{WritesFront}
use Rattle.ftp_text.proofs.Numerals.{own}
use Rattle.ftp_script_run.specs.declared.command.Command.{Command}
use Rattle.ftp_script_run.specs.declared.status.Status.{Status}
use Rattle.ftp_script_run.specs.declared.status.Status.TheVariants as status
use Rattle.ftp_script_run.specs.CommandOutcome.{TellOutcome}
use Rattle.ftp_script_run.specs.Commands.{Asks}
use Rattle.ftp_script_run.specs.Statuses.{IsCutShort, ended_by}

-- ---- numbers

-- exactly the numbers that the word spells
abbrev pub IsNumberOf : List ℕ → Option ℕ → Type 0
IsNumberOf word found = (n : ℕ) → (found ≡ Some n) ↔ ((n < 2 ^ 64) × (word ≡ decimal n))

-- a word that is spelled so spells no other number
number-once : (m n : ℕ) → m < 2 ^ 64 → n < 2 ^ 64 → decimal m ≡ decimal n → m ≡ n
number-once m n low small same = sym (decimal_is_IsNumeral m low).1 ∙ ap (digits_value 10) same ∙ (decimal_is_IsNumeral n small).1

pub number-found : (word : List ℕ) (m : ℕ) → m < 2 ^ 64 → word ≡ decimal m → IsNumberOf word (Some m)
number-found word m low spelled n = (
  λ is. (let same : m ≡ n = cc in (subst (λ x. x < 2 ^ 64) same low, spelled ∙ ap decimal same)),
  λ spells. ap Some (number-once m n low spells.0 (sym spelled ∙ spells.1)),
)

pub number-none : (word : List ℕ) → ((n : ℕ) → n < 2 ^ 64 → word ≡ decimal n → ⊥) → IsNumberOf word None
number-none word never n = (λ is. absurd (cc), λ spells. absurd (never n spells.0 spells.1))

-- the first digit of a number
first-digit : (n : ℕ) → n < 2 ^ 64 → (decimal n ≡ 48 ∷ []) ⊎ (49 ≤ get_or (decimal n) 0 0)
first-digit n small = elim (cases_lt 0 n) [
  | inl some ↦ inr (omega (arith, first_decimal n some small))
  | inr none ↦ let zero : n ≡ 0 = omega arith in inl (ap decimal zero ∙ decimal_digit 0 (omega arith))
]

-- another word than a zero that begins with no digit from 1 on spells no number
pub number-no_digit : (word : List ℕ) → (word ≡ 48 ∷ [] → ⊥) → (1 ≤ length word → 49 ≤ get_or word 0 0 → ⊥) → IsNumberOf word None
number-no_digit word no_zero no_digit =
    number-none word (λ n small is.
    elim (first-digit n small) [
      | inl zero ↦ no_zero (is ∙ zero)
      | inr digit ↦
          let first : get_or word 0 0 ≡ get_or (decimal n) 0 0 = ap (λ (w : List ℕ). get_or w 0 0) is in
          let long : length word ≡ length (decimal n) = ap length is in
          no_digit (omega (arith, (decimal_is_IsNumeral n small).0.0)) (omega arith)
    ])

-- what a comparison with a text tells
pub compared : (word text : List ℕ) (r : Bool) → r ≡ bytes_eq word text → (r ≡ true → word ≡ text) × (r ≡ false → word ≡ text → ⊥)
compared word text r is = (λ yes. (bytes_eq-Decides word text).0 (sym is ∙ yes), λ no_match same. let yes : bytes_eq word text ≡ true = (bytes_eq-Decides word text).1 same in cc)

pub number-zero : (word : List ℕ) → word ≡ 48 ∷ [] → IsNumberOf word (Some 0)
number-zero word is = number-found word 0 (omega arith) (is ∙ sym (decimal_digit 0 (omega arith)))

pub number-no_text : (word : List ℕ) → (IsUtf8 word → ⊥) → IsNumberOf word None
number-no_text word never = number-none word (λ n small is. never (subst IsUtf8 (sym is) (IsUtf8-from_ascii (decimal n) (IsAscii-decimal n small))))

-- without a sign
unsigned : (word : List ℕ) → 49 ≤ get_or word 0 0 → without_leading_plus word ≡ word
unsigned [] from = absurd (omega arith)
unsigned (b ∷ word) from = ap (λ (plus : Bool). drop (cond plus 1 0) (b ∷ word)) no_plus where
  no_plus : (b == 43) ≡ false
  no_plus = grind (arith, nat_tests)

-- what is parsed of a word that begins with a digit from 1 on
pub number-parsed : {E : Type 0} (word text : List ℕ) (r : Result ℕ E) (m : ℕ) →
    text ≡ word →
    49 ≤ get_or word 0 0 →
    ParsesUnsigned 64 10 text r →
    r ≡ Ok m →
    IsNumberOf word (Some m)
number-parsed {E} word text r m same from parses is =
    let ok : Result ℕ E = Ok m in
    let at_word : ParsesUnsigned 64 10 word ok = subst (λ (x : Result ℕ E). ParsesUnsigned 64 10 word x) is (subst (λ (t : List ℕ). ParsesUnsigned 64 10 t r) same parses) in
    let plain = unsigned word from in
    let digits = subst (λ (w : List ℕ). AllDigits 10 w) plain at_word.0.0.1 in
    let some : 0 < length word = subst (λ (w : List ℕ). 0 < length w) plain at_word.0.0.0 in
    let small : digits_value 10 word < 2 ^ 64 = subst (λ (w : List ℕ). digits_value 10 w < 2 ^ 64) plain at_word.0.1 in
    let value : m ≡ digits_value 10 word = at_word.1 ∙ ap (digits_value 10) plain in
    number-found word m (omega (arith, small, value))
    (sym (ap decimal value ∙ decimal-digits_value own word digits some (λ zero. omega (arith, zero, from)) small))

pub number-unparsed : {E : Type 0} (word text : List ℕ) (r : Result ℕ E) (e : E) →
    text ≡ word →
    49 ≤ get_or word 0 0 →
    ParsesUnsigned 64 10 text r →
    r ≡ Err e →
    IsNumberOf word None
number-unparsed {E} word text r e same from parses is =
    let failed : Result ℕ E = Err e in
    let at_word : ParsesUnsigned 64 10 word failed = subst (λ (x : Result ℕ E). ParsesUnsigned 64 10 word x) is (subst (λ (t : List ℕ). ParsesUnsigned 64 10 t r) same parses) in
    number-none word (λ n small spelled.
    let numeral = decimal_is_IsNumeral n small in
    let plain = unsigned word from in
    at_word (
      subst (λ (w : List ℕ). (0 < length w) × AllDigits 10 w) (sym (plain ∙ spelled)) numeral.0,
      subst (λ (w : List ℕ). digits_value 10 w < 2 ^ 64) (sym (plain ∙ spelled)) (subst (λ x. x < 2 ^ 64) (sym numeral.1) small),
    ))

-- ---- commands

-- exactly the command that the words ask for
abbrev pub IsCommandOf : List (List ℕ) → Option Command → Type 0
IsCommandOf words found = (c : Command) → (found ≡ Some c) ↔ Asks words c

-- where none was found, the words ask for none
pub no_command : {X : Type 0} (words : List (List ℕ)) (found : Option Command) (c : Command) → IsCommandOf words found → found ≡ None → Asks words c → X
no_command words found c same none asks = let is : found ≡ Some c = (same c).1 asks in absurd (cc)

-- where one was found, they ask for no other, and what is so of its run is so of what they ask for
pub asked : (P : Command → Type 0) (words : List (List ℕ)) (found : Option Command) (c d : Command) → IsCommandOf words found → found ≡ Some c → P c → Asks words d → P d
asked P words found c d same is holds asks =
    let other : found ≡ Some d = (same d).1 asks in
    let one : c ≡ d = cc in
    subst P one holds

-- where a command was found, the status is no other
pub usage-asked : (words : List (List ℕ)) (found : Option Command) (c : Command) (s : Status) →
    IsCommandOf words found →
    found ≡ Some c →
    (s ≡ status.Usage → ⊥) →
    (s ≡ status.Usage) ↔ ((d : Command) → Asks words d → ⊥)
usage-asked words found c s same is never = (λ usage. absurd (never usage), λ none. absurd (none c ((same c).0 is)))

-- ---- what is told

-- a text was written, or a part of it
pub told-so : (text : List ℕ) (last : Result Unit Failed) (s : Status) (old new : Option (List ℕ)) →
    s ≡ ended_by last status.Done → OnOk last (Writes old new text) → OnErr last (WritesFront old new text) → TellOutcome text s old new
told-so text (Ok x) s old new ended wrote front = inl (ended, wrote)
told-so text (Err Fault) s old new ended wrote front = inr (inl ended, front)
told-so text (Err Memory) s old new ended wrote front = inr (inr ended, front)

not_short : (s : Status) → s ≡ status.Done → IsCutShort s → ⊥
not_short s done (inl e) = cc
not_short s done (inr e) = cc

-- all of it where the run is done
pub told-done : (text : List ℕ) (s : Status) (old new : Option (List ℕ)) → TellOutcome text s old new → s ≡ status.Done → Writes old new text
told-done text s old new (inl told) done = told.1
told-done text s old new (inr part) done = absurd (not_short s done part.0)

-- and else a part
pub told-cut : (text : List ℕ) (s : Status) (old new : Option (List ℕ)) → TellOutcome text s old new → IsCutShort s → WritesFront old new text
told-cut text s old new (inl told) short = absurd (not_short s told.0 short)
told-cut text s old new (inr part) short = part.1

-- how it ends
pub told-ends : (text : List ℕ) (s : Status) (old new : Option (List ℕ)) → TellOutcome text s old new → (s ≡ status.Done) ⊎ IsCutShort s
told-ends text s old new (inl told) = inl told.0
told-ends text s old new (inr part) = inr part.0

pub told-no_usage : (last : Result Unit Failed) (s : Status) → s ≡ ended_by last status.Done → s ≡ status.Usage → ⊥
told-no_usage (Ok x) s ended usage = cc
told-no_usage (Err Fault) s ended usage = cc
told-no_usage (Err Memory) s ended usage = cc

pub told-whole : (s : Status) → (s ≡ status.Done) ⊎ IsCutShort s → (s ≡ status.WriteFault → ⊥) → (s ≡ status.Done) ⊎ (s ≡ status.OutOfMemory)
told-whole s (inl done) no_fault = inl done
told-whole s (inr (inl e)) no_fault = absurd (no_fault e)
told-whole s (inr (inr e)) no_fault = inr e
