-- A trace id is read exactly.
use Rattle.std.proofs.Common.{◌≡◌, ℕ, zero, suc, ◌+◌, ◌*◌, ◌/◌, ◌%◌, ◌^◌, ◌<◌, ◌≤◌, true, false, ◌&&◌, ltb, List, [], ◌∷◌, length, get_or, take, drop, Some, refl, sym, ap, subst, ◌∙◌, arith, inl, inr}
use Rattle.std.specs.Char.{digit_value}
use Rattle.std.specs.Fmt.{digits, digit_glyph}
use Rattle.std.specs.Str.{bytes_eq}
use Rattle.std.specs.Str.Parse.{digits_value}
use Rattle.std.proofs.lemmas.Bool.{cases_lt, lt-ltb, ltb-true, and_parts}
use Rattle.std.proofs.lemmas.Bool.Decides.{nat_tests}
use Rattle.std.proofs.lemmas.Fmt.{hex_one_digit}
use Rattle.std.proofs.lemmas.Int.Digits.{digits_value_push, digits_value_more}
use Rattle.std.proofs.lemmas.Nat.{div-add-mod'}
use Rattle.std.proofs.lemmas.Option.{cond_some}
use Rattle.std.proofs.lemmas.Slice.Eq.{bytes_eq-Decides}
use Rattle.std.proofs.lemmas.Str.Parse.{digits_value-take-le}
use Rattle.ftp_base.specs.Trace.{trace_text}
use Rattle.ftp_text.specs.Reading.{word_as}
use Rattle.ftp_text.proofs.Exact.{Ends, IsExact, Pass, is_word_byte, word_exact}
use Rattle.ftp_text.proofs.Hex.{glyph_value}
use Rattle.ftp_text.proofs.Lists.{pass-append}
use Rattle.ftp_text.proofs.TraceLemmas.{digits-push}
use Rattle.ftp_text.specs.ActionReading.{trace_of}

-- the digits of a number have its value, and none of them ends a word
record IsSpelled (n : ℕ) : Type 0 where
  value : digits_value 16 (digits 16 false n) ≡ n
  word : Pass is_word_byte (digits 16 false n)

glyph-word : (d : ℕ) → d < 16 → is_word_byte (digit_glyph false d) ≡ true
glyph-word d lt = grind (arith, nat_tests)

spelled-one : (n : ℕ) → n < 16 → IsSpelled n
spelled-one n lt =
    let one = hex_one_digit false n lt in
    let push : digits_value 16 (digit_glyph false n ∷ []) ≡ 0 * 16 + digit_value (digit_glyph false n) = digits_value_push 16 [] (digit_glyph false n) in
    record {
      value = ap (digits_value 16) one ∙ omega (arith, push, glyph_value n lt);
      word = subst (Pass is_word_byte) (sym one) (glyph-word n lt, tt);
    }

spelled-more : (n : ℕ) → 16 ≤ n → n < 2 ^ 64 → IsSpelled (n / 16) → IsSpelled n
spelled-more n large lt front =
    let push = digits-push n large lt in
    record {
      value =
          ap (digits_value 16) push
          ∙ digits_value_push 16 (digits 16 false (n / 16)) (digit_glyph false (n % 16))
          ∙ rw (front.value, glyph_value (n % 16) (omega arith)) (div-add-mod' n 16);
      word =
          subst (Pass is_word_byte) (sym push)
          (pass-append is_word_byte (digits 16 false (n / 16)) (digit_glyph false (n % 16) ∷ []) front.word (glyph-word (n % 16) (omega arith), tt));
    }

spelled-by : (k n : ℕ) → n ≤ k → n < 2 ^ 64 → IsSpelled n
spelled-by zero n le lt = spelled-one n (omega arith)
spelled-by (suc k) n le lt =
    elim (cases_lt n 16) [
      | inl small ↦ spelled-one n small
      | inr large ↦ spelled-more n large lt (spelled-by k (n / 16) (omega arith) (omega arith))
    ]

trace_takes : (w : List ℕ) (n : ℕ) → trace_of w ≡ Some n → (trace_text n ≡ w) × (n < 2 ^ 64)
trace_takes w n e =
    let m = digits_value 16 (drop 2 w) in
    let p = cond_some (bytes_eq (trace_text m) w && ltb m (2 ^ 64)) m n e in
    let q = and_parts (bytes_eq (trace_text m) w) (ltb m (2 ^ 64)) p.0 in
    subst (λ (x : ℕ). (trace_text x ≡ w) × (x < 2 ^ 64)) p.1 ((bytes_eq-Decides _ _).0 q.0, ltb-true _ _ q.1)

trace_again : (n : ℕ) → n < 2 ^ 64 → trace_of (trace_text n) ≡ Some n
trace_again n lt =
    let v : digits_value 16 (digits 16 false n) ≡ n = (spelled-by n n (omega arith) lt).value in
    rw (v, (bytes_eq-Decides (trace_text n) (trace_text n)).1 refl, lt-ltb n (2 ^ 64) lt) refl

pub trace_is : IsExact (λ n. 32 ∷ trace_text n) (λ n. n < 2 ^ 64) Ends (word_as trace_of)
trace_is =
    word_exact trace_text (λ n. n < 2 ^ 64) trace_of (λ n lt. (refl, (refl, (spelled-by n n (omega arith) lt).word)))
    (λ w n pass e. trace_takes w n e) trace_again

-- ---- the value of the digits, from left to right

-- a digit more
pub value_more : (ds : List ℕ) (i v : ℕ) → i < length ds → v ≡ digits_value 16 (take i ds) → v * 16 + digit_value (get_or ds i 0) ≡ digits_value 16 (take (i + 1) ds)
value_more ds i v lt e = let m = digits_value_more 16 ds i lt in omega (arith, m, e)

-- no digits behind make a number smaller
pub value_large : (ds : List ℕ) (i n : ℕ) → n ≤ digits_value 16 (take i ds) → n ≤ digits_value 16 ds
value_large ds i n le = omega (arith, digits_value-take-le 16 ds i (omega arith), le)
