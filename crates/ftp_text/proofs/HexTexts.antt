-- Bytes in pairs of hexadecimal digits.
use Rattle.std.proofs.Common.{◌≡◌, ℕ, zero, suc, ◌+◌, ◌*◌, ◌/◌, ◌%◌, ◌<◌, ◌≤◌, Bool, true, false, cond, ◌&&◌, ltb, List, [], ◌∷◌, ◌++◌, length, slice_index, Option, Some, None, Ok, Err, refl, sym, ap, subst, ◌∙◌, arith}
use Rattle.std.specs.List.{AllPass, flat_map, list_any}
use Rattle.std.specs.Char.{digit_value, is_ascii_uppercase}
use Rattle.std.specs.Fmt.{digit_glyph}
use Rattle.std.specs.Str.{bytes_eq}
use Rattle.std.specs.Prelude.{codes}
use Rattle.std.proofs.lemmas.Bool.{ltb-true, lt-ltb, and_parts, or_parts}
use Rattle.std.proofs.lemmas.Bool.Decides.{nat_tests}
use Rattle.std.proofs.lemmas.Option.{cond_some}
use Rattle.std.proofs.lemmas.List.Elements.{All-head, All-tail}
use Rattle.std.proofs.lemmas.List.FromFn.{get_or-map-range_with_len}
use Rattle.std.proofs.lemmas.Slice.Eq.{bytes_eq-Decides}
use Rattle.hex.specs.Hex.{IsBytes, decode_of, encode_lower, encode_with, is_hex_digit, lower_digits}
use Rattle.hex.specs.declared.error.FromHexError.{FromHexError}
use Rattle.hex.proofs.HexLemmas.{decode_of-encode_lower, decode_of-ok, decode_of-same}
use Rattle.ftp_text.specs.declared.fault.LineFault.{LineFault}
use Rattle.ftp_text.specs.declared.fault.LineFault.TheVariants as fault
use Rattle.ftp_text.specs.Fields.{hex_byte, hex_text, IsText}
use Rattle.ftp_text.specs.Reading.{◌>>=◌, Fails, hex_pair, hex_from, hex_of, hex_field}
use Rattle.ftp_text.proofs.Hex.{glyph_value}
use Rattle.ftp_text.proofs.Exact.{Ends, IsExact, Pass, is_word_byte, bind_ok, some_is, word_exact}

-- two digits that spell a byte are its digits
pub pair_takes : (h l b : ℕ) → hex_pair h l ≡ Some b → (hex_byte b ≡ h ∷ l ∷ []) × (b < 256)
pair_takes h l b e =
    let n = 16 * digit_value h + digit_value l in
    let p = cond_some (ltb n 256 && bytes_eq (hex_byte n) (h ∷ l ∷ [])) n b e in
    let q = and_parts (ltb n 256) (bytes_eq (hex_byte n) (h ∷ l ∷ [])) p.0 in
    subst (λ (m : ℕ). (hex_byte m ≡ h ∷ l ∷ []) × (m < 256)) p.1 ((bytes_eq-Decides _ _).0 q.1, ltb-true _ _ q.0)

pair_is : (n b h l : ℕ) → n ≡ b → b < 256 → hex_byte b ≡ h ∷ l ∷ [] → cond (ltb n 256 && bytes_eq (hex_byte n) (h ∷ l ∷ [])) (Some n) None ≡ Some b
pair_is n b h l same lt e =
    subst (λ (m : ℕ). cond (ltb m 256 && bytes_eq (hex_byte m) (h ∷ l ∷ [])) (Some m) None ≡ Some b) (sym same)
    (rw (lt-ltb b 256 lt, (bytes_eq-Decides (hex_byte b) (h ∷ l ∷ [])).1 e) refl)

-- the digits of a byte spell it
pub pair_again : (b : ℕ) → b < 256 → hex_pair (digit_glyph false (b / 16)) (digit_glyph false (b % 16)) ≡ Some b
pair_again b lt =
    pair_is (16 * digit_value (digit_glyph false (b / 16)) + digit_value (digit_glyph false (b % 16))) b (digit_glyph false (b / 16)) (digit_glyph false (b % 16))
    (omega (arith, glyph_value (b / 16) (omega arith), glyph_value (b % 16) (omega arith))) lt refl

-- ---- the two laws of pairs

from_takes : (n : ℕ) (digits bytes : List ℕ) → length digits ≤ n → hex_from None digits ≡ Some bytes → (flat_map hex_byte bytes ≡ digits) × IsText bytes
unfolding hex_from
from_takes n [] bytes le e = subst (λ (x : List ℕ). (flat_map hex_byte x ≡ []) × IsText x) (some_is [] bytes e) (refl, tt)
from_takes n (h ∷ []) bytes le e = absurd cc
from_takes zero (h ∷ l ∷ digits) bytes le e = absurd (omega arith)
from_takes (suc n) (h ∷ l ∷ digits) bytes le e =
    let first = bind_ok (hex_pair h l) (λ b. hex_from None digits >>= λ others. Some (b ∷ others)) bytes e in
    let second = bind_ok (hex_from None digits) (λ others. Some (first.0 ∷ others)) bytes first.2 in
    let p = pair_takes h l first.0 first.1 in
    let t = from_takes n digits second.0 (omega (arith, le)) second.1 in
    subst (λ (x : List ℕ). (flat_map hex_byte x ≡ h ∷ l ∷ digits) × IsText x) (some_is (first.0 ∷ second.0) bytes second.2)
    (ap (λ (x : List ℕ). x ++ flat_map hex_byte second.0) p.0 ∙ ap (λ (x : List ℕ). h ∷ l ∷ x) t.0, (p.1, t.1))

from_again : (bytes : List ℕ) → IsText bytes → hex_from None (flat_map hex_byte bytes) ≡ Some bytes
unfolding hex_from
from_again [] fits = refl
from_again (b ∷ bytes) fits = rw (pair_again b fits.0, from_again bytes fits.1) refl

-- ---- the pairs of the crate hex

-- its digits are the glyphs
lower_digit : (d : ℕ) → d < 16 → slice_index lower_digits d ≡ digit_glyph false d
lower_digit d lt = get_or-map-range_with_len (digit_glyph false) 0 16 d d 0 lt (omega arith)

-- it writes a byte as two digits
pub encode_byte : (b : ℕ) → b < 256 → encode_lower (b ∷ []) ≡ hex_byte b
unfolding encode_with
encode_byte b lt = rw (lower_digit (b / 16) (omega arith), lower_digit (b % 16) (omega arith)) refl

-- it writes bytes in pairs
encode_text : (bytes : List ℕ) → IsText bytes → encode_lower bytes ≡ flat_map hex_byte bytes
unfolding encode_with
encode_text [] fits = refl
encode_text (b ∷ bytes) fits =
    rw (lower_digit (b / 16) (omega (arith, fits.0)), lower_digit (b % 16) (omega arith), encode_text bytes fits.1) refl

text_bytes : (bytes : List ℕ) → IsText bytes → IsBytes bytes
text_bytes [] fits i = omega arith
text_bytes (b ∷ bytes) fits zero = fits.0
text_bytes (b ∷ bytes) fits (suc i) = text_bytes bytes fits.1 i

-- what is spelled in pairs it reads as the same bytes
from_decodes : (digits bytes : List ℕ) → hex_from None digits ≡ Some bytes → decode_of digits ≡ Ok bytes
from_decodes digits bytes e =
    let t = from_takes (length digits) digits bytes (omega arith) e in
    ap decode_of (sym (encode_text bytes t.1 ∙ t.0)) ∙ decode_of-encode_lower bytes (text_bytes bytes t.1)

-- a digit of either case that is no upper-case letter is a glyph
glyph_of : (c : ℕ) → is_hex_digit c ≡ true → is_ascii_uppercase c ≡ false → (d : ℕ) × (d < 16) × (digit_glyph false d ≡ c)
glyph_of c digit lower = (digit_value c, grind (arith, nat_tests), grind (arith, nat_tests))

glyph_pair : (h l d e : ℕ) → d < 16 → e < 16 → digit_glyph false d ≡ h → digit_glyph false e ≡ l → hex_pair h l ≡ Some (16 * d + e)
glyph_pair h l d e high low p q =
    let b : (16 * d + e) / 16 ≡ d = omega arith in
    let m : (16 * d + e) % 16 ≡ e = omega arith in
    ap (λ (x : ℕ). hex_pair x l) (sym p ∙ ap (digit_glyph false) (sym b))
    ∙ ap (λ (x : ℕ). hex_pair (digit_glyph false ((16 * d + e) / 16)) x) (sym q ∙ ap (digit_glyph false) (sym m))
    ∙ pair_again (16 * d + e) (omega arith)

-- an even number of such digits spells bytes
lower_pairs : (n : ℕ) (digits : List ℕ) →
    length digits ≤ n →
    length digits % 2 ≡ 0 →
    AllPass is_hex_digit digits →
    list_any is_ascii_uppercase digits ≡ false →
    (bytes : List ℕ) × (hex_from None digits ≡ Some bytes)
unfolding hex_from
lower_pairs n [] le even all lower = ([], refl)
lower_pairs n (h ∷ []) le even all lower = absurd (omega arith)
lower_pairs zero (h ∷ l ∷ digits) le even all lower = absurd (omega arith)
lower_pairs (suc n) (h ∷ l ∷ digits) le even all lower =
    let is_digit : ℕ → Type 0 = λ c. is_hex_digit c ≡ true in
    let behind = All-tail is_digit h (l ∷ digits) all in
    let first = or_parts (is_ascii_uppercase h) (list_any is_ascii_uppercase (l ∷ digits)) lower in
    let second = or_parts (is_ascii_uppercase l) (list_any is_ascii_uppercase digits) first.1 in
    let d = glyph_of h (All-head is_digit h (l ∷ digits) all) first.0 in
    let e = glyph_of l (All-head is_digit l digits behind) second.0 in
    let rest = lower_pairs n digits (omega (arith, le)) (omega (arith, even)) (All-tail is_digit l digits behind) second.1 in
    ((16 * d.0 + e.0) ∷ rest.0, rw (glyph_pair h l d.0 e.0 d.1 e.1 d.2 e.2, rest.1) refl)

-- what it reads without upper-case letters is what the pairs spell
pub decoded : (digits bytes : List ℕ) →
    decode_of digits ≡ Ok bytes →
    list_any is_ascii_uppercase digits ≡ false →
    hex_from None digits ≡ Some bytes
decoded digits bytes ok lower =
    let d = decode_of-ok digits bytes ok in
    let r = lower_pairs (length digits) digits (omega arith) d.0 d.1 lower in
    r.1 ∙ ap Some (decode_of-same digits r.0 bytes (from_decodes digits r.0 r.1) ok)

none_or : (r : Option (List ℕ)) → ((bytes : List ℕ) → r ≡ Some bytes → ⊥) → r ≡ None
none_or None h = refl
none_or (Some bytes) h = absurd (h bytes refl)

-- what it refuses, no pairs spell
pub refused : (digits : List ℕ) (e : FromHexError) → decode_of digits ≡ Err e → hex_from None digits ≡ None
refused digits e err = none_or (hex_from None digits) (λ bytes some. cc (sym (from_decodes digits bytes some) ∙ err))

pub fails_none : (f : LineFault) (read : Option (List ℕ)) → read ≡ None → Fails f read
fails_none fault.Memory read none = tt
fails_none fault.Bad read none = none

glyph_lower : (d : ℕ) → d < 16 → is_ascii_uppercase (digit_glyph false d) ≡ false
glyph_lower d lt = grind (arith, nat_tests)

pairs_lower : (bytes : List ℕ) → IsText bytes → list_any is_ascii_uppercase (flat_map hex_byte bytes) ≡ false
pairs_lower [] fits = refl
pairs_lower (b ∷ bytes) fits =
    rw (glyph_lower (b / 16) (omega (arith, fits.0)), glyph_lower (b % 16) (omega arith)) (pairs_lower bytes fits.1)

-- no pairs have an upper-case letter
pub upper_refused : (digits : List ℕ) → list_any is_ascii_uppercase digits ≡ true → hex_from None digits ≡ None
upper_refused digits upper =
    none_or (hex_from None digits) (λ bytes some.
    let t = from_takes (length digits) digits bytes (omega arith) some in
    cc (sym upper ∙ ap (list_any is_ascii_uppercase) (sym t.0) ∙ pairs_lower bytes t.1))

-- ---- hexadecimal texts

text_is : (c : ℕ) (digits bytes : List ℕ) → flat_map hex_byte bytes ≡ c ∷ digits → hex_text bytes ≡ c ∷ digits
text_is c digits [] e = absurd cc
text_is c digits (b ∷ bytes) e = e

of_cases : (c : ℕ) (digits bytes : List ℕ) (d : Bool) →
    bytes_eq (c ∷ digits) (codes ".") ≡ d →
    cond d (Some []) (hex_from None (c ∷ digits)) ≡ Some bytes →
    (hex_text bytes ≡ c ∷ digits) × IsText bytes
of_cases c digits bytes true p e =
    subst (λ (x : List ℕ). (hex_text x ≡ c ∷ digits) × IsText x) (some_is [] bytes e) (sym ((bytes_eq-Decides _ _).0 p), tt)
of_cases c digits bytes false p e =
    let t = from_takes (length (c ∷ digits)) (c ∷ digits) bytes (omega arith) e in
    (text_is c digits bytes t.0, t.1)

pub hex_of_takes : (digits bytes : List ℕ) → hex_of digits ≡ Some bytes → (hex_text bytes ≡ digits) × IsText bytes
unfolding hex_of
hex_of_takes [] bytes e = absurd cc
hex_of_takes (c ∷ digits) bytes e = of_cases c digits bytes (bytes_eq (c ∷ digits) (codes ".")) refl e

no_dot : (a b : ℕ) (digits : List ℕ) (d : Bool) → bytes_eq (a ∷ b ∷ digits) (codes ".") ≡ d → d ≡ false
no_dot a b digits true e = let same : a ∷ b ∷ digits ≡ 46 ∷ [] = (bytes_eq-Decides _ _).0 e in absurd (omega (arith, ap length same))
no_dot a b digits false e = refl

pub hex_of_again : (bytes : List ℕ) → IsText bytes → hex_of (hex_text bytes) ≡ Some bytes
unfolding hex_of
hex_of_again [] fits = refl
hex_of_again (b ∷ bytes) fits =
    let digits = flat_map hex_byte (b ∷ bytes) in
    let n : bytes_eq digits (codes ".") ≡ false = no_dot (digit_glyph false (b / 16)) (digit_glyph false (b % 16)) (flat_map hex_byte bytes) (bytes_eq digits (codes ".")) refl in
    ap (λ d. cond d (Some []) (hex_from None digits)) n ∙ from_again (b ∷ bytes) fits

pub glyph_passes : (n : ℕ) → n < 16 → is_word_byte (digit_glyph false n) ≡ true
glyph_passes n lt = grind (arith, nat_tests)

pairs_pass : (bytes : List ℕ) → IsText bytes → Pass is_word_byte (flat_map hex_byte bytes)
pairs_pass [] fits = tt
pairs_pass (b ∷ bytes) fits = (glyph_passes (b / 16) (omega (arith, fits.0)), (glyph_passes (b % 16) (omega arith), pairs_pass bytes fits.1))

hex_passes : (bytes : List ℕ) → IsText bytes → Pass is_word_byte (hex_text bytes)
hex_passes [] fits = (refl, tt)
hex_passes (b ∷ bytes) fits = pairs_pass (b ∷ bytes) fits

pub hex_exact : IsExact (λ (bytes : List ℕ). 32 ∷ hex_text bytes) IsText Ends hex_field
unfolding hex_field
hex_exact = word_exact hex_text IsText hex_of hex_passes (λ w bytes pass e. hex_of_takes w bytes e) hex_of_again
