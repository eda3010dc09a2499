-- Hexadecimal digits.
use Rattle.std.proofs.Common.{◌≡◌, ℕ, zero, suc, ◌+◌, ◌*◌, ◌-◌, ◌/◌, ◌%◌, ◌^◌, ◌<◌, ◌≤◌, Bool, true, false, cond, ◌&&◌, ltb, List, [], ◌∷◌, ◌++◌, length, get_or, take, Some, None, refl, sym, ap, ◌∙◌, arith, inl, inr, append_assoc, ◌≢◌}
use Rattle.std.specs.Char.{digit_value}
use Rattle.std.specs.Fmt.{digit_glyph}
use Rattle.std.specs.Str.{bytes_eq}
use Rattle.std.specs.Str.Parse.{digits_value}
use Rattle.std.proofs.lemmas.Bool.{cases_lt, lt-ltb}
use Rattle.std.proofs.lemmas.Bool.Decides.{nat_tests}
use Rattle.std.proofs.lemmas.List.{length-append, get_or_append_left, get_or_at, take_more, take_all, append-nil}
use Rattle.std.proofs.lemmas.Nat.{div-mul-add, div-add-mod'}
use Rattle.std.proofs.lemmas.Int.Digits.{digits_value_push}
use Rattle.std.proofs.lemmas.Slice.Eq.{bytes_eq-Decides}
use Rattle.std.proofs.Math.Nat.{pow-suc, pow-le-pow_right}
use Rattle.ftp_text.specs.Fields.{hex_digits}
use Rattle.ftp_text.specs.Reading.{hex_numeral}

pub glyph_value : (d : ℕ) → d < 16 → digit_value (digit_glyph false d) ≡ d
glyph_value d lt = grind (arith, nat_tests)

mod_mul_add : (v d : ℕ) → d < 16 → (v * 16 + d) % 16 ≡ d
mod_mul_add v d lt = omega arith

-- a digit more
pub hex_more : (i v d c : ℕ) (digits : List ℕ) → i < length digits → d < 16 → digit_glyph false d ≡ c → get_or digits i 0 ≡ c → hex_digits i v ≡ take i digits → hex_digits (i + 1) (v * 16 + d) ≡ take (i + 1) digits
unfolding hex_digits
hex_more i v d c digits lt small glyph at so_far =
    let s : i + 1 ≡ suc i = omega arith in
    let one : hex_digits (suc i) (v * 16 + d) ≡ hex_digits i v ++ digit_glyph false d ∷ [] = rw (div-mul-add v 16 d small, mod_mul_add v d small) refl in
    let two : take (i + 1) digits ≡ take i digits ++ c ∷ [] = take_more digits i 0 lt ∙ ap (λ (x : ℕ). take i digits ++ x ∷ []) at in
    ap (λ (n : ℕ). hex_digits n (v * 16 + d)) s ∙ one ∙ ap (λ (x : List ℕ). x ++ digit_glyph false d ∷ []) so_far ∙ ap (λ (x : ℕ). take i digits ++ x ∷ []) glyph ∙ sym two

pub room_more : (i v d : ℕ) → i < 32 → v < 16 ^ i → d < 16 → (v * 16 + d < 16 ^ (i + 1)) × (v * 16 + d < 2 ^ 128)
room_more i v d lt small below =
    let s : i + 1 ≡ suc i = omega arith in
    let p : 16 ^ (i + 1) ≡ 16 ^ i * 16 = ap (λ (n : ℕ). 16 ^ n) s ∙ pow-suc 16 i in
    let q : 16 ^ (i + 1) ≤ 16 ^ 32 = pow-le-pow_right {n = 16} (omega arith) {i = i + 1} {j = 32} (omega arith) in
    (omega (arith, p), omega (arith, p, q))

pub length-hex_digits : (k n : ℕ) → length (hex_digits k n) ≡ k
unfolding hex_digits
length-hex_digits zero n = refl
length-hex_digits (suc k) n = omega (arith, length-append (hex_digits k (n / 16)) (digit_glyph false (n % 16) ∷ []), length-hex_digits k (n / 16))

-- the value of the digits
pub value-hex_digits : (k n : ℕ) → n < 16 ^ k → digits_value 16 (hex_digits k n) ≡ n
unfolding hex_digits
value-hex_digits zero n lt = omega arith
value-hex_digits (suc k) n lt =
    let p : 16 ^ suc k ≡ 16 ^ k * 16 = pow-suc 16 k in
    let small : n / 16 < 16 ^ k = omega (arith, p) in
    digits_value_push 16 (hex_digits k (n / 16)) (digit_glyph false (n % 16))
    ∙ rw (value-hex_digits k (n / 16) small, glyph_value (n % 16) (omega arith)) (div-add-mod' n 16)

-- each digit is a glyph
pub hex_digit_at : (k n i : ℕ) → i < k → (d : ℕ) × (d < 16) × (digit_glyph false d ≡ get_or (hex_digits k n) i 0)
unfolding hex_digits
hex_digit_at zero n i lt = absurd (omega arith)
hex_digit_at (suc k) n i lt =
    elim (cases_lt i k) [
      | inl less ↦
          let h = hex_digit_at k (n / 16) i less in
          let l : i < length (hex_digits k (n / 16)) = omega (arith, length-hex_digits k (n / 16)) in
          (h.0, h.1, h.2 ∙ sym (get_or_append_left (hex_digits k (n / 16)) (digit_glyph false (n % 16) ∷ []) 0 i l))
      | inr le ↦
          let l : length (hex_digits k (n / 16)) ≡ i = omega (arith, length-hex_digits k (n / 16)) in
          (n % 16, omega arith, sym (get_or_at (hex_digits k (n / 16)) (digit_glyph false (n % 16)) [] 0 i l))
    ]

both : (b c : Bool) (x : ℕ) → b ≡ true → c ≡ true → cond (b && c) (Some x) None ≡ Some x
both b c x p q = rw (p, q) refl

neither : (b c : Bool) (x : ℕ) → (b ≡ true → ⊥) → cond (b && c) (Some x) None ≡ None
neither true c x h = absurd (h refl)
neither false c x h = refl

-- 32 digits
pub hex_done : (v : ℕ) (digits : List ℕ) → v < 2 ^ 128 → hex_digits 32 v ≡ digits → hex_numeral digits ≡ Some v
hex_done v digits lt e =
    let n : digits_value 16 digits ≡ v = ap (digits_value 16) (sym e) ∙ value-hex_digits 32 v (omega arith) in
    both (bytes_eq (hex_digits 32 (digits_value 16 digits)) digits) (ltb (digits_value 16 digits) (2 ^ 128)) (digits_value 16 digits)
    ((bytes_eq-Decides _ _).1 (ap (hex_digits 32) n ∙ e)) (lt-ltb _ _ (omega (arith, n))) ∙ ap Some n

pub hex_bad : (digits : List ℕ) (i c : ℕ) → i < 32 → get_or digits i 0 ≡ c → ((n : ℕ) → n < 16 → digit_glyph false n ≡ c → ⊥) → hex_numeral digits ≡ None
hex_bad digits i c lt at never =
    neither (bytes_eq (hex_digits 32 (digits_value 16 digits)) digits) (ltb (digits_value 16 digits) (2 ^ 128)) (digits_value 16 digits)
    (λ e.
    let same = (bytes_eq-Decides (hex_digits 32 (digits_value 16 digits)) digits).0 e in
    let h = hex_digit_at 32 (digits_value 16 digits) i lt in
    never h.0 h.1 (h.2 ∙ ap (λ (x : List ℕ). get_or x i 0) same ∙ at))

pub hex_short : (bytes : List ℕ) → length bytes < 32 → hex_numeral (take 32 bytes) ≡ None
hex_short bytes lt =
    let w : take 32 bytes ≡ bytes = take_all 32 bytes (omega arith) in
    rw w (neither (bytes_eq (hex_digits 32 (digits_value 16 bytes)) bytes) (ltb (digits_value 16 bytes) (2 ^ 128)) (digits_value 16 bytes)
    (λ e. omega (arith, ap length ((bytes_eq-Decides (hex_digits 32 (digits_value 16 bytes)) bytes).0 e), length-hex_digits 32 (digits_value 16 bytes))))

pub hex_none : (out : List ℕ) (k n : ℕ) → k ≡ 0 → out ≡ out ++ hex_digits k n
unfolding hex_digits
hex_none out k n e = rw e (sym (append-nil out))

pub hex_more_onto : (out most all : List ℕ) (k n g : ℕ) → k ≢ 0 → most ≡ out ++ hex_digits (k - 1) (n / 16) → g ≡ digit_glyph false (n % 16) → all ≡ most ++ g ∷ [] → all ≡ out ++ hex_digits k n
unfolding hex_digits
hex_more_onto out most all k n g some m glyph e =
    let s : k ≡ suc (k - 1) = omega arith in
    let d : hex_digits k n ≡ hex_digits (k - 1) (n / 16) ++ digit_glyph false (n % 16) ∷ [] = ap (λ (j : ℕ). hex_digits j n) s in
    e ∙ ap (λ (x : List ℕ). x ++ g ∷ []) m ∙ append_assoc out (hex_digits (k - 1) (n / 16)) (g ∷ []) ∙ ap (λ (x : ℕ). out ++ (hex_digits (k - 1) (n / 16) ++ x ∷ [])) glyph ∙ ap (λ (x : List ℕ). out ++ x) (sym d)
