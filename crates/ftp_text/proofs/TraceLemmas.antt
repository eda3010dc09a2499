-- The hexadecimal digits of a number, from the first to the last.
use Rattle.std.proofs.Common.{◌≡◌, ℕ, zero, suc, ◌*◌, ◌/◌, ◌%◌, ◌^◌, ◌<◌, ◌≤◌, Bool, true, false, cond, eqb, List, [], ◌∷◌, ◌++◌, refl, sym, ap, ◌∙◌, append_assoc, arith}
use Rattle.std.specs.Fmt.{digits, digits_onto, digit_glyph}
use Rattle.std.proofs.lemmas.Bool.Decides.{nat_tests}
use Rattle.std.proofs.lemmas.Fmt.{hex_one_digit}
use Rattle.std.proofs.Math.Nat.{pow-suc}

-- the digits are put before none
digits_onto-nil : (n : ℕ) → digits_onto 64 16 false n [] ≡ digits 16 false n
unfolding digits
digits_onto-nil n = refl

-- the last digit is put before the others, which follow
digits_onto-step : (i j n : ℕ) (acc : List ℕ) → i ≡ suc j → 16 ≤ n → digits_onto i 16 false n acc ≡ digits_onto j 16 false (n / 16) (digit_glyph false (n % 16) ∷ acc)
digits_onto-step i j n acc e large =
    let q : eqb (n / 16) 0 ≡ false = grind (arith, nat_tests) in
    ap (λ (k : ℕ). digits_onto k 16 false n acc) e ∙ rw q refl

-- digits before others
digits_onto-append : (k n : ℕ) (acc : List ℕ) (more : List ℕ) → digits_onto k 16 false n (acc ++ more) ≡ digits_onto k 16 false n acc ++ more
digits_onto-append zero n acc more = refl
digits_onto-append (suc k) n acc more =
    elim (eqb (n / 16) 0) as (λ b. cond b (digit_glyph false (n % 16) ∷ (acc ++ more)) (digits_onto k 16 false (n / 16) (digit_glyph false (n % 16) ∷ (acc ++ more))) ≡ cond b (digit_glyph false (n % 16) ∷ acc) (digits_onto k 16 false (n / 16) (digit_glyph false (n % 16) ∷ acc)) ++ more) [
      | true ↦ refl
      | false ↦ digits_onto-append k (n / 16) (digit_glyph false (n % 16) ∷ acc) more
    ]

fuel_cases : (k n : ℕ) (acc : List ℕ) (b : Bool) →
    eqb (n / 16) 0 ≡ b →
    (b ≡ false → digits_onto (suc k) 16 false (n / 16) acc ≡ digits_onto k 16 false (n / 16) acc) →
    cond b acc (digits_onto (suc k) 16 false (n / 16) acc) ≡ cond b acc (digits_onto k 16 false (n / 16) acc)
fuel_cases k n acc true e h = refl
fuel_cases k n acc false e h = h refl

-- one digit more may be left over
digits_onto-suc : (k n : ℕ) (acc : List ℕ) → 0 < k → n < 16 ^ k → digits_onto (suc k) 16 false n acc ≡ digits_onto k 16 false n acc
digits_onto-suc zero n acc some lt = absurd (omega arith)
digits_onto-suc (suc k) n acc some lt =
    let p : 16 ^ suc k ≡ 16 ^ k * 16 = pow-suc 16 k in
    let small : n / 16 < 16 ^ k = omega (arith, p, lt) in
    fuel_cases k n (digit_glyph false (n % 16) ∷ acc) (eqb (n / 16) 0) refl
    (λ e. digits_onto-suc k (n / 16) (digit_glyph false (n % 16) ∷ acc) (some_left k (n / 16) small e) small) where
      some_left : (k m : ℕ) → m < 16 ^ k → eqb m 0 ≡ false → 0 < k
      some_left zero m lt e = let z : m ≡ 0 = omega arith in absurd (cc (ap (λ (x : ℕ). eqb x 0) z, e))
      some_left (suc k) m lt e = omega arith

-- the digits of a number and its last digit
pub digits-push : (n : ℕ) → 16 ≤ n → n < 2 ^ 64 → digits 16 false n ≡ digits 16 false (n / 16) ++ digit_glyph false (n % 16) ∷ []
digits-push n large lt =
    let g = digit_glyph false (n % 16) ∷ [] in
    sym (digits_onto-nil n)
    ∙ digits_onto-step 64 63 n [] (omega arith) large
    ∙ digits_onto-append 63 (n / 16) [] g
    ∙ ap (λ (x : List ℕ). x ++ g) (sym (digits_onto-suc 63 (n / 16) [] (omega arith) (omega arith)) ∙ digits_onto-nil (n / 16))

-- one digit, written
pub digits_one : (out all : List ℕ) (n g : ℕ) → n < 16 → g ≡ digit_glyph false n → all ≡ out ++ g ∷ [] → all ≡ out ++ digits 16 false n
digits_one out all n g small glyph e = e ∙ ap (λ (x : ℕ). out ++ x ∷ []) glyph ∙ ap (λ (x : List ℕ). out ++ x) (sym (hex_one_digit false n small))

-- the last digit, written behind the others
pub digits_more : (out most all : List ℕ) (n g : ℕ) →
    16 ≤ n →
    n < 2 ^ 64 →
    most ≡ out ++ digits 16 false (n / 16) →
    g ≡ digit_glyph false (n % 16) →
    all ≡ most ++ g ∷ [] →
    all ≡ out ++ digits 16 false n
digits_more out most all n g large lt m glyph e =
    e ∙ ap (λ (x : List ℕ). x ++ g ∷ []) m ∙ append_assoc out (digits 16 false (n / 16)) (g ∷ [])
    ∙ ap (λ (x : ℕ). out ++ (digits 16 false (n / 16) ++ x ∷ [])) glyph
    ∙ ap (λ (x : List ℕ). out ++ x) (sym (digits-push n large lt))
