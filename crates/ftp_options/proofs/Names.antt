-- How names stand beside each other, and their cases.
use Rattle.std.proofs.Common.{◌≡◌, ◌+◌, ◌<◌, ℕ, List, [], ◌∷◌, map, length, refl, sym, ap, ◌∙◌, arith, inl, inr}
use Rattle.std.proofs.lemmas.Bool.{cases_lt}
use Rattle.std.proofs.lemmas.Str.Ascii.{lowercase-uppercase, lowercase_is, uppercase_is}
use Rattle.std.specs.Char.{to_ascii_uppercase, to_ascii_lowercase}
use Rattle.std.specs.Ordering.{nat_cmp}
use Rattle.std.specs.Cmp.{nat_cmp_is}
use Rattle.std.specs.Cmp.Lexicographic.{slice_cmp}
use Rattle.std.specs.declared.cmp.Ordering.TheVariants.{Less, Greater}
use Rattle.ftp_options.specs.Site.{upper}

-- where one of the names ends, the longer one stands behind the other
pub ends-left : (a b : List ℕ) → length a < 1 → nat_cmp (length a) (length b) ≡ slice_cmp nat_cmp a (upper b)
ends-left [] [] lt = refl
ends-left [] (y ∷ b) lt = sym (nat_cmp_is 0 (length (y ∷ b)) Less (omega arith))
ends-left (x ∷ a) b lt = absurd (omega arith)

pub ends-right : (a b : List ℕ) → length b < 1 → nat_cmp (length a) (length b) ≡ slice_cmp nat_cmp a (upper b)
ends-right [] [] lt = refl
ends-right (x ∷ a) [] lt = sym (nat_cmp_is (length (x ∷ a)) 0 Greater (omega arith))
ends-right a (y ∷ b) lt = absurd (omega arith)

-- ---- cases

uppercase-lowercase : (c : ℕ) → to_ascii_uppercase (to_ascii_lowercase c) ≡ to_ascii_uppercase c
uppercase-lowercase c =
    let l = lowercase_is c in
    elim (cases_lt c 65) [
      | inl low ↦ ap to_ascii_uppercase (l.1 low)
      | inr ge ↦ elim (cases_lt c 91) [
        | inl letter ↦ (
            let small : to_ascii_lowercase c ≡ c + 32 = l.0 (ge, omega arith) in
            let back = (uppercase_is (to_ascii_lowercase c)).0 (omega arith, omega arith) in
            let large = (uppercase_is c).1 (omega arith) in
            omega arith)
        | inr high ↦ ap to_ascii_uppercase (l.2 high)
      ]
    ]

-- a name in the other case first is the same in this one
pub upper-lower : (name : List ℕ) → upper (map to_ascii_lowercase name) ≡ upper name
upper-lower [] = refl
upper-lower (b ∷ name) = rw (uppercase-lowercase b, upper-lower name) refl

pub lower-upper : (name : List ℕ) → map to_ascii_lowercase (upper name) ≡ map to_ascii_lowercase name
lower-upper [] = refl
lower-upper (b ∷ name) = rw (lowercase-uppercase b, lower-upper name) refl

-- names are one in lower case where they are one in upper case
pub one-name : (a b : List ℕ) → (map to_ascii_lowercase a ≡ map to_ascii_lowercase b → upper a ≡ upper b) × (upper a ≡ upper b → map to_ascii_lowercase a ≡ map to_ascii_lowercase b)
one-name a b = (
  (λ same. sym (upper-lower a) ∙ ap upper same ∙ upper-lower b),
  λ same. sym (lower-upper a) ∙ ap (map to_ascii_lowercase) same ∙ lower-upper b,
)
