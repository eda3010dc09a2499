-- Numbers that are some of others, in their order.
use Rattle.std.proofs.Common.{◌≡◌, ℕ, ◌<◌, ◌⊎◌, inl, inr, Bool, true, false, cond, eqb, List, [], ◌∷◌, map, Option, Some, refl, sym, ap, ◌∙◌, arith}
use Rattle.std.specs.Prelude.{is_some}
use Rattle.std.specs.List.{AllByRecursion}
use Rattle.std.proofs.lemmas.Bool.{eqb-true}
use Rattle.std.proofs.lemmas.Bool.Decides.{nat_tests}
use Rattle.ftp_laws.specs.Census.{IsAscending}
use Rattle.ftp_hub.specs.State.{line_of}

module _ {A B : Type 0} (f : A → ℕ) (g : B → ℕ) where
  -- the second numbers are some of the first, in their order
  abbrev pub Within : List A → List B → Type 0
  Within [] ys = ys ≡ []
  Within (x ∷ xs) [] = Unit {0}
  Within (x ∷ xs) (y ∷ ys) = ((eqb (g y) (f x) ≡ true) × Within xs ys) ⊎ ((eqb (g y) (f x) ≡ false) × Within xs (y ∷ ys))

above-either : {B : Type 0} (n t k : ℕ) (b : Bool) (y : B) (more : Option B) → eqb k t ≡ b → n < k → (is_some more ≡ true → n < t) → is_some (cond b (Some y) more) ≡ true → n < t
above-either n t k true y more e above behind h = omega (arith, above, eqb-true k t e)
above-either n t k false y more e above behind h = behind h

-- a line of the number is one above n
pub line-above : {B : Type 0} (g : B → ℕ) (n : ℕ) (ys : List B) (t : ℕ) → AllByRecursion (λ (m : ℕ). n < m) (map g ys) → is_some (line_of g ys t) ≡ true → n < t
line-above g n [] t above some = absurd cc
line-above g n (y ∷ ys) t above some = above-either n t (g y) (eqb (g y) t) y (line_of g ys t) refl above.0 (λ h. line-above g n ys t above.1 h) some

pub eqb-same : (a : ℕ) → eqb a a ≡ true
eqb-same a = grind (arith, nat_tests)

pub eqb-less : (a b : ℕ) → a < b → eqb a b ≡ false
eqb-less a b lt = grind (arith, nat_tests)

-- a line of another number is one of those behind it
line-behind : {A : Type 0} (f : A → ℕ) (x : A) (xs : List A) (t : ℕ) → eqb (f x) t ≡ false → is_some (line_of f (x ∷ xs) t) ≡ true → is_some (line_of f xs t) ≡ true
line-behind f x xs t other some = ap (λ (b : Bool). is_some (cond b (Some x) (line_of f xs t))) (sym other) ∙ some

line-first : {B : Type 0} (g : B → ℕ) (y : B) (ys : List B) → is_some (line_of g (y ∷ ys) (g y)) ≡ true
line-first g y ys = ap (λ (b : Bool). is_some (cond b (Some y) (line_of g ys (g y)))) (eqb-same (g y))

line-later : {B : Type 0} (g : B → ℕ) (y : B) (ys : List B) (t : ℕ) → is_some (line_of g ys t) ≡ true → is_some (line_of g (y ∷ ys) t) ≡ true
line-later g y ys t some = by (eqb (g y) t) where
  by : (b : Bool) → is_some (cond b (Some y) (line_of g ys t)) ≡ true
  by true = refl
  by false = some

-- a line of the number is the first, or one behind it
from-first : {B : Type 0} (g : B → ℕ) (n : ℕ) (y : B) (ys : List B) (t : ℕ) (b : Bool) → eqb (g y) t ≡ b → n < g y → AllByRecursion (λ (m : ℕ). g y < m) (map g ys) → is_some (line_of g (y ∷ ys) t) ≡ true → n < t
from-first g n y ys t true is above all some = omega (arith, above, eqb-true (g y) t is)
from-first g n y ys t false is above all some =
    let later : g y < t = line-above g (g y) ys t all (line-behind g y ys t is some) in omega (arith, above, later)

choose : {P Q : Type 0} (b c : Bool) → b ≡ c → (b ≡ true → P) → (b ≡ false → Q) → ((b ≡ true) × P) ⊎ ((b ≡ false) × Q)
choose b true e f g = inl (e, f e)
choose b false e f g = inr (e, g e)

flip : (a b : ℕ) → eqb a b ≡ false → eqb b a ≡ false
flip a b e = grind (arith, nat_tests)

-- numbers that rise, and have lines among others that rise, are some of these in their order
pub within-is : {A B : Type 0} (f : A → ℕ) (g : B → ℕ) (xs : List A) (ys : List B) → IsAscending (map f xs) → IsAscending (map g ys) →
    ((t : ℕ) → is_some (line_of g ys t) ≡ true → is_some (line_of f xs t) ≡ true) → Within f g xs ys
within-is f g [] [] p q has = refl
within-is f g [] (y ∷ ys) p q has = absurd (cc (has (g y) (line-first g y ys)))
within-is f g (x ∷ xs) [] p q has = tt
within-is f g (x ∷ xs) (y ∷ ys) p q has =
    choose (eqb (g y) (f x)) (eqb (g y) (f x)) refl
    (λ e. within-is f g xs ys p.1 q.1 (λ t some.
    let above : g y < t = line-above g (g y) ys t q.0 some in
    let other : eqb (f x) t ≡ false = eqb-less (f x) t (omega (arith, above, eqb-true (g y) (f x) e)) in
    line-behind f x xs t other (has t (line-later g y ys t some))))
    (λ e.
    let above : f x < g y = line-above f (f x) xs (g y) p.0 (line-behind f x xs (g y) (flip (g y) (f x) e) (has (g y) (line-first g y ys))) in
    within-is f g xs (y ∷ ys) p.1 q (λ t some.
    line-behind f x xs t (eqb-less (f x) t (from-first g (f x) y ys t (eqb (g y) t) refl above q.0 some)) (has t some)))
