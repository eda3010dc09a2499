-- A list is its items.
use Rattle.std.proofs.Common.{◌≡◌, ℕ, suc, List, [], ◌∷◌, length, get_or, refl, ap, arith}

module _ {X : Type 0} where
  -- the items of xs from i on are those of ys
  abbrev pub AreAt : List X → ℕ → List X → Type 0
  AreAt xs i [] = Unit {0}
  AreAt xs i (y ∷ ys) = (y ≡ get_or xs i y) × AreAt xs (suc i) ys

  behind : (x : X) (xs : List X) (i : ℕ) (ys : List X) → AreAt (x ∷ xs) (suc i) ys → AreAt xs i ys
  behind x xs i [] are = are
  behind x xs i (y ∷ ys) are = (are.0, behind x xs (suc i) ys are.1)

  items-are : (xs ys : List X) → length xs ≡ length ys → AreAt xs 0 ys → xs ≡ ys
  items-are [] [] same are = refl
  items-are [] (y ∷ ys) same are = absurd (omega arith)
  items-are (x ∷ xs) [] same are = absurd (omega arith)
  items-are (x ∷ xs) (y ∷ ys) same are = rw (are.0, items-are xs ys (omega arith) (behind x xs 0 ys are.1)) refl

  -- a list is an item and those behind it
  pub items-behind : (xs ys : List X) → length xs ≡ suc (length ys) → AreAt xs 1 ys → (x : X) × (xs ≡ x ∷ ys)
  items-behind [] ys same are = absurd (omega arith)
  items-behind (x ∷ xs) ys same are = (x, ap (λ rest. x ∷ rest) (items-are xs ys (omega arith) (behind x xs 0 ys are)))
