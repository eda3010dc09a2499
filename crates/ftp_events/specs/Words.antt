-- Small words that the other files use.
use Rattle.std.specs.Prelude.{ℕ, ◌+◌, Bool, false, cond, ◌==◌, List, [], ◌∷◌, Option, Some, None, unwrap_or}

-- the first value whose condition holds, written as a table: condition ⇒ value ∣ .. ∣ the last value
infixr 5 ◌⇒◌∣◌
abbrev pub ◌⇒◌∣◌ : {A : Type 0} → Bool → A → A → A
b ⇒ x ∣ y = cond b x y

-- what the newest of the items that tell something tells, or the first value where none does
abbrev pub latest : {A B : Type 0} → B → (A → Option B) → List A → B
latest first tells [] = first
latest first tells (x ∷ xs) = unwrap_or (tells x) (latest first tells xs)

-- the sum of what the items tell
abbrev pub total : {A : Type 0} → (A → ℕ) → List A → ℕ
total tells [] = 0
total tells (x ∷ xs) = total tells xs + tells x

-- the sum of what the items tell, each after those that come before it
abbrev pub total_after : {A : Type 0} → (List A → A → ℕ) → List A → ℕ
total_after tells [] = 0
total_after tells (x ∷ xs) = total_after tells xs + tells xs x

-- it is there, and is n
abbrev pub is_number : Option ℕ → ℕ → Bool
is_number None n = false
is_number (Some m) n = m == n
