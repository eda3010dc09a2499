-- Tables of worked examples.
use Rattle.std.proofs.Common.{◌≡◌, ℕ, List, Option, Some, None}
use Rattle.std.specs.Prelude.{map}

-- each value is spelled as the text beside it
abbrev pub AreSpelled : {A : Type 0} → (A → List ℕ) → List (A × List ℕ) → Type 0
AreSpelled text rows = map (λ row. text row.0) rows ≡ map (λ row. row.1) rows

-- each value is read from the text beside it
abbrev pub AreRead : {A : Type 0} → (List ℕ → Option A) → List (A × List ℕ) → Type 0
AreRead read rows = map (λ row. read row.1) rows ≡ map (λ row. Some row.0) rows

-- no text is read
abbrev pub AreBad : {A : Type 0} → (List ℕ → Option A) → List (List ℕ) → Type 0
AreBad read texts = map read texts ≡ map (λ text. None) texts
