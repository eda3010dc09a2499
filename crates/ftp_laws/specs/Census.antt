-- Lists in which each number of a kind stands once.
use Rattle.std.specs.Prelude.{ℕ, ◌≡◌, ◌<◌, ⊤, Bool, ◌==◌, List, [], ◌∷◌, count_by, if◌then◌else◌}
use Rattle.std.specs.List.{AllByRecursion, list_any}

-- each number of which the test holds stands in the list once, and no other does
abbrev pub IsCensus : (ℕ → Bool) → List ℕ → Type 0
IsCensus test numbers = (s : ℕ) → count_by (λ n. n == s) numbers ≡ (if test s then 1 else 0)

-- each number is below all that come after it
abbrev pub IsAscending : List ℕ → Type 0
IsAscending [] = ⊤
IsAscending (n ∷ numbers) = AllByRecursion (λ m. n < m) numbers × IsAscending numbers

-- the number stands in the list
abbrev pub has : List ℕ → ℕ → Bool
has numbers s = list_any (λ n. n == s) numbers
