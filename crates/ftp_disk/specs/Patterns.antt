-- Names by a pattern, in which `*` stands for any bytes or none, `?` for one byte, and each other byte for itself.
use Rattle.std.specs.Prelude.{◌≡◌, ℕ, ◌+◌, ◌<◌, ◌==◌, ◌&&◌, ◌||◌, not, Bool, true, false, List, [], ◌∷◌, length, drop, get_or, codes, if◌then◌else◌}
use Rattle.std.specs.List.{list_any}
use Rattle.ftp_extras.specs.Plan.{is_wildcard, begins_with_hyphen}

-- this byte of a pattern, which is no `*`, stands for this byte of a name
abbrev pub stands_for : ℕ → ℕ → Bool
stands_for p b = p == 63 || b == p

-- the name matches the pattern
unfoldable pub matches : List ℕ → List ℕ → Bool
matches [] [] = true
matches [] (b ∷ name) = false
matches (p ∷ pattern) [] = p == 42 && matches pattern []
matches (p ∷ pattern) (b ∷ name) =
    if p == 42 then matches pattern (b ∷ name) || matches (p ∷ pattern) name else stands_for p b && matches pattern name

-- the name has a wildcard
abbrev pub is_wild : List ℕ → Bool
is_wild name = list_any is_wildcard name

-- the name is options of a listing, behind which no name stands
abbrev pub are_options : List ℕ → Bool
are_options name = begins_with_hyphen name && not (list_any (λ b. b == 32) name)

-- the pattern that a name stands for where no file has it: options stand for any name
abbrev pub pattern_in : List ℕ → List ℕ
pattern_in name = if are_options name then codes "*" else name

-- the row tells of each end of a name whether it matches, of the whole name first
abbrev pub AreAnswers : List ℕ → List ℕ → List Bool → Type 0
AreAnswers pattern name row = (k : ℕ) → k < length name + 1 → get_or row k false ≡ matches pattern (drop k name)
