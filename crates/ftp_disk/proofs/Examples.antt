-- Worked examples of the definitions, each by computation.
use Rattle.std.proofs.Common.{◌≡◌, ℕ, List, [], ◌∷◌, map, true, false, refl}
use Rattle.std.specs.Prelude.{codes}
use Rattle.ftp_disk.specs.Patterns.{is_wild, matches, pattern_in}

-- an ending and no other, one byte, parts in order, and a bracket that is itself
patterns_and_names :
    map (λ (row : List ℕ × List ℕ). matches row.0 row.1)
    ((codes "*.txt", codes "a.txt") ∷ (codes "*.txt", codes ".txt") ∷ (codes "*.txt", codes "a.txt.gz") ∷ (codes "a?b", codes "a*b")
    ∷ (codes "a?b", codes "ab") ∷ (codes "a*b*c", codes "a.b.b.c") ∷ (codes "[ab]", codes "a") ∷ [])
    ≡ (true ∷ true ∷ false ∷ true ∷ false ∷ true ∷ false ∷ [])
unfolding matches
patterns_and_names = refl

no_wildcard : is_wild (pattern_in (codes "a.txt")) ≡ false
no_wildcard = refl

options_are_any_name : pattern_in (codes "-la") ≡ codes "*"
options_are_any_name = refl

a_name_behind_options : is_wild (pattern_in (codes "-a d")) ≡ false
a_name_behind_options = refl
