-- The names that a path of a client leads through, from the root on.
use Rattle.std.specs.Prelude.{ℕ, ◌-◌, ◌==◌, ◌&&◌, ◌||◌, not, Bool, List, [], ◌∷◌, ◌++◌, length, take, codes, if◌then◌else◌}
use Rattle.std.specs.List.{list_any, fold, slice_split}
use Rattle.std.specs.Str.{bytes_eq, is_utf8}

-- the byte is `/`, which stands between names
abbrev pub is_separator : ℕ → Bool
is_separator byte = byte == 47

-- the byte is NUL
abbrev pub is_nul : ℕ → Bool
is_nul byte = byte == 0

-- the name stands for where one is: it is empty, or `.`
abbrev pub is_here : List ℕ → Bool
is_here name = length name == 0 || bytes_eq name (codes ".")

-- the name stands for the directory above: it is `..`
abbrev pub is_up : List ℕ → Bool
is_up name = bytes_eq name (codes "..")

-- where a name leads from the place of these names; from the root `..` leads nowhere else
abbrev pub go : List (List ℕ) → List ℕ → List (List ℕ)
go names name =
    if is_here name then names else
    (if is_up name then take (length names - 1) names else names ++ name ∷ [])

-- the names that a path leads through from the root
abbrev pub names_of : List ℕ → List (List ℕ)
names_of path = fold go [] (slice_split is_separator path)

-- the name stands for no other place, and has no separator
abbrev pub is_plain_name : List ℕ → Bool
is_plain_name name = not (is_here name) && not (is_up name) && not (list_any is_separator name)

-- a system takes the name: it has no NUL and is text
abbrev pub is_taken_name : List ℕ → Bool
is_taken_name name = not (list_any is_nul name) && is_utf8 name

-- a file may have the name
abbrev pub is_file_name : List ℕ → Bool
is_file_name name = is_plain_name name && is_taken_name name
