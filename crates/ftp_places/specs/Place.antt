-- Places: a root, or what lies below it.
use Rattle.std.specs.Prelude.{◌≡◌, ◌≤◌, true, ℕ, zero, suc, cond, List, [], ◌∷◌, ◌++◌, length, take, drop, if◌then◌else◌}
use Rattle.std.specs.List.{list_all, flat_map, slice_split}
use Rattle.ftp_places.specs.Names.{is_separator, is_file_name}

-- a root, and the names that lead from it
pub record Location : Type 0 where
  pub root : List ℕ
  pub names : List (List ℕ)

-- where the names lead from the root
abbrev pub below_by : List ℕ → List (List ℕ) → Location
below_by root names = record { root = root; names = names }

-- a slash and a name
abbrev pub slashed : List ℕ → List ℕ
slashed name = 47 ∷ name

-- names with a slash before each
abbrev pub trail_of : List (List ℕ) → List ℕ
trail_of names = flat_map slashed names

-- the path for the system: the root, and each name behind a slash
abbrev pub system_path : Location → List ℕ
system_path place = place.root ++ trail_of place.names

-- a path for the system is the root or leads below it, by names that files may have
pub record IsBelow (root text : List ℕ) : Type 0 where
  pub names : List (List ℕ)
  pub all : list_all is_file_name names ≡ true
  pub below : text ≡ root ++ trail_of names

-- the names in a path that begins with a slash, if it has any byte
abbrev pub names_in : List ℕ → List (List ℕ)
names_in path = drop 1 (slice_split is_separator path)

-- the place that a path for the system stands for, where the root has so many bytes
abbrev pub location_of : List ℕ → ℕ → Location
location_of text root = below_by (take root text) (names_in (drop root text))

-- behind the root stand names that files may have, with a slash before each
pub record HasNames (text : List ℕ) (root : ℕ) : Type 0 where
  pub within : root ≤ length text
  pub path : drop root text ≡ trail_of (names_in (drop root text))
  pub all : list_all is_file_name (names_in (drop root text)) ≡ true

-- what stands before the separator that has n before it
abbrev pub before_separator : ℕ → List ℕ → List ℕ
before_separator n [] = []
before_separator zero (b ∷ path) = cond (is_separator b) [] (b ∷ before_separator zero path)
before_separator (suc n) (b ∷ path) = b ∷ before_separator (if is_separator b then n else suc n) path
