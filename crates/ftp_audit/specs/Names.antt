-- Maps by names of users and paths of files.
use Rattle.std.specs.Prelude.{◌≡◌, ℕ, List, map as map_list, Vec, Some, unwrap_or}
use Rattle.std.specs.Global.{Global}
use Rattle.std.specs.FinMap as map
use Rattle.std.specs.Ordering.{nat_cmp}
use Rattle.std.specs.declared.cmp.Ordering.{Ordering}
use Rattle.std.specs.Cmp.Lexicographic.{slice_cmp}

-- something for each of some names, in byte order of names
abbrev pub ByName : Type 0 → Type 0
ByName X = map.FinMap (slice_cmp nat_cmp) X

-- the byte order of names that are vectors
abbrev pub path_cmp : Vec ℕ Global → Vec ℕ Global → Ordering
path_cmp x y = slice_cmp nat_cmp x.items y.items

-- entries under names that are vectors
abbrev pub named : {X : Type 0} → List (Vec ℕ Global × X) → List (List ℕ × X)
named entries = map_list (λ e. (e.0.items, e.1)) entries

-- the map of entries under names that are vectors
abbrev pub by_name : {X : Type 0} → List (Vec ℕ Global × X) → ByName X
by_name entries = map.from_entries (named entries)

-- a name has a count, all counts are as they were, and one that was there is there
pub record OpensCount (old new : ByName ℕ) (name : List ℕ) : Type 0 where
  pub there : (n : ℕ) × (map.get new name ≡ Some n)
  pub same : (q : List ℕ) → unwrap_or (map.get new q) 0 ≡ unwrap_or (map.get old q) 0
  pub present : (q : List ℕ) (n : ℕ) → map.get old q ≡ Some n → map.get new q ≡ Some n
