-- The homes of users.
use Rattle.std.specs.Prelude.{ℕ, Bool, false, List, map, Option, Some, None, is_some, Vec, if◌then◌else◌}
use Rattle.std.specs.Global.{Global}
use Rattle.std.specs.Map.{lookup}
use Rattle.std.specs.Option.{option_map_or}
use Rattle.std.specs.Str.{bytes_eq}
use Rattle.ftp_disk.specs.declared.home.Home.{Home}

-- homes under names that are vectors
abbrev pub homes_by_user : List (Vec ℕ Global × Home) → List (List ℕ × Home)
homes_by_user entries = map (λ e. (e.0.items, e.1)) entries

-- the home of a user
abbrev pub home_of : List (List ℕ × Home) → List ℕ → Option Home
home_of homes user = lookup (bytes_eq user) homes

-- the home, where the name is the user's
abbrev pub home_if : List ℕ → List ℕ → Home → Option Home
home_if name user home = if bytes_eq name user then Some home else None

-- a user has a home
abbrev pub has_home : List (List ℕ × Home) → List ℕ → Bool
has_home homes user = is_some (home_of homes user)

-- a user has a home, and may write there
abbrev pub may_write : List (List ℕ × Home) → List ℕ → Bool
may_write homes user = option_map_or (λ home. home.may_write) (home_of homes user) false
