-- Who owns which file, and how many bytes the files of a user come to.
--   owned owners user         the paths of the files that a user owns
--   usage owners files user   how many bytes these have in all, over the files as they are
use Rattle.std.specs.Prelude.{◌≡◌, ℕ, Bool, List, [], map as map_list, length, filter, sum_by, IfSome, unwrap_or, if◌then◌else◌}
use Rattle.std.specs.Option.{option_and_then}
use Rattle.std.specs.FinMap as map
use Rattle.std.specs.Str.{bytes_eq}
use Rattle.ftp_base.specs.Storage.{Files, bytes_of}
use Rattle.ftp_audit.specs.declared.quota_book.Held.{Held}
use Rattle.ftp_audit.specs.Names.{ByName}

-- for the path of each file that has an owner, who owns it, and how many bytes it was given
abbrev pub Owners : Type 0
Owners = ByName Held

-- the user owns this
abbrev pub is_of : List ℕ → Held → Bool
is_of user held = bytes_eq held.owner user

-- the paths of the files that a user owns
abbrev pub owned : Owners → List ℕ → List (List ℕ)
owned owners user = map_list (λ e. e.0) (filter (λ e. is_of user e.1) (map.entries owners))

-- the bytes of the file that the map has at a path
abbrev pub bytes_at : Files → List ℕ → List ℕ
bytes_at files path = unwrap_or (option_and_then bytes_of (map.get files path)) []

-- the usage of a user: the sum of the lengths of the files that the user owns, over the files as they are
abbrev pub usage : Owners → Files → List ℕ → ℕ
usage owners files user = sum_by (λ path. length (bytes_at files path)) (owned owners user)

-- what a file adds to what a user's files were given
abbrev pub share : List ℕ → Held → ℕ
share user held = if is_of user held then held.len else 0

-- how many bytes a user's files were given in all
abbrev pub given : Owners → List ℕ → ℕ
given owners user = sum_by (share user) (map.values owners)

-- each file that has an owner has as many bytes as it was given
abbrev pub Agrees : Owners → Files → Type 0
Agrees owners files = (path : List ℕ) → IfSome (map.get owners path) (λ held. length (bytes_at files path) ≡ held.len)
