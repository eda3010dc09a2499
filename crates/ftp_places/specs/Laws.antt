-- What holds of every path.
use Rattle.std.specs.Prelude.{◌≡◌, true, ℕ, List}
use Rattle.std.specs.List.{list_all}
use Rattle.ftp_places.specs.Names.{names_of, is_plain_name}

-- no name that a path leads through is empty, `.` or `..`, or has a slash
abbrev pub NamesArePlain : Type 0
NamesArePlain = (path : List ℕ) → list_all is_plain_name (names_of path) ≡ true
