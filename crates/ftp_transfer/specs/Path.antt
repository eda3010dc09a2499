-- Paths that commands name.
use Rattle.std.specs.Prelude.{ℕ, Bool, false, ◌-◌, ◌==◌, List, [], ◌∷◌, ◌++◌, length, slice_get, Option, Some, None, if◌then◌else◌}

-- `/`
abbrev pub slash : ℕ
slash = 47

-- the byte is there and is `/`
abbrev pub is_slash : Option ℕ → Bool
is_slash None = false
is_slash (Some byte) = byte == slash

-- the directory's path, ended by a slash
abbrev pub with_slash : List ℕ → List ℕ
with_slash dir = if is_slash (slice_get dir (length dir - 1)) then dir else dir ++ slash ∷ []

-- where an argument leads from a directory: an argument that begins with a slash stands alone
abbrev pub join_path : List ℕ → List ℕ → List ℕ
join_path dir arg = if is_slash (slice_get arg 0) then arg else with_slash dir ++ arg
