-- The directory of a user's files.
use Rattle.std.specs.Prelude.{ℕ, ◌==◌, ◌&&◌, ◌||◌, not, nat_lt, Bool, false, List, [], ◌∷◌, Option, Some, None, if◌then◌else◌}
use Rattle.std.specs.List.{list_any}
use Rattle.std.specs.Str.{is_utf8}

-- the path begins with a slash
abbrev pub is_rooted : List ℕ → Bool
is_rooted [] = false
is_rooted (b ∷ path) = b == 47

-- the byte is a control character
abbrev pub is_control : ℕ → Bool
is_control b = nat_lt b 32 || b == 127

-- the path may be a home: it is absolute, has no control character, and is text
abbrev pub is_home : List ℕ → Bool
is_home path = is_rooted path && not (list_any is_control path) && is_utf8 path

-- the home that the bytes spell
abbrev pub spelled_home : List ℕ → Option (List ℕ)
spelled_home path = if is_home path then Some path else None
