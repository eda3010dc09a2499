-- The users of a file, line by line.
use Rattle.std.specs.Prelude.{◌≡◌, ℕ, ◌+◌, ◌-◌, ◌<◌, ◌≤◌, ◌==◌, ◌&&◌, ◌||◌, not, Bool, true, false, List, [], ◌∷◌, length, take, get_or, map, is_some, Vec, Option, Some, None, if◌then◌else◌}
use Rattle.std.specs.Global.{Global}
use Rattle.std.specs.List.{filter_map, slice_split}
use Rattle.std.specs.Map.{lookup}
use Rattle.std.specs.Str.{bytes_eq}
use Rattle.ftp_config.specs.declared.user.User.{User}
use Rattle.ftp_config.specs.Line.{is_byte, spelled_user}

-- the lines of a text, which line feeds part
abbrev pub lines_of_file : List ℕ → List (List ℕ)
lines_of_file text = slice_split (is_byte 10) text

-- the byte is a space or a tab
abbrev pub is_blank : ℕ → Bool
is_blank b = b == 32 || b == 9

-- the line is blank or a comment, and so spells no user: before its end or a `#` stand only blanks
abbrev pub is_passed_over : List ℕ → Bool
is_passed_over [] = true
is_passed_over (b ∷ line) = b == 35 || (is_blank b && is_passed_over line)

-- the user that a line spells, with its name
abbrev pub line_user : List ℕ → Option (List ℕ × User)
line_user line = if is_passed_over line then None else spelled_user line

-- the users of lines, with their names
unfoldable pub users_in : List (List ℕ) → List (List ℕ × User)
users_in lines = filter_map line_user lines

-- the user of a name
abbrev pub user_named : List ℕ → List (List ℕ × User) → Option User
user_named name users = lookup (bytes_eq name) users

-- there is a user, and nobody has its name
abbrev pub is_new : List (List ℕ × User) → Option (List ℕ × User) → Bool
is_new users None = false
is_new users (Some user) = not (is_some (user_named user.0 users))

-- a line is good behind others: it is passed over, or spells a user whose name none of them has
abbrev pub is_good_behind : List (List ℕ) → List ℕ → Bool
is_good_behind lines line = is_passed_over line || is_new (users_in lines) (line_user line)

-- the line at a place is good behind those before it
abbrev pub is_good_at : List (List ℕ) → ℕ → Bool
is_good_at lines i = is_good_behind (take i lines) (get_or lines i [])

-- each line is good
abbrev pub AreGood : List (List ℕ) → Type 0
AreGood lines = (i : ℕ) → i < length lines → is_good_at lines i ≡ true

-- lines are counted from 1, and the one of this number is the first that is not good
pub record IsFirstBadLine (lines : List (List ℕ)) (number : ℕ) : Type 0 where
  pub counted : (1 ≤ number) × (number ≤ length lines)
  pub before : (i : ℕ) → i + 1 < number → is_good_at lines i ≡ true
  pub bad : is_good_at lines (number - 1) ≡ false

-- entries under names that are vectors
abbrev pub named : List (Vec ℕ Global × User) → List (List ℕ × User)
named entries = map (λ e. (e.0.items, e.1)) entries

-- entries have for each name the user that lines spell
abbrev pub HasUsersOf : List (Vec ℕ Global × User) → List (List ℕ) → Type 0
HasUsersOf entries lines = (name : List ℕ) → user_named name (named entries) ≡ user_named name (users_in lines)
