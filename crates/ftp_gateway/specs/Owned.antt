-- Whose home is whose.
use Rattle.std.specs.Prelude.{◌≡◌, ℕ, Bool, true, false, List, Option, Some, None, string_bytes, ⊤}
use Rattle.ftp_disk.specs.Home.{home_of}
use Rattle.ftp_disk.specs.declared.home.Home.{Home}
use Rattle.ftp_config.specs.Users.{user_named}
use Rattle.ftp_config.specs.declared.user.Rights.{Rights}
use Rattle.ftp_config.specs.declared.user.Rights.TheVariants.{ReadOnly, ReadWrite}
use Rattle.ftp_config.specs.declared.user.User.{User}

-- who may write
abbrev pub is_writer : Rights → Bool
is_writer ReadOnly = false
is_writer ReadWrite = true

-- a home is that of the user: its directory, and the right to write there
abbrev pub IsHome : User → Home → Type 0
IsHome user home = (string_bytes home.root ≡ user.home) × (home.may_write ≡ is_writer user.rights)

-- a user has the user's home, and nobody has none
abbrev pub IsHomeOf : Option User → Option Home → Type 0
IsHomeOf None None = ⊤
IsHomeOf (Some user) (Some home) = IsHome user home
IsHomeOf _ _ = ⊥

-- each name has the home of its user, and no other
abbrev pub AreHomesOf : List (List ℕ × User) → List (List ℕ × Home) → Type 0
AreHomesOf users homes = (name : List ℕ) → IsHomeOf (user_named name users) (home_of homes name)
