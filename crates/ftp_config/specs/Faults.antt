-- Why a file has no users.
use Rattle.std.specs.Prelude.{ℕ, List}
use Rattle.ftp_config.specs.declared.users.UsersError.{UsersError}
use Rattle.ftp_config.specs.declared.users.UsersError.TheVariants.{Line, OutOfMemory}
use Rattle.ftp_config.specs.Users.{IsFirstBadLine}

-- the error names the first line that is not good, unless memory ran out
abbrev pub NamesFirstBad : UsersError → List (List ℕ) → Type 0
NamesFirstBad (Line number) lines = IsFirstBadLine lines number
NamesFirstBad OutOfMemory lines = Unit {0}
