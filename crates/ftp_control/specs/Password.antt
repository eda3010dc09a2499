-- What a password prints.
use Rattle.std.specs.Prelude.{ℕ, List, codes}

-- seven stars, whatever the password
abbrev pub stars : List ℕ
stars = codes "*******"
