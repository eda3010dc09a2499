-- Which answers the edge of the system may give.
use Rattle.std.specs.Prelude.{ℕ, Bool, true, nat_le, ◌&&◌, Option, Some, None}
use Rattle.ftp_base.specs.Edge.{Meaning, any_answer}

-- a port that was bound is one of the range, and not 0
abbrev pub is_between : ℕ → ℕ → Option ℕ → Bool
is_between lo hi None = true
is_between lo hi (Some port) = (nat_le lo port && nat_le port hi) && nat_le 1 port

-- every answer may come, but for a port beyond the range
abbrev pub system_meaning : Meaning
system_meaning = record any_answer { ports = is_between }
