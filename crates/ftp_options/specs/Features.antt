-- What the storage can do.
use Rattle.std.specs.Prelude.{ℕ, Bool, ◌==◌, ◌%◌}

-- transfers can begin at a restart offset: the lowest bit of the features
abbrev pub has_restart : ℕ → Bool
has_restart features = features % 2 == 1
