-- Numbers that are drawn one after the other from a seed: a linear congruential generator of 64 bits, whose upper 31 are given.
use Rattle.std.specs.Prelude.{ℕ, ◌+◌, ◌*◌, ◌/◌, ◌%◌, ◌^◌, suc, zero}

-- what the next number is drawn from
abbrev pub stirred : ℕ → ℕ
stirred x = (6364136223846793005 * x + 1442695040888963407) % 2 ^ 64

-- the same, so many numbers later
abbrev pub stirred_by : ℕ → ℕ → ℕ
stirred_by zero x = x
stirred_by (suc n) x = stirred (stirred_by n x)

-- what is given of it
abbrev pub given : ℕ → ℕ
given x = x / 2 ^ 33

-- the n-th number that is drawn from a seed, counted from 1
abbrev pub draw : ℕ → ℕ → ℕ
draw seed n = given (stirred_by n seed)
