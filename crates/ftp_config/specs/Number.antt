-- Numbers in decimal digits.
use Rattle.std.specs.Prelude.{ℕ, ◌^◌, ◌&&◌, nat_lt, List, Option, Some, None, if◌then◌else◌}
use Rattle.std.specs.Option.{option_and_then}
use Rattle.ftp_base.specs.Decimal.{decimal_below}

-- the number of rounds that the bytes spell: there is at least one, and it is below 2 ^ 32
abbrev pub rounds_of : List ℕ → Option ℕ
rounds_of bytes = option_and_then (λ n. if nat_lt 0 n && nat_lt n (2 ^ 32) then Some n else None) (decimal_below (2 ^ 64) bytes)
