-- Numbers in decimal digits.
use Rattle.std.specs.Prelude.{ℕ, ◌==◌, ◌&&◌, ◌||◌, not, nat_lt, Bool, List, length, get_or, Option, Some, None, if◌then◌else◌}
use Rattle.std.specs.List.{list_all}
use Rattle.std.specs.Char.{is_ascii_digit}
use Rattle.std.specs.Str.Parse.{digits_value}

-- decimal digits, of which a zero leads no other
abbrev pub is_decimal : List ℕ → Bool
is_decimal bytes =
    not (length bytes == 0) && list_all is_ascii_digit bytes && (not (get_or bytes 0 0 == 48) || length bytes == 1)

-- the number below a limit that bytes spell
abbrev pub decimal_below : ℕ → List ℕ → Option ℕ
decimal_below limit bytes = let n = digits_value 10 bytes in if is_decimal bytes && nat_lt n limit then Some n else None
