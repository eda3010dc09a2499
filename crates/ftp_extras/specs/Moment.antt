-- Moments in UTC as 14 digits: year, month, day, hour, minute and second (RFC 3659, section 2.3).
use Rattle.std.specs.Prelude.{ℕ, ◌+◌, ◌-◌, ◌*◌, ◌==◌, ◌&&◌, not, nat_lt, Bool, List, length, slice_index}
use Rattle.std.specs.List.{list_all}
use Rattle.std.specs.Char.{is_ascii_digit}

-- the number of the two digits at a place
abbrev pub two_digits : List ℕ → ℕ → ℕ
two_digits at i = (slice_index at i - 48) * 10 + (slice_index at (i + 1) - 48)

-- the number lies between these, or is one of them
abbrev pub is_in_span : ℕ → ℕ → ℕ → Bool
is_in_span low high n = not (nat_lt n low) && not (nat_lt high n)

-- 14 digits name a moment; a second may be a leap second
abbrev pub is_moment : List ℕ → Bool
is_moment at =
    length at == 14 && list_all is_ascii_digit at
    && is_in_span 1 12 (two_digits at 4) && is_in_span 1 31 (two_digits at 6)
    && is_in_span 0 23 (two_digits at 8) && is_in_span 0 59 (two_digits at 10) && is_in_span 0 60 (two_digits at 12)
