-- Which numbers were used, as intervals in order.
use Rattle.std.specs.Prelude.{◌≡◌, ℕ, ◌+◌, ◌<◌, ◌≤◌, nat_le, Bool, false, ◌&&◌, ◌||◌, ◌==◌, List, [], ◌∷◌, length, slice_index_or, Option, Some, None}
use Rattle.ftp_switchboard.specs.declared.numbers.Interval.{Interval}

-- the intervals, and the number that is not yet among them
pub record Used : Type 0 where
  pub intervals : List Interval
  pub newest : Option ℕ

-- the number is in the interval
abbrev pub is_in : Interval → ℕ → Bool
is_in interval n = nat_le interval.lo n && nat_le n interval.hi

-- some interval has the number
abbrev pub is_used : List Interval → ℕ → Bool
is_used [] n = false
is_used (interval ∷ intervals) n = is_in interval n || is_used intervals n

-- the number is the newest one
abbrev pub is_newest : Option ℕ → ℕ → Bool
is_newest None n = false
is_newest (Some newest) n = newest == n

-- the number was used
abbrev pub has : Used → ℕ → Bool
has used n = is_newest used.newest n || is_used used.intervals n

-- the next number needs no memory
abbrev pub HasSpare : Used → Type 0
HasSpare used = used.newest ≡ None

-- both have the same numbers
abbrev pub SameNumbers : Used → Used → Type 0
SameNumbers old new = (n : ℕ) → has new n ≡ has old n

-- stands where there is no interval
abbrev pub no_interval : Interval
no_interval = record { lo = 0; hi = 0 }

-- where the interval at place i begins
abbrev pub lo_at : List Interval → ℕ → ℕ
lo_at intervals i = (slice_index_or intervals i no_interval).lo

-- where the interval at place i ends
abbrev pub hi_at : List Interval → ℕ → ℕ
hi_at intervals i = (slice_index_or intervals i no_interval).hi

-- each interval has a number, they rise, and between two of them at least one number is missing
pub record IsApart (intervals : List Interval) : Type 0 where
  pub each : (i : ℕ) → i < length intervals → lo_at intervals i ≤ hi_at intervals i
  pub gaps : (i j : ℕ) → i < j → j < length intervals → hi_at intervals i + 1 < lo_at intervals j
