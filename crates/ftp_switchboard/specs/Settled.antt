-- Intervals by where they begin.
use Rattle.std.specs.Prelude.{◌≡◌, ◌≢◌, ℕ, ◌+◌, ◌-◌, ◌<◌, ◌≤◌, ◌^◌, List, Option, None, Some, map}
use Rattle.std.specs.Ordering.{nat_cmp}
use Rattle.std.specs.BTreeMap.{is_at}
use Rattle.std.specs.Map.{lookup}
use Rattle.ftp_switchboard.specs.declared.numbers.Interval.{Interval}

-- the intervals, each from its beginning to its end
abbrev pub intervals_of : List (ℕ × ℕ) → List Interval
intervals_of settled = map (λ ends. record { lo = ends.0; hi = ends.1 }) settled

-- where the interval ends that begins at the number
abbrev pub end_at : List (ℕ × ℕ) → ℕ → Option ℕ
end_at settled lo = lookup (is_at (nat_cmp lo)) settled

-- each interval has a number, the numbers are of 64 bits, and behind each interval at least one is missing
pub record IsDisjoint (settled : List (ℕ × ℕ)) : Type 0 where
  pub each : (lo hi : ℕ) → end_at settled lo ≡ Some hi → lo ≤ hi
  pub fits : (lo hi : ℕ) → end_at settled lo ≡ Some hi → hi < 2 ^ 64
  pub gaps : (lo hi above last : ℕ) → end_at settled lo ≡ Some hi → end_at settled above ≡ Some last → lo < above → hi + 1 < above

-- no interval begins at the number or below it
abbrev pub BeginsNoneBy : List (ℕ × ℕ) → ℕ → Type 0
BeginsNoneBy settled n = (lo : ℕ) → lo ≤ n → end_at settled lo ≡ None

-- the interval is the last that begins at the number or below it
pub record IsLastBy (settled : List (ℕ × ℕ)) (n lo hi : ℕ) : Type 0 where
  pub ends : end_at settled lo ≡ Some hi
  pub from : lo ≤ n
  pub last : (other end : ℕ) → other ≤ n → end_at settled other ≡ Some end → other ≤ lo

-- an interval from here on ends right below the number, or none does and here is the number itself
pub record BeginsWith (settled : List (ℕ × ℕ)) (n lo : ℕ) : Type 0 where
  pub below : lo ≤ n
  pub joined : lo < n → end_at settled lo ≡ Some (n - 1)
  pub alone : lo ≡ n → (other hi : ℕ) → end_at settled other ≡ Some hi → hi + 1 ≢ n
