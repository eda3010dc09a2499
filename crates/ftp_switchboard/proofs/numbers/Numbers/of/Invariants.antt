use Rattle.std.proofs.Common.{◌≡◌, ℕ, ◌+◌, ◌<◌, ◌≤◌, length, take, Some}
use Rattle.ftp_switchboard.specs.Used.{is_used, lo_at}
use Rattle.ftp_switchboard.specs.Settled.{end_at, intervals_of, IsDisjoint}
use Rattle.ftp_switchboard.proofs.numbers.Numbers.of.Given as goal

-- the numbers of the intervals so far, and those that are left begin behind them
abbrev pub invariant-loop-interval : goal.invariant-loop-interval
invariant-loop-interval l = record {
  numbers : (n : ℕ) → is_used (intervals_of l.settled.entries) n ≡ is_used (take l.interval-index l.intervals) n;
  disjoint : IsDisjoint l.settled.entries;
  behind : (lo hi j : ℕ) → end_at l.settled.entries lo ≡ Some hi → l.interval-index ≤ j → j < length l.intervals → hi + 1 < lo_at l.intervals j;
}
