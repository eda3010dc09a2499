use Rattle.std.proofs.Common.{ℕ, ◌+◌, ◌-◌, ◌^◌, ◌<◌, ◌≤◌, length}
use Rattle.ftp_switchboard.specs.Bits.{port_at}
use Rattle.ftp_switchboard.proofs.search.place_of.Given as goal

-- The place lies between the two, and the looks that are left halve what is between.
abbrev pub invariant-loop-low : goal.invariant-loop-low
invariant-loop-low l = record {
  order : l.low ≤ l.high;
  within : l.high ≤ length l.row.pairs.items;
  lower : (i : ℕ) → i < l.low → port_at l.row.pairs.items i < l.port;
  upper : (i : ℕ) → l.high ≤ i → i < length l.row.pairs.items → l.port ≤ port_at l.row.pairs.items i;
  looks : l.fn.looks ≤ l.looks;
  left : (left : ℕ) × (l.high - l.low < 2 ^ left) × (l.looks + left ≤ l.fn.looks + 16);
}

abbrev pub decreases-loop-low : goal.decreases-loop-low
decreases-loop-low l = l.high - l.low
