use Rattle.std.proofs.Common.{◌≡◌, ℕ, ◌+◌, ◌<◌, ◌≤◌, ◌||◌, false, length, get_or}
use Rattle.ftp_disk.proofs.pattern.take_any.Given as goal

abbrev pub invariant-loop-j : goal.invariant-loop-j
invariant-loop-j l = record {
  within : l.j ≤ l.end;
  below : (k : ℕ) → k < l.j → get_or l.row k false ≡ get_or l.fn.row k false;
  above : (k : ℕ) → l.j ≤ k → k < l.end → get_or l.row k false ≡ (get_or l.fn.row k false || get_or l.row (k + 1) false);
  end : get_or l.row l.end false ≡ get_or l.fn.row l.end false;
}

abbrev pub decreases-loop-j : goal.decreases-loop-j
decreases-loop-j l = l.j
