use Rattle.std.proofs.Common.{◌≡◌, ℕ, ◌+◌, ◌<◌, ◌≤◌, ◌&&◌, false, length, get_or}
use Rattle.ftp_disk.specs.Patterns.{stands_for}
use Rattle.ftp_disk.proofs.pattern.take_one.Given as goal

abbrev pub invariant-loop-j : goal.invariant-loop-j
invariant-loop-j l = record {
  below : (k : ℕ) → k < l.j → get_or l.row k false ≡ (stands_for l.p (get_or l.name k 0) && get_or l.fn.row (k + 1) false);
  above : (k : ℕ) → l.j ≤ k → get_or l.row k false ≡ get_or l.fn.row k false;
}
