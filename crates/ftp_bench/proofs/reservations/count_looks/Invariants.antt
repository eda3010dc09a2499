use Rattle.std.proofs.Common.{◌≡◌, ◌*◌, ◌≤◌}
use Rattle.ftp_bench.proofs.reservations.count_looks.Given as goal

-- each round so far took so few looks, and the range is the same
abbrev pub invariant-loop-done : goal.invariant-loop-done
invariant-loop-done l = record {
  few : l.looks ≤ l._done * 1059;
  lo : l.board.lo ≡ 1;
  hi : l.board.hi ≡ 65535;
}
