use Rattle.std.proofs.Common.{◌≡◌, ◌<◌, ◌≤◌, ℕ, Some}
use Rattle.ftp_switchboard.specs.Board.{holder_at}
use Rattle.ftp_bench.proofs.reservations.hold_ports.Given as goal

-- the ports so far are held, and the range is the same
abbrev pub invariant-loop-port : goal.invariant-loop-port
invariant-loop-port l = record {
  lo : l.board.lo ≡ 1;
  hi : l.board.hi ≡ 65535;
  held : (p : ℕ) → 1 ≤ p → l.first ≤ p → p < l.port → holder_at l.board 1 p ≡ Some 1;
}
