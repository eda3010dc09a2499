use Rattle.std.proofs.Common.{◌≡◌, ◌*◌, length}
use Rattle.ftp_bench.proofs.moving.store_all.Given as goal

-- each round so far moved the bytes
abbrev pub invariant-loop-done : goal.invariant-loop-done
invariant-loop-done g l = record {
  moved : l.moved ≡ l._done * length l.bytes;
}
