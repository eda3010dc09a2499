use Rattle.std.proofs.Common.{◌≡◌, ◌*◌, length}
use Rattle.std.specs.Prelude.{codes}
use Rattle.ftp_base.specs.Storage.{old_bytes}
use Rattle.ftp_bench.proofs.moving.retrieve_all.Given as goal

-- each round so far moved the bytes, and so will the next
abbrev pub invariant-loop-done : goal.invariant-loop-done
invariant-loop-done l = record {
  moved : l.moved ≡ l._done * length l.bytes;
  next : old_bytes l.storage.files (codes "/a") ≡ l.bytes;
}
