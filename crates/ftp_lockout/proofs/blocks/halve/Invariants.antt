use Rattle.std.proofs.Common.{◌≡◌, ◌≤◌, ◌++◌, length}
use Rattle.std.specs.Prelude.{vec_capacity}
use Rattle.ftp_lockout.proofs.blocks.halve.Given as goal

-- all records are in one of both blocks
abbrev pub invariant-loop-block : goal.invariant-loop-block
invariant-loop-block l = record {
  all : l.block.items ++ l.behind.items ≡ l.fn.block.items;
  more : 64 ≤ length l.block.items;
  capacity : vec_capacity l.block ≡ vec_capacity l.fn.block;
  roomy : 128 ≤ vec_capacity l.behind;
}

abbrev pub decreases-loop-block : goal.decreases-loop-block
decreases-loop-block l = length l.block.items
