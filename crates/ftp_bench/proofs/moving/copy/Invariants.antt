use Rattle.std.proofs.Common.{◌≡◌, ◌++◌}
use Rattle.std.specs.Slice.Iter.{chunks_rest}
use Rattle.ftp_bench.proofs.moving.copy.Given as goal

-- what was copied and what is left are the bytes
abbrev pub invariant-loop-chunk : goal.invariant-loop-chunk
invariant-loop-chunk l = record {
  can_next : goal.iterator-loop-chunk.can_next l.chunk-iterator;
  is_finite : goal.iterator-loop-chunk.is_finite l.chunk-iterator;
  copied : l.copied.items ++ chunks_rest l.chunk-iterator ≡ l.bytes;
}
