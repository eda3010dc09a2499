use Rattle.std.proofs.Common.{◌≡◌, length}
use Rattle.ftp_base.specs.MemoryStorage.{files_among}
use Rattle.ftp_base.proofs.memory_storage.stored_files.StoredFilesIterator.next.Given as goal

-- no file was left out
abbrev pub invariant-loop-path : goal.invariant-loop-path
invariant-loop-path l = files_among l.self-inside.nodes ≡ l.fn.self

abbrev pub decreases-loop-path : goal.decreases-loop-path
decreases-loop-path l = length l.self-inside.nodes
