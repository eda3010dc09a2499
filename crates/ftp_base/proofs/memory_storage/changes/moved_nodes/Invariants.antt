use Rattle.std.proofs.Common.{◌≡◌}
use Rattle.std.specs.FinMap as map
use Rattle.std.specs.List.{fold}
use Rattle.ftp_base.specs.MemoryStorage.{items, files_of}
use Rattle.ftp_base.specs.Moved.{with_moved}
use Rattle.ftp_base.proofs.memory_storage.changes.moved_nodes.Given as goal

-- what is left to be moved leads to the same files
abbrev pub invariant-loop-path : goal.invariant-loop-path
invariant-loop-path l =
    fold (with_moved l.from l.to) (files_of l.moved.entries) (items l.path-iterator) ≡ fold (with_moved l.from l.to) map.empty (items l.nodes.entries)
