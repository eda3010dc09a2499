use Rattle.std.proofs.Common.{◌≡◌, map as map_list}
use Rattle.ftp_base.specs.Storage.{info_of}
use Rattle.ftp_base.specs.MemoryStorage.{placed}
use Rattle.ftp_base.proofs.memory_storage.listing.infos_of.Given as goal

-- what is shown of the children so far
abbrev pub invariant-loop-place : goal.invariant-loop-place
invariant-loop-place l = l.found.items ≡ map_list info_of (placed l.yielded)
