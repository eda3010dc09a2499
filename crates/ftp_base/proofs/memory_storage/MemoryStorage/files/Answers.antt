use Rattle.std.proofs.Common.{◌∙◌, sym, ap}
use Rattle.std.specs.List.{filter_map}
use Rattle.ftp_base.specs.MemoryStorage.{files_among}
use Rattle.ftp_base.specs.Storage.{file_at}
use Rattle.ftp_base.proofs.MemoryListing.{entries-files_of}
use Rattle.ftp_base.proofs.memory_storage.MemoryStorage.files.Goals as goal

pub returns : goal.returns
returns c =
    rw (← c.self.view_is)
    (ap files_among c.iter.ensures.rest ∙ ap (filter_map file_at) (sym (entries-files_of c.self.inside.nodes.entries c.iter.ensures.ordered)))
