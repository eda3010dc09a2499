use Rattle.ftp_base.proofs.MemoryListing.{entries-files_of}
use Rattle.ftp_base.proofs.memory_storage.changes.moved_nodes.Goals as goal

pub returns-clause-ordered : goal.returns-clause-ordered
returns-clause-ordered c = entries-files_of c.args.nodes.now.entries c.iter-path-items.ensures.ordered
