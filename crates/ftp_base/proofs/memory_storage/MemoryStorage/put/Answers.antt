use Rattle.std.proofs.Common.{◌≡◌, ◌∙◌, ℕ, List, ap}
use Rattle.std.specs.FinMap as map
use Rattle.ftp_base.specs.Storage.{Files}
use Rattle.ftp_base.specs.MemoryStorage.{item_of, files_of}
use Rattle.ftp_base.proofs.MemoryFiles.{state, files_of-insert_entry}
use Rattle.ftp_base.proofs.memory_storage.MemoryStorage.put.Goals as goal

pub returns-clause-stored : goal.returns-clause-stored
returns-clause-stored c =
    let nodes = c.self.inside.nodes.entries in
    let files : files_of c.insert.new.self.entries ≡ map.insert (files_of c.self.inside.nodes.entries) c.args.path.now (item_of c.args.node) =
    ap files_of c.in_ok-insert.ensures.entries
    ∙ files_of-insert_entry c.self.inside.nodes.entries c.in_ok-key.key c.args.node
    ∙ ap (λ (path : List ℕ). map.insert (files_of c.self.inside.nodes.entries) path (item_of c.args.node)) c.in_ok-key.ensures.items
    in
    rw (← c.self.view_is) (ap (λ (f : Files). state f c.self.inside.max_file c.self.inside.calls) files)
