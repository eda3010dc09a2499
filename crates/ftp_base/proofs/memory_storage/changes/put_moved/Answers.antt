use Rattle.std.proofs.Common.{◌≡◌, ◌∙◌, ℕ, List, false, sym, ap}
use Rattle.std.specs.FinMap as map
use Rattle.std.specs.Str.{bytes_eq}
use Rattle.ftp_base.specs.Storage.{Item}
use Rattle.ftp_base.specs.MemoryStorage.{item_of, files_of}
use Rattle.ftp_base.specs.Moved.{moved_path}
use Rattle.ftp_base.proofs.MemoryFiles.{files_of-insert_entry}
use Rattle.ftp_base.proofs.memory_storage.changes.put_moved.Goals as goal

pub returns : goal.returns
returns c =
    let apart : bytes_eq c.args.path.now c.args.to.now ≡ false = sym c.eq.ensures ∙ c.if-eq.false in
    let files = files_of c.args.moved.now.entries in
    rw apart
    (ap files_of c.in_ok-insert.ensures.entries
    ∙ files_of-insert_entry c.args.moved.now.entries c.in_ok-path.path c.in_ok-node.node
    ∙ ap (λ (path : List ℕ). map.insert files path (item_of c.in_ok-node.node)) c.in_ok-path.ensures
    ∙ ap (λ (i : Item). map.insert files (moved_path c.args.from.now c.args.to.now c.args.path.now) i) c.in_ok-node.ensures)
