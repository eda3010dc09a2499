use Rattle.std.proofs.Common.{◌≡◌, ◌∙◌, None, sym, ap}
use Rattle.std.specs.Map.{lookup, remove_entry}
use Rattle.ftp_base.specs.Storage.{Files}
use Rattle.ftp_base.specs.MemoryStorage.{files_of}
use Rattle.ftp_base.proofs.MemoryFiles.{at_path, state, files_of-remove_entry}
use Rattle.ftp_base.proofs.memory_storage.MemoryStorage.take_away.Goals as goal

pub returns : goal.returns
returns c = record {
  taken =
      let path = c.args.path.now in
      let nodes = c.self.inside.nodes.entries in
      let gone : lookup (at_path path) (remove_entry (at_path path) nodes) ≡ None =
      ap (lookup (at_path path)) (sym c.remove.ensures.entries) ∙ c.remove.ensures.updates.1
      in
      rw (← c.self.view_is)
      (ap (λ (f : Files). state f c.self.inside.max_file c.self.inside.calls) (ap files_of c.remove.ensures.entries ∙ files_of-remove_entry nodes path gone));
}
