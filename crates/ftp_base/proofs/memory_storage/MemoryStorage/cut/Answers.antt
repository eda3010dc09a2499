use Rattle.std.proofs.Common.{◌≢◌, ◌∙◌, ℕ, List, Some, sym}
use Rattle.ftp_base.specs.Storage.{Directory, item, cut}
use Rattle.ftp_base.specs.MemoryStorage.{files_of}
use Rattle.ftp_base.proofs.MemoryFiles.{state-same, state-edited, nothing_there, after_error}
use Rattle.ftp_base.proofs.memory_storage.MemoryStorage.cut.Goals as goal

pub returns-in_err-cut-clause-unchanged : goal.returns-in_err-cut-clause-unchanged
returns-in_err-cut-clause-unchanged c =
    after_error c.from_residual.result _
    (state-same c.self.inside.nodes.entries _ c.args.path.now c.in-Some.node.now c.cut.new.self c.self.inside.max_file c.self.inside.calls
    (c.get_mut.follows.holds c.cut.new.self).0 c.in-Some.ensures.value c.cut.ensures.kind c.in_err-cut.ensures.unchanged
    ∙ c.self.view_is)

pub returns-in-Some-clause-begun : goal.returns-in-Some-clause-begun
returns-in-Some-clause-begun c =
    let file : item (files_of c.self.inside.nodes.entries) c.args.path.now ≢ Some Directory = rw (← c.self.view_is) at c.requires.file in
    rw (← c.self.view_is)
    (state-edited (λ (had : List ℕ). cut had c.args.start) c.self.inside.nodes.entries _ c.args.path.now c.in-Some.node.now c.cut.new.self c.self.inside.max_file c.self.inside.calls
    (c.get_mut.follows.holds c.cut.new.self).0 c.in-Some.ensures.value c.requires.other file c.cut.ensures.kind c.in_ok-cut.ensures.begun)

pub returns-clause-begun : goal.returns-clause-begun
returns-clause-begun c =
    let none = nothing_there c.self.inside.nodes.entries c.args.path.now c.requires.other (sym c.in_default.ensures.value) in
    let bytes = rw (c.new-bytes.ensures.items, c.new-bytes.ensures.len) at c.in_ok-resize.ensures.items in
    rw (← c.self.view_is, none) (rw (c.get_mut.follows.holds-at-none, c.in_ok-file.ensures, bytes) at c.put.ensures.stored)
