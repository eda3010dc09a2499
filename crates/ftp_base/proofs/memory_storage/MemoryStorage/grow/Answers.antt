use Rattle.std.proofs.Common.{◌∙◌, ℕ, List, ◌++◌, sym}
use Rattle.std.specs.Prelude.{IsSome}
use Rattle.ftp_base.specs.Storage.{contents}
use Rattle.ftp_base.specs.MemoryStorage.{files_of}
use Rattle.ftp_base.proofs.MemoryFiles.{state-same, state-edited, contents_apart, file_has_node, after_error}
use Rattle.ftp_base.proofs.memory_storage.MemoryStorage.grow.Goals as goal

pub unreachable-requires : goal.unreachable-requires
unreachable-requires c =
    let file : IsSome (contents (files_of c.self.inside.nodes.entries) c.args.path.now) = rw (← c.self.view_is) at c.requires.file in
    absurd (file_has_node c.self.inside.nodes.entries c.args.path.now file (sym c.in_default.ensures.value))

pub returns-in_err-grow-clause-unchanged : goal.returns-in_err-grow-clause-unchanged
returns-in_err-grow-clause-unchanged c =
    after_error c.from_residual.result _
    (state-same c.self.inside.nodes.entries _ c.args.path.now c.in-Some.node.now c.grow.new.self c.self.inside.max_file c.self.inside.calls
    (c.get_mut.follows.holds c.grow.new.self).0 c.in-Some.ensures.value c.grow.ensures.kind c.in_err-grow.ensures.unchanged
    ∙ c.self.view_is)

pub returns-clause-grown : goal.returns-clause-grown
returns-clause-grown c =
    let file : IsSome (contents (files_of c.self.inside.nodes.entries) c.args.path.now) = rw (← c.self.view_is) at c.requires.file in
    let apart = contents_apart (files_of c.self.inside.nodes.entries) c.args.path.now file in
    rw (← c.self.view_is)
    (state-edited (λ (had : List ℕ). had ++ c.args.bytes.now) c.self.inside.nodes.entries _ c.args.path.now c.in-Some.node.now c.grow.new.self c.self.inside.max_file c.self.inside.calls
    (c.get_mut.follows.holds c.grow.new.self).0 c.in-Some.ensures.value apart.0 apart.1 c.grow.ensures.kind c.in_ok-grow.ensures.grown)
