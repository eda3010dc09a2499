use Rattle.std.proofs.Common.{◌∙◌, sym, ap, Some, None}
use Rattle.ftp_base.proofs.MemoryFiles.{item-found}
use Rattle.ftp_base.proofs.memory_storage.MemoryStorage.find.Goals as goal

pub returns-in_err-node : goal.returns-in_err-node
returns-in_err-node c =
    rw (c.from_residual.ensures, ← c.self.view_is)
    (sym (item-found c.self.inside.nodes.entries c.args.path.now None (sym c.is_root.ensures ∙ c.if-is_root.false) (sym c.in_err-node.ensures.value)))

pub returns : goal.returns
returns c =
    rw (← c.self.view_is)
    (ap Some c.standing.ensures
    ∙ sym (item-found c.self.inside.nodes.entries c.args.path.now (Some c.in_ok-node.node.now) (sym c.is_root.ensures ∙ c.if-is_root.false) (sym c.in_ok-node.ensures.value)))
