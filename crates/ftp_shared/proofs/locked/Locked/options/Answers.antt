use Rattle.std.proofs.Common.{◌∙◌}
use Rattle.std.proofs.Math.Logic.{∥∥₁_elim}
use Rattle.ftp_shared.proofs.KeepsLemmas.{options-set}
use Rattle.ftp_shared.proofs.locked.Locked.options.Goals as goal

-- the hub has the options of the server
pub returns : goal.returns
returns g c =
    ∥∥₁_elim c.args.self.now.kept (options-set c.options.result.now g.L.Serving.options) (λ k. c.options.ensures ∙ k.options)
