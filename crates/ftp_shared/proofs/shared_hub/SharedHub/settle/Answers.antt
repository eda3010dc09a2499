use Rattle.std.proofs.Common.{arith}
use Rattle.std.proofs.Math.Arith.{lt_of_le-ne}
use Rattle.std.proofs.lemmas.Result.{IfErr-weaker}
use Rattle.ftp_shared.proofs.shared_hub.SharedHub.settle.Goals as goal

-- at least one part lay under the lock
pub returns-clause-gone : goal.returns-clause-gone
returns-clause-gone g c =
    IfErr-weaker c.settle.result _ _
    (λ e other missing.
    let below = lt_of_le-ne c.settle.ensures.apart (other missing) in
    omega (arith, below, c.into_inner.result.parts.some))
    c.settle.ensures.whole
