use Rattle.std.proofs.Common.{sym, subst}
use Rattle.std.proofs.Math.Logic.{∥∥₁_map}
use Rattle.std.proofs.lemmas.Result.{IfErr-weaker, IfOk-weaker}
use Rattle.ftp_events.specs.Log.{LogState}
use Rattle.ftp_events.specs.Right.{IsActed, IsRight}
use Rattle.ftp_shared.proofs.locked.Locked.settle.Goals as goal

-- the journal that is compared was right and acted
pub returns-clause-right : goal.returns-clause-right
returns-clause-right g c =
    let o = g.L.Serving.options in
    IfOk-weaker c.compared.result _ _
    (λ log same. subst (λ (l : LogState). ∥ IsRight o l.entries × IsActed o l.entries ∥₁) (sym same) c.in_ok-journal.ensures.right)
    c.compared.ensures.journal

-- so the error tells of such a journal
pub returns-clause-differs_so : goal.returns-clause-differs_so
returns-clause-differs_so g c =
    IfErr-weaker c.compared.result _ _
    (λ e first known. ∥∥₁_map c.in_ok-journal.ensures.right (λ right. record {
      journal = c.in_ok-journal.journal.entries;
      right = right.0;
      acted = right.1;
      first = first;
    }))
    c.compared.ensures.differs
