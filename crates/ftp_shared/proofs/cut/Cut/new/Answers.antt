use Rattle.std.proofs.Common.{sym, ap, ◌∙◌, subst, List, [], length, arith}
use Rattle.ftp_events.specs.declared.entry.Entry.{Entry}
use Rattle.ftp_shared.specs.Cut.{KeepsCut}
use Rattle.ftp_shared.proofs.CutLemmas.{cut-new}
use Rattle.ftp_shared.proofs.KeepsLemmas.{kept-new}
use Rattle.ftp_shared.proofs.cut.Cut.new.Goals as goal

-- nothing has happened
pub invariant_of-result : goal.invariant_of-result
invariant_of-result g c =
    let o = g.L.Serving.options in
    let none = ap length c.new-2.ensures in
    record {
      some = c.requires.some;
      bounded = omega (arith, none);
      kept = ∣ subst (λ (l : List Entry). KeepsCut o c.new.result l c.new-3.result) (sym c.new-2.ensures)
          (cut-new o c.new.result [] c.new-3.result
          (kept-new o c.new.result c.new-3.result c.new.ensures.stands (c.new.ensures.options ∙ c.requires.options) c.new.ensures.count c.new-3.ensures)) ∣₁;
    }
