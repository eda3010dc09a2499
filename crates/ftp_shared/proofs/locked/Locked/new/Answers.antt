use Rattle.std.proofs.Common.{sym, ap, ◌∙◌, subst, List, length}
use Rattle.ftp_events.specs.declared.entry.Entry.{Entry}
use Rattle.ftp_shared.specs.Keeps.{Keeps}
use Rattle.ftp_shared.proofs.KeepsLemmas.{kept-new}
use Rattle.ftp_shared.proofs.locked.Locked.new.Goals as goal

-- nothing has happened
pub invariant_of-result : goal.invariant_of-result
invariant_of-result g c =
    let o = g.L.Serving.options in
    record {
      kept = ∣ subst (λ (l : List Entry). Keeps o c.new.result l c.new-3.result) (sym c.new-2.ensures)
          (kept-new o c.new.result c.new-3.result c.new.ensures.stands (c.new.ensures.options ∙ c.requires.options) c.new.ensures.count c.new-3.ensures) ∣₁;
      counted = c.requires.none ∙ sym (ap length c.new-2.ensures);
    }
