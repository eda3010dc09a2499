-- What a line gives behind the lines before it.
use Rattle.std.proofs.Common.{◌≡◌, ℕ, ◌≤◌, List, length, sym, ap, subst, ◌∙◌}
use Rattle.std.specs.Prelude.{Result, Ok, Err, IfOk}
use Rattle.ftp_text.specs.declared.fault.LineFault.{LineFault}
use Rattle.ftp_text.specs.declared.fault.LineFault.TheVariants as fault
use Rattle.ftp_text.specs.declared.setup.Item.{Item}
use Rattle.ftp_text.specs.Setup.{IsItemOf}
use Rattle.ftp_script_run.specs.declared.admission.Admission.{Admission}
use Rattle.ftp_script_run.specs.Script.{may_stand}
use Rattle.ftp_script_run.specs.Admission.{LetsIn, GivesItem}

-- what was let in is what the line gives, as the line has no other item
pub GivesItem-from_LetsIn : (before : List Item) (taken : ℕ) (line : List ℕ) (i : Item) (r : Result Item LineFault) (later : Admission) →
    length line ≤ 65536 →
    taken ≤ 16777216 →
    IsItemOf line i →
    ((j : Item) → IsItemOf line j → j ≡ i) →
    IfOk r (λ j. j ≡ i) →
    LetsIn before i r later →
    GivesItem before taken line r later
GivesItem-from_LetsIn before taken line i (Ok j) later short small spelled only same let_in = (
  record {
    spelled = subst (IsItemOf line) (sym same) spelled;
    stands = ap (may_stand before) same ∙ let_in.0;
    short = short;
    small = small;
  },
  rw same let_in.1,
)
GivesItem-from_LetsIn before taken line i (Err fault.Bad) later short small spelled only same let_in = (
  λ j next. (let bad = let_in.0 in let good = next.stands in let is = ap (may_stand before) (only j next.spelled) in absurd cc),
  let_in.1,
)
GivesItem-from_LetsIn before taken line i (Err fault.Memory) later short small spelled only same let_in = let_in
