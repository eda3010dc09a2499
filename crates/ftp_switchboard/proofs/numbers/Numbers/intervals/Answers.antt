use Rattle.std.proofs.Common.{subst, sym}
use Rattle.std.proofs.lemmas.Result.{IfOk-weaker}
use Rattle.ftp_switchboard.specs.Used.{IsApart}
use Rattle.ftp_switchboard.proofs.SettledLemmas.{IsApart-disjoint}
use Rattle.ftp_switchboard.proofs.numbers.Numbers.intervals.Goals as goal

pub returns-clause-apart : goal.returns-clause-apart
returns-clause-apart c =
    let apart = IsApart-disjoint c.in_ok-all_settled.field-0.entries c.list.ensures.ordered
    c.in_ok-all_settled.ensures.disjoint in
    IfOk-weaker _ _ _ (λ intervals same. subst IsApart (sym same) apart) c.list.ensures.all
