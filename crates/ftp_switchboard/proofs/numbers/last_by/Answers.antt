use Rattle.std.proofs.Common.{ap, arith, rules, Option, None, Some}
use Rattle.std.specs.Option.{IfNone, is_some}
use Rattle.std.proofs.lemmas.Bool.Decides.{nat_tests}
use Rattle.std.proofs.lemmas.Map.Keys.{le_from_not_gt, ge_from_not_lt}
use Rattle.ftp_switchboard.specs.Settled.{BeginsNoneBy}
use Rattle.ftp_switchboard.proofs.SettledLemmas.{is_used-none, is_used-last}
use Rattle.ftp_switchboard.proofs.numbers.last_by.Goals as goal

pub returns-clause-found : goal.returns-clause-found
returns-clause-found c =
    let range = c.range.ensures.in_range tt in
    let last = range.3 (c.in_ok-lo.lo.now, c.in_ok-lo.hi.now) _ c.in_ok-lo.ensures.steps in
    let greatest = range.4 (c.in_ok-lo.lo.now, c.in_ok-lo.hi.now) _ c.in_ok-lo.ensures.steps in
    record {
      ends = last.1;
      from = le_from_not_gt _ _ last.0.1;
      last = λ other end le ends.
          ge_from_not_lt _ _ (greatest other (tt, grind (arith, nat_tests)) (ap is_some ends));
    }

pub returns-clause-used : goal.returns-clause-used
returns-clause-used c = is_used-last c.args.settled.now.entries c.args.n c.in_ok-lo.lo.now c.in_ok-lo.hi.now c.range.ensures.ordered c.requires (returns-clause-found c)

-- nothing is found where no interval begins by the number
none-unused : {A : Type 0} (found : Option A) (P Q : Type 0) → (P → Q) → IfNone found P → IfNone found Q
none-unused None P Q then none = then none
none-unused (Some x) P Q then none = tt

pub returns-in_err-lo-clause-unused : goal.returns-in_err-lo-clause-unused
returns-in_err-lo-clause-unused c =
    none-unused c.from_residual.result (BeginsNoneBy c.args.settled.now.entries c.args.n) _
    (is_used-none c.args.settled.now.entries c.args.n c.range.ensures.ordered) (search rules)
