use Rattle.std.proofs.Common.{rules, refl, sym, subst, ap, ◌∙◌}
use Rattle.std.specs.Ordering.{nat_cmp}
use Rattle.std.specs.List.Sorted.{IsSortedByKey}
use Rattle.std.proofs.lemmas.List.Sorted.{answers_always}
use Rattle.ftp_base.specs.Calls.{rises_above}
use Rattle.ftp_base.proofs.CallsLemmas.{IsSortedByKey-rises, fault_limit_by-first}
use Rattle.ftp_base.proofs.calls.Calls.new.Goals as goal
use Rattle.ftp_base.proofs.calls.Calls.new.Goals.{then-not-rise, else-not-rise}

pub invariant_of-result : goal.invariant_of-result
invariant_of-result g c =
    elim c.if-not-rise.branch [
      | then-not-rise w ↦
          subst (λ v. IsSortedByKey g.T.FailingCall.number nat_cmp v.items) (sym w.failing-is)
          (w.sort_unstable_by_key.ensures.sorted g.T.FailingCall.number (answers_always _ _ _ (λ f a r next called. search rules)))
      | else-not-rise w ↦
          subst (λ v. IsSortedByKey g.T.FailingCall.number nat_cmp v.items) (sym w.failing-is)
          (IsSortedByKey-rises g.T.FailingCall.number 0 c.args.failing.items
          (ap (rises_above g.T.FailingCall.number 0) (sym c.as_slice.ensures.value) ∙ sym c.rise.ensures ∙ w.if-not-rise.false))
    ]

pub returns-clause-kept : goal.returns-clause-kept
returns-clause-kept g c rises = search rules

pub returns-clause-limit : goal.returns-clause-limit
returns-clause-limit g c rises =
    fault_limit_by-first g.T.FailingCall.number (record { made = 0; faults = 0; failing = c.if-not-rise.failing.items })
    c.args.failing.items refl refl (returns-clause-kept g c rises) rises
