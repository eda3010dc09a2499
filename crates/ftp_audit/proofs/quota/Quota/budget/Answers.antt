use Rattle.std.proofs.Common.{◌≡◌, Some, ◌∙◌}
use Rattle.std.specs.FinMap as map
use Rattle.ftp_audit.specs.Quota.{IsUnused, IfTrueTo}
use Rattle.ftp_audit.proofs.Begun.{within-unused, same_after}
use Rattle.ftp_audit.proofs.Rules.{agrees-owners}
use Rattle.ftp_audit.proofs.quota.Quota.budget.Goals as goal
use Rattle.ftp_audit.proofs.quota.Quota.budget.Goals.{in-Some, in-None}

pub invariant_of-self : goal.invariant_of-self
invariant_of-self g c =
    elim c.match-self.branch [
      | in-Some w ↦
          let agrees : IfTrueTo (g.S.Storage.files c.self.inside.inner) (Some w.in-Some.accounts) = rw w.in-Some.is at c.self.invariant in
          rw w.self-inside-is
          (agrees-owners (g.S.Storage.files c.self.inside.inner) w.in-Some.accounts w.set_budget.new.self
          (same_after w.set_budget.result w.in-Some.accounts w.set_budget.new.self _ w.set_budget.ensures.set w.set_budget.ensures.unchanged) agrees)
      | in-None w ↦ rw w.self-inside-is c.self.invariant
    ]

pub returns-clause-within : goal.returns-clause-within
returns-clause-within g c unused =
    elim c.match-self.branch [
      | in-Some w ↦
          let inside : IsUnused c.self.inside.accounts = rw (← c.self.view_is) at unused in
          let empty : w.in-Some.accounts.owners ≡ map.empty = rw w.in-Some.is at inside in
          rw w.self-inside-is
          (within-unused w.set_budget.new.self
          (same_after w.set_budget.result w.in-Some.accounts w.set_budget.new.self _ w.set_budget.ensures.set w.set_budget.ensures.unchanged ∙ empty))
      | in-None w ↦ rw (w.self-inside-is, w.in-None.is) tt
    ]
