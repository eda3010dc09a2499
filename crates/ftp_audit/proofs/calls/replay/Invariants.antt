use Rattle.std.proofs.Common.{◌≡◌, ℕ, ◌≤◌, List, length, vec_capacity}
use Rattle.ftp_base.specs.Kept.{CountsOn}
use Rattle.ftp_audit.specs.Quota.{budget_or, IsTrueTo, AllWithin}
use Rattle.ftp_audit.proofs.Replayed.{Replaying}
use Rattle.ftp_audit.proofs.calls.replay.Given as goal

abbrev pub invariant-loop-call : goal.invariant-loop-call
invariant-loop-call g l = record {
  room : length l.calls ≤ vec_capacity l.verdicts;
  so_far : Replaying (g.S.Storage.rule l.initial.q.inner) (g.S.Storage.rule l.q.inner) (g.S.Storage.files l.initial.q.inner) (g.S.Storage.files l.q.inner) l.initial.q.accounts l.q.accounts
      (g.S.Storage.faults l.initial.q.inner) (g.S.Storage.faults l.q.inner) l.calls l.call-index l.verdicts.items;
  agreed : IsTrueTo (g.S.Storage.files l.initial.q.inner) l.initial.q.accounts → IsTrueTo (g.S.Storage.files l.q.inner) l.q.accounts;
  owners_within : AllWithin l.initial.q.accounts → AllWithin l.q.accounts;
  budgets : (user : List ℕ) → budget_or l.q.accounts user ≡ budget_or l.initial.q.accounts user;
  storage : CountsOn g.S.Storage.faults g.S.Storage.fault_limit l.initial.q.inner l.q.inner;
}
