use Rattle.std.proofs.Common.{◌≡◌, ℕ}
use Rattle.std.specs.BTreeMap as tree
use Rattle.std.specs.Ordering.{nat_cmp}
use Rattle.ftp_check_log.specs.Evidence.{past_at}
use Rattle.ftp_check_log.specs.Grants.{IsLastGrant}
use Rattle.ftp_check_log.proofs.PlaceLemmas.{client_known}
use Rattle.ftp_check_log.proofs.grants.last_grants.Given as goal

-- the clients and the last grants before the place
abbrev pub invariant-loop-place : goal.invariant-loop-place
invariant-loop-place l = record {
  known : (s : ℕ) → tree.get nat_cmp l.clients s ≡ client_known (past_at l.entries l.place) s;
  last : (p : ℕ) → IsLastGrant l.options l.entries l.place l.client p (tree.get nat_cmp l.last p);
}
