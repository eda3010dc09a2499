use Rattle.std.proofs.Common.{◌≡◌, ℕ, ◌-◌, ◌<◌, ◌≤◌, false, get_or}
use Rattle.std.specs.Prelude.{◌==◌}
use Rattle.ftp_system.proofs.listen.behind_last_colon.Given as goal

abbrev pub invariant-loop-i : goal.invariant-loop-i
invariant-loop-i l = record {
  within : l.behind ≤ l.i;
  colon : 0 < l.behind → get_or l.text (l.behind - 1) 0 ≡ 58;
  last : (k : ℕ) → l.behind ≤ k → k < l.i → (get_or l.text k 0 == 58) ≡ false;
}
