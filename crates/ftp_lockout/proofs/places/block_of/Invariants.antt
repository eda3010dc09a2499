use Rattle.std.proofs.Common.{◌≡◌, ℕ, ◌-◌, ◌<◌, ◌≤◌, length, take, drop, Some}
use Rattle.std.specs.Prelude.{slice_get}
use Rattle.std.specs.declared.cmp.Ordering.TheVariants.{Less}
use Rattle.ftp_lockout.specs.declared.cache.Failures.{Failures}
use Rattle.ftp_lockout.specs.declared.key.LoginKey.{LoginKey}
use Rattle.ftp_lockout.specs.Keys.{key_cmp, key_lent}
use Rattle.ftp_lockout.specs.Places.{records_in}
use Rattle.ftp_lockout.proofs.places.block_of.Given as goal

-- what stands before the lower block is below the key, and what stands from the higher one on above it
abbrev pub invariant-loop-low : goal.invariant-loop-low
invariant-loop-low l = record {
  order : l.low ≤ l.high;
  within : l.high ≤ length l.blocks;
  some : 0 < length l.blocks → l.low < l.high;
  lower : (i : ℕ) (r : LoginKey × Failures) → slice_get (records_in (take l.low l.blocks)) i ≡ Some r → key_cmp r.0 (key_lent l.key) ≡ Less;
  higher : (i : ℕ) (r : LoginKey × Failures) → slice_get (records_in (drop l.high l.blocks)) i ≡ Some r → key_cmp (key_lent l.key) r.0 ≡ Less;
}

abbrev pub decreases-loop-low : goal.decreases-loop-low
decreases-loop-low l = l.high - l.low
