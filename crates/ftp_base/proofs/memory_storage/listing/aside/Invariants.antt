use Rattle.std.proofs.Common.{length, ◌-◌, ◌≤◌}
use Rattle.ftp_base.proofs.memory_storage.listing.aside.Given as goal

abbrev pub invariant-loop-at : goal.invariant-loop-at
invariant-loop-at l = l.at ≤ length l.path

abbrev pub decreases-loop-at : goal.decreases-loop-at
decreases-loop-at l = length l.path - l.at
