use Rattle.std.proofs.Common.{◌≤◌, length, drop}
use Rattle.ftp_disk.specs.Patterns.{AreAnswers}
use Rattle.ftp_disk.proofs.pattern.take_all.Given as goal

abbrev pub invariant-loop-i : goal.invariant-loop-i
invariant-loop-i l = record {
  within : l.i ≤ length l.pattern;
  answers : AreAnswers (drop l.i l.pattern) l.name l.row;
}

abbrev pub decreases-loop-i : goal.decreases-loop-i
decreases-loop-i l = l.i
