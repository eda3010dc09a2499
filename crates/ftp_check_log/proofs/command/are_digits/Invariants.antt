use Rattle.std.proofs.Common.{ℕ, ◌<◌, get_or}
use Rattle.std.specs.Int.{IsInRange}
use Rattle.ftp_check_log.proofs.command.are_digits.Given as goal

abbrev pub invariant-loop-b : goal.invariant-loop-b
invariant-loop-b l = (k : ℕ) → k < l.b-index → IsInRange 48 57 (get_or l.word k 0)
