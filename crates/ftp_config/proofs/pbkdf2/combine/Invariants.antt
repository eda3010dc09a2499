use Rattle.std.proofs.Common.{◌≡◌}
use Rattle.ftp_config.proofs.CodeLemmas.{combined_front}
use Rattle.ftp_config.proofs.pbkdf2.combine.Given as goal

abbrev pub invariant-loop-i : goal.invariant-loop-i
invariant-loop-i l = l.key ≡ combined_front l.i l.fn.key l.code
