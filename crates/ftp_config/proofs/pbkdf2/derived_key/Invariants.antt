use Rattle.std.proofs.Common.{◌≡◌}
use Rattle.ftp_config.specs.Pbkdf2.{code_at, combined}
use Rattle.ftp_config.proofs.pbkdf2.derived_key.Given as goal

abbrev pub invariant-loop-i : goal.invariant-loop-i
invariant-loop-i l = (l.code ≡ code_at l.password l.salt l.i) × (l.key ≡ combined l.password l.salt l.i)
