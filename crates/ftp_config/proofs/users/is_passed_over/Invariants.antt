use Rattle.std.proofs.Common.{◌≡◌, drop}
use Rattle.ftp_config.specs.Users.{is_passed_over}
use Rattle.ftp_config.proofs.users.is_passed_over.Given as goal

abbrev pub invariant-loop-b : goal.invariant-loop-b
invariant-loop-b l = is_passed_over l.line ≡ is_passed_over (drop l.b-index l.line)
