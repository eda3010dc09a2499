use Rattle.std.proofs.Common.{◌≡◌, ℕ, ◌<◌, true, take}
use Rattle.ftp_config.specs.Users.{HasUsersOf, is_good_at}
use Rattle.ftp_config.proofs.PartLemmas.{texts}
use Rattle.ftp_config.proofs.users.Users.of_lines.Given as goal

abbrev pub invariant-loop-i : goal.invariant-loop-i
invariant-loop-i l = HasUsersOf l.by_name.entries (take l.i (texts l.lines)) × ((k : ℕ) → k < l.i → is_good_at (texts l.lines) k ≡ true)
