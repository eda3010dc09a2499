use Rattle.std.proofs.Common.{◌≡◌, ◌<◌, ℕ, false, get_or}
use Rattle.ftp_talk.specs.Commands.{is_colon}
use Rattle.ftp_talk.proofs.control_session.colon_in.Given as goal

abbrev pub invariant-loop-i : goal.invariant-loop-i
invariant-loop-i l = (k : ℕ) → k < l.i → is_colon (get_or l.bytes k 0) ≡ false
