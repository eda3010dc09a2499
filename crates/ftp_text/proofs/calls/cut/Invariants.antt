use Rattle.std.proofs.Common.{◌≡◌, ◌<◌, ℕ, false, get_or}
use Rattle.ftp_text.specs.Reading.{is_comma}
use Rattle.ftp_text.proofs.calls.cut.Given as goal

abbrev pub invariant-loop-i : goal.invariant-loop-i
invariant-loop-i l = (k : ℕ) → k < l.i → is_comma (get_or l.bytes k 0) ≡ false
