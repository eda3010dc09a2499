use Rattle.std.proofs.Common.{◌≡◌, length, []}
use Rattle.ftp_text.specs.Reading.{text_from}
use Rattle.ftp_text.proofs.Texts.{with_front}
use Rattle.ftp_text.proofs.text.whole_text.Given as goal

abbrev pub invariant-loop-rest : goal.invariant-loop-rest
invariant-loop-rest l = with_front l.out.items (text_from [] l.rest) ≡ text_from [] l.bytes

abbrev pub decreases-loop-rest : goal.decreases-loop-rest
decreases-loop-rest l = length l.rest
