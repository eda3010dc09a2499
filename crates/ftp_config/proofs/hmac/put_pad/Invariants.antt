use Rattle.std.proofs.Common.{◌≡◌}
use Rattle.ftp_config.proofs.CodeLemmas.{padded_front}
use Rattle.ftp_config.proofs.hmac.put_pad.Given as goal

abbrev pub invariant-loop-i : goal.invariant-loop-i
invariant-loop-i l = l.block ≡ padded_front l.i l.fn.block l.pad
