use Rattle.std.proofs.Common.{arith}
use Rattle.ftp_config.proofs.CodeLemmas.{padded_front-more}
use Rattle.ftp_config.proofs.hmac.put_pad.Goals as goal

pub loop-i-preserved : goal.loop-i-preserved
loop-i-preserved c = padded_front-more c.args.block.now c.loop-i.block c.args.pad c.loop-i.i (omega arith) c.loop-i.invariant
