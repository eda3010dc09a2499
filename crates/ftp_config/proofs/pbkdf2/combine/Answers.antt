use Rattle.std.proofs.Common.{arith}
use Rattle.ftp_config.proofs.CodeLemmas.{combined_front-more}
use Rattle.ftp_config.proofs.pbkdf2.combine.Goals as goal

pub loop-i-preserved : goal.loop-i-preserved
loop-i-preserved c = combined_front-more c.args.key.now c.args.code.now c.loop-i.key c.loop-i.i (omega arith) (omega arith) c.loop-i.invariant
