use Rattle.std.proofs.Common.{◌≡◌, length, arith}
use Rattle.ftp_lockout.proofs.BlockEdits.{halves}
use Rattle.ftp_lockout.proofs.blocks.halve.Goals as goal

pub returns-clause-front : goal.returns-clause-front
returns-clause-front c =
    let len : length c.loop-block.block.items ≡ 64 = omega arith in
    (halves c.loop-block.block.items c.loop-block.behind.items c.args.block.now.items 64 c.loop-block.invariant.all len).0

pub returns-clause-rest : goal.returns-clause-rest
returns-clause-rest c =
    let len : length c.loop-block.block.items ≡ 64 = omega arith in
    (halves c.loop-block.block.items c.loop-block.behind.items c.args.block.now.items 64 c.loop-block.invariant.all len).1
