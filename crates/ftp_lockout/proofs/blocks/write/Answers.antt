use Rattle.std.proofs.Common.{ap}
use Rattle.std.proofs.Math.ListN.{set}
use Rattle.ftp_lockout.specs.declared.cache.Failures.{Failures}
use Rattle.ftp_lockout.specs.declared.key.LoginKey.{LoginKey}
use Rattle.ftp_lockout.proofs.BlockLemmas.{got-read, same-got}
use Rattle.ftp_lockout.proofs.blocks.write.Goals as goal

pub returns-clause-items : goal.returns-clause-items
returns-clause-items c = λ r got.
    ap (λ (e : LoginKey × Failures). set c.args.block.now.items c.args.index (e.0, c.args.failures))
    (same-got c.args.block.now.items c.args.index c.index_mut.result.now r (got-read c.args.block.now.items c.args.index c.index_mut.result.now c.requires c.index_mut.ensures.value) got)
