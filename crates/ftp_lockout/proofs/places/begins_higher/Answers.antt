use Rattle.std.proofs.Common.{ap, ◌∙◌}
use Rattle.std.specs.Ordering.{is_gt}
use Rattle.ftp_lockout.specs.declared.cache.Failures.{Failures}
use Rattle.ftp_lockout.specs.declared.key.LoginKey.{LoginKey}
use Rattle.ftp_lockout.specs.Keys.{key_cmp, key_lent}
use Rattle.ftp_lockout.proofs.BlockLemmas.{got-read, same-got}
use Rattle.ftp_lockout.proofs.places.begins_higher.Goals as goal

pub returns : goal.returns
returns c = λ r got.
    let first = got-read c.args.block.now.items 0 c.index.result.now c.requires.filled c.index.ensures in
    c.is_gt.ensures
    ∙ ap is_gt (c.order.ensures ∙ ap (λ (e : LoginKey × Failures). key_cmp e.0 (key_lent c.args.key)) (same-got c.args.block.now.items 0 c.index.result.now r first got))
