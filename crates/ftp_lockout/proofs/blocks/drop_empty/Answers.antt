use Rattle.std.proofs.Common.{rules, ap, sym, subst, ◌∙◌}
use Rattle.std.proofs.lemmas.Fn.{filter_same}
use Rattle.ftp_lockout.specs.Places.{AreBlocks, records_in}
use Rattle.ftp_lockout.proofs.BlockEdits.{has_record, records-filled, blocks-filled}
use Rattle.ftp_lockout.proofs.blocks.drop_empty.Goals as goal

pub returns-clause-records : goal.returns-clause-records
returns-clause-records c =
    ap records_in (filter_same _ has_record _ (λ x b f' called. search rules) _ _ c.retain.ensures.filtered)
    ∙ records-filled c.args.blocks.now.items

pub returns-clause-blocks : goal.returns-clause-blocks
returns-clause-blocks c =
    subst AreBlocks (sym (filter_same _ has_record _ (λ x b f' called. search rules) _ _ c.retain.ensures.filtered))
    (blocks-filled c.args.blocks.now.items c.requires.roomy)
