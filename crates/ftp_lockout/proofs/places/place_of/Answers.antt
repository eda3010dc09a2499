use Rattle.std.proofs.Common.{◌≡◌, ℕ, true, nat_eq, length, sym, ◌∙◌, arith}
use Rattle.std.proofs.lemmas.Bool.Decides.{nat_tests}
use Rattle.ftp_lockout.specs.Keys.{key_lent}
use Rattle.ftp_lockout.proofs.BlockLemmas.{got-read, same-got, order-of, at-in, gap-in, gap-none}
use Rattle.ftp_lockout.proofs.places.place_of.Goals as goal

none : (n : ℕ) → nat_eq n 0 ≡ true → n ≡ 0
none n h = grind (arith, nat_tests)

pub returns-then-is_empty-clause-absent : goal.returns-then-is_empty-clause-absent
returns-then-is_empty-clause-absent c = gap-none c.args.blocks.now 0 (key_lent c.args.key)
    (none (length c.args.blocks.now) (sym c.is_empty.ensures ∙ c.if-is_empty.true))

pub place_in_block-requires : goal.place_in_block-requires
place_in_block-requires c =
    let v = c.index-blocks-block.result in
    order-of c.args.blocks.now c.block_of-block.result v c.requires.order (got-read c.args.blocks.now c.block_of-block.result v c.block_of-block.ensures.within c.index-blocks-block.is)

pub returns-in-Ok-clause-found : goal.returns-in-Ok-clause-found
returns-in-Ok-clause-found c =
    let v = c.index-blocks-block.result in
    let got = got-read c.args.blocks.now c.block_of-block.result v c.block_of-block.ensures.within c.index-blocks-block.is in
    at-in c.args.blocks.now c.block_of-block.result v (key_lent c.args.key) c.in-Ok.index got c.in-Ok.ensures.found

pub returns-in-Ok-clause-place : goal.returns-in-Ok-clause-place
returns-in-Ok-clause-place c =
    let v = c.index-blocks-block.result in
    let got = got-read c.args.blocks.now c.block_of-block.result v c.block_of-block.ensures.within c.index-blocks-block.is in
    record {
      block = c.block_of-block.ensures.within;
      index = λ w there. rw (same-got c.args.blocks.now c.block_of-block.result w v there got) c.in-Ok.ensures.found.within;
    }

pub returns-in-Err-clause-absent : goal.returns-in-Err-clause-absent
returns-in-Err-clause-absent c =
    let v = c.index-blocks-block.result in
    let got = got-read c.args.blocks.now c.block_of-block.result v c.block_of-block.ensures.within c.index-blocks-block.is in
    gap-in c.args.blocks.now c.block_of-block.result v (key_lent c.args.key) c.in-Err.index got c.in-Err.ensures.absent c.block_of-block.ensures.lower c.block_of-block.ensures.higher

pub returns-in-Err-clause-gap : goal.returns-in-Err-clause-gap
returns-in-Err-clause-gap c = λ some.
    let v = c.index-blocks-block.result in
    let got = got-read c.args.blocks.now c.block_of-block.result v c.block_of-block.ensures.within c.index-blocks-block.is in
    record {
      block = c.block_of-block.ensures.within;
      index = λ w there. rw (same-got c.args.blocks.now c.block_of-block.result w v there got) c.in-Err.ensures.absent.within;
    }
