use Rattle.std.proofs.Common.{◌≡◌, ℕ, ◌+◌, ◌-◌, ◌/◌, drop, Some, subst, arith}
use Rattle.std.specs.Prelude.{slice_get}
use Rattle.ftp_lockout.specs.Keys.{key_lent}
use Rattle.ftp_lockout.specs.Places.{records_in}
use Rattle.ftp_lockout.proofs.BlockLemmas.{got-read, block-above, block-below, none-behind}
use Rattle.ftp_lockout.proofs.places.block_of.Goals as goal
use Rattle.ftp_lockout.proofs.places.block_of.Goals.{After-index-blocks-middle}

pub loop-low-init : goal.loop-low-init
loop-low-init c = record {
  order = omega arith;
  within = omega arith;
  some = λ some. omega arith;
  lower = λ i r got. cc;
  higher = λ i r got. absurd (none-behind c.args.blocks.now i r got);
}

-- the block in the middle, as it is read
middle_read : (c : After-index-blocks-middle) → slice_get c.args.blocks.now (c.loop-low.low + (c.loop-low.high - c.loop-low.low) / 2) ≡ Some c.index-blocks-middle.result
middle_read c = got-read c.args.blocks.now _ c.index-blocks-middle.result (omega arith) c.index-blocks-middle.is

pub begins_higher-requires : goal.begins_higher-requires
begins_higher-requires c = record { filled = (c.requires.blocks _ c.index-blocks-middle.result (middle_read c)).filled }

pub loop-low-preserved-then-begins_higher : goal.loop-low-preserved-then-begins_higher
loop-low-preserved-then-begins_higher c = record {
  order = omega arith;
  within = omega arith;
  some = λ some. omega arith;
  lower = c.loop-low.invariant.lower;
  higher = block-above _ _ _ (key_lent c.args.key) c.requires.order c.requires.blocks (middle_read c.before.before) (rw c.if-begins_higher.true at c.begins_higher.ensures);
}

pub loop-low-preserved : goal.loop-low-preserved
loop-low-preserved c = record {
  order = omega arith;
  within = omega arith;
  some = λ some. omega arith;
  lower = block-below _ _ _ (key_lent c.args.key) c.requires.order c.requires.blocks (middle_read c.before.before) (rw c.if-begins_higher.false at c.begins_higher.ensures);
  higher = c.loop-low.invariant.higher;
}

pub returns-clause-higher : goal.returns-clause-higher
returns-clause-higher c = λ i r got.
    let less = c.loop-low.invariant.some c.requires.some in
    let last : c.loop-low.low + 1 ≡ c.loop-low.high = omega (arith, less) in
    c.loop-low.invariant.higher i r (subst (λ (n : ℕ). slice_get (records_in (drop n c.args.blocks.now)) i ≡ Some r) last got)
