use Rattle.std.proofs.Common.{◌≡◌, ◌≤◌, length, ap, subst, sym, arith}
use Rattle.std.specs.declared.vec.Vec.{Vec}
use Rattle.ftp_lockout.specs.declared.cache.Failures.{Failures}
use Rattle.ftp_lockout.specs.declared.key.LoginKey.{LoginKey}
use Rattle.ftp_lockout.proofs.BlockLemmas.{Blocks, got-read, same-got}
use Rattle.ftp_lockout.proofs.BlockEdits.{IsHalved, halved-all, front-gap, rear-gap}
use Rattle.ftp_lockout.proofs.blocks.open_block.Goals as goal
use Rattle.ftp_lockout.proofs.blocks.open_block.Goals.{After-add_block}

-- the block of the place was full, and stands in halves
halves : (c : After-add_block) → (c.args.place.index ≤ 128) × IsHalved c.args.blocks.now.items c.add_block.new.blocks.items c.args.place.block c.halve.new.block c.halve.new.behind
halves c =
    let bs = c.args.blocks.now.items in
    let b = c.args.place.block in
    let u = c.index.result.now in
    let v = c.index_mut.result.now in
    let first = got-read bs b u c.requires.gap.block c.index.ensures in
    let got = got-read bs b v c.requires.gap.block c.index_mut.ensures.value in
    let same = ap (λ (x : Vec (LoginKey × Failures) _). length x.items) (same-got bs b u v first got) in
    let full : length v.items ≡ 128 = omega (arith, u.ok.0, c.len.ensures, same, c.if-len-lt-BLOCK.false, (c.requires.blocks b v got).few) in
    let le = c.requires.gap.index v got in (
      omega (arith, le, full),
      subst (λ (x : Blocks _). IsHalved bs x b c.halve.new.block c.halve.new.behind) (sym c.add_block.ensures.items)
          (halved-all bs b v c.halve.new.block c.halve.new.behind c.requires.blocks got full c.halve.ensures.front c.halve.ensures.rest c.halve.ensures.capacity c.halve.ensures.roomy),
    )

-- ---- the place stays

pub returns-then-place-le-HALF-clause-records : goal.returns-then-place-le-HALF-clause-records
returns-then-place-le-HALF-clause-records c = (halves c.before.before).1.records

pub returns-then-place-le-HALF-clause-blocks : goal.returns-then-place-le-HALF-clause-blocks
returns-then-place-le-HALF-clause-blocks c = (halves c.before.before).1.blocks

pub returns-then-place-le-HALF-clause-gap : goal.returns-then-place-le-HALF-clause-gap
returns-then-place-le-HALF-clause-gap c = (front-gap _ _ _ _ c.args.place (halves c.before.before).1 c.if-place-le-HALF.true).0

pub returns-then-place-le-HALF-clause-open : goal.returns-then-place-le-HALF-clause-open
returns-then-place-le-HALF-clause-open c = (front-gap _ _ _ _ c.args.place (halves c.before.before).1 c.if-place-le-HALF.true).1

-- ---- the place lies in the half behind

pub returns-clause-records : goal.returns-clause-records
returns-clause-records c = (halves c.before.before.before.before).1.records

pub returns-clause-blocks : goal.returns-clause-blocks
returns-clause-blocks c = (halves c.before.before.before.before).1.blocks

pub returns-clause-same : goal.returns-clause-same
returns-clause-same c = omega (arith, (halves c.before.before.before.before).1.between, c.if-place-le-HALF.false)

pub returns-clause-gap : goal.returns-clause-gap
returns-clause-gap c = let full = halves c.before.before.before.before in (rear-gap _ _ _ _ c.args.place full.1 full.0).0

pub returns-clause-open : goal.returns-clause-open
returns-clause-open c = let full = halves c.before.before.before.before in (rear-gap _ _ _ _ c.args.place full.1 full.0).1
