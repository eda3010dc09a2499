use Rattle.std.proofs.Common.{◌≡◌, length, ap, sym, subst, ◌∙◌, arith}
use Rattle.std.proofs.Math.ListN.{set}
use Rattle.std.specs.List.{remove}
use Rattle.std.specs.declared.vec.Vec.{Vec}
use Rattle.ftp_lockout.specs.declared.cache.Failures.{Failures}
use Rattle.ftp_lockout.specs.declared.key.LoginKey.{LoginKey}
use Rattle.ftp_lockout.specs.Places.{AreBlocks, place_in, records_in}
use Rattle.ftp_lockout.proofs.BlockLemmas.{got-read, same-got, blocks-remove, records-removed}
use Rattle.ftp_lockout.proofs.BlockEdits.{remove-all}
use Rattle.ftp_lockout.proofs.blocks.take_at.Goals as goal

pub returns-then-len-eq1-clause-records : goal.returns-then-len-eq1-clause-records
returns-then-len-eq1-clause-records c =
    let bs = c.args.blocks.now.items in
    let v = c.index.result.now in
    let got = got-read bs c.args.place.block v c.requires.place.block c.index.ensures in
    ap records_in c.remove.ensures.items
    ∙ records-removed bs c.args.place.block v c.args.place.index got (omega (arith, v.ok.0, c.len.ensures, c.if-len-eq1.true)) (c.requires.place.index v got)

pub returns-then-len-eq1-clause-blocks : goal.returns-then-len-eq1-clause-blocks
returns-then-len-eq1-clause-blocks c = subst AreBlocks (sym c.remove.ensures.items) (blocks-remove c.args.blocks.now.items c.args.place.block c.requires.blocks)

pub remove-requires-2 : goal.remove-requires-2
remove-requires-2 c =
    let v = c.index_mut.result.now in
    let lt = c.requires.place.index v (got-read c.args.blocks.now.items c.args.place.block v c.requires.place.block c.index_mut.ensures.value) in
    omega (arith, lt, v.ok.0)

-- one record of several goes out of its block
taken_out : (c : goal.After-drop-remove-2) →
    (records_in (set c.args.blocks.now.items c.args.place.block c.remove-2.new.self) ≡ remove (records_in c.args.blocks.now.items) (place_in c.args.blocks.now.items c.args.place))
    × AreBlocks (set c.args.blocks.now.items c.args.place.block c.remove-2.new.self)
taken_out c =
    let bs = c.args.blocks.now.items in
    let u = c.index.result.now in
    let v = c.index_mut.result.now in
    let first = got-read bs c.args.place.block u c.requires.place.block c.index.ensures in
    let got = got-read bs c.args.place.block v c.requires.place.block c.index_mut.ensures.value in
    remove-all bs c.args.place.block v c.remove-2.new.self c.args.place.index c.requires.blocks got (c.requires.place.index v got)
    (λ one. let same = ap (λ (x : Vec (LoginKey × Failures) _). length x.items) (same-got bs c.args.place.block u v first got) in c.if-len-eq1.false (omega (arith, u.ok.0, c.len.ensures, same, one)))
    c.remove-2.ensures.items c.remove-2.ensures.capacity

pub returns-clause-records : goal.returns-clause-records
returns-clause-records c = (taken_out c).0

pub returns-clause-blocks : goal.returns-clause-blocks
returns-clause-blocks c = (taken_out c).1
