use Rattle.std.proofs.Common.{arith}
use Rattle.ftp_lockout.proofs.BlockLemmas.{got-read}
use Rattle.ftp_lockout.proofs.BlockEdits.{insert-all}
use Rattle.ftp_lockout.proofs.blocks.put_at.Goals as goal

pub add-requires : goal.add-requires
add-requires c =
    let v = c.index_mut.result.now in
    let got = got-read c.args.blocks.now.items c.args.place.block v c.requires.gap.block c.index_mut.ensures.value in
    record {
      within = c.requires.gap.index v got;
      room = omega (arith, c.requires.open v got, (c.requires.blocks c.args.place.block v got).roomy);
    }

pub returns-clause-records : goal.returns-clause-records
returns-clause-records c =
    let v = c.index_mut.result.now in
    let got = got-read c.args.blocks.now.items c.args.place.block v c.requires.gap.block c.index_mut.ensures.value in
    (insert-all c.args.blocks.now.items c.args.place.block v c.add.new.block c.args.place.index c.args.entry c.requires.blocks got (c.requires.gap.index v got) (c.requires.open v got) c.add.ensures.items c.add.ensures.capacity).0

pub returns-clause-blocks : goal.returns-clause-blocks
returns-clause-blocks c =
    let v = c.index_mut.result.now in
    let got = got-read c.args.blocks.now.items c.args.place.block v c.requires.gap.block c.index_mut.ensures.value in
    (insert-all c.args.blocks.now.items c.args.place.block v c.add.new.block c.args.place.index c.args.entry c.requires.blocks got (c.requires.gap.index v got) (c.requires.open v got) c.add.ensures.items c.add.ensures.capacity).1
