use Rattle.ftp_lockout.proofs.BlockLemmas.{got-read}
use Rattle.ftp_lockout.proofs.BlockEdits.{set-all}
use Rattle.ftp_lockout.proofs.blocks.set_at.Goals as goal

pub write-requires : goal.write-requires
write-requires c =
    c.requires.place.index c.index_mut.result.now (got-read c.args.blocks.now.items c.args.place.block c.index_mut.result.now c.requires.place.block c.index_mut.ensures.value)

pub returns-clause-recorded : goal.returns-clause-recorded
returns-clause-recorded c =
    let v = c.index_mut.result.now in
    let got = got-read c.args.blocks.now.items c.args.place.block v c.requires.place.block c.index_mut.ensures.value in
    (set-all c.args.blocks.now.items c.args.place.block v c.write.new.block c.args.place.index c.args.failures c.requires.order c.requires.blocks got (c.requires.place.index v got) c.write.ensures.items c.write.ensures.capacity).0

pub returns-clause-order : goal.returns-clause-order
returns-clause-order c =
    let v = c.index_mut.result.now in
    let got = got-read c.args.blocks.now.items c.args.place.block v c.requires.place.block c.index_mut.ensures.value in
    (set-all c.args.blocks.now.items c.args.place.block v c.write.new.block c.args.place.index c.args.failures c.requires.order c.requires.blocks got (c.requires.place.index v got) c.write.ensures.items c.write.ensures.capacity).1

pub returns-clause-blocks : goal.returns-clause-blocks
returns-clause-blocks c =
    let v = c.index_mut.result.now in
    let got = got-read c.args.blocks.now.items c.args.place.block v c.requires.place.block c.index_mut.ensures.value in
    (set-all c.args.blocks.now.items c.args.place.block v c.write.new.block c.args.place.index c.args.failures c.requires.order c.requires.blocks got (c.requires.place.index v got) c.write.ensures.items c.write.ensures.capacity).2
