use Rattle.ftp_lockout.specs.Places.{records_in, place_in}
use Rattle.ftp_lockout.proofs.Tables.{lookup-found}
use Rattle.ftp_lockout.proofs.Records.{keys_total}
use Rattle.ftp_lockout.proofs.BlockLemmas.{got-read, got-in}
use Rattle.ftp_lockout.proofs.places.failures_at.Goals as goal

pub returns : goal.returns
returns c = λ key here.
    let bs = c.args.blocks.now in
    let v = c.index-blocks-place.result in
    let r = c.index.result.now in
    let got = got-read bs c.args.place.block v c.requires.place.block c.index-blocks-place.is in
    let at = got-read v.items c.args.place.index r (c.requires.place.index v got) c.index.ensures in
    let there = got-in bs c.args.place.block v c.args.place.index r got at in
    lookup-found keys_total (records_in bs) (place_in bs c.args.place) r key c.requires.order there (here.here r there)
