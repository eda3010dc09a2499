use Rattle.std.proofs.Common.{arith}
use Rattle.ftp_switchboard.proofs.RowLemmas.{is_row-put, pairs-few, session_of-insert}
use Rattle.ftp_switchboard.proofs.ports.hold.Goals as goal

pub place_of-place-requires-clause-few : goal.place_of-place-requires-clause-few
place_of-place-requires-clause-few c = omega (arith, pairs-few c.args.range.lo c.args.range.hi c.args.row.now c.requires.row)

pub returns-clause-row : goal.returns-clause-row
returns-clause-row c =
    is_row-put c.args.range.lo c.args.range.hi c.args.row.now.words.items c.put.new.self.words.items c.args.row.now.pairs.items c.put.new.self.pairs.items c.requires.row c.args.port c.args.session c.place_of-place.result
    (c.requires.in_range.0, c.requires.in_range.1) c.put.ensures.others c.put.ensures.width c.place_of-place.ensures.place c.requires.free c.put.ensures.bit c.put.ensures.pairs

pub returns-clause-sessions : goal.returns-clause-sessions
returns-clause-sessions c p =
    rw c.put.ensures.pairs
    (session_of-insert c.args.row.now.pairs.items c.args.port c.args.session c.place_of-place.result c.requires.row.ascends c.place_of-place.ensures.place c.requires.free p)
