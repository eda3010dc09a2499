use Rattle.std.proofs.Common.{arith}
use Rattle.ftp_switchboard.proofs.RowLemmas.{is_row-take, session_of-remove}
use Rattle.ftp_switchboard.proofs.ports.free.Goals as goal

pub returns-clause-row : goal.returns-clause-row
returns-clause-row c =
    is_row-take c.args.range.lo c.args.range.hi c.args.row.now.words.items c.take.new.self.words.items c.args.row.now.pairs.items c.take.new.self.pairs.items c.requires.row c.args.port 0 c.args.place
    (omega (arith, c.requires.row.inside c.args.place c.requires.within, c.requires.port), omega (arith, c.requires.row.inside c.args.place c.requires.within, c.requires.port))
    c.take.ensures.others c.take.ensures.width c.requires.within c.requires.port c.take.ensures.bit c.take.ensures.pairs

pub returns-clause-sessions : goal.returns-clause-sessions
returns-clause-sessions c p =
    rw c.take.ensures.pairs (session_of-remove c.args.row.now.pairs.items c.args.place c.args.port c.requires.row.ascends c.requires.within c.requires.port p)
