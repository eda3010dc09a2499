use Rattle.std.proofs.Common.{sym, arith}
use Rattle.ftp_switchboard.specs.Bits.{session_of}
use Rattle.ftp_switchboard.proofs.PortsLemmas.{first_free-early, first_free-late, first_free-none}
use Rattle.ftp_switchboard.proofs.RowLemmas.{free-from_clear, held-from_set}
use Rattle.ftp_switchboard.proofs.search.free_port.Goals as goal

pub returns-in-Some-clause-free : goal.returns-in-Some-clause-free
returns-in-Some-clause-free c =
    let found = c.in-Some.ensures.found in
    sym (first_free-late (session_of c.args.row.now.pairs.items) c.args.lo c.args.hi c.args.word c.in-Some.place found.after found.below
    (free-from_clear c.args.lo c.args.hi c.args.word c.args.row.now c.requires.row c.in-Some.place (omega (arith, found.below)) found.clear)
    (held-from_set c.args.lo c.args.hi c.args.word c.args.row.now c.requires.row _ _ (omega (arith, found.below)) c.requires.in_range found.before))

pub returns-in-Some-next_clear-clause-free : goal.returns-in-Some-next_clear-clause-free
returns-in-Some-next_clear-clause-free c =
    let found = c.in-Some-next_clear.ensures.found in
    sym (first_free-early (session_of c.args.row.now.pairs.items) c.args.lo c.args.hi c.args.word
    (held-from_set c.args.lo c.args.hi c.args.word c.args.row.now c.requires.row _ _ (omega arith) c.requires.in_range c.in_default.ensures.none)
    c.in-Some-next_clear.place found.below
    (free-from_clear c.args.lo c.args.hi c.args.word c.args.row.now c.requires.row c.in-Some-next_clear.place (omega (arith, found.below)) found.clear)
    (held-from_set c.args.lo c.args.hi c.args.word c.args.row.now c.requires.row _ _ (omega (arith, found.below)) c.requires.in_range found.before))

pub returns-in-None-clause-free : goal.returns-in-None-clause-free
returns-in-None-clause-free c =
    sym (first_free-none (session_of c.args.row.now.pairs.items) c.args.lo c.args.hi c.args.word
    (held-from_set c.args.lo c.args.hi c.args.word c.args.row.now c.requires.row _ _ (omega arith) c.requires.in_range c.in_default.ensures.none)
    (held-from_set c.args.lo c.args.hi c.args.word c.args.row.now c.requires.row _ _ (omega arith) c.requires.in_range c.in-None.ensures.none))
