use Rattle.std.proofs.Common.{arith}
use Rattle.ftp_switchboard.proofs.Words.{first_bit, no_bit}
use Rattle.ftp_switchboard.proofs.search.first_clear.Goals as goal

pub returns-then-free-eq0-clause-none : goal.returns-then-free-eq0-clause-none
returns-then-free-eq0-clause-none c = no_bit c.args.word c.args.skipped c.ranges.word.fits c.requires c.if-free-eq0.true

pub returns-clause-within : goal.returns-clause-within
returns-clause-within c =
    let first = first_bit c.args.word c.args.skipped c.ranges.word.fits c.requires (omega arith) in
    (first.0, first.1)

pub returns-clause-clear : goal.returns-clause-clear
returns-clause-clear c = (first_bit c.args.word c.args.skipped c.ranges.word.fits c.requires (omega arith)).2

pub returns-clause-before : goal.returns-clause-before
returns-clause-before c = (first_bit c.args.word c.args.skipped c.ranges.word.fits c.requires (omega arith)).3
