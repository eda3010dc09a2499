use Rattle.std.proofs.Common.{arith, eq-eqb}
use Rattle.std.proofs.lemmas.List.{take_rest}
use Rattle.ftp_text.proofs.Lists.{split-found, split-none}
use Rattle.ftp_text.proofs.calls.cut.Goals as goal

pub returns-then-b-eq44-clause-split : goal.returns-then-b-eq44-clause-split
returns-then-b-eq44-clause-split c =
    rw take_rest (split-found c.args.bytes.now c.loop-i.i c.loop-i-test.true c.loop-i.invariant (eq-eqb _ _ c.if-b-eq44.true))

pub returns-clause-split : goal.returns-clause-split
returns-clause-split c = split-none c.args.bytes.now (λ k lt. c.loop-i.invariant k (omega arith))
