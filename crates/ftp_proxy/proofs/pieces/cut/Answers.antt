use Rattle.std.proofs.Common.{arith, eq-eqb}
use Rattle.std.proofs.lemmas.List.{take_rest}
use Rattle.ftp_proxy.proofs.Cuts.{pieces-found, pieces-none}
use Rattle.ftp_proxy.proofs.pieces.cut.Goals as goal

pub returns-then-b-c : goal.returns-then-b-c
returns-then-b-c c =
    rw take_rest (pieces-found c.args.c c.args.text.now c.loop-i.i c.loop-i-test.true c.loop-i.invariant (eq-eqb _ _ c.if-b-c.true))

pub returns : goal.returns
returns c = pieces-none c.args.c c.args.text.now (λ k lt. c.loop-i.invariant k (omega arith))
