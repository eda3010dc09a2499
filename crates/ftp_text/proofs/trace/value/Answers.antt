use Rattle.std.proofs.Common.{◌+◌, ◌^◌, arith}
use Rattle.ftp_text.proofs.TraceReading.{value_more, value_large}
use Rattle.ftp_text.proofs.trace.value.Goals as goal

pub returns-then-value-digit : goal.returns-then-value-digit
returns-then-value-digit c =
    let m = value_more c.args.digits.now c.loop-c.c-index c.loop-c.value c.loop-c-test.true c.loop-c.invariant in
    value_large c.args.digits.now (c.loop-c.c-index + 1) (2 ^ 64) (omega (arith, m, c.digit.ensures.value, c.from-digit.ensures))

pub loop-c-preserved : goal.loop-c-preserved
loop-c-preserved c =
    let m = value_more c.args.digits.now c.loop-c.c-index c.loop-c.value c.loop-c-test.true c.loop-c.invariant in
    cc (c.digit.ensures.value, c.from-digit.ensures)
