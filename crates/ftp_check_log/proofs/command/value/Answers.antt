use Rattle.std.proofs.Common.{◌+◌, ◌^◌, arith}
use Rattle.std.proofs.lemmas.Str.Parse.{digit_at}
use Rattle.ftp_text.proofs.Numerals.{value_more, value_large}
use Rattle.ftp_check_log.proofs.command.value.Goals as goal

pub overflow_sub-digit : goal.overflow_sub-digit
overflow_sub-digit c = omega (arith, digit_at _ _ c.requires c.loop-digit-test.true)

pub returns-then-value-digit : goal.returns-then-value-digit
returns-then-value-digit c =
    let m = value_more c.args.digits.now c.loop-digit.digit-index c.loop-digit.value c.requires c.loop-digit-test.true c.loop-digit.invariant in
    let large = value_large c.args.digits.now (c.loop-digit.digit-index + 1) (2 ^ 64) (omega (arith, m)) in
    omega (arith, large)

pub loop-digit-preserved : goal.loop-digit-preserved
loop-digit-preserved c =
    rw c.from-digit.ensures (value_more c.args.digits.now c.loop-digit.digit-index c.loop-digit.value c.requires c.loop-digit-test.true c.loop-digit.invariant)
