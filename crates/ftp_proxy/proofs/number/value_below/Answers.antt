use Rattle.std.proofs.Common.{◌+◌, ◌≤◌, arith}
use Rattle.std.specs.Str.Parse.{digits_value}
use Rattle.std.proofs.lemmas.Bool.Decides.{nat_tests}
use Rattle.ftp_proxy.proofs.Numbers.{value_more, value_large}
use Rattle.ftp_proxy.proofs.number.value_below.Goals as goal

pub returns-then-value-limit-clause-value : goal.returns-then-value-limit-clause-value
returns-then-value-limit-clause-value c =
    let m = value_more c.args.digits.now c.loop-digit.digit-index c.loop-digit.value c.requires.digits c.loop-digit-test.true c.loop-digit.invariant.value in
    let large : c.args.limit ≤ digits_value 10 c.args.digits.now =
    value_large c.args.digits.now (c.loop-digit.digit-index + 1) c.args.limit (omega (arith, m)) in
    grind (arith, nat_tests)

pub loop-digit-preserved : goal.loop-digit-preserved
loop-digit-preserved c = record {
  value = rw c.from.ensures (value_more c.args.digits.now c.loop-digit.digit-index c.loop-digit.value c.requires.digits c.loop-digit-test.true c.loop-digit.invariant.value);
  below = omega arith;
}
