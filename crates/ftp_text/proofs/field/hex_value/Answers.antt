use Rattle.std.proofs.Common.{◌≡◌, sym, refl, ◌∙◌, arith}
use Rattle.std.proofs.lemmas.List.{take_all}
use Rattle.ftp_text.specs.Fields.{hex_digits}
use Rattle.ftp_text.proofs.Hex.{hex_more, room_more, hex_done, hex_bad}
use Rattle.ftp_text.proofs.field.hex_value.Goals as goal

pub loop-c-init : goal.loop-c-init
unfolding hex_digits
loop-c-init c = (omega arith, refl)

pub returns-in_default : goal.returns-in_default
returns-in_default c = sym (hex_bad c.args.digits.now c.loop-c.c-index _ (omega arith) refl c.in_default.ensures)

pub overflow_mul-value : goal.overflow_mul-value
overflow_mul-value c = omega (arith, room_more c.loop-c.c-index c.loop-c.value c.in-Some.digit (omega arith) c.loop-c.invariant.0 c.in-Some.ensures.0)

pub overflow_add-value : goal.overflow_add-value
overflow_add-value c = omega (arith, room_more c.loop-c.c-index c.loop-c.value c.in-Some.digit (omega arith) c.loop-c.invariant.0 c.in-Some.ensures.0)

pub loop-c-preserved : goal.loop-c-preserved
loop-c-preserved c =
    let r = room_more c.loop-c.c-index c.loop-c.value c.in-Some.digit (omega arith) c.loop-c.invariant.0 c.in-Some.ensures.0 in
    (r.0, hex_more c.loop-c.c-index c.loop-c.value c.in-Some.digit _ c.args.digits.now c.loop-c-test.true c.in-Some.ensures.0 c.in-Some.ensures.1 refl c.loop-c.invariant.1)

pub returns : goal.returns
returns c =
    let i : c.loop-c.c-index ≡ 32 = omega arith in
    let whole = rw i at c.loop-c.invariant.1 in
    let small = rw i at c.loop-c.invariant.0 in
    sym (hex_done c.loop-c.value c.args.digits.now (omega (arith, small)) (whole ∙ take_all 32 c.args.digits.now (omega arith)))
