use Rattle.std.proofs.Common.{◌<◌, length, arith}
use Rattle.std.proofs.lemmas.Result.{err_from_is_err_and}
use Rattle.ftp_text.specs.Reading.{text_of}
use Rattle.ftp_text.proofs.Texts.{text_byte_shorter, text_more, text_ends, text_done}
use Rattle.ftp_text.proofs.text.whole_text.Goals as goal

pub returns-in_err-b : goal.returns-in_err-b
returns-in_err-b c =
    let p = err_from_is_err_and c.from_residual-in_err-b.result c.from_residual-in_err-b.ensures.1 in
    let some : 0 < length c.loop-rest.rest.now = grind arith in
    rw (p.1, p.2) (text_ends c.in_err-b.field-0.0 c.loop-rest.out.items c.loop-rest.rest.now (text_of c.args.bytes.now) some c.in_err-b.ensures c.loop-rest.invariant)

pub loop-rest-smaller : goal.loop-rest-smaller
loop-rest-smaller c = text_byte_shorter c.loop-rest.rest.now (c.in_ok-b.b, c.in_ok-b.behind.now) c.in_ok-b.ensures

pub loop-rest-preserved : goal.loop-rest-preserved
loop-rest-preserved c =
    let some : 0 < length c.loop-rest.rest.now = grind arith in
    rw c.in_ok-push.ensures.items
    (text_more c.loop-rest.out.items c.loop-rest.rest.now (c.in_ok-b.b, c.in_ok-b.behind.now) (text_of c.args.bytes.now) some c.in_ok-b.ensures c.loop-rest.invariant)

pub returns : goal.returns
returns c =
    rw c.from_vec.ensures (text_done c.loop-rest.out.items c.loop-rest.rest.now (text_of c.args.bytes.now) (grind arith) c.loop-rest.invariant)
