use Rattle.std.proofs.lemmas.Result.{err_from_is_err_and}
use Rattle.std.specs.List.{slice_split}
use Rattle.ftp_text.specs.Reading.{is_comma, each_of}
use Rattle.ftp_text.proofs.Lists.{parts, each-next, each-more, each-fails, each-done}
use Rattle.ftp_text.proofs.calls.each.Goals as goal

pub returns-in_err-call : goal.returns-in_err-call
returns-in_err-call g c =
    let p = err_from_is_err_and c.from_residual.result c.from_residual.ensures.1 in
    let all = each_of g.C.CallText.spelled (slice_split is_comma c.args.word.now) in
    rw (p.1, p.2)
    (each-fails g.C.CallText.spelled c.loop-rest.calls.items c.cut.result.0.now (parts c.cut.result.1) c.in_err-call.field-0.0 all c.in_err-call.ensures
    (each-next g.C.CallText.spelled c.loop-rest.calls.items c.loop-rest.rest c.in-Some.left c.cut.result.0.now (parts c.cut.result.1) all c.in-Some.is c.cut.ensures.split c.loop-rest.invariant))

pub loop-rest-preserved : goal.loop-rest-preserved
loop-rest-preserved g c =
    let all = each_of g.C.CallText.spelled (slice_split is_comma c.args.word.now) in
    rw c.in_ok-push.ensures.items
    (each-more g.C.CallText.spelled c.loop-rest.calls.items c.cut.result.0.now (parts c.cut.result.1) c.in_ok-call.call all c.in_ok-call.ensures
    (each-next g.C.CallText.spelled c.loop-rest.calls.items c.loop-rest.rest c.in-Some.left c.cut.result.0.now (parts c.cut.result.1) all c.in-Some.is c.cut.ensures.split c.loop-rest.invariant))

pub returns : goal.returns
returns g c =
    rw c.from_vec.ensures
    (each-done g.C.CallText.spelled c.loop-rest.calls.items c.loop-rest.rest (each_of g.C.CallText.spelled (slice_split is_comma c.args.word.now)) c.in_default.not-Some c.loop-rest.invariant)
