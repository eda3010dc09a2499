use Rattle.std.proofs.Common.{◌<◌, length, Some, ◌≡◌, ◌∙◌, sym, refl, arith}
use Rattle.std.specs.Prelude.{slice_get}
use Rattle.std.proofs.lemmas.Option.{slice_get_read}
use Rattle.ftp_check_log.proofs.PlaceLemmas.{hold-stays, hold-ends}
use Rattle.ftp_check_log.proofs.GrantLemmas.{last-released}
use Rattle.ftp_check_log.proofs.grants.first_release.Goals as goal

pub loop-place-preserved : goal.loop-place-preserved
loop-place-preserved c =
    let o = c.args.options.now in
    let log = c.args.entries.now in
    let place = c.loop-place.place in
    let e = c.index-entries-place.result in
    let within : place < length log = omega arith in
    let after : c.args.grant.place < place = omega arith in
    let at : slice_get log place ≡ Some e = slice_get_read log (length log) place e refl within c.index-entries-place.is in
    hold-stays o log place c.args.to.ip c.args.to.port c.args.grant.session e at (c.requires.last.3 place after c.loop-place-test.true) (sym c.ends.ensures ∙ c.if-ends.false) c.loop-place.invariant

pub returns-then-ends : goal.returns-then-ends
returns-then-ends c =
    let o = c.args.options.now in
    let log = c.args.entries.now in
    let place = c.loop-place.place in
    let a = c.args.to.ip in
    let p = c.args.to.port in
    let s = c.args.grant.session in
    let e = c.index-entries-place.result in
    let within : place < length log = omega arith in
    let after : c.args.grant.place < place = omega arith in
    let at : slice_get log place ≡ Some e = slice_get_read log (length log) place e refl within c.index-entries-place.is in
    last-released o log c.args.k a p s c.args.grant place c.requires.last after c.loop-place-test.true c.loop-place.invariant
    (hold-ends o log place a p s e at (c.requires.last.3 place after c.loop-place-test.true) (sym c.ends.ensures ∙ c.if-ends.true) c.loop-place.invariant)
