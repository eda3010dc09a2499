use Rattle.std.proofs.Common.{◌≡◌, ◌∙◌, ◌++◌, ◌-◌, false, take, drop, get_or, ap, sym, arith}
use Rattle.std.proofs.lemmas.Bool.Decides.{nat_tests}
use Rattle.ftp_places.specs.Names.{is_separator}
use Rattle.ftp_places.specs.Place.{before_separator}
use Rattle.ftp_places.proofs.PathLemmas.{before_separator-past_other, before_separator-past_slash, before_separator-at, before_separator-end}
use Rattle.ftp_places.proofs.place.find_slash.Goals as goal

pub returns-then-before-eq0-clause-front : goal.returns-then-before-eq0-clause-front
returns-then-before-eq0-clause-front c =
    let path = c.args.path.now in
    let i = c.loop-i.i in
    sym (c.loop-i.invariant ∙ ap (λ n. take i path ++ before_separator n (drop i path)) c.if-before-eq0.true
    ∙ before_separator-at i path (omega arith) c.if-b-ne47.false)

pub loop-i-preserved-then-b-ne47 : goal.loop-i-preserved-then-b-ne47
loop-i-preserved-then-b-ne47 c =
    let other : is_separator (get_or c.args.path.now c.loop-i.i 0) ≡ false = grind (arith, nat_tests) in
    c.loop-i.invariant ∙ before_separator-past_other c.loop-i.before c.loop-i.i c.args.path.now (omega arith) other

pub loop-i-preserved : goal.loop-i-preserved
loop-i-preserved c =
    c.loop-i.invariant
    ∙ before_separator-past_slash c.loop-i.before (c.loop-i.before - 1) c.loop-i.i c.args.path.now (omega arith) (omega arith) c.if-b-ne47.false

pub returns-clause-front : goal.returns-clause-front
returns-clause-front c =
    sym (c.loop-i.invariant ∙ before_separator-end c.loop-i.before c.loop-i.i c.args.path.now (omega arith))
