use Rattle.std.proofs.Common.{ℕ, List, [], ◌∷◌, ◌++◌, sym, subst, ◌∙◌}
use Rattle.std.proofs.lemmas.Bool.{eqb-true}
use Rattle.std.proofs.lemmas.List.{nil_from_length}
use Rattle.ftp_text.specs.Place.{HasRead}
use Rattle.ftp_text.proofs.PlaceLemmas.{printed_told, first_bad}
use Rattle.ftp_text.proofs.place.first_bad_line.Goals as goal

pub loop-rest-init : goal.loop-rest-init
loop-rest-init c = record { lawful = c.new-place.ensures.lawful; read = ([], c.new-place.ensures.start c.args.text.now) }

pub loop-rest-preserved : goal.loop-rest-preserved
loop-rest-preserved c =
    let read = c.loop-rest.invariant.read in
    record {
      lawful = c.in-Ok.ensures.lawful;
      read = (read.0 ++ c.in-Ok.line ∷ [], (c.in-Ok.ensures.line read.0 c.args.text.now read.1).1);
    }

pub returns-then-is_whole-clause-printed : goal.returns-then-is_whole-clause-printed
returns-then-is_whole-clause-printed c =
    let read = c.loop-rest.invariant.read in
    let none = nil_from_length c.loop-rest.rest.now (eqb-true _ _ (sym c.is_empty.ensures ∙ c.loop-rest-test.false)) in
    let at_end = subst (λ (rest : List ℕ). HasRead read.0 c.args.text.now rest c.loop-rest.place) none read.1 in
    printed_told read.0 c.args.text.now c.loop-rest.place at_end (c.is_whole.ensures.whole read.0 c.args.text.now at_end c.if-is_whole.true)

pub returns-else-is_whole-clause-bad : goal.returns-else-is_whole-clause-bad
returns-else-is_whole-clause-bad c =
    let read = c.loop-rest.invariant.read in
    let none = nil_from_length c.loop-rest.rest.now (eqb-true _ _ (sym c.is_empty.ensures ∙ c.loop-rest-test.false)) in
    let at_end = subst (λ (rest : List ℕ). HasRead read.0 c.args.text.now rest c.loop-rest.place) none read.1 in
    first_bad c.loop-rest.place.lines read.0 c.args.text.now [] c.loop-rest.place at_end (c.is_whole.ensures.unfinished read.0 c.args.text.now at_end c.if-is_whole.false)
