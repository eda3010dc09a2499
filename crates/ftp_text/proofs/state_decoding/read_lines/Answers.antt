use Rattle.std.proofs.Common.{◌≡◌, ℕ, ◌+◌, List, [], ◌∷◌, length, sym, ap, subst, ◌∙◌, arith}
use Rattle.std.specs.Prelude.{Err, IsErrOf}
use Rattle.std.proofs.lemmas.Bool.{eqb-true}
use Rattle.std.proofs.lemmas.List.{length-append, nil_from_length}
use Rattle.ftp_text.specs.declared.fault.LineFault.{LineFault}
use Rattle.ftp_text.specs.declared.fault.LineFault.TheVariants as fault
use Rattle.ftp_text.specs.declared.state_line.StateLine.{StateLine}
use Rattle.ftp_text.specs.StateText.{lines_in, IsFirstBadStateLine}
use Rattle.ftp_text.proofs.GrammarLemmas.{first-bad, none-bad, read-more, whole-read, nothing-read}
use Rattle.ftp_text.proofs.state_decoding.read_lines.Goals as goal

pub loop-rest-preserved : goal.loop-rest-preserved
loop-rest-preserved c =
    let n = c.in-Ok.ensures.read in
    let old = c.loop-rest.invariant in
    let lines = c.loop-rest.lines.items in
    record {
      read =
          read-more c.args.text.now c.loop-rest.rest.now c.cut_line.result.1.now c.cut_line.result.0.now lines c.read_next.new.lines.items n.0 old.read
          c.cut_line.ensures.lines n.1 n.2 n.3 n.4;
      count = omega (arith, old.count, ap (λ (l : List StateLine). length l) n.4, length-append lines (n.0 ∷ []));
      bound = omega (arith, old.bound, c.cut_line.ensures.shorter);
    }

pub returns-in-Err-Bad-clause-bad : goal.returns-in-Err-Bad-clause-bad
returns-in-Err-Bad-clause-bad c = λ k is.
    let same : c.loop-rest.count + 1 ≡ k = cc in
    let bad : IsErrOf c.read_next.result fault.Bad = c.in-Err-Bad.is ∙ ap (λ (f : LineFault). Err f) c.in-Err-Bad.field-0-is in
    first-bad c.args.text.now c.loop-rest.rest.now c.cut_line.result.0.now (lines_in c.cut_line.result.1.now) c.loop-rest.lines.items k c.loop-rest.invariant.read
    c.cut_line.ensures.lines (sym same ∙ ap (λ (n : ℕ). n + 1) c.loop-rest.invariant.count) (c.read_next.ensures.bad bad)

pub returns-then-count-eq0-clause-bad : goal.returns-then-count-eq0-clause-bad
returns-then-count-eq0-clause-bad c = λ k is.
    let same : 1 ≡ k = cc in
    let none = nil_from_length c.loop-rest.rest.now (eqb-true _ _ (sym c.is_empty.ensures ∙ c.loop-rest-test.false)) in
    let empty = nothing-read c.args.text.now c.loop-rest.rest.now c.loop-rest.lines.items c.loop-rest.invariant.read none (sym c.loop-rest.invariant.count ∙ c.if-count-eq0.true) in
    subst (λ (n : ℕ). IsFirstBadStateLine n (lines_in c.args.text.now)) same (none-bad c.args.text.now empty)

pub returns-clause-spelled : goal.returns-clause-spelled
returns-clause-spelled c =
    let none = nil_from_length c.loop-rest.rest.now (eqb-true _ _ (sym c.is_empty.ensures ∙ c.loop-rest-test.false)) in
    whole-read c.args.text.now c.loop-rest.rest.now c.loop-rest.lines.items c.loop-rest.invariant.read none
