use Rattle.std.proofs.Common.{ap, subst, sym}
use Rattle.std.specs.Prelude.{Err}
use Rattle.std.proofs.lemmas.Result.{err_from_is_err_and}
use Rattle.ftp_hub.specs.declared.state.StateError.{StateError}
use Rattle.ftp_hub.specs.State.{IsForm}
use Rattle.ftp_text.proofs.StateFormLemmas.{lines-form}
use Rattle.ftp_text.proofs.GrammarLemmas.{lines-said, refused-for-memory, said-again}
use Rattle.ftp_text.proofs.state_decoding.decode_state.Goals as goal

pub returns-in_err-lines-clause-only : goal.returns-in_err-lines-clause-only
returns-in_err-lines-clause-only c = λ x lines is same.
    let p = err_from_is_err_and c.from_residual.result c.from_residual.ensures.1 in
    let e : StateError = c.in_err-lines.field-0.0 in
    rw (p.1, p.2)
    (refused-for-memory c.args.text.now x lines e is same c.in_err-lines.ensures.others (λ k h. c.in_err-lines.ensures.bad k (ap (λ (f : StateError). Err f) h)))

pub returns-clause-only : goal.returns-clause-only
returns-clause-only c = λ x lines is same.
    said-again c.args.text.now x c.in_ok-state.state c.in_ok-lines.lines.items lines is same c.in_ok-lines.ensures.fit c.in_ok-lines.ensures.spelled c.in_ok-state.ensures

pub returns-clause-form : goal.returns-clause-form
returns-clause-form c =
    let lines = c.in_ok-lines.lines.items in
    let said = lines-said lines c.in_ok-lines.ensures.order c.in_ok-lines.ensures.fit in
    subst IsForm (sym c.in_ok-state.ensures) (lines-form _ lines said)
