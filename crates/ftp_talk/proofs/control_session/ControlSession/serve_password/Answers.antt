use Rattle.std.proofs.Common.{sym, ◌∙◌, refl}
use Rattle.std.specs.Prelude.{Ok, Err}
use Rattle.ftp_control.specs.declared.command.Command.TheVariants.{Pass}
use Rattle.ftp_talk.specs.declared.halt.Halt.TheVariants.{Memory}
use Rattle.ftp_talk.specs.declared.serving.Next.TheVariants.{GoOn}
use Rattle.ftp_talk.specs.Ground.{ALine, AnAnswer}
use Rattle.ftp_talk.specs.Speaking.{due_at}
use Rattle.ftp_talk.specs.Turns.{LineDue, AnswerDue}
use Rattle.ftp_talk.proofs.ServeLemmas.{answer-may, line-due, next-due, not-out, out-due, password-may, served-err, standing-due, step-taken}
use Rattle.ftp_talk.proofs.control_session.ControlSession.serve_password.Goals as goal

pub returns-in_err-decision-clause-served : goal.returns-in_err-decision-clause-served
returns-in_err-decision-clause-served g c = λ q hs line rest about answers s is_line same.
    served-err due_at c.from_residual.result q _ _ _ _ hs rest c.from_residual.ensures.0
    (step-taken q _ c.args.self.now c.submit_for.new.self _ _ _ _ _ _ LineDue (ALine line) _ (Err Memory) hs rest c.in_err-decision.ensures.spoke about.0 s (password-may q c.args.self.now line c.args.password rest is_line same))

pub returns-in_err-checked-clause-served : goal.returns-in_err-checked-clause-served
returns-in_err-checked-clause-served g c = λ q hs line rest about answers s is_line same.
    let given = step-taken q _ c.args.self.now c.submit_for.new.self _ _ _ _ _ _ LineDue (ALine line) _ (Ok c.in_ok-decision.decision) hs rest c.in_ok-decision.ensures.spoke about.0 s (password-may q c.args.self.now line c.args.password rest is_line same) in
    let out = standing-due q _ _ _ _ hs rest _ _ (out-due line c.args.password c.in_ok-decision.decision same (sym c.is_out.ensures ∙ c.if-is_out.true)) given in
    served-err due_at c.from_residual-in_err-checked.result q _ _ _ _ hs rest c.from_residual-in_err-checked.ensures.0
    (step-taken q _ c.submit_for.new.self _ _ _ _ _ _ _ (AnswerDue c.args.password.0) AnAnswer _ (Err Memory) hs rest c.in_err-checked.ensures.spoke about.0 out
    (answer-may q c.submit_for.new.self (g.A.Authenticator.may_answer c.args.auth.now) c.args.password.0 c.ask_authenticator-answer.result rest answers c.ask_authenticator-answer.ensures))

pub returns-then-is_out-clause-served : goal.returns-then-is_out-clause-served
returns-then-is_out-clause-served g c = λ q hs line rest about answers s is_line same.
    let given = step-taken q _ c.args.self.now c.submit_for.new.self _ _ _ _ _ _ LineDue (ALine line) _ (Ok c.in_ok-decision.decision) hs rest c.in_ok-decision.ensures.spoke about.0 s (password-may q c.args.self.now line c.args.password rest is_line same) in
    let out = standing-due q _ _ _ _ hs rest _ _ (out-due line c.args.password c.in_ok-decision.decision same (sym c.is_out.ensures ∙ c.if-is_out.true)) given in
    rw c.next_of.ensures
    (standing-due q _ _ _ _ hs rest _ _ (next-due c.in_ok-checked.checked LineDue GoOn refl)
    (step-taken q _ c.submit_for.new.self _ _ _ _ _ _ _ (AnswerDue c.args.password.0) AnAnswer _ (Ok c.in_ok-checked.checked) hs rest c.in_ok-checked.ensures.spoke about.0 out
    (answer-may q c.submit_for.new.self (g.A.Authenticator.may_answer c.args.auth.now) c.args.password.0 c.ask_authenticator-answer.result rest answers c.ask_authenticator-answer.ensures)))

pub returns-clause-served : goal.returns-clause-served
returns-clause-served g c = λ q hs line rest about answers s is_line same.
    rw c.next_of-2.ensures
    (standing-due q _ _ _ _ hs rest _ _ (line-due line (Ok (Pass c.args.password)) c.in_ok-decision.decision GoOn same (not-out c.args.password c.in_ok-decision.decision (sym c.is_out.ensures ∙ c.if-is_out.false)))
    (step-taken q _ c.args.self.now c.submit_for.new.self _ _ _ _ _ _ LineDue (ALine line) _ (Ok c.in_ok-decision.decision) hs rest c.in_ok-decision.ensures.spoke about.0 s (password-may q c.args.self.now line c.args.password rest is_line same)))
