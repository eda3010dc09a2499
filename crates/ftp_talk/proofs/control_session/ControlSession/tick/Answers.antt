use Rattle.std.proofs.Common.{sym, ◌∙◌, refl}
use Rattle.std.specs.Prelude.{Ok, Err}
use Rattle.ftp_talk.specs.declared.halt.Halt.TheVariants.{Memory}
use Rattle.ftp_talk.specs.declared.serving.Next.TheVariants.{GoOn}
use Rattle.ftp_talk.specs.Ground.{AnIdleTick, ASlotTick}
use Rattle.ftp_talk.specs.Speaking.{due_at}
use Rattle.ftp_talk.specs.Turns.{LineDue, SlotTickDue}
use Rattle.ftp_talk.proofs.ServeLemmas.{next-due, served-err, standing-due, step-taken}
use Rattle.ftp_talk.proofs.EndLemmas.{idle-may, slot-may, idle-over, idle-due}
use Rattle.ftp_talk.proofs.control_session.ControlSession.tick.Goals as goal

pub returns-in_err-decision-clause-served : goal.returns-in_err-decision-clause-served
returns-in_err-decision-clause-served g c = λ q hs rest about waits s.
    served-err due_at c.from_residual.result q _ _ _ _ hs rest c.from_residual.ensures.0
    (step-taken q _ c.args.self.now c.submit_for.new.self _ _ _ _ _ _ LineDue AnIdleTick _ (Err Memory) hs rest c.in_err-decision.ensures.spoke about.0 s (idle-may q c.args.self.now rest waits))

pub returns-then-is_end-clause-served : goal.returns-then-is_end-clause-served
returns-then-is_end-clause-served g c = λ q hs rest about waits s.
    standing-due q _ _ _ _ hs rest _ _ (idle-over c.in_ok-decision.decision (sym c.is_end.ensures ∙ c.if-is_end.true))
    (step-taken q _ c.args.self.now c.submit_for.new.self _ _ _ _ _ _ LineDue AnIdleTick _ (Ok c.in_ok-decision.decision) hs rest c.in_ok-decision.ensures.spoke about.0 s (idle-may q c.args.self.now rest waits))

pub returns-in_err-looked-clause-served : goal.returns-in_err-looked-clause-served
returns-in_err-looked-clause-served g c = λ q hs rest about waits s.
    let idle = step-taken q _ c.args.self.now c.submit_for.new.self _ _ _ _ _ _ LineDue AnIdleTick _ (Ok c.in_ok-decision.decision) hs rest c.in_ok-decision.ensures.spoke about.0 s (idle-may q c.args.self.now rest waits) in
    let slot = standing-due q _ _ _ _ hs rest _ _ (idle-due c.in_ok-decision.decision (sym c.is_end.ensures ∙ c.if-is_end.false)) idle in
    served-err due_at c.from_residual-in_err-looked.result q _ _ _ _ hs rest c.from_residual-in_err-looked.ensures.0
    (step-taken q _ c.submit_for.new.self _ _ _ _ _ _ _ SlotTickDue ASlotTick _ (Err Memory) hs rest c.in_err-looked.ensures.spoke about.0 slot (slot-may q c.submit_for.new.self rest))

pub returns-clause-served : goal.returns-clause-served
returns-clause-served g c = λ q hs rest about waits s.
    let idle = step-taken q _ c.args.self.now c.submit_for.new.self _ _ _ _ _ _ LineDue AnIdleTick _ (Ok c.in_ok-decision.decision) hs rest c.in_ok-decision.ensures.spoke about.0 s (idle-may q c.args.self.now rest waits) in
    let slot = standing-due q _ _ _ _ hs rest _ _ (idle-due c.in_ok-decision.decision (sym c.is_end.ensures ∙ c.if-is_end.false)) idle in
    rw c.next_of.ensures
    (standing-due q _ _ _ _ hs rest _ _ (next-due c.in_ok-looked.looked LineDue GoOn refl)
    (step-taken q _ c.submit_for.new.self _ _ _ _ _ _ _ SlotTickDue ASlotTick _ (Ok c.in_ok-looked.looked) hs rest c.in_ok-looked.ensures.spoke about.0 slot (slot-may q c.submit_for.new.self rest)))
