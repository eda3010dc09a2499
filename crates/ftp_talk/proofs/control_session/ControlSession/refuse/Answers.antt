use Rattle.std.specs.Prelude.{Ok, Err}
use Rattle.ftp_talk.specs.declared.halt.Halt.TheVariants.{Memory}
use Rattle.ftp_talk.specs.Speaking.{due_at}
use Rattle.ftp_talk.specs.Turns.{LineDue, due_after}
use Rattle.ftp_talk.proofs.ServeLemmas.{cut-here, next-due, served-err, standing-due, step-taken}
use Rattle.ftp_talk.proofs.control_session.ControlSession.refuse.Goals as goal

pub submit_for-requires : goal.submit_for-requires
submit_for-requires g c = record { unticketed = rw c.in-Ok.is at c.requires.unticketed }

pub returns-in_default-clause-served : goal.returns-in_default-clause-served
returns-in_default-clause-served g c = λ q hs step rest about s may.
    cut-here q c.args.self.now _ _ _ _ hs _ s

pub returns-in_err-decision-clause-served : goal.returns-in_err-decision-clause-served
returns-in_err-decision-clause-served g c = λ q hs step rest about s may.
    served-err due_at c.from_residual.result q _ _ _ _ hs rest c.from_residual.ensures.0
    (step-taken q _ c.args.self.now c.submit_for.new.self _ _ _ _ _ _ LineDue step _ (Err Memory) hs rest c.in_err-decision.ensures.spoke about.0 s (rw c.in-Ok.is at may.0))

pub returns-clause-served : goal.returns-clause-served
returns-clause-served g c = λ q hs step rest about s may.
    let d = c.in_ok-decision.decision in
    rw c.next_of.ensures
    (standing-due q _ _ _ _ hs rest _ _ (next-due d (due_after step d) c.args.on (may.1 d))
    (step-taken q _ c.args.self.now c.submit_for.new.self _ _ _ _ _ _ LineDue step _ (Ok d) hs rest c.in_ok-decision.ensures.spoke about.0 s (rw c.in-Ok.is at may.0)))
