use Rattle.std.proofs.Common.{◌≡◌, sym, ap, ◌∙◌, ℕ, Option}
use Rattle.ftp_events.specs.declared.decision.Decision.{Decision}
use Rattle.ftp_events.specs.declared.event.Answer.{Answer}
use Rattle.ftp_events.specs.declared.event.EventKind.{EventKind}
use Rattle.ftp_events.specs.declared.event.EventKind.TheVariants.{SlotTick}
use Rattle.ftp_events.specs.declared.session.Running.{Running}
use Rattle.ftp_events.specs.declared.session.Session.{Session}
use Rattle.ftp_events.specs.Session.{session_after}
use Rattle.ftp_handlers.specs.Handlers.{notices_of, refusal_of}
use Rattle.ftp_handlers.proofs.SilentRows.{abor-silent, cwd-silent, pass-silent, rest-silent, slot-silent, user-silent}
use Rattle.ftp_handlers.proofs.commands.command.Goals as goal

-- a decision that notifies nobody leaves the session without a notice
without_notice : (at : ℕ) (k : EventKind) (answer : Answer) (d row : Decision) (job : Option Running) (old new : Session) → d ≡ row → notices_of k row answer ≡ 0 →
    new ≡ session_after at k answer d 0 job old → new ≡ session_after at k answer d (notices_of k d answer) job old
without_notice at k answer d row job old new is silent same =
    same ∙ ap (λ (n : ℕ). session_after at k answer d n job old) (sym (ap (λ (d : Decision). notices_of k d answer) is ∙ silent))

-- none of these commands notifies anybody
pub returns-in-User-clause-session : goal.returns-in-User-clause-session
returns-in-User-clause-session c few answer job =
    without_notice c.args.event.now.at c.args.event.now.kind answer c.handle.result _ job c.args.session.now _ c.handle.ensures.decision (user-silent c.args.event.now.kind answer c.args.session.now.login) (c.handle.ensures.session answer job)

pub returns-in-Pass-clause-session : goal.returns-in-Pass-clause-session
returns-in-Pass-clause-session c few answer job =
    without_notice c.args.event.now.at c.args.event.now.kind answer c.handle-in-Pass.result _ job c.args.session.now _ c.handle-in-Pass.ensures.decision (pass-silent c.args.event.now.kind answer c.args.session.now.login) (c.handle-in-Pass.ensures.session answer job)

pub returns-in-Rest-clause-session : goal.returns-in-Rest-clause-session
returns-in-Rest-clause-session c few answer job =
    without_notice c.args.event.now.at c.args.event.now.kind answer c.handle-in-Rest.result _ job c.args.session.now _ c.handle-in-Rest.ensures.decision (rest-silent c.args.event.now.kind answer c.args.options.now c.args.session.now) (c.handle-in-Rest.ensures.session answer job)

pub returns-in-Cwd-clause-session : goal.returns-in-Cwd-clause-session
returns-in-Cwd-clause-session c few answer job =
    without_notice c.args.event.now.at c.args.event.now.kind answer c.handle-in-Cwd.result _ job c.args.session.now _ c.handle-in-Cwd.ensures.decision (cwd-silent c.args.event.now.kind answer c.args.session.now (refusal_of c.args.event.now.kind)) (c.handle-in-Cwd.ensures.session answer job)

pub returns-in-Abor-clause-session : goal.returns-in-Abor-clause-session
returns-in-Abor-clause-session c few answer job =
    without_notice c.args.event.now.at c.args.event.now.kind answer c.handle-in-Abor.result _ job c.args.session.now _ c.handle-in-Abor.ensures.decision (abor-silent c.args.event.now.kind answer c.args.room.now.stops c.args.session.now) (c.handle-in-Abor.ensures.session answer job)

pub returns-in-SlotTick-clause-session : goal.returns-in-SlotTick-clause-session
returns-in-SlotTick-clause-session c few answer job =
    let k : EventKind = SlotTick c.in-SlotTick.number in
    rw c.in-SlotTick.is
    (without_notice c.args.event.now.at k answer c.handle-in-SlotTick.result _ job c.args.session.now _ c.handle-in-SlotTick.ensures.decision (slot-silent k answer c.args.options.now c.args.event.now.at c.args.session.now) (c.handle-in-SlotTick.ensures.session answer job))

-- the answer to a password may notify
pub returns-in-AuthDone-clause-session : goal.returns-in-AuthDone-clause-session
returns-in-AuthDone-clause-session c few answer job = rw c.in-AuthDone.is (c.handle-in-AuthDone.ensures.session few answer job)
