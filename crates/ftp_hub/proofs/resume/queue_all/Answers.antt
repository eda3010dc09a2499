use Rattle.std.proofs.Common.{refl}
use Rattle.ftp_hub.specs.declared.state.QueuedLine.{QueuedLine}
use Rattle.ftp_hub.specs.State.{with_transfer}
use Rattle.ftp_hub.proofs.Lines.{left-step}
use Rattle.ftp_hub.proofs.resume.queue_all.Goals as goal

pub loop-line-preserved : goal.loop-line-preserved
loop-line-preserved c =
    left-step (λ (l : QueuedLine). l.session) with_transfer c.loop-line.lines.items c.pop.new.self.items c.args.lines.items c.in-Some.line c.loop-line.sessions c.queue_one.new.sessions c.args.sessions.now (λ v. refl) (λ a b v. refl)
    c.in-Some.ensures.items c.in_ok-queue_one.ensures.sessions c.in_ok-queue_one.ensures.len c.loop-line.invariant
