use Rattle.std.proofs.Common.{refl}
use Rattle.ftp_hub.specs.declared.state.SlotLine.{SlotLine}
use Rattle.ftp_hub.specs.State.{with_slot}
use Rattle.ftp_hub.proofs.Lines.{left-step}
use Rattle.ftp_hub.proofs.resume.fill_slots.Goals as goal

pub loop-line-preserved : goal.loop-line-preserved
loop-line-preserved c =
    left-step (λ (l : SlotLine). l.session) with_slot c.loop-line.lines.items c.pop.new.self.items c.args.lines.items c.in-Some.line c.loop-line.sessions c.fill_slot.new.sessions c.args.sessions.now (λ v. refl) (λ a b v. refl)
    c.in-Some.ensures.items c.fill_slot.ensures.sessions c.fill_slot.ensures.len c.loop-line.invariant
