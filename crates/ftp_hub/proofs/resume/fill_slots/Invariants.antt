use Rattle.std.proofs.Common.{vec_len}
use Rattle.ftp_hub.specs.declared.state.SlotLine.{SlotLine}
use Rattle.ftp_hub.specs.State.{with_slot}
use Rattle.ftp_hub.proofs.Lines.{AreLeft}
use Rattle.ftp_hub.proofs.resume.fill_slots.Given as goal

abbrev pub invariant-loop-line : goal.invariant-loop-line
invariant-loop-line l = AreLeft (λ (line : SlotLine). line.session) with_slot l.lines.items l.sessions l.initial.lines.items l.fn.sessions

abbrev pub decreases-loop-line : goal.decreases-loop-line
decreases-loop-line l = vec_len l.lines
