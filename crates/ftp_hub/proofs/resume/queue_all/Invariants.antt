use Rattle.std.proofs.Common.{vec_len}
use Rattle.ftp_hub.specs.declared.state.QueuedLine.{QueuedLine}
use Rattle.ftp_hub.specs.State.{with_transfer}
use Rattle.ftp_hub.proofs.Lines.{AreLeft}
use Rattle.ftp_hub.proofs.resume.queue_all.Given as goal

abbrev pub invariant-loop-line : goal.invariant-loop-line
invariant-loop-line l = AreLeft (λ (line : QueuedLine). line.session) with_transfer l.lines.items l.sessions l.initial.lines.items l.fn.sessions

abbrev pub decreases-loop-line : goal.decreases-loop-line
decreases-loop-line l = vec_len l.lines
