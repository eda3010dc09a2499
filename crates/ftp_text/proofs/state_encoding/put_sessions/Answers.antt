use Rattle.std.proofs.Common.{◌+◌, drop, ◌∙◌, arith}
use Rattle.ftp_text.specs.Walk.{session_walk}
use Rattle.ftp_text.proofs.WritingLemmas.{drop-item, session-written}
use Rattle.ftp_text.proofs.state_encoding.put_sessions.Goals as goal

pub loop-line-preserved : goal.loop-line-preserved
loop-line-preserved c =
    let i = c.loop-line.line-index in
    let sessions = c.args.sessions.now in
    let rest = drop (i + 1) sessions in
    session-written c.line-item.result (drop i sessions) rest c.loop-line.slots.now c.in_ok-slots.field-0-0.now c.loop-line.queued.now c.in_ok-slots.field-0-1.now
    c.loop-line.out.items c.put_session.new.out.items c.put_own_slot.new.out.items
    (drop-item sessions i c.line-item.result (omega (arith, c.loop-line-test.true)) c.line-item.is) c.in_ok-put_session.ensures (c.in_ok-slots.ensures (session_walk rest))
    ∙ c.loop-line.invariant
