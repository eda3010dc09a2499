use Rattle.std.proofs.Common.{◌≡◌, ◌++◌, drop}
use Rattle.ftp_text.specs.StateText.{state_text}
use Rattle.ftp_text.specs.Walk.{session_walk}
use Rattle.ftp_text.proofs.state_encoding.put_sessions.Given as goal

-- what is written, and what is left to be
abbrev pub invariant-loop-line : goal.invariant-loop-line
invariant-loop-line l =
    l.out.items ++ state_text (session_walk (drop l.line-index l.sessions) l.slots l.queued)
    ≡ l.fn.out.items ++ state_text (session_walk l.sessions l.initial.slots l.initial.queued)
