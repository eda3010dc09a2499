use Rattle.std.proofs.Common.{◌≡◌, take, reverse}
use Rattle.ftp_events.specs.Log.{past_of}
use Rattle.ftp_events.specs.Board.{holder}
use Rattle.ftp_events.proofs.questions.holder_of.Given as goal

-- the holder after the entries so far
abbrev pub invariant-loop-i : goal.invariant-loop-i
invariant-loop-i l = l.held ≡ holder l.options (past_of (reverse (take l.i l.entries))) l.client l.port
