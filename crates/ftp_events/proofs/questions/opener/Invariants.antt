use Rattle.std.proofs.Common.{◌≡◌, ◌≤◌, length, take, reverse}
use Rattle.ftp_events.specs.Log.{past_of}
use Rattle.ftp_events.specs.Opening.{opener}
use Rattle.ftp_events.proofs.questions.opener.Given as goal

-- no entry from the place on opens the session
abbrev pub invariant-loop-i : goal.invariant-loop-i
invariant-loop-i l = record {
  in_range : l.i ≤ length l.entries;
  same : opener (past_of (reverse l.entries)) l.session ≡ opener (past_of (reverse (take l.i l.entries))) l.session;
}

abbrev pub decreases-loop-i : goal.decreases-loop-i
decreases-loop-i l = l.i
