use Rattle.std.proofs.Common.{ℕ, count_by, get_or, take}
use Rattle.ftp_events.specs.Tallies.{Grows}
use Rattle.ftp_events.specs.Counts.{is_reply}
use Rattle.ftp_events.proofs.counting.count_replies.Given as goal

-- the replies of the actions so far are counted
abbrev pub invariant-loop-action : goal.invariant-loop-action
invariant-loop-action l = (d : ℕ) → Grows (count_by (is_reply d) (take l.action-index l.actions)) (get_or l.initial.replies d 0) (get_or l.replies d 0)
