use Rattle.std.proofs.Common.{◌≡◌, ◌++◌, take, map, filter_map}
use Rattle.ftp_events.specs.Right.{reply_to}
use Rattle.ftp_events.proofs.questions.add_replies.Given as goal

-- the replies of the actions so far
abbrev pub invariant-loop-action : goal.invariant-loop-action
invariant-loop-action l = l.found.items ≡ l.initial.found.items ++ map (λ x. x.1) (filter_map (reply_to l.session) (take l.action-index l.actions))
