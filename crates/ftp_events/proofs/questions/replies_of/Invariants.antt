use Rattle.std.proofs.Common.{◌≡◌, take, reverse, map}
use Rattle.ftp_events.specs.Right.{replies}
use Rattle.ftp_events.proofs.questions.replies_of.Given as goal

-- the replies of the entries so far
abbrev pub invariant-loop-e : goal.invariant-loop-e
invariant-loop-e l = l.found.items ≡ map (λ x. x.1) (replies (reverse (take l.e-index l.e-items)) l.session)
