use Rattle.std.proofs.Common.{◌≡◌, ◌-◌, drop, length}
use Rattle.ftp_shared.specs.Outbox.{others_in}
use Rattle.ftp_shared.proofs.receipt.Others.next.Given as goal

-- nobody was found so far
abbrev pub invariant-loop-self : goal.invariant-loop-self
invariant-loop-self l = others_in l.self-inside.own (drop l.self-inside.next l.self-inside.actions.now) ≡ l.fn.self

abbrev pub decreases-loop-self : goal.decreases-loop-self
decreases-loop-self l = length l.self-inside.actions.now - l.self-inside.next
