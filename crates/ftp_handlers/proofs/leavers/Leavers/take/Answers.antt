use Rattle.std.proofs.Common.{◌≡◌}
use Rattle.std.proofs.lemmas.List.Elements.{All-rest}
use Rattle.ftp_handlers.specs.declared.leavers.Leaver.{Leaver}
use Rattle.ftp_handlers.proofs.leavers.Leavers.take.Goals as goal

-- what holds of all holds of those who are left
pub invariant_of-self-2 : goal.invariant_of-self-2
invariant_of-self-2 c =
    All-rest (λ (q : Leaver). q.user.twice ≡ c.self.inside.twice) c.in_ok-number.field-0 c.pop_front.new.self.items c.self.inside.queue.items
    c.in_ok-number.ensures.items c.self.invariant
