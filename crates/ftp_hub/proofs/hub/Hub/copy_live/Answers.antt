use Rattle.std.proofs.Common.{ap, ◌∙◌, ℕ, List, map, take_all}
use Rattle.std.specs.Prelude.{nat_eq}
use Rattle.std.specs.HashMap as table
use Rattle.ftp_hub.specs.Leavers.{leaver_of}
use Rattle.ftp_hub.proofs.Leaving.{are-leavers}
use Rattle.ftp_hub.proofs.hub.Hub.copy_live.Goals as goal

-- each live session is there, in order of its number
pub returns-clause-leavers : goal.returns-clause-leavers
returns-clause-leavers c =
    let live = table.get nat_eq c.args.self.now.sessions in
    let numbers : List ℕ = c.in_ok-numbers.numbers.items in
    let items : List ℕ = c.deref-number-items.result.now in
    are-leavers live numbers c.loop-number.leavers.items c.in_ok-numbers.ensures.in_order c.in_ok-numbers.ensures.all
    (c.loop-number.invariant.items ∙ ap (map (leaver_of live)) (take_all c.loop-number.number-index items c.loop-number-test.false ∙ c.deref-number-items.ensures.value))
