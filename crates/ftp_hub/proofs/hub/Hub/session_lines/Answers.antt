use Rattle.std.proofs.Common.{ap, ◌∙◌, ℕ, List, Some, take_all}
use Rattle.std.specs.Prelude.{flat_map, nat_eq}
use Rattle.std.specs.HashMap as table
use Rattle.ftp_hub.specs.State.{queued_told, session_told, slot_told}
use Rattle.ftp_hub.proofs.Told.{tells-sessions, told_at}
use Rattle.ftp_hub.proofs.hub.Hub.session_lines.Goals as goal

-- each live session has its lines
pub returns : goal.returns
returns c tidy =
    let t = c.args.self.now.sessions in
    let live = table.get nat_eq t in
    let numbers : List ℕ = c.in_ok-numbers.numbers.items in
    let items : List ℕ = c.deref-number-items.result.now in
    let all = take_all c.loop-number.number-index items c.loop-number-test.false ∙ c.deref-number-items.ensures.value in
    tells-sessions t numbers c.loop-number.lines.sessions.items c.loop-number.lines.slots.items c.loop-number.lines.queued.items
    c.in_ok-numbers.ensures.in_order c.in_ok-numbers.ensures.all c.in_ok-numbers.ensures.len
    (c.loop-number.invariant.sessions ∙ ap (flat_map (told_at (λ s v. Some (session_told s v)) live)) all)
    (c.loop-number.invariant.slots ∙ ap (flat_map (told_at slot_told live)) all)
    (c.loop-number.invariant.queued ∙ ap (flat_map (told_at queued_told live)) all)
    tidy
