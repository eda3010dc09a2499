use Rattle.std.proofs.Common.{ap, ◌∙◌, ℕ, List, take_all}
use Rattle.std.specs.Prelude.{flat_map, nat_eq}
use Rattle.std.specs.HashMap as table
use Rattle.ftp_hub.proofs.Told.{jobs_at, tells-jobs}
use Rattle.ftp_hub.proofs.hub.Hub.job_lines.Goals as goal

-- each job has its line
pub returns : goal.returns
returns c own =
    let t = c.args.self.now.jobs in
    let numbers : List ℕ = c.in_ok-numbers.numbers.items in
    let items : List ℕ = c.deref-number-items.result.now in
    let all = take_all c.loop-number.number-index items c.loop-number-test.false ∙ c.deref-number-items.ensures.value in
    tells-jobs t numbers c.loop-number.lines.items c.in_ok-numbers.ensures.in_order c.in_ok-numbers.ensures.all c.in_ok-numbers.ensures.len
    (c.loop-number.invariant ∙ ap (flat_map (jobs_at (table.get nat_eq t))) all) own
