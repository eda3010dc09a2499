use Rattle.std.proofs.Common.{◌≡◌, ℕ, ◌≤◌, Option, Some, ap, ◌∙◌}
use Rattle.std.specs.Prelude.{IfSome, unwrap_or}
use Rattle.std.specs.FinMap as map
use Rattle.std.specs.Ordering.{nat_cmp}
use Rattle.std.specs.Cmp.Lexicographic.{slice_cmp}
use Rattle.ftp_audit.specs.Book.{Book}
use Rattle.ftp_audit.specs.Quota.{budget_or}
use Rattle.ftp_hub_tests.proofs.budgets.usage_after.Goals as goal

pub returns : goal.returns
returns g c =
    let budget : budget_or c.replay.new.q.accounts c.args.user.now ≡ Some 10 =
    c.in_ok-replay.ensures.same_budgets c.args.user.now
    ∙ ap (λ (book : Option Book). budget_or book c.args.user.now) c.new-quota.ensures.book
    ∙ ap (λ (o : Option ℕ). Some (unwrap_or o 10)) (map.get-empty (slice_cmp nat_cmp) c.args.user.now)
    in
    let within : IfSome (budget_or c.replay.new.q.accounts c.args.user.now) (λ most. c.usage.result ≤ most) =
    c.usage.ensures.within (c.in_ok-replay.ensures.within c.new-quota.ensures.within)
    in
    let most : c.usage.result ≤ 10 = rw budget at within in
    record { within = most }
