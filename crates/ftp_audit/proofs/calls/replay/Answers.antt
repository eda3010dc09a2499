use Rattle.std.proofs.Common.{◌≡◌, ℕ, length, refl, subst, ◌∙◌, arith}
use Rattle.ftp_base.proofs.KeptLemmas.{CountsOn-more}
use Rattle.ftp_audit.proofs.Replayed.{Replaying, replaying-more, all-made, first-made, stopped-made, told-alone}
use Rattle.ftp_audit.proofs.calls.replay.Goals as goal

pub loop-call-preserved : goal.loop-call-preserved
loop-call-preserved g c =
    let before = c.loop-call.invariant in
    let made = c.in_ok-verdict.ensures in
    let first = before.storage.count in
    let on = made.counts.count in
    let more = replaying-more (g.S.Storage.rule c.args.q.now.inner) (g.S.Storage.rule c.loop-call.q.inner) (g.S.Storage.rule c.make.new.q.inner)
    (g.S.Storage.files c.args.q.now.inner) (g.S.Storage.files c.loop-call.q.inner) (g.S.Storage.files c.make.new.q.inner)
    c.args.q.now.accounts c.loop-call.q.accounts c.make.new.q.accounts
    (g.S.Storage.faults c.args.q.now.inner) (g.S.Storage.faults c.loop-call.q.inner) (g.S.Storage.faults c.make.new.q.inner)
    c.args.calls.now c.loop-call.call-index c.loop-call.verdicts.items c.call-item.result c.in_ok-verdict.verdict
    before.so_far c.loop-call-test.true c.call-item.is first on made.answered made.failed in
    record {
      room = rw c.push_reserved.ensures.capacity before.room;
      so_far = rw c.push_reserved.ensures.items more;
      agreed = λ agrees. made.agreed (before.agreed agrees);
      owners_within = λ within. made.within (before.owners_within within);
      budgets = λ user. made.same_budgets user ∙ before.budgets user;
      storage = CountsOn-more before.storage made.counts;
    }

pub returns-clause-made : goal.returns-clause-made
returns-clause-made g c =
    let all : c.loop-call.call-index ≡ length c.args.calls.now = (let last = c.loop-call-test.false in let within = c.loop-call.auto.call-index-end in omega arith) in
    let so_far = subst (λ (i : ℕ). Replaying (g.S.Storage.rule c.args.q.now.inner) (g.S.Storage.rule c.loop-call.q.inner) (g.S.Storage.files c.args.q.now.inner) (g.S.Storage.files c.loop-call.q.inner) c.args.q.now.accounts c.loop-call.q.accounts
    (g.S.Storage.faults c.args.q.now.inner) (g.S.Storage.faults c.loop-call.q.inner) c.args.calls.now i c.loop-call.verdicts.items) all c.loop-call.invariant.so_far in
    first-made (g.S.Storage.rule c.args.q.now.inner) (g.S.Storage.rule c.loop-call.q.inner) (g.S.Storage.rule c.loop-call.q.inner)
    (g.S.Storage.files c.args.q.now.inner) (g.S.Storage.files c.loop-call.q.inner) (g.S.Storage.files c.loop-call.q.inner)
    c.args.q.now.accounts c.loop-call.q.accounts c.loop-call.q.accounts
    (g.S.Storage.faults c.args.q.now.inner) (g.S.Storage.faults c.loop-call.q.inner) (g.S.Storage.faults c.loop-call.q.inner)
    c.args.calls.now (length c.args.calls.now) c.loop-call.verdicts.items so_far (omega arith) (omega arith) refl refl refl

pub returns-clause-alone : goal.returns-clause-alone
returns-clause-alone g c user max apart is =
    let all : c.loop-call.call-index ≡ length c.args.calls.now = (let last = c.loop-call-test.false in let within = c.loop-call.auto.call-index-end in omega arith) in
    let so_far = subst (λ (i : ℕ). Replaying (g.S.Storage.rule c.args.q.now.inner) (g.S.Storage.rule c.loop-call.q.inner) (g.S.Storage.files c.args.q.now.inner) (g.S.Storage.files c.loop-call.q.inner) c.args.q.now.accounts c.loop-call.q.accounts
    (g.S.Storage.faults c.args.q.now.inner) (g.S.Storage.faults c.loop-call.q.inner) c.args.calls.now i c.loop-call.verdicts.items) all c.loop-call.invariant.so_far in
    told-alone (g.S.Storage.files c.args.q.now.inner) c.args.q.now.accounts (g.S.Storage.rule c.args.q.now.inner) max user c.args.calls.now c.loop-call.verdicts.items _ apart is
    (all-made (g.S.Storage.rule c.args.q.now.inner) (g.S.Storage.rule c.loop-call.q.inner) (g.S.Storage.files c.args.q.now.inner) (g.S.Storage.files c.loop-call.q.inner) c.args.q.now.accounts c.loop-call.q.accounts
    (g.S.Storage.faults c.args.q.now.inner) (g.S.Storage.faults c.loop-call.q.inner) c.args.calls.now c.loop-call.verdicts.items so_far)

pub returns-clause-verdicts : goal.returns-clause-verdicts
returns-clause-verdicts g c =
    let all : c.loop-call.call-index ≡ length c.args.calls.now = (let last = c.loop-call-test.false in let within = c.loop-call.auto.call-index-end in omega arith) in
    let so_far = subst (λ (i : ℕ). Replaying (g.S.Storage.rule c.args.q.now.inner) (g.S.Storage.rule c.loop-call.q.inner) (g.S.Storage.files c.args.q.now.inner) (g.S.Storage.files c.loop-call.q.inner) c.args.q.now.accounts c.loop-call.q.accounts
    (g.S.Storage.faults c.args.q.now.inner) (g.S.Storage.faults c.loop-call.q.inner) c.args.calls.now i c.loop-call.verdicts.items) all c.loop-call.invariant.so_far in
    all-made (g.S.Storage.rule c.args.q.now.inner) (g.S.Storage.rule c.loop-call.q.inner) (g.S.Storage.files c.args.q.now.inner) (g.S.Storage.files c.loop-call.q.inner) c.args.q.now.accounts c.loop-call.q.accounts
    (g.S.Storage.faults c.args.q.now.inner) (g.S.Storage.faults c.loop-call.q.inner) c.args.calls.now c.loop-call.verdicts.items so_far

pub returns-in_err-verdict-clause-stopped : goal.returns-in_err-verdict-clause-stopped
returns-in_err-verdict-clause-stopped g c =
    let below = c.loop-call-test.true in
    stopped-made (g.S.Storage.files c.args.q.now.inner) _ c.from_residual-in_err-verdict.result _ c.loop-call.call-index
    (first-made (g.S.Storage.rule c.args.q.now.inner) (g.S.Storage.rule c.loop-call.q.inner) (g.S.Storage.rule c.make.new.q.inner)
    (g.S.Storage.files c.args.q.now.inner) (g.S.Storage.files c.loop-call.q.inner) (g.S.Storage.files c.make.new.q.inner)
    c.args.q.now.accounts c.loop-call.q.accounts c.make.new.q.accounts
    (g.S.Storage.faults c.args.q.now.inner) (g.S.Storage.faults c.loop-call.q.inner) (g.S.Storage.faults c.make.new.q.inner)
    c.args.calls.now c.loop-call.call-index c.loop-call.verdicts.items c.loop-call.invariant.so_far (omega arith) c.in_err-verdict.ensures.counts.count
    c.in_err-verdict.ensures.unchanged c.in_err-verdict.ensures.same_owners c.in_err-verdict.ensures.same_rule)
