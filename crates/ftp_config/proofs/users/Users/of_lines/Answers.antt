use Rattle.std.proofs.Common.{◌∙◌, [], take, ap, sym, below_more, arith}
use Rattle.ftp_config.specs.Users.{user_named, users_in, named}
use Rattle.ftp_config.proofs.PartLemmas.{texts}
use Rattle.ftp_config.proofs.LineLemmas.{take-line, good_at-line, first-bad}
use Rattle.ftp_config.proofs.users.Users.of_lines.Goals as goal

pub loop-i-init : goal.loop-i-init
unfolding users_in
loop-i-init c = (λ name. ap (λ entries. user_named name (named entries)) c.new-by_name.ensures.empty, λ k lt. absurd (omega arith))

pub returns-then-not-branch-clause-line : goal.returns-then-not-branch-clause-line
returns-then-not-branch-clause-line c =
    let good = c.in_ok-take_line.ensures.good (take c.loop-i.i (texts c.args.lines.now)) c.loop-i.invariant.0 in
    first-bad c.args.lines.now c.loop-i.i (record { ref_ptr = (0, 0); now = [] }) (omega arith) c.loop-i.invariant.1 (sym good ∙ c.if-not-branch.true)

pub loop-i-preserved : goal.loop-i-preserved
loop-i-preserved c =
    let lines = c.args.lines.now in
    let before = take c.loop-i.i (texts lines) in
    let good = c.in_ok-take_line.ensures.good before c.loop-i.invariant.0 in
    let users = c.in_ok-take_line.ensures.users before c.loop-i.invariant.0 in
    let next = take-line lines c.loop-i.i (record { ref_ptr = (0, 0); now = [] }) (omega arith) in
    let here = good_at-line lines c.loop-i.i (record { ref_ptr = (0, 0); now = [] }) (omega arith) in (
      λ name. users c.if-not-branch.false name ∙ ap (λ ls. user_named name (users_in ls)) (sym next),
      below_more _ _ c.loop-i.invariant.1 (here ∙ sym good ∙ c.if-not-branch.false),
    )
