use Rattle.std.proofs.Common.{◌≡◌, ◌∙◌, sym, ap}
use Rattle.std.specs.Option.{option_copied}
use Rattle.ftp_config.specs.Users.{user_named}
use Rattle.ftp_config.specs.Verdict.{answer_for}
use Rattle.ftp_config.proofs.VerdictLemmas.{said_to-answer_for, good-may_log_in}
use Rattle.ftp_config.proofs.users.Users.verify.Goals as goal

pub returns : goal.returns
returns c =
    let answer : c.said_to.result ≡ answer_for (user_named c.args.name.now c.args.self.now) c.args.password.now =
    c.said_to.ensures
    ∙ said_to-answer_for (option_copied c.find-user.result) _ _ _ c.args.password.now c.hash_to_try.ensures c.verify-right.ensures
    ∙ ap (λ found. answer_for found c.args.password.now) c.find-user.ensures in
    let good = good-may_log_in c.args.self.now c.args.name.now c.args.password.now in
    record { answer = answer; good = (λ said. good.0 (sym answer ∙ said), λ let_in. answer ∙ good.1 let_in) }
