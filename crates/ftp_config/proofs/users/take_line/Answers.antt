use Rattle.std.proofs.Common.{◌≡◌, ◌∙◌, ℕ, List, true, false, cond, not, Some, ap, sym}
use Rattle.std.specs.Prelude.{is_some}
use Rattle.std.specs.Str.{bytes_eq}
use Rattle.ftp_config.specs.Line.{spelled_user}
use Rattle.ftp_config.specs.Users.{is_passed_over, is_good_behind, user_named, users_in, named}
use Rattle.ftp_config.proofs.LineLemmas.{users_in-passed, good-some, users_in-taken}
use Rattle.ftp_config.proofs.ResultLemmas.{by_both}
use Rattle.ftp_config.proofs.users.take_line.Goals as goal

pub returns-then-is_passed_over-clause-users : goal.returns-then-is_passed_over-clause-users
returns-then-is_passed_over-clause-users c = λ before has t name.
    has name ∙ ap (user_named name) (sym (users_in-passed before c.args.line.now (sym c.is_passed_over.ensures ∙ c.if-is_passed_over.true)))

pub returns-in-Some-clause-good : goal.returns-in-Some-clause-good
returns-in-Some-clause-good c = λ before has.
    let over : is_passed_over c.args.line.now ≡ false = sym c.is_passed_over.ensures ∙ c.if-is_passed_over.false in
    let spelled : spelled_user c.args.line.now ≡ Some (c.in-Some.name, c.in-Some.user) = sym (c.in_ok-name.ensures) ∙ c.in-Some.is in
    let same : not (is_some (user_named c.into_vec.result.items (named c.args.users.now.entries))) ≡ is_good_behind before c.args.line.now =
    ap (λ o. not (is_some o)) (ap (λ n. user_named n (named c.args.users.now.entries)) c.into_vec.ensures ∙ has c.in-Some.name)
    ∙ sym (good-some before c.args.line.now c.in-Some.name c.in-Some.user over spelled) in
    rw same at c.add.ensures.added

pub returns-in-Some-clause-users : goal.returns-in-Some-clause-users
returns-in-Some-clause-users c = λ before has.
    let over : is_passed_over c.args.line.now ≡ false = sym c.is_passed_over.ensures ∙ c.if-is_passed_over.false in
    let spelled : spelled_user c.args.line.now ≡ Some (c.in-Some.name, c.in-Some.user) = sym (c.in_ok-name.ensures) ∙ c.in-Some.is in
    by_both c.add.result _ _ _ c.add.ensures.added c.add.ensures.users (λ added is then taken q.
    let new : not (is_some (user_named c.in-Some.name (users_in before))) ≡ true =
    ap (λ o. not (is_some o)) (sym (has c.in-Some.name) ∙ ap (λ n. user_named n (named c.args.users.now.entries)) (sym c.into_vec.ensures)) ∙ sym is ∙ taken in
    then taken q
    ∙ ap (λ (n : List ℕ). cond (bytes_eq q n) (Some c.in-Some.user) (user_named q (named c.args.users.now.entries))) c.into_vec.ensures
    ∙ ap (cond (bytes_eq q c.in-Some.name) (Some c.in-Some.user)) (has q)
    ∙ users_in-taken before c.args.line.now c.in-Some.name c.in-Some.user q over spelled new)
