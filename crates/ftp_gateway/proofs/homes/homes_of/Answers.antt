use Rattle.std.proofs.Common.{◌≡◌, ◌++◌, ◌∷◌, [], ℕ, List, Vec, Global, sym, ap, ◌∙◌, subst, append-nil}
use Rattle.std.specs.Option.{option_or}
use Rattle.ftp_disk.specs.Home.{home_of, home_if}
use Rattle.ftp_disk.specs.declared.home.Home.{Home}
use Rattle.ftp_config.specs.Users.{named, user_named}
use Rattle.ftp_config.specs.declared.user.User.{User}
use Rattle.ftp_gateway.specs.Owned.{IsHomeOf}
use Rattle.ftp_gateway.proofs.HomeLemmas.{step}
use Rattle.ftp_gateway.proofs.homes.homes_of.Goals as goal

pub loop-name-preserved : goal.loop-name-preserved
loop-name-preserved c =
    let front : List (Vec ℕ Global × User) = c.loop-name.invariant.0 in
    let all : List (Vec ℕ Global × User) = c.into_iter-name-iterator.result in
    let key : List ℕ = c.in-Some.name.now.items in
    let added : (name : List ℕ) → home_of c.add.new.self name ≡ option_or (home_of c.loop-name.homes name) (home_if name key c.in_ok-home.home) =
    subst (λ (k : List ℕ). (name : List ℕ) → home_of c.add.new.self name ≡ option_or (home_of c.loop-name.homes name) (home_if name k c.in_ok-home.home))
    (c.in_ok-from_slice.ensures.items ∙ c.as_slice.ensures.value) c.in_ok-add.ensures.added in
    step front (c.in-Some.name.now, c.in-Some.user.now) c.next.new.self all c.loop-name.homes c.add.new.self c.in_ok-home.home
    (subst (λ rest. front ++ rest ≡ all) c.in-Some.ensures.steps c.loop-name.invariant.1) c.loop-name.invariant.2 c.in_ok-home.ensures added

pub returns : goal.returns
returns c = λ name.
    let front : List (Vec ℕ Global × User) = c.loop-name.invariant.0 in
    let whole : front ++ [] ≡ c.into_iter-name-iterator.result = subst (λ rest. front ++ rest ≡ c.into_iter-name-iterator.result) c.in-None.ensures.steps.0 c.loop-name.invariant.1 in
    let users : named front ≡ c.args.users.now = ap named (sym (append-nil front) ∙ whole ∙ c.into_iter-name-iterator.ensures.into_iter_gives) ∙ c.iter-name-items.ensures in
    subst (λ us. IsHomeOf (user_named name us) (home_of c.loop-name.homes name)) users (c.loop-name.invariant.2 name)
