use Rattle.std.proofs.Common.{◌≡◌, arith, rules, refl, sym, ap, ◌∙◌, subst, ℕ, ◌≤◌, true≢false, List, [], ◌∷◌, ◌++◌, Some, None, eqb-true}
use Rattle.std.specs.Prelude.{◌==◌, nat_eq}
use Rattle.std.specs.HashMap as map
use Rattle.std.proofs.lemmas.Option.{same_Some}
use Rattle.std.proofs.lemmas.Result.{err_from_is_err_and}
use Rattle.ftp_laws.specs.Census.{IsAscending, has as is_listed}
use Rattle.ftp_laws.proofs.Cases.{by_test}
use Rattle.ftp_switchboard.specs.Board.{holder_at}
use Rattle.ftp_hub.proofs.Common.{Session}
use Rattle.ftp_hub.proofs.Claiming.{above-left, above-step, claim-refused, claimed-waits, unlisted-last}
use Rattle.ftp_hub.proofs.Lines.{ascending-last}
use Rattle.ftp_hub.proofs.claims.claim_all.Goals as goal

-- nobody holds a port yet
pub loop-number-init : goal.loop-number-init
loop-number-init c =
    record {
      claimed = λ a p s listed unlisted w. absurd (true≢false (sym listed ∙ unlisted));
      held = λ a p s h. let z : None ≡ Some s = sym (c.requires.free a p) ∙ h in cc;
      above = λ a p s h. let z : None ≡ Some s = sym (c.requires.free a p) ∙ h in cc;
      in_order = c.requires.in_order;
      range = record { lo = refl; hi = refl };
    }

-- the port of the next session is one of the range
pub claim_one-requires : goal.claim_one-requires
claim_one-requires c =
    let inv = c.loop-number.invariant in
    record {
      in_range = λ p w.
          let within = c.requires.in_range c.in-Some.number c.in-Some-get.session.now p (sym c.in-Some-get.ensures.value) w in
          (subst (λ (m : ℕ). m ≤ p) (sym inv.range.lo) within.0, subst (λ (m : ℕ). p ≤ m) (sym inv.range.hi) within.1);
    }

-- a number without a session changes nothing
pub loop-number-preserved : goal.loop-number-preserved
loop-number-preserved c =
    let left : List ℕ = c.pop.new.self.items in
    let n : ℕ = c.in-Some.number in
    let all : c.loop-number.numbers.items ≡ left ++ n ∷ [] = c.in-Some.ensures.items in
    let inv = c.loop-number.invariant in
    let given = c.in_default-get.ensures.value in
    let found = c.get.ensures.value in
    let is = c.in_default-get.is in
    let none : map.get nat_eq c.args.sessions.now n ≡ None = first_of (cc, grind arith, search rules) in
    record {
      claimed = λ a p s listed unlisted w.
          by_test (n == s)
          (λ y. let z : None ≡ Some w.0 = sym none ∙ ap (map.get nat_eq c.args.sessions.now) (eqb-true n s y) ∙ w.1 in cc)
          (λ other. inv.claimed a p s listed (ap (λ (xs : List ℕ). is_listed xs s) all ∙ unlisted-last left n s unlisted other) w);
      held = inv.held;
      above = λ a p s h. above-left c.loop-number.board n a p s left c.loop-number.numbers.items all inv.above h;
      in_order = (ascending-last left n (subst IsAscending all inv.in_order)).0;
      range = inv.range;
    }

-- with one session more it is so of it too
pub loop-number-preserved-in-Continue-1 : goal.loop-number-preserved-in-Continue-1
loop-number-preserved-in-Continue-1 c =
    let left : List ℕ = c.pop.new.self.items in
    let n : ℕ = c.in-Some.number in
    let all : c.loop-number.numbers.items ≡ left ++ n ∷ [] = c.in-Some.ensures.items in
    let inv = c.loop-number.invariant in
    let v : Session = c.in-Some-get.session.now in
    let there : map.get nat_eq c.args.sessions.now n ≡ Some v = sym c.in-Some-get.ensures.value in
    let old = c.loop-number.board in
    let new = c.claim_one.new.board in
    record {
      claimed = λ a p s listed unlisted w.
          by_test (n == s)
          (λ y.
          let same : n ≡ s = eqb-true n s y in
          let found : v ≡ w.0 = same_Some _ _ (sym there ∙ ap (map.get nat_eq c.args.sessions.now) same ∙ w.1) in
          subst (λ (m : ℕ). holder_at new a p ≡ Some m) same
          (c.in_ok-claim_one.ensures.claimed a p (ap (λ (x : Session). x.opening.client) found ∙ w.2) (ap (λ (x : Session). x.slot) found ∙ w.3)))
          (λ other.
          c.in_ok-claim_one.ensures.kept a p s
          (inv.claimed a p s listed (ap (λ (xs : List ℕ). is_listed xs s) all ∙ unlisted-last left n s unlisted other) w));
      held = λ a p s h. claimed-waits (map.get nat_eq c.args.sessions.now) (holder_at old) n v a p s there (inv.held a p s) (c.in_ok-claim_one.ensures.held a p s h);
      above = λ a p s h. above-step old n a p s v left c.loop-number.numbers.items all inv.in_order inv.above (c.in_ok-claim_one.ensures.held a p s h);
      in_order = (ascending-last left n (subst IsAscending all inv.in_order)).0;
      range = record { lo = c.claim_one.ensures.range.lo ∙ inv.range.lo; hi = c.claim_one.ensures.range.hi ∙ inv.range.hi };
    }

-- a claim that is refused is one of two that wait for one port
pub returns-in_err-claim_one-clause-refused : goal.returns-in_err-claim_one-clause-refused
returns-in_err-claim_one-clause-refused c =
    let inv = c.loop-number.invariant in
    let p = err_from_is_err_and c.from_residual.result c.from_residual.ensures.1 in
    rw (p.1, p.2)
    (claim-refused (map.get nat_eq c.args.sessions.now) c.loop-number.board c.in-Some.number c.in-Some-get.session.now c.pop.new.self.items c.loop-number.numbers.items
    c.in_err-claim_one.field-0.0 c.in-Some.ensures.items (sym c.in-Some-get.ensures.value) inv.held inv.above c.in_err-claim_one.ensures.refused)
