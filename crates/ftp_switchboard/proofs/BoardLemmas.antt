-- What is held after a change, key by key.
use Rattle.std.proofs.Common.{◌≡◌, ℕ, Bool, true, false, cond, Option, Some, None, ◌&&◌, inl, inr, refl, sym, ap, ◌∙◌, arith}
use Rattle.std.specs.FinMap as finmap
use Rattle.std.proofs.lemmas.Bool.{cases_Bool}
use Rattle.std.proofs.lemmas.Bool.Decides.{nat_tests}
use Rattle.ftp_switchboard.specs.declared.key.SwitchboardKey.{SwitchboardKey}
use Rattle.ftp_switchboard.specs.Board.{Held, is_key, is_of, key, present_released, released, still_holder}
use Rattle.ftp_switchboard.proofs.KeyLemmas.{key_cmp-total, eq_by_cmp-key_cmp}

-- A session that does not hold the key changes nothing.
released-other : (held : Held) (k : SwitchboardKey) (session : ℕ) → is_of session (finmap.get held k) ≡ false → released held k session ≡ held
released-other held k session not_own = ap (λ b. cond b (finmap.remove held k) held) not_own

same_if : {A : Type 0} (b : Bool) (x y : A) → (b ≡ true → x ≡ y) → cond b x y ≡ y
same_if true x y same = same refl
same_if false x y same = refl

module _ (held : Held) (a p b q : ℕ) where
  -- A hold is found at its own key.
  pub get-insert-key : (session : ℕ) → finmap.get (finmap.insert held (key b q) session) (key a p) ≡ cond (is_key a p b q) (Some session) (finmap.get held (key a p))
  get-insert-key session =
      finmap.get-insert key_cmp-total held (key b q) session (key a p)
      ∙ ap (λ t. cond t (Some session) (finmap.get held (key a p))) (eq_by_cmp-key_cmp (key a p) (key b q))

  -- A key that is removed is held by nobody.
  pub get-remove-key : finmap.get (finmap.remove held (key b q)) (key a p) ≡ cond (is_key a p b q) None (finmap.get held (key a p))
  get-remove-key =
      finmap.get-remove key_cmp-total held (key b q) (key a p)
      ∙ ap (λ t. cond t None (finmap.get held (key a p))) (eq_by_cmp-key_cmp (key a p) (key b q))

  get-same_key : is_key a p b q ≡ true → finmap.get held (key a p) ≡ finmap.get held (key b q)
  get-same_key same =
      let sources : a ≡ b = grind (arith, nat_tests) in
      let ports : p ≡ q = grind (arith, nat_tests) in
      λ i. finmap.get held (key (sources i) (ports i))

  -- A key that a session gave up is held by whoever else held it.
  pub get-released : (session : ℕ) → finmap.get (released held (key b q) session) (key a p) ≡ cond (is_key a p b q && is_of session (finmap.get held (key a p))) None (finmap.get held (key a p))
  get-released session = elim (cases_Bool (is_of session (finmap.get held (key b q)))) [
    | inl own ↦ ap (λ t. finmap.get (cond t (finmap.remove held (key b q)) held) (key a p)) own ∙ get-remove-key
        ∙ own_key session own (is_key a p b q) refl
    | inr other ↦ ap (λ (h : Held). finmap.get h (key a p)) (released-other held (key b q) session other)
        ∙ sym (same_if (is_key a p b q && is_of session (finmap.get held (key a p))) None (finmap.get held (key a p)) (λ both. absurd (not_own session other both)))
  ] where
    own_key : (session : ℕ) → is_of session (finmap.get held (key b q)) ≡ true → (same : Bool) → is_key a p b q ≡ same → cond same None (finmap.get held (key a p)) ≡ cond (same && is_of session (finmap.get held (key a p))) None (finmap.get held (key a p))
    own_key session own true is = ap (λ t. cond t None (finmap.get held (key a p))) (sym (ap (is_of session) (get-same_key is) ∙ own))
    own_key session own false is = refl

    not_own : (session : ℕ) → is_of session (finmap.get held (key b q)) ≡ false → (is_key a p b q && is_of session (finmap.get held (key a p))) ≡ true → ⊥
    not_own session other both =
        let same : is_key a p b q ≡ true = grind (arith, both) in
        let own : is_of session (finmap.get held (key a p)) ≡ true = grind (arith, both) in
        let clash : true ≡ false = sym own ∙ ap (is_of session) (get-same_key same) ∙ other in
        cc

-- After a session gave up its present port, a key is held by whoever else held it.
pub get-present_released : (held : Held) (source : ℕ) (present : Option ℕ) (session a p : ℕ) → finmap.get (present_released held source present session) (key a p) ≡ still_holder source present session a p (finmap.get held (key a p))
get-present_released held source None session a p = refl
get-present_released held source (Some port) session a p = get-released held a p source port session
