-- Without an entry that is for nobody a log decides and does the same, where failures without it are close to those with it.
use Rattle.std.proofs.Common.{◌≡◌, refl, sym, ◌∙◌, ap, ℕ, Bool, true, false, List, [], ◌∷◌, ◌++◌, Option}
use Rattle.ftp_base.specs.declared.login.AuthAnswer.{AuthAnswer}
use Rattle.ftp_options.specs.declared.lockout.FailedLoginsPolicy.{FailedLoginsPolicy}
use Rattle.ftp_lockout.specs.declared.cache.Failures.{Failures}
use Rattle.ftp_lockout.specs.declared.key.LoginKey.{LoginKey}
use Rattle.ftp_events.specs.declared.event.HubEvent.{HubEvent}
use Rattle.ftp_events.specs.CommandRows.{own_failures}
use Rattle.ftp_events.specs.LoginRows.{auth_row}
use Rattle.ftp_events.specs.Lockout.{failures_after, tally, failures}
use Rattle.ftp_events.specs.Right.{with_decision, next_entry}
use Rattle.ftp_laws.proofs.Common.{Options, Action, Answer, Decision, Entry, EventKind, Session, past_of, is_refusal, session, due, decide, acts, acts_of, IsRight, IsActed}
use Rattle.ftp_laws.proofs.SameLemmas.{decided-same, done-same, AreSame, same-told, same-more, IsForNobody, nobody-same}

-- a right and acted log, and another that tells the same, of failures but for what makes them close
pub record AreAlike (o : Options) (IsClose : List Entry → FailedLoginsPolicy → Option Failures → Option Failures → Type 0) (log rest : List Entry) : Type 0 where
  pub same : AreSame o (past_of log) (past_of rest)
  pub failed : (p : FailedLoginsPolicy) (key : LoginKey) → IsClose log p (tally o p (past_of rest) key) (tally o p (past_of log) key)
  pub right : IsRight o rest
  pub acted : IsActed o rest

-- of close failures, and of the moments at which that is known: a password is decided the same, and they stay close with each entry
pub record StayClose
    (o : Options) (IsClose : List Entry → FailedLoginsPolicy → Option Failures → Option Failures → Type 0) (IsMoment : ℕ → List Entry → Type 0) : Type 0 where
  pub password :
      (log rest : List Entry) → AreAlike o IsClose log rest → (at : ℕ) (v : Session) (said : AuthAnswer) → IsMoment at log →
      auth_row o.lockout at (own_failures o (failures o (past_of rest)) v) said v.login ≡ auth_row o.lockout at (own_failures o (failures o (past_of log)) v) said v.login
  pub refused : (log : List Entry) (e : Entry) (p : FailedLoginsPolicy) (g f : Option Failures) → IsMoment e.event.at log → IsClose log p g f → IsClose (e ∷ log) p g f
  pub counted :
      (log rest : List Entry) (e : Entry) (p : FailedLoginsPolicy) (key : LoginKey) (g f : Option Failures) →
      ((s : ℕ) → session o (past_of rest) s ≡ session o (past_of log) s) → IsMoment e.event.at log → IsClose log p g f →
      IsClose (e ∷ log) p (failures_after o p (past_of rest) key e.event.kind e.event.at g) (failures_after o p (past_of log) key e.event.kind e.event.at f)

module _
    (o : Options) (IsClose : List Entry → FailedLoginsPolicy → Option Failures → Option Failures → Type 0) (IsMoment : ℕ → List Entry → Type 0)
    (stay : StayClose o IsClose IsMoment) where
  -- of such logs the same is decided
  alike-decides :
      (log rest : List Entry) → AreAlike o IsClose log rest → (at : ℕ) (k : EventKind) (answer : Answer) → IsMoment at log →
      due o (past_of rest) at k answer ≡ due o (past_of log) at k answer
  alike-decides log rest u at k answer m =
      decided-same o (past_of log) (past_of rest) (same-told o (past_of log) (past_of rest) u.same) at k answer (λ v said. stay.password log rest u at v said m)

  -- and done
  alike-does : (log rest : List Entry) → AreAlike o IsClose log rest → (e : Entry) → acts_of o (past_of rest) e ≡ acts_of o (past_of log) e
  alike-does log rest u e = done-same o (past_of log) (past_of rest) (same-told o (past_of log) (past_of rest) u.same) e

  -- with the entry that is due next they are such logs too
  alike-more :
      (log rest : List Entry) (e : Entry) → IsMoment e.event.at log →
      e.decision ≡ decide o log e.event e.answer → e.actions ≡ acts o log e →
      AreAlike o IsClose log rest → AreAlike o IsClose (e ∷ log) (e ∷ rest)
  unfolding decide acts
  alike-more log rest e m right acted u = go (is_refusal e.decision) refl
    where
      P : List Entry
      P = past_of log

      K : List Entry
      K = past_of rest

      still_right : IsRight o (e ∷ rest)
      still_right = (u.right, right ∙ sym (alike-decides log rest u e.event.at e.event.kind e.answer m))

      still_acted : IsActed o (e ∷ rest)
      still_acted = (u.acted, acted ∙ sym (alike-does log rest u e))

      go : (b : Bool) → is_refusal e.decision ≡ b → AreAlike o IsClose (e ∷ log) (e ∷ rest)
      go true x =
          record {
            same = rw x u.same;
            failed = λ p key. rw x (stay.refused log e p (tally o p K key) (tally o p P key) m (u.failed p key));
            right = still_right;
            acted = still_acted;
          }
      go false x =
          record {
            same = rw x (same-more o P K e u.same);
            failed = λ p key. rw x (stay.counted log rest e p key (tally o p K key) (tally o p P key) (same-told o P K u.same).sessions m (u.failed p key));
            right = still_right;
            acted = still_acted;
          }

  -- so are a log that ends with an entry for nobody, and what was before it, where that leaves the failures close
  pub alike-first :
      (older : List Entry) (e : Entry) (k : EventKind) (d : Decision) →
      e.event.kind ≡ k → e.decision ≡ d → is_refusal d ≡ false → IsForNobody k e.answer d →
      (is_refusal e.decision ≡ false → (p : FailedLoginsPolicy) (key : LoginKey) → IsClose (e ∷ older) p (tally o p (past_of older) key) (tally o p (past_of (e ∷ older)) key)) →
      IsRight o (e ∷ older) → IsActed o (e ∷ older) → AreAlike o IsClose (e ∷ older) older
  alike-first older e k d is decided counts nobody close r a =
      let counted : is_refusal e.decision ≡ false = ap is_refusal decided ∙ counts in
      record {
        same = rw counted (nobody-same o (past_of older) e (rw (is, decided) nobody));
        failed = close counted;
        right = r.0;
        acted = a.0;
      }

  -- and what is left of a log without the entry, whatever came after it
  pub alike-without :
      (AreMoments : List Entry → Type 0) → ((x : Entry) (log : List Entry) → AreMoments (x ∷ log) → AreMoments log × IsMoment x.event.at log) →
      (newer older : List Entry) (e : Entry) →
      AreMoments (newer ++ e ∷ older) → IsRight o (newer ++ e ∷ older) → IsActed o (newer ++ e ∷ older) →
      (IsRight o (e ∷ older) → IsActed o (e ∷ older) → AreAlike o IsClose (e ∷ older) older) → AreAlike o IsClose (newer ++ e ∷ older) (newer ++ older)
  unfolding decide acts
  alike-without AreMoments parts [] older e m r a first = first r a
  alike-without AreMoments parts (x ∷ newer) older e m r a first =
      let moments = parts x (newer ++ e ∷ older) m in
      alike-more (newer ++ e ∷ older) (newer ++ older) x moments.1 r.1 a.1 (alike-without AreMoments parts newer older e moments.0 r.0 a.0 first)

  -- and they have the same next entry
  pub alike-next :
      (log rest : List Entry) → AreAlike o IsClose log rest → (event : HubEvent) (answer : Answer) → IsMoment event.at log →
      next_entry o rest event answer ≡ next_entry o log event answer
  unfolding decide acts
  alike-next log rest u event answer m =
      let d : Decision = decide o log event answer in
      ap (with_decision o rest event answer) (alike-decides log rest u event.at event.kind answer m) ∙
      ap (λ (xs : List Action). record { event = event; answer = answer; decision = d; actions = xs })
      (alike-does log rest u (record { event = event; answer = answer; decision = d; actions = [] }))
