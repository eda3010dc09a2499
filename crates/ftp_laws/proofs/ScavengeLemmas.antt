-- Without an entry that scavenges a log decides and does the same.
use Rattle.std.proofs.Common.{◌≡◌, refl, ◌∙◌, ap, ℕ, cond, List, ◌∷◌, ◌++◌, Option, Some, None}
use Rattle.std.specs.Prelude.{⊤}
use Rattle.std.specs.Option.{option_and_then}
use Rattle.ftp_base.specs.declared.login.AuthAnswer.{AuthAnswer}
use Rattle.ftp_options.specs.declared.lockout.FailedLoginsPolicy.{FailedLoginsPolicy}
use Rattle.ftp_lockout.specs.declared.cache.Failures.{Failures}
use Rattle.ftp_lockout.specs.declared.key.LoginKey.{LoginKey}
use Rattle.ftp_events.specs.declared.decision.Decision.TheVariants as decision
use Rattle.ftp_events.specs.declared.event.EventKind.TheVariants as kind
use Rattle.ftp_events.specs.declared.event.HubEvent.{HubEvent}
use Rattle.ftp_events.specs.Lockout.{login_key, is_login_for, failures_by, failures_after, tally, failures}
use Rattle.ftp_events.specs.CommandRows.{own_failures}
use Rattle.ftp_events.specs.LoginRows.{auth_row}
use Rattle.ftp_events.specs.Right.{next_entry}
use Rattle.ftp_laws.proofs.Common.{Options, Answer, Entry, EventKind, Session, past_of, session, decide, IsRight, IsActed}
use Rattle.ftp_laws.proofs.WithoutLemmas.{AreAlike, StayClose, alike-first, alike-next, alike-without}

-- failures are told the same
abbrev AreEqual : List Entry → FailedLoginsPolicy → Option Failures → Option Failures → Type 0
AreEqual log p g f = g ≡ f

-- which may be at any moment
abbrev AtAny : ℕ → List Entry → Type 0
AtAny at log = ⊤

stay-equal : (o : Options) → StayClose o AreEqual AtAny
stay-equal o = record { password = password; refused = λ log e p g f m h. h; counted = counted }
  where
    password :
        (log rest : List Entry) → AreAlike o AreEqual log rest → (at : ℕ) (v : Session) (said : AuthAnswer) → AtAny at log →
        auth_row o.lockout at (own_failures o (failures o (past_of rest)) v) said v.login ≡ auth_row o.lockout at (own_failures o (failures o (past_of log)) v) said v.login
    password log rest u at v said m = ap (λ f. auth_row o.lockout at f said v.login) (keys o.lockout)
      where
        keys :
            (x : Option FailedLoginsPolicy) →
            option_and_then (λ p. failures o (past_of rest) (login_key p v)) x ≡ option_and_then (λ p. failures o (past_of log) (login_key p v)) x
        keys None = refl
        keys (Some p) = each o.lockout (login_key p v)
          where
            each :
                (y : Option FailedLoginsPolicy) (key : LoginKey) →
                option_and_then (λ q. tally o q (past_of rest) key) y ≡ option_and_then (λ q. tally o q (past_of log) key) y
            each None key = refl
            each (Some q) key = u.failed q key

    counted :
        (log rest : List Entry) (e : Entry) (p : FailedLoginsPolicy) (key : LoginKey) (g f : Option Failures) →
        ((s : ℕ) → session o (past_of rest) s ≡ session o (past_of log) s) → AtAny e.event.at log → g ≡ f →
        failures_after o p (past_of rest) key e.event.kind e.event.at g ≡ failures_after o p (past_of log) key e.event.kind e.event.at f
    counted log rest e p key g f sessions m h = by e.event.kind
      where
        by : (k : EventKind) → failures_after o p (past_of rest) key k e.event.at g ≡ failures_after o p (past_of log) key k e.event.at f
        by (kind.AuthDone s said) = λ i. cond (is_login_for p (sessions s i) key) (failures_by said p e.event.at (h i)) (h i)
        by k = ap (failures_after o p (past_of log) key k e.event.at) h

-- a right and acted log is so without any scavenging of it, and has the same next entry
pub scavenges-nothing :
    (o : Options) (newer older : List Entry) (e : Entry) → e.event.kind ≡ kind.Scavenge →
    IsRight o (newer ++ e ∷ older) → IsActed o (newer ++ e ∷ older) →
    IsRight o (newer ++ older) × IsActed o (newer ++ older) ×
    ((event : HubEvent) (answer : Answer) → next_entry o (newer ++ older) event answer ≡ next_entry o (newer ++ e ∷ older) event answer)
unfolding decide
scavenges-nothing o newer older e k r a =
    let u : AreAlike o AreEqual (newer ++ e ∷ older) (newer ++ older) =
    alike-without o AreEqual AtAny (stay-equal o) (λ log. ⊤) (λ x log m. (tt, tt)) newer older e tt r a first in
    (u.right, u.acted, λ event answer. alike-next o AreEqual AtAny (stay-equal o) (newer ++ e ∷ older) (newer ++ older) u event answer tt)
  where
    first : IsRight o (e ∷ older) → IsActed o (e ∷ older) → AreAlike o AreEqual (e ∷ older) older
    first r a =
        alike-first o AreEqual AtAny (stay-equal o) older e kind.Scavenge decision.Scavenged k (r.1 ∙ rw k refl) refl
        (record { unnamed = refl; untargeted = λ o. refl; unnumbered = refl; unopened = refl; ungranted = refl; plain = refl })
        (λ counts p key. rw (counts, k) refl) r a
