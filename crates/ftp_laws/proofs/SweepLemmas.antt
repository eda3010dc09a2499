-- Without an entry that sweeps, a log whose moments never fall decides and does the same.
use Rattle.std.proofs.Common.{◌≡◌, refl, sym, ◌∙◌, ap, ℕ, ◌≤◌, Bool, true, false, cond, List, [], ◌∷◌, ◌++◌, Option, Some, None, arith}
use Rattle.std.specs.Option.{option_and_then}
use Rattle.ftp_base.specs.declared.login.AuthAnswer.{AuthAnswer}
use Rattle.ftp_base.specs.declared.login.AuthAnswer.TheVariants as password
use Rattle.ftp_options.specs.declared.lockout.FailedLoginsPolicy.{FailedLoginsPolicy}
use Rattle.ftp_lockout.specs.declared.cache.Failures.{Failures}
use Rattle.ftp_lockout.specs.declared.key.LoginKey.{LoginKey}
use Rattle.ftp_lockout.specs.Failures.{swept, one_more, let_in}
use Rattle.ftp_events.specs.declared.decision.Decision.TheVariants as decision
use Rattle.ftp_events.specs.declared.event.EventKind.TheVariants as kind
use Rattle.ftp_events.specs.declared.event.HubEvent.{HubEvent}
use Rattle.ftp_events.specs.CommandRows.{own_failures}
use Rattle.ftp_events.specs.LoginRows.{auth_row}
use Rattle.ftp_events.specs.Lockout.{login_key, is_login_for, failures_by, failures_after, tally, failures}
use Rattle.ftp_events.specs.Right.{next_entry}
use Rattle.ftp_laws.proofs.Common.{Options, Answer, Entry, EventKind, Session, past_of, session, decide, IsRight, IsActed}
use Rattle.ftp_laws.specs.Moments.{IsLatest, NeverFalls}
use Rattle.ftp_laws.proofs.WithoutLemmas.{AreAlike, StayClose, alike-first, alike-next, alike-without}
use Rattle.ftp_laws.proofs.LockoutLemmas.{failures-tally, let_in-swept, one_more-swept, swept-later, password-swept}

-- of the failures of a key, which differ by a sweep at the moment, an event leaves such as differ by a sweep at any later moment
after-swept :
    (o : Options) (p : FailedLoginsPolicy) (P K : List Entry) (key : LoginKey) (k : EventKind) (at later : ℕ) (f g : Option Failures) →
    at ≤ later → ((s : ℕ) → session o K s ≡ session o P s) →
    swept p at g ≡ swept p at f →
    swept p later (failures_after o p K key k at g) ≡ swept p later (failures_after o p P key k at f)
after-swept o p P K key k at later f g le sessions h = go k
  where
    still : swept p later g ≡ swept p later f
    still = sym (swept-later p at later g le) ∙ (ap (swept p later) h ∙ swept-later p at later f le)

    by_answer : (said : AuthAnswer) → swept p later (failures_by said p at g) ≡ swept p later (failures_by said p at f)
    by_answer password.BadUser = still
    by_answer password.Refused =
        ap (λ (x : Failures). swept p later (Some x)) (sym (one_more-swept p at g) ∙ (ap (one_more p at) h ∙ one_more-swept p at f))
    by_answer said = ap (swept p later) (sym (let_in-swept p at g) ∙ (ap (let_in p at) h ∙ let_in-swept p at f))

    by_login : (said : AuthAnswer) (b : Bool) → swept p later (cond b (failures_by said p at g) g) ≡ swept p later (cond b (failures_by said p at f) f)
    by_login said true = by_answer said
    by_login said false = still

    go : (k : EventKind) → swept p later (failures_after o p K key k at g) ≡ swept p later (failures_after o p P key k at f)
    go (kind.AuthDone s said) = rw (sessions s) (by_login said (is_login_for p (session o P s) key))
    go kind.Sweep = ap (swept p later) h
    go k = still

-- a moment that is not before the newest is not before any
latest-before :
    (at : ℕ) (e : Entry) (log : List Entry) →
    IsLatest e.event.at log → e.event.at ≤ at → IsLatest at log
latest-before at e [] l le = tt
latest-before at e (x ∷ log) l le = omega (arith, l, le)

-- failures are told the same but for those that are too old at any moment from now on
abbrev AreClose : List Entry → FailedLoginsPolicy → Option Failures → Option Failures → Type 0
AreClose log p g f = (at : ℕ) → IsLatest at log → swept p at g ≡ swept p at f

stay-close : (o : Options) → StayClose o AreClose IsLatest
stay-close o =
    record {
      password = password;
      refused = λ log e p g f l h at le. h at (latest-before at e log l le);
      counted = λ log rest e p key g f sessions l h at le. after-swept o p (past_of log) (past_of rest) key e.event.kind e.event.at at f g le sessions (h e.event.at l);
    }
  where
    password :
        (log rest : List Entry) → AreAlike o AreClose log rest → (at : ℕ) (v : Session) (said : AuthAnswer) → IsLatest at log →
        auth_row o.lockout at (own_failures o (failures o (past_of rest)) v) said v.login ≡ auth_row o.lockout at (own_failures o (failures o (past_of log)) v) said v.login
    password log rest u at v said l = go o.lockout refl
      where
        P : List Entry
        P = past_of log

        K : List Entry
        K = past_of rest

        go :
            (x : Option FailedLoginsPolicy) → o.lockout ≡ x →
            auth_row x at (option_and_then (λ p. failures o K (login_key p v)) x) said v.login
            ≡ auth_row x at (option_and_then (λ p. failures o P (login_key p v)) x) said v.login
        go None y = refl
        go (Some p) y =
            rw (failures-tally o p K (login_key p v) y, failures-tally o p P (login_key p v) y)
            (password-swept p at (tally o p K (login_key p v)) (tally o p P (login_key p v)) said v.login (u.failed p (login_key p v) at l))

-- where moments never fall a right and acted log is so without any sweep of it, and has the same next entry
pub sweeps-nothing :
    (o : Options) (newer older : List Entry) (e : Entry) → e.event.kind ≡ kind.Sweep →
    NeverFalls (newer ++ e ∷ older) → IsRight o (newer ++ e ∷ older) → IsActed o (newer ++ e ∷ older) →
    IsRight o (newer ++ older) × IsActed o (newer ++ older) ×
    ((event : HubEvent) (answer : Answer) → IsLatest event.at (newer ++ e ∷ older) →
    next_entry o (newer ++ older) event answer ≡ next_entry o (newer ++ e ∷ older) event answer)
unfolding decide
sweeps-nothing o newer older e k n r a =
    let u : AreAlike o AreClose (newer ++ e ∷ older) (newer ++ older) =
    alike-without o AreClose IsLatest (stay-close o) NeverFalls (λ x log m. m) newer older e n r a first in
    (u.right, u.acted, alike-next o AreClose IsLatest (stay-close o) (newer ++ e ∷ older) (newer ++ older) u)
  where
    first : IsRight o (e ∷ older) → IsActed o (e ∷ older) → AreAlike o AreClose (e ∷ older) older
    first r a =
        alike-first o AreClose IsLatest (stay-close o) older e kind.Sweep decision.Swept k (r.1 ∙ rw k refl) refl
        (record { unnamed = refl; untargeted = λ o. refl; unnumbered = refl; unopened = refl; ungranted = refl; plain = refl })
        (λ counts p key at le. rw (counts, k) (sym (swept-later p e.event.at at (tally o p (past_of older) key) le))) r a
