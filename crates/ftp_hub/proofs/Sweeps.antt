-- The tables after a sweep of the failed logins, and after a scavenge of the holds.
use Rattle.std.proofs.Common.{◌≡◌, refl, sym, ap, ◌∙◌, ℕ, List, [], ◌∷◌, Option, Some, None}
use Rattle.ftp_hub.proofs.Common.{Action, Answer, Entry, EventKind, Hub, HubEvent, LoginKey, Options, Serves, Stands, V4, decide, entry, failures, failures_in, has, holder_at, past_of}
use Rattle.std.proofs.lemmas.Option.{same_Some}
use Rattle.ftp_lockout.specs.Failures.{Table, failures_of, swept}
use Rattle.ftp_switchboard.specs.Used.{Used}
use Rattle.ftp_options.specs.declared.lockout.FailedLoginsPolicy.{FailedLoginsPolicy}
use Rattle.ftp_switchboard.specs.Board.{Board}
use Rattle.ftp_events.specs.declared.decision.Decision.TheVariants as decision
use Rattle.ftp_events.specs.declared.event.EventKind.TheVariants as kind
use Rattle.ftp_events.specs.Lockout.{failures_after}
use Rattle.ftp_laws.proofs.Cases.{by_option}
use Rattle.ftp_laws.proofs.LockoutLemmas.{failures-entry, failures-off, failures-other, tells_failures}
use Rattle.ftp_laws.proofs.TableLemmas.{holder-other}
use Rattle.ftp_handlers.specs.Handlers.{policy_in}
use Rattle.ftp_hub.proofs.DataLinks.{serves-nobody}
use Rattle.ftp_hub.proofs.Decisions.{Comes}
use Rattle.ftp_hub.proofs.Failures.{unlocked}
use Rattle.ftp_hub.proofs.Running.{running-none}

swept-comes : Comes decision.Swept
swept-comes = record { passes = record { counts = refl; plain = refl; unopened = λ k. refl; no_grant = refl; keeps = refl; lives = refl; as_many = λ n. refl }; silent = λ k answer. refl; unfinished = refl; kept = λ answer job. refl }

scavenged-comes : Comes decision.Scavenged
scavenged-comes = record { passes = record { counts = refl; plain = refl; unopened = λ k. refl; no_grant = refl; keeps = refl; lives = refl; as_many = λ n. refl }; silent = λ k answer. refl; unfinished = refl; kept = λ answer job. refl }

-- nothing is held for a session that has ended, so a scavenge changes nothing
pub serves-scavenged :
    (hub : Hub) (log : List Entry) (event : HubEvent) (answer : Answer) (done : List Action) →
    Stands hub log → event.kind ≡ kind.Scavenge → done ≡ [] →
    Serves hub hub log event answer decision.Scavenged done
unfolding decide
serves-scavenged hub log event answer done st is nothing =
    serves-nobody hub hub log event answer decision.Scavenged done st scavenged-comes (rw is refl) (rw is refl) nothing
    (λ n. running-none decision.Scavenged done n refl nothing) refl refl refl (λ q. rw is refl)
    (λ a p. st.tables.holders a p ∙ sym (holder-other hub.options (past_of log) (entry event answer decision.Scavenged done) (V4 a) p (rw is refl) (rw is refl) refl refl))
    (λ key. st.tables.failures key ∙ sym (failures-other hub.options (past_of log) (entry event answer decision.Scavenged done) key (ap tells_failures is)))
    refl

-- what is swept from the table, where there is one
pub swept-table :
    (hub : Hub) (t new : Table) (at : ℕ) → hub.failures ≡ Some t →
    ((key : LoginKey) → failures_of new key ≡ swept t.policy at (failures_of t key)) →
    (p : FailedLoginsPolicy) → hub.options.lockout ≡ Some p → (key : LoginKey) →
    failures_of new key ≡ swept p at (failures_in hub.failures key)
swept-table hub t new at there sweeps p locks key =
    let policy : t.policy ≡ p = same_Some _ _ (sym (ap policy_in there) ∙ hub.policy ∙ locks) in
    sweeps key
    ∙ ap (λ (x : FailedLoginsPolicy). swept x at (failures_of t key)) policy
    ∙ ap (λ (x : Option Table). swept p at (failures_in x key)) (sym there)

pub swept-none :
    (hub : Hub) (at : ℕ) → hub.failures ≡ None →
    (p : FailedLoginsPolicy) → hub.options.lockout ≡ Some p → (key : LoginKey) →
    failures_in hub.failures key ≡ swept p at (failures_in hub.failures key)
swept-none hub at none p locks key =
    let clash : None ≡ Some p = sym (ap policy_in none) ∙ hub.policy ∙ locks in
    cc

-- a sweep changes the failed logins alone
pub serves-swept :
    (old new : Hub) (log : List Entry) (event : HubEvent) (answer : Answer) (done : List Action) →
    Stands old log → event.kind ≡ kind.Sweep → done ≡ [] →
    new.options ≡ old.options → new.sessions ≡ old.sessions → new.jobs ≡ old.jobs → new.numbers ≡ old.numbers → new.board ≡ old.board → new.stopped ≡ old.stopped →
    ((p : FailedLoginsPolicy) → old.options.lockout ≡ Some p → (key : LoginKey) → failures_in new.failures key ≡ swept p event.at (failures_in old.failures key)) →
    Serves old new log event answer decision.Swept done
unfolding decide
serves-swept old new log event answer done st is nothing same sessions jobs numbers board stopped failed =
    serves-nobody old new log event answer decision.Swept done st swept-comes (rw is refl) (rw is refl) nothing
    (λ n. running-none decision.Swept done n refl nothing) same sessions jobs
    (λ q. rw is (ap (λ (x : Used). has x q) numbers))
    (λ a p.
    ap (λ (x : Board). holder_at x a p) board ∙ st.tables.holders a p
    ∙ sym (holder-other o past e (V4 a) p (rw is refl) (rw is refl) refl refl))
    (λ key.
    by_option o.lockout
    (λ off. unlocked new key (ap (λ (o : Options). o.lockout) same ∙ off) ∙ sym (failures-off o (e ∷ past) key off))
    (λ p locks.
    failed p locks key
    ∙ ap (swept p event.at) (st.tables.failures key)
    ∙ sym (ap (λ (k : EventKind). failures_after o p past key k event.at (failures o past key)) is)
    ∙ sym (failures-entry o p past e key locks)))
    stopped
  where
    o : Options
    o = old.options

    past : List Entry
    past = past_of log

    e : Entry
    e = entry event answer decision.Swept done
