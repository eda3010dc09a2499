-- The failed logins after an entry.
use Rattle.std.proofs.Common.{◌≡◌, refl, sym, ap, ◌∙◌, ℕ, Bool, true, false, true≢false, not, List, ◌∷◌, Option, Some, None}
use Rattle.std.proofs.lemmas.Option.{same_Some}
use Rattle.ftp_hub.proofs.Common.{Decision, Entry, EventKind, Hub, HubEvent, LoginKey, Options, Session, failures, failures_in, is_refusal, named_session, new_number, session}
use Rattle.ftp_base.specs.declared.login.AuthAnswer.{AuthAnswer}
use Rattle.ftp_base.specs.declared.login.AuthAnswer.TheVariants.{Good, BadUser, Refused}
use Rattle.ftp_base.specs.declared.login.LockState.{LockState}
use Rattle.ftp_lockout.specs.declared.cache.Failures.{Failures}
use Rattle.ftp_lockout.specs.Failures.{Table, is_locked, lock_state, one_more}
use Rattle.ftp_options.specs.declared.lockout.FailedLoginsPolicy.{FailedLoginsPolicy}
use Rattle.ftp_events.specs.declared.event.EventKind.TheVariants as kind
use Rattle.ftp_events.specs.declared.session.Login.{Login}
use Rattle.ftp_events.specs.declared.session.Login.TheVariants as login
use Rattle.ftp_events.specs.CommandRows.{Around, command_row, own_failures}
use Rattle.ftp_events.specs.Lockout.{failures_after}
use Rattle.ftp_events.specs.LoginRows.{answer_row, auth_row, password_row}
use Rattle.ftp_handlers.specs.Handlers.{failures_left, is_auth, is_checking, policy_in}
use Rattle.ftp_laws.proofs.Cases.{by_option}
use Rattle.ftp_laws.proofs.LockoutLemmas.{failures-entry, failures-off, tells_failures}

-- a connection leaves the failed logins as they are
pub linked-other : (k : EventKind) (d : Decision) (n : ℕ) → new_number k d ≡ Some n → tells_failures k ≡ false
linked-other (kind.AuthDone s said) d n h = cc
linked-other kind.Sweep d n h = cc
linked-other k d n h = refl

-- what is said of a password is no refusal
answer-counts : (said : AuthAnswer) (reached : Option LockState) (locked : Bool) → is_refusal (answer_row said reached locked) ≡ false
answer-counts BadUser reached locked = refl
answer-counts Refused reached locked = refl
answer-counts Good reached true = refl
answer-counts Good reached false = refl
answer-counts _ reached true = refl
answer-counts _ reached false = refl

password-counts : (policy : Option FailedLoginsPolicy) (at : ℕ) (f : Option Failures) (said : AuthAnswer) → is_refusal (password_row policy at f said) ≡ false
password-counts None at f said = answer-counts said None false
password-counts (Some p) at f said = answer-counts said (lock_state p (one_more p at f).count) (is_locked p at f)

-- it is refused exactly where no password is out
auth-refused : (policy : Option FailedLoginsPolicy) (at : ℕ) (f : Option Failures) (said : AuthAnswer) (l : Login) → is_refusal (auth_row policy at f said l) ≡ not (is_checking l)
auth-refused policy at f said login.Checking = password-counts policy at f said
auth-refused policy at f said login.New = refl
auth-refused policy at f said login.Named = refl
auth-refused policy at f said login.LoggedIn = refl

-- so a command is refused on a password exactly where none is out
pub said-refused : (o : Options) (a : Around) (k : EventKind) (v : Session) → is_auth k ≡ true → is_refusal (command_row o a k v) ≡ not (is_checking v.login)
said-refused o a (kind.AuthDone s said) v h = auth-refused o.lockout a.at (own_failures o a.failures v) said v.login
said-refused o a k v h = cc

-- what a command leaves of failures is what its entry leaves, where it counts
left-counts :
    (o : Options) (p : FailedLoginsPolicy) (past : List Entry) (key : LoginKey) (k : EventKind) (at s : ℕ) (v : Session) (f : Option Failures) →
    named_session k ≡ Some s → session o past s ≡ Some v → (is_auth k ≡ true → is_checking v.login ≡ true) →
    failures_left p v key k at f ≡ failures_after o p past key k at f
left-counts o p past key (kind.AuthDone q said) at s v f named known checks =
    let there : session o past q ≡ Some v = ap (session o past) (same_Some _ _ named) ∙ known in
    rw (checks refl, there) refl
left-counts o p past key kind.Sweep at s v f named known checks = cc
left-counts o p past key k at s v f named known checks = refl

-- and where it is refused, it leaves them as they are
left-refused :
    (p : FailedLoginsPolicy) (key : LoginKey) (k : EventKind) (at : ℕ) (v : Session) (f : Option Failures) →
    (is_auth k ≡ true → is_checking v.login ≡ false) →
    failures_left p v key k at f ≡ f
left-refused p key (kind.AuthDone q said) at v f checks = rw (checks refl) refl
left-refused p key k at v f checks = refl

-- what a command of a session, which was v, makes of the failed logins
abbrev pub FailuresMoved : Hub → Option Table → HubEvent → Session → Type 0
FailuresMoved old new event v =
    (p : FailedLoginsPolicy) → old.options.lockout ≡ Some p → (key : LoginKey) →
    failures_in new key ≡ failures_left p v key event.kind event.at (failures_in old.failures key)

-- other events leave them
pub failures-stay : (hub : Hub) (event : HubEvent) (v : Session) → is_auth event.kind ≡ false → FailuresMoved hub hub.failures event v
failures-stay hub event v unsaid p locks key =
    sym (left-refused p key event.kind event.at v (failures_in hub.failures key) (λ said. absurd (true≢false (sym said ∙ unsaid))))

-- without a policy there is no table
pub unlocked : (hub : Hub) (key : LoginKey) → hub.options.lockout ≡ None → failures_in hub.failures key ≡ None
unlocked hub key off = go hub.failures (hub.policy ∙ off)
  where
    go : (x : Option Table) → policy_in x ≡ None → failures_in x key ≡ None
    go None h = refl
    go (Some t) h = cc

-- after a command that counts the table has the failed logins of the log
pub failures-counted :
    (old new : Hub) (past : List Entry) (e : Entry) (key : LoginKey) (s : ℕ) (v : Session) →
    new.options ≡ old.options → FailuresMoved old new.failures e.event v →
    failures_in old.failures key ≡ failures old.options past key →
    named_session e.event.kind ≡ Some s → session old.options past s ≡ Some v → (is_auth e.event.kind ≡ true → is_checking v.login ≡ true) →
    failures_in new.failures key ≡ failures old.options (e ∷ past) key
failures-counted old new past e key s v same moved before named known checks =
    by_option o.lockout
    (λ off. unlocked new key (ap (λ (o : Options). o.lockout) same ∙ off) ∙ sym (failures-off o (e ∷ past) key off))
    (λ p locks.
    moved p locks key
    ∙ ap (failures_left p v key e.event.kind e.event.at) before
    ∙ left-counts o p past key e.event.kind e.event.at s v (failures o past key) named known checks
    ∙ sym (failures-entry o p past e key locks))
  where
    o : Options
    o = old.options

-- and after one that is refused those that it had
pub failures-refused :
    (old new : Hub) (past : List Entry) (event : HubEvent) (key : LoginKey) (v : Session) →
    new.options ≡ old.options → FailuresMoved old new.failures event v →
    failures_in old.failures key ≡ failures old.options past key → (is_auth event.kind ≡ true → is_checking v.login ≡ false) →
    failures_in new.failures key ≡ failures old.options past key
failures-refused old new past event key v same moved before checks =
    by_option o.lockout
    (λ off. unlocked new key (ap (λ (o : Options). o.lockout) same ∙ off) ∙ sym (failures-off o past key off))
    (λ p locks. moved p locks key ∙ left-refused p key event.kind event.at v (failures_in old.failures key) checks ∙ before)
  where
    o : Options
    o = old.options
