-- What the log tells of the failed logins of a client's keys, the client's part of the log tells too.
use Rattle.std.proofs.Common.{◌≡◌, refl, sym, ◌∙◌, ap, subst, ℕ, Bool, true, false, true≢false, cond, List, [], ◌∷◌, Option, Some, None}
use Rattle.std.specs.Prelude.{codes, unwrap_or}
use Rattle.std.specs.Option.{option_and_then}
use Rattle.std.proofs.lemmas.Bool.{or_parts, not-true}
use Rattle.ftp_options.specs.declared.lockout.FailedLoginsPolicy.{FailedLoginsPolicy}
use Rattle.ftp_lockout.specs.declared.cache.Failures.{Failures}
use Rattle.ftp_lockout.specs.declared.key.LoginKey.{LoginKey}
use Rattle.ftp_lockout.specs.Keys.{key_of}
use Rattle.ftp_events.specs.declared.event.EventKind.TheVariants as kind
use Rattle.ftp_events.specs.CommandRows.{own_failures}
use Rattle.ftp_events.specs.Isolation.{is_common, is_by_name, locks_by_address}
use Rattle.ftp_events.specs.Lockout.{login_key, is_login_for, failures_by, failures_after, tally, failures}
use Rattle.ftp_laws.proofs.Common.{IpAddr, Options, is_legacy, Entry, EventKind, Session, past_of, is_refusal, named_session, session, IsRight, client_log}
use Rattle.ftp_laws.proofs.PortLemmas.{client-known}
use Rattle.ftp_laws.proofs.LockoutLemmas.{keys-apart}
use Rattle.ftp_laws.proofs.IsolationLemmas.{Alike, alike, is_of, is_owned, is_kept, owner-named, foreign-owner, kept-name, sessions-alike}

-- an entry of another client leaves the failures of client a's keys
foreign-failures :
    (o : Options) (p : FailedLoginsPolicy) (P : List Entry) (e : Entry) (a : IpAddr) (name : List ℕ) (f : Option Failures) →
    is_by_name p.block_by ≡ false → is_kept P e a ≡ false →
    failures_after o p P (key_of p.block_by a name) e.event.kind e.event.at f ≡ f
foreign-failures o p P e a name f named foreign = go e.event.kind refl
  where
    key : LoginKey
    key = key_of p.block_by a name

    no_login :
        (s : ℕ) → named_session e.event.kind ≡ Some s →
        (v : Option Session) → session o P s ≡ v →
        is_login_for p v key ≡ false
    no_login s n None x = refl
    no_login s n (Some v) x =
        let other : is_of P s a ≡ false = sym (owner-named P e.event.kind e.answer a s n) ∙ foreign-owner P e a foreign in
        keys-apart p.block_by a v.opening.client (unwrap_or v.name (codes "unknown")) name named (sym (client-known o P s v a x) ∙ other)

    go : (k : EventKind) → e.event.kind ≡ k → failures_after o p P key k e.event.at f ≡ f
    go (kind.AuthDone s said) y =
        ap (λ b. cond b (failures_by said p e.event.at f) f) (no_login s (ap named_session y) (session o P s) refl)
    go kind.Sweep y =
        let own : is_common e.event.kind ≡ false = (or_parts (is_common e.event.kind) (is_owned P e.event.kind e.answer a) foreign).0 in
        absurd (true≢false (sym (ap is_common y) ∙ own))
    go k y = refl

-- an entry of client a, or of all clients, leaves the same of them in both pasts
kept-failures :
    (o : Options) (p : FailedLoginsPolicy) (P K : List Entry) (e : Entry) (a : IpAddr) (key : LoginKey) (f : Option Failures) →
    is_kept P e a ≡ true → Alike o P K a →
    failures_after o p K key e.event.kind e.event.at f ≡ failures_after o p P key e.event.kind e.event.at f
kept-failures o p P K e a key f kept l = go e.event.kind refl
  where
    go : (k : EventKind) → e.event.kind ≡ k → failures_after o p K key k e.event.at f ≡ failures_after o p P key k e.event.at f
    go (kind.AuthDone s said) y =
        ap (λ v. cond (is_login_for p v key) (failures_by said p e.event.at f) f) (sessions-alike o P K a s l (kept-name P e a s kept (ap named_session y)))
    go k y = refl

-- so both parts of a right log tell the same of them
pub tally-alike :
    (o : Options) (p : FailedLoginsPolicy) (log : List Entry) (a : IpAddr) (name : List ℕ) →
    is_legacy o.mode ≡ false → is_by_name p.block_by ≡ false → IsRight o log →
    tally o p (past_of (client_log log a)) (key_of p.block_by a name) ≡ tally o p (past_of log) (key_of p.block_by a name)
tally-alike o p [] a name m named r = refl
tally-alike o p (e ∷ log) a name m named r =
    by_refusal (is_refusal e.decision) refl (is_kept (past_of log) e a) refl (tally-alike o p log a name m named r.0)
  where
    P : List Entry
    P = past_of log

    K : List Entry
    K = past_of (client_log log a)

    key : LoginKey
    key = key_of p.block_by a name

    by_refusal :
        (b : Bool) → is_refusal e.decision ≡ b →
        (c : Bool) → is_kept (past_of log) e a ≡ c →
        tally o p K key ≡ tally o p P key →
        tally o p (past_of (client_log (e ∷ log) a)) key ≡ tally o p (past_of (e ∷ log)) key
    by_refusal true x true y l = rw (y, x) l
    by_refusal true x false y l = rw (y, x) l
    by_refusal false x true y l =
        rw (y, x) (kept-failures o p P K e a key (tally o p K key) y (alike o log a m r.0) ∙ ap (failures_after o p P key e.event.kind e.event.at) l)
    by_refusal false x false y l = rw (y, x) (l ∙ sym (foreign-failures o p P e a name (tally o p P key) named y))

-- where failed logins of one address lock no other, both tell the same of the key of a session of client a
pub failures-alike :
    (o : Options) (log : List Entry) (a : IpAddr) (v : Session) →
    is_legacy o.mode ≡ false → locks_by_address o.lockout ≡ true → IsRight o log →
    v.opening.client ≡ a →
    own_failures o (failures o (past_of (client_log log a))) v ≡ own_failures o (failures o (past_of log)) v
failures-alike o log a v m locks r client = go o.lockout refl locks
  where
    go :
        (x : Option FailedLoginsPolicy) → o.lockout ≡ x → locks_by_address x ≡ true →
        option_and_then (λ p. failures o (past_of (client_log log a)) (login_key p v)) x ≡ option_and_then (λ p. failures o (past_of log) (login_key p v)) x
    go None y l = refl
    go (Some p) y l =
        let name : List ℕ = unwrap_or v.name (codes "unknown") in
        rw y
        (subst (λ (b : IpAddr). tally o p (past_of (client_log log a)) (key_of p.block_by b name) ≡ tally o p (past_of log) (key_of p.block_by b name)) (sym client)
        (tally-alike o p log a name m (not-true _ l) r))
