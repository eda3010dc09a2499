-- Failed logins: what an entry makes of those of a key, whose keys are the same, and what a sweep leaves.
use Rattle.std.proofs.Common.{◌≡◌, refl, sym, ◌∙◌, ap, ap₂, ℕ, ◌-◌, ◌≤◌, Bool, true, false, cond, List, [], ◌∷◌, Option, Some, None, arith}
use Rattle.std.specs.Option.{option_and_then}
use Rattle.std.specs.Ordering.{nat_cmp, is_eq, ordering_then}
use Rattle.std.specs.Cmp.Lexicographic.{slice_cmp}
use Rattle.std.specs.declared.cmp.Ordering.{Ordering}
use Rattle.std.specs.declared.cmp.Ordering.TheVariants.{Equal}
use Rattle.std.proofs.lemmas.Bool.{lt-ltb, ltb-true}
use Rattle.std.proofs.lemmas.Map.Lookups.{exact_unsigned, exact_bytes}
use Rattle.ftp_base.specs.declared.login.AuthAnswer.{AuthAnswer}
use Rattle.ftp_base.specs.declared.net.IpAddr.TheVariants.{V4, V6}
use Rattle.ftp_options.specs.declared.lockout.FailedLoginsBlock.{FailedLoginsBlock}
use Rattle.ftp_options.specs.declared.lockout.FailedLoginsBlock.TheVariants.{UserAndIP, IP, User}
use Rattle.ftp_options.specs.declared.lockout.FailedLoginsPolicy.{FailedLoginsPolicy}
use Rattle.ftp_lockout.specs.declared.cache.Failures.{Failures}
use Rattle.ftp_lockout.specs.declared.key.LoginKey.{LoginKey}
use Rattle.ftp_lockout.specs.Keys.{key_at, key_of, key_cmp, same_key}
use Rattle.ftp_lockout.specs.Failures.{is_expired, one_more, is_locked, lock_state, let_in, swept}
use Rattle.ftp_events.specs.declared.event.EventKind.TheVariants.{AuthDone, Sweep}
use Rattle.ftp_events.specs.declared.session.Login.{Login}
use Rattle.ftp_events.specs.declared.session.Login.TheVariants as login
use Rattle.ftp_events.specs.Isolation.{is_by_name}
use Rattle.ftp_events.specs.Lockout.{failures_after, tally, failures}
use Rattle.ftp_events.specs.LoginRows.{answer_row, auth_row}
use Rattle.ftp_laws.proofs.Common.{IpAddr, same_ip, Options, Entry, EventKind}
use Rattle.ftp_laws.proofs.HoldLemmas.{same_ip-refl}

-- the events that change failures
abbrev pub tells_failures : EventKind → Bool
tells_failures (AuthDone session said) = true
tells_failures Sweep = true
tells_failures _ = false

-- after an entry the failures of a key are what its event leaves of them
pub failures-entry :
    (o : Options) (p : FailedLoginsPolicy) (past : List Entry) (e : Entry) (key : LoginKey) →
    o.lockout ≡ Some p →
    failures o (e ∷ past) key ≡ failures_after o p past key e.event.kind e.event.at (failures o past key)
failures-entry o p past e key x = rw x refl

-- with a policy the failures of a key are its tally
pub failures-tally :
    (o : Options) (p : FailedLoginsPolicy) (past : List Entry) (key : LoginKey) →
    o.lockout ≡ Some p → failures o past key ≡ tally o p past key
failures-tally o p past key x = rw x refl

-- without a policy there are none
pub failures-off : (o : Options) (past : List Entry) (key : LoginKey) → o.lockout ≡ None → failures o past key ≡ None
failures-off o past key x = rw x refl

-- any other event leaves them as they are
pub tally-other :
    (o : Options) (p : FailedLoginsPolicy) (past : List Entry) (e : Entry) (key : LoginKey) →
    tells_failures e.event.kind ≡ false →
    tally o p (e ∷ past) key ≡ tally o p past key
tally-other o p past e key n = go e.event.kind n
  where
    go :
        (k : EventKind) → tells_failures k ≡ false →
        failures_after o p past key k e.event.at (tally o p past key) ≡ tally o p past key
    go (AuthDone session said) x = cc
    go Sweep x = cc
    go k x = refl

-- so those of a key stay
pub failures-other :
    (o : Options) (past : List Entry) (e : Entry) (key : LoginKey) →
    tells_failures e.event.kind ≡ false →
    failures o (e ∷ past) key ≡ failures o past key
failures-other o past e key n = go o.lockout
  where
    go :
        (x : Option FailedLoginsPolicy) →
        option_and_then (λ p. tally o p (e ∷ past) key) x ≡ option_and_then (λ p. tally o p past key) x
    go None = refl
    go (Some p) = tally-other o p past e key n

-- keys that are the same are equal
pub same_key-equal : (x y : LoginKey) → same_key x y ≡ true → x ≡ y
unfolding key_cmp
same_key-equal x y h = go (nat_cmp x.version y.version) (nat_cmp x.number y.number) (slice_cmp nat_cmp x.name y.name) refl refl refl h
  where
    go :
        (a b c : Ordering) → nat_cmp x.version y.version ≡ a → nat_cmp x.number y.number ≡ b → slice_cmp nat_cmp x.name y.name ≡ c →
        is_eq (ordering_then (ordering_then a b) c) ≡ true → x ≡ y
    go Equal Equal Equal u v w e =
        let versions : x.version ≡ y.version = exact_unsigned _ _ u in
        let numbers : x.number ≡ y.number = exact_unsigned _ _ v in
        let names : x.name ≡ y.name = exact_bytes _ _ w in
        λ i. record { version = versions i; number = numbers i; name = names i }
    go a b c u v w e = cc

-- a key at an address is at no other
key_at-address : (a b : IpAddr) (m n : List ℕ) → key_at b m ≡ key_at a n → b ≡ a
key_at-address (V4 x) (V4 y) m n h = ap V4 (ap (λ (k : LoginKey). k.number) h)
key_at-address (V6 x) (V6 y) m n h = ap V6 (ap (λ (k : LoginKey). k.number) h)
key_at-address (V4 x) (V6 y) m n h = absurd (omega (arith, ap (λ (k : LoginKey). k.version) h))
key_at-address (V6 x) (V4 y) m n h = absurd (omega (arith, ap (λ (k : LoginKey). k.version) h))

-- two addresses have no key in common, where a name alone is none
pub keys-apart :
    (block : FailedLoginsBlock) (a b : IpAddr) (m n : List ℕ) →
    is_by_name block ≡ false → same_ip b a ≡ false →
    same_key (key_of block b m) (key_of block a n) ≡ false
keys-apart block a b m n named apart = go (same_key (key_of block b m) (key_of block a n)) refl
  where
    address : (x : FailedLoginsBlock) → is_by_name x ≡ false → key_of x b m ≡ key_of x a n → b ≡ a
    address UserAndIP y h = key_at-address a b m n h
    address IP y h = key_at-address a b [] [] h
    address User y h = cc

    go : (c : Bool) → same_key (key_of block b m) (key_of block a n) ≡ c → c ≡ false
    go false x = refl
    go true x =
        let same : b ≡ a = address block named (same_key-equal _ _ x) in
        sym (same_ip-refl a) ∙ (ap (λ (c : IpAddr). same_ip c a) (sym same) ∙ apart)

-- of what a sweep leaves of failures the same is said as of them, where of expired ones the same is said as of none
by_age :
    {C : Type 0} (p : FailedLoginsPolicy) (at : ℕ) (says : Option Failures → C) (f : Option Failures) →
    ((x : Failures) → is_expired p at x ≡ true → says None ≡ says (Some x)) →
    says (swept p at f) ≡ says f
by_age p at says None old = refl
by_age p at says (Some x) old = go (is_expired p at x) refl
  where
    go : (b : Bool) → is_expired p at x ≡ b → says (cond b None (Some x)) ≡ says (Some x)
    go true y = old x y
    go false y = refl

-- one more failure counts the same
pub one_more-swept : (p : FailedLoginsPolicy) (at : ℕ) (f : Option Failures) → one_more p at (swept p at f) ≡ one_more p at f
one_more-swept p at f = by_age p at (one_more p at) f (λ x y. rw y refl)

-- a key is locked or not
pub is_locked-swept : (p : FailedLoginsPolicy) (at : ℕ) (f : Option Failures) → is_locked p at (swept p at f) ≡ is_locked p at f
is_locked-swept p at f = by_age p at (is_locked p at) f (λ x y. rw y refl)

-- a login that is let in leaves the same
pub let_in-swept : (p : FailedLoginsPolicy) (at : ℕ) (f : Option Failures) → let_in p at (swept p at f) ≡ let_in p at f
let_in-swept p at f = by_age p at (let_in p at) f (λ x y. rw y refl)

-- so does a sweep that comes later
pub swept-later : (p : FailedLoginsPolicy) (at later : ℕ) (f : Option Failures) → at ≤ later → swept p later (swept p at f) ≡ swept p later f
swept-later p at later f le = by_age p at (swept p later) f (λ x y. rw (lt-ltb p.expires_after_ms (later - x.last) (omega (arith, le, ltb-true p.expires_after_ms (at - x.last) y))) refl)

-- so a sweep changes nothing that is said of a password
pub password-swept :
    (p : FailedLoginsPolicy) (at : ℕ) (f g : Option Failures) (said : AuthAnswer) (l : Login) →
    swept p at f ≡ swept p at g →
    auth_row (Some p) at f said l ≡ auth_row (Some p) at g said l
password-swept p at f g said login.Checking h =
    let more : one_more p at f ≡ one_more p at g = sym (one_more-swept p at f) ∙ (ap (one_more p at) h ∙ one_more-swept p at g) in
    let locked : is_locked p at f ≡ is_locked p at g = sym (is_locked-swept p at f) ∙ (ap (is_locked p at) h ∙ is_locked-swept p at g) in
    ap₂ (λ (x : Failures) (b : Bool). answer_row said (lock_state p x.count) b) more locked
password-swept p at f g said l h = refl
