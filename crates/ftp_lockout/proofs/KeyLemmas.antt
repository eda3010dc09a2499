-- Keys that compare equal are one, and what calls leave of the keys of logins.
use Rattle.std.proofs.Common.{◌≡◌, ℕ, Bool, true, false, cond, List, [], ◌∷◌, Option, Some, None, refl, sym, ap, subst, ◌∙◌}
use Rattle.std.proofs.lemmas.Map.Lookups.{CmpEqualImpliesEq, exact_bytes, exact_pairs, exact_unsigned}
use Rattle.std.proofs.lemmas.Map.Views.{tells_apart}
use Rattle.std.specs.Cmp.Lexicographic.{slice_cmp}
use Rattle.std.specs.Ordering.{is_eq, nat_cmp, ordering_then}
use Rattle.std.specs.List.{AllByRecursion}
use Rattle.std.specs.Map.{keys_of}
use Rattle.std.proofs.lemmas.Cmp.{tied_itself}
use Rattle.ftp_options.specs.declared.lockout.FailedLoginsBlock.{FailedLoginsBlock}
use Rattle.ftp_options.specs.declared.lockout.FailedLoginsPolicy.{FailedLoginsPolicy}
use Rattle.ftp_lockout.specs.declared.cache.Failures.{Failures}
use Rattle.ftp_lockout.specs.declared.key.LoginKey.{LoginKey}
use Rattle.ftp_lockout.specs.Keys.{key_cmp, same_key}
use Rattle.ftp_lockout.specs.Failures.{is_expired, is_locked, let_in, recorded, swept}
use Rattle.ftp_lockout.specs.Logins.{AreKeys, IsKey}
use Rattle.ftp_lockout.proofs.Records.{Records, keys_total}

-- keys that compare equal are one
pub exact_keys : CmpEqualImpliesEq key_cmp
unfolding key_cmp
exact_keys a b h =
    ap (λ (p : (ℕ × ℕ) × List ℕ). record { version = p.0.0; number = p.0.1; name = p.1 })
    (exact_pairs (λ (x y : ℕ × ℕ). ordering_then (nat_cmp x.0 y.0) (nat_cmp x.1 y.1)) (slice_cmp nat_cmp) (exact_pairs nat_cmp nat_cmp exact_unsigned exact_unsigned) exact_bytes
    ((a.version, a.number), a.name) ((b.version, b.number), b.name) h)

-- where something is put under the key of a login, all keys are still those of logins
pub keys-with :
    (by : FailedLoginsBlock) (old new : Records) (key : LoginKey) (put : LoginKey → Option Failures) →
    IsKey by key → ((other : LoginKey) → recorded new other ≡ cond (same_key other key) (put other) (recorded old other)) →
    AreKeys by old → AreKeys by new
keys-with by old new key put is after keys other f found = go (same_key other key) refl (sym (after other) ∙ found)
  where
    go : (b : Bool) → same_key other key ≡ b → cond b (put other) (recorded old other) ≡ Some f → IsKey by other
    go true same e = subst (IsKey by) (sym (tells_apart exact_keys other key same)) is
    go false differs e = keys other f e

-- so are they where some of them go
pub keys-fewer :
    (by : FailedLoginsBlock) (old new : Records) →
    ((other : LoginKey) (f : Failures) → recorded new other ≡ Some f → recorded old other ≡ Some f) →
    AreKeys by old → AreKeys by new
keys-fewer by old new fewer keys other f found = keys other f (fewer other f found)

-- what is left of a login that is let in was there
pub let_in-fewer : (policy : FailedLoginsPolicy) (at : ℕ) (b : Bool) (was : Option Failures) (f : Failures) → cond b (let_in policy at was) was ≡ Some f → was ≡ Some f
let_in-fewer policy at false was f h = h
let_in-fewer policy at true was f h = go (is_locked policy at was) h
  where
    go : (b : Bool) → cond b was None ≡ Some f → was ≡ Some f
    go true h = h
    go false h = cc

-- what a sweep leaves was there
pub swept-fewer : (policy : FailedLoginsPolicy) (at : ℕ) (was : Option Failures) (f : Failures) → swept policy at was ≡ Some f → was ≡ Some f
swept-fewer policy at None f h = cc
swept-fewer policy at (Some g) f h = go (is_expired policy at g) h
  where
    go : (b : Bool) → cond b None (Some g) ≡ Some f → Some g ≡ Some f
    go true h = cc
    go false h = h

-- of a record something is recorded
pub here-recorded : (e : LoginKey × Failures) (es : Records) → recorded (e ∷ es) e.0 ≡ Some e.1
here-recorded e es = ap (λ b. cond b (Some e.1) (recorded es e.0)) (ap is_eq (tied_itself keys_total e.0))

-- with one more record before them something is still recorded of a key
pub there-recorded : (e : LoginKey × Failures) (es : Records) (k : LoginKey) (f : Failures) → recorded es k ≡ Some f → (g : Failures) × (recorded (e ∷ es) k ≡ Some g)
there-recorded e es k f found = go (same_key k e.0)
  where
    go : (b : Bool) → (g : Failures) × (cond b (Some e.1) (recorded es k) ≡ Some g)
    go true = (e.1, refl)
    go false = (f, found)

keys-among :
    (by : FailedLoginsBlock) (all : Records) → AreKeys by all →
    (es : Records) → ((k : LoginKey) (f : Failures) → recorded es k ≡ Some f → (g : Failures) × (recorded all k ≡ Some g)) →
    AllByRecursion (IsKey by) (keys_of es)
keys-among by all keys [] there = tt
keys-among by all keys (e ∷ es) there =
    let here = there e.0 e.1 (here-recorded e es) in (
      keys e.0 here.0 here.1,
      keys-among by all keys es (λ k f found. let more = there-recorded e es k f found in there k more.0 more.1),
    )

-- each key of the records is that of a login
pub all-keys : (by : FailedLoginsBlock) (es : Records) → AreKeys by es → AllByRecursion (IsKey by) (keys_of es)
all-keys by es keys = keys-among by es keys es (λ k f found. (f, found))
