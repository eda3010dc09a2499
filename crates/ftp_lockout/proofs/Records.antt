-- What is recorded under each key, and what edits at a place make of it.
use Rattle.std.proofs.Common.{◌≡◌, ℕ, ◌<◌, zero, suc, Bool, true, false, cond, not, List, [], ◌∷◌, length, get_or, Option, Some, None, Result, Ok, Err, refl, sym, ap, subst, ◌∙◌, arith}
use Rattle.std.proofs.Math.ListN.{set}
use Rattle.std.specs.Prelude.{slice_get, IfOk, IfErr, filter}
use Rattle.std.specs.List.{insert, remove}
use Rattle.std.specs.List.Sorted.{IsStrictlySortedBy, IsSearchInRange, IsBinarySearchResult}
use Rattle.std.specs.Map.{keys_of}
use Rattle.std.specs.Ordering.{is_eq, ordering_reverse}
use Rattle.std.specs.Cmp.{IsTotalOrder, Equal-is, alike_right, nat_cmp_total, on_total, then_total, eq_by_cmp_equiv}
use Rattle.std.specs.Cmp.Lexicographic.{nat_list_cmp_total}
use Rattle.std.specs.declared.cmp.Ordering.TheVariants.{Equal}
use Rattle.std.proofs.lemmas.Map.Entries.{lookup-filter-values, option_filter}
use Rattle.std.proofs.lemmas.Map.Keys.{IsDistinct-from_sorted}
use Rattle.ftp_options.specs.declared.lockout.FailedLoginsPolicy.{FailedLoginsPolicy}
use Rattle.ftp_lockout.specs.declared.cache.Failures.{Failures}
use Rattle.ftp_lockout.specs.declared.key.LoginKey.{LoginKey}
use Rattle.ftp_lockout.specs.Keys.{key_cmp, same_key}
use Rattle.ftp_lockout.specs.Failures.{recorded, is_expired, swept}
use Rattle.ftp_lockout.specs.Places.{AreInKeyOrder, IsAt, IsGapFor}
use Rattle.ftp_base.proofs.Sorted.{rises-cons, none_rises, comparisons_climb}
use Rattle.ftp_lockout.proofs.Tables.{get_or-get, get-within, keys-set, lookup-set, lookup-remove, lookup-insert, lookup-same, lookup-gap, rises-insert, rises-remove, rises-filter}

abbrev pub Records : Type 0
Records = List (LoginKey × Failures)

pub keys_total : IsTotalOrder key_cmp
unfolding key_cmp
keys_total =
    then_total
    (then_total (on_total (λ (k : LoginKey). k.version) nat_cmp_total) (on_total (λ (k : LoginKey). k.number) nat_cmp_total))
    (on_total (λ (k : LoginKey). k.name) nat_list_cmp_total)

pub none_in_order : AreInKeyOrder []
none_in_order = none_rises key_cmp

pub one_in_order : (e : LoginKey × Failures) → AreInKeyOrder (e ∷ [])
one_in_order e = rises-cons keys_total e [] tt none_in_order

-- what is within a list stands at a place
pub stands-at : {X : Type 0} (xs : List X) (i : ℕ) → i < length xs → (x : X) × (slice_get xs i ≡ Some x)
stands-at [] i lt = absurd (omega arith)
stands-at (x ∷ xs) zero lt = (x, refl)
stands-at (x ∷ xs) (suc i) lt = stands-at xs i (omega arith)

-- what is read at a place stands there
pub get-read : (es : Records) (i : ℕ) (r : LoginKey × Failures) → i < length es → r ≡ get_or es i r → slice_get es i ≡ Some r
get-read [] i r lt read = absurd (omega arith)
get-read (e ∷ es) zero r lt read = ap Some (sym read)
get-read (e ∷ es) (suc i) r lt read = get-read es i r (omega arith) read

-- keys that tie are the same to each other key
ties : (r k other : LoginKey) → key_cmp r k ≡ Equal → same_key other r ≡ same_key other k
ties r k other tie = ap is_eq (alike_right keys_total r k other tie)

pub recorded-set : (es : Records) (i : ℕ) (r : LoginKey × Failures) (f : Failures) → AreInKeyOrder es → i < length es → r ≡ get_or es i r →
    (k other : LoginKey) → IsAt es k i → recorded (set es i (r.0, f)) other ≡ cond (same_key other k) (Some f) (recorded es other)
recorded-set es i r f order lt read k other is_at =
    let got = get-read es i r lt read in
    lookup-set keys_total es i r f other order got
    ∙ ap (λ (b : Bool). cond b (Some f) (recorded es other)) (ties r.0 k other (is_at.here r got))

pub order-set : (es : Records) (i : ℕ) (r : LoginKey × Failures) (f : Failures) → AreInKeyOrder es → i < length es → r ≡ get_or es i r → AreInKeyOrder (set es i (r.0, f))
order-set es i r f order lt read = subst (λ (ks : List LoginKey). IsStrictlySortedBy key_cmp ks) (sym (keys-set es i r f (get-read es i r lt read))) order

pub recorded-taken : (es new : Records) (i : ℕ) → AreInKeyOrder es → new ≡ remove es i →
    (k other : LoginKey) → IsAt es k i → recorded new other ≡ cond (same_key other k) None (recorded es other)
recorded-taken es new i order is k other is_at =
    let there = stands-at es i is_at.within in
    ap (λ (x : Records). recorded x other) is
    ∙ lookup-remove keys_total es i there.0 other order there.1
    ∙ ap (λ (b : Bool). cond b None (recorded es other)) (ties there.0.0 k other (is_at.here there.0 there.1))

pub order-remove : (es : Records) (i : ℕ) → AreInKeyOrder es → AreInKeyOrder (remove es i)
order-remove es i order = rises-remove keys_total es i order

pub recorded-insert : (es : Records) (i : ℕ) (k : LoginKey) (f : Failures) → IsGapFor es k i →
    (other : LoginKey) → recorded (insert es i (k, f)) other ≡ cond (same_key other k) (Some f) (recorded es other)
recorded-insert es i k f gap other = lookup-insert keys_total es i k f other gap.lower

pub order-insert : (es : Records) (i : ℕ) (k : LoginKey) (f : Failures) → AreInKeyOrder es → IsGapFor es k i → AreInKeyOrder (insert es i (k, f))
order-insert es i k f order gap = rises-insert keys_total es i k f order gap.lower gap.higher

-- the record of a key that has none
pub recorded-gap : (es : Records) (i : ℕ) (k : LoginKey) → IsGapFor es k i → recorded es k ≡ None
recorded-gap es i k gap = lookup-gap keys_total es i k gap.lower gap.higher

-- a function of the record of a key is one of the record of each key that is the same
pub of_same : {Y : Type 0} (f : Option Failures → Y) (es : Records) (k other : LoginKey) (z : Y) (o : Option Failures) → recorded es k ≡ o →
    cond (same_key other k) (f o) z ≡ cond (same_key other k) (f (recorded es other)) z
of_same {Y} f es k other z o is = by (same_key other k) refl where
  by : (b : Bool) → same_key other k ≡ b → cond b (f o) z ≡ cond b (f (recorded es other)) z
  by true same = ap f (sym (lookup-same keys_total es other k ((Equal-is (key_cmp other k)).0 same) ∙ is))
  by false differs = refl

-- nothing changes where nothing changes for the key
pub of_unchanged : (f : Option Failures → Option Failures) (es : Records) (k other : LoginKey) → f (recorded es k) ≡ recorded es k →
    recorded es other ≡ cond (same_key other k) (f (recorded es other)) (recorded es other)
of_unchanged f es k other same = by (same_key other k) refl where
  by : (b : Bool) → same_key other k ≡ b → recorded es other ≡ cond b (f (recorded es other)) (recorded es other)
  by true tie =
      let e = lookup-same keys_total es other k ((Equal-is (key_cmp other k)).0 tie) in
      e ∙ sym same ∙ ap f (sym e)
  by false differs = refl

-- without the records that have expired
kept_is : (policy : FailedLoginsPolicy) (at : ℕ) (o : Option Failures) → option_filter (λ f. not (is_expired policy at f)) o ≡ swept policy at o
kept_is policy at None = refl
kept_is policy at (Some f) = by (is_expired policy at f) where
  by : (b : Bool) → cond (not b) (Some f) None ≡ cond b None (Some f)
  by true = refl
  by false = refl

pub recorded-filter : (policy : FailedLoginsPolicy) (at : ℕ) (es : Records) → AreInKeyOrder es →
    (k : LoginKey) → recorded (filter (λ e. not (is_expired policy at e.1)) es) k ≡ swept policy at (recorded es k)
recorded-filter policy at es order k =
    lookup-filter-values (eq_by_cmp_equiv keys_total) (λ f. not (is_expired policy at f)) k es (IsDistinct-from_sorted key_cmp (keys_of es) order)
    ∙ kept_is policy at (recorded es k)

pub order-filter : (p : LoginKey × Failures → Bool) (es : Records) → AreInKeyOrder es → AreInKeyOrder (filter p es)
order-filter p es order = rises-filter keys_total p es order

-- a binary search ends at the key, or where it would go
pub searched : (es : Records) (k : LoginKey) (r : Result ℕ ℕ) → AreInKeyOrder es → IsSearchInRange r (length es) → IsBinarySearchResult (λ e. key_cmp e.0 k) es r →
    IfOk r (IsAt es k) × IfErr r (IsGapFor es k)
searched es k (Ok i) order within equal =
    (record { within = within; here = λ r got. ap (λ (x : LoginKey × Failures). key_cmp x.0 k) (sym (get_or-get es i r r got)) ∙ equal r }, tt)
searched es k (Err i) order within parted =
    let p = parted (comparisons_climb keys_total es k order) in (
      tt,
      record {
        within = within;
        lower = λ j r lt got. ap (λ (x : LoginKey × Failures). key_cmp x.0 k) (sym (get_or-get es j r r got)) ∙ p.0 j r (omega arith) lt;
        higher = λ j r le got.
            keys_total.antisymm k r.0
            ∙ ap ordering_reverse (ap (λ (x : LoginKey × Failures). key_cmp x.0 k) (sym (get_or-get es j r r got)) ∙ p.1 j r le (get-within es j r got));
      },
    )
