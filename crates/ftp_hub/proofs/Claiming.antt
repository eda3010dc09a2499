-- A port that is claimed while nobody holds it.
use Rattle.std.proofs.Common.{◌≡◌, refl, sym, ap, ◌∙◌, subst, ℕ, ◌<◌, ◌≤◌, Bool, true, false, true≢false, cond, List, [], ◌∷◌, ◌++◌, Option, Some, None, eqb-true, eq-eqb, inl, inr, arith}
use Rattle.std.specs.Prelude.{◌⊎◌, ◌==◌, ◌||◌, IsSome, is_some, nat_le}
use Rattle.std.specs.List.{AllByRecursion, list_any}
use Rattle.std.specs.Option.{option_map_or}
use Rattle.std.specs.FinMap as finmap
use Rattle.std.proofs.lemmas.Bool.{and_parts, leb-true}
use Rattle.std.proofs.lemmas.Option.{same_Some}
use Rattle.ftp_base.specs.declared.net.IpAddr.{IpAddr}
use Rattle.ftp_base.specs.declared.net.IpAddr.TheVariants.{V6}
use Rattle.ftp_events.specs.declared.session.Slot.{Slot}
use Rattle.ftp_events.specs.declared.session.Slot.TheVariants.{Waits}
use Rattle.ftp_events.specs.Modes.{in_range}
use Rattle.ftp_events.specs.Slot.{waiting_port}
use Rattle.ftp_laws.specs.Census.{IsAscending, has as is_listed}
use Rattle.ftp_laws.proofs.Cases.{by_test}
use Rattle.ftp_switchboard.specs.declared.key.SwitchboardKey.{SwitchboardKey}
use Rattle.ftp_switchboard.specs.Board.{Board, Held, holder_at, is_key, key as key_pair}
use Rattle.ftp_switchboard.proofs.BoardLemmas.{get-insert-key}
use Rattle.ftp_hub.proofs.Common.{Options, Session, V4}
use Rattle.ftp_hub.proofs.Lines.{ascending-last}
use Rattle.ftp_hub.proofs.Refusing.{twice-rivals}
use Rattle.ftp_hub.specs.declared.state.StateError.{StateError}
use Rattle.ftp_hub.specs.declared.state.StateError.TheVariants.{OutOfMemory, Port}
use Rattle.ftp_hub.specs.Refused.{FindsHolder, WaitTwice, has_port, has_v6_rival}
use Rattle.ftp_hub.specs.State.{WaitsAt, WaitsFor}

-- the holders after a claim
pub claim-after :
    (old mid new : Board) (k : SwitchboardKey) (session a p : ℕ) →
    mid.held ≡ old.held → new.held ≡ finmap.insert mid.held k session →
    holder_at new a p ≡ cond (is_key a p k.source k.port) (Some session) (holder_at old a p)
claim-after old mid new k session a p same claimed =
    ap (λ (h : Held). finmap.get h (key_pair a p)) claimed
    ∙ get-insert-key mid.held a p k.source k.port session
    ∙ ap (λ (h : Held). cond (is_key a p k.source k.port) (Some session) (finmap.get h (key_pair a p))) same

-- nobody is there where it is not so that somebody is
pub nobody-there : (x : Option ℕ) → (IsSome x → ⊥) → x ≡ None
nobody-there None h = refl
nobody-there (Some s) h = absurd (h refl)

-- the key is its own
pub claim-own : (old new : Board) (k : SwitchboardKey) (session : ℕ) →
    holder_at new k.source k.port ≡ cond (is_key k.source k.port k.source k.port) (Some session) (holder_at old k.source k.port) →
    holder_at new k.source k.port ≡ Some session
claim-own old new k session after =
    after ∙ rw (eq-eqb k.source k.source refl, eq-eqb k.port k.port refl) refl

-- who holds a port then, held it before, or has claimed it
pub claim-held : (old new : Board) (k : SwitchboardKey) (session a p s : ℕ) →
    holder_at new a p ≡ cond (is_key a p k.source k.port) (Some session) (holder_at old a p) →
    holder_at new a p ≡ Some s →
    (holder_at old a p ≡ Some s) ⊎ ((s ≡ session) × (a ≡ k.source) × (p ≡ k.port))
claim-held old new k session a p s after h =
    by_test (is_key a p k.source k.port)
    (λ y.
    let parts = and_parts (a == k.source) (p == k.port) y in
    let same : Some session ≡ Some s = sym (ap (λ b. cond b (Some session) (holder_at old a p)) y) ∙ sym after ∙ h in
    inr (sym (same_Some _ _ same), eqb-true a k.source parts.0, eqb-true p k.port parts.1))
    (λ n. inl (sym (ap (λ b. cond b (Some session) (holder_at old a p)) n) ∙ sym after ∙ h))

-- who held a port holds it still
pub claim-kept : (old new : Board) (k : SwitchboardKey) (session a p s : ℕ) →
    holder_at new a p ≡ cond (is_key a p k.source k.port) (Some session) (holder_at old a p) →
    holder_at old k.source k.port ≡ None → holder_at old a p ≡ Some s → holder_at new a p ≡ Some s
claim-kept old new k session a p s after free h =
    by_test (is_key a p k.source k.port)
    (λ y.
    let parts = and_parts (a == k.source) (p == k.port) y in
    let there : holder_at old k.source k.port ≡ Some s =
    subst (λ (b : ℕ). holder_at old b k.port ≡ Some s) (eqb-true a k.source parts.0) (subst (λ (q : ℕ). holder_at old a q ≡ Some s) (eqb-true p k.port parts.1) h)
    in
    let z : None ≡ Some s = sym free ∙ there in
    cc)
    (λ n. after ∙ ap (λ b. cond b (Some session) (holder_at old a p)) n ∙ h)

-- a number stands in a list with one more where it stood in it, or is that one
pub listed-last : (xs : List ℕ) (x s : ℕ) → is_listed (xs ++ x ∷ []) s ≡ (is_listed xs s || (x == s))
listed-last [] x s = go (x == s)
  where
    go : (b : Bool) → (b || false) ≡ b
    go true = refl
    go false = refl
listed-last (y ∷ xs) x s = go (y == s) (is_listed (xs ++ x ∷ []) s) (is_listed xs s) (x == s) (listed-last xs x s)
  where
    go : (b all rest last : Bool) → all ≡ (rest || last) → (b || all) ≡ ((b || rest) || last)
    go true all rest last h = refl
    go false all rest last h = h

-- what is not among them and is not the last is not among all
pub unlisted-last : (xs : List ℕ) (x s : ℕ) → is_listed xs s ≡ false → (x == s) ≡ false → is_listed (xs ++ x ∷ []) s ≡ false
unlisted-last xs x s a b = listed-last xs x s ∙ rw (a, b) refl

-- who held a port before or has claimed it waits for it
pub claimed-waits :
    (there : ℕ → Option Session) (holder : ℕ → ℕ → Option ℕ) (n : ℕ) (v : Session) (a p s : ℕ) →
    there n ≡ Some v →
    (holder a p ≡ Some s → WaitsAt (there s) a p) →
    (holder a p ≡ Some s) ⊎ ((s ≡ n) × (v.opening.client ≡ V4 a) × (v.slot ≡ Waits p)) →
    WaitsAt (there s) a p
claimed-waits there holder n v a p s known before (inl h) = before h
claimed-waits there holder n v a p s known before (inr w) = (v, ap there w.0 ∙ known, w.1, w.2)

-- who waits for a port that another holds waits for it beside that one
last-below : (xs : List ℕ) (x s : ℕ) → AllByRecursion (λ n. n < s) (xs ++ x ∷ []) → x < s
last-below [] x s h = h.0
last-below (y ∷ xs) x s h = last-below xs x s h.1

pub holder-twice :
    (there : ℕ → Option Session) (board : Board) (n : ℕ) (v : Session) (left all : List ℕ) → all ≡ left ++ n ∷ [] → there n ≡ Some v →
    ((a p s : ℕ) → holder_at board a p ≡ Some s → WaitsAt (there s) a p) →
    ((a p s : ℕ) → holder_at board a p ≡ Some s → AllByRecursion (λ m. m < s) all) →
    FindsHolder board v → WaitTwice there
holder-twice there board n v left all same known held above f =
    let s : ℕ = f.2 in
    let below : n < s = last-below left n s (subst (λ xs. AllByRecursion (λ m. m < s) xs) same (above f.0 f.1 s f.5)) in
    (V4 f.0, f.1, n, s, λ e. absurd (omega (arith, below, e)), (v, known, f.3, f.4), held f.0 f.1 s f.5)

-- so a claim that is refused is one of two that wait for one port
pub claim-refused :
    (there : ℕ → Option Session) (board : Board) (n : ℕ) (v : Session) (left all : List ℕ) (e : StateError) → all ≡ left ++ n ∷ [] → there n ≡ Some v →
    ((a p s : ℕ) → holder_at board a p ≡ Some s → WaitsAt (there s) a p) →
    ((a p s : ℕ) → holder_at board a p ≡ Some s → AllByRecursion (λ m. m < s) all) →
    (e ≡ OutOfMemory) ⊎ ((e ≡ Port) × FindsHolder board v) →
    (e ≡ OutOfMemory) ⊎ ((e ≡ Port) × WaitTwice there)
claim-refused there board n v left all e same known held above (inl h) = inl h
claim-refused there board n v left all e same known held above (inr h) = inr (h.0, holder-twice there board n v left all same known held above h.1)

-- who holds a port then is above all that are left
pub above-step :
    (board : Board) (n a p s : ℕ) (v : Session) (left all : List ℕ) → all ≡ left ++ n ∷ [] → IsAscending all →
    ((a p s : ℕ) → holder_at board a p ≡ Some s → AllByRecursion (λ m. m < s) all) →
    (holder_at board a p ≡ Some s) ⊎ ((s ≡ n) × (v.opening.client ≡ V4 a) × (v.slot ≡ Waits p)) → AllByRecursion (λ m. m < s) left
above-step board n a p s v left all same up above (inl h) = front left (subst (λ xs. AllByRecursion (λ m. m < s) xs) same (above a p s h))
  where
    front : (xs : List ℕ) → AllByRecursion (λ m. m < s) (xs ++ n ∷ []) → AllByRecursion (λ m. m < s) xs
    front [] h = tt
    front (x ∷ xs) h = (h.0, front xs h.1)
above-step board n a p s v left all same up above (inr w) =
    subst (λ (k : ℕ). AllByRecursion (λ m. m < k) left) (sym w.0) (ascending-last left n (subst IsAscending same up)).1

-- nor is it otherwise where nobody has claimed a port
pub above-left :
    (board : Board) (n a p s : ℕ) (left all : List ℕ) → all ≡ left ++ n ∷ [] →
    ((a p s : ℕ) → holder_at board a p ≡ Some s → AllByRecursion (λ m. m < s) all) →
    holder_at board a p ≡ Some s → AllByRecursion (λ m. m < s) left
above-left board n a p s left all same above h = front left (subst (λ xs. AllByRecursion (λ m. m < s) xs) same (above a p s h))
  where
    front : (xs : List ℕ) → AllByRecursion (λ m. m < s) (xs ++ n ∷ []) → AllByRecursion (λ m. m < s) xs
    front [] h = tt
    front (x ∷ xs) h = (h.0, front xs h.1)

-- a port that a slot waits for lies in the range
pub port-within : (o : Options) (v : Session) (p : ℕ) → has_port o v ≡ true → v.slot ≡ Waits p → (o.lo ≤ p) × (p ≤ o.hi)
port-within o v p h waits =
    let parts = and_parts (nat_le o.lo p) (nat_le p o.hi) (subst (λ (s : Slot). option_map_or (in_range o) (waiting_port s) true ≡ true) waits h) in
    (leb-true o.lo p parts.0, leb-true p o.hi parts.1)

-- where each holds the port that it waits for, and there are no rivals of version 6, no two wait for one port
pub once-clear :
    (live : ℕ → Option Session) (board : Board) (numbers : List ℕ) → ((s : ℕ) → is_listed numbers s ≡ is_some (live s)) →
    ((a p s : ℕ) → WaitsAt (live s) a p → holder_at board a p ≡ Some s) →
    list_any (has_v6_rival live numbers) numbers ≡ false → WaitTwice live → ⊥
once-clear live board numbers all claimed none w = go w.0 w.5 w.6
  where
    go : (client : IpAddr) → WaitsFor (live w.2) client w.1 → WaitsFor (live w.3) client w.1 → ⊥
    go (V4 a) here there = w.4 (same_Some _ _ (sym (claimed a w.1 w.2 here) ∙ claimed a w.1 w.3 there))
    go (V6 n) here there = true≢false (sym (twice-rivals live numbers n w.1 w.2 w.3 all w.4 here there) ∙ none)
