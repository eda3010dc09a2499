-- What the last grant of a port tells of its hold.
use Rattle.std.proofs.Common.{◌≡◌, refl, sym, ◌∙◌, ap, subst, ℕ, ◌+◌, ◌-◌, ◌<◌, ◌≤◌, true, false, true≢false, cond, List, length, Option, Some, None, arith, inl, inr}
use Rattle.std.specs.Prelude.{◌⊎◌, ◌==◌, slice_get, is_some}
use Rattle.std.specs.Option.{IsSome, option_map}
use Rattle.std.proofs.Math.Logic.{⊎_elim}
use Rattle.std.proofs.lemmas.Bool.{cases_lt}
use Rattle.std.proofs.lemmas.Option.{same_Some, slice_get_within}
use Rattle.ftp_base.specs.declared.net.IpAddr.{IpAddr}
use Rattle.ftp_laws.proofs.Cases.{by_test}
use Rattle.ftp_laws.proofs.Common.{Options, Target, Entry, named_session, is_refusal, gives_hold}
use Rattle.ftp_check_log.specs.declared.grants.Grant.{Grant}
use Rattle.ftp_check_log.specs.Evidence.{past_at, holder_before, Grants, IsHeldBy, IsFreeSince, IsFullBy, Matter, HoldOf, FreedomOf, TellsOf}
use Rattle.ftp_check_log.specs.declared.evidence.Evidence.TheVariants.{HeldBy, FreeSince}
use Rattle.ftp_check_log.specs.Grants.{IsLastGrant, AreHeld}
use Rattle.ftp_check_log.proofs.PlaceLemmas.{grant-holds, free-until, free-first}

-- a place below the next one is this one, or below this one
before_or_here : (g k : ℕ) → g < k + 1 → (g < k) ⊎ (g ≡ k)
before_or_here g k h = ⊎_elim (λ x. inl x) (λ x. inr (omega (arith, x, h))) (cases_lt g k)

-- before the first entry nothing was granted
pub last-first :
    (o : Options) (log : List Entry) (a : IpAddr) (p : ℕ) →
    IsLastGrant o log 0 a p None
last-first o log a p = λ g below grants. absurd (omega arith)

-- an entry that grants the port is its last grant
pub last-given :
    (o : Options) (log : List Entry) (k : ℕ) (a : IpAddr) (p s : ℕ) (e : Entry) →
    slice_get log k ≡ Some e → is_refusal e.decision ≡ false →
    named_session e.event.kind ≡ Some s →
    gives_hold o (past_at log k) e a p ≡ true →
    IsLastGrant o log (k + 1) a p (Some (record { session = s; place = k }))
last-given o log k a p s e at counts named gives = (
  omega arith,
  (e, at, counts, gives),
  grant-holds o log a p k e at counts gives ∙ named,
  λ g after below grants. absurd (omega arith),
)

-- behind one that does not, the last grant is the same
pub last-kept :
    (o : Options) (log : List Entry) (k : ℕ) (a : IpAddr) (p : ℕ) (e : Entry) (m : Option Grant) →
    slice_get log k ≡ Some e →
    gives_hold o (past_at log k) e a p ≡ false →
    IsLastGrant o log k a p m →
    IsLastGrant o log (k + 1) a p m
last-kept o log k a p e m at none last = go m last
  where
    ungranted : (g : ℕ) → g ≡ k → Grants o log a p g → ⊥
    ungranted g here grants =
        let same : grants.0 ≡ e = same_Some grants.0 e (sym grants.1 ∙ (ap (slice_get log) here ∙ at)) in
        true≢false (sym grants.3 ∙ (ap (λ n. gives_hold o (past_at log n) grants.0 a p) here ∙ (ap (λ f. gives_hold o (past_at log k) f a p) same ∙ none)))

    go : (m : Option Grant) → IsLastGrant o log k a p m → IsLastGrant o log (k + 1) a p m
    go None before = λ g below grants. ⊎_elim (λ x. before g x grants) (λ x. ungranted g x grants) (before_or_here g k below)
    go (Some x) before = (
      omega (arith, before.0),
      before.1,
      before.2,
      λ g after below grants. ⊎_elim (λ y. before.3 g after y grants) (λ y. ungranted g y grants) (before_or_here g k below),
    )

-- where the port is held, its last grant is there, and no entry since released it
pub last-held :
    (o : Options) (log : List Entry) (k : ℕ) (a : IpAddr) (p s : ℕ) (m : Option Grant) →
    IsLastGrant o log k a p m →
    holder_before o log k a p ≡ Some s →
    (x : Grant) × (m ≡ Some x) × IsHeldBy o log k a p x.place
last-held o log k a p s None last held = let z : None ≡ Some s = sym (free-first o log a p k last) ∙ held in cc
last-held o log k a p s (Some x) last held = (
  x,
  refl,
  record {
    before = last.0;
    grants = last.1;
    stays = λ r after below released.
        let free : holder_before o log k a p ≡ None =
        free-until o log a p (r + 1) k (omega (arith, below)) (λ g y z. last.3 g (omega (arith, after, y)) z) released.2 in
        let z : None ≡ Some s = sym free ∙ held in
        cc;
  },
)

-- where an entry after the last grant released it, the port is free since
pub last-released :
    (o : Options) (log : List Entry) (k : ℕ) (a : IpAddr) (p s : ℕ) (x : Grant) (r : ℕ) →
    IsLastGrant o log k a p (Some x) →
    x.place < r → r < k →
    holder_before o log r a p ≡ Some s →
    holder_before o log (r + 1) a p ≡ None →
    (holder_before o log k a p ≡ None) × IsFreeSince o log k a p (Some r)
last-released o log k a p s x r last after below held free = (
  free-until o log a p (r + 1) k (omega (arith, below)) (λ g y z. last.3 g (omega (arith, after, y)) z) free,
  (below, (s, held, free), λ g y z. last.3 g (omega (arith, after, y)) z),
)

-- the last grants behind an entry that grants one port
pub last-after :
    (o : Options) (log : List Entry) (k : ℕ) (a : IpAddr) (e : Entry) (s port : ℕ) (f g : ℕ → Option Grant) →
    slice_get log k ≡ Some e → is_refusal e.decision ≡ false →
    named_session e.event.kind ≡ Some s →
    ((p : ℕ) → gives_hold o (past_at log k) e a p ≡ (port == p)) →
    ((p : ℕ) → IsLastGrant o log k a p (f p)) →
    ((p : ℕ) → g p ≡ cond (port == p) (Some (record { session = s; place = k })) (f p)) →
    (p : ℕ) → IsLastGrant o log (k + 1) a p (g p)
last-after o log k a e s port f g at counts named gives last told p =
    by_test (port == p)
    (λ here.
    let new : Some (record { session = s; place = k }) ≡ g p = sym (told p ∙ ap (λ b. cond b (Some (record { session = s; place = k })) (f p)) here) in
    subst (IsLastGrant o log (k + 1) a p) new (last-given o log k a p s e at counts named (gives p ∙ here)))
    (λ other.
    let old : f p ≡ g p = sym (told p ∙ ap (λ b. cond b (Some (record { session = s; place = k })) (f p)) other) in
    subst (IsLastGrant o log (k + 1) a p) old (last-kept o log k a p e (f p) at (gives p ∙ other) (last p)))

-- what a data connection's decision rests on, where no stop came: on the hold of its port, or on that it is free
abbrev pub port_matter : Options → List Entry → ℕ → Target → Matter
port_matter o log k t = cond (is_some (holder_before o log k t.client t.port)) (HoldOf t) (FreedomOf t)

-- a port that was never granted is free
pub port-ungranted :
    (o : Options) (log : List Entry) (k : ℕ) (t : Target) →
    IsLastGrant o log k t.client t.port None →
    TellsOf o log k (port_matter o log k t) (FreeSince None)
port-ungranted o log k t last = rw (free-first o log t.client t.port k last) last

-- one whose last grant was not released is held
pub port-held :
    (o : Options) (log : List Entry) (k : ℕ) (t : Target) (x : Grant) →
    IsLastGrant o log k t.client t.port (Some x) →
    holder_before o log k t.client t.port ≡ Some x.session →
    TellsOf o log k (port_matter o log k t) (HeldBy x.place)
port-held o log k t x last held =
    let it = last-held o log k t.client t.port x.session (Some x) last held in
    rw held (subst (λ (y : Grant). IsHeldBy o log k t.client t.port y.place) (sym (same_Some x it.0 it.1)) it.2)

-- one that was released is free since
pub port-released :
    (o : Options) (log : List Entry) (k : ℕ) (t : Target) (r : ℕ) →
    (holder_before o log k t.client t.port ≡ None) × IsFreeSince o log k t.client t.port (Some r) →
    TellsOf o log k (port_matter o log k t) (FreeSince (Some r))
port-released o log k t r free = rw free.0 free.1

-- where all ports of the range are held, the last grant of each is there
pub last-there :
    (o : Options) (log : List Entry) (k : ℕ) (a : IpAddr) (f : ℕ → Option Grant) →
    ((p : ℕ) → IsLastGrant o log k a p (f p)) →
    AreHeld o log k a →
    (p : ℕ) → o.lo ≤ p → p ≤ o.hi → IsSome (f p)
last-there o log k a f last held p from to =
    let one = held p from to in
    let it = last-held o log k a p one.0 (f p) (last p) one.1 in
    ap (λ (x : Option Grant). is_some x) it.1

-- and their places are those of the full range
pub full-told :
    (o : Options) (log : List Entry) (k : ℕ) (a : IpAddr) (f : ℕ → Option Grant) (places : List ℕ) →
    ((p : ℕ) → IsLastGrant o log k a p (f p)) →
    AreHeld o log k a →
    length places ≡ (o.hi - o.lo) + 1 →
    ((i : ℕ) → i < length places → option_map (λ (x : Grant). x.place) (f (o.lo + i)) ≡ slice_get places i) →
    IsFullBy o log k a places
full-told o log k a f places last held count told = record { count = count; held = each }
  where
    each : (i g : ℕ) → slice_get places i ≡ Some g → IsHeldBy o log k a (o.lo + i) g
    each i g there =
        let below : i < length places = slice_get_within places i g there in
        let one = held (o.lo + i) (omega arith) (omega (arith, below, count, o.ordered)) in
        let it = last-held o log k a (o.lo + i) one.0 (f (o.lo + i)) (last (o.lo + i)) one.1 in
        let same : it.0.place ≡ g = same_Some it.0.place g (sym (ap (option_map (λ (x : Grant). x.place)) it.1) ∙ (told i below ∙ there)) in
        subst (IsHeldBy o log k a (o.lo + i)) same it.2
