-- No two pieces of evidence name other places.
use Rattle.std.proofs.Common.{◌≡◌, refl, sym, ◌∙◌, ap, subst, ℕ, ◌+◌, ◌<◌, true≢false, List, [], ◌∷◌, ◌++◌, take, drop, reverse, Option, Some, None, arith, get_or}
use Rattle.std.specs.Prelude.{slice_get}
use Rattle.std.proofs.Math.Logic.{⊎_elim}
use Rattle.std.proofs.lemmas.Bool.{cases_lt}
use Rattle.std.proofs.lemmas.Grind.{same_number_lists}
use Rattle.std.proofs.lemmas.List.{reverse-append, take-append-drop}
use Rattle.std.proofs.lemmas.Option.{same_Some, slice_get-get_or}
use Rattle.ftp_base.specs.declared.net.IpAddr.{IpAddr}
use Rattle.ftp_laws.proofs.Common.{Options, Entry, IsRight, decide, due}
use Rattle.ftp_laws.proofs.PortLemmas.{held-ungranted}
use Rattle.ftp_check_log.specs.declared.evidence.Evidence.{Evidence}
use Rattle.ftp_check_log.specs.declared.evidence.Evidence.TheVariants.{HeldBy, FreeSince, FullBy, Plain}
use Rattle.ftp_check_log.specs.Evidence.{past_at, holder_before, Grants, Releases, IsHeldBy, IsFreeSince, IsFullBy, Matter, HoldOf, FreedomOf, RangeOf, NoPort, TellsOf, matter_of, IsEvidence, SameEvidence, IsOnlyEvidence}
use Rattle.ftp_check_log.proofs.PlaceLemmas.{reversed-more, granted-held, held-until, free-until, free-first}

-- what a right log begins with is right
right-first :
    (o : Options) (later log : List Entry) →
    IsRight o (later ++ log) → IsRight o log
right-first o [] log right = right
right-first o (e ∷ later) log right = right-first o later log right.0

-- so the entries of a right log up to a place are right
pub right-before :
    (o : Options) (log : List Entry) (k : ℕ) →
    IsRight o (reverse log) → IsRight o (reverse (take k log))
right-before o log k right =
    right-first o (reverse (drop k log)) (reverse (take k log))
    (subst (IsRight o) (ap reverse (sym (take-append-drop k log)) ∙ reverse-append (take k log) (drop k log)) right)

-- and the entry there is decided as it has to be
pub right-at :
    (o : Options) (log : List Entry) (k : ℕ) (e : Entry) →
    IsRight o (reverse log) → slice_get log k ≡ Some e →
    e.decision ≡ due o (past_at log k) e.event.at e.event.kind e.answer
unfolding decide
right-at o log k e right at =
    let here : IsRight o (e ∷ reverse (take k log)) = subst (IsRight o) (reversed-more log k e at) (right-before o log (k + 1) right) in
    here.1

-- of two grants that no entry released, neither is before the other
held-before :
    (o : Options) (log : List Entry) (k : ℕ) (a : IpAddr) (p g h : ℕ) →
    IsRight o (reverse log) →
    IsHeldBy o log k a p g → IsHeldBy o log k a p h →
    g < h → ⊥
held-before o log k a p g h right x y below =
    let start = granted-held o log a p g x.grants in
    let held = held-until o log a p (g + 1) h start.0 (omega (arith, below)) (λ r after short. x.stays r (omega (arith, after)) (omega (arith, short, y.before))) start.1 in
    again held y.grants
  where
    again : (t : ℕ) × (holder_before o log h a p ≡ Some t) → Grants o log a p h → ⊥
    again held grants =
        true≢false (sym grants.3 ∙ held-ungranted o (past_at log h) grants.0 a p held.0 (right-at o log h grants.0 right grants.1) held.1)

-- so there is one such grant
pub held-once :
    (o : Options) (log : List Entry) (k : ℕ) (a : IpAddr) (p g h : ℕ) →
    IsRight o (reverse log) →
    IsHeldBy o log k a p g → IsHeldBy o log k a p h →
    g ≡ h
held-once o log k a p g h right x y =
    ⊎_elim (λ below. absurd (held-before o log k a p g h right x y below))
    (λ above.
    ⊎_elim (λ below. absurd (held-before o log k a p h g right y x below)) (λ under. omega (arith, above, under)) (cases_lt h g))
    (cases_lt g h)

-- what is released was granted before
released-granted :
    (o : Options) (log : List Entry) (k : ℕ) (a : IpAddr) (p r : ℕ) →
    IsFreeSince o log k a p None → r < k → Releases o log a p r → ⊥
released-granted o log k a p r none below released =
    let free : holder_before o log r a p ≡ None = free-first o log a p r (λ g x. none g (omega (arith, x, below))) in
    let z : None ≡ Some released.0 = sym free ∙ released.1 in
    cc

-- of two releases that no grant followed, neither is before the other
free-before :
    (o : Options) (log : List Entry) (k : ℕ) (a : IpAddr) (p r q : ℕ) →
    IsFreeSince o log k a p (Some r) → IsFreeSince o log k a p (Some q) →
    r < q → ⊥
free-before o log k a p r q x y below =
    let free : holder_before o log q a p ≡ None =
    free-until o log a p (r + 1) q (omega (arith, below)) (λ g after short. x.2 g (omega (arith, after)) (omega (arith, short, y.0))) x.1.2 in
    let z : None ≡ Some y.1.0 = sym free ∙ y.1.1 in
    cc

-- so there is one such release
pub free-once :
    (o : Options) (log : List Entry) (k : ℕ) (a : IpAddr) (p : ℕ) (r q : Option ℕ) →
    IsFreeSince o log k a p r → IsFreeSince o log k a p q →
    r ≡ q
free-once o log k a p None None x y = refl
free-once o log k a p None (Some q) x y = absurd (released-granted o log k a p q x y.0 y.1)
free-once o log k a p (Some r) None x y = absurd (released-granted o log k a p r y x.0 x.1)
free-once o log k a p (Some r) (Some q) x y =
    ap Some
    (⊎_elim (λ below. absurd (free-before o log k a p r q x y below))
    (λ above.
    ⊎_elim (λ below. absurd (free-before o log k a p q r y x below)) (λ under. omega (arith, above, under)) (cases_lt q r))
    (cases_lt r q))

-- and one list of such grants
full-once :
    (o : Options) (log : List Entry) (k : ℕ) (a : IpAddr) (xs ys : List ℕ) →
    IsRight o (reverse log) →
    IsFullBy o log k a xs → IsFullBy o log k a ys →
    xs ≡ ys
full-once o log k a xs ys right x y =
    same_number_lists xs ys (x.count ∙ sym y.count)
    (λ i below.
    held-once o log k a (o.lo + i) (get_or xs i 0) (get_or ys i 0) right
    (x.held i (get_or xs i 0) (slice_get-get_or xs i 0 below))
    (y.held i (get_or ys i 0) (slice_get-get_or ys i 0 (omega (arith, below, x.count, y.count)))))

-- evidence on one matter names the same places
same-told :
    (o : Options) (log : List Entry) (k : ℕ) (m : Matter) (x y : Evidence) →
    IsRight o (reverse log) →
    TellsOf o log k m x → TellsOf o log k m y →
    SameEvidence y x
same-told o log k (HoldOf t) (HeldBy g) (HeldBy h) right x y = held-once o log k t.client t.port h g right y x
same-told o log k (FreedomOf t) (FreeSince r) (FreeSince q) right x y = free-once o log k t.client t.port q r y x
same-told o log k (RangeOf a) (FullBy xs) (FullBy ys) right x y = full-once o log k a ys.items xs.items right y x
same-told o log k NoPort Plain Plain right x y = tt
same-told o log k (HoldOf t) (HeldBy g) (FreeSince r) right x y = absurd y
same-told o log k (HoldOf t) (HeldBy g) (FullBy ys) right x y = absurd y
same-told o log k (HoldOf t) (HeldBy g) Plain right x y = absurd y
same-told o log k (FreedomOf t) (FreeSince r) (HeldBy g) right x y = absurd y
same-told o log k (FreedomOf t) (FreeSince r) (FullBy ys) right x y = absurd y
same-told o log k (FreedomOf t) (FreeSince r) Plain right x y = absurd y
same-told o log k (RangeOf a) (FullBy xs) (HeldBy g) right x y = absurd y
same-told o log k (RangeOf a) (FullBy xs) (FreeSince r) right x y = absurd y
same-told o log k (RangeOf a) (FullBy xs) Plain right x y = absurd y
same-told o log k NoPort Plain (HeldBy g) right x y = absurd y
same-told o log k NoPort Plain (FreeSince r) right x y = absurd y
same-told o log k NoPort Plain (FullBy ys) right x y = absurd y
same-told o log k (HoldOf t) (FreeSince r) y right x z = absurd x
same-told o log k (HoldOf t) (FullBy xs) y right x z = absurd x
same-told o log k (HoldOf t) Plain y right x z = absurd x
same-told o log k (FreedomOf t) (HeldBy g) y right x z = absurd x
same-told o log k (FreedomOf t) (FullBy xs) y right x z = absurd x
same-told o log k (FreedomOf t) Plain y right x z = absurd x
same-told o log k (RangeOf a) (HeldBy g) y right x z = absurd x
same-told o log k (RangeOf a) (FreeSince r) y right x z = absurd x
same-told o log k (RangeOf a) Plain y right x z = absurd x
same-told o log k NoPort (HeldBy g) y right x z = absurd x
same-told o log k NoPort (FreeSince r) y right x z = absurd x
same-told o log k NoPort (FullBy xs) y right x z = absurd x

-- so every evidence for an entry of a right log names the same places
pub evidence-once :
    (o : Options) (log : List Entry) (k : ℕ) (x : Evidence) →
    IsRight o (reverse log) →
    IsEvidence o log k x → IsOnlyEvidence o log k x
evidence-once o log k x right here = λ y other.
    let e : Entry = here.0 in
    let same : other.0 ≡ e = same_Some other.0 e (sym other.1 ∙ here.1) in
    same-told o log k (matter_of o (past_at log k) e e.decision) x y right here.2
    (subst (λ (f : Entry). TellsOf o log k (matter_of o (past_at log k) f f.decision) y) same other.2)
