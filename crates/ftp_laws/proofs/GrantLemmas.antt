-- What is known of a grant.
use Rattle.std.proofs.Common.{◌≡◌, refl, ◌∙◌, ap, subst, ℕ, ◌+◌, ◌-◌, ◌%◌, ◌<◌, Bool, true, false, not, ◌||◌, cond, List, [], ◌∷◌, map, Option, Some, None, arith}
use Rattle.std.specs.Prelude.{find, is_none}
use Rattle.std.specs.List.{range_with_len}
use Rattle.std.specs.Option.{option_map_or}
use Rattle.std.proofs.lemmas.Bool.{le-leb, or_parts, not-false}
use Rattle.std.proofs.lemmas.Nat.{mod_below}
use Rattle.std.proofs.lemmas.Option.{same_Some}
use Rattle.ftp_base.specs.Ports.{port_order}
use Rattle.ftp_options.specs.declared.host.PassiveHost.{PassiveHost}
use Rattle.ftp_options.specs.Host.{lacks_lookup}
use Rattle.ftp_options.specs.Modes.{is_passive_off}
use Rattle.ftp_events.specs.declared.event.EventKind.TheVariants as kind
use Rattle.ftp_events.specs.declared.decision.Decision.TheVariants as decision
use Rattle.ftp_events.specs.Modes.{in_range}
use Rattle.ftp_events.specs.Board.{first_free_port}
use Rattle.ftp_events.specs.Advertised.{lacks_address}
use Rattle.ftp_events.specs.CommandRows.{is_logged_in, if_logged_in, pasv_row, bound_row, grant_row}
use Rattle.ftp_laws.proofs.Common.{IpAddr, Options, is_legacy, Decision, Entry, EventKind, Answer, Session, granted_port, comes_to, holder, session, due}
use Rattle.ftp_laws.proofs.DecisionLemmas.{IsLive, first-chosen, other-chosen, live-row}

-- what is found passes the test
find-holds : {X : Type 0} (p : X → Bool) (xs : List X) (x : X) → find p xs ≡ Some x → p x ≡ true
find-holds p [] x e = cc
find-holds p (y ∷ ys) x e = go (p y) refl e (λ later. find-holds p ys x later)
  where
    go :
        (b : Bool) → p y ≡ b →
        cond b (Some y) (find p ys) ≡ Some x →
        (find p ys ≡ Some x → p x ≡ true) → p x ≡ true
    go true h e' ih = subst (λ z. p z ≡ true) (same_Some _ _ e') h
    go false h e' ih = ih e'

-- what is found among images has what each image has
find-map :
    (P : ℕ → Type 0) (p : ℕ → Bool) (f : ℕ → ℕ) (xs : List ℕ) (x : ℕ) →
    ((i : ℕ) → P (f i)) →
    find p (map f xs) ≡ Some x → P x
find-map P p f [] x all e = cc
find-map P p f (y ∷ ys) x all e = go (p (f y)) e (λ later. find-map P p f ys x all later)
  where
    go :
        (b : Bool) →
        cond b (Some (f y)) (find p (map f ys)) ≡ Some x →
        (find p (map f ys) ≡ Some x → P x) → P x
    go true e' ih = subst P (same_Some _ _ e') (all y)
    go false e' ih = ih e'

-- a number that is not there is none
none-is : (n : Option ℕ) → is_none n ≡ true → n ≡ None
none-is None h = refl
none-is (Some m) h = cc

-- a first free port has no holder
free-unheld :
    (o : Options) (past : List Entry) (a : IpAddr) (word p : ℕ) →
    first_free_port o past a word ≡ Some p →
    holder o past a p ≡ None
free-unheld o past a word p e = none-is (holder o past a p) (find-holds (λ q. is_none (holder o past a q)) (port_order o.lo o.hi word) p e)

-- a first free port is one of the range
free-ranged :
    (o : Options) (past : List Entry) (a : IpAddr) (word p : ℕ) →
    first_free_port o past a word ≡ Some p →
    in_range o p ≡ true
free-ranged o past a word p e =
    let n : ℕ = (o.hi - o.lo) + 1 in
    find-map (λ q. in_range o q ≡ true) (λ q. is_none (holder o past a q)) (λ i. o.lo + ((word + i) % n)) (range_with_len 0 n) p (λ i. ranged (word + i)) e
  where
    ranged : (i : ℕ) → in_range o (o.lo + (i % ((o.hi - o.lo) + 1))) ≡ true
    ranged i =
        let place : ℕ = i % ((o.hi - o.lo) + 1) in
        let below : place < (o.hi - o.lo) + 1 = mod_below i ((o.hi - o.lo) + 1) (omega arith) in
        rw (le-leb o.lo (o.lo + place) (omega arith), le-leb (o.lo + place) o.hi (omega (arith, below, o.ordered))) refl

-- what is known of a grant: its session is live, and the port is one of the range that was free for its client
pub record IsGrant (o : Options) (past : List Entry) (k : EventKind) (p : ℕ) : Type 0 where
  pub alive : IsLive o past k
  pub free : holder o past alive.session_then.opening.client p ≡ None
  pub ranged : in_range o p ≡ true

-- where each session has a listener of its own no port has a holder
pub holder-legacy :
    (o : Options) (past : List Entry) (a : IpAddr) (p : ℕ) →
    is_legacy o.mode ≡ true → holder o past a p ≡ None
holder-legacy o [] a p m = refl
holder-legacy o (e ∷ past) a p m = rw (m, holder-legacy o past a p m) (none (comes_to o e a p))
  where
    none : (b : Bool) → cond {A = Option ℕ} b None (cond false None None) ≡ None
    none true = refl
    none false = refl

-- a port that is granted as it was found is that one
granted-found : (host : PassiveHost) (lookup : Option ℕ) (q p : ℕ) → grant_row host lookup q ≡ decision.Granted p → q ≡ p
granted-found host lookup q p h =
    same_Some q p (ap granted_port (other-chosen (lacks_lookup host lookup) decision.NoLookup (decision.Granted q) (decision.Granted p) (λ x. cc) h).1)

-- a port that was bound and is granted is one of the range
bound-ranged :
    (o : Options) (v : Session) (lookup bound : Option ℕ) (p : ℕ) →
    bound_row o v lookup bound ≡ decision.Granted p →
    in_range o p ≡ true
bound-ranged o v lookup None p h = cc
bound-ranged o v lookup (Some q) p h =
    let strange : Bool = not (in_range o q) || lacks_address o.host v.opening.local.ip in
    let row = other-chosen strange decision.NoSocket (grant_row o.host lookup q) (decision.Granted p) (λ x. cc) h in
    let ranged : in_range o q ≡ true = not-false _ (or_parts (not (in_range o q)) (lacks_address o.host v.opening.local.ip) row.0).0 in
    subst (λ (n : ℕ). in_range o n ≡ true) (granted-found o.host lookup q p row.1) ranged

-- only a PASV is granted a port, of a live session
pub granted-free :
    (o : Options) (past : List Entry) (at : ℕ) (k : EventKind) (answer : Answer) (p : ℕ) →
    due o past at k answer ≡ decision.Granted p →
    IsGrant o past k p
granted-free o past at (kind.Pasv s word lookup bound) answer p e =
    let live = live-row o past s (λ v. if_logged_in v (pasv_row o (holder o past v.opening.client) word lookup bound v)) (decision.Granted p) (λ x. cc) e in
    let v = live.0 in
    let admitted = first-chosen (is_logged_in v.login) (pasv_row o (holder o past v.opening.client) word lookup bound v) decision.NotLoggedIn (decision.Granted p) (λ x. cc) live.2 in
    let served = other-chosen (is_passive_off o.active_passive) decision.ModeOff (cond (is_legacy o.mode) (bound_row o v lookup bound) (found v)) (decision.Granted p) (λ x. cc) admitted.1 in
    by_mode v live.1 (is_legacy o.mode) refl served.1
  where
    found : Session → Decision
    found v = option_map_or (grant_row o.host lookup) (first_free_port o past v.opening.client word) decision.Full

    alive : (v : Session) → session o past s ≡ Some v → IsLive o past (kind.Pasv s word lookup bound)
    alive v known = record { number = s; session_then = v; named = refl; known = known }

    by_port :
        (v : Session) → session o past s ≡ Some v →
        (f : Option ℕ) → first_free_port o past v.opening.client word ≡ f →
        option_map_or (grant_row o.host lookup) f decision.Full ≡ decision.Granted p →
        IsGrant o past (kind.Pasv s word lookup bound) p
    by_port v known None f d = cc
    by_port v known (Some q) f d =
        let free : first_free_port o past v.opening.client word ≡ Some p = f ∙ ap Some (granted-found o.host lookup q p d) in
        record {
          alive = alive v known;
          free = free-unheld o past v.opening.client word p free;
          ranged = free-ranged o past v.opening.client word p free;
        }

    by_mode :
        (v : Session) → session o past s ≡ Some v →
        (b : Bool) → is_legacy o.mode ≡ b →
        cond b (bound_row o v lookup bound) (found v) ≡ decision.Granted p →
        IsGrant o past (kind.Pasv s word lookup bound) p
    by_mode v known false m d = by_port v known (first_free_port o past v.opening.client word) refl d
    by_mode v known true m d =
        record { alive = alive v known; free = holder-legacy o past v.opening.client p m; ranged = bound-ranged o v lookup bound p d }
granted-free o past at k answer p e = grind arith
