-- The first refusal to which there is a cause.
use Rattle.std.proofs.Common.{◌≡◌, refl, sym, ap, ◌∙◌, subst, ℕ, ◌+◌, ◌<◌, ◌≤◌, Bool, true, false, true≢false, cond, not, ◌&&◌, ◌||◌, List, [], ◌∷◌, Option, Some, None, inl, inr, eqb-true, eq-eqb, arith}
use Rattle.std.specs.Prelude.{◌≢◌, ◌⊎◌, ◌==◌, is_some, nat_eq}
use Rattle.std.specs.HashMap as table
use Rattle.std.specs.List.{list_any}
use Rattle.std.specs.Option.{option_and_then, option_map_or}
use Rattle.std.proofs.lemmas.Bool.{and_parts, cases_lt, not-true}
use Rattle.ftp_base.specs.declared.net.IpAddr.{IpAddr}
use Rattle.ftp_base.specs.declared.net.IpAddr.TheVariants.{V4, V6}
use Rattle.ftp_events.specs.declared.session.Slot.{Slot}
use Rattle.ftp_events.specs.declared.session.Slot.TheVariants.{Empty, Waits, Linked}
use Rattle.ftp_laws.specs.Census.{has as is_listed}
use Rattle.ftp_laws.proofs.Cases.{by_test}
use Rattle.ftp_hub.proofs.Common.{Hub, Options, Running, Session, is_legacy}
use Rattle.ftp_hub.specs.declared.state.HubState.{HubState}
use Rattle.ftp_hub.specs.declared.state.StateError.{StateError}
use Rattle.ftp_hub.specs.declared.state.StateError.TheVariants.{BadLine, Number, Port, Ticket, Mode, Login, OutOfMemory}
use Rattle.ftp_hub.specs.Refused.{GivesCause, IsFirst, Known, OneLacks, WaitTwice, has_port, has_v6_rival, is_of_v6, job_lacks, job_lacks_at, known_by, known_of, refusal_place, session_lacks, session_lacks_at, v6_wait, wait_of_v6, waits_so}
use Rattle.ftp_hub.specs.State.{TellsState, WaitsFor, running_in, session_in}

-- one side is enough, or both
pub or-first : (a b : Bool) → a ≡ true → (a || b) ≡ true
or-first true b h = refl
or-first false b h = cc

pub or-second : (a b : Bool) → b ≡ true → (a || b) ≡ true
or-second true b h = refl
or-second false b h = h

pub both-hold : (a b : Bool) → a ≡ true → b ≡ true → (a && b) ≡ true
both-hold true b x y = y
both-hold false b x y = cc

-- where one of the numbers passes a test, it is listed
pub any-found : (f : ℕ → Bool) (numbers : List ℕ) → list_any f numbers ≡ true → (s : ℕ) × (is_listed numbers s ≡ true) × (f s ≡ true)
any-found f [] h = cc
any-found f (n ∷ numbers) h = go (f n) refl (any-found f numbers) h
  where
    go :
        (b : Bool) → f n ≡ b → (list_any f numbers ≡ true → (s : ℕ) × (is_listed numbers s ≡ true) × (f s ≡ true)) →
        (b || list_any f numbers) ≡ true → (s : ℕ) × (is_listed (n ∷ numbers) s ≡ true) × (f s ≡ true)
    go true e rest h = (n, rw (eq-eqb n n refl) refl, e)
    go false e rest h = let more = rest h in (more.0, or-second (n == more.0) (is_listed numbers more.0) more.1, more.2)

-- where a listed number passes it, one does
pub found-any : (f : ℕ → Bool) (numbers : List ℕ) (s : ℕ) → is_listed numbers s ≡ true → f s ≡ true → list_any f numbers ≡ true
found-any f [] s h e = cc
found-any f (n ∷ numbers) s h e = go (n == s) refl (found-any f numbers s) h
  where
    go :
        (b : Bool) → (n == s) ≡ b → (is_listed numbers s ≡ true → f s ≡ true → list_any f numbers ≡ true) →
        (b || is_listed numbers s) ≡ true → (f n || list_any f numbers) ≡ true
    go true y rest h = or-first (f n) (list_any f numbers) (ap f (eqb-true n s y) ∙ e)
    go false y rest h = or-second (f n) (list_any f numbers) (rest h e)

-- ---- two that wait for one port

-- who waits for a client of version 6 is found to
v6-waits : (x : Option Session) (w : ℕ × ℕ) → option_and_then v6_wait x ≡ Some w → WaitsFor x (V6 w.0) w.1
v6-waits None w h = cc
v6-waits (Some v) w h = go v.opening.client v.slot refl refl h
  where
    go : (ip : IpAddr) (slot : Slot) → v.opening.client ≡ ip → v.slot ≡ slot → wait_of_v6 ip slot ≡ Some w → WaitsFor (Some v) (V6 w.0) w.1
    go (V6 n) (Waits p) here there e = (
      v,
      refl,
      here ∙ ap (λ (m : ℕ). V6 m) (ap (λ (x : Option (ℕ × ℕ)). option_map_or (λ w. w.0) x 0) e),
      there ∙ ap (λ (q : ℕ). Waits q) (ap (λ (x : Option (ℕ × ℕ)). option_map_or (λ w. w.1) x 0) e),
    )
    go (V6 n) Empty here there e = cc
    go (V6 n) (Linked m) here there e = cc
    go (V4 n) slot here there e = cc

waits-v6 : (x : Option Session) (n p : ℕ) → WaitsFor x (V6 n) p → option_and_then v6_wait x ≡ Some (n, p)
waits-v6 x n p w =
    ap (option_and_then v6_wait) w.1
    ∙ ap (λ (ip : IpAddr). wait_of_v6 ip w.0.slot) w.2
    ∙ ap (wait_of_v6 (V6 n)) w.3

-- what is so of what is there
pub there-so : {A : Type 0} (f : A → Bool) (x : Option A) → option_map_or f x false ≡ true → (a : A) × (x ≡ Some a) × (f a ≡ true)
there-so f (Some a) h = (a, refl, h)
there-so f None h = cc

-- numbers that a test tells apart
unlike : (t s : ℕ) → not (t == s) ≡ true → s ≢ t
unlike t s h e = true≢false (sym h ∙ ap not (eq-eqb t s (sym e)))

-- two rivals wait for one port
pub rivals-twice : (live : ℕ → Option Session) (numbers : List ℕ) → list_any (has_v6_rival live numbers) numbers ≡ true → WaitTwice live
rivals-twice live numbers h =
    let one = any-found (has_v6_rival live numbers) numbers h in
    let s : ℕ = one.0 in
    let wait = there-so (λ wait. list_any (waits_so live s wait) numbers) (option_and_then v6_wait (live s)) one.2 in
    let w : ℕ × ℕ = wait.0 in
    let two = any-found (waits_so live s w) numbers wait.2 in
    let t : ℕ = two.0 in
    let parts = and_parts (not (t == s)) (option_map_or (λ other. (other.0 == w.0) && (other.1 == w.1)) (option_and_then v6_wait (live t)) false) two.2 in
    let other = there-so (λ (other : ℕ × ℕ). (other.0 == w.0) && (other.1 == w.1)) (option_and_then v6_wait (live t)) parts.1 in
    let same = and_parts (other.0.0 == w.0) (other.0.1 == w.1) other.2 in
    let waits : WaitsFor (live t) (V6 other.0.0) other.0.1 = v6-waits (live t) other.0 other.1 in (
      V6 w.0,
      w.1,
      s,
      t,
      unlike t s parts.0,
      v6-waits (live s) w wait.1,
      (waits.0, waits.1, waits.2 ∙ ap (λ (n : ℕ). V6 n) (eqb-true other.0.0 w.0 same.0), waits.3 ∙ ap (λ (p : ℕ). Waits p) (eqb-true other.0.1 w.1 same.1)),
    )

-- and two that wait so for a client of version 6 are rivals
pub twice-rivals :
    (live : ℕ → Option Session) (numbers : List ℕ) (n p s t : ℕ) → ((s : ℕ) → is_listed numbers s ≡ is_some (live s)) →
    s ≢ t → WaitsFor (live s) (V6 n) p → WaitsFor (live t) (V6 n) p → list_any (has_v6_rival live numbers) numbers ≡ true
twice-rivals live numbers n p s t all other here there =
    found-any (has_v6_rival live numbers) numbers s (all s ∙ ap is_some here.1)
    (ap (λ (x : Option (ℕ × ℕ)). option_map_or (λ wait. list_any (waits_so live s wait) numbers) x false) (waits-v6 (live s) n p here)
    ∙ found-any (waits_so live s (n, p)) numbers t (all t ∙ ap is_some there.1)
    (both-hold _ _
    (by_test (t == s) (λ y. absurd (other (sym (eqb-true t s y)))) (λ no. ap not no))
    (ap (λ (x : Option (ℕ × ℕ)). option_map_or (λ other. (other.0 == n) && (other.1 == p)) x false) (waits-v6 (live t) n p there)
    ∙ both-hold (n == n) (p == p) (eq-eqb n n refl) (eq-eqb p p refl))))

-- the refusal that stands at a place
abbrev pub refusal_at : ℕ → StateError
refusal_at n = cond (n == 2) Number (cond (n == 3) Port (cond (n == 4) Ticket (cond (n == 5) Mode (cond (n == 6) Login OutOfMemory))))

at-place : (e : StateError) → 1 < refusal_place e → refusal_at (refusal_place e) ≡ e
at-place (BadLine n) later = absurd (omega (arith, later))
at-place Number later = refl
at-place Port later = refl
at-place Ticket later = refl
at-place Mode later = refl
at-place Login later = refl
at-place OutOfMemory later = refl

module _ (k : Known) (live : ℕ → Option Session) (jobs : ℕ → Option Running) where
  -- ---- sessions and jobs one by one

  -- a session that gives cause is live, and a job runs
  lacks-live : (e : StateError) (s : ℕ) → session_lacks_at k live jobs e s ≡ true → is_some (live s) ≡ true
  lacks-live e s h = ap is_some (there-so (session_lacks k e (jobs s) s) (live s) h).1

  lacks-runs : (e : StateError) (s : ℕ) → job_lacks_at k live jobs e s ≡ true → is_some (jobs s) ≡ true
  lacks-runs e s h = ap is_some (there-so (job_lacks k e (live s)) (jobs s) h).1

  pub one-found : (e : StateError) (numbers : List ℕ) → list_any (session_lacks_at k live jobs e) numbers ≡ true → OneLacks k live jobs e
  one-found e numbers h = let found = any-found (session_lacks_at k live jobs e) numbers h in inl (found.0, found.2)

  pub job-found : (e : StateError) (numbers : List ℕ) → list_any (job_lacks_at k live jobs e) numbers ≡ true → OneLacks k live jobs e
  job-found e numbers h = let found = any-found (job_lacks_at k live jobs e) numbers h in inr (found.0, found.2)

  pub none-found :
      (e : StateError) (numbers running : List ℕ) → ((s : ℕ) → is_listed numbers s ≡ is_some (live s)) → ((s : ℕ) → is_listed running s ≡ is_some (jobs s)) →
      list_any (session_lacks_at k live jobs e) numbers ≡ false → list_any (job_lacks_at k live jobs e) running ≡ false → OneLacks k live jobs e → ⊥
  none-found e numbers running all every a b (inl h) =
      true≢false (sym (found-any (session_lacks_at k live jobs e) numbers h.0 (all h.0 ∙ lacks-live e h.0 h.1) h.1) ∙ a)
  none-found e numbers running all every a b (inr h) =
      true≢false (sym (found-any (job_lacks_at k live jobs e) running h.0 (every h.0 ∙ lacks-runs e h.0 h.1) h.1) ∙ b)

  -- ---- one refusal after the other

  module _ (v6 : Bool) where
    abbrev pub Cause : StateError → Type 0
    Cause e = GivesCause k live jobs v6 e

    -- what is no matter of ports or of records is one of a session or a job
    by_one : (e : StateError) → (e ≡ Mode → ⊥) → (e ≡ Port → ⊥) → Cause e → OneLacks k live jobs e
    by_one e mode port (inl h) = h
    by_one e mode port (inr (inl h)) = absurd (mode h.0)
    by_one e mode port (inr (inr h)) = absurd (port h.0)

    pub number-clear : (OneLacks k live jobs Number → ⊥) → Cause Number → ⊥
    number-clear none c = none (by_one Number (λ z. cc) (λ z. cc) c)

    pub ticket-clear : (OneLacks k live jobs Ticket → ⊥) → Cause Ticket → ⊥
    ticket-clear none c = none (by_one Ticket (λ z. cc) (λ z. cc) c)

    pub login-clear : (OneLacks k live jobs Login → ⊥) → Cause Login → ⊥
    login-clear none c = none (by_one Login (λ z. cc) (λ z. cc) c)

    pub port-clear : (OneLacks k live jobs Port → ⊥) → (is_legacy k.options.mode ≡ false → WaitTwice live → ⊥) → Cause Port → ⊥
    port-clear none once (inl h) = none h
    port-clear none once (inr (inl h)) = let z : Port ≡ Mode = h.0 in cc
    port-clear none once (inr (inr h)) = once h.1 h.2

    pub mode-clear : (OneLacks k live jobs Mode → ⊥) → (is_legacy k.options.mode ≡ false → v6 ≡ true → ⊥) → Cause Mode → ⊥
    mode-clear none v4 (inl h) = none h
    mode-clear none v4 (inr (inl h)) = v4 h.1 h.2
    mode-clear none v4 (inr (inr h)) = let z : Mode ≡ Port = h.0 in cc

    -- each session waits for a port of the range, where none gives cause to the refusal of ports
    pub ports-fit : (OneLacks k live jobs Port → ⊥) → (s : ℕ) (v : Session) → live s ≡ Some v → has_port k.options v ≡ true
    ports-fit none s v there =
        by_test (has_port k.options v) (λ y. y)
        (λ n. absurd (none (inl (s, ap (λ (x : Option Session). option_map_or (session_lacks k Port (jobs s) s) x false) there ∙ ap not n))))

    -- what brings addresses of version 6 to shared ports is barred
    pub barred-mode : (v6 && not (is_legacy k.options.mode)) ≡ true → Cause Mode
    barred-mode h = let parts = and_parts v6 (not (is_legacy k.options.mode)) h in inr (inl (refl, not-true _ parts.1, parts.0))

    pub unbarred : (v6 && not (is_legacy k.options.mode)) ≡ false → is_legacy k.options.mode ≡ false → v6 ≡ true → ⊥
    unbarred h shared brings = true≢false (sym (both-hold v6 (not (is_legacy k.options.mode)) brings (ap not shared)) ∙ h)

    -- nothing gives cause to what is no refusal
    bad-clear : (n : ℕ) → Cause (BadLine n) → ⊥
    bad-clear n c = go (by_one (BadLine n) (λ z. cc) (λ z. cc) c)
      where
        session : (s : ℕ) (x : Option Session) → option_map_or (session_lacks k (BadLine n) (jobs s) s) x false ≡ true → ⊥
        session s None h = true≢false (sym h)
        session s (Some v) h = true≢false (sym h)

        job : (s : ℕ) (x : Option Running) → option_map_or (job_lacks k (BadLine n) (live s)) x false ≡ true → ⊥
        job s None h = true≢false (sym h)
        job s (Some r) h = true≢false (sym h)

        go : OneLacks k live jobs (BadLine n) → ⊥
        go (inl h) = session h.0 (live h.0) h.1
        go (inr h) = job h.0 (jobs h.0) h.1

    memory-clear : Cause OutOfMemory → ⊥
    memory-clear c = go (by_one OutOfMemory (λ z. cc) (λ z. cc) c)
      where
        session : (s : ℕ) (x : Option Session) → option_map_or (session_lacks k OutOfMemory (jobs s) s) x false ≡ true → ⊥
        session s None h = true≢false (sym h)
        session s (Some v) h = true≢false (sym h)

        job : (s : ℕ) (x : Option Running) → option_map_or (job_lacks k OutOfMemory (live s)) x false ≡ true → ⊥
        job s None h = true≢false (sym h)
        job s (Some r) h = true≢false (sym h)

        go : OneLacks k live jobs OutOfMemory → ⊥
        go (inl h) = session h.0 (live h.0) h.1
        go (inr h) = job h.0 (jobs h.0) h.1

    -- no refusal before this place has a cause
    abbrev pub IsClearTo : ℕ → Type 0
    IsClearTo n = (e : StateError) → Cause e → n ≤ refusal_place e

    pub clear-lines : IsClearTo 2
    clear-lines (BadLine n) c = absurd (bad-clear n c)
    clear-lines Number c = omega arith
    clear-lines Port c = omega arith
    clear-lines Ticket c = omega arith
    clear-lines Mode c = omega arith
    clear-lines Login c = omega arith
    clear-lines OutOfMemory c = omega arith

    -- nor has one before the next, where that at this place has none
    pub clear-more : (n : ℕ) → 1 < n → IsClearTo n → (Cause (refusal_at n) → ⊥) → IsClearTo (n + 1)
    clear-more n later clear none e c = go (cases_lt n (refusal_place e))
      where
        go : (n < refusal_place e) ⊎ (refusal_place e ≤ n) → n + 1 ≤ refusal_place e
        go (inl more) = omega (arith, more)
        go (inr least) =
            let same : refusal_place e ≡ n = omega (arith, least, clear e c) in
            absurd (none (subst Cause (sym (at-place e (omega (arith, later, clear e c))) ∙ ap refusal_at same) c))

    -- where none has one before want of memory, there is a cause to nothing
    pub all-clear : IsClearTo 7 → (e : StateError) → Cause e → ⊥
    all-clear clear (BadLine n) c = omega (arith, clear (BadLine n) c)
    all-clear clear Number c = omega (arith, clear Number c)
    all-clear clear Port c = omega (arith, clear Port c)
    all-clear clear Ticket c = omega (arith, clear Ticket c)
    all-clear clear Mode c = omega (arith, clear Mode c)
    all-clear clear Login c = omega (arith, clear Login c)
    all-clear clear OutOfMemory c = memory-clear c

    -- what is refused is so for want of memory, or first
    pub refused-by :
        (e r : StateError) → (e ≡ OutOfMemory) ⊎ ((e ≡ r) × OneLacks k live jobs r) → IsClearTo (refusal_place r) →
        (e ≡ OutOfMemory) ⊎ IsFirst Cause e
    refused-by e r (inl memory) clear = inl memory
    refused-by e r (inr x) clear = inr (subst (IsFirst Cause) (sym x.0) (record { cause = inl x.1; first = clear }))

    pub refused-twice :
        (e : StateError) → (e ≡ OutOfMemory) ⊎ ((e ≡ Port) × (is_legacy k.options.mode ≡ false) × WaitTwice live) → IsClearTo (refusal_place Port) →
        (e ≡ OutOfMemory) ⊎ IsFirst Cause e
    refused-twice e (inl memory) clear = inl memory
    refused-twice e (inr x) clear = inr (subst (IsFirst Cause) (sym x.0) (record { cause = inr (inr (refl, x.1, x.2)); first = clear }))

-- what is said of the tables of a hub that tells a state is so of the state
module _ (o : Options) (hub : Hub) (x : HubState) (v6 : Bool) (told : TellsState hub x) (own : hub.options ≡ o) (same : v6 ≡ list_any is_of_v6 x.records) where
  known-same : known_by hub ≡ known_of o x
  known-same = λ i. record { options = own i; used = λ n. told.numbers n i; events = told.events i; stopped = told.stopped i }

  pub by-tables :
      (P : Known → (ℕ → Option Session) → (ℕ → Option Running) → Bool → Type 0) →
      P (known_by hub) (table.get nat_eq hub.sessions) (table.get nat_eq hub.jobs) v6 →
      P (known_of o x) (session_in x) (running_in x) (list_any is_of_v6 x.records)
  by-tables P h =
      subst (λ (k : Known). P k (session_in x) (running_in x) (list_any is_of_v6 x.records)) known-same
      (subst (λ (live : ℕ → Option Session). P (known_by hub) live (running_in x) (list_any is_of_v6 x.records)) (λ i s. told.sessions s i)
      (subst (λ (jobs : ℕ → Option Running). P (known_by hub) (table.get nat_eq hub.sessions) jobs (list_any is_of_v6 x.records)) (λ i s. told.jobs s i)
      (subst (λ (v : Bool). P (known_by hub) (table.get nat_eq hub.sessions) (table.get nat_eq hub.jobs) v) same h)))

-- where there is no cause, only memory can be wanting
pub not-refused : (C : StateError → Type 0) (e : StateError) → (e ≡ OutOfMemory) ⊎ IsFirst C e → (C e → ⊥) → e ≡ OutOfMemory
not-refused C e (inl memory) none = memory
not-refused C e (inr first) none = absurd (none first.cause)
