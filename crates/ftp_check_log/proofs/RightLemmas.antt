-- What a decision of a right log rests on.
use Rattle.std.proofs.Common.{◌≡◌, refl, sym, ◌∙◌, ap, subst, ℕ, zero, suc, ◌+◌, ◌-◌, ◌%◌, ◌<◌, ◌≤◌, Bool, true, false, not, ◌||◌, cond, List, take, reverse, map, Option, Some, None, arith, inl, inr}
use Rattle.std.specs.Prelude.{◌⊎◌, slice_get, find, is_none, is_some, MatchOption}
use Rattle.std.specs.List.{range_with_len}
use Rattle.std.specs.Option.{option_map, option_map_or, option_and_then}
use Rattle.std.proofs.Math.Nat.{mod-add-mod, add-mod-mod, add-mod_right, mod-eq_of_lt}
use Rattle.std.proofs.Math.Logic.{⊎_elim}
use Rattle.std.proofs.lemmas.Bool.{cases_eq}
use Rattle.std.proofs.lemmas.Nat.{mod_below}
use Rattle.std.proofs.lemmas.Option.{same_Some}
use Rattle.ftp_base.specs.Ports.{first_free}
use Rattle.ftp_base.specs.declared.net.IpAddr.{IpAddr}
use Rattle.ftp_options.specs.declared.host.PassiveHost.{PassiveHost}
use Rattle.ftp_options.specs.Host.{lacks_lookup}
use Rattle.ftp_options.specs.Modes.{is_passive_off}
use Rattle.ftp_events.specs.declared.decision.Decision.TheVariants as decision
use Rattle.ftp_events.specs.declared.event.EventKind.TheVariants as kind
use Rattle.ftp_events.specs.Advertised.{lacks_address}
use Rattle.ftp_events.specs.Board.{first_free_port}
use Rattle.ftp_events.specs.CommandRows.{is_logged_in, if_logged_in, pasv_row, bound_row, grant_row}
use Rattle.ftp_events.specs.Headline.{from_one_peer, IsClosed, AttachedByPeer, AttachedOrClosed}
use Rattle.ftp_events.specs.Log.{is_stopped}
use Rattle.ftp_events.specs.Modes.{in_range}
use Rattle.ftp_laws.proofs.Common.{Options, is_legacy, Answer, Decision, Entry, EventKind, Opening, Session, IsRight, is_refusal, named_session, Target, target, holder, opener, session, due, acts_of}
use Rattle.ftp_laws.proofs.DecisionLemmas.{first-chosen, other-chosen, live-row}
use Rattle.ftp_laws.proofs.GrantLemmas.{holder-legacy}
use Rattle.ftp_laws.proofs.HeadlineLemmas.{serves-connection}
use Rattle.ftp_laws.proofs.QuestionLemmas.{session-told}
use Rattle.ftp_laws.proofs.ServiceLemmas.{connection-goes, counted-arrives}
use Rattle.ftp_laws.proofs.Cases.{by_test, by_option}
use Rattle.ftp_check_log.specs.Evidence.{past_at, holder_before, NoPort, turned_matter, named_client, matter_of}
use Rattle.ftp_check_log.specs.Grants.{AreHeld}
use Rattle.ftp_check_log.proofs.GrantLemmas.{port_matter}
use Rattle.ftp_check_log.proofs.EvidenceLemmas.{right-before, right-at}

-- an attached data connection came for a port that is held
attached-held :
    (o : Options) (log : List Entry) (k : ℕ) (e : Entry) (s : ℕ) (t : Target) →
    IsRight o (reverse log) → slice_get log k ≡ Some e →
    e.decision ≡ decision.Attached s → target o e.event.kind e.answer ≡ Some t →
    is_some (holder_before o log k t.client t.port) ≡ true
attached-held o log k e s t right at d to =
    go (connection-goes o (past_at log k) e.event.at e.event.kind e.answer e.decision t (right-at o log k e right at) (ap is_refusal d) to)
  where
    go :
        ((q : ℕ) × (e.decision ≡ decision.Attached q) × (holder_before o log k t.client t.port ≡ Some q)) ⊎ (e.decision ≡ decision.Turned) →
        is_some (holder_before o log k t.client t.port) ≡ true
    go (inl x) = ap (λ (h : Option ℕ). is_some h) x.2
    go (inr x) = let z : decision.Attached s ≡ decision.Turned = sym d ∙ x in cc

-- one that is turned away, where no stop came, is foreign where the port is held
turned-foreign :
    (o : Options) (log : List Entry) (k : ℕ) (e : Entry) (t : Target) (s : ℕ) →
    IsRight o (reverse log) → slice_get log k ≡ Some e →
    e.decision ≡ decision.Turned → target o e.event.kind e.answer ≡ Some t →
    holder_before o log k t.client t.port ≡ Some s →
    from_one_peer o (past_at log k) e.event.kind s ≡ false
turned-foreign o log k e t s right at d to held =
    by_test (from_one_peer o (past_at log k) e.event.kind s)
    (λ own. let z : decision.Turned ≡ decision.Attached s = sym d ∙ peer.attached own in cc)
    (λ x. x)
  where
    past : List Entry
    past = past_at log k

    -- the entry with the actions that go with it
    acted : Entry
    acted = record e { actions = acts_of o past e }

    shared : is_legacy o.mode ≡ false
    shared =
        by_test (is_legacy o.mode)
        (λ own. let z : None ≡ Some s = sym (holder-legacy o past t.client t.port own) ∙ held in cc)
        (λ x. x)

    served : AttachedOrClosed o past acted t
    served =
        serves-connection o (reverse (take k log)) acted t shared (right-before o log k right) refl
        (counted-arrives o past e.event.at e.event.kind e.answer e.decision t (right-at o log k e right at) (ap is_refusal d) to)

    peer : AttachedByPeer o past acted s
    peer = subst (λ (h : Option ℕ). MatchOption h (IsClosed acted) (AttachedByPeer o past acted)) held served

-- so what it rests on is the hold of its port, or that it is free
turned-rests :
    (o : Options) (log : List Entry) (k : ℕ) (e : Entry) (t : Target) →
    IsRight o (reverse log) → slice_get log k ≡ Some e →
    e.decision ≡ decision.Turned → target o e.event.kind e.answer ≡ Some t →
    is_stopped (past_at log k) ≡ false →
    turned_matter o (past_at log k) e.event.kind t ≡ port_matter o log k t
turned-rests o log k e t right at d to going =
    by_option (holder_before o log k t.client t.port)
    (λ free. rw (going, free) refl)
    (λ s held. rw (going, held, turned-foreign o log k e t s right at d to held) refl)

-- an attached data connection rests on its port
pub attached-matter :
    (o : Options) (log : List Entry) (k : ℕ) (e : Entry) (s : ℕ) →
    IsRight o (reverse log) → slice_get log k ≡ Some e →
    e.decision ≡ decision.Attached s →
    matter_of o (past_at log k) e e.decision ≡ option_map_or (port_matter o log k) (target o e.event.kind e.answer) NoPort
attached-matter o log k e s right at d =
    by_option (target o e.event.kind e.answer)
    (λ none. rw (d, none) refl)
    (λ t to. rw (d, to) (rw (attached-held o log k e s t right at d to) refl))

-- so does one that is turned away, where no stop came
pub turned-matter :
    (o : Options) (log : List Entry) (k : ℕ) (e : Entry) →
    IsRight o (reverse log) → slice_get log k ≡ Some e →
    e.decision ≡ decision.Turned →
    matter_of o (past_at log k) e e.decision ≡
    cond (is_stopped (past_at log k)) NoPort (option_map_or (port_matter o log k) (target o e.event.kind e.answer) NoPort)
turned-matter o log k e right at d =
    by_option (target o e.event.kind e.answer)
    (λ none. rw (d, none) (nothing (is_stopped (past_at log k))))
    (λ t to.
    by_test (is_stopped (past_at log k))
    (λ over. rw (d, to, over) refl)
    (λ going. rw (d, to) (turned-rests o log k e t right at d to going ∙ rw going refl)))
  where
    nothing : (b : Bool) → NoPort ≡ cond b NoPort NoPort
    nothing true = refl
    nothing false = refl

-- any other decision rests on no port
pub other-matter :
    (o : Options) (past : List Entry) (e : Entry) (d : Decision) →
    ((s : ℕ) → d ≡ decision.Attached s → ⊥) → (d ≡ decision.Turned → ⊥) → (d ≡ decision.Full → ⊥) →
    matter_of o past e d ≡ NoPort
other-matter o past e (decision.Attached s) x y z = absurd (x s refl)
other-matter o past e decision.Turned x y z = absurd (y refl)
other-matter o past e decision.Full x y z = absurd (z refl)
other-matter o past e d x y z = refl

-- none of a list passes a test where none is found
find-fails :
    (test : ℕ → Bool) (port : ℕ → ℕ) (m i k : ℕ) →
    find test (map port (range_with_len i m)) ≡ None →
    i ≤ k → k < i + m → test (port k) ≡ false
find-fails test port zero i k none from to = absurd (omega arith)
find-fails test port (suc m) i k none from to =
    by_test (test (port i))
    (λ passes. let z : Some (port i) ≡ None = sym (ap (λ b. cond b (Some (port i)) (find test (map port (range_with_len (i + 1) m)))) passes) ∙ none in cc)
    (λ fails.
    let later : find test (map port (range_with_len (i + 1) m)) ≡ None = sym (ap (λ b. cond b (Some (port i)) (find test (map port (range_with_len (i + 1) m)))) fails) ∙ none in
    ⊎_elim (λ same. ap (λ n. test (port n)) (sym same) ∙ fails)
    (λ apart. find-fails test port m (i + 1) k later (omega (arith, from, apart)) (omega (arith, to)))
    (cases_eq i k))

-- round once from the word's place, each place is met
round :
    (n word j : ℕ) → j < n →
    (i : ℕ) × (i < n) × ((word + i) % n ≡ j)
round n word j below =
    let low : word % n < n = mod_below word n (omega (arith, below)) in
    let far : ℕ = j + (n - word % n) in (
      far % n,
      mod_below far n (omega (arith, below)),
      add-mod-mod word far n ∙ (sym (mod-add-mod word n far) ∙ (ap (λ m. m % n) (omega (arith, low)) ∙ (add-mod_right j n ∙ mod-eq_of_lt below))),
    )

-- where no port is free each has a holder
full-ports :
    (holders : ℕ → Option ℕ) (lo hi word p : ℕ) →
    first_free holders lo hi word ≡ None →
    lo ≤ p → p ≤ hi →
    (s : ℕ) × (holders p ≡ Some s)
full-ports holders lo hi word p none from to =
    let n : ℕ = (hi - lo) + 1 in
    let at = round n word (p - lo) (omega (arith, from, to)) in
    let here : lo + ((word + at.0) % n) ≡ p = ap (λ m. lo + m) at.2 ∙ omega (arith, from) in
    let taken : is_none (holders p) ≡ false =
    ap (λ q. is_none (holders q)) (sym here) ∙ find-fails (λ q. is_none (holders q)) (λ i. lo + ((word + i) % n)) n 0 at.0 none (omega arith) (omega (arith, at.1)) in
    by_option (holders p) (λ free. let z : true ≡ false = sym (ap (λ (h : Option ℕ). is_none h) free) ∙ taken in cc) (λ s held. (s, held))

-- what is known of a full range: the session that asks is live, and each port is held for its client
record IsFull (o : Options) (past : List Entry) (k : EventKind) : Type 0 where
  pub number : ℕ
  pub view : Session
  pub named : named_session k ≡ Some number
  pub known : session o past number ≡ Some view
  pub held : (p : ℕ) → o.lo ≤ p → p ≤ o.hi → (s : ℕ) × (holder o past view.opening.client p ≡ Some s)

-- a port that was found is granted, or not shown
granted-full : (host : PassiveHost) (lookup : Option ℕ) (q : ℕ) → grant_row host lookup q ≡ decision.Full → ⊥
granted-full host lookup q h = let z = (other-chosen (lacks_lookup host lookup) decision.NoLookup (decision.Granted q) decision.Full (λ x. cc) h).1 in cc

-- a port that was bound is granted, or not shown
bound-full : (o : Options) (v : Session) (lookup bound : Option ℕ) → bound_row o v lookup bound ≡ decision.Full → ⊥
bound-full o v lookup None h = cc
bound-full o v lookup (Some q) h =
    granted-full o.host lookup q (other-chosen (not (in_range o q) || lacks_address o.host v.opening.local.ip) decision.NoSocket (grant_row o.host lookup q) decision.Full (λ x. cc) h).1

-- only a PASV is told that the range is full
full-known :
    (o : Options) (past : List Entry) (at : ℕ) (k : EventKind) (answer : Answer) →
    due o past at k answer ≡ decision.Full →
    IsFull o past k
full-known o past at (kind.Pasv s word lookup bound) answer e =
    let live = live-row o past s (λ v. if_logged_in v (pasv_row o (holder o past v.opening.client) word lookup bound v)) decision.Full (λ x. cc) e in
    let v = live.0 in
    let admitted = first-chosen (is_logged_in v.login) (pasv_row o (holder o past v.opening.client) word lookup bound v) decision.NotLoggedIn decision.Full (λ x. cc) live.2 in
    let served = other-chosen (is_passive_off o.active_passive) decision.ModeOff (cond (is_legacy o.mode) (bound_row o v lookup bound) (found v)) decision.Full (λ x. cc) admitted.1 in
    by_mode v live.1 (is_legacy o.mode) served.1
  where
    found : Session → Decision
    found v = option_map_or (grant_row o.host lookup) (first_free_port o past v.opening.client word) decision.Full

    by_port :
        (v : Session) → session o past s ≡ Some v →
        (f : Option ℕ) → first_free_port o past v.opening.client word ≡ f →
        option_map_or (grant_row o.host lookup) f decision.Full ≡ decision.Full →
        IsFull o past (kind.Pasv s word lookup bound)
    by_port v known None f d =
        record {
          number = s;
          view = v;
          named = refl;
          known = known;
          held = λ p from to. full-ports (holder o past v.opening.client) o.lo o.hi word p f from to;
        }
    by_port v known (Some q) f d = absurd (granted-full o.host lookup q d)

    by_mode :
        (v : Session) → session o past s ≡ Some v → (b : Bool) →
        cond b (bound_row o v lookup bound) (found v) ≡ decision.Full →
        IsFull o past (kind.Pasv s word lookup bound)
    by_mode v known false d = by_port v known (first_free_port o past v.opening.client word) refl d
    by_mode v known true d = absurd (bound-full o v lookup bound d)
full-known o past at k answer e = grind arith

-- so each port of the range is held for the client of the session that asks
pub full-held :
    (o : Options) (log : List Entry) (k : ℕ) (e : Entry) (a : IpAddr) →
    IsRight o (reverse log) → slice_get log k ≡ Some e →
    e.decision ≡ decision.Full → named_client (past_at log k) e.event.kind ≡ Some a →
    AreHeld o log k a
full-held o log k e a right at d client =
    let full : IsFull o (past_at log k) e.event.kind = full-known o (past_at log k) e.event.at e.event.kind e.answer (sym (right-at o log k e right at) ∙ d) in
    let told : opener (past_at log k) full.number ≡ Some full.view.opening = (session-told o (past_at log k) full.number full.view full.known).opening in
    let same : full.view.opening.client ≡ a =
    same_Some _ _ (sym (ap (λ (x : Option Opening). option_map (λ (y : Opening). y.client) x) told) ∙ (sym (ap (λ (n : Option ℕ). option_map (λ (y : Opening). y.client) (option_and_then (opener (past_at log k)) n)) full.named) ∙ client)) in
    subst (AreHeld o log k) same full.held
