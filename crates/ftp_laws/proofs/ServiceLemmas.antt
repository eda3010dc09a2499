-- Every right and acted log serves its data connections and its PASVs as promised.
use Rattle.std.proofs.Common.{◌≡◌, refl, sym, ◌∙◌, ap, subst, ℕ, Bool, true, false, true≢false, not, ◌&&◌, ◌||◌, cond, List, [], ◌++◌, Option, Some, None, Ok, Err, inl, inr, arith}
use Rattle.std.specs.Prelude.{◌⊎◌, Contains, is_some, unwrap_or}
use Rattle.std.specs.Bool.{then_some}
use Rattle.std.specs.Option.{option_map_or, option_and_then}
use Rattle.std.proofs.lemmas.Bool.{and_parts, or_parts, or_from, not-true, not-false}
use Rattle.std.proofs.lemmas.Option.{same_Some}
use Rattle.std.proofs.lemmas.List.Elements.{Contains-append_left, Contains-append_right, Contains-push}
use Rattle.ftp_base.specs.declared.net.SocketAddr.{SocketAddr}
use Rattle.ftp_base.specs.Net.{is_v6}
use Rattle.ftp_options.specs.declared.options.ListenerMode.{ListenerMode}
use Rattle.ftp_options.specs.declared.options.ListenerMode.TheVariants.{Pooled}
use Rattle.ftp_options.specs.Modes.{is_pooled, is_proxy, is_control_port}
use Rattle.ftp_events.specs.declared.action.Action.TheVariants.{Close}
use Rattle.ftp_events.specs.declared.decision.Decision.TheVariants as decision
use Rattle.ftp_events.specs.declared.event.Answer.TheVariants.{Header}
use Rattle.ftp_events.specs.declared.event.EventKind.TheVariants as kind
use Rattle.ftp_events.specs.Classes.{is_stop}
use Rattle.ftp_events.specs.Log.{is_stopped}
use Rattle.ftp_events.specs.Words.{◌⇒◌∣◌}
use Rattle.ftp_events.specs.Modes.{in_range}
use Rattle.ftp_events.specs.ConnectionRows.{arrival_row, header_row, holder_row}
use Rattle.ftp_events.specs.Acts.{notice_and_reply, farewells}
use Rattle.ftp_events.specs.Headline.{is_header, is_barred, peer_of}
use Rattle.ftp_events.specs.History.{Nobody, One, All}
use Rattle.ftp_laws.proofs.Common.{Subject, subject_acts, IpAddr, same_ip, Options, is_legacy, Running, Action, Decision, Entry, EventKind, Answer, Opening, Session, is_number, past_of, is_refusal, is_used, new_number, named_session, opened_number, opening_by, opener, Target, target, granted_port, is_client, gives_hold, comes_to, ends_hold, holder, subject, session, running_job, due, acts_of, acts_for, completions, stays, drop_acts, slot_of, pending_in, refused_link, start_acts, starting, IsRight}
use Rattle.ftp_laws.proofs.ClassLemmas.{granted-is}
use Rattle.ftp_laws.proofs.SubjectLemmas.{not-all}
use Rattle.ftp_laws.proofs.DecisionLemmas.{IsAccepted, accepted-known}
use Rattle.ftp_laws.proofs.GrantLemmas.{granted-free}
use Rattle.ftp_laws.proofs.HoldLemmas.{WaitsFor}
use Rattle.ftp_laws.proofs.EntryLemmas.{right-past}
use Rattle.ftp_laws.proofs.Cases.{by_test}

-- a new connection that is turned away is closed
pub closes-link :
    (k : EventKind) (n : ℕ) →
    new_number k decision.Turned ≡ Some n →
    Contains (refused_link k decision.Turned) (Close n)
closes-link k n w = rw w (Contains-push [] (Close n))

-- what the third of six lists contains, they contain together
pub in-third :
    {X : Type 0} (a b c d e f : List X) (x : X) →
    Contains c x → Contains (a ++ b ++ c ++ d ++ e ++ f) x
in-third a b c d e f x h =
    Contains-append_left (a ++ b ++ c ++ d ++ e) f x (Contains-append_left (a ++ b ++ c ++ d) e x (Contains-append_left (a ++ b ++ c) d x (Contains-append_right (a ++ b) c x h)))

-- so it is closed where the entry is about a session
pub acts-close :
    (o : Options) (past : List Entry) (e : Entry) (s n : ℕ) →
    Contains (refused_link e.event.kind e.decision) (Close n) →
    Contains (acts_for o past e s) (Close n)
acts-close o past e s n h =
    let k = e.event.kind in
    let d = e.decision in
    let v : Option Session = session o past s in
    let job : Option Running = running_job o past s in
    in-third (completions s k d (stays d v) job) (drop_acts s (stays d v) d (slot_of v) (pending_in v)) (refused_link k d) (option_map_or (notice_and_reply o s k e.answer d job) v []) (start_acts (option_and_then (starting k d job) v)) (farewells s d) (Close n) h

-- and where it is not
pub turned-closes :
    (o : Options) (past : List Entry) (e : Entry) (n : ℕ) →
    e.decision ≡ decision.Turned →
    new_number e.event.kind decision.Turned ≡ Some n →
    Contains (acts_of o past e) (Close n)
turned-closes o past e n d w = subst (λ (xs : List Action). Contains xs (Close n)) (sym (rw d refl)) (go (subject o past e) refl)
  where
    closed : Contains (refused_link e.event.kind decision.Turned) (Close n)
    closed = closes-link e.event.kind n w

    go :
        (s : Subject) → subject o past e ≡ s →
        Contains (subject_acts o past e s) (Close n)
    go All h = absurd (not-all o past e (ap is_stop d) h)
    go Nobody h = subst (λ (x : Decision). Contains (refused_link e.event.kind x) (Close n)) (sym d) closed
    go (One s) h = acts-close o past e s n (subst (λ (x : Decision). Contains (refused_link e.event.kind x) (Close n)) (sym d) closed)

-- what is decided on a connection for a key: it is attached to the holder, or turned away
abbrev pub AttachedOrTurned : Options → List Entry → Decision → IpAddr → ℕ → Type 0
AttachedOrTurned o past d a p = ((s : ℕ) × (d ≡ decision.Attached s) × (holder o past a p ≡ Some s)) ⊎ (d ≡ decision.Turned)

-- where a connection to a port goes
pub arrival-goes :
    (o : Options) (past : List Entry) (raw : SocketAddr) (a : IpAddr) (p : ℕ) →
    AttachedOrTurned o past (arrival_row o past raw a p) a p
arrival-goes o past raw a p = by_range (in_range o p)
  where
    by_peer :
        (s : ℕ) (b : Bool) → holder o past a p ≡ Some s →
        AttachedOrTurned o past (cond b (decision.Attached s) decision.Turned) a p
    by_peer s true h = inl (s, refl, h)
    by_peer s false h = inr refl

    by_holder : (h : Option ℕ) → holder o past a p ≡ h → AttachedOrTurned o past (holder_row o past raw h) a p
    by_holder None h = inr refl
    by_holder (Some s) h = by_peer s (option_map_or (λ v. same_ip v.opening.raw.ip raw.ip) (session o past s) false) h

    by_range :
        (b : Bool) →
        AttachedOrTurned o past (cond (not b) decision.Turned (holder_row o past raw (holder o past a p))) a p
    by_range true = by_holder (holder o past a p) refl
    by_range false = inr refl

-- a connection is refused as strange, for its used number, or by its row
row-refused :
    (strange used : Bool) (row : Decision) →
    (strange ≡ false → used ≡ false → is_refusal row ≡ true) →
    is_refusal (cond strange decision.Misplaced (cond used decision.UsedNumber row)) ≡ true
row-refused true used row h = refl
row-refused false true row h = refl
row-refused false false row h = h refl refl

-- one behind a proxy is refused without a header
headless-refused :
    (o : Options) (past : List Entry) (raw : SocketAddr) (a : Answer) →
    not (is_header a) ≡ true →
    is_refusal (header_row o past raw a) ≡ true
headless-refused o past raw (Header (Ok line)) h = rw (not-false _ (not-true _ h)) refl
headless-refused o past raw (Header (Err fault)) h = cc
headless-refused o past raw a h = refl

-- the decision on a barred connection is a refusal
pub barred-refused :
    (o : Options) (past : List Entry) (at : ℕ) (k : EventKind) (a : Answer) →
    is_barred o past k a ≡ true →
    is_refusal (due o past at k a) ≡ true
barred-refused o past at (kind.DataIn number raw port) a b =
    let strange : Bool = not (is_pooled o.mode) || is_v6 raw.ip in
    row-refused strange (is_used past number) _
    (λ x y. absurd (true≢false (sym b ∙ or_from strange (is_used past number) x y)))
barred-refused o past at (kind.Proxied number raw trace) a b =
    let strange : Bool = not (is_proxy o.mode) || is_v6 raw.ip in
    row-refused strange (is_used past number) _
    (λ x y.
    let parts = and_parts (not (is_stopped past)) (not (is_header a)) (sym (ap (λ z. z || (not (is_stopped past) && not (is_header a))) (or_from strange (is_used past number) x y)) ∙ b) in
    rw (not-true _ parts.0) (headless-refused o past raw a parts.1))
barred-refused o past at k a b = cc

-- no proxy is where the ports are pooled
pooled-unproxied : (m : ListenerMode) → is_pooled m ≡ true → is_proxy m ≡ false
pooled-unproxied Pooled h = refl
pooled-unproxied m h = cc

-- a data connection that is not barred: its raw peer, its number, and its row; without a proxy its raw peer is its client
pub record Arrives (o : Options) (past : List Entry) (k : EventKind) (d : Decision) (t : Target) : Type 0 where
  pub raw : SocketAddr
  pub number : ℕ
  pub new : (x : Decision) → new_number k x ≡ Some number
  pub peer : peer_of k ≡ Some raw
  pub direct : is_pooled o.mode ≡ true → raw.ip ≡ t.client
  pub row : d ≡ (is_stopped past ⇒ decision.Turned ∣ arrival_row o past raw t.client t.port)

-- the decision on it is that of its row
pub unbarred-arrives :
    (o : Options) (past : List Entry) (at : ℕ) (k : EventKind) (a : Answer) (t : Target) →
    target o k a ≡ Some t →
    is_barred o past k a ≡ false →
    Arrives o past k (due o past at k a) t
unbarred-arrives o past at (kind.DataIn number raw port) a t w b =
    let k : EventKind = kind.DataIn number raw port in
    let parts = or_parts (not (is_pooled o.mode) || is_v6 raw.ip) (is_used past number) b in
    subst (λ (x : Target). Arrives o past k (due o past at k a) x) (same_Some _ _ w)
    (record { raw = raw; number = number; new = λ x. refl; peer = refl; direct = λ x. refl; row = rw (parts.0, parts.1) refl })
unbarred-arrives o past at (kind.Proxied number raw trace) (Header (Ok line)) t w b =
    by_port (is_control_port o.mode line.destination.port) refl w
  where
    k : EventKind
    k = kind.Proxied number raw trace

    strange : Bool
    strange = not (is_proxy o.mode) || is_v6 raw.ip

    v6 : Bool
    v6 = is_v6 line.source.ip || is_v6 line.destination.ip

    parts : ((strange || is_used past number) ≡ false) × ((not (is_stopped past) && not (not v6)) ≡ false)
    parts = or_parts (strange || is_used past number) (not (is_stopped past) && not (not v6)) b

    fresh : (strange ≡ false) × (is_used past number ≡ false)
    fresh = or_parts strange (is_used past number) parts.0

    proxied : is_pooled o.mode ≡ true → ⊥
    proxied x = true≢false (sym (not-false _ (or_parts (not (is_proxy o.mode)) (is_v6 raw.ip) fresh.0).0) ∙ pooled-unproxied o.mode x)

    headed : is_stopped past ≡ false → not (not v6) ≡ false
    headed z = sym (ap (λ y. not y && not (not v6)) z) ∙ parts.1

    by_port :
        (c : Bool) → is_control_port o.mode line.destination.port ≡ c →
        cond c None (Some (record { client = line.source.ip; port = line.destination.port })) ≡ Some t →
        Arrives o past k (due o past at k (Header (Ok line))) t
    by_port true x y = cc
    by_port false x y =
        subst (λ (z : Target). Arrives o past k (due o past at k (Header (Ok line))) z) (same_Some _ _ y)
        (record {
          raw = raw;
          number = number;
          new = λ z. refl;
          peer = refl;
          direct = λ z. absurd (proxied z);
          row = rw (fresh.0, fresh.1) (by_test (is_stopped past) (λ z. rw z refl) (λ z. rw (z, not-true _ (not-false _ (headed z)), x) refl));
        })
unbarred-arrives o past at k a t w b = cc

-- so is that on one that is not refused
pub counted-arrives :
    (o : Options) (past : List Entry) (at : ℕ) (k : EventKind) (a : Answer) (d : Decision) (t : Target) →
    d ≡ due o past at k a → is_refusal d ≡ false →
    target o k a ≡ Some t →
    Arrives o past k d t
counted-arrives o past at k a d t fit c w = go (is_barred o past k a) refl
  where
    go : (b : Bool) → is_barred o past k a ≡ b → Arrives o past k d t
    go true b = absurd (true≢false (sym (barred-refused o past at k a b) ∙ (ap is_refusal (sym fit) ∙ c)))
    go false b = subst (λ (x : Decision). Arrives o past k x t) (sym fit) (unbarred-arrives o past at k a t w b)

-- where a data connection goes that is not refused
pub connection-goes :
    (o : Options) (past : List Entry) (at : ℕ) (k : EventKind) (a : Answer) (d : Decision) (t : Target) →
    d ≡ due o past at k a → is_refusal d ≡ false →
    target o k a ≡ Some t →
    AttachedOrTurned o past d t.client t.port
connection-goes o past at k a d t fit c w =
    let x : Arrives o past k d t = counted-arrives o past at k a d t fit c w in
    subst (λ (y : Decision). AttachedOrTurned o past y t.client t.port) (sym x.row) (go x (is_stopped past))
  where
    go :
        (x : Arrives o past k d t) (b : Bool) →
        AttachedOrTurned o past (cond b decision.Turned (arrival_row o past x.raw t.client t.port)) t.client t.port
    go x true = inr refl
    go x false = arrival-goes o past x.raw t.client t.port

-- only a data connection is attached, or one that came for the session alone
pub attached-comes :
    (o : Options) (past : List Entry) (at : ℕ) (k : EventKind) (a : Answer) (s : ℕ) →
    due o past at k a ≡ decision.Attached s →
    (is_some (target o k a) ≡ true) ⊎ IsAccepted o past k s
attached-comes o past at (kind.DataIn number raw port) a s h = inl refl
attached-comes o past at (kind.Accepted q number raw) a s h = inr (accepted-known o past at q number raw a s h)
attached-comes o past at k a s h = inl (grind arith)

-- where the ports are pooled the client of a session is its raw peer
pub opener-raw :
    (o : Options) (log : List Entry) →
    is_pooled o.mode ≡ true → IsRight o log →
    (s : ℕ) (opening : Opening) →
    opener (past_of log) s ≡ Some opening →
    opening.client ≡ opening.raw.ip
opener-raw o log m r =
    right-past o (λ past. (s : ℕ) (opening : Opening) → opener past s ≡ Some opening → opening.client ≡ opening.raw.ip)
    (λ s opening h. cc)
    (λ log e comes ih s opening h.
    by_opening (past_of log) e s opening (λ x. by_kind (past_of log) e opening comes.fit comes.counts e.event.kind refl x) (ih s opening) (is_number (opened_number e.event.kind e.decision) s) h)
    log r
  where
    by_kind :
        (past : List Entry) (e : Entry) (opening : Opening) →
        e.decision ≡ due o past e.event.at e.event.kind e.answer →
        is_refusal e.decision ≡ false →
        (k : EventKind) → e.event.kind ≡ k →
        opening_by k e.answer ≡ Some opening →
        opening.client ≡ opening.raw.ip
    by_kind past e opening fit counts (kind.Connect n raw local trace) y x = subst (λ (z : Opening). z.client ≡ z.raw.ip) (same_Some _ _ x) refl
    by_kind past e opening fit counts (kind.Proxied n raw trace) y x =
        let misplaced : e.decision ≡ decision.Misplaced = fit ∙ rw (y, pooled-unproxied o.mode m) refl in
        absurd (true≢false (sym (ap is_refusal misplaced) ∙ counts))
    by_kind past e opening fit counts k y x = cc

    by_opening :
        (past : List Entry) (e : Entry) (s : ℕ) (opening : Opening) →
        (opening_by e.event.kind e.answer ≡ Some opening → opening.client ≡ opening.raw.ip) →
        (opener past s ≡ Some opening → opening.client ≡ opening.raw.ip) →
        (b : Bool) →
        unwrap_or (then_some b (opening_by e.event.kind e.answer)) (opener past s) ≡ Some opening →
        opening.client ≡ opening.raw.ip
    by_opening past e s opening now before true x = now x
    by_opening past e s opening now before false x = before x

-- a port that is held is one of the range
pub holder-ranged :
    (o : Options) (log : List Entry) → IsRight o log →
    (a : IpAddr) (p s : ℕ) →
    holder o (past_of log) a p ≡ Some s →
    in_range o p ≡ true
holder-ranged o log r =
    right-past o (λ past. (a : IpAddr) (p s : ℕ) → holder o past a p ≡ Some s → in_range o p ≡ true) (λ a p s held. cc)
    (λ log e comes ih a p s held. by_grant (past_of log) e comes.fit a p s (gives_hold o (past_of log) e a p) refl held (ih a p s))
    log r
  where
    stayed : (b c : Bool) (h : Option ℕ) (s : ℕ) → cond b None (cond c None h) ≡ Some s → h ≡ Some s
    stayed false false h s x = x
    stayed false true h s x = cc
    stayed true c h s x = cc

    by_grant :
        (past : List Entry) (e : Entry) → e.decision ≡ due o past e.event.at e.event.kind e.answer →
        (a : IpAddr) (p s : ℕ) (b : Bool) → gives_hold o past e a p ≡ b →
        cond b (named_session e.event.kind)
        (cond (comes_to o e a p) None (cond (option_map_or (ends_hold e) (holder o past a p) false) None (holder o past a p))) ≡ Some s →
        (holder o past a p ≡ Some s → in_range o p ≡ true) →
        in_range o p ≡ true
    by_grant past e fit a p s true g h ih =
        let grants : Bool = is_number (granted_port e.decision) p in
        let comes_from : Bool = is_client past (named_session e.event.kind) a in
        let parts = and_parts grants comes_from (and_parts (not (is_legacy o.mode)) (grants && comes_from) g).1 in
        (granted-free o past e.event.at e.event.kind e.answer p (sym fit ∙ granted-is e.decision p parts.0)).ranged
    by_grant past e fit a p s false g h ih = ih (stayed (comes_to o e a p) (option_map_or (ends_hold e) (holder o past a p) false) (holder o past a p) s h)

-- a data connection to a key that is held goes to its holder, where both came from one raw address
pub arrival_row-held :
    (o : Options) (log : List Entry) →
    is_legacy o.mode ≡ false → IsRight o log →
    (raw : SocketAddr) (a : IpAddr) (p s : ℕ) (w : WaitsFor o (past_of log) s a p) →
    holder o (past_of log) a p ≡ Some s →
    arrival_row o (past_of log) raw a p ≡ cond (same_ip w.view.opening.raw.ip raw.ip) (decision.Attached s) decision.Turned
arrival_row-held o log m r raw a p s w held = rw (holder-ranged o log r a p s held, held, w.known) refl

-- one to a key that nobody holds is turned away
pub arrival_row-unheld :
    (o : Options) (past : List Entry) (raw : SocketAddr) (a : IpAddr) (p : ℕ) →
    holder o past a p ≡ None →
    arrival_row o past raw a p ≡ decision.Turned
arrival_row-unheld o past raw a p held = go (in_range o p)
  where
    go :
        (b : Bool) →
        cond (not b) decision.Turned (holder_row o past raw (holder o past a p)) ≡ decision.Turned
    go true = rw held refl
    go false = refl
