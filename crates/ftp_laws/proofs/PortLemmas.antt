-- Whoever waits for a port holds it, and when a hold ends.
use Rattle.std.proofs.Common.{◌≡◌, refl, sym, ◌∙◌, ap, subst, ℕ, Bool, true, false, true≢false, not, ◌&&◌, cond, List, [], ◌∷◌, Option, Some, None, arith, eqb-true, eq-eqb, inl, inr}
use Rattle.std.specs.Prelude.{◌≢◌, ◌==◌, unwrap_or}
use Rattle.std.specs.Option.{option_map_or, option_or}
use Rattle.std.proofs.lemmas.Option.{same_Some}
use Rattle.std.proofs.lemmas.Bool.{and_parts, or_parts}
use Rattle.ftp_events.specs.declared.event.EventKind.TheVariants as kind
use Rattle.ftp_events.specs.declared.decision.Decision.TheVariants as decision
use Rattle.ftp_events.specs.declared.decision.Life.TheVariants.{Opens, Ends}
use Rattle.ftp_events.specs.declared.decision.SlotMove.TheVariants.{Awaits, Connects}
use Rattle.ftp_events.specs.declared.session.Slot.TheVariants.{Empty, Waits, Linked}
use Rattle.ftp_events.specs.Slot.{waiting_port}
use Rattle.ftp_events.specs.Session.{life_by, told_of_life, session_by_history, is_live, next_lane, queued_for, lane_in}
use Rattle.ftp_events.specs.History.{Nobody, one_or_nobody}
use Rattle.ftp_events.specs.Classes.{is_stop}
use Rattle.ftp_laws.proofs.Common.{meant, holder_of_target, Life, SlotMove, life, slot_move, gives_up, moved, new_number, IpAddr, same_ip, Options, is_legacy, Running, Entry, EventKind, Answer, Decision, Pending, Session, Slot, is_number, named_session, is_refusal, past_of, opened_number, opener, Target, target, granted_port, is_client, gives_hold, comes_to, ends_hold, gives_up_hold, holder, subject, concerns, opens, history, Lane, with_link, lane_after, queued_in, lives_on, session, running_job, due, IsRight}
use Rattle.ftp_laws.proofs.SubjectLemmas.{nobody-concerns, subject-plain, concerns-plain, ends-plain, named-concerns, meant-concerns}
use Rattle.ftp_laws.proofs.ClassLemmas.{awaits-is, opens-is, granted-is, opened-is}
use Rattle.ftp_laws.proofs.StopLemmas.{named-plain, lives-plain}
use Rattle.ftp_laws.proofs.GrantLemmas.{IsGrant, granted-free}
use Rattle.ftp_laws.proofs.QuestionLemmas.{session-own, session-other, session_by, IsTold, session-told}
use Rattle.ftp_laws.proofs.HoldLemmas.{port-lane, port-kept, named-untouched, number-is, or-number, same_ip-equal, WaitsFor, comes-for}
use Rattle.ftp_laws.proofs.ServiceLemmas.{Arrives, counted-arrives, connection-goes, AttachedOrTurned}
use Rattle.ftp_laws.proofs.EntryLemmas.{right-past}
use Rattle.ftp_laws.proofs.Cases.{by_part}

-- an event that opens a session is meant for nobody
opened-meant :
    (o : Options) (past : List Entry) (at : ℕ) (k : EventKind) (answer : Answer) →
    due o past at k answer ≡ decision.Opened →
    option_or (named_session k) (holder_of_target o past k answer) ≡ None
opened-meant o past at (kind.Connect s raw local trace) answer e = refl
opened-meant o past at k answer e = grind arith

-- so its entry is about nobody
pub opened-subject :
    (o : Options) (past : List Entry) (e : Entry) →
    e.decision ≡ decision.Opened →
    due o past e.event.at e.event.kind e.answer ≡ decision.Opened →
    subject o past e ≡ Nobody
opened-subject o past e d h =
    subject-plain o past e (ap is_stop d) ∙ ap one_or_nobody (opened-meant o past e.event.at e.event.kind e.answer h)

-- so is the entry that opens session s
pub opened-nobody :
    (o : Options) (past : List Entry) (e : Entry) (s : ℕ) →
    e.decision ≡ due o past e.event.at e.event.kind e.answer → opens e s ≡ true →
    subject o past e ≡ Nobody
opened-nobody o past e s fit n =
    let d : e.decision ≡ decision.Opened = opened-is e.event.kind e.decision s n in
    opened-subject o past e d (sym fit ∙ d)

-- no event that names a session is a data connection
pub target-unnamed :
    (o : Options) (k : EventKind) (answer : Answer) (t : Target) →
    target o k answer ≡ Some t → named_session k ≡ None
target-unnamed o (kind.DataIn number raw port) answer t e = refl
target-unnamed o k answer t e = cc

-- so what names a session has no target
pub named-target :
    (o : Options) (k : EventKind) (answer : Answer) (s : ℕ) →
    named_session k ≡ Some s → target o k answer ≡ None
named-target o k answer s n = go (target o k answer) refl
  where
    go : (t : Option Target) → target o k answer ≡ t → t ≡ None
    go None x = refl
    go (Some t) x = let c : None ≡ Some s = sym (target-unnamed o k answer t x) ∙ n in cc

-- the client of a live session is that of its opening
pub client-known :
    (o : Options) (past : List Entry) (s : ℕ) (v : Session) (a : IpAddr) →
    session o past s ≡ Some v →
    is_client past (Some s) a ≡ same_ip v.opening.client a
client-known o past s v a known = rw (session-told o past s v known).opening refl

-- a port that is held for a client is not granted to it
pub held-ungranted :
    (o : Options) (past : List Entry) (e : Entry) (a : IpAddr) (p s : ℕ) →
    e.decision ≡ due o past e.event.at e.event.kind e.answer →
    holder o past a p ≡ Some s →
    gives_hold o past e a p ≡ false
held-ungranted o past e a p s fit held = go (gives_hold o past e a p) refl
  where
    go : (b : Bool) → gives_hold o past e a p ≡ b → b ≡ false
    go false x = refl
    go true x =
        let parts = and_parts (is_number (granted_port e.decision) p) (is_client past (named_session e.event.kind) a) (and_parts (not (is_legacy o.mode)) (is_number (granted_port e.decision) p && is_client past (named_session e.event.kind) a) x).1 in
        let grant : IsGrant o past e.event.kind p = granted-free o past e.event.at e.event.kind e.answer p (sym fit ∙ granted-is e.decision p parts.0) in
        let client : is_client past (Some grant.alive.number) a ≡ true = subst (λ (n : Option ℕ). is_client past n a ≡ true) grant.alive.named parts.1 in
        let same : grant.alive.session_then.opening.client ≡ a = same_ip-equal _ _ (sym (client-known o past grant.alive.number grant.alive.session_then a grant.alive.known) ∙ client) in
        let free : holder o past a p ≡ None = subst (λ (b : IpAddr). holder o past b p ≡ None) same grant.free in
        let c : None ≡ Some s = sym free ∙ held in
        cc

-- a hold that nothing ends stays
pub holder-stays-held :
    (o : Options) (past : List Entry) (e : Entry) (a : IpAddr) (p s : ℕ) →
    holder o past a p ≡ Some s →
    gives_hold o past e a p ≡ false →
    comes_to o e a p ≡ false → ends_hold e s ≡ false →
    holder o (e ∷ past) a p ≡ Some s
holder-stays-held o past e a p s held g c x = rw (g, c, held, x) refl

-- what an entry says of a live session after it
pub record IsAfter (o : Options) (past : List Entry) (e : Entry) (s : ℕ) (v : Session) : Type 0 where
  pub before : Session
  pub known : session o past s ≡ Some before
  pub after : session_by s e (running_job o past s) before ≡ v
  pub lives : lives_on e.decision ≡ true

-- only an opening gives life
pub life-given :
    (d : Decision) (b : Bool) → d ≢ decision.Opened →
    unwrap_or (life_by d) b ≡ true → b ≡ true
life-given d b n h = go (life d) refl h
  where
    go : (l : Life) → life d ≡ l → unwrap_or (told_of_life l) b ≡ true → b ≡ true
    go Opens x y = absurd (n (opens-is d x))
    go Ends x y = cc
    go _ x y = y

-- a session that is live after an entry about it was live before
pub session-before :
    (o : Options) (past : List Entry) (e : Entry) (s : ℕ) (v : Session) →
    e.decision ≡ due o past e.event.at e.event.kind e.answer →
    opens e s ≡ false → concerns o past e s ≡ true →
    session o (e ∷ past) s ≡ Some v → IsAfter o past e s v
session-before o past e s v fit n c known =
    let h = history o past s in
    let t : IsTold s (history o (e ∷ past) s) (opener (e ∷ past) s) v = session-told o (e ∷ past) s v known in
    let alive : unwrap_or (life_by e.decision) (is_live h) ≡ true = subst (λ (l : List Entry). is_live l ≡ true) longer t.alive in
    let lived : is_live h ≡ true = life-given e.decision (is_live h) unopened alive in
    let opening : opener past s ≡ Some v.opening = sym opener_kept ∙ t.opening in
    let before : session o past s ≡ Some (session_by_history s h v.opening) = rw (lived, opening) refl in
    go (session_by_history s h v.opening) before (lives_on e.decision) refl (sym (session-own o past e s (session_by_history s h v.opening) before n c) ∙ known)
  where
    longer : history o (e ∷ past) s ≡ e ∷ history o past s
    longer = rw (n, c) refl

    opener_kept : opener (e ∷ past) s ≡ opener past s
    opener_kept = rw n refl

    unopened : e.decision ≢ decision.Opened
    unopened x =
        let none : subject o past e ≡ Nobody = opened-subject o past e x (sym fit ∙ x) in
        true≢false (sym c ∙ nobody-concerns o past e s none)

    go :
        (w : Session) → session o past s ≡ Some w →
        (b : Bool) → lives_on e.decision ≡ b →
        cond b (Some (session_by s e (running_job o past s) w)) None ≡ Some v →
        IsAfter o past e s v
    go w k true l h = record { before = w; known = k; after = same_Some _ _ h; lives = l }
    go w k false l h = cc

-- what holds of each session that opens, and still does after each entry about it, holds of the live sessions of every right log
pub each-session :
    (o : Options) (P : Session → Type 0) →
    ((past : List Entry) (e : Entry) (s : ℕ) (v : Session) → opens e s ≡ true → session o (e ∷ past) s ≡ Some v → P v) →
    ((past : List Entry) (e : Entry) (s : ℕ) (v : Session) → e.decision ≡ due o past e.event.at e.event.kind e.answer →
    concerns o past e s ≡ true → session o past s ≡ Some v → P v → P (session_by s e (running_job o past s) v)) →
    (log : List Entry) → IsRight o log → (s : ℕ) (v : Session) → session o (past_of log) s ≡ Some v → P v
each-session o P opened own log r =
    right-past o (λ past. (s : ℕ) (v : Session) → session o past s ≡ Some v → P v) (λ s v known. let z : None ≡ Some v = known in cc)
    (λ log e comes ih s v known.
    let past : List Entry = past_of log in
    by_part o past e s
    (λ n. opened past e s v n known)
    (λ n c.
    let after = session-before o past e s v comes.fit n c known in
    subst P after.after (own past e s after.before comes.fit c after.known (ih s after.before after.known)))
    (λ n c. ih s v (sym (session-other o past e s n c) ∙ known))) log r

-- a slot that was given a link waits for nothing
pub port-linked : (slot : Slot) (n : ℕ) → waiting_port (with_link slot (Some n)) ≡ None
port-linked Empty n = refl
port-linked (Waits port) n = refl
port-linked (Linked m) n = refl

-- nor does one whose connection was turned away
pub port-turned :
    (k : EventKind) (queued : Option Pending) (slot : Slot) (pending : Option Pending) (job : Option Running) →
    waiting_port (lane_after k decision.Turned queued (record { slot = slot; pending = pending; running = job })).slot ≡ None
port-turned k queued Empty pending job = refl
port-turned k queued (Waits port) pending job = refl
port-turned k queued (Linked m) pending job = refl

-- after a data connection for it a slot waits for nothing
pub port-arrived :
    (o : Options) (past : List Entry) (at : ℕ) (k : EventKind) (answer : Answer) (d : Decision) (t : Target) (queued : Option Pending) (l : Lane) →
    d ≡ due o past at k answer → is_refusal d ≡ false →
    target o k answer ≡ Some t →
    waiting_port (lane_after k d queued l).slot ≡ None
port-arrived o past at k answer d t queued l fit c w = go (connection-goes o past at k answer d t fit c w)
  where
    arrives : Arrives o past k d t
    arrives = counted-arrives o past at k answer d t fit c w

    go :
        AttachedOrTurned o past d t.client t.port →
        waiting_port (lane_after k d queued l).slot ≡ None
    go (inl x) = rw (x.1, arrives.new (decision.Attached x.0)) (port-lane (with_link l.slot (Some arrives.number)) l.pending l.running ∙ port-linked l.slot arrives.number)
    go (inr x) = rw x (port-turned k queued l.slot l.pending l.running)

-- an opening leaves an empty slot
pub port-opened :
    (k : EventKind) (d : Decision) (queued pending : Option Pending) (job : Option Running) (s : ℕ) →
    is_number (opened_number k d) s ≡ true →
    waiting_port (lane_after k d queued (record { slot = Empty; pending = pending; running = job })).slot ≡ None
port-opened k decision.Opened queued pending job s h = refl
port-opened k _ queued pending job s h = cc

-- nor does one that has the link of a PORT
port-made : (number : Option ℕ) → waiting_port (option_map_or Linked number Empty) ≡ None
port-made None = refl
port-made (Some n) = refl

-- a waiting slot after a move that gives up holds waits for another port
pub port-given-up :
    (m : SlotMove) (number : Option ℕ) (queued : Option Pending) (l : Lane) (p : ℕ) →
    gives_up m ≡ true →
    waiting_port (moved m number queued l).slot ≡ Some p →
    m ≡ Awaits p
port-given-up (Awaits port) number queued l p g h = ap Awaits (same_Some _ _ h)
port-given-up Connects number queued l p g h = let z : None ≡ Some p = sym (port-made number) ∙ h in cc
port-given-up m number queued l p g h = cc

-- after an entry that is decided as it has to be, whoever waits for a port holds it
pub waits-holds-step :
    (o : Options) (past : List Entry) (e : Entry) →
    is_legacy o.mode ≡ false →
    e.decision ≡ due o past e.event.at e.event.kind e.answer →
    is_refusal e.decision ≡ false →
    ((b : IpAddr) (q s : ℕ) → WaitsFor o past s b q → holder o past b q ≡ Some s) →
    (a : IpAddr) (p s : ℕ) → WaitsFor o (e ∷ past) s a p →
    holder o (e ∷ past) a p ≡ Some s
waits-holds-step o past e m fit counts ih a p s w = by_part o past e s opened own other
  where
    k : EventKind
    k = e.event.kind

    unmoved :
        concerns o past e s ≡ false →
        holder o past a p ≡ Some s → (b : Bool) →
        comes_to o e a p ≡ b → (c : Bool) →
        ends_hold e s ≡ c → holder o (e ∷ past) a p ≡ Some s
    unmoved c held false x false y = holder-stays-held o past e a p s held (held-ungranted o past e a p s fit held) x y
    unmoved c held false x true y =
        let plain : is_stop e.decision ≡ false = (or_parts (is_stop e.decision) (is_number (meant o past e) s) c).0 in
        let named = number-is _ s (and_parts (is_number (named_session e.event.kind) s) (gives_up_hold e.decision) (sym (ends-plain e s plain) ∙ y)).0 in
        let about : concerns o past e s ≡ true = named-concerns o past e s named in
        absurd (true≢false (sym about ∙ c))
    unmoved c held true x y z = by_target (target o e.event.kind e.answer) refl x
      where
        by_target :
            (t : Option Target) →
            target o e.event.kind e.answer ≡ t →
            option_map_or (λ t. same_ip t.client a && (t.port == p)) t false ≡ true →
            holder o (e ∷ past) a p ≡ Some s
        by_target None i j = cc
        by_target (Some t) i j =
            let parts = and_parts (same_ip t.client a) (t.port == p) j in
            let client : t.client ≡ a = same_ip-equal _ _ parts.0 in
            let port : t.port ≡ p = eqb-true _ _ parts.1 in
            let about : concerns o past e s ≡ true = meant-concerns o past e s (rw (target-unnamed o e.event.kind e.answer t i, i, client, port) held) in
            absurd (true≢false (sym about ∙ c))

    by_change :
        (v : Session) → session o past s ≡ Some v →
        named_session e.event.kind ≡ Some s →
        same_ip v.opening.client a ≡ true →
        waiting_port (next_lane e.event.kind e.decision (running_job o past s) v).slot ≡ Some p →
        (b : Bool) → gives_up_hold e.decision ≡ b →
        holder o (e ∷ past) a p ≡ Some s
    by_change v known n client port true g =
        let grant : e.decision ≡ decision.Granted p = awaits-is e.decision p (port-given-up (slot_move e.decision) (new_number e.event.kind e.decision) (queued_for e.decision e.event.kind v) (lane_in v (running_job o past s)) p g port) in
        rw (m, grant, n, (session-told o past s v known).opening, client, eq-eqb p p refl) refl
    by_change v known n client port false g =
        let kept : waiting_port (next_lane e.event.kind e.decision (running_job o past s) v).slot ≡ waiting_port v.slot = port-kept (slot_move e.decision) (new_number e.event.kind e.decision) (queued_for e.decision e.event.kind v) (lane_in v (running_job o past s)) (named-untouched o past e s v m fit n known g) in
        let held : holder o past a p ≡ Some s = ih a p s (record { view = v; known = known; client = client; port = sym kept ∙ port }) in
        holder-stays-held o past e a p s held (held-ungranted o past e a p s fit held) (rw (named-target o e.event.kind e.answer s n) refl) (ends-plain e s (named-plain o past e s fit n) ∙ rw (n, g, eq-eqb s s refl) refl)

    by_name :
        (v : Session) → session o past s ≡ Some v →
        is_stop e.decision ≡ false → concerns o past e s ≡ true →
        same_ip v.opening.client a ≡ true →
        waiting_port (next_lane e.event.kind e.decision (running_job o past s) v).slot ≡ Some p →
        (b : Bool) →
        is_number (named_session e.event.kind) s ≡ b →
        holder o (e ∷ past) a p ≡ Some s
    by_name v known plain c client port true n = by_change v known (number-is _ s n) client port (gives_up_hold e.decision) refl
    by_name v known plain c client port false n =
        let comes = comes-for o past e.event.kind e.answer s (target o e.event.kind e.answer) refl (or-number _ _ s (sym (concerns-plain o past e s plain) ∙ c) n) in
        let none = port-arrived o past e.event.at e.event.kind e.answer e.decision comes.to (queued_for e.decision e.event.kind v) (lane_in v (running_job o past s)) fit counts comes.target_is in
        let z : None ≡ Some p = sym none ∙ port in
        cc

    other : opens e s ≡ false → concerns o past e s ≡ false → holder o (e ∷ past) a p ≡ Some s
    other n c =
        let before : WaitsFor o past s a p = record { view = w.view; known = sym (session-other o past e s n c) ∙ w.known; client = w.client; port = w.port } in
        unmoved c (ih a p s before) (comes_to o e a p) refl (ends_hold e s) refl

    own : opens e s ≡ false → concerns o past e s ≡ true → holder o (e ∷ past) a p ≡ Some s
    own n c =
        let x : IsAfter o past e s w.view = session-before o past e s w.view fit n c w.known in
        let client : same_ip x.before.opening.client a ≡ true = subst (λ (v : Session). same_ip v.opening.client a ≡ true) (sym x.after) w.client in
        let port : waiting_port (next_lane e.event.kind e.decision (running_job o past s) x.before).slot ≡ Some p = subst (λ (v : Session). waiting_port v.slot ≡ Some p) (sym x.after) w.port in
        by_name x.before x.known (lives-plain e.decision x.lives) c client port (is_number (named_session e.event.kind) s) refl

    opened : opens e s ≡ true → holder o (e ∷ past) a p ≡ Some s
    opened n =
        let t : IsTold s (history o (e ∷ past) s) (opener (e ∷ past) s) w.view = session-told o (e ∷ past) s w.view w.known in
        let start : history o (e ∷ past) s ≡ e ∷ [] = rw n refl in
        let told : session_by_history s (e ∷ []) w.view.opening ≡ w.view = subst (λ (h : List Entry). session_by_history s h w.view.opening ≡ w.view) start t.told in
        let z : None ≡ Some p = sym (port-opened e.event.kind e.decision (queued_in [] e) None None s n) ∙ (ap (λ (v : Session). waiting_port v.slot) told ∙ w.port) in
        cc

-- where there is no legacy listener, in every right log a live session holds the port that its slot waits for, for its client
pub waits-holds :
    (o : Options) (log : List Entry) →
    is_legacy o.mode ≡ false → IsRight o log →
    (a : IpAddr) (p s : ℕ) →
    WaitsFor o (past_of log) s a p →
    holder o (past_of log) a p ≡ Some s
waits-holds o log m r =
    right-past o (λ past. (a : IpAddr) (p s : ℕ) → WaitsFor o past s a p → holder o past a p ≡ Some s)
    (λ a p s w. let z : None ≡ Some w.view = w.known in cc)
    (λ log e comes ih a p s w. waits-holds-step o (past_of log) e m comes.fit comes.counts ih a p s w) log r
