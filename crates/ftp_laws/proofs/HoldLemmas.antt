-- Who holds a port waits for a connection to it.
use Rattle.std.proofs.Common.{◌≡◌, refl, sym, ◌∙◌, ap, subst, ℕ, Bool, true, false, true≢false, not, ◌&&◌, cond, List, [], ◌∷◌, Option, Some, None, eqb-true, eq-eqb}
use Rattle.std.specs.Prelude.{unwrap_or}
use Rattle.std.specs.Bool.{then_some}
use Rattle.std.specs.Option.{option_map_or, option_and_then, option_or}
use Rattle.std.proofs.lemmas.Option.{same_Some}
use Rattle.std.proofs.lemmas.Bool.{and_parts, or_parts, or_right, cond-false}
use Rattle.ftp_base.specs.declared.net.IpAddr.TheVariants.{V4, V6}
use Rattle.ftp_events.specs.declared.decision.Decision.TheVariants as decision
use Rattle.ftp_events.specs.declared.decision.Life.TheVariants.{Ends}
use Rattle.ftp_events.specs.declared.decision.SlotMove.TheVariants.{Empties, EmptiesWaiting, Awaits, Connects, Expires, Links, Queues, Finishes}
use Rattle.ftp_events.specs.declared.session.Slot.TheVariants.{Empty, Waits, Linked}
use Rattle.ftp_events.specs.Slot.{waiting_port, is_waiting}
use Rattle.ftp_events.specs.Session.{told_of_life, queued_for, lane_in}
use Rattle.ftp_events.specs.Classes.{is_stop}
use Rattle.ftp_laws.proofs.Common.{Life, SlotMove, life, slot_move, gives_up, empties, moved, IpAddr, same_ip, Options, is_legacy, Running, Entry, EventKind, Answer, Decision, Opening, Pending, Session, Slot, is_number, named_session, new_number, is_used, past_of, opened_number, opening_by, opener, Target, target, granted_port, is_client, gives_hold, comes_to, ends_hold, gives_up_hold, holder, concerns, opens, Lane, lane_of, lane_after, lives_on, session, running_job, due, IsRight}
use Rattle.ftp_laws.proofs.SubjectLemmas.{concerns-plain, ends-plain, named-concerns}
use Rattle.ftp_laws.proofs.DecisionLemmas.{by_connection, is_connection, named-no_connection, expired-linked, opened-unused, IsLive}
use Rattle.ftp_laws.proofs.GrantLemmas.{granted-free}
use Rattle.ftp_laws.proofs.ClassLemmas.{ending-empties, expires-is, granted-is}
use Rattle.ftp_laws.proofs.QuestionLemmas.{session-own, session-other, session_by, session-told}
use Rattle.ftp_laws.proofs.EntryLemmas.{right-past}
use Rattle.ftp_laws.proofs.Cases.{by_test}

-- the number that opens a session is new
pub opened-new :
    (k : EventKind) (d : Decision) (s : ℕ) →
    is_number (opened_number k d) s ≡ true →
    is_number (new_number k d) s ≡ true
opened-new k decision.Opened s h = h
opened-new k _ s h = cc

-- a number that opened a session is used
pub opener-used :
    (past : List Entry) (s : ℕ) (opening : Opening) →
    opener past s ≡ Some opening → is_used past s ≡ true
opener-used [] s opening h = cc
opener-used (e ∷ past) s opening h = go (is_number (opened_number e.event.kind e.decision) s) refl h (λ h'. opener-used past s opening h')
  where
    go :
        (b : Bool) →
        is_number (opened_number e.event.kind e.decision) s ≡ b →
        unwrap_or (then_some b (opening_by e.event.kind e.answer)) (opener past s) ≡ Some opening →
        (opener past s ≡ Some opening → is_used past s ≡ true) →
        is_used (e ∷ past) s ≡ true
    go true eq h' ih = rw (opened-new e.event.kind e.decision s eq) refl
    go false eq h' ih = rw (ih h') (or_right _ true refl)

-- the moves that change which port a slot waits for
abbrev pub touches : SlotMove → Slot → Bool
touches (Awaits port) slot = true
touches Links slot = true
touches Expires slot = is_waiting slot
touches m slot = empties m slot

-- a job that starts takes no port
pub port-lane :
    (slot : Slot) (pending : Option Pending) (job : Option Running) →
    waiting_port (lane_of slot pending job).slot ≡ waiting_port slot
port-lane (Linked number) (Some p) None = refl
port-lane (Linked number) (Some p) (Some job) = refl
port-lane (Linked number) None job = refl
port-lane Empty pending job = refl
port-lane (Waits port) pending job = refl

-- a slot that does not wait is empty or has a link, and waits for no port
unwaiting : (slot : Slot) → is_waiting slot ≡ false → None ≡ waiting_port slot
unwaiting (Waits port) t = cc
unwaiting Empty t = refl
unwaiting (Linked number) t = refl

-- every other move leaves the port that the slot waits for
pub port-kept :
    (m : SlotMove) (number : Option ℕ) (queued : Option Pending) (l : Lane) →
    touches m l.slot ≡ false →
    waiting_port (moved m number queued l).slot ≡ waiting_port l.slot
port-kept (Awaits port) number queued l t = cc
port-kept Connects number queued l t = cc
port-kept Expires number queued l t = unwaiting l.slot t
port-kept Links number queued l t = cc
port-kept (Queues ticket) number queued l t = port-lane l.slot queued l.running
port-kept Finishes number queued l t = port-lane l.slot l.pending None
port-kept _ number queued l t = ap waiting_port (cond-false _ Empty l.slot t)

-- a move that neither gives the slot up nor is by a connection does not touch it, where none that waits expires
touch-free :
    (m : SlotMove) (slot : Slot) → gives_up m ≡ false →
    by_connection m ≡ false → (m ≡ Expires → is_waiting slot ≡ false) →
    touches m slot ≡ false
touch-free (Awaits port) slot g c x = cc
touch-free Connects slot g c x = cc
touch-free Empties slot g c x = cc
touch-free Links slot g c x = cc
touch-free EmptiesWaiting slot g c x = cc
touch-free Expires slot g c x = x refl
touch-free _ slot g c x = refl

-- where there is no legacy listener, an entry that names a live session and gives no slot up does not touch its slot
pub named-untouched :
    (o : Options) (past : List Entry) (e : Entry) (s : ℕ) (v : Session) →
    is_legacy o.mode ≡ false →
    e.decision ≡ due o past e.event.at e.event.kind e.answer →
    named_session e.event.kind ≡ Some s → session o past s ≡ Some v →
    gives_up_hold e.decision ≡ false →
    touches (slot_move e.decision) v.slot ≡ false
named-untouched o past e s v m fit n known g =
    touch-free (slot_move e.decision) v.slot g
    (subst (λ (d : Decision). is_connection d ≡ false) (sym fit) (named-no_connection o past e.event.at e.event.kind e.answer s m n))
    (λ x. expired-linked o past e.event.at e.event.kind e.answer s v m n known (sym fit ∙ expires-is e.decision x))

-- a decision that does not give the slot up lets the session live
pub lives-kept : (d : Decision) → gives_up_hold d ≡ false → lives_on d ≡ true
lives-kept d g = go (life d) refl
  where
    go : (l : Life) → life d ≡ l → unwrap_or (told_of_life l) true ≡ true
    go Ends x = absurd (true≢false (sym (ap gives_up (ending-empties d x)) ∙ g))
    go _ x = refl

-- addresses that are the same are equal
pub same_ip-equal : (a b : IpAddr) → same_ip a b ≡ true → a ≡ b
same_ip-equal (V4 a) (V4 b) h = ap V4 (eqb-true a b h)
same_ip-equal (V6 a) (V6 b) h = ap V6 (eqb-true a b h)
same_ip-equal (V4 a) (V6 b) h = cc
same_ip-equal (V6 a) (V4 b) h = cc

-- an address is the same as itself
pub same_ip-refl : (a : IpAddr) → same_ip a a ≡ true
same_ip-refl (V4 a) = eq-eqb a a refl
same_ip-refl (V6 a) = eq-eqb a a refl

-- session s is live, its client is a, and its slot waits for port p
pub record WaitsFor (o : Options) (past : List Entry) (s : ℕ) (a : IpAddr) (p : ℕ) : Type 0 where
  pub view : Session
  pub known : session o past s ≡ Some view
  pub client : same_ip view.opening.client a ≡ true
  pub port : waiting_port view.slot ≡ Some p

-- the number of a live session is used
pub live-used :
    (o : Options) (past : List Entry) (s : ℕ) (v : Session) →
    session o past s ≡ Some v → is_used past s ≡ true
live-used o past s v known = opener-used past s v.opening (session-told o past s v known).opening

-- a number that is there is this one
pub number-is : (n : Option ℕ) (m : ℕ) → is_number n m ≡ true → n ≡ Some m
number-is None m h = cc
number-is (Some k) m h = ap Some (eqb-true k m h)

-- the waiting session still waits after an entry that concerns it and changes neither its slot nor its life
pub waits-own :
    (o : Options) (past : List Entry) (e : Entry) (s : ℕ) (a : IpAddr) (p : ℕ) (w : WaitsFor o past s a p) →
    opens e s ≡ false → concerns o past e s ≡ true →
    touches (slot_move e.decision) w.view.slot ≡ false →
    lives_on e.decision ≡ true → WaitsFor o (e ∷ past) s a p
waits-own o past e s a p w n c t l =
    let after = session-own o past e s w.view w.known n c in
    record {
      view = session_by s e (running_job o past s) w.view;
      known = after ∙ rw l refl;
      client = w.client;
      port = port-kept (slot_move e.decision) (new_number e.event.kind e.decision) (queued_for e.decision e.event.kind w.view) (lane_in w.view (running_job o past s)) t ∙ w.port;
    }

-- it waits too after an entry that does not concern it
pub waits-other :
    (o : Options) (past : List Entry) (e : Entry) (s : ℕ) (a : IpAddr) (p : ℕ) (w : WaitsFor o past s a p) →
    opens e s ≡ false → concerns o past e s ≡ false →
    WaitsFor o (e ∷ past) s a p
waits-other o past e s a p w n c =
    record { view = w.view; known = session-other o past e s n c ∙ w.known; client = w.client; port = w.port }

-- a number that is not the first of two is the second
pub or-number :
    (a b : Option ℕ) (s : ℕ) →
    is_number (option_or a b) s ≡ true →
    is_number a s ≡ false → is_number b s ≡ true
or-number None b s h n = h
or-number (Some x) b s h n = absurd (true≢false (sym h ∙ n))

-- of a conjunction that fails the second part fails where the first holds
pub and-false : (a b : Bool) → (a && b) ≡ false → a ≡ true → b ≡ false
and-false true b h t = h
and-false false b h t = absurd (true≢false (sym t))

-- an entry opens only a number that was not used
pub opened-fresh :
    (o : Options) (past : List Entry) (e : Entry) (s : ℕ) →
    e.decision ≡ due o past e.event.at e.event.kind e.answer → opens e s ≡ true →
    is_used past s ≡ false
opened-fresh o past e s fit n =
    opened-unused o past e.event.at e.event.kind e.answer s (subst (λ (d : Decision). opened_number e.event.kind d ≡ Some s) fit (number-is _ s n))

-- a session that is live is not opened again
pub live-unopened :
    (o : Options) (past : List Entry) (e : Entry) (s : ℕ) (v : Session) →
    e.decision ≡ due o past e.event.at e.event.kind e.answer →
    session o past s ≡ Some v →
    is_number (opened_number e.event.kind e.decision) s ≡ false
live-unopened o past e s v fit known = go (is_number (opened_number e.event.kind e.decision) s) refl
  where
    go : (b : Bool) → is_number (opened_number e.event.kind e.decision) s ≡ b → b ≡ false
    go false eq = refl
    go true eq =
        let opens : opened_number e.event.kind (due o past e.event.at e.event.kind e.answer) ≡ Some s = subst (λ (d : Decision). opened_number e.event.kind d ≡ Some s) fit (number-is _ s eq) in
        let unused : is_used past s ≡ false = opened-unused o past e.event.at e.event.kind e.answer s opens in
        sym (live-used o past s v known) ∙ unused

-- the target of a data connection and its holder
pub record ComesFor (o : Options) (past : List Entry) (k : EventKind) (answer : Answer) (s : ℕ) : Type 0 where
  pub to : Target
  pub target_is : target o k answer ≡ Some to
  pub held : holder o past to.client to.port ≡ Some s

-- who is the holder of a target, holds it
pub comes-for :
    (o : Options) (past : List Entry) (k : EventKind) (answer : Answer) (s : ℕ) (t : Option Target) →
    target o k answer ≡ t →
    is_number (option_and_then (λ t. holder o past t.client t.port) t) s ≡ true →
    ComesFor o past k answer s
comes-for o past k answer s None e h = absurd (true≢false (sym h))
comes-for o past k answer s (Some t) e h = record { to = t; target_is = e; held = number-is _ s h }

-- a connection for a session's key comes to the port that it waits for
pub comes-to-port :
    (o : Options) (past : List Entry) (e : Entry) (s : ℕ) (a : IpAddr) (p : ℕ) (w : WaitsFor o past s a p) (t : Target) →
    target o e.event.kind e.answer ≡ Some t →
    WaitsFor o past s t.client t.port →
    comes_to o e a p ≡ true
comes-to-port o past e s a p w t e' w' =
    let same : w.view ≡ w'.view = same_Some _ _ (sym w.known ∙ w'.known) in
    let client : t.client ≡ a = sym (same_ip-equal _ _ w'.client) ∙ (ap (λ (v : Session). v.opening.client) (sym same) ∙ same_ip-equal _ _ w.client) in
    let port : t.port ≡ p = same_Some _ _ (sym w'.port ∙ (ap (λ (v : Session). waiting_port v.slot) (sym same) ∙ w.port)) in
    rw (e', client, port, same_ip-refl a, eq-eqb p p refl) refl

-- the holder goes on waiting
pub holder-stays :
    (o : Options) (past : List Entry) (e : Entry) (s : ℕ) (a : IpAddr) (p : ℕ) →
    is_legacy o.mode ≡ false →
    e.decision ≡ due o past e.event.at e.event.kind e.answer →
    ((b : IpAddr) (q : ℕ) → holder o past b q ≡ Some s → WaitsFor o past s b q) →
    (w : WaitsFor o past s a p) → comes_to o e a p ≡ false →
    ends_hold e s ≡ false → WaitsFor o (e ∷ past) s a p
holder-stays o past e s a p m fit ih w c ends =
    by_test (concerns o past e s)
    (λ h.
    by_test (is_number (named_session e.event.kind) s)
    (λ n.
    let gives : gives_up_hold e.decision ≡ false = and-false _ _ (sym (ends-plain e s plain_ends) ∙ ends) n in
    let names : named_session e.event.kind ≡ Some s = number-is _ s n in
    waits-own o past e s a p w unopened h (named-untouched o past e s w.view m fit names w.known gives) (lives-kept e.decision gives))
    (λ n.
    let comes = comes-for o past e.event.kind e.answer s (target o e.event.kind e.answer) refl (or-number _ _ s (sym (concerns-plain o past e s plain_ends) ∙ h) n) in
    absurd (true≢false (sym (comes-to-port o past e s a p w comes.to comes.target_is (ih comes.to.client comes.to.port comes.held)) ∙ c))))
    (λ h. waits-other o past e s a p w unopened h)
  where
    plain_ends : is_stop e.decision ≡ false
    plain_ends = (or_parts (is_stop e.decision) (is_number (named_session e.event.kind) s && gives_up_hold e.decision) ends).0

    unopened : is_number (opened_number e.event.kind e.decision) s ≡ false
    unopened = live-unopened o past e s w.view fit w.known

-- a number is itself
pub names-itself : (n : Option ℕ) (s : ℕ) → n ≡ Some s → is_number n s ≡ true
names-itself n s e = rw e (eq-eqb s s refl)

-- after a grant the slot waits for the port
pub port-granted :
    (k : EventKind) (d : Decision) (queued : Option Pending) (l : Lane) (p : ℕ) →
    d ≡ decision.Granted p →
    waiting_port (lane_after k d queued l).slot ≡ Some p
port-granted k d queued l p e = rw e refl

-- the session that is granted a port waits for it
pub grant-waits :
    (o : Options) (past : List Entry) (e : Entry) (s : ℕ) (a : IpAddr) (p : ℕ) →
    e.decision ≡ due o past e.event.at e.event.kind e.answer →
    gives_hold o past e a p ≡ true →
    named_session e.event.kind ≡ Some s →
    WaitsFor o (e ∷ past) s a p
grant-waits o past e s a p fit gives names =
    let grants : Bool = is_number (granted_port e.decision) p in
    let comes_from : Bool = is_client past (named_session e.event.kind) a in
    let parts : (grants ≡ true) × (comes_from ≡ true) = and_parts grants comes_from (and_parts (not (is_legacy o.mode)) (grants && comes_from) gives).1 in
    let grant : e.decision ≡ decision.Granted p = granted-is e.decision p parts.0 in
    let alive : IsLive o past e.event.kind = (granted-free o past e.event.at e.event.kind e.answer p (sym fit ∙ grant)).alive in
    let number : alive.number ≡ s = same_Some _ _ (sym alive.named ∙ names) in
    let v : Session = alive.session_then in
    let known : session o past s ≡ Some v = subst (λ (n : ℕ). session o past n ≡ Some v) number alive.known in
    let client : same_ip v.opening.client a ≡ true =
    subst (λ (x : Option Opening). option_map_or (λ opening. same_ip opening.client a) x false ≡ true) (session-told o past s v known).opening
    (subst (λ (n : Option ℕ). option_map_or (λ opening. same_ip opening.client a) (option_and_then (opener past) n) false ≡ true) names parts.1) in
    let unopened : is_number (opened_number e.event.kind e.decision) s ≡ false = rw grant refl in
    let about : concerns o past e s ≡ true = named-concerns o past e s names in
    let lives : lives_on e.decision ≡ true = rw grant refl in
    record {
      view = session_by s e (running_job o past s) v;
      known = session-own o past e s v known unopened about ∙ rw lives refl;
      client = client;
      port = port-granted e.event.kind e.decision (queued_for e.decision e.event.kind v) (lane_in v (running_job o past s)) p grant;
    }

-- after an entry that is decided as it has to be, whoever holds a port waits for it
pub holder-waits-step :
    (o : Options) (past : List Entry) (e : Entry) →
    is_legacy o.mode ≡ false →
    e.decision ≡ due o past e.event.at e.event.kind e.answer →
    ((b : IpAddr) (q s : ℕ) → holder o past b q ≡ Some s → WaitsFor o past s b q) →
    (a : IpAddr) (p s : ℕ) →
    holder o (e ∷ past) a p ≡ Some s →
    WaitsFor o (e ∷ past) s a p
holder-waits-step o past e m fit ih a p s held = by_grant (gives_hold o past e a p) refl held
  where
    by_end :
        (b : Bool) →
        option_map_or (ends_hold e) (holder o past a p) false ≡ b →
        cond b None (holder o past a p) ≡ Some s →
        comes_to o e a p ≡ false →
        WaitsFor o (e ∷ past) s a p
    by_end true x h c = cc
    by_end false x h c =
        let ends : ends_hold e s ≡ false = subst (λ (n : Option ℕ). option_map_or (ends_hold e) n false ≡ false) h x in
        holder-stays o past e s a p m fit (λ b q held'. ih b q s held') (ih a p s h) c ends

    by_arrival :
        (b : Bool) → comes_to o e a p ≡ b →
        cond b None (cond (option_map_or (ends_hold e) (holder o past a p) false) None (holder o past a p)) ≡ Some s →
        WaitsFor o (e ∷ past) s a p
    by_arrival true c h = cc
    by_arrival false c h = by_end (option_map_or (ends_hold e) (holder o past a p) false) refl h c

    by_grant :
        (b : Bool) → gives_hold o past e a p ≡ b →
        cond b (named_session e.event.kind) (cond (comes_to o e a p) None (cond (option_map_or (ends_hold e) (holder o past a p) false) None (holder o past a p))) ≡ Some s →
        WaitsFor o (e ∷ past) s a p
    by_grant true g h = grant-waits o past e s a p fit g h
    by_grant false g h = by_arrival (comes_to o e a p) refl h

-- where there is no legacy listener, in every right log, whoever holds a port for a client is a live session of that client whose slot waits for that port
pub holder-waits :
    (o : Options) (log : List Entry) →
    is_legacy o.mode ≡ false → IsRight o log →
    (a : IpAddr) (p s : ℕ) →
    holder o (past_of log) a p ≡ Some s →
    WaitsFor o (past_of log) s a p
holder-waits o log m r =
    right-past o (λ past. (a : IpAddr) (p s : ℕ) → holder o past a p ≡ Some s → WaitsFor o past s a p) (λ a p s held. cc)
    (λ log e comes ih a p s held. holder-waits-step o (past_of log) e m comes.fit ih a p s held) log r
