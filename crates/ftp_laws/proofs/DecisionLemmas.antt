-- What a decision tells of the past.
use Rattle.std.proofs.Common.{◌≡◌, refl, sym, ◌∙◌, ap, subst, ℕ, ◌-◌, Bool, true, false, not, ◌&&◌, ◌||◌, cond, List, Option, Some, None, arith, eq-eqb}
use Rattle.std.specs.Prelude.{◌≢◌, nat_le}
use Rattle.std.specs.Option.{option_map_or}
use Rattle.std.proofs.lemmas.Bool.{and_parts, not-false}
use Rattle.std.proofs.lemmas.Option.{same_Some}
use Rattle.ftp_base.specs.declared.net.SocketAddr.{SocketAddr}
use Rattle.ftp_base.specs.Net.{same_ip, is_v6}
use Rattle.ftp_options.specs.Modes.{is_pooled, is_proxy, is_active_off}
use Rattle.ftp_events.specs.declared.decision.Decision.TheVariants as decision
use Rattle.ftp_events.specs.declared.event.EventKind.TheVariants as kind
use Rattle.ftp_events.specs.declared.decision.SlotMove.TheVariants.{Links, EmptiesWaiting}
use Rattle.ftp_events.specs.declared.session.Slot.TheVariants.{Empty, Waits, Linked}
use Rattle.ftp_events.specs.ConnectionRows.{arrival_row, header_row}
use Rattle.ftp_events.specs.CommandRows.{is_logged_in, if_logged_in, port_row, address_row, made_row, accepted_row, slot_limit, slot_row}
use Rattle.ftp_events.specs.Decide.{if_live}
use Rattle.ftp_events.specs.Slot.{is_waiting}
use Rattle.ftp_events.specs.Log.{is_stopped}
use Rattle.ftp_events.specs.Text.{port_target}
use Rattle.ftp_laws.proofs.Common.{SlotMove, slot_move, Options, is_legacy, Entry, EventKind, Answer, Decision, Pending, Session, Slot, is_number, named_session, is_refusal, is_used, new_number, due, opened_number, session}
use Rattle.ftp_laws.proofs.ClassLemmas.{opened-is}

-- the moves by a data connection
abbrev pub by_connection : SlotMove → Bool
by_connection Links = true
by_connection EmptiesWaiting = true
by_connection _ = false

-- decisions on one
abbrev pub is_connection : Decision → Bool
is_connection d = by_connection (slot_move d)

-- no decision on an event that names a session is one on a data connection, where there is no legacy listener
pub named-no_connection :
    (o : Options) (past : List Entry) (at : ℕ) (k : EventKind) (answer : Answer) (s : ℕ) →
    is_legacy o.mode ≡ false → named_session k ≡ Some s →
    is_connection (due o past at k answer) ≡ false
named-no_connection o past at (kind.Connect s raw local trace) answer n m e = cc
named-no_connection o past at k answer n m e = grind arith

-- a connection that is not refused has a number that was not used
row-unused :
    (strange used : Bool) (row : Decision) →
    is_refusal (cond strange decision.Misplaced (cond used decision.UsedNumber row)) ≡ false →
    used ≡ false
row-unused true used row h = cc
row-unused false true row h = cc
row-unused false false row h = refl

-- what is decided as the first of two is not
pub other-chosen :
    (b : Bool) (x y d : Decision) → x ≢ d → cond b x y ≡ d → (b ≡ false) × (y ≡ d)
other-chosen true x y d n h = absurd (n h)
other-chosen false x y d n h = (refl, h)

-- what is decided as the second of two is not
pub first-chosen :
    (b : Bool) (x y d : Decision) → y ≢ d → cond b x y ≡ d → (b ≡ true) × (x ≡ d)
first-chosen true x y d n h = (refl, h)
first-chosen false x y d n h = absurd (n h)

-- an entry that is decided for a session names a live one
pub record IsLive (o : Options) (past : List Entry) (k : EventKind) : Type 0 where
  pub number : ℕ
  pub session_then : Session
  pub named : named_session k ≡ Some number
  pub known : session o past number ≡ Some session_then

-- what is decided of a session that has to be live, and is not that it is unknown, is its row
pub live-row :
    (o : Options) (past : List Entry) (s : ℕ) (row : Session → Decision) (d : Decision) →
    decision.UnknownNumber ≢ d → if_live (session o past s) row ≡ d →
    (v : Session) × (session o past s ≡ Some v) × (row v ≡ d)
live-row o past s row d n h = go (session o past s) refl h
  where
    go :
        (v : Option Session) → session o past s ≡ v → if_live v row ≡ d →
        (v : Session) × (session o past s ≡ Some v) × (row v ≡ d)
    go None x y = absurd (n y)
    go (Some v) x y = (v, x, y)

-- what is known of a PORT whose connection is taken: its session is live, and the number of the connection is new
pub record IsConnected (o : Options) (past : List Entry) (k : EventKind) : Type 0 where
  pub alive : IsLive o past k
  pub number : ℕ
  pub new : new_number k decision.PortOk ≡ Some number
  pub unused : is_used past number ≡ false

-- the connection that is taken has a number, which was not used
made-unused :
    (used : ℕ → Bool) (number : Option ℕ) → made_row used number ≡ decision.PortOk →
    (n : ℕ) × (number ≡ Some n) × (used n ≡ false)
made-unused used None h = cc
made-unused used (Some n) h = (n, refl, (other-chosen (used n) decision.UsedNumber decision.PortOk decision.PortOk (λ x. cc) h).0)

-- so it has where the address is the peer's
address-unused :
    (used : ℕ → Bool) (number : Option ℕ) (v : Session) (to : Option SocketAddr) →
    address_row used number v to ≡ decision.PortOk →
    (n : ℕ) × (number ≡ Some n) × (used n ≡ false)
address-unused used number v None h = cc
address-unused used number v (Some to) h =
    made-unused used number (first-chosen (same_ip to.ip v.opening.raw.ip) (made_row used number) decision.OtherAddress decision.PortOk (λ x. cc) h).1

-- only a PORT of a live session takes one
pub connected-live :
    (o : Options) (past : List Entry) (at : ℕ) (k : EventKind) (answer : Answer) →
    due o past at k answer ≡ decision.PortOk →
    IsConnected o past k
connected-live o past at (kind.Port s text number) answer e =
    let live = live-row o past s (λ v. if_logged_in v (port_row o (is_used past) text number v)) decision.PortOk (λ x. cc) e in
    let v = live.0 in
    let row = port_row o (is_used past) text number v in
    let address = address_row (is_used past) number v (port_target text) in
    let admitted = first-chosen (is_logged_in v.login) row decision.NotLoggedIn decision.PortOk (λ x. cc) live.2 in
    let served = other-chosen (is_active_off o.active_passive) decision.ModeOff address decision.PortOk (λ x. cc) admitted.1 in
    let made = address-unused (is_used past) number v (port_target text) served.1 in
    record { alive = record { number = s; session_then = v; named = refl; known = live.1 }; number = made.0; new = made.1; unused = made.2 }
connected-live o past at k answer e = grind arith

-- the session that a connection is attached to
abbrev pub attached_session : Decision → Option ℕ
attached_session (decision.Attached s) = Some s
attached_session _ = None

-- what is known of a connection that came for one session alone and is attached: each session has a listener of its own, and this one waits
pub record IsAccepted (o : Options) (past : List Entry) (k : EventKind) (s : ℕ) : Type 0 where
  pub own : is_legacy o.mode ≡ true
  pub named : named_session k ≡ Some s
  pub session_then : Session
  pub known : session o past s ≡ Some session_then
  pub waits : is_waiting session_then.slot ≡ true

-- where a connection that came for one session is attached, it is attached to that
pub accepted-known :
    (o : Options) (past : List Entry) (at q number : ℕ) (raw : SocketAddr) (answer : Answer) (s : ℕ) →
    due o past at (kind.Accepted q number raw) answer ≡ decision.Attached s →
    IsAccepted o past (kind.Accepted q number raw) s
accepted-known o past at q number raw answer s e =
    let live = live-row o past q (λ v. accepted_row o (is_used past) q number raw v) (decision.Attached s) (λ x. cc) e in
    let v = live.0 in
    let comes : Bool = is_waiting v.slot && same_ip v.opening.raw.ip raw.ip in
    let last : Decision = cond comes (decision.Attached q) decision.Turned in
    let mode = other-chosen (not (is_legacy o.mode)) decision.Misplaced (cond (is_used past number) decision.UsedNumber last) (decision.Attached s) (λ x. cc) live.2 in
    let fresh = other-chosen (is_used past number) decision.UsedNumber last (decision.Attached s) (λ x. cc) mode.1 in
    let row = first-chosen comes (decision.Attached q) decision.Turned (decision.Attached s) (λ x. cc) fresh.1 in
    let same : q ≡ s = same_Some _ _ (ap attached_session row.1) in
    record {
      own = not-false _ mode.0;
      named = ap Some same;
      session_then = v;
      known = subst (λ (n : ℕ). session o past n ≡ Some v) same live.1;
      waits = (and_parts (is_waiting v.slot) (same_ip v.opening.raw.ip raw.ip) row.0).0;
    }

-- what is known of a slot that stood too long: its session is live, and the slot may stand for so long only
pub record IsExpired (o : Options) (past : List Entry) (at : ℕ) (k : EventKind) : Type 0 where
  pub alive : IsLive o past k
  pub limit : ℕ
  pub limited : slot_limit o alive.session_then.slot alive.session_then.pending ≡ Some limit
  pub late : nat_le limit (at - alive.session_then.slot_at) ≡ true

-- only a look at a slot drops one for that
pub expired-known :
    (o : Options) (past : List Entry) (at : ℕ) (k : EventKind) (answer : Answer) →
    due o past at k answer ≡ decision.SlotDropped →
    IsExpired o past at k
expired-known o past at (kind.SlotTick s) answer e =
    let live = live-row o past s (λ v. slot_row o at v) decision.SlotDropped (λ x. cc) e in
    by_limit live.0 live.1 (slot_limit o live.0.slot live.0.pending) refl live.2
  where
    by_limit :
        (v : Session) → session o past s ≡ Some v →
        (limit : Option ℕ) → slot_limit o v.slot v.pending ≡ limit →
        cond (option_map_or (λ limit. nat_le limit (at - v.slot_at)) limit false) decision.SlotDropped decision.Early ≡ decision.SlotDropped →
        IsExpired o past at (kind.SlotTick s)
    by_limit v known None x h = cc
    by_limit v known (Some limit) x h =
        record {
          alive = record { number = s; session_then = v; named = refl; known = known };
          limit = limit;
          limited = x;
          late = (first-chosen (nat_le limit (at - v.slot_at)) decision.SlotDropped decision.Early decision.SlotDropped (λ y. cc) h).0;
        }
expired-known o past at k answer e = grind arith

-- where there is no legacy listener a slot that waits stands as long as it likes
waits-unlimited :
    (o : Options) (slot : Slot) (pending : Option Pending) (limit : ℕ) →
    is_legacy o.mode ≡ false → slot_limit o slot pending ≡ Some limit →
    is_waiting slot ≡ false
waits-unlimited o (Waits port) pending limit m h = let z : None ≡ Some limit = rw m at h in cc
waits-unlimited o Empty pending limit m h = refl
waits-unlimited o (Linked number) pending limit m h = refl

-- so what is dropped there does not wait
pub expired-linked :
    (o : Options) (past : List Entry) (at : ℕ) (k : EventKind) (answer : Answer) (s : ℕ) (v : Session) →
    is_legacy o.mode ≡ false → named_session k ≡ Some s → session o past s ≡ Some v →
    due o past at k answer ≡ decision.SlotDropped →
    is_waiting v.slot ≡ false
expired-linked o past at k answer s v m named known e =
    let x : IsExpired o past at k = expired-known o past at k answer e in
    let w : Session = x.alive.session_then in
    let same_number : x.alive.number ≡ s = same_Some _ _ (sym x.alive.named ∙ named) in
    let same : w ≡ v = same_Some _ _ (sym (subst (λ (n : ℕ). session o past n ≡ Some w) same_number x.alive.known) ∙ known) in
    subst (λ (u : Session). is_waiting u.slot ≡ false) same (waits-unlimited o w.slot w.pending x.limit m x.limited)

-- a number that comes as new with what is not refused was not used
pub new-unused :
    (o : Options) (past : List Entry) (at : ℕ) (k : EventKind) (answer : Answer) (d : Decision) (n : ℕ) →
    due o past at k answer ≡ d → is_refusal d ≡ false →
    new_number k d ≡ Some n →
    is_used past n ≡ false
new-unused o past at (kind.Connect s raw local trace) answer d n u c e =
    ap (is_used past) (sym (same_Some s n e)) ∙ row-unused (is_proxy o.mode || (is_pooled o.mode && (is_v6 raw.ip || is_v6 local.ip))) (is_used past s) (cond (is_stopped past) decision.Turned decision.Opened) (ap is_refusal u ∙ c)
new-unused o past at (kind.Proxied number raw trace) answer d n u c e =
    ap (is_used past) (sym (same_Some number n e)) ∙ row-unused (not (is_proxy o.mode) || is_v6 raw.ip) (is_used past number) (cond (is_stopped past) decision.Turned (header_row o past raw answer)) (ap is_refusal u ∙ c)
new-unused o past at (kind.DataIn number raw port) answer d n u c e =
    ap (is_used past) (sym (same_Some number n e)) ∙ row-unused (not (is_pooled o.mode) || is_v6 raw.ip) (is_used past number) (cond (is_stopped past) decision.Turned (arrival_row o past raw raw.ip port)) (ap is_refusal u ∙ c)
new-unused o past at (kind.Accepted s number raw) answer d n u c e =
    ap (is_used past) (sym (same_Some number n e)) ∙ by_session (session o past s) (ap is_refusal u ∙ c)
  where
    by_session :
        (v : Option Session) →
        is_refusal (if_live v (λ v. accepted_row o (is_used past) s number raw v)) ≡ false →
        is_used past number ≡ false
    by_session None h = cc
    by_session (Some v) h =
        row-unused (not (is_legacy o.mode)) (is_used past number) (cond (is_waiting v.slot && same_ip v.opening.raw.ip raw.ip) (decision.Attached s) decision.Turned) h
new-unused o past at (kind.Port s text number) answer decision.PortOk n u c e =
    let x : IsConnected o past (kind.Port s text number) = connected-live o past at (kind.Port s text number) answer u in
    subst (λ (m : ℕ). is_used past m ≡ false) (same_Some _ _ (sym x.new ∙ e)) x.unused
new-unused o past at (kind.Port s text number) answer d n u c e = cc
new-unused o past at k answer d n u c e = cc

-- so a number that an entry opens was not
pub opened-unused :
    (o : Options) (past : List Entry) (at : ℕ) (k : EventKind) (answer : Answer) (n : ℕ) →
    opened_number k (due o past at k answer) ≡ Some n →
    is_used past n ≡ false
opened-unused o past at k answer n e =
    let d : due o past at k answer ≡ decision.Opened = opened-is k (due o past at k answer) n (ap (λ m. is_number m n) e ∙ eq-eqb n n refl) in
    new-unused o past at k answer decision.Opened n d refl (ap (opened_number k) (sym d) ∙ e)
