-- The tables after an entry that names a session.
use Rattle.std.proofs.Math.Bool.{and_comm}
use Rattle.std.proofs.Common.{◌≡◌, refl, sym, ap, ◌∙◌, ℕ, ◌-◌, ◌^◌, ◌<◌, Bool, true, false, cond, ◌&&◌, ◌||◌, List, ◌∷◌, Option, Some, None, arith, eq-eqb, eqb-true}
use Rattle.std.proofs.lemmas.Option.{same_Some}
use Rattle.std.specs.Prelude.{◌==◌, nat_eq}
use Rattle.std.specs.HashMap as map
use Rattle.ftp_hub.proofs.Common.{Action, Answer, Decision, Entry, EventKind, Hub, HubEvent, IpAddr, IsFew, Options, Serves, Session, Stands, V4, decide, entry, held_after, history, holder, ipv4, is_legacy, is_refusal, named_session, new_number, past_of, same-both, session, session_acts, waiting_port}
use Rattle.ftp_base.specs.Net.{same_ip}
use Rattle.ftp_switchboard.specs.Board.{is_key, still_holder}
use Rattle.ftp_events.specs.declared.decision.Decision.TheVariants as decision
use Rattle.ftp_events.specs.declared.event.EventKind.TheVariants as kind
use Rattle.ftp_events.specs.declared.decision.SlotMove.{SlotMove}
use Rattle.ftp_events.specs.declared.decision.SlotMove.TheVariants.{Awaits, Connects, Empties}
use Rattle.ftp_events.specs.declared.decision.Life.{Life}
use Rattle.ftp_events.specs.declared.decision.Life.TheVariants.{Ends}
use Rattle.ftp_events.specs.Classes.{ends, gives_up, is_ending, is_stop, life, slot_move}
use Rattle.ftp_events.specs.Words.{is_number}
use Rattle.ftp_events.specs.Opening.{opened_number}
use Rattle.ftp_events.specs.Board.{granted_port, gives_up_hold}
use Rattle.ftp_events.specs.Notices.{notice_count}
use Rattle.ftp_events.specs.Place.{ticket_count}
use Rattle.ftp_laws.proofs.QuestionLemmas.{session-told}
use Rattle.ftp_laws.proofs.HoldLemmas.{WaitsFor, same_ip-equal}
use Rattle.ftp_laws.proofs.PortLemmas.{named-target}
use Rattle.ftp_laws.proofs.StopLemmas.{named-plain}
use Rattle.ftp_laws.proofs.SubjectLemmas.{named-one}
use Rattle.ftp_laws.proofs.TableLemmas.{IsNamed, holder-named, holder-granted, and-zero, eq-comm}
use Rattle.ftp_laws.proofs.ClassLemmas.{awaits-is, ending-empties, granted-is}
use Rattle.ftp_laws.proofs.Cases.{by_test}
use Rattle.ftp_handlers.specs.Handlers.{held_by, is_auth, is_checking}
use Rattle.ftp_hub.specs.Arrivals.{is_accepted}
use Rattle.ftp_hub.proofs.Counts.{notices-few, tickets-few}
use Rattle.ftp_hub.proofs.About.{serves-about}
use Rattle.ftp_laws.proofs.GrantLemmas.{holder-legacy}
use Rattle.ftp_hub.proofs.Clients.{client-v4, held-waits}
use Rattle.ftp_hub.proofs.Failures.{failures-counted}
use Rattle.ftp_hub.proofs.Moved.{MovedAlone}

-- an event that names a session, and is no connection that comes to it, opens none
pub no-opening : (k : EventKind) (d : Decision) (s : ℕ) → is_accepted k ≡ false → named_session k ≡ Some s → opened_number k d ≡ None
no-opening k decision.Opened s plain named = unopened k plain named
  where
    unopened : (k : EventKind) → is_accepted k ≡ false → named_session k ≡ Some s → new_number k decision.Opened ≡ None
    unopened (kind.Connect q raw local trace) c h = cc
    unopened (kind.Proxied n raw trace) c h = cc
    unopened (kind.DataIn n raw port) c h = cc
    unopened (kind.Accepted q n raw) c h = cc
    unopened k c h = refl
no-opening k _ s plain named = refl

-- whoever holds a port waits for it: so a session gives up its waiting port exactly where it gives up all that it holds
still-waiting : (hub : Hub) (log : List Entry) (s n : ℕ) (v : Session) (a p : ℕ) → Stands hub log → session hub.options (past_of log) s ≡ Some v → v.opening.client ≡ V4 n → still_holder n (waiting_port v.slot) s a p (holder hub.options (past_of log) (V4 a) p) ≡ cond (is_number (holder hub.options (past_of log) (V4 a) p) s) None (holder hub.options (past_of log) (V4 a) p)
still-waiting hub log s n v a p st known from = go (holder hub.options (past_of log) (V4 a) p) refl (waiting_port v.slot) refl
  where
    waits : (h : ℕ) → holder hub.options (past_of log) (V4 a) p ≡ Some h → (h == s) ≡ true → (a ≡ n) × (waiting_port v.slot ≡ Some p)
    waits h held same =
        let w : WaitsFor hub.options (past_of log) s (V4 a) p = held-waits hub log a p s st (held ∙ ap Some (eqb-true h s same)) in
        let view : w.view ≡ v = same_Some _ _ (sym w.known ∙ known) in
        let client : V4 n ≡ V4 a = sym from ∙ ap (λ (x : Session). x.opening.client) (sym view) ∙ same_ip-equal _ _ w.client in
        (same_Some _ _ (ap ipv4 (sym client)), ap (λ (x : Session). waiting_port x.slot) (sym view) ∙ w.port)

    go : (h : Option ℕ) → holder hub.options (past_of log) (V4 a) p ≡ h → (waited : Option ℕ) → waiting_port v.slot ≡ waited → still_holder n waited s a p h ≡ cond (is_number h s) None h
    go None held None e = refl
    go None held (Some q) e = same-both (is_key a p n q && false) None
    go (Some h) held None e = own (h == s) refl
      where
        own : (b : Bool) → (h == s) ≡ b → Some h ≡ cond b None (Some h)
        own true same =
            let clash : None ≡ Some p = sym e ∙ (waits h held same).1 in
            cc
        own false same = refl
    go (Some h) held (Some q) e = own (h == s) refl
      where
        own : (b : Bool) → (h == s) ≡ b → cond (is_key a p n q && b) None (Some h) ≡ cond b None (Some h)
        own true same =
            let w = waits h held same in
            let port : p ≡ q = same_Some _ _ (sym w.1 ∙ e) in
            rw (eq-eqb a n w.0, eq-eqb p q port) refl
        own false same = ap (λ b. cond b None (Some h)) (and-zero (is_key a p n q))

-- who holds a port after an entry that names session s, where sessions share the ports
holders-named : (hub : Hub) (log : List Entry) (event : HubEvent) (answer : Answer) (d : Decision) (done : List Action) (s : ℕ) (v : Session) (a p : ℕ) → Stands hub log → is_legacy hub.options.mode ≡ false → is_stop d ≡ false → named_session event.kind ≡ Some s → session hub.options (past_of log) s ≡ Some v → holder hub.options (entry event answer d done ∷ past_of log) (V4 a) p ≡ held_after d s (ipv4 v.opening.client) (waiting_port v.slot) a p (holder hub.options (past_of log) (V4 a) p)
holders-named hub log event answer d done s v a p st shared plain_d named_s known = go (granted_port d) refl (slot_move d) refl
  where
    o : Options
    o = hub.options

    past : List Entry
    past = past_of log

    e : Entry
    e = entry event answer d done

    named : IsNamed o e s
    named = record { plain = plain_d; named = named_s; no_target = named-target o event.kind answer s named_s }

    n : ℕ
    n = (client-v4 o log s v shared st.right known).0

    client : v.opening.client ≡ V4 n
    client = (client-v4 o log s v shared st.right known).1

    waited : Option ℕ
    waited = waiting_port v.slot

    before : Option ℕ
    before = holder o past (V4 a) p

    still : still_holder n waited s a p before ≡ cond (is_number before s) None before
    still = still-waiting hub log s n v a p st known client

    key-same : (port : ℕ) → ((port == p) && same_ip v.opening.client (V4 a)) ≡ is_key a p n port
    key-same port =
        ap (λ (x : IpAddr). (port == p) && same_ip x (V4 a)) client
        ∙ and_comm (port == p) (n == a)
        ∙ ap (λ b. b && (port == p)) (eq-comm n a)
        ∙ ap (λ b. (a == n) && b) (eq-comm port p)

    plain : (b : Bool) → granted_port d ≡ None → gives_up_hold d ≡ b → holder o (e ∷ past) (V4 a) p ≡ cond (b && is_number before s) None before
    plain b g up = holder-named o past e s (V4 a) p named g ∙ ap (λ b. cond (b && is_number before s) None before) up

    go : (g : Option ℕ) → granted_port d ≡ g → (m : SlotMove) → slot_move d ≡ m → holder o (e ∷ past) (V4 a) p ≡ held_by m s (ipv4 v.opening.client) waited a p before
    go (Some port) g m move =
        let granted : d ≡ decision.Granted port = granted-is d port (rw g (eq-eqb port port refl)) in
        holder-granted o past e s port v (V4 a) p shared named granted known
        ∙ ap (λ b. cond b (Some s) (cond (is_number before s) None before)) (key-same port)
        ∙ ap (λ (x : Option ℕ). cond (is_key a p n port) (Some s) x) (sym still)
        ∙ ap (λ (x : IpAddr). held_by (Awaits port) s (ipv4 x) waited a p before) (sym client)
        ∙ ap (λ (x : SlotMove). held_by x s (ipv4 v.opening.client) waited a p before) (sym (ap slot_move granted) ∙ move)
    go None g (Awaits port) move =
        let clash : Some port ≡ None = sym (ap granted_port (awaits-is d port move)) ∙ g in
        cc
    go None g Empties move = plain true g (ap gives_up move) ∙ sym still ∙ ap (λ (x : IpAddr). held_by Empties s (ipv4 x) waited a p before) (sym client)
    go None g Connects move = plain true g (ap gives_up move) ∙ sym still ∙ ap (λ (x : IpAddr). held_by Connects s (ipv4 x) waited a p before) (sym client)
    go None g m move = plain false g (ap gives_up move)

-- where nobody holds a port, nobody does after an ending
pub ends-none : (d : Decision) (s : ℕ) (client waited : Option ℕ) (a p : ℕ) → is_ending d ≡ true → held_after d s client waited a p None ≡ None
ends-none d s client waited a p end = ap (λ (m : SlotMove). held_by m s client waited a p None) (ending-empties d (ends-is (life d) end)) ∙ by_client client waited
  where
    ends-is : (l : Life) → ends l ≡ true → l ≡ Ends
    ends-is Ends h = refl
    ends-is l h = cc

    by_client : (client waited : Option ℕ) → held_by Empties s client waited a p None ≡ None
    by_client None waited = refl
    by_client (Some c) None = refl
    by_client (Some c) (Some port) = same-both (is_key a p c port && false) None

-- a session has so few notices and transfers that one more of each can be counted
pub few-counts : (hub : Hub) (log : List Entry) (s : ℕ) (v : Session) → Stands hub log → hub.count < 2 ^ 64 - 1 → session hub.options (past_of log) s ≡ Some v → IsFew v
few-counts hub log s v st below known =
    let told = session-told hub.options (past_of log) s v known in
    let notices : notice_count s (history hub.options (past_of log) s) ≡ v.notices = ap (λ (x : Session). x.notices) told.told in
    let tickets : ticket_count (history hub.options (past_of log) s) ≡ v.tickets = ap (λ (x : Session). x.tickets) told.told in
    let few = notices-few hub.options log s st.right st.acted in
    let fewer = tickets-few hub.options log s in
    record { notices = omega (arith, st.counted, notices, few); tickets = omega (arith, st.counted, tickets, fewer) }

-- the tables after an entry that names session s, and is about it alone
pub serves-named :
    (old new : Hub) (log : List Entry) (event : HubEvent) (answer : Answer) (d : Decision) (done : List Action) (s : ℕ) (v after : Session) →
    Stands old log → named_session event.kind ≡ Some s → is_accepted event.kind ≡ false → is_refusal d ≡ false → session old.options (past_of log) s ≡ Some v →
    d ≡ decide old.options log event answer →
    done ≡ session_acts old.options s event.kind answer d (map.get nat_eq old.jobs s) (Some v) →
    MovedAlone old new event answer d done s v after →
    (is_auth event.kind ≡ true → is_checking v.login ≡ true) →
    Serves old new log event answer d done
unfolding decide
serves-named old new log event answer d done s v after st named plain counts known right acted m checks =
    serves-about old new log event answer d done s v after st counts (record { subject_is = named-one o past e s plain_d named; unopened = no-opening event.kind d s plain named }) known right acted m.moved
    (λ q. m.numbers q ∙ ap (λ b. is_number (new_number event.kind d) q || b) (st.tables.numbers q))
    (λ a p.
    by_test (is_legacy o.mode)
    (λ alone.
    m.alone alone a p ∙ st.tables.holders a p ∙ holder-legacy o past (V4 a) p alone ∙ sym (holder-legacy o (e ∷ past) (V4 a) p alone))
    (λ shared.
    m.holders shared a p
    ∙ ap (held_after d s (ipv4 v.opening.client) (waiting_port v.slot) a p) (st.tables.holders a p)
    ∙ sym (holders-named old log event answer d done s v a p st shared plain_d named known)))
    (λ key. failures-counted old new past e key s v m.moved.options m.failures (st.tables.failures key) named known checks)
    m.stopped
  where
    o : Options
    o = old.options

    past : List Entry
    past = past_of log

    e : Entry
    e = entry event answer d done

    plain_d : is_stop d ≡ false
    plain_d = named-plain o past e s right named
