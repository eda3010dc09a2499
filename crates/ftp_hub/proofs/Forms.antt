-- What a session has in every right log: a port of the range, a name where its login is past the first step, and addresses of its mode.
use Rattle.std.proofs.Common.{◌≡◌, refl, sym, ap, ◌∙◌, subst, ℕ, Bool, true, false, true≢false, not, ◌&&◌, ◌||◌, cond, List, [], ◌∷◌, Option, Some, None, Ok, inl, inr, arith}
use Rattle.std.specs.Prelude.{◌⊎◌, ◌≢◌, codes, unwrap_or, is_some}
use Rattle.std.specs.Bool.{then_some}
use Rattle.std.proofs.lemmas.Bool.{or_parts, not-false}
use Rattle.std.proofs.lemmas.Option.{same_Some}
use Rattle.ftp_base.specs.declared.login.AuthAnswer.{AuthAnswer}
use Rattle.ftp_base.specs.Net.{is_v6}
use Rattle.ftp_base.specs.declared.net.IpAddr.{IpAddr}
use Rattle.ftp_base.specs.declared.net.IpAddr.TheVariants.{V4, V6}
use Rattle.ftp_options.specs.declared.options.ListenerMode.{ListenerMode}
use Rattle.ftp_options.specs.declared.options.ListenerMode.TheVariants.{Legacy, Pooled, Proxy}
use Rattle.ftp_options.specs.declared.lockout.FailedLoginsBlock.{FailedLoginsBlock}
use Rattle.ftp_options.specs.declared.lockout.FailedLoginsBlock.TheVariants.{IP, User, UserAndIP}
use Rattle.ftp_options.specs.declared.lockout.FailedLoginsPolicy.{FailedLoginsPolicy}
use Rattle.ftp_options.specs.Modes.{is_control_port, is_pooled, is_proxy}
use Rattle.ftp_lockout.specs.declared.cache.Failures.{Failures}
use Rattle.ftp_lockout.specs.declared.key.LoginKey.{LoginKey}
use Rattle.ftp_lockout.specs.Keys.{key_of, same_key}
use Rattle.ftp_events.specs.declared.decision.Decision.TheVariants as decision
use Rattle.ftp_events.specs.declared.decision.SlotMove.TheVariants.{Awaits, Connects, Links, Queues, Finishes}
use Rattle.ftp_events.specs.declared.event.Answer.TheVariants.{Header}
use Rattle.ftp_events.specs.declared.event.EventKind.TheVariants as kind
use Rattle.ftp_events.specs.declared.session.Login.TheVariants as login
use Rattle.ftp_events.specs.declared.session.Slot.TheVariants.{Empty, Waits, Linked}
use Rattle.ftp_events.specs.CommandRows.{own_failures}
use Rattle.ftp_events.specs.ConnectionRows.{arrival_row, header_row}
use Rattle.ftp_events.specs.Lockout.{failures, failures_after, failures_by, is_login_for, login_key, tally}
use Rattle.ftp_events.specs.Login.{login_by, login_state, name_by}
use Rattle.ftp_events.specs.LoginRows.{auth_row, pass_row}
use Rattle.ftp_events.specs.Log.{is_stopped}
use Rattle.ftp_events.specs.Modes.{in_range}
use Rattle.ftp_events.specs.Session.{queued_for}
use Rattle.ftp_laws.proofs.Common.{SlotMove, slot_move, Options, Answer, Decision, Entry, EventKind, Opening, Pending, Running, Session, Slot, Lane, concerns, due, empties, history, is_legacy, is_number, is_used, moved, named_session, new_number, opened_number, opener, opening_by, opens, past_of, running_job, session, IsRight}
use Rattle.ftp_laws.proofs.Cases.{by_part}
use Rattle.ftp_laws.proofs.ClassLemmas.{awaits-is, opened-is}
use Rattle.ftp_laws.proofs.DecisionLemmas.{live-row, other-chosen}
use Rattle.ftp_laws.proofs.EntryLemmas.{right-past}
use Rattle.ftp_laws.proofs.GrantLemmas.{granted-free}
use Rattle.ftp_laws.proofs.LockoutLemmas.{same_key-equal}
use Rattle.ftp_laws.proofs.LaneLemmas.{named-concern}
use Rattle.ftp_laws.proofs.MannedLemmas.{IsOwn}
use Rattle.ftp_laws.proofs.PortLemmas.{each-session, session-before}
use Rattle.ftp_laws.proofs.QuestionLemmas.{lane-opened, session-other, session-told, session_by}

-- ---- the port

-- a port is awaited because of the move, or was before
awaits-after :
    (m : SlotMove) (number : Option ℕ) (queued : Option Pending) (slot : Slot) (pending : Option Pending) (running : Option Running) (p : ℕ) →
    (moved m number queued (record { slot = slot; pending = pending; running = running })).slot ≡ Waits p →
    (m ≡ Awaits p) ⊎ (slot ≡ Waits p)
awaits-after (Awaits q) number queued slot pending running p e = inl (ap (λ (s : Slot). port s) e)
  where
    port : Slot → SlotMove
    port (Waits q) = Awaits q
    port s = Connects
awaits-after Connects None queued slot pending running p e = cc
awaits-after Connects (Some n) queued slot pending running p e = cc
awaits-after Links number queued Empty pending running p e = cc
awaits-after Links None queued (Waits port) pending running p e = inr e
awaits-after Links (Some n) queued (Waits port) None running p e = cc
awaits-after Links (Some n) queued (Waits port) (Some q) None p e = cc
awaits-after Links (Some n) queued (Waits port) (Some q) (Some r) p e = cc
awaits-after Links number queued (Linked k) None running p e = cc
awaits-after Links number queued (Linked k) (Some q) None p e = cc
awaits-after Links number queued (Linked k) (Some q) (Some r) p e = cc
awaits-after (Queues t) number queued Empty pending running p e = cc
awaits-after (Queues t) number queued (Waits port) pending running p e = inr e
awaits-after (Queues t) number None (Linked k) pending running p e = cc
awaits-after (Queues t) number (Some q) (Linked k) pending None p e = cc
awaits-after (Queues t) number (Some q) (Linked k) pending (Some r) p e = cc
awaits-after Finishes number queued Empty pending running p e = cc
awaits-after Finishes number queued (Waits port) pending running p e = inr e
awaits-after Finishes number queued (Linked k) None running p e = cc
awaits-after Finishes number queued (Linked k) (Some q) running p e = cc
awaits-after m number queued slot pending running p e = go (empties m slot) e
  where
    go : (b : Bool) → cond b Empty slot ≡ Waits p → (m ≡ Awaits p) ⊎ (slot ≡ Waits p)
    go true e = cc
    go false e = inr e

-- in every right log the port that a slot waits for is one of the range
pub slot-ranged :
    (o : Options) (log : List Entry) → IsRight o log →
    (s : ℕ) (v : Session) (p : ℕ) → session o (past_of log) s ≡ Some v → v.slot ≡ Waits p → in_range o p ≡ true
slot-ranged o log r =
    right-past o (λ past. (s : ℕ) (v : Session) (p : ℕ) → session o past s ≡ Some v → v.slot ≡ Waits p → in_range o p ≡ true)
    (λ s v p known. let z : None ≡ Some v = known in cc)
    (λ log e comes ih s v p known waits.
    let past : List Entry = past_of log in
    by_part o past e s
    (λ n.
    let told = (session-told o (e ∷ past) s v known).told in
    let slot : v.slot ≡ Empty = sym (ap (λ (w : Session). w.slot) told) ∙ ap (λ (l : Lane). l.slot) (lane-opened o past e s n) in
    let z : Empty ≡ Waits p = sym slot ∙ waits in
    cc)
    (λ n c.
    let after = session-before o past e s v comes.fit n c known in
    step past e s after.before p comes.fit (ap (λ (w : Session). w.slot) after.after ∙ waits) (λ was. ih s after.before p after.known was))
    (λ n c. ih s v p (sym (session-other o past e s n c) ∙ known) waits)) log r
  where
    step :
        (past : List Entry) (e : Entry) (s : ℕ) (v : Session) (p : ℕ) → e.decision ≡ due o past e.event.at e.event.kind e.answer →
        (session_by s e (running_job o past s) v).slot ≡ Waits p → (v.slot ≡ Waits p → in_range o p ≡ true) → in_range o p ≡ true
    step past e s v p fit waits was =
        by (awaits-after (slot_move e.decision) (new_number e.event.kind e.decision) (queued_for e.decision e.event.kind v) v.slot v.pending (running_job o past s) p waits)
      where
        by : (slot_move e.decision ≡ Awaits p) ⊎ (v.slot ≡ Waits p) → in_range o p ≡ true
        by (inl x) = (granted-free o past e.event.at e.event.kind e.answer p (sym fit ∙ awaits-is e.decision p x)).ranged
        by (inr x) = was x

-- ---- the name

-- a login that is past its first step has a name
abbrev pub IsNamed : Session → Type 0
IsNamed v = v.login ≢ login.New → is_some v.name ≡ true

-- a session that an entry names and concerns
own-view :
    (o : Options) (past : List Entry) (e : Entry) (n s : ℕ) (u v : Session) →
    e.decision ≡ due o past e.event.at e.event.kind e.answer → concerns o past e s ≡ true →
    named_session e.event.kind ≡ Some n → session o past n ≡ Some u → session o past s ≡ Some v → u ≡ v
own-view o past e n s u v fit c named there known =
    same_Some _ _ (sym there ∙ ap (session o past) (named-concern o past e n s fit named c) ∙ known)

-- a password goes out by PASS alone
out-pass : (o : Options) (past : List Entry) (at : ℕ) (k : EventKind) (answer : Answer) → due o past at k answer ≡ decision.PassOut → IsOwn o past k decision.PassOut (λ v. pass_row v.login)
out-pass o past at (kind.Pass s) answer e =
    let live = live-row o past s (λ v. pass_row v.login) decision.PassOut (λ x. cc) e in
    record { number = s; view = live.0; named = refl; known = live.1; decided = live.2 }
out-pass o past at k answer e = grind arith

-- what asks for a password gives a name
asked-name : (o : Options) (past : List Entry) (at : ℕ) (k : EventKind) (answer : Answer) (name : Option (List ℕ)) → due o past at k answer ≡ decision.NeedPass → is_some (unwrap_or (name_by decision.NeedPass k) name) ≡ true
asked-name o past at (kind.User s given) answer name e = refl
asked-name o past at k answer name e = grind arith

-- who is let in was being checked
let-in-checking : (o : Options) (past : List Entry) (at : ℕ) (k : EventKind) (answer : Answer) → due o past at k answer ≡ decision.LoggedIn →
    (said : AuthAnswer) × (f : Session → Option Failures) × IsOwn o past k decision.LoggedIn (λ v. auth_row o.lockout at (f v) said v.login)
let-in-checking o past at (kind.AuthDone s said) answer e =
    let row : Session → Decision = λ v. auth_row o.lockout at (own_failures o (failures o past) v) said v.login in
    let live = live-row o past s row decision.LoggedIn (λ x. cc) e in (
      said,
      own_failures o (failures o past),
      record { number = s; view = live.0; named = refl; known = live.1; decided = live.2 },
    )
let-in-checking o past at k answer e = grind arith

-- it stays so with an entry that is decided as it has to be
named-step :
    (o : Options) (past : List Entry) (e : Entry) (s : ℕ) (v : Session) →
    e.decision ≡ due o past e.event.at e.event.kind e.answer → concerns o past e s ≡ true →
    session o past s ≡ Some v → IsNamed v →
    IsNamed (session_by s e (running_job o past s) v)
named-step o past e s v fit c known named = go e.decision refl
  where
    k : EventKind
    k = e.event.kind

    Holds : Decision → Type 0
    Holds d = unwrap_or (login_by d) v.login ≢ login.New → is_some (unwrap_or (name_by d k) v.name) ≡ true

    told : (d : Decision) → e.decision ≡ d → Holds d → Holds e.decision
    told d x h = subst Holds (sym x) h

    go : (d : Decision) → e.decision ≡ d → Holds e.decision
    go decision.NeedPass x = told decision.NeedPass x (λ h. asked-name o past e.event.at k e.answer v.name (sym fit ∙ x))
    go decision.PassOut x =
        let own = out-pass o past e.event.at k e.answer (sym fit ∙ x) in
        let same : own.view ≡ v = own-view o past e own.number s own.view v fit c own.named own.known known in
        told decision.PassOut x (λ h. named (λ new.
        let z : decision.BadSequence ≡ decision.PassOut = sym (ap pass_row (ap (λ (w : Session). w.login) same ∙ new)) ∙ own.decided in
        cc))
    go decision.LoggedIn x =
        let found = let-in-checking o past e.event.at k e.answer (sym fit ∙ x) in
        let own = found.2 in
        let same : own.view ≡ v = own-view o past e own.number s own.view v fit c own.named own.known known in
        told decision.LoggedIn x (λ h. named (λ new.
        let z : decision.NotExpected ≡ decision.LoggedIn = sym (ap (auth_row o.lockout e.event.at (found.1 own.view) found.0) (ap (λ (w : Session). w.login) same ∙ new)) ∙ own.decided in
        cc))
    go (decision.LoginFailed lock delay) x = told (decision.LoginFailed lock delay) x (λ h. absurd (h refl))
    go decision.Opened x = told decision.Opened x (λ h. absurd (h refl))
    go d x = told d x named

-- in every right log a login that is past its first step has a name
pub session-named : (o : Options) (log : List Entry) → IsRight o log → (s : ℕ) (v : Session) → session o (past_of log) s ≡ Some v → IsNamed v
session-named o = each-session o IsNamed new (named-step o)
  where
    login-opened : (past : List Entry) (e : Entry) (s : ℕ) → opens e s ≡ true → login_state (history o (e ∷ past) s) ≡ login.New
    login-opened past e s n =
        let start : history o (e ∷ past) s ≡ e ∷ [] = rw n refl in
        ap login_state start ∙ ap (λ (d : Decision). unwrap_or (login_by d) login.New) (opened-is e.event.kind e.decision s n)

    new : (past : List Entry) (e : Entry) (s : ℕ) (v : Session) → opens e s ≡ true → session o (e ∷ past) s ≡ Some v → IsNamed v
    new past e s v n known h =
        let told = (session-told o (e ∷ past) s v known).told in
        absurd (h (sym (ap (λ (w : Session). w.login) told) ∙ login-opened past e s n))

-- ---- the addresses

-- the addresses of an opening fit the mode: without a proxy the client is the raw peer, and where the ports are shared all are of
-- version 4
pub record FitsMode (o : Options) (opening : Opening) : Type 0 where
  pub client : is_proxy o.mode ≡ false → opening.client ≡ opening.raw.ip
  pub raw_v4 : is_legacy o.mode ≡ false → is_v6 opening.raw.ip ≡ false
  pub local_v4 : is_legacy o.mode ≡ false → is_v6 opening.local.ip ≡ false
  pub client_v4 : is_legacy o.mode ≡ false → is_v6 opening.client ≡ false

-- where the sessions share the ports and no proxy is, the ports are pooled
shared-pooled : (m : ListenerMode) → is_legacy m ≡ false → is_proxy m ≡ false → is_pooled m ≡ true
shared-pooled Legacy a b = cc
shared-pooled Pooled a b = refl
shared-pooled (Proxy port) a b = cc

-- an opening by a control connection or by a header fits it
opening-fits :
    (o : Options) (past : List Entry) (e : Entry) (opening : Opening) →
    e.decision ≡ due o past e.event.at e.event.kind e.answer → e.decision ≡ decision.Opened →
    opening_by e.event.kind e.answer ≡ Some opening → FitsMode o opening
opening-fits o past e opening fit opened h = go e.event.kind e.answer (sym fit ∙ opened) h
  where
    at : ℕ
    at = e.event.at

    go : (k : EventKind) (answer : Answer) → due o past at k answer ≡ decision.Opened → opening_by k answer ≡ Some opening → FitsMode o opening
    go (kind.Connect n raw local trace) answer d x =
        let v6s : Bool = is_v6 raw.ip || is_v6 local.ip in
        let placed = other-chosen (is_proxy o.mode || (is_pooled o.mode && v6s)) decision.Misplaced (cond (is_used past n) decision.UsedNumber (cond (is_stopped past) decision.Turned decision.Opened)) decision.Opened (λ z. cc) d in
        let parts = or_parts (is_proxy o.mode) (is_pooled o.mode && v6s) placed.0 in
        let none : is_legacy o.mode ≡ false → v6s ≡ false = λ shared. sym (ap (λ b. b && v6s) (shared-pooled o.mode shared parts.0)) ∙ parts.1 in
        subst (FitsMode o) (same_Some _ _ x) (record {
          client = λ p. refl;
          raw_v4 = λ shared. (or_parts (is_v6 raw.ip) (is_v6 local.ip) (none shared)).0;
          local_v4 = λ shared. (or_parts (is_v6 raw.ip) (is_v6 local.ip) (none shared)).1;
          client_v4 = λ shared. (or_parts (is_v6 raw.ip) (is_v6 local.ip) (none shared)).0;
        })
    go (kind.Proxied n raw trace) (Header (Ok line)) d x =
        let row : Decision = header_row o past raw (Header (Ok line)) in
        let placed = other-chosen (not (is_proxy o.mode) || is_v6 raw.ip) decision.Misplaced (cond (is_used past n) decision.UsedNumber (cond (is_stopped past) decision.Turned row)) decision.Opened (λ z. cc) d in
        let fresh = other-chosen (is_used past n) decision.UsedNumber (cond (is_stopped past) decision.Turned row) decision.Opened (λ z. cc) placed.1 in
        let going = other-chosen (is_stopped past) decision.Turned row decision.Opened (λ z. cc) fresh.1 in
        let told = other-chosen (is_v6 line.source.ip || is_v6 line.destination.ip) decision.NotExpected (cond (is_control_port o.mode line.destination.port) decision.Opened (arrival_row o past raw line.source.ip line.destination.port)) decision.Opened (λ z. cc) going.1 in
        let parts = or_parts (not (is_proxy o.mode)) (is_v6 raw.ip) placed.0 in
        let ends = or_parts (is_v6 line.source.ip) (is_v6 line.destination.ip) told.0 in
        subst (FitsMode o) (same_Some _ _ x) (record {
          client = λ p. absurd (true≢false (sym (not-false _ parts.0) ∙ p));
          raw_v4 = λ shared. parts.1;
          local_v4 = λ shared. ends.1;
          client_v4 = λ shared. ends.0;
        })
    go k answer d x = cc

-- in every right log each session came by one that fits
pub opener-fits : (o : Options) (log : List Entry) → IsRight o log → (s : ℕ) (opening : Opening) → opener (past_of log) s ≡ Some opening → FitsMode o opening
opener-fits o log r =
    right-past o (λ past. (s : ℕ) (opening : Opening) → opener past s ≡ Some opening → FitsMode o opening)
    (λ s opening h. cc)
    (λ log e comes ih s opening h.
    by_opening (past_of log) e s opening comes.fit (ih s opening) (is_number (opened_number e.event.kind e.decision) s) refl h)
    log r
  where
    by_opening :
        (past : List Entry) (e : Entry) (s : ℕ) (opening : Opening) → e.decision ≡ due o past e.event.at e.event.kind e.answer →
        (opener past s ≡ Some opening → FitsMode o opening) →
        (b : Bool) → is_number (opened_number e.event.kind e.decision) s ≡ b →
        unwrap_or (then_some b (opening_by e.event.kind e.answer)) (opener past s) ≡ Some opening →
        FitsMode o opening
    by_opening past e s opening fit before true n x = opening-fits o past e opening fit (opened-is e.event.kind e.decision s n) x
    by_opening past e s opening fit before false n x = before x

-- so did each that is live
pub session-fits : (o : Options) (log : List Entry) → IsRight o log → (s : ℕ) (v : Session) → session o (past_of log) s ≡ Some v → FitsMode o v.opening
session-fits o log r s v known = opener-fits o log r s v.opening (session-told o (past_of log) s v known).opening

-- ---- failed logins

-- a key of a login from an address of version 4 has none of version 6
key_of-v4 : (by : FailedLoginsBlock) (ip : IpAddr) (name : List ℕ) → is_v6 ip ≡ false → (key_of by ip name).version ≢ 6
key_of-v4 UserAndIP (V4 n) name h = λ e. omega (arith, e)
key_of-v4 UserAndIP (V6 n) name h = cc
key_of-v4 IP (V4 n) name h = λ e. omega (arith, e)
key_of-v4 IP (V6 n) name h = cc
key_of-v4 User ip name h = λ e. omega (arith, e)

-- where the sessions share the ports, failures are told only of keys without an address of version 6
pub tally-v4 :
    (o : Options) (p : FailedLoginsPolicy) (log : List Entry) → is_legacy o.mode ≡ false → IsRight o log →
    (key : LoginKey) (f : Failures) → tally o p (past_of log) key ≡ Some f → key.version ≢ 6
tally-v4 o p log shared r =
    right-past o (λ past. (key : LoginKey) (f : Failures) → tally o p past key ≡ Some f → key.version ≢ 6)
    (λ key f h. cc)
    (λ log e comes ih key f h. step log e comes.right key f e.event.kind (tally o p (past_of log) key) (ih key) h) log r
  where
    step :
        (log : List Entry) (e : Entry) → IsRight o log → (key : LoginKey) (f : Failures) (k : EventKind) (was : Option Failures) →
        ((g : Failures) → was ≡ Some g → key.version ≢ 6) →
        failures_after o p (past_of log) key k e.event.at was ≡ Some f → key.version ≢ 6
    step log e right key f (kind.AuthDone s said) was before h = by_session (session o (past_of log) s) refl h
      where
        by_session :
            (x : Option Session) → session o (past_of log) s ≡ x →
            cond (is_login_for p x key) (failures_by said p e.event.at was) was ≡ Some f → key.version ≢ 6
        by_session None known h = before f h
        by_session (Some v) known h = by_key (same_key (login_key p v) key) refl h
          where
            by_key : (b : Bool) → same_key (login_key p v) key ≡ b → cond b (failures_by said p e.event.at was) was ≡ Some f → key.version ≢ 6
            by_key false other h = before f h
            by_key true same h =
                let is : login_key p v ≡ key = same_key-equal (login_key p v) key same in
                subst (λ (k : LoginKey). k.version ≢ 6) is
                (key_of-v4 p.block_by v.opening.client (unwrap_or v.name (codes "unknown")) ((session-fits o log right s v known).client_v4 shared))
    step log e right key f kind.Sweep None before h = cc
    step log e right key f kind.Sweep (Some g) before h = before g refl
    step log e right key f k was before h = before f h
