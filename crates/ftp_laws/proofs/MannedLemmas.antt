-- A transfer waits for the user who is logged in, in the slot of one who is.
use Rattle.std.proofs.Common.{◌≡◌, refl, sym, ap, ◌∙◌, subst, ℕ, Bool, true, false, true≢false, cond, List, [], ◌∷◌, Option, Some, None, arith}
use Rattle.std.specs.Prelude.{◌≢◌, unwrap_or, is_some}
use Rattle.std.specs.Option.{option_map, option_map_or}
use Rattle.std.proofs.lemmas.Option.{same_Some}
use Rattle.ftp_events.specs.declared.decision.Decision.TheVariants as decision
use Rattle.ftp_events.specs.declared.decision.SlotMove.TheVariants.{Awaits, Connects, Links, Queues, Finishes}
use Rattle.ftp_events.specs.declared.event.EventKind.TheVariants as kind
use Rattle.ftp_events.specs.declared.session.Login.{Login}
use Rattle.ftp_events.specs.declared.session.Login.TheVariants as login
use Rattle.ftp_events.specs.declared.session.Slot.TheVariants.{Empty, Waits, Linked}
use Rattle.ftp_events.specs.Classes.{is_stop}
use Rattle.ftp_base.specs.declared.command.DataChanCmd.{DataChanCmd}
use Rattle.ftp_base.specs.declared.login.AuthAnswer.{AuthAnswer}
use Rattle.ftp_base.specs.declared.login.LockState.{LockState}
use Rattle.ftp_lockout.specs.declared.cache.Failures.{Failures}
use Rattle.ftp_events.specs.CommandRows.{if_logged_in, is_logged_in, own_failures, pasv_row, port_row, transfer_row}
use Rattle.ftp_events.specs.Decide.{if_live}
use Rattle.ftp_events.specs.History.{Nobody}
use Rattle.ftp_events.specs.Lockout.{failures}
use Rattle.ftp_events.specs.LoginRows.{auth_row, pass_row, user_row}
use Rattle.ftp_events.specs.Session.{lane_in, queued_for}
use Rattle.ftp_events.specs.Slot.{asked_command, queued_by}
use Rattle.ftp_events.specs.Transfer.{pending_of}
use Rattle.ftp_events.specs.Login.{login_by, name_by, logged_user}
use Rattle.ftp_laws.proofs.Common.{SlotMove, slot_move, Options, Answer, Decision, Entry, EventKind, Pending, Running, Session, Slot, Ticket, Lane, concerns, due, empties, history, subject, is_used, lane, lane_of, moved, named_session, new_number, opens, past_of, pending_in, queued_in, running_job, session, starts_by, with_link, holder, IsRight}
use Rattle.ftp_laws.proofs.ClassLemmas.{awaits-is, connects-is, queues-is}
use Rattle.ftp_laws.proofs.DecisionLemmas.{first-chosen, live-row}
use Rattle.ftp_laws.proofs.LaneLemmas.{fills, named-concern, queue-placed, queued-live}
use Rattle.ftp_laws.proofs.PortLemmas.{opened-subject, each-session}
use Rattle.ftp_laws.proofs.QuestionLemmas.{lane-opened, session-told, session_by}
use Rattle.ftp_laws.proofs.SubjectLemmas.{nobody-concerns}

-- what is known of a decision on a session's own command: the session is live, and its row decides so
pub record IsOwn (o : Options) (past : List Entry) (k : EventKind) (d : Decision) (row : Session → Decision) : Type 0 where
  pub number : ℕ
  pub view : Session
  pub named : named_session k ≡ Some number
  pub known : session o past number ≡ Some view
  pub decided : row view ≡ d

-- a name is asked the password of by USER alone
needs-user : (o : Options) (past : List Entry) (at : ℕ) (k : EventKind) (answer : Answer) → due o past at k answer ≡ decision.NeedPass → IsOwn o past k decision.NeedPass (λ v. user_row v.login)
needs-user o past at (kind.User s name) answer e =
    let live = live-row o past s (λ v. user_row v.login) decision.NeedPass (λ x. cc) e in
    record { number = s; view = live.0; named = refl; known = live.1; decided = live.2 }
needs-user o past at k answer e = grind arith

-- a password goes out by PASS alone
out-pass : (o : Options) (past : List Entry) (at : ℕ) (k : EventKind) (answer : Answer) → due o past at k answer ≡ decision.PassOut → IsOwn o past k decision.PassOut (λ v. pass_row v.login)
out-pass o past at (kind.Pass s) answer e =
    let live = live-row o past s (λ v. pass_row v.login) decision.PassOut (λ x. cc) e in
    record { number = s; view = live.0; named = refl; known = live.1; decided = live.2 }
out-pass o past at k answer e = grind arith

-- what is known of a decision that needs a login: the session is live and logged in
pub record IsInside (o : Options) (past : List Entry) (k : EventKind) : Type 0 where
  pub number : ℕ
  pub view : Session
  pub named : named_session k ≡ Some number
  pub known : session o past number ≡ Some view
  pub logged : is_logged_in view.login ≡ true

-- where a row of those who are logged in decides otherwise than that the session is not
inside-row :
    (o : Options) (past : List Entry) (k : EventKind) (s : ℕ) (row : Session → Decision) (d : Decision) →
    named_session k ≡ Some s → decision.UnknownNumber ≢ d → decision.NotLoggedIn ≢ d →
    if_live (session o past s) (λ v. if_logged_in v (row v)) ≡ d → IsInside o past k
inside-row o past k s row d named known_one logged_one e =
    let live = live-row o past s (λ v. if_logged_in v (row v)) d known_one e in
    let v = live.0 in
    record { number = s; view = v; named = named; known = live.1; logged = (first-chosen (is_logged_in v.login) (row v) decision.NotLoggedIn d logged_one live.2).0 }

-- a port is granted to a session that is logged in
granted-inside : (o : Options) (past : List Entry) (at : ℕ) (k : EventKind) (answer : Answer) (p : ℕ) → due o past at k answer ≡ decision.Granted p → IsInside o past k
granted-inside o past at (kind.Pasv s word lookup bound) answer p e =
    inside-row o past (kind.Pasv s word lookup bound) s (λ v. pasv_row o (holder o past v.opening.client) word lookup bound v) (decision.Granted p) refl (λ x. cc) (λ x. cc) e
granted-inside o past at k answer p e = grind arith

-- so is the connection of a PORT taken for one
taken-inside : (o : Options) (past : List Entry) (at : ℕ) (k : EventKind) (answer : Answer) → due o past at k answer ≡ decision.PortOk → IsInside o past k
taken-inside o past at (kind.Port s text number) answer e =
    inside-row o past (kind.Port s text number) s (λ v. port_row o (is_used past) text number v) decision.PortOk refl (λ x. cc) (λ x. cc) e
taken-inside o past at k answer e = grind arith

-- and a transfer queued for one
queued-inside : (o : Options) (past : List Entry) (at : ℕ) (k : EventKind) (answer : Answer) (t : Ticket) → due o past at k answer ≡ decision.Queued t → IsInside o past k
queued-inside o past at (kind.Transfer s c) answer t e =
    inside-row o past (kind.Transfer s c) s (λ v. transfer_row s v) (decision.Queued t) refl (λ x. cc) (λ x. cc) e
queued-inside o past at (kind.Stou s word) answer t e =
    inside-row o past (kind.Stou s word) s (λ v. transfer_row s v) (decision.Queued t) refl (λ x. cc) (λ x. cc) e
queued-inside o past at k answer t e = grind arith

-- a login is refused only while a password is being checked
failed-checking : (o : Options) (past : List Entry) (at : ℕ) (k : EventKind) (answer : Answer) (lock : Option LockState) (delay : ℕ) → due o past at k answer ≡ decision.LoginFailed lock delay →
    (said : AuthAnswer) × (f : Session → Option Failures) × IsOwn o past k (decision.LoginFailed lock delay) (λ v. auth_row o.lockout at (f v) said v.login)
failed-checking o past at (kind.AuthDone s said) answer lock delay e =
    let row : Session → Decision = λ v. auth_row o.lockout at (own_failures o (failures o past) v) said v.login in
    let live = live-row o past s row (decision.LoginFailed lock delay) (λ x. cc) e in (
      said,
      own_failures o (failures o past),
      record { number = s; view = live.0; named = refl; known = live.1; decided = live.2 },
    )
failed-checking o past at k answer lock delay e = grind arith

-- a session that an entry names and concerns
pub own-view :
    (o : Options) (past : List Entry) (e : Entry) (n s : ℕ) (u v : Session) →
    e.decision ≡ due o past e.event.at e.event.kind e.answer → concerns o past e s ≡ true →
    named_session e.event.kind ≡ Some n → session o past n ≡ Some u → session o past s ≡ Some v → u ≡ v
own-view o past e n s u v fit c named there known =
    same_Some _ _ (sym there ∙ ap (session o past) (named-concern o past e n s fit named c) ∙ known)

-- who is logged in stays so, under the name that was given
pub record StaysIn (e : Entry) (v : Session) : Type 0 where
  pub login : unwrap_or (login_by e.decision) login.LoggedIn ≡ login.LoggedIn
  pub name : unwrap_or (name_by e.decision e.event.kind) v.name ≡ v.name

pub login-stays :
    (o : Options) (past : List Entry) (e : Entry) (s : ℕ) (v : Session) →
    e.decision ≡ due o past e.event.at e.event.kind e.answer → concerns o past e s ≡ true →
    session o past s ≡ Some v → v.login ≡ login.LoggedIn →
    StaysIn e v
login-stays o past e s v fit c known logged = go e.decision refl
  where
    told : (d : Decision) → e.decision ≡ d → unwrap_or (login_by d) login.LoggedIn ≡ login.LoggedIn → unwrap_or (name_by d e.event.kind) v.name ≡ v.name → StaysIn e v
    told d x l n =
        record {
          login = ap (λ (d : Decision). unwrap_or (login_by d) login.LoggedIn) x ∙ l;
          name = ap (λ (d : Decision). unwrap_or (name_by d e.event.kind) v.name) x ∙ n;
        }

    go : (d : Decision) → e.decision ≡ d → StaysIn e v
    go decision.Opened x =
        let none : subject o past e ≡ Nobody = opened-subject o past e x (sym fit ∙ x) in
        absurd (true≢false (sym c ∙ nobody-concerns o past e s none))
    go decision.NeedPass x =
        let own = needs-user o past e.event.at e.event.kind e.answer (sym fit ∙ x) in
        let same : own.view ≡ v = own-view o past e own.number s own.view v fit c own.named own.known known in
        let z : decision.BadSequence ≡ decision.NeedPass = sym (ap user_row (ap (λ (w : Session). w.login) same ∙ logged)) ∙ own.decided in
        cc
    go decision.PassOut x =
        let own = out-pass o past e.event.at e.event.kind e.answer (sym fit ∙ x) in
        let same : own.view ≡ v = own-view o past e own.number s own.view v fit c own.named own.known known in
        let z : decision.Reauth ≡ decision.PassOut = sym (ap pass_row (ap (λ (w : Session). w.login) same ∙ logged)) ∙ own.decided in
        cc
    go (decision.LoginFailed lock delay) x =
        let found = failed-checking o past e.event.at e.event.kind e.answer lock delay (sym fit ∙ x) in
        let own = found.2 in
        let same : own.view ≡ v = own-view o past e own.number s own.view v fit c own.named own.known known in
        let z : decision.NotExpected ≡ decision.LoginFailed lock delay = sym (ap (auth_row o.lockout e.event.at (found.1 own.view) found.0) (ap (λ (w : Session). w.login) same ∙ logged)) ∙ own.decided in
        cc
    go decision.LoggedIn x = told decision.LoggedIn x refl refl
    go d x = told d x refl refl

-- nothing is in the slot of a session that is not logged in, and a transfer waits in a slot, for its user
pub record IsManned (v : Session) : Type 0 where
  pub inside : v.slot ≢ Empty → v.login ≡ login.LoggedIn
  pub placed : (p : Pending) → v.pending ≡ Some p → v.slot ≢ Empty
  pub user : (p : Pending) → v.pending ≡ Some p → p.user ≡ logged_user v.login v.name

-- a login that is one
logged-is : (l : Login) → is_logged_in l ≡ true → l ≡ login.LoggedIn
logged-is login.LoggedIn h = refl
logged-is l h = cc

-- what a move leaves in a slot that it does not fill was there before
pub record IsLeft (m : SlotMove) (number : Option ℕ) (queued : Option Pending) (l : Lane) : Type 0 where
  pub slot : (moved m number queued l).slot ≢ Empty → l.slot ≢ Empty
  pub pending : (p : Pending) → (moved m number queued l).pending ≡ Some p → l.pending ≡ Some p
  pub placed : (p : Pending) → (moved m number queued l).pending ≡ Some p → l.slot ≢ Empty → (moved m number queued l).slot ≢ Empty

-- a job that starts or not leaves what was there
lane-left :
    (slot : Slot) (pending : Option Pending) (running : Option Running) →
    ((lane_of slot pending running).slot ≢ Empty → slot ≢ Empty)
    × ((p : Pending) → (lane_of slot pending running).pending ≡ Some p → pending ≡ Some p)
    × ((p : Pending) → (lane_of slot pending running).pending ≡ Some p → slot ≢ Empty → (lane_of slot pending running).slot ≢ Empty)
lane-left Empty pending running = (λ h. h, λ p e. e, λ p e h. h)
lane-left (Waits port) pending running = (λ h x. cc, λ p e. e, λ p e h. h)
lane-left (Linked n) None running = (λ h x. cc, λ p e. e, λ p e h. h)
lane-left (Linked n) (Some q) None = (λ h x. cc, λ p e. cc, λ p e. cc)
lane-left (Linked n) (Some q) (Some r) = (λ h x. cc, λ p e. e, λ p e h. h)

-- with a link a slot is empty where it was
link-empty : (slot : Slot) (number : Option ℕ) → slot ≡ Empty → with_link slot number ≡ Empty
link-empty slot number e = rw e refl

link-full : (slot : Slot) (number : Option ℕ) → slot ≢ Empty → with_link slot number ≢ Empty
link-full Empty number h = absurd (h refl)
link-full (Waits port) None h = h
link-full (Waits port) (Some n) h = λ x. cc
link-full (Linked k) number h = λ x. cc

move-left : (m : SlotMove) (number : Option ℕ) (queued : Option Pending) (l : Lane) → fills m ≡ false → IsLeft m number queued l
move-left (Awaits port) number queued l f = cc
move-left Connects number queued l f = cc
move-left (Queues t) number queued l f = cc
move-left Links number queued l f =
    let left = lane-left (with_link l.slot number) l.pending l.running in
    record {
      slot = λ h x. left.0 h (link-empty l.slot number x);
      pending = left.1;
      placed = λ p e h. left.2 p e (link-full l.slot number h);
    }
move-left Finishes number queued l f =
    let left = lane-left l.slot l.pending None in
    record { slot = left.0; pending = left.1; placed = left.2 }
move-left m number queued l f =
    let left = go (empties m l.slot) in
    record { slot = left.0; pending = left.1; placed = left.2 }
  where
    go :
        (b : Bool) →
        (cond b Empty l.slot ≢ Empty → l.slot ≢ Empty)
        × ((p : Pending) → cond b None l.pending ≡ Some p → l.pending ≡ Some p)
        × ((p : Pending) → cond b None l.pending ≡ Some p → l.slot ≢ Empty → cond b Empty l.slot ≢ Empty)
    go true = (λ h x. h refl, λ p e. cc, λ p e. cc)
    go false = (λ h. h, λ p e. e, λ p e h. h)

-- what is queued is for the user
queued-user :
    (d : Decision) (k : EventKind) (user dir : List ℕ) (n : ℕ) (p : Pending) →
    queued_by d k user dir n ≡ Some p → p.user ≡ user
queued-user (decision.Queued t) k user dir n p h = go (asked_command k) h
  where
    go : (c : Option DataChanCmd) → option_map (pending_of t user dir n) c ≡ Some p → p.user ≡ user
    go None h = cc
    go (Some c) h = sym (ap (λ (x : Pending). x.user) (same_Some _ _ h))
queued-user d k user dir n p h = cc

-- it stays so with an entry that is decided as it has to be
manned-step :
    (o : Options) (past : List Entry) (e : Entry) (s : ℕ) (v : Session) →
    e.decision ≡ due o past e.event.at e.event.kind e.answer → concerns o past e s ≡ true →
    session o past s ≡ Some v → IsManned v →
    IsManned (session_by s e (running_job o past s) v)
manned-step o past e s v fit c known mv =
    record {
      inside = λ h. login_is (logged h);
      placed = λ p h. (waits (slot_move e.decision) refl p h).0;
      user = λ p h.
          let w = waits (slot_move e.decision) refl p h in
          let l : v.login ≡ login.LoggedIn = logged w.0 in
          w.1 ∙ ap (λ (x : Login). logged_user x v.name) (l ∙ sym (login_is l)) ∙ ap (logged_user (unwrap_or (login_by e.decision) v.login)) (sym (login-stays o past e s v fit c known l).name);
    }
  where
    k : EventKind
    k = e.event.kind

    number : Option ℕ
    number = new_number k e.decision

    queued : Option Pending
    queued = queued_for e.decision k v

    l : Lane
    l = lane_in v (running_job o past s)

    login_is : v.login ≡ login.LoggedIn → unwrap_or (login_by e.decision) v.login ≡ login.LoggedIn
    login_is h = ap (unwrap_or (login_by e.decision)) h ∙ (login-stays o past e s v fit c known h).login

    here : IsInside o past k → v.login ≡ login.LoggedIn
    here i =
        let same : i.view ≡ v = own-view o past e i.number s i.view v fit c i.named i.known known in
        sym (ap (λ (w : Session). w.login) same) ∙ logged-is i.view.login i.logged

    logged_by : (m : SlotMove) → slot_move e.decision ≡ m → (moved m number queued l).slot ≢ Empty → v.login ≡ login.LoggedIn
    logged_by (Awaits p) x h = here (granted-inside o past e.event.at k e.answer p (sym fit ∙ awaits-is e.decision p x))
    logged_by Connects x h = here (taken-inside o past e.event.at k e.answer (sym fit ∙ connects-is e.decision x))
    logged_by (Queues t) x h = here (queued-inside o past e.event.at k e.answer t (sym fit ∙ queues-is e.decision t x))
    logged_by m x h = mv.inside ((move-left m number queued l refl).slot h)

    logged : (moved (slot_move e.decision) number queued l).slot ≢ Empty → v.login ≡ login.LoggedIn
    logged h = logged_by (slot_move e.decision) refl h

    waits :
        (m : SlotMove) → slot_move e.decision ≡ m → (p : Pending) → (moved m number queued l).pending ≡ Some p →
        ((moved m number queued l).slot ≢ Empty) × (p.user ≡ logged_user v.login v.name)
    waits (Awaits q) x p h = cc
    waits Connects x p h = cc
    waits (Queues t) x p h =
        let left = lane-left v.slot queued (running_job o past s) in
        let q = queued-live o past e.event.at k e.answer t (sym fit ∙ queues-is e.decision t x) in
        let same : q.session_then ≡ v = own-view o past e q.number s q.session_then v fit c q.named q.known known in
        let full : v.slot ≢ Empty = subst (λ (w : Session). w.slot ≢ Empty) same (queue-placed q.session_then.slot q.session_then.pending q.room) in (
          left.2 p h full,
          queued-user e.decision k (logged_user v.login v.name) v.cwd v.offset p (left.1 p h),
        )
    waits m x p h =
        let left = move-left m number queued l refl in (
          left.placed p h (mv.placed p (left.pending p h)),
          mv.user p (left.pending p h),
        )

-- in every right log it is so of each live session
pub session-manned : (o : Options) (log : List Entry) → IsRight o log → (s : ℕ) (v : Session) → session o (past_of log) s ≡ Some v → IsManned v
session-manned o = each-session o IsManned new (manned-step o)
  where
    new : (past : List Entry) (e : Entry) (s : ℕ) (v : Session) → opens e s ≡ true → session o (e ∷ past) s ≡ Some v → IsManned v
    new past e s v n known =
        let told = (session-told o (e ∷ past) s v known).told in
        let bare = lane-opened o past e s n in
        let slot : v.slot ≡ Empty = sym (ap (λ (w : Session). w.slot) told) ∙ ap (λ (l : Lane). l.slot) bare in
        let pending : v.pending ≡ None = sym (ap (λ (w : Session). w.pending) told) ∙ ap (λ (l : Lane). l.pending) bare in
        record {
          inside = λ h. absurd (h slot);
          placed = λ p x. let z : None ≡ Some p = sym pending ∙ x in cc;
          user = λ p x. let z : None ≡ Some p = sym pending ∙ x in cc;
        }
