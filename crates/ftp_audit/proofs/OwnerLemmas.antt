-- The owner of a session is the user that is logged in there.
use Rattle.std.proofs.Common.{◌≡◌, refl, sym, ◌∙◌, ap, ap₂, subst, ℕ, Bool, true, false, true≢false, not, ◌||◌, cond, List, [], ◌∷◌, Option, Some, None, codes, arith, eqb-true, eq-eqb}
use Rattle.std.specs.Prelude.{◌==◌, unwrap_or}
use Rattle.ftp_base.specs.declared.login.AuthAnswer.{AuthAnswer}
use Rattle.ftp_base.specs.declared.login.LockState.{LockState}
use Rattle.ftp_events.specs.declared.decision.Decision.TheVariants as decision
use Rattle.ftp_events.specs.declared.event.EventKind.TheVariants as kind
use Rattle.ftp_events.specs.declared.session.Login.{Login}
use Rattle.ftp_events.specs.declared.session.Login.TheVariants as login
use Rattle.ftp_events.specs.CommandRows.{is_logged_in, own_failures}
use Rattle.ftp_events.specs.Login.{login_by, name_by, logged_user}
use Rattle.ftp_events.specs.LoginRows.{user_row, pass_row, auth_row}
use Rattle.ftp_events.specs.Lockout.{failures}
use Rattle.ftp_events.specs.Session.{session_by_history}
use Rattle.ftp_events.specs.Classes.{is_stop}
use Rattle.ftp_laws.proofs.Common.{due, meant, Options, Decision, Entry, EventKind, Answer, Session, is_number, is_refusal, named_session, past_of, opener, concerns, opens, history, session, IsRight}
use Rattle.ftp_laws.proofs.Cases.{by_test, by_option, by_part}
use Rattle.ftp_laws.proofs.ClassLemmas.{opened-is}
use Rattle.ftp_laws.proofs.DecisionLemmas.{live-row}
use Rattle.ftp_laws.proofs.SubjectLemmas.{named-concerns, concerns-plain, nobody-concerns}
use Rattle.ftp_laws.proofs.QuestionLemmas.{session-other, session-told, opener-other}
use Rattle.ftp_laws.proofs.HoldLemmas.{opened-fresh}
use Rattle.ftp_laws.proofs.NotificationLemmas.{unused-opener}
use Rattle.ftp_laws.proofs.PortLemmas.{IsAfter, session-before, opened-subject}
use Rattle.ftp_laws.proofs.EntryLemmas.{Comes, right-past}
use Rattle.ftp_audit.specs.Owner.{let_in, was_let_in, name_from, last_name, owner}
use Rattle.ftp_laws.proofs.TakenLemmas.{user_then}

-- ---- whom an entry names

-- whom an entry lets in it names
pub let_in-named : (d : Decision) (k : EventKind) (s : ℕ) → let_in d k ≡ Some s → named_session k ≡ Some s
let_in-named decision.LoggedIn (kind.AuthDone session answer) s h = h
let_in-named decision.LoggedIn k s h = cc
let_in-named d k s h = cc

-- from whom it takes a name it names too
name_from-named : (s : ℕ) (d : Decision) (k : EventKind) (name : List ℕ) → name_from s d k ≡ Some name → named_session k ≡ Some s
name_from-named s decision.NeedPass (kind.User session given) name h = go (session == s) refl h
  where
    go : (b : Bool) → (session == s) ≡ b → cond b (Some given) None ≡ Some name → Some session ≡ Some s
    go true e x = ap Some (eqb-true session s e)
    go false e x = cc
name_from-named s decision.NeedPass k name h = cc
name_from-named s d k name h = cc

-- by which decisions it does
pub let_in-decided : (d : Decision) (k : EventKind) (s : ℕ) → let_in d k ≡ Some s → d ≡ decision.LoggedIn
let_in-decided decision.LoggedIn k s h = refl
let_in-decided d k s h = cc

name_from-decided : (s : ℕ) (d : Decision) (k : EventKind) (name : List ℕ) → name_from s d k ≡ Some name → d ≡ decision.NeedPass
name_from-decided s decision.NeedPass k name h = refl
name_from-decided s d k name h = cc

-- an entry says nothing of who session s is
record IsSilent (s : ℕ) (d : Decision) (k : EventKind) : Type 0 where
  none : is_number (let_in d k) s ≡ false
  unnamed : name_from s d k ≡ None

number-some : (n : Option ℕ) (s : ℕ) → is_number n s ≡ true → n ≡ Some s
number-some None s h = cc
number-some (Some m) s h = ap Some (eqb-true m s h)

-- it says nothing where naming the session is ruled out
silent : (s : ℕ) (d : Decision) (k : EventKind) → (named_session k ≡ Some s → ⊥) → IsSilent s d k
silent s d k n =
    record {
      none = by_test (is_number (let_in d k) s) (λ h. absurd (n (let_in-named d k s (number-some (let_in d k) s h)))) (λ h. h);
      unnamed = by_option (name_from s d k) (λ h. h) (λ name h. absurd (n (name_from-named s d k name h)));
    }

-- and where it was refused
pub refused-let_in : (d : Decision) (k : EventKind) → is_refusal d ≡ true → let_in d k ≡ None
refused-let_in decision.LoggedIn k h = cc
refused-let_in d k h = refl

refused-name : (s : ℕ) (d : Decision) (k : EventKind) → is_refusal d ≡ true → name_from s d k ≡ None
refused-name s decision.NeedPass k h = cc
refused-name s d k h = refl

-- then nothing changes
silent-let_in : (past : List Entry) (e : Entry) (s : ℕ) → IsSilent s e.decision e.event.kind → was_let_in (e ∷ past) s ≡ was_let_in past s
silent-let_in past e s h = ap (λ (b : Bool). b || was_let_in past s) h.none

silent-name : (past : List Entry) (e : Entry) (s : ℕ) → IsSilent s e.decision e.event.kind → last_name (e ∷ past) s ≡ last_name past s
silent-name past e s h = ap (λ (n : Option (List ℕ)). unwrap_or n (last_name past s)) h.unnamed

-- the entries that were refused say nothing of it
of-past : {A : Type 0} (f : List Entry → A) → ((e : Entry) (log : List Entry) → is_refusal e.decision ≡ true → f (e ∷ log) ≡ f log) →
    ((e : Entry) (log past : List Entry) → f log ≡ f past → f (e ∷ log) ≡ f (e ∷ past)) → (log : List Entry) → f log ≡ f (past_of log)
of-past f refused more [] = refl
of-past f refused more (e ∷ log) = go (is_refusal e.decision) refl (of-past f refused more log)
  where
    go : (b : Bool) → is_refusal e.decision ≡ b → f log ≡ f (past_of log) → f (e ∷ log) ≡ f (cond (not b) (e ∷ past_of log) (past_of log))
    go true x h = refused e log x ∙ h
    go false x h = more e log (past_of log) h

pub let_in-past : (log : List Entry) (s : ℕ) → was_let_in log s ≡ was_let_in (past_of log) s
let_in-past log s =
    of-past (λ past. was_let_in past s) (λ e past x. ap (λ (n : Option ℕ). is_number n s || was_let_in past s) (refused-let_in e.decision e.event.kind x))
    (λ e log past h. ap (λ (b : Bool). is_number (let_in e.decision e.event.kind) s || b) h) log

pub name-past : (log : List Entry) (s : ℕ) → last_name log s ≡ last_name (past_of log) s
name-past log s =
    of-past (λ past. last_name past s) (λ e past x. ap (λ (n : Option (List ℕ)). unwrap_or n (last_name past s)) (refused-name s e.decision e.event.kind x))
    (λ e log past h. ap (unwrap_or (name_from s e.decision e.event.kind)) h) log

-- ---- what decisions on a login tell

-- an entry about a live session whose user is not logged in
record IsOut (o : Options) (past : List Entry) (k : EventKind) : Type 0 where
  number : ℕ
  view : Session
  named : named_session k ≡ Some number
  known : session o past number ≡ Some view
  out : is_logged_in view.login ≡ false

-- a row that is not chosen where somebody is logged in
no-login : (row : Login → Decision) (d : Decision) → (row login.LoggedIn ≡ d → ⊥) → (l : Login) → row l ≡ d → is_logged_in l ≡ false
no-login row d never login.LoggedIn x = absurd (never x)
no-login row d never l x = refl

-- a name is taken from one
named-out : (o : Options) (past : List Entry) (at : ℕ) (k : EventKind) (answer : Answer) → due o past at k answer ≡ decision.NeedPass → IsOut o past k
named-out o past at (kind.User s name) answer e =
    let live = live-row o past s (λ v. user_row v.login) decision.NeedPass (λ x. cc) e in
    record { number = s; view = live.0; named = refl; known = live.1; out = no-login user_row decision.NeedPass (λ x. cc) live.0.login live.2 }
named-out o past at k answer e = grind arith

-- a password is asked of one
asked-out : (o : Options) (past : List Entry) (at : ℕ) (k : EventKind) (answer : Answer) → due o past at k answer ≡ decision.PassOut → IsOut o past k
asked-out o past at (kind.Pass s) answer e =
    let live = live-row o past s (λ v. pass_row v.login) decision.PassOut (λ x. cc) e in
    record { number = s; view = live.0; named = refl; known = live.1; out = no-login pass_row decision.PassOut (λ x. cc) live.0.login live.2 }
asked-out o past at k answer e = grind arith

-- a login fails of one
failed-out :
    (o : Options) (past : List Entry) (at : ℕ) (k : EventKind) (answer : Answer) (lock : Option LockState) (delay : ℕ) →
    due o past at k answer ≡ decision.LoginFailed lock delay → IsOut o past k
failed-out o past at (kind.AuthDone s said) answer lock delay e =
    let live = live-row o past s (λ v. auth_row o.lockout at (own_failures o (failures o past) v) said v.login) (decision.LoginFailed lock delay) (λ x. cc) e in
    record {
      number = s;
      view = live.0;
      named = refl;
      known = live.1;
      out = no-login (auth_row o.lockout at (own_failures o (failures o past) live.0) said) (decision.LoginFailed lock delay) (λ x. cc) live.0.login live.2;
    }
failed-out o past at k answer lock delay e = grind arith

-- a user is let in by the answer on the password of a live session
pub record IsLetIn (o : Options) (past : List Entry) (k : EventKind) : Type 0 where
  pub number : ℕ
  pub said : AuthAnswer
  pub view : Session
  pub is : k ≡ kind.AuthDone number said
  pub known : session o past number ≡ Some view

pub let-in-known : (o : Options) (past : List Entry) (at : ℕ) (k : EventKind) (answer : Answer) → due o past at k answer ≡ decision.LoggedIn → IsLetIn o past k
let-in-known o past at (kind.AuthDone s said) answer e =
    let live = live-row o past s (λ v. auth_row o.lockout at (own_failures o (failures o past) v) said v.login) decision.LoggedIn (λ x. cc) e in
    record { number = s; said = said; view = live.0; is = refl; known = live.1 }
let-in-known o past at k answer e = grind arith

-- ---- the owner of each number

-- who each number belongs to, and what the past says of it
record IsOwned (o : Options) (past : List Entry) (s : ℕ) : Type 0 where
  fresh : opener past s ≡ None → (was_let_in past s ≡ false) × (last_name past s ≡ codes "unknown")
  live : (v : Session) → session o past s ≡ Some v → (was_let_in past s ≡ is_logged_in v.login) × (last_name past s ≡ unwrap_or v.name (codes "unknown"))

-- at first a number is nobody's
owned-empty : (o : Options) (s : ℕ) → IsOwned o [] s
owned-empty o s = record { fresh = λ n. (refl, refl); live = λ v n. let c : None ≡ Some v = n in cc }

-- of an entry that is decided as it has to be
module _ (o : Options) (past : List Entry) (e : Entry) (fit : e.decision ≡ due o past e.event.at e.event.kind e.answer) where
  -- a session that an entry names, and concerns, is one
  named-same : (s q : ℕ) → is_stop e.decision ≡ false → concerns o past e s ≡ true → named_session e.event.kind ≡ Some q → q ≡ s
  named-same s q plain c named =
      let meant-is : meant o past e ≡ Some q = rw named refl in
      eqb-true q s (ap (λ (n : Option ℕ). is_number n s) (sym meant-is) ∙ (sym (concerns-plain o past e s plain) ∙ c))

  -- an opening concerns nobody
  opening-alone : (s : ℕ) → e.decision ≡ decision.Opened → concerns o past e s ≡ false
  opening-alone s d = nobody-concerns o past e s (opened-subject o past e d (sym fit ∙ d))

  -- a user that was out stays so, or is let in
  out-is : (s : ℕ) (v : Session) → is_stop e.decision ≡ false → concerns o past e s ≡ true → session o past s ≡ Some v → IsOut o past e.event.kind → is_logged_in v.login ≡ false
  out-is s v plain c known out =
      let same : out.number ≡ s = named-same s out.number plain c out.named in
      let view : Some out.view ≡ Some v = sym out.known ∙ (ap (session o past) same ∙ known) in
      let equal : out.view ≡ v = cc in
      ap (λ (w : Session). is_logged_in w.login) (sym equal) ∙ out.out

  -- nothing is said of a number that is not live
  silent-unlive : (s : ℕ) → session o past s ≡ None → IsSilent s e.decision e.event.kind
  silent-unlive s none =
      record {
        none = by_test (is_number (let_in e.decision e.event.kind) s) (λ h. absurd (no_login h)) (λ h. h);
        unnamed = by_option (name_from s e.decision e.event.kind) (λ h. h) (λ name h. absurd (no_name name h));
      }
    where
      no_login : is_number (let_in e.decision e.event.kind) s ≡ true → ⊥
      no_login h =
          let is = number-some (let_in e.decision e.event.kind) s h in
          let d : e.decision ≡ decision.LoggedIn = let_in-decided e.decision e.event.kind s is in
          let known = let-in-known o past e.event.at e.event.kind e.answer (sym fit ∙ d) in
          let named : Some known.number ≡ Some s = sym (ap named_session known.is) ∙ let_in-named e.decision e.event.kind s is in
          let same : known.number ≡ s = cc in
          let z : None ≡ Some known.view = sym none ∙ (ap (session o past) (sym same) ∙ known.known) in
          cc

      no_name : (name : List ℕ) → name_from s e.decision e.event.kind ≡ Some name → ⊥
      no_name name h =
          let d : e.decision ≡ decision.NeedPass = name_from-decided s e.decision e.event.kind name h in
          let out = named-out o past e.event.at e.event.kind e.answer (sym fit ∙ d) in
          let named : Some out.number ≡ Some s = sym out.named ∙ name_from-named s e.decision e.event.kind name h in
          let same : out.number ≡ s = cc in
          let z : None ≡ Some out.view = sym none ∙ (ap (session o past) (sym same) ∙ out.known) in
          cc

  -- what an entry about a live session says of its login and its name
  record IsSaid (s : ℕ) (v : Session) : Type 0 where
    let_in_is : (was : Bool) → was ≡ is_logged_in v.login → (is_number (let_in e.decision e.event.kind) s || was) ≡ is_logged_in (unwrap_or (login_by e.decision) v.login)
    name_is : (last : List ℕ) → last ≡ unwrap_or v.name (codes "unknown") → unwrap_or (name_from s e.decision e.event.kind) last ≡ unwrap_or (unwrap_or (name_by e.decision e.event.kind) v.name) (codes "unknown")
    user_is : cond (is_logged_in (unwrap_or (login_by e.decision) v.login)) (unwrap_or (unwrap_or (name_by e.decision e.event.kind) v.name) (codes "unknown")) (codes "unknown") ≡ user_then e.decision v

  user-by : (l : Login) (name : Option (List ℕ)) → cond (is_logged_in l) (unwrap_or name (codes "unknown")) (codes "unknown") ≡ logged_user l name
  user-by login.LoggedIn name = refl
  user-by l name = refl

  said : (s : ℕ) (v : Session) → concerns o past e s ≡ true → session o past s ≡ Some v → IsSaid s v
  said s v c known = go e.decision refl
    where
      plain-by : (d : Decision) → e.decision ≡ d → is_stop d ≡ false → is_stop e.decision ≡ false
      plain-by d x p = ap is_stop x ∙ p

      due-is : (d : Decision) → e.decision ≡ d → due o past e.event.at e.event.kind e.answer ≡ d
      due-is d x = sym fit ∙ x

      -- a decision that leaves the login, and takes no name
      leaves :
          (d : Decision) → e.decision ≡ d → login_by d ≡ None → ((k : EventKind) → let_in d k ≡ None) → ((k : EventKind) → name_from s d k ≡ None) → ((k : EventKind) → name_by d k ≡ None) →
          IsSaid s v
      leaves d x l i n b =
          record {
            let_in_is = λ was h. rw (x, l, i e.event.kind) h;
            name_is = λ last h. rw (x, n e.event.kind, b e.event.kind) h;
            user_is = rw (x, l, b e.event.kind) (user-by v.login v.name);
          }

      -- one after which the user is out
      puts_out :
          (d : Decision) (l : Login) → e.decision ≡ d → login_by d ≡ Some l → is_logged_in l ≡ false → ((name : Option (List ℕ)) → logged_user l name ≡ codes "unknown") → ((k : EventKind) → let_in d k ≡ None) →
          is_logged_in v.login ≡ false →
          ((last : List ℕ) → last ≡ unwrap_or v.name (codes "unknown") → unwrap_or (name_from s d e.event.kind) last ≡ unwrap_or (unwrap_or (name_by d e.event.kind) v.name) (codes "unknown")) →
          IsSaid s v
      puts_out d l x lb out un i was_out name =
          record {
            let_in_is = λ was h. rw (x, lb, i e.event.kind, out) (h ∙ was_out);
            name_is = λ last h. rw x (name last h);
            user_is = rw (x, lb, out) (sym (un v.name));
          }

      by_name : e.decision ≡ decision.NeedPass → (k : EventKind) → (named_session k ≡ Some s) → (last : List ℕ) → last ≡ unwrap_or v.name (codes "unknown") → unwrap_or (name_from s decision.NeedPass k) last ≡ unwrap_or (unwrap_or (name_by decision.NeedPass k) v.name) (codes "unknown")
      by_name x (kind.User q name) named last h = let same : q ≡ s = cc in rw (same, eq-eqb s s refl) refl
      by_name x k named last h = h

      go : (d : Decision) → e.decision ≡ d → IsSaid s v
      go decision.Opened x = absurd (true≢false (sym c ∙ opening-alone s x))
      go decision.NeedPass x =
          let out = named-out o past e.event.at e.event.kind e.answer (due-is decision.NeedPass x) in
          let plain = plain-by decision.NeedPass x refl in
          puts_out decision.NeedPass login.Named x refl refl (λ n. refl) (λ k. refl) (out-is s v plain c known out)
          (by_name x e.event.kind (out.named ∙ ap Some (named-same s out.number plain c out.named)))
      go decision.PassOut x =
          let out = asked-out o past e.event.at e.event.kind e.answer (due-is decision.PassOut x) in
          let plain = plain-by decision.PassOut x refl in
          puts_out decision.PassOut login.Checking x refl refl (λ n. refl) (λ k. refl) (out-is s v plain c known out) (λ last h. h)
      go (decision.LoginFailed lock delay) x =
          let out = failed-out o past e.event.at e.event.kind e.answer lock delay (due-is (decision.LoginFailed lock delay) x) in
          let plain = plain-by (decision.LoginFailed lock delay) x refl in
          puts_out (decision.LoginFailed lock delay) login.New x refl refl (λ n. refl) (λ k. refl) (out-is s v plain c known out) (λ last h. h)
      go decision.LoggedIn x =
          let let-in = let-in-known o past e.event.at e.event.kind e.answer (due-is decision.LoggedIn x) in
          let plain = plain-by decision.LoggedIn x refl in
          let same : let-in.number ≡ s = named-same s let-in.number plain c (ap named_session let-in.is) in
          record {
            let_in_is = λ was h. rw (x, let-in.is, same, eq-eqb s s refl) refl;
            name_is = λ last h. rw x h;
            user_is = rw x refl;
          }
      go d x = leaves d x refl (λ k. refl) (λ k. refl) (λ k. refl)

  -- who a number belongs to stays in step with the past
  owned-step : (s : ℕ) → IsOwned o past s → IsOwned o (e ∷ past) s
  owned-step s h = by_part o past e s opened own other
    where
      -- an entry that says nothing of a number that nobody has
      kept : IsSilent s e.decision e.event.kind → opener past s ≡ None → (was_let_in (e ∷ past) s ≡ false) × (last_name (e ∷ past) s ≡ codes "unknown")
      kept q n = (silent-let_in past e s q ∙ (h.fresh n).0, silent-name past e s q ∙ (h.fresh n).1)

      opened : opens e s ≡ true → IsOwned o (e ∷ past) s
      opened n =
          let d : e.decision ≡ decision.Opened = opened-is e.event.kind e.decision s n in
          let before : opener past s ≡ None = unused-opener past s (opened-fresh o past e s fit n) in
          let q : IsSilent s e.decision e.event.kind = rw d (record { none = refl; unnamed = refl }) in
          let start : history o (e ∷ past) s ≡ e ∷ [] = rw n refl in
          record {
            fresh = λ x. kept q before;
            live = λ v x.
                (let told : session_by_history s (e ∷ []) v.opening ≡ v = subst (λ (hs : List Entry). session_by_history s hs v.opening ≡ v) start (session-told o (e ∷ past) s v x).told in
                let login_is : v.login ≡ login.New = ap (λ (w : Session). w.login) (sym told) ∙ rw d refl in
                let name_is : v.name ≡ None = ap (λ (w : Session). w.name) (sym told) ∙ rw d refl in
                ((kept q before).0 ∙ sym (ap is_logged_in login_is), (kept q before).1 ∙ sym (ap (λ (m : Option (List ℕ)). unwrap_or m (codes "unknown")) name_is)));
          }

      own : opens e s ≡ false → concerns o past e s ≡ true → IsOwned o (e ∷ past) s
      own n c =
          record {
            fresh = λ x.
                (let before : opener past s ≡ None = sym (opener-other past e s n) ∙ x in
                kept (unheld before) before);
            live = λ w x.
                (let b : IsAfter o past e s w = session-before o past e s w fit n c x in
                let t = said s b.before c b.known in
                let was = h.live b.before b.known in (
                  t.let_in_is (was_let_in past s) was.0 ∙ ap (λ (u : Session). is_logged_in u.login) b.after,
                  t.name_is (last_name past s) was.1 ∙ ap (λ (u : Session). unwrap_or u.name (codes "unknown")) b.after,
                ));
          }
        where
          -- nothing is said of a number that opened nothing
          unheld : opener past s ≡ None → IsSilent s e.decision e.event.kind
          unheld before = by_option (session o past s) (silent-unlive s) (λ v known. let z : None ≡ Some v.opening = sym before ∙ (session-told o past s v known).opening in cc)

      other : opens e s ≡ false → concerns o past e s ≡ false → IsOwned o (e ∷ past) s
      other n c =
          let q : IsSilent s e.decision e.event.kind = silent s e.decision e.event.kind (λ named. true≢false (sym (named-concerns o past e s named) ∙ c)) in
          record {
            fresh = λ x. kept q (sym (opener-other past e s n) ∙ x);
            live = λ v x. (let was = h.live v (sym (session-other o past e s n c) ∙ x) in (silent-let_in past e s q ∙ was.0, silent-name past e s q ∙ was.1));
          }

-- in every right log each number belongs to whom the past says
owned-log : (o : Options) (log : List Entry) (s : ℕ) → IsRight o log → IsOwned o (past_of log) s
owned-log o log s r = right-past o (λ past. IsOwned o past s) (owned-empty o s) (λ log e comes h. owned-step o (past_of log) e comes.fit s h) log r

-- after an entry about a live session its owner is the user of what the entry notifies
pub owner-then :
    (o : Options) (log : List Entry) (e : Entry) (s : ℕ) (v : Session) → Comes o log e →
    concerns o (past_of log) e s ≡ true → session o (past_of log) s ≡ Some v →
    owner (e ∷ log) s ≡ user_then e.decision v
owner-then o log e s v comes c known =
    let past = past_of log in
    let was = (owned-log o log s comes.right).live v known in
    let t = said o past e comes.fit s v c known in
    let let_in_is : was_let_in (e ∷ log) s ≡ is_logged_in (unwrap_or (login_by e.decision) v.login) = t.let_in_is (was_let_in log s) (let_in-past log s ∙ was.0) in
    let name_is : last_name (e ∷ log) s ≡ unwrap_or (unwrap_or (name_by e.decision e.event.kind) v.name) (codes "unknown") = t.name_is (last_name log s) (name-past log s ∙ was.1) in
    ap₂ (λ (b : Bool) (name : List ℕ). cond b name (codes "unknown")) let_in_is name_is ∙ t.user_is
