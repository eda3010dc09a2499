-- How each table changes with an entry: one equation for all keys.
use Rattle.std.proofs.Common.{◌≡◌, refl, sym, ◌∙◌, ap, subst, ℕ, Bool, true, false, not, ◌&&◌, cond, List, ◌∷◌, Option, Some, None, eq-eqb, eqb-true}
use Rattle.std.specs.Prelude.{◌==◌}
use Rattle.std.specs.Option.{option_map_or}
use Rattle.std.proofs.Math.Bool.{and_comm}
use Rattle.ftp_events.specs.declared.decision.Decision.TheVariants.{Granted}
use Rattle.ftp_events.specs.Classes.{is_stop}
use Rattle.ftp_events.specs.Session.{next_running}
use Rattle.ftp_events.specs.History.{One, one_or_nobody}
use Rattle.ftp_laws.proofs.Common.{IpAddr, same_ip, Options, is_legacy, Entry, Session, is_number, named_session, opened_number, Target, target, granted_port, gives_hold, ends_hold, gives_up_hold, holder, subject, concerns, opens, lives_on, session, running_job}
use Rattle.ftp_laws.proofs.SubjectLemmas.{one-concerns, ends-plain, subject-plain}
use Rattle.ftp_laws.proofs.QuestionLemmas.{session-own, session-other, session_by, session-told, running-own, running-other}

-- an entry about session s, which opens no session
pub record IsAbout (o : Options) (past : List Entry) (e : Entry) (s : ℕ) : Type 0 where
  pub subject_is : subject o past e ≡ One s
  pub unopened : opened_number e.event.kind e.decision ≡ None

-- an entry that names session s, and is no data connection and no stop
pub record IsNamed (o : Options) (e : Entry) (s : ℕ) : Type 0 where
  pub named : named_session e.event.kind ≡ Some s
  pub no_target : target o e.event.kind e.answer ≡ None
  pub plain : is_stop e.decision ≡ false

-- nothing holds together with what is false
pub and-zero : (b : Bool) → (b && false) ≡ false
and-zero true = refl
and-zero false = refl

-- a choice between a value and itself
pub same-both : {A : Type 0} (b : Bool) (x : A) → cond b x x ≡ x
same-both true x = refl
same-both false x = refl

-- the order of two numbers does not matter
pub eq-comm : (m n : ℕ) → (m == n) ≡ (n == m)
eq-comm m n = go (m == n) (n == m) refl refl
  where
    go : (a b : Bool) → (m == n) ≡ a → (n == m) ≡ b → a ≡ b
    go true true x y = refl
    go false false x y = refl
    go true false x y = sym (eq-eqb n m (sym (eqb-true m n x))) ∙ y
    go false true x y = sym x ∙ eq-eqb m n (sym (eqb-true n m y))

-- what is left of a hold where session s gives its slot up
pub given-up :
    (o : Options) (e : Entry) (s : ℕ) → IsNamed o e s →
    (before : Option ℕ) →
    cond (option_map_or (ends_hold e) before false) None before ≡ cond (gives_up_hold e.decision && is_number before s) None before
given-up o e s n None = sym (same-both (gives_up_hold e.decision && false) None)
given-up o e s n (Some h) =
    let ends : ends_hold e h ≡ (gives_up_hold e.decision && (h == s)) = ends-plain e h n.plain ∙ rw (n.named, eq-comm s h) (and_comm (h == s) (gives_up_hold e.decision)) in
    ap (λ b. cond b None (Some h)) ends

-- a data connection, which is no stop
pub record IsArrival (o : Options) (e : Entry) (t : Target) : Type 0 where
  pub to : target o e.event.kind e.answer ≡ Some t
  pub unnamed : named_session e.event.kind ≡ None
  pub no_grant : granted_port e.decision ≡ None
  pub plain : is_stop e.decision ≡ false

-- an entry that names nobody and is no stop ends no hold by itself
pub unnamed-ends :
    (e : Entry) (before : Option ℕ) →
    named_session e.event.kind ≡ None → is_stop e.decision ≡ false →
    cond (option_map_or (ends_hold e) before false) None before ≡ before
unnamed-ends e None n plain = same-both (option_map_or (ends_hold e) None false) None
unnamed-ends e (Some h) n plain =
    let ends : ends_hold e h ≡ false = ends-plain e h plain ∙ rw n refl in
    ap (λ b. cond b None (Some h)) ends

-- of an entry after a past
module _ (o : Options) (past : List Entry) (e : Entry) where
  -- an entry about a session opens no number
  pub about-opens : (s q : ℕ) → IsAbout o past e s → opens e q ≡ false
  about-opens s q n = rw n.unopened refl

  -- it concerns its session alone
  pub about-concerns : (s q : ℕ) → IsAbout o past e s → concerns o past e q ≡ (s == q)
  about-concerns s q n = one-concerns o past e s q n.subject_is

  -- the sessions after it
  pub session-about :
      (s : ℕ) (v : Session) (q : ℕ) →
      IsAbout o past e s → session o past s ≡ Some v →
      session o (e ∷ past) q ≡ cond (s == q) (cond (lives_on e.decision) (Some (session_by s e (running_job o past s) v)) None) (session o past q)
  session-about s v q n known = go (s == q) refl
    where
      go :
          (b : Bool) → (s == q) ≡ b →
          session o (e ∷ past) q ≡ cond b (cond (lives_on e.decision) (Some (session_by s e (running_job o past s) v)) None) (session o past q)
      go true x =
          let same : s ≡ q = eqb-true s q x in
          subst (λ (r : ℕ). session o (e ∷ past) r ≡ cond (lives_on e.decision) (Some (session_by s e (running_job o past s) v)) None) same
          (session-own o past e s v known (about-opens s s n) (about-concerns s s n ∙ eq-eqb s s refl))
      go false x = session-other o past e q (about-opens s q n) (about-concerns s q n ∙ x)

  -- the jobs that run after it
  pub running-about :
      (s : ℕ) (v : Session) (q : ℕ) →
      IsAbout o past e s → session o past s ≡ Some v →
      running_job o (e ∷ past) q ≡ cond (s == q) (next_running e.event.kind e.answer e.decision (running_job o past s) v) (running_job o past q)
  running-about s v q n known = go (s == q) refl
    where
      go :
          (b : Bool) → (s == q) ≡ b →
          running_job o (e ∷ past) q ≡ cond b (next_running e.event.kind e.answer e.decision (running_job o past s) v) (running_job o past q)
      go true x =
          let same : s ≡ q = eqb-true s q x in
          subst (λ (r : ℕ). running_job o (e ∷ past) r ≡ next_running e.event.kind e.answer e.decision (running_job o past s) v) same
          (running-own o past e s v known (about-opens s s n) (about-concerns s s n ∙ eq-eqb s s refl))
      go false x = running-other o past e q (about-opens s q n) (about-concerns s q n ∙ x)

  -- an entry that grants nothing gives no hold
  pub no-gift : (a : IpAddr) (p : ℕ) → granted_port e.decision ≡ None → gives_hold o past e a p ≡ false
  no-gift a p n = rw n (and-zero (not (is_legacy o.mode)))

  -- the holders after an entry that names session s and grants nothing
  pub holder-named :
      (s : ℕ) (a : IpAddr) (p : ℕ) →
      IsNamed o e s → granted_port e.decision ≡ None →
      holder o (e ∷ past) a p ≡ cond (gives_up_hold e.decision && is_number (holder o past a p) s) None (holder o past a p)
  holder-named s a p n g = rw (no-gift a p g, n.no_target) (given-up o e s n (holder o past a p))

  -- the holders after a grant of a port to session s
  pub holder-granted :
      (s port : ℕ) (v : Session) (a : IpAddr) (p : ℕ) →
      is_legacy o.mode ≡ false → IsNamed o e s →
      e.decision ≡ Granted port → session o past s ≡ Some v →
      holder o (e ∷ past) a p ≡ cond ((port == p) && same_ip v.opening.client a) (Some s) (cond (is_number (holder o past a p) s) None (holder o past a p))
  holder-granted s port v a p m n d known =
      let gift : gives_hold o past e a p ≡ ((port == p) && same_ip v.opening.client a) = rw (m, n.named, d, (session-told o past s v known).opening) refl in
      let rest = given-up o e s n (holder o past a p) in
      rw (gift, n.named, n.no_target) (ap (cond ((port == p) && same_ip v.opening.client a) (Some s)) (rest ∙ rw d refl))

  -- a data connection is about the holder of its key
  pub arrival-about :
      (t : Target) (s : ℕ) →
      IsArrival o e t →
      opened_number e.event.kind e.decision ≡ None →
      holder o past t.client t.port ≡ Some s →
      IsAbout o past e s
  arrival-about t s n u h = record { subject_is = subject-plain o past e n.plain ∙ rw (n.unnamed, n.to) (ap one_or_nobody h); unopened = u }

  -- the holders after a data connection: its key is free, whatever was decided
  pub holder-arrived :
      (t : Target) (a : IpAddr) (p : ℕ) →
      IsArrival o e t →
      holder o (e ∷ past) a p ≡ cond (same_ip t.client a && (t.port == p)) None (holder o past a p)
  holder-arrived t a p n = rw (no-gift a p n.no_grant, n.to) (ap (cond (same_ip t.client a && (t.port == p)) None) (unnamed-ends e (holder o past a p) n.unnamed n.plain))

  -- the holders after any other entry
  pub holder-other :
      (a : IpAddr) (p : ℕ) →
      target o e.event.kind e.answer ≡ None →
      named_session e.event.kind ≡ None →
      granted_port e.decision ≡ None →
      is_stop e.decision ≡ false →
      holder o (e ∷ past) a p ≡ holder o past a p
  holder-other a p t n g plain = rw (no-gift a p g, t) (unnamed-ends e (holder o past a p) n plain)
