-- Whom an entry is about.
use Rattle.std.proofs.Common.{◌≡◌, refl, sym, ◌∙◌, ap, ℕ, ◌&&◌, ◌||◌, Bool, true, false, cond, List, Option, Some, None, eqb-true, eq-eqb}
use Rattle.std.specs.Prelude.{◌≢◌, ◌==◌}
use Rattle.std.proofs.lemmas.Bool.{or_right, or_parts}
use Rattle.ftp_events.specs.Classes.{is_stop}
use Rattle.ftp_events.specs.History.{Nobody, One, All, one_or_nobody, meant}
use Rattle.ftp_laws.proofs.Common.{Subject, Options, Entry, is_number, named_session, gives_up_hold, ends_hold, concerns, subject}
use Rattle.ftp_laws.proofs.Cases.{by_test}

-- of an entry after a past
module _ (o : Options) (past : List Entry) (e : Entry) where
  -- what is no stop is about the session that it is meant for, or nobody
  pub subject-plain : is_stop e.decision ≡ false → subject o past e ≡ one_or_nobody (meant o past e)
  subject-plain n = ap (λ b. cond b All (one_or_nobody (meant o past e))) n

  -- it concerns that session alone
  pub concerns-plain :
      (s : ℕ) → is_stop e.decision ≡ false →
      concerns o past e s ≡ is_number (meant o past e) s
  concerns-plain s n = ap (λ b. b || is_number (meant o past e) s) n

  -- it is not about all sessions
  pub not-all : is_stop e.decision ≡ false → subject o past e ≢ All
  not-all n h = go (meant o past e) (sym (subject-plain n) ∙ h)
    where
      go : (m : Option ℕ) → one_or_nobody m ≢ All
      go None x = cc
      go (Some m) x = cc

  -- a stop is
  pub stop-all : is_stop e.decision ≡ true → subject o past e ≡ All
  stop-all n = ap (λ b. cond b All (one_or_nobody (meant o past e))) n

  -- and nothing else is
  pub all-stop : subject o past e ≡ All → is_stop e.decision ≡ true
  all-stop h = by_test (is_stop e.decision) (λ n. n) (λ n. absurd (not-all n h))

  -- a stop concerns every session
  pub stop-concerns : (s : ℕ) → is_stop e.decision ≡ true → concerns o past e s ≡ true
  stop-concerns s n = ap (λ b. b || is_number (meant o past e) s) n

  -- so what does not concern a session is none
  pub other-plain : (s : ℕ) → concerns o past e s ≡ false → is_stop e.decision ≡ false
  other-plain s c = (or_parts (is_stop e.decision) (is_number (meant o past e) s) c).0

  -- what is about one session is no stop
  pub one-plain : (s : ℕ) → subject o past e ≡ One s → is_stop e.decision ≡ false
  one-plain s h = go (is_stop e.decision) h
    where
      go : (b : Bool) → cond b All (one_or_nobody (meant o past e)) ≡ One s → b ≡ false
      go true x = cc
      go false x = refl

  -- nor is what is about nobody
  nobody-plain : subject o past e ≡ Nobody → is_stop e.decision ≡ false
  nobody-plain h = go (is_stop e.decision) h
    where
      go : (b : Bool) → cond b All (one_or_nobody (meant o past e)) ≡ Nobody → b ≡ false
      go true x = cc
      go false x = refl

  -- what is no stop and concerns a session is about it alone
  pub concerned : (s : ℕ) → is_stop e.decision ≡ false → concerns o past e s ≡ true → subject o past e ≡ One s
  concerned s n c = subject-plain n ∙ go (meant o past e) (sym (concerns-plain s n) ∙ c)
    where
      go : (m : Option ℕ) → is_number m s ≡ true → one_or_nobody m ≡ One s
      go None x = cc
      go (Some m) x = ap One (eqb-true m s x)

  -- what is about one session is meant for it
  pub one-meant : (s : ℕ) → subject o past e ≡ One s → meant o past e ≡ Some s
  one-meant s h = go (meant o past e) (sym (subject-plain (one-plain s h)) ∙ h)
    where
      go : (m : Option ℕ) → one_or_nobody m ≡ One s → m ≡ Some s
      go None x = cc
      go (Some m) x = cc

  -- it concerns no other
  pub one-concerns : (s q : ℕ) → subject o past e ≡ One s → concerns o past e q ≡ (s == q)
  one-concerns s q h = concerns-plain q (one-plain s h) ∙ ap (λ m. is_number m q) (one-meant s h)

  -- and it concerns that one
  pub one-own : (s : ℕ) → subject o past e ≡ One s → concerns o past e s ≡ true
  one-own s h = one-concerns s s h ∙ eq-eqb s s refl

  -- and there is one such session
  pub one-same : (s q : ℕ) → subject o past e ≡ One s → subject o past e ≡ One q → s ≡ q
  one-same s q x y = eqb-true s q (sym (one-concerns s q x) ∙ one-own q y)

  -- what is about nobody concerns none
  pub nobody-concerns : (s : ℕ) → subject o past e ≡ Nobody → concerns o past e s ≡ false
  nobody-concerns s h = concerns-plain s plain ∙ go (meant o past e) (sym (subject-plain plain) ∙ h)
    where
      plain : is_stop e.decision ≡ false
      plain = nobody-plain h

      go : (m : Option ℕ) → one_or_nobody m ≡ Nobody → is_number m s ≡ false
      go None x = refl
      go (Some m) x = cc

  -- what is no stop and names a session is about it
  pub named-one :
      (s : ℕ) → is_stop e.decision ≡ false →
      named_session e.event.kind ≡ Some s → subject o past e ≡ One s
  named-one s n named = subject-plain n ∙ rw named refl

  -- what is meant for a session concerns it
  pub meant-concerns : (s : ℕ) → meant o past e ≡ Some s → concerns o past e s ≡ true
  meant-concerns s m = or_right (is_stop e.decision) (is_number (meant o past e) s) (ap (λ n. is_number n s) m ∙ eq-eqb s s refl)

  -- so does what names it
  pub named-concerns : (s : ℕ) → named_session e.event.kind ≡ Some s → concerns o past e s ≡ true
  named-concerns s named = meant-concerns s (rw named refl)

-- and ends only holds of the session that it names
pub ends-plain :
    (e : Entry) (s : ℕ) → is_stop e.decision ≡ false →
    ends_hold e s ≡ (is_number (named_session e.event.kind) s && gives_up_hold e.decision)
ends-plain e s n = ap (λ b. b || (is_number (named_session e.event.kind) s && gives_up_hold e.decision)) n

-- what gives up the slot of the session that it names ends that session's hold
pub named-ends :
    (e : Entry) (s : ℕ) → named_session e.event.kind ≡ Some s →
    gives_up_hold e.decision ≡ true → ends_hold e s ≡ true
named-ends e s named g =
    or_right (is_stop e.decision) (is_number (named_session e.event.kind) s && gives_up_hold e.decision) (rw (named, g, eq-eqb s s refl) refl)

-- an entry is about nobody, about one session, or about all
pub by_subject :
    {C : Type 0} (o : Options) (past : List Entry) (e : Entry) →
    (subject o past e ≡ Nobody → C) →
    ((s : ℕ) → subject o past e ≡ One s → C) →
    (subject o past e ≡ All → C) →
    C
by_subject {C = C} o past e none one all = go (subject o past e) refl
  where
    go : (x : Subject) → subject o past e ≡ x → C
    go Nobody h = none h
    go (One s) h = one s h
    go All h = all h
