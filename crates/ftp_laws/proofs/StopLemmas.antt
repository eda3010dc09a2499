-- What is known of a stop, and what is none.
use Rattle.std.proofs.Common.{◌≡◌, refl, sym, ◌∙◌, ap, ℕ, Bool, true, false, not, ◌&&◌, ◌||◌, cond, List, ◌∷◌, Option, Some, None, arith}
use Rattle.std.specs.Option.{option_map_or}
use Rattle.ftp_events.specs.declared.decision.Decision.TheVariants as decision
use Rattle.ftp_events.specs.declared.event.EventKind.TheVariants as kind
use Rattle.ftp_events.specs.Classes.{is_stop}
use Rattle.ftp_laws.proofs.Common.{Options, is_legacy, Decision, Entry, EventKind, Answer, IpAddr, is_number, named_session, granted_port, is_client, gives_hold, comes_to, ends_hold, gives_up_hold, holder, opened_number, opens, lane, lives_on, session, running_job, due}
use Rattle.ftp_laws.proofs.ClassLemmas.{stop-is}
use Rattle.ftp_laws.proofs.SubjectLemmas.{stop-concerns}
use Rattle.ftp_laws.proofs.QuestionLemmas.{history-own}
use Rattle.ftp_laws.proofs.Cases.{by_test}

-- only a Shutdown is decided as a stop
pub stopped-kind :
    (o : Options) (past : List Entry) (at : ℕ) (k : EventKind) (answer : Answer) →
    due o past at k answer ≡ decision.Stopped →
    k ≡ kind.Shutdown
stopped-kind o past at kind.Shutdown answer h = refl
stopped-kind o past at k answer h = grind arith

-- so a stop that is decided as it has to be is one
pub stop-kind :
    (o : Options) (past : List Entry) (e : Entry) →
    e.decision ≡ due o past e.event.at e.event.kind e.answer → is_stop e.decision ≡ true →
    e.event.kind ≡ kind.Shutdown
stop-kind o past e fit n = stopped-kind o past e.event.at e.event.kind e.answer (sym fit ∙ stop-is e.decision n)

-- what names a session is no stop
pub named-plain :
    (o : Options) (past : List Entry) (e : Entry) (s : ℕ) →
    e.decision ≡ due o past e.event.at e.event.kind e.answer → named_session e.event.kind ≡ Some s →
    is_stop e.decision ≡ false
named-plain o past e s fit named =
    by_test (is_stop e.decision)
    (λ n. let z : None ≡ Some s = sym (ap named_session (stop-kind o past e fit n)) ∙ named in cc)
    (λ n. n)

-- what lets a session live is no stop
pub lives-plain : (d : Decision) → lives_on d ≡ true → is_stop d ≡ false
lives-plain d l =
    by_test (is_stop d)
    (λ n. let z : false ≡ true = sym (ap lives_on (stop-is d n)) ∙ l in cc)
    (λ n. n)

-- a stop opens no session
pub stop-opens : (e : Entry) (s : ℕ) → is_stop e.decision ≡ true → opens e s ≡ false
stop-opens e s n = ap (λ d. is_number (opened_number e.event.kind d) s) (stop-is e.decision n)

-- of an entry after a past
module _ (o : Options) (past : List Entry) (e : Entry) where
  -- after a stop no session is live
  pub session-stopped : (s : ℕ) → is_stop e.decision ≡ true → session o (e ∷ past) s ≡ None
  session-stopped s n = rw (history-own o past e s (stop-opens e s n) (stop-concerns o past e s n), stop-is e.decision n) refl

  -- the jobs that ran run on
  pub running-stopped : (s : ℕ) → is_stop e.decision ≡ true → running_job o (e ∷ past) s ≡ running_job o past s
  running-stopped s n =
      ap (λ h. (lane h).running) (history-own o past e s (stop-opens e s n) (stop-concerns o past e s n)) ∙ rw (stop-is e.decision n) refl

  -- and nobody holds a port
  pub holder-stopped : (a : IpAddr) (p : ℕ) → is_stop e.decision ≡ true → holder o (e ∷ past) a p ≡ None
  holder-stopped a p n = rw ungiven (go (comes_to o e a p) (holder o past a p))
    where
      ungiven : gives_hold o past e a p ≡ false
      ungiven = ap (λ d. not (is_legacy o.mode) && (is_number (granted_port d) p && is_client past (named_session e.event.kind) a)) (stop-is e.decision n) ∙ none (is_legacy o.mode)
        where
          none : (b : Bool) → (not b && false) ≡ false
          none true = refl
          none false = refl

      go : (b : Bool) (h : Option ℕ) → cond b None (cond (option_map_or (ends_hold e) h false) None h) ≡ None
      go true h = refl
      go false None = refl
      go false (Some q) = ap (λ x. cond (x || (is_number (named_session e.event.kind) q && gives_up_hold e.decision)) None (Some q)) n
