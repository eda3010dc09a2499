-- Two pasts that tell the same decide and do the same.
use Rattle.std.proofs.Common.{◌≡◌, refl, sym, ◌∙◌, ap, ℕ, false, List, ◌∷◌, Option, Some, None}
use Rattle.std.specs.Prelude.{filter, is_some}
use Rattle.std.specs.List.{flat_map}
use Rattle.std.specs.Option.{option_map_or, option_and_then}
use Rattle.ftp_base.specs.declared.login.AuthAnswer.{AuthAnswer}
use Rattle.ftp_events.specs.Acts.{session_acts}
use Rattle.ftp_events.specs.Classes.{is_stop}
use Rattle.ftp_events.specs.CommandRows.{own_failures}
use Rattle.ftp_events.specs.Lockout.{failures}
use Rattle.ftp_events.specs.Log.{is_stopped}
use Rattle.ftp_events.specs.LoginRows.{auth_row}
use Rattle.ftp_events.specs.Session.{opened_sessions, live_sessions}
use Rattle.ftp_laws.proofs.Common.{IpAddr, Options, Answer, Decision, Entry, EventKind, Opening, Session, Target, same_ip, named_session, new_number, granted_port, is_used, is_number, opened_number, opener, is_client, target, holder, holder_of_target, history, lane, session, running_job, due, acts_of}
use Rattle.ftp_laws.proofs.SubjectLemmas.{concerns-plain}
use Rattle.ftp_laws.proofs.QuestionLemmas.{opener-other, history-other}
use Rattle.ftp_laws.proofs.TableLemmas.{holder-other}
use Rattle.ftp_laws.proofs.ReadLemmas.{due-same, acts-same}

-- two pasts tell the same of sessions, jobs, ports and numbers
pub record TellSame (o : Options) (P K : List Entry) : Type 0 where
  pub sessions : (s : ℕ) → session o K s ≡ session o P s
  pub jobs : (s : ℕ) → running_job o K s ≡ running_job o P s
  pub holders : (a : IpAddr) (p : ℕ) → holder o K a p ≡ holder o P a p
  pub numbers : (n : ℕ) → is_used K n ≡ is_used P n
  pub stopped : is_stopped K ≡ is_stopped P
  pub live : live_sessions o K ≡ live_sessions o P

-- of two such pasts
module _ (o : Options) (P K : List Entry) (same : TellSame o P K) where
  -- an event comes for the same holder
  pub comes-same :
      (k : EventKind) (answer : Answer) →
      holder_of_target o K k answer ≡ holder_of_target o P k answer
  comes-same k answer = go (target o k answer)
    where
      go :
          (t : Option Target) →
          option_and_then (λ t. holder o K t.client t.port) t ≡ option_and_then (λ t. holder o P t.client t.port) t
      go None = refl
      go (Some t) = same.holders t.client t.port

  -- the same is decided, where the same is said of a password
  pub decided-same :
      (at : ℕ) (k : EventKind) (answer : Answer) →
      ((v : Session) (said : AuthAnswer) →
      auth_row o.lockout at (own_failures o (failures o K) v) said v.login ≡ auth_row o.lockout at (own_failures o (failures o P) v) said v.login) →
      due o K at k answer ≡ due o P at k answer
  decided-same at k answer passwords =
      due-same o P K at k answer
      (record {
        numbers = λ n c. same.numbers n;
        sessions = λ s n. same.sessions s;
        stopped = same.stopped;
        jobs = λ s n. same.jobs s;
        targets = λ t x. record { holders = same.holders t.client t.port; sessions = λ s h. same.sessions s };
        holders = λ s v n x p. same.holders v.opening.client p;
        passwords = λ s v said n x. passwords v said;
      })

  -- and done
  pub done-same : (e : Entry) → acts_of o K e ≡ acts_of o P e
  done-same e =
      acts-same o P K e (comes-same e.event.kind e.answer) (λ s x. (same.sessions s, same.jobs s))
      (λ about i. flat_map (λ s. session_acts o s e.event.kind e.answer e.decision (same.jobs s i) (same.sessions s i)) (same.live i))

-- two pasts have the same histories, ports and numbers
pub record AreSame (o : Options) (P K : List Entry) : Type 0 where
  pub openers : (s : ℕ) → opener K s ≡ opener P s
  pub histories : (s : ℕ) → history o K s ≡ history o P s
  pub holders : (a : IpAddr) (p : ℕ) → holder o K a p ≡ holder o P a p
  pub numbers : (n : ℕ) → is_used K n ≡ is_used P n
  pub stopped : is_stopped K ≡ is_stopped P
  pub opened : opened_sessions K ≡ opened_sessions P

-- so they tell the same
pub same-told : (o : Options) (P K : List Entry) → AreSame o P K → TellSame o P K
same-told o P K same =
    record {
      sessions = sessions;
      jobs = λ s. ap (λ h. (lane h).running) (same.histories s);
      holders = same.holders;
      numbers = same.numbers;
      stopped = same.stopped;
      live = λ i. filter (λ s. is_some (sessions s i)) (same.opened i);
    }
  where
    sessions : (s : ℕ) → session o K s ≡ session o P s
    sessions s = rw (same.openers s, same.histories s) refl

-- with one more entry they still do
pub same-more : (o : Options) (P K : List Entry) (e : Entry) → AreSame o P K → AreSame o (e ∷ P) (e ∷ K)
same-more o P K e same =
    record {
      openers = λ s. rw (same.openers s) refl;
      histories = λ s. rw (comes-same o P K (same-told o P K same) e.event.kind e.answer, same.histories s) refl;
      holders = λ a p. rw (client-same (named_session e.event.kind) a, same.holders a p) refl;
      numbers = λ n. rw (same.numbers n) refl;
      stopped = rw same.stopped refl;
      opened = rw same.opened refl;
    }
  where
    client-same : (n : Option ℕ) (a : IpAddr) → is_client K n a ≡ is_client P n a
    client-same None a = refl
    client-same (Some s) a = ap (λ (x : Option Opening). option_map_or (λ opening. same_ip opening.client a) x false) (same.openers s)

-- an entry that is for nobody: it names no session and carries no number
pub record IsForNobody (k : EventKind) (answer : Answer) (d : Decision) : Type 0 where
  pub unnamed : named_session k ≡ None
  pub untargeted : (o : Options) → target o k answer ≡ None
  pub unnumbered : new_number k d ≡ None
  pub unopened : opened_number k d ≡ None
  pub ungranted : granted_port d ≡ None
  pub plain : is_stop d ≡ false

-- without it a past is the same
pub nobody-same : (o : Options) (past : List Entry) (e : Entry) → IsForNobody e.event.kind e.answer e.decision → AreSame o (e ∷ past) past
nobody-same o past e nobody =
    record {
      openers = λ s. sym (opener-other past e s (ap (λ n. is_number n s) nobody.unopened));
      histories = λ s.
          sym
          (history-other o past e s (ap (λ n. is_number n s) nobody.unopened)
          (concerns-plain o past e s nobody.plain ∙ rw (nobody.unnamed, nobody.untargeted o) refl));
      holders = λ a p. sym (holder-other o past e a p (nobody.untargeted o) nobody.unnamed nobody.ungranted nobody.plain);
      numbers = λ n. rw nobody.unnumbered refl;
      stopped = rw nobody.plain refl;
      opened = rw nobody.unopened refl;
    }
