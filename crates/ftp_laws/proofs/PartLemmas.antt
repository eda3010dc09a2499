-- What an entry does for one session, among what it does.
use Rattle.std.proofs.Common.{◌≡◌, refl, sym, ◌∙◌, ap, ℕ, ◌+◌, Bool, true, false, cond, List, [], ◌∷◌, ◌++◌, Option, Some, None, arith, eqb-true, append-nil, append_assoc}
use Rattle.std.specs.Prelude.{◌==◌, count_by, filter_map, is_some}
use Rattle.std.specs.List.{flat_map}
use Rattle.std.specs.Option.{option_and_then}
use Rattle.std.proofs.lemmas.List.Elements.{filter_map-append}
use Rattle.ftp_events.specs.declared.action.Action.TheVariants as action
use Rattle.ftp_events.specs.declared.decision.Decision.TheVariants as decision
use Rattle.ftp_events.specs.Classes.{is_stop}
use Rattle.ftp_events.specs.Session.{live_sessions}
use Rattle.ftp_events.specs.History.{All}
use Rattle.ftp_events.specs.declared.event.EventKind.TheVariants as kind
use Rattle.ftp_laws.specs.Stops.{logout, parting}
use Rattle.ftp_laws.proofs.StopLemmas.{stop-kind}
use Rattle.ftp_laws.proofs.Common.{due, decide, acts, past_of, cancellations, closings, link_in, IsRight, IsActed, Options, Ticket, Action, Entry, Session, is_refusal, subject, concerns, session, running_job, acts_of, acts_for, completions, stays, drop_acts, slot_of, pending_in, start_acts, starting}
use Rattle.ftp_laws.specs.Census.{IsAscending, has}
use Rattle.ftp_laws.proofs.ClassLemmas.{stop-is}
use Rattle.ftp_laws.proofs.SubjectLemmas.{concerned, stop-all, all-stop}
use Rattle.ftp_laws.proofs.LiveLemmas.{live_sessions-has, above-lacks}
use Rattle.ftp_laws.proofs.CountLemmas.{IsOnTransfers, started_in, count-append, count-drop_acts, count-session_acts, count-about}
use Rattle.ftp_laws.proofs.BalanceLemmas.{no-completion}
use Rattle.ftp_laws.proofs.Cases.{by_test, by_option}

-- where no part has any, none has the whole
pub count-parts-none :
    (p : Action → Bool) (f : ℕ → List Action) (xs : List ℕ) →
    ((q : ℕ) → count_by p (f q) ≡ 0) →
    count_by p (flat_map f xs) ≡ 0
count-parts-none p f [] none = refl
count-parts-none p f (x ∷ xs) none = omega (arith, count-append p (f x) (flat_map f xs), none x, count-parts-none p f xs none)

-- where only the part of s has any, the whole has as many, if s stands in the list
pub count-parts-one :
    (p : Action → Bool) (f : ℕ → List Action) (s : ℕ) (xs : List ℕ) → IsAscending xs →
    ((q : ℕ) → (q == s) ≡ false → count_by p (f q) ≡ 0) →
    count_by p (flat_map f xs) ≡ cond (has xs s) (count_by p (f s)) 0
count-parts-one p f s [] a others = refl
count-parts-one p f s (x ∷ xs) a others =
    by_test (x == s)
    (λ t.
    let rest : count_by p (flat_map f xs) ≡ 0 = count-parts-one p f s xs a.1 others ∙ ap (λ b. cond b (count_by p (f s)) 0) (above-lacks x s xs t a.0) in
    let here : count_by p (f x) ≡ count_by p (f s) = ap (λ m. count_by p (f m)) (eqb-true x s t) in
    rw t (omega (arith, count-append p (f x) (flat_map f xs), rest, here)))
    (λ t. rw t (omega (arith, count-append p (f x) (flat_map f xs), others x t, count-parts-one p f s xs a.1 others)))

-- what is taken from the parts is what is taken from that of s, if s stands in the list
pub taken-parts-one :
    {B : Type 0} (tells : Action → Option B) (f : ℕ → List Action) (s : ℕ) (xs : List ℕ) → IsAscending xs →
    ((q : ℕ) → (q == s) ≡ false → filter_map tells (f q) ≡ []) →
    filter_map tells (flat_map f xs) ≡ cond (has xs s) (filter_map tells (f s)) []
taken-parts-one tells f s [] a others = refl
taken-parts-one tells f s (x ∷ xs) a others =
    by_test (x == s)
    (λ t.
    let rest : filter_map tells (flat_map f xs) ≡ [] = taken-parts-one tells f s xs a.1 others ∙ ap (λ b. cond b (filter_map tells (f s)) []) (above-lacks x s xs t a.0) in
    rw t
    (filter_map-append tells (f x) (flat_map f xs)
    ∙ (ap (λ ys. filter_map tells (f x) ++ ys) rest ∙ (append-nil (filter_map tells (f x)) ∙ ap (λ m. filter_map tells (f m)) (eqb-true x s t)))))
    (λ t.
    rw t
    (filter_map-append tells (f x) (flat_map f xs)
    ∙ (ap (λ ys. ys ++ filter_map tells (flat_map f xs)) (others x t) ∙ taken-parts-one tells f s xs a.1 others)))

-- of an entry that counts, with its actions
module _ (o : Options) (past : List Entry) (e : Entry) (counts : is_refusal e.decision ≡ false) (acted : e.actions ≡ acts_of o past e) where
  -- a stop does for each live session what it does for it
  pub stop-acts : subject o past e ≡ All → e.actions ≡ flat_map (acts_for o past e) (live_sessions o past)
  stop-acts about = acted ∙ rw (counts, about) refl

  -- where none is done for any session, a stop does none
  pub count-stop-none :
      (p : Action → Bool) → subject o past e ≡ All →
      ((q : ℕ) → count_by p (acts_for o past e q) ≡ 0) →
      count_by p e.actions ≡ 0
  count-stop-none p about none = ap (count_by p) (stop-acts about) ∙ count-parts-none p (acts_for o past e) (live_sessions o past) none

  -- what a stop does for a session
  pub count-stop_acts :
      (p : Action → Bool) (q : ℕ) → IsOnTransfers q p → subject o past e ≡ All →
      count_by p (acts_for o past e q) ≡ count_by p (drop_acts q (stays e.decision (session o past q)) e.decision (slot_of (session o past q)) (pending_in (session o past q)))
  count-stop_acts p q on about =
      let stopped : e.decision ≡ decision.Stopped = stop-is e.decision (all-stop o past e about) in
      omega (
        arith,
        count-session_acts p o q e.event.kind e.answer e.decision (running_job o past q) (session o past q) on,
        ap (count_by p) (no-completion q e.decision e.event.kind (stays e.decision (session o past q)) (running_job o past q) (rw stopped refl)),
        ap (λ j. count_by p (start_acts j)) (unstarted stopped (session o past q)),
      )
    where
      unstarted :
          e.decision ≡ decision.Stopped → (v : Option Session) →
          option_and_then (starting e.event.kind e.decision (running_job o past q)) v ≡ None
      unstarted stopped None = refl
      unstarted stopped (Some v) = rw stopped refl

  -- a stop starts and completes nothing
  pub count-stop-idle :
      (p : Action → Bool) → ((q : ℕ) → IsOnTransfers q p) → ((t : Ticket) → p (action.Cancelled t) ≡ false) →
      subject o past e ≡ All → count_by p e.actions ≡ 0
  count-stop-idle p on cancelled about =
      count-stop-none p about
      (λ q.
      let v : Option Session = session o past q in
      count-stop_acts p q (on q) about
      ∙ count-drop_acts p q (stays e.decision v) e.decision (slot_of v) (pending_in v) (on q) cancelled)

  -- what an entry that concerns session s does for transfers of s alone
  pub count-concern :
      (p : Action → Bool) (s : ℕ) → IsOnTransfers s p → concerns o past e s ≡ true →
      IsAscending (live_sessions o past) →
      (subject o past e ≡ All → (q : ℕ) → (q == s) ≡ false → count_by p (acts_for o past e q) ≡ 0) →
      count_by p e.actions ≡ count_by p (completions s e.event.kind e.decision (stays e.decision (session o past s)) (running_job o past s)) + count_by p (drop_acts s (stays e.decision (session o past s)) e.decision (slot_of (session o past s)) (pending_in (session o past s))) + count_by p (start_acts (started_in o past e s))
  count-concern p s on c ascends others =
      by_test (is_stop e.decision) stopped (λ n. count-about p o past e s on counts acted (concerned o past e s n c))
    where
      v : Option Session
      v = session o past s

      whole : ℕ
      whole = count_by p (completions s e.event.kind e.decision (stays e.decision v) (running_job o past s)) + count_by p (drop_acts s (stays e.decision v) e.decision (slot_of v) (pending_in v)) + count_by p (start_acts (started_in o past e s))

      part : count_by p (acts_for o past e s) ≡ whole
      part = count-session_acts p o s e.event.kind e.answer e.decision (running_job o past s) v on

      gone : e.decision ≡ decision.Stopped → session o past s ≡ None → count_by p (acts_for o past e s) ≡ 0
      gone d none =
          let empty : drop_acts s (stays e.decision (session o past s)) e.decision (slot_of (session o past s)) (pending_in (session o past s)) ≡ [] = rw (none, d) refl in
          count-stop_acts p s on (stop-all o past e (ap is_stop d)) ∙ ap (count_by p) empty

      stopped : is_stop e.decision ≡ true → count_by p e.actions ≡ whole
      stopped n =
          let about : subject o past e ≡ All = stop-all o past e n in
          let there : has (live_sessions o past) s ≡ is_some v = live_sessions-has o past s in
          let all : count_by p e.actions ≡ cond (is_some v) (count_by p (acts_for o past e s)) 0 =
          ap (count_by p) (stop-acts about)
          ∙ (count-parts-one p (acts_for o past e) s (live_sessions o past) ascends (others about)
          ∙ ap (λ b. cond b (count_by p (acts_for o past e s)) 0) there) in
          by_option v
          (λ none. all ∙ (ap (λ x. cond (is_some x) (count_by p (acts_for o past e s)) 0) none ∙ (sym (gone (stop-is e.decision n) none) ∙ part)))
          (λ w known. all ∙ (ap (λ x. cond (is_some x) (count_by p (acts_for o past e s)) 0) known ∙ part))

-- what a stop does for a session that is live
pub stop-parting :
    (o : Options) (past : List Entry) (e : Entry) (s : ℕ) (v : Session) →
    e.decision ≡ due o past e.event.at e.event.kind e.answer → is_stop e.decision ≡ true →
    session o past s ≡ Some v → acts_for o past e s ≡ parting s v
stop-parting o past e s v fit n known =
    let k : e.event.kind ≡ kind.Shutdown = stop-kind o past e fit n in
    let d : e.decision ≡ decision.Stopped = stop-is e.decision n in
    rw (k, d, known) (regroup (cancellations s false v.pending ++ closings (link_in v.slot)) (logout s v) (action.Close s))
  where
    regroup :
        (xs : List Action) (l c : Action) →
        ((((xs ++ []) ++ ((l ∷ []) ++ [])) ++ []) ++ (c ∷ [])) ≡ xs ++ l ∷ c ∷ []
    regroup xs l c = rw (append-nil xs, append-nil (xs ++ l ∷ [])) (append_assoc xs (l ∷ []) (c ∷ []))

-- a stop does its part for each live session
pub parts-all :
    (o : Options) (log : List Entry) (e : Entry) → IsActed o (e ∷ log) → e.decision ≡ decision.Stopped →
    e.actions ≡ flat_map (acts_for o (past_of log) e) (live_sessions o (past_of log))
unfolding acts
parts-all o log e a d = stop-acts o (past_of log) e (ap is_refusal d) a.1 (stop-all o (past_of log) e (ap is_stop d))

-- which is the same for each
pub parting-same :
    (o : Options) (log : List Entry) (e : Entry) (s : ℕ) (v : Session) → IsRight o (e ∷ log) → e.decision ≡ decision.Stopped →
    session o (past_of log) s ≡ Some v →
    acts_for o (past_of log) e s ≡ parting s v
unfolding decide
parting-same o log e s v r d known = stop-parting o (past_of log) e s v r.1 (ap is_stop d) known
