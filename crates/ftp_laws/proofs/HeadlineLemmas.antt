-- Every right and acted log serves its data connections and its PASVs as promised, and after a stop nothing more.
use Rattle.std.proofs.Common.{◌≡◌, refl, sym, ◌∙◌, ap, subst, ℕ, Bool, true, false, true≢false, not, ◌&&◌, cond, List, [], ◌∷◌, Option, Some, None}
use Rattle.std.specs.Prelude.{Contains, MatchOption, is_some}
use Rattle.std.specs.List.{flat_map}
use Rattle.std.specs.Option.{option_map_or}
use Rattle.std.proofs.lemmas.Bool.{and_parts, not-true}
use Rattle.ftp_options.specs.Host.{lacks_lookup}
use Rattle.ftp_options.specs.Modes.{is_pooled, is_passive_off}
use Rattle.ftp_events.specs.declared.action.Action.TheVariants.{Close}
use Rattle.ftp_events.specs.declared.decision.Decision.TheVariants as decision
use Rattle.ftp_events.specs.declared.event.EventKind.TheVariants as kind
use Rattle.ftp_events.specs.Board.{first_free_port}
use Rattle.ftp_events.specs.CommandRows.{is_logged_in, grant_row}
use Rattle.ftp_events.specs.Headline.{is_admitted, from_one_peer, IsClosed, AttachedByPeer, AttachedOrClosed, GrantedOrFull, AllServed}
use Rattle.ftp_events.specs.Log.{is_stopped}
use Rattle.ftp_events.specs.Session.{live_sessions}
use Rattle.ftp_laws.proofs.Common.{named_session, new_number, same_ip, Options, is_legacy, Action, Decision, Entry, EventKind, Session, past_of, is_refusal, Target, holder, session, due, decide, acts, acts_of, acts_for, IsRight, IsActed}
use Rattle.ftp_laws.proofs.QuestionLemmas.{session-told}
use Rattle.ftp_laws.proofs.HoldLemmas.{WaitsFor, holder-waits}
use Rattle.ftp_laws.proofs.LiveLemmas.{ascending-same, live_sessions-ascending, live_sessions-has}
use Rattle.ftp_laws.proofs.PartLemmas.{parts-all}
use Rattle.ftp_laws.proofs.ServiceLemmas.{turned-closes, barred-refused, Arrives, unbarred-arrives, opener-raw, arrival_row-held, arrival_row-unheld}
use Rattle.ftp_laws.proofs.AfterLemmas.{stopped-over, connection-turned, number-turned, command-over, OfJob}
use Rattle.ftp_laws.proofs.Cases.{by_test}

-- so a data connection is attached to the holder or closed, and closed where there is none
pub serves-connection :
    (o : Options) (log : List Entry) (e : Entry) (t : Target) →
    is_legacy o.mode ≡ false → IsRight o log →
    e.actions ≡ acts_of o (past_of log) e →
    Arrives o (past_of log) e.event.kind e.decision t →
    AttachedOrClosed o (past_of log) e t
serves-connection o log e t m r acted x = by_holder (holder o past t.client t.port) refl
  where
    past : List Entry
    past = past_of log

    closed : e.decision ≡ decision.Turned → IsClosed e
    closed turned = (
      x.number,
      turned,
      x.new decision.Turned,
      subst (λ (xs : List Action). Contains xs (Close x.number)) (sym acted) (turned-closes o past e x.number turned (x.new decision.Turned)),
    )

    by_mode :
        (s : ℕ) (w : WaitsFor o past s t.client t.port) →
        e.decision ≡ cond (same_ip w.view.opening.raw.ip x.raw.ip) (decision.Attached s) decision.Turned →
        (b : Bool) → is_pooled o.mode ≡ b →
        AttachedByPeer o past e s
    by_mode s w row true pooled =
        let own : w.view.opening.client ≡ w.view.opening.raw.ip = opener-raw o log pooled r s w.view.opening (session-told o past s w.view w.known).opening in
        let peer : same_ip w.view.opening.raw.ip x.raw.ip ≡ true = rw (sym own, x.direct pooled) w.client in
        record {
          attached = λ y. row ∙ rw peer refl;
          closed = λ y. absurd (true≢false (sym (rw pooled refl) ∙ y));
        }
    by_mode s w row false pooled =
        let peer : from_one_peer o past e.event.kind s ≡ same_ip w.view.opening.raw.ip x.raw.ip = rw (pooled, x.peer, (session-told o past s w.view w.known).opening) refl in
        record {
          attached = λ y. row ∙ rw (sym peer ∙ y) refl;
          closed = λ y. closed (row ∙ rw (sym peer ∙ y) refl);
        }

    by_holder :
        (h : Option ℕ) →
        holder o past t.client t.port ≡ h →
        MatchOption h (IsClosed e) (AttachedByPeer o past e)
    by_holder None h = closed (x.row ∙ by_test (is_stopped past) (λ n. rw n refl) (λ n. rw n (arrival_row-unheld o past x.raw t.client t.port h)))
    by_holder (Some s) h =
        let w : WaitsFor o past s t.client t.port = holder-waits o log m r t.client t.port s h in
        let going : is_stopped past ≡ false =
        by_test (is_stopped past) (λ n. let z : None ≡ Some s = sym ((stopped-over o log r n).free t.client t.port) ∙ h in cc) (λ n. n) in
        by_mode s w (x.row ∙ rw going (arrival_row-held o log m r x.raw t.client t.port s w h)) (is_pooled o.mode) refl

-- an admitted PASV is granted the first free port, or is told that there is none
pub serves-grant :
    (o : Options) (past : List Entry) (e : Entry) (s word : ℕ) (lookup bound : Option ℕ) (v : Session) →
    is_legacy o.mode ≡ false →
    e.decision ≡ due o past e.event.at e.event.kind e.answer →
    e.event.kind ≡ kind.Pasv s word lookup bound →
    session o past s ≡ Some v →
    is_admitted o e.event.kind v ≡ true →
    GrantedOrFull o past e v word
serves-grant o past e s word lookup bound v m fit k known admitted =
    go (first_free_port o past v.opening.client word) row
  where
    served : Bool
    served = is_logged_in v.login && not (is_passive_off o.active_passive)

    shown : (served ≡ true) × (not (lacks_lookup o.host lookup) ≡ true)
    shown = and_parts served (not (lacks_lookup o.host lookup)) (subst (λ (x : EventKind). is_admitted o x v ≡ true) k admitted)

    parts : (is_logged_in v.login ≡ true) × (not (is_passive_off o.active_passive) ≡ true)
    parts = and_parts (is_logged_in v.login) (not (is_passive_off o.active_passive)) shown.0

    row : e.decision ≡ option_map_or (grant_row o.host lookup) (first_free_port o past v.opening.client word) decision.Full
    row = fit ∙ rw (k, known, parts.0, not-true _ parts.1, m) refl

    go :
        (f : Option ℕ) →
        e.decision ≡ option_map_or (grant_row o.host lookup) f decision.Full →
        MatchOption f (e.decision ≡ decision.Full) (λ p. e.decision ≡ decision.Granted p)
    go None x = x
    go (Some p) x = x ∙ rw (not-true _ shown.1) refl

-- where there is no legacy listener, every entry of a right and acted log is served as the headline says
pub all-served :
    (o : Options) (log : List Entry) →
    is_legacy o.mode ≡ false → IsRight o log →
    IsActed o log → AllServed o log
unfolding decide acts
all-served o [] m r a = tt
all-served o (e ∷ log) m r a = (
  all-served o log m r.0 a.0,
  record {
    connections = λ t w b.
        serves-connection o log e t m r.0 a.1
        (subst (λ (d : Decision). Arrives o (past_of log) e.event.kind d t) (sym r.1) (unbarred-arrives o (past_of log) e.event.at e.event.kind e.answer t w b));
    refusals = λ b. ap is_refusal r.1 ∙ barred-refused o (past_of log) e.event.at e.event.kind e.answer b;
    after_stop = λ n p b.
        let turned = connection-turned o (past_of log) e.event.at e.event.kind e.answer n p b in
        let d : e.decision ≡ decision.Turned = r.1 ∙ turned.0 in (
          turned.1.0,
          d,
          turned.1.1,
          subst (λ (xs : List Action). Contains xs (Close turned.1.0)) (sym a.1) (turned-closes o (past_of log) e turned.1.0 d turned.1.1),
        );
    grants = λ s word lookup bound v k known admitted. serves-grant o (past_of log) e s word lookup bound v m r.1 k known admitted;
  },
)

-- after a stop a new connection that is not refused is turned away and closed
pub newcomers-closed :
    (o : Options) (log : List Entry) (e : Entry) → IsRight o (e ∷ log) → IsActed o (e ∷ log) → is_stopped (past_of log) ≡ true →
    is_some (new_number e.event.kind e.decision) ≡ true → is_refusal e.decision ≡ false →
    IsClosed e
unfolding decide acts
newcomers-closed o log e r a n w c =
    let turned = number-turned o (past_of log) e.event.at e.event.kind e.answer e.decision n (stopped-over o log r.0 n) r.1 c w in (
      turned.1.0,
      turned.0,
      turned.1.1,
      subst (λ (xs : List Action). Contains xs (Close turned.1.0)) (sym a.1) (turned-closes o (past_of log) e turned.1.0 turned.0 turned.1.1),
    )

-- and nothing is decided for a session but the pieces and the end of a job that ran
pub ends-served :
    (o : Options) (log : List Entry) (e : Entry) (s : ℕ) → IsRight o (e ∷ log) → is_stopped (past_of log) ≡ true →
    named_session e.event.kind ≡ Some s → is_refusal e.decision ≡ false →
    OfJob e.decision
unfolding decide
ends-served o log e s r n named c =
    subst OfJob (sym r.1) (command-over o (past_of log) e.event.at e.event.kind e.answer s (stopped-over o log r.0 n) named (ap is_refusal (sym r.1) ∙ c))

-- another stop does nothing
pub stops-again :
    (o : Options) (log : List Entry) (e : Entry) → IsRight o log → IsActed o (e ∷ log) → is_stopped (past_of log) ≡ true →
    e.decision ≡ decision.Stopped →
    e.actions ≡ []
stops-again o log e r a n d = parts-all o log e a d ∙ ap (flat_map (acts_for o (past_of log) e)) none
  where
    none : live_sessions o (past_of log) ≡ []
    none =
        ascending-same (live_sessions o (past_of log)) [] (live_sessions-ascending o log r) tt
        (λ s. live_sessions-has o (past_of log) s ∙ ap (λ (v : Option Session). is_some v) ((stopped-over o log r n).ended s))
