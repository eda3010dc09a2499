-- The tables after a control connection that opens a session.
use Rattle.std.proofs.Common.{◌≡◌, refl, sym, ap, ◌∙◌, subst, ℕ, ◌+◌, Bool, true, false, cond, ◌||◌, List, [], ◌∷◌, Option, Some, None, eqb-true}
use Rattle.std.specs.Prelude.{◌==◌, nat_eq}
use Rattle.std.specs.HashMap as map
use Rattle.ftp_hub.proofs.Common.{Action, Answer, Entry, Hub, HubEvent, Jobs, Options, Serves, Stands, Tables, V4, acts, decide, entry, failures, failures_in, has, history, holder, holder_at, is_used, past_of, running_job, same-both, session}
use Rattle.ftp_events.specs.declared.decision.Decision.TheVariants as decision
use Rattle.ftp_events.specs.declared.session.Opening.{Opening}
use Rattle.ftp_events.specs.History.{concerns, opens}
use Rattle.ftp_events.specs.Running.{running_count}
use Rattle.ftp_events.specs.Slot.{lane}
use Rattle.ftp_events.specs.Session.{is_live, new_session}
use Rattle.ftp_laws.proofs.QuestionLemmas.{counting-counts, running-other, session-other, session-opened}
use Rattle.ftp_laws.proofs.TableLemmas.{holder-other}
use Rattle.ftp_laws.proofs.NotificationLemmas.{unused-opener}
use Rattle.ftp_laws.proofs.RunningLemmas.{unused-idle}
use Rattle.ftp_hub.specs.Arrivals.{IsControlLink}
use Rattle.ftp_lockout.specs.Failures.{Table}
use Rattle.ftp_laws.proofs.LockoutLemmas.{failures-other}
use Rattle.ftp_hub.proofs.Failures.{linked-other}
use Rattle.ftp_hub.proofs.Running.{running-none}

-- an unused number is that of no session
pub unused-none : (o : Options) (past : List Entry) (s : ℕ) → is_used past s ≡ false → session o past s ≡ None
unused-none o past s unused = rw (unused-opener past s unused) (same-both (is_live (history o past s)) None)

-- the tables after a control connection opened session s
pub serves-opened :
    (old new : Hub) (log : List Entry) (event : HubEvent) (answer : Answer) (s : ℕ) (opening : Opening) (done : List Action) →
    Stands old log → IsControlLink old.options event answer s opening → is_used (past_of log) s ≡ false → old.stopped ≡ false →
    done ≡ [] →
    new.options ≡ old.options →
    ((q : ℕ) → map.get nat_eq new.sessions q ≡ cond (s == q) (Some (new_session event.at opening)) (map.get nat_eq old.sessions q)) →
    (map.hash_map_len new.sessions ≡ map.hash_map_len old.sessions + 1) →
    new.jobs ≡ old.jobs →
    ((q : ℕ) → has new.numbers q ≡ ((s == q) || has old.numbers q)) →
    ((a p : ℕ) → holder_at new.board a p ≡ holder_at old.board a p) →
    new.failures ≡ old.failures → new.stopped ≡ old.stopped →
    Serves old new log event answer decision.Opened done
unfolding decide acts
serves-opened old new log event answer s opening done st link unused going nothing same table len jobs numbers board failed stopped =
    record {
      decision = sym (link.row past unused (sym st.tables.stopped ∙ going));
      done = rw (link.unnamed, link.for_nobody) nothing;
      tables = subst (Tables new) (sym grown) (record {
        sessions = λ q. table q ∙ by_number q (s == q) refl ∙ ap (λ (o : Options). session o (e ∷ past) q) (sym same);
        live = len ∙ ap (λ n. n + 1) st.tables.live;
        jobs = λ q. ap (λ (m : Jobs). map.get nat_eq m q) jobs ∙ no_job q (s == q) refl ∙ ap (λ (o : Options). running_job o (e ∷ past) q) (sym same);
        running = ap map.hash_map_len jobs ∙ st.tables.running ∙ sym (running-none decision.Opened done (running_count past) refl nothing);
        numbers = λ q. rw (link.brings decision.Opened) (numbers q ∙ ap (λ b. (s == q) || b) (st.tables.numbers q));
        holders = λ a p. board a p ∙ st.tables.holders a p ∙ sym (holder-other o past e (V4 a) p link.for_nobody link.unnamed refl refl) ∙ ap (λ (o : Options). holder o (e ∷ past) (V4 a) p) (sym same);
        failures = λ key.
            ap (λ (x : Option Table). failures_in x key) failed ∙ st.tables.failures key
            ∙ sym (failures-other o past e key (linked-other event.kind decision.Opened s (link.brings decision.Opened)))
            ∙ ap (λ (o : Options). failures o (e ∷ past) key) (sym same);
        stopped = stopped ∙ st.tables.stopped;
      });
    }
  where
    o : Options
    o = old.options

    past : List Entry
    past = past_of log

    e : Entry
    e = entry event answer decision.Opened done

    grown : past_of (e ∷ log) ≡ e ∷ past
    grown = counting-counts e log refl

    opens_one : (q : ℕ) → opens e q ≡ (s == q)
    opens_one q = rw (link.brings decision.Opened) refl

    for_nobody : (q : ℕ) → concerns o past e q ≡ false
    for_nobody q = rw (link.unnamed, link.for_nobody) refl

    by_number : (q : ℕ) (b : Bool) → (s == q) ≡ b → cond b (Some (new_session event.at opening)) (map.get nat_eq old.sessions q) ≡ session o (e ∷ past) q
    by_number q true h =
        subst (λ n. Some (new_session event.at opening) ≡ session o (e ∷ past) n) (eqb-true s q h)
        (sym (session-opened o past e s opening (link.brings decision.Opened) refl link.tells nothing))
    by_number q false h = st.tables.sessions q ∙ sym (session-other o past e q (opens_one q ∙ h) (for_nobody q))

    -- no job runs for a session that is opened now
    no_job : (q : ℕ) (b : Bool) → (s == q) ≡ b → map.get nat_eq old.jobs q ≡ running_job o (e ∷ past) q
    no_job q true h =
        let own : opens e q ≡ true = opens_one q ∙ h in
        st.tables.jobs q
        ∙ subst (λ (n : ℕ). running_job o past n ≡ None) (eqb-true s q h) (unused-idle o log s st.right unused)
        ∙ sym (ap (λ b. (lane (cond b (e ∷ []) (cond (concerns o past e q) (e ∷ history o past q) (history o past q)))).running) own)
    no_job q false h = st.tables.jobs q ∙ sym (running-other o past e q (opens_one q ∙ h) (for_nobody q))
