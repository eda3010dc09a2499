-- The tables after an entry that is about one live session.
use Rattle.std.proofs.Common.{◌≡◌, refl, sym, ap, ◌∙◌, subst, ℕ, false, cond, ◌||◌, List, ◌∷◌, Option, Some, None}
use Rattle.std.specs.Prelude.{◌==◌, nat_eq, count_by}
use Rattle.std.specs.HashMap as map
use Rattle.ftp_hub.proofs.Common.{Action, Answer, Decision, Entry, Hub, HubEvent, LoginKey, Options, Running, Serves, Session, Stands, Tables, V4, acts, decide, entry, failures, failures_in, has, holder, holder_at, is_refusal, is_used, live_after, lives_on, next_running, notices_of, past_of, running_after, running_job, session, session_acts, session_after}
use Rattle.ftp_events.specs.Notices.{is_notice_to}
use Rattle.ftp_events.specs.Acts.{acts_of}
use Rattle.ftp_laws.proofs.QuestionLemmas.{counting-counts, session_by}
use Rattle.ftp_events.specs.Log.{is_stopped}
use Rattle.ftp_laws.proofs.SubjectLemmas.{one-plain}
use Rattle.ftp_laws.proofs.TableLemmas.{IsAbout, session-about, running-about}
use Rattle.ftp_hub.proofs.Counts.{count-session_acts}
use Rattle.ftp_hub.proofs.Moved.{Moved}

-- the tables after an entry about session s, where the numbers and the holds are those after it
pub serves-about :
    (old new : Hub) (log : List Entry) (event : HubEvent) (answer : Answer) (d : Decision) (done : List Action) (s : ℕ) (v after : Session) →
    Stands old log → is_refusal d ≡ false →
    IsAbout old.options (past_of log) (entry event answer d done) s →
    session old.options (past_of log) s ≡ Some v →
    d ≡ decide old.options log event answer →
    done ≡ session_acts old.options s event.kind answer d (map.get nat_eq old.jobs s) (Some v) →
    Moved old new event answer d done s v after →
    ((q : ℕ) → has new.numbers q ≡ is_used (entry event answer d done ∷ past_of log) q) →
    ((a p : ℕ) → holder_at new.board a p ≡ holder old.options (entry event answer d done ∷ past_of log) (V4 a) p) →
    ((key : LoginKey) → failures_in new.failures key ≡ failures old.options (entry event answer d done ∷ past_of log) key) →
    new.stopped ≡ old.stopped →
    Serves old new log event answer d done
unfolding acts
serves-about old new log event answer d done s v after st counts about known right acted moved numbers board failed stopped =
    record {
      decision = right;
      done = done_are ∙ sym due_acts;
      tables = subst (Tables new) (sym (counting-counts e log counts)) (record {
        sessions = λ q.
            moved.sessions.table q
            ∙ ap (λ (x : Session). cond (s == q) (cond (lives_on d) (Some x) None) (map.get nat_eq old.sessions q)) (moved.session ∙ counted)
            ∙ ap (λ (x : Option Session). cond (s == q) (cond (lives_on d) (Some (session_by s e job v)) None) x) (st.tables.sessions q)
            ∙ sym (session-about o past e s v q about known)
            ∙ ap (λ (o : Options). session o (e ∷ past) q) (sym moved.options);
        live = moved.sessions.live ∙ ap (live_after d) st.tables.live;
        jobs = λ q.
            moved.jobs.table q
            ∙ ap (λ (x : Option Running). cond (s == q) (next_running event.kind answer d x v) (map.get nat_eq old.jobs q)) (st.tables.jobs s)
            ∙ ap (λ (x : Option Running). cond (s == q) (next_running event.kind answer d job v) x) (st.tables.jobs q)
            ∙ sym (running-about o past e s v q about known)
            ∙ ap (λ (o : Options). running_job o (e ∷ past) q) (sym moved.options);
        running = moved.jobs.running ∙ ap (running_after d done) st.tables.running;
        numbers = numbers;
        holders = λ a p. board a p ∙ ap (λ (o : Options). holder o (e ∷ past) (V4 a) p) (sym moved.options);
        failures = λ key. failed key ∙ ap (λ (o : Options). failures o (e ∷ past) key) (sym moved.options);
        stopped = stopped ∙ st.tables.stopped ∙ sym (ap (λ b. b || is_stopped past) (one-plain o past e s about.subject_is));
      });
    }
  where
    o : Options
    o = old.options

    past : List Entry
    past = past_of log

    job : Option Running
    job = running_job o past s

    e : Entry
    e = entry event answer d done

    done_are : done ≡ session_acts o s event.kind answer d job (Some v)
    done_are = acted ∙ ap (λ (x : Option Running). session_acts o s event.kind answer d x (Some v)) (st.tables.jobs s)

    counted : session_after event.at event.kind answer d (notices_of event.kind d answer) (map.get nat_eq old.jobs s) v ≡ session_by s e job v
    counted =
        ap (λ (x : Option Running). session_after event.at event.kind answer d (notices_of event.kind d answer) x v) (st.tables.jobs s)
        ∙ ap (λ c. session_after event.at event.kind answer d c job v) (sym (ap (count_by (is_notice_to s)) done_are ∙ count-session_acts o s event.kind answer d job v))

    due_acts : acts_of o past e ≡ session_acts o s event.kind answer d job (Some v)
    due_acts = rw (counts, about.subject_is, known) refl
