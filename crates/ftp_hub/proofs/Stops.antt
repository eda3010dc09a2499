-- The tables after a stop, and after a connection that comes later.
use Rattle.std.proofs.Common.{◌≡◌, refl, sym, ap, ◌∙◌, ℕ, true, false, ◌||◌, List, [], ◌∷◌, Option, Some, None}
use Rattle.std.specs.Prelude.{◌==◌, flat_map, is_some, nat_eq}
use Rattle.std.specs.HashMap as map
use Rattle.std.specs.Option.{option_and_then}
use Rattle.ftp_hub.proofs.Common.{Action, Answer, Entry, EventKind, Hub, HubEvent, Jobs, Options, Running, Serves, Stands, V4, acts, decide, entry, failures, failures_in, has, holder, holder_at, is_used, named_session, new_number, past_of, running_after, running_job, same-both, session, session_acts}
use Rattle.ftp_base.specs.declared.net.IpAddr.{IpAddr}
use Rattle.ftp_lockout.specs.Failures.{Table}
use Rattle.ftp_switchboard.specs.Used.{Used}
use Rattle.ftp_events.specs.declared.action.Action.TheVariants as action
use Rattle.ftp_events.specs.declared.decision.Decision.TheVariants as decision
use Rattle.ftp_events.specs.declared.event.EventKind.TheVariants as kind
use Rattle.ftp_events.specs.Board.{Target, comes_to, target}
use Rattle.ftp_events.specs.Decide.{due}
use Rattle.ftp_events.specs.History.{meant}
use Rattle.ftp_events.specs.Log.{is_stopped}
use Rattle.ftp_events.specs.Running.{running_count}
use Rattle.ftp_events.specs.Session.{live_sessions}
use Rattle.ftp_events.specs.Words.{is_number}
use Rattle.ftp_laws.specs.Census.{IsAscending, has as is_listed}
use Rattle.ftp_laws.proofs.LiveLemmas.{ascending-same, live_sessions-ascending, live_sessions-has}
use Rattle.ftp_laws.proofs.LockoutLemmas.{failures-other, tells_failures}
use Rattle.ftp_laws.proofs.AfterLemmas.{stopped-over}
use Rattle.ftp_laws.proofs.StopLemmas.{holder-stopped, running-stopped as job-stopped, session-stopped}
use Rattle.ftp_laws.proofs.TableLemmas.{no-gift}
use Rattle.ftp_hub.specs.Arrivals.{IsLate}
use Rattle.ftp_hub.proofs.DataLinks.{serves-closed, turned-comes}
use Rattle.ftp_hub.proofs.Running.{running-stopped}

-- who leaves with a stop, in order, are the live sessions
leavers-live :
    (hub : Hub) (log : List Entry) (numbers : List ℕ) → Stands hub log →
    IsAscending numbers → ((s : ℕ) → is_listed numbers s ≡ is_some (map.get nat_eq hub.sessions s)) →
    numbers ≡ live_sessions hub.options (past_of log)
leavers-live hub log numbers st ascends all =
    ascending-same numbers (live_sessions hub.options (past_of log)) ascends (live_sessions-ascending hub.options log st.right)
    (λ s. all s ∙ ap is_some (st.tables.sessions s) ∙ sym (live_sessions-has hub.options (past_of log) s))

-- the tables after a stop
pub serves-stopped :
    (old new : Hub) (log : List Entry) (event : HubEvent) (answer : Answer) (done : List Action) (numbers : List ℕ) →
    Stands old log → event.kind ≡ kind.Shutdown →
    IsAscending numbers → ((s : ℕ) → is_listed numbers s ≡ is_some (map.get nat_eq old.sessions s)) →
    ((jobs : ℕ → Option Running) → done ≡ flat_map (λ s. session_acts old.options s kind.Shutdown answer decision.Stopped (jobs s) (map.get nat_eq old.sessions s)) numbers) →
    new.options ≡ old.options →
    ((s : ℕ) → map.get nat_eq new.sessions s ≡ None) → map.hash_map_len new.sessions ≡ 0 →
    new.jobs ≡ old.jobs → new.numbers ≡ old.numbers →
    ((a p : ℕ) → holder_at new.board a p ≡ None) →
    new.failures ≡ old.failures → new.stopped ≡ true →
    Serves old new log event answer decision.Stopped done
unfolding decide acts
serves-stopped old new log event answer done numbers st is ascends all leave same gone empty jobs used free failed stopped =
    record {
      decision = sym (ap (λ (k : EventKind). due o past event.at k answer) is);
      done =
          leave (running_job o past)
          ∙ (λ i. flat_map (λ s. session_acts o s kind.Shutdown answer decision.Stopped (running_job o past s) (st.tables.sessions s i)) (leavers-live old log numbers st ascends all i))
          ∙ ap (λ (k : EventKind). flat_map (λ s. session_acts o s k answer decision.Stopped (running_job o past s) (session o past s)) (live_sessions o past)) (sym is);
      tables = record {
        sessions = λ s. gone s ∙ sym (session-stopped o past e s refl) ∙ ap (λ (o : Options). session o (e ∷ past) s) (sym same);
        live = empty;
        jobs = λ s.
            ap (λ (m : Jobs). map.get nat_eq m s) jobs ∙ st.tables.jobs s ∙ sym (job-stopped o past e s refl)
            ∙ ap (λ (o : Options). running_job o (e ∷ past) s) (sym same);
        running =
            ap map.hash_map_len jobs ∙ st.tables.running
            ∙ sym (running-stopped o answer (running_job o past) (map.get nat_eq old.sessions) numbers (running_count past))
            ∙ ap (λ xs. running_after decision.Stopped xs (running_count past)) (sym (leave (running_job o past)));
        numbers = λ n. ap (λ (x : Used). has x n) used ∙ st.tables.numbers n ∙ sym (ap (λ (k : EventKind). is_number (new_number k decision.Stopped) n || is_used past n) is);
        holders = λ a p. free a p ∙ sym (holder-stopped o past e (V4 a) p refl) ∙ ap (λ (o : Options). holder o (e ∷ past) (V4 a) p) (sym same);
        failures = λ key.
            ap (λ (x : Option Table). failures_in x key) failed ∙ st.tables.failures key
            ∙ sym (failures-other o past e key (ap tells_failures is))
            ∙ ap (λ (o : Options). failures o (e ∷ past) key) (sym same);
        stopped = stopped;
      };
    }
  where
    o : Options
    o = old.options

    past : List Entry
    past = past_of log

    e : Entry
    e = entry event answer decision.Stopped done

-- after a stop nobody holds what an event comes for
nobody-meant : (o : Options) (past : List Entry) (e : Entry) → ((a : IpAddr) (p : ℕ) → holder o past a p ≡ None) → named_session e.event.kind ≡ None → meant o past e ≡ None
nobody-meant o past e nobody unnamed = rw unnamed (go (target o e.event.kind e.answer))
  where
    go : (t : Option Target) → option_and_then (λ (t : Target). holder o past t.client t.port) t ≡ None
    go None = refl
    go (Some t) = nobody t.client t.port

-- a connection that comes after a stop is closed
pub serves-late :
    (old new : Hub) (log : List Entry) (event : HubEvent) (answer : Answer) (done : List Action) (n : ℕ) →
    Stands old log → IsLate old.options event answer n → is_used (past_of log) n ≡ false → old.stopped ≡ true →
    done ≡ action.Close n ∷ [] →
    new.options ≡ old.options → new.sessions ≡ old.sessions → new.jobs ≡ old.jobs →
    ((q : ℕ) → has new.numbers q ≡ ((n == q) || has old.numbers q)) →
    ((a p : ℕ) → holder_at new.board a p ≡ holder_at old.board a p) →
    new.failures ≡ old.failures → new.stopped ≡ old.stopped →
    Serves old new log event answer decision.Turned done
unfolding decide
serves-late old new log event answer done n st late unused after closes same sessions jobs numbers board failed stopped =
    serves-closed old new log event answer decision.Turned done n st turned-comes (sym (late.row past unused stop))
    (nobody-meant o past e nobody late.unnamed) refl (late.brings decision.Turned) closes same sessions jobs numbers
    (λ a p. board a p ∙ st.tables.holders a p ∙ nobody (V4 a) p ∙ sym (still a p)) failed stopped
  where
    o : Options
    o = old.options

    past : List Entry
    past = past_of log

    e : Entry
    e = entry event answer decision.Turned done

    stop : is_stopped past ≡ true
    stop = sym st.tables.stopped ∙ after

    nobody : (a : IpAddr) (p : ℕ) → holder o past a p ≡ None
    nobody = (stopped-over o log st.right stop).free

    still : (a p : ℕ) → holder o (e ∷ past) (V4 a) p ≡ None
    still a p = rw (no-gift o past e (V4 a) p refl, nobody (V4 a) p) (same-both (comes_to o e (V4 a) p) None)
