-- The tables after a data connection.
use Rattle.std.proofs.Common.{subst, ◌≡◌, refl, sym, ap, ◌∙◌, ℕ, Bool, true, false, not, cond, ◌&&◌, ◌||◌, List, [], ◌∷◌, Option, Some, None, arith}
use Rattle.std.specs.Prelude.{◌==◌, nat_eq}
use Rattle.std.specs.HashMap as map
use Rattle.ftp_hub.proofs.Common.{Action, Answer, Decision, Entry, EventKind, Hub, HubEvent, Jobs, LoginKey, Options, Running, Serves, Session, Stands, Starts, Tables, V4, acts, decide, entry, failures, failures_in, has, holder, holder_at, is_legacy, is_used, named_session, new_number, past_of, running_after, running_job, same-both, session, session_acts, session_after, starting}
use Rattle.ftp_base.specs.declared.net.SocketAddr.{SocketAddr}
use Rattle.ftp_base.specs.Net.{same_ip}
use Rattle.ftp_proxy.specs.declared.error.ProxyError.{ProxyError}
use Rattle.ftp_lockout.specs.Failures.{Table}
use Rattle.ftp_switchboard.specs.Board.{is_key}
use Rattle.ftp_events.specs.declared.action.Action.TheVariants as action
use Rattle.ftp_events.specs.declared.decision.Decision.TheVariants as decision
use Rattle.ftp_events.specs.declared.event.EventKind.TheVariants as kind
use Rattle.ftp_events.specs.Acts.{acts_of, closings, refused_link}
use Rattle.ftp_events.specs.Ages.{is_activity}
use Rattle.ftp_events.specs.Log.{is_stopped}
use Rattle.ftp_events.specs.History.{Nobody, meant, one_or_nobody, subject}
use Rattle.ftp_events.specs.Modes.{in_range}
use Rattle.ftp_events.specs.Running.{running_count}
use Rattle.ftp_events.specs.Slot.{is_waiting}
use Rattle.ftp_events.specs.Words.{is_number}
use Rattle.ftp_events.specs.ConnectionRows.{holder_row}
use Rattle.ftp_laws.proofs.QuestionLemmas.{counting-counts, running-other, session-other}
use Rattle.ftp_laws.proofs.HoldLemmas.{WaitsFor}
use Rattle.ftp_laws.proofs.SubjectLemmas.{nobody-concerns, subject-plain}
use Rattle.ftp_laws.proofs.TableLemmas.{IsAbout, holder-arrived, arrival-about, eq-comm}
use Rattle.ftp_hub.specs.declared.data_links.Arrival.{Arrival}
use Rattle.ftp_hub.specs.Arrivals.{IsDataLink, arrival_of}
use Rattle.ftp_hub.proofs.About.{serves-about}
use Rattle.ftp_laws.proofs.GrantLemmas.{holder-legacy}
use Rattle.ftp_hub.proofs.Clients.{held-waits}
use Rattle.ftp_hub.proofs.Commands.{due-named}
use Rattle.ftp_laws.proofs.LockoutLemmas.{failures-other}
use Rattle.ftp_hub.proofs.Failures.{linked-other}
use Rattle.ftp_hub.proofs.Moved.{Sessions, jobs-start, sessions-stay}
use Rattle.ftp_hub.proofs.Decisions.{Comes, passes-live}
use Rattle.ftp_hub.proofs.Running.{unstopped}

pub turned-comes : Comes decision.Turned
turned-comes = record { passes = record { counts = refl; plain = refl; unopened = λ k. refl; no_grant = refl; keeps = refl; lives = refl; as_many = λ n. refl }; silent = λ k answer. refl; unfinished = refl; kept = λ answer job. refl }

attached-comes : (s : ℕ) → Comes (decision.Attached s)
attached-comes s = record { passes = record { counts = refl; plain = refl; unopened = λ k. refl; no_grant = refl; keeps = refl; lives = refl; as_many = λ n. refl }; silent = λ k answer. refl; unfinished = refl; kept = λ answer job. refl }

pub fault-comes : (fault : ProxyError) → Comes (decision.HeaderFault fault)
fault-comes fault = record { passes = record { counts = refl; plain = refl; unopened = λ k. refl; no_grant = refl; keeps = refl; lives = refl; as_many = λ n. refl }; silent = λ k answer. refl; unfinished = refl; kept = λ answer job. refl }

arrival-comes : (welcome : Bool) (s : ℕ) → Comes (arrival_of welcome s)
arrival-comes true s = attached-comes s
arrival-comes false s = turned-comes

-- what becomes of a data connection that session s holds the port of
abbrev pub decided_on : Options → Arrival → Session → ℕ → Decision
decided_on o a v s = arrival_of (in_range o a.port && same_ip v.opening.raw.ip a.raw.ip) s

-- the row of such a connection says so
arrival-row : (ranged same : Bool) (s : ℕ) → cond (not ranged) decision.Turned (cond same (decision.Attached s) decision.Turned) ≡ arrival_of (ranged && same) s
arrival-row true same s = refl
arrival-row false same s = refl

-- a connection that comes is no activity
link-idle : (k : EventKind) (n : ℕ) → new_number k decision.Turned ≡ Some n → is_activity k ≡ false
link-idle (kind.Connect s raw local trace) n brings = refl
link-idle (kind.Proxied m raw trace) n brings = refl
link-idle (kind.DataIn m raw port) n brings = refl
link-idle (kind.Accepted s m raw) n brings = refl
link-idle k n brings = cc

-- whichever kind brings a connection of this number, the session is afterwards the same
pub after-alike :
    (b : Bool) (at : ℕ) (k : EventKind) (n s m port : ℕ) (raw : SocketAddr) (answer : Answer) (job : Option Running) (v : Session) →
    ((d : Decision) → new_number k d ≡ Some n) →
    session_after at (kind.DataIn n raw port) answer (arrival_of b s) m job v ≡ session_after at k answer (arrival_of b s) m job v
after-alike true at k n s m port raw answer job v brings = rw (link-idle k n (brings decision.Turned), brings (decision.Attached s)) refl
after-alike false at k n s m port raw answer job v brings = rw (link-idle k n (brings decision.Turned)) refl

-- the same is done
pub acts-alike :
    (b : Bool) (o : Options) (k : EventKind) (n s port : ℕ) (raw : SocketAddr) (answer : Answer) (job : Option Running) (v : Session) →
    ((d : Decision) → new_number k d ≡ Some n) →
    session_acts o s (kind.DataIn n raw port) answer (arrival_of b s) job (Some v) ≡ session_acts o s k answer (arrival_of b s) job (Some v)
acts-alike true o k n s port raw answer job v brings = rw (brings (decision.Attached s)) refl
acts-alike false o k n s port raw answer job v brings = rw (brings decision.Turned) refl

-- and the same transfer starts
pub starting-alike :
    (b : Bool) (k : EventKind) (n s port : ℕ) (raw : SocketAddr) (job : Option Running) (v : Session) →
    ((d : Decision) → new_number k d ≡ Some n) →
    starting (kind.DataIn n raw port) (arrival_of b s) job v ≡ starting k (arrival_of b s) job v
starting-alike true k n s port raw job v brings = rw (brings (decision.Attached s)) refl
starting-alike false k n s port raw job v brings = refl

-- a connection leaves the failed logins as they are
pub failed-linked :
    (old new : Hub) (log : List Entry) (event : HubEvent) (answer : Answer) (d : Decision) (done : List Action) (n : ℕ) (key : LoginKey) →
    Stands old log → new_number event.kind d ≡ Some n → new.failures ≡ old.failures →
    failures_in new.failures key ≡ failures old.options (entry event answer d done ∷ past_of log) key
failed-linked old new log event answer d done n key st brings same =
    ap (λ (x : Option Table). failures_in x key) same ∙ st.tables.failures key
    ∙ sym (failures-other old.options (past_of log) (entry event answer d done) key (linked-other event.kind d n brings))

-- what is about no session, and starts and ends no job
pub serves-nobody :
    (old new : Hub) (log : List Entry) (event : HubEvent) (answer : Answer) (d : Decision) (done : List Action) →
    Stands old log → Comes d → d ≡ decide old.options log event answer →
    meant old.options (past_of log) (entry event answer d done) ≡ None →
    done ≡ refused_link event.kind d → ((n : ℕ) → running_after d done n ≡ n) →
    new.options ≡ old.options → new.sessions ≡ old.sessions → new.jobs ≡ old.jobs →
    ((q : ℕ) → has new.numbers q ≡ (is_number (new_number event.kind d) q || has old.numbers q)) →
    ((a p : ℕ) → holder_at new.board a p ≡ holder old.options (entry event answer d done ∷ past_of log) (V4 a) p) →
    ((key : LoginKey) → failures_in new.failures key ≡ failures old.options (entry event answer d done ∷ past_of log) key) →
    new.stopped ≡ old.stopped →
    Serves old new log event answer d done
unfolding acts
serves-nobody old new log event answer d done st comes right nobody closed ran same sessions jobs numbers board failed stopped =
    record {
      decision = right;
      done = closed ∙ sym due_acts;
      tables = subst (Tables new) (sym (counting-counts e log comes.passes.counts)) (record {
        sessions = λ q.
            ap (λ (m : Sessions). map.get nat_eq m q) sessions ∙ st.tables.sessions q
            ∙ sym (session-other o past e q (rw (comes.passes.unopened event.kind) refl) (nobody-concerns o past e q about))
            ∙ ap (λ (o : Options). session o (e ∷ past) q) (sym same);
        live = ap map.hash_map_len sessions ∙ st.tables.live ∙ sym (comes.passes.as_many _);
        jobs = λ q.
            ap (λ (m : Jobs). map.get nat_eq m q) jobs ∙ st.tables.jobs q
            ∙ sym (running-other o past e q (rw (comes.passes.unopened event.kind) refl) (nobody-concerns o past e q about))
            ∙ ap (λ (o : Options). running_job o (e ∷ past) q) (sym same);
        running = ap map.hash_map_len jobs ∙ st.tables.running ∙ sym (ran (running_count past));
        numbers = λ q. numbers q ∙ ap (λ b. is_number (new_number event.kind d) q || b) (st.tables.numbers q);
        holders = λ a p. board a p ∙ ap (λ (o : Options). holder o (e ∷ past) (V4 a) p) (sym same);
        failures = λ key. failed key ∙ ap (λ (o : Options). failures o (e ∷ past) key) (sym same);
        stopped = stopped ∙ st.tables.stopped ∙ sym (ap (λ b. b || is_stopped past) comes.passes.plain);
      });
    }
  where
    o : Options
    o = old.options

    past : List Entry
    past = past_of log

    e : Entry
    e = entry event answer d done

    about : subject o past e ≡ Nobody
    about = subject-plain o past e comes.passes.plain ∙ ap one_or_nobody nobody

    due_acts : acts_of o past e ≡ refused_link event.kind d
    due_acts = rw (comes.passes.counts, about) refl

-- a connection that is about no session is closed
pub serves-closed :
    (old new : Hub) (log : List Entry) (event : HubEvent) (answer : Answer) (d : Decision) (done : List Action) (n : ℕ) →
    Stands old log → Comes d → d ≡ decide old.options log event answer →
    meant old.options (past_of log) (entry event answer d done) ≡ None →
    refused_link event.kind d ≡ closings (new_number event.kind d) → new_number event.kind d ≡ Some n →
    done ≡ action.Close n ∷ [] →
    new.options ≡ old.options → new.sessions ≡ old.sessions → new.jobs ≡ old.jobs →
    ((q : ℕ) → has new.numbers q ≡ ((n == q) || has old.numbers q)) →
    ((a p : ℕ) → holder_at new.board a p ≡ holder old.options (entry event answer d done ∷ past_of log) (V4 a) p) →
    new.failures ≡ old.failures → new.stopped ≡ old.stopped →
    Serves old new log event answer d done
serves-closed old new log event answer d done n st comes right nobody closed brings closes same sessions jobs numbers board failed stopped =
    serves-nobody old new log event answer d done st comes right nobody (closes ∙ sym (closed ∙ ap closings brings))
    (λ k. ap (λ xs. running_after d xs k) closes ∙ none_ran k) same sessions jobs
    (λ q. numbers q ∙ ap (λ (x : Option ℕ). is_number x q || has old.numbers q) (sym brings))
    board (λ key. failed-linked old new log event answer d done n key st brings failed) stopped
  where
    none_ran : (k : ℕ) → running_after d (action.Close n ∷ []) k ≡ k
    none_ran k = omega (arith, unstopped d comes.unfinished)

-- who holds a port after a data connection
holders-arrived :
    (hub : Hub) (log : List Entry) (event : HubEvent) (answer : Answer) (d : Decision) (done : List Action) (arr : Arrival) (a p : ℕ) →
    Stands hub log → IsDataLink hub.options event answer arr → Comes d →
    holder hub.options (entry event answer d done ∷ past_of log) (V4 a) p ≡ cond (is_key a p arr.source arr.port) None (holder_at hub.board a p)
holders-arrived hub log event answer d done arr a p st link comes =
    let before : Option ℕ = holder hub.options (past_of log) (V4 a) p in
    holder-arrived hub.options (past_of log) (entry event answer d done) (record { client = V4 arr.source; port = arr.port }) (V4 a) p
    (record { to = link.to; plain = comes.passes.plain; unnamed = link.unnamed; no_grant = comes.passes.no_grant })
    ∙ ap (λ b. cond (b && (arr.port == p)) None before) (eq-comm arr.source a)
    ∙ ap (λ b. cond ((a == arr.source) && b) None before) (eq-comm arr.port p)
    ∙ ap (λ (x : Option ℕ). cond (is_key a p arr.source arr.port) None x) (sym (st.tables.holders a p))

-- a data connection that has no holder is turned away
pub serves-unheld :
    (old new : Hub) (log : List Entry) (event : HubEvent) (answer : Answer) (done : List Action) (arr : Arrival) →
    Stands old log → IsDataLink old.options event answer arr → is_used (past_of log) arr.number ≡ false → old.stopped ≡ false →
    holder_at old.board arr.source arr.port ≡ None →
    done ≡ action.Close arr.number ∷ [] →
    new.options ≡ old.options → new.sessions ≡ old.sessions → new.jobs ≡ old.jobs →
    ((q : ℕ) → has new.numbers q ≡ ((arr.number == q) || has old.numbers q)) →
    ((a p : ℕ) → holder_at new.board a p ≡ cond (is_key a p arr.source arr.port) None (holder_at old.board a p)) →
    new.failures ≡ old.failures → new.stopped ≡ old.stopped →
    Serves old new log event answer decision.Turned done
unfolding decide
serves-unheld old new log event answer done arr st link unused going nobody closes same sessions jobs numbers board failed stopped =
    serves-closed old new log event answer decision.Turned done arr.number st turned-comes
    (sym (link.row past unused (sym st.tables.stopped ∙ going) ∙ ap (λ (h : Option ℕ). cond (not (in_range o arr.port)) decision.Turned (holder_row o past arr.raw h)) unheld ∙ same-both (not (in_range o arr.port)) decision.Turned))
    (rw (link.unnamed, link.to) unheld) refl (link.brings decision.Turned) closes same sessions jobs numbers
    (λ a p. board a p ∙ sym (holders-arrived old log event answer decision.Turned done arr a p st link turned-comes)) failed stopped
  where
    o : Options
    o = old.options

    past : List Entry
    past = past_of log

    unheld : holder o past (V4 arr.source) arr.port ≡ None
    unheld = sym (st.tables.holders arr.source arr.port) ∙ nobody

-- a data connection that has a holder goes to it, or is turned away where the peers differ
pub serves-held :
    (old new : Hub) (log : List Entry) (event : HubEvent) (answer : Answer) (done : List Action) (arr : Arrival) (s : ℕ) (v after : Session) →
    Stands old log → IsDataLink old.options event answer arr → is_used (past_of log) arr.number ≡ false → old.stopped ≡ false →
    holder_at old.board arr.source arr.port ≡ Some s → map.get nat_eq old.sessions s ≡ Some v →
    after ≡ session_after event.at event.kind answer (decided_on old.options arr v s) 0 (map.get nat_eq old.jobs s) v →
    done ≡ session_acts old.options s event.kind answer (decided_on old.options arr v s) (map.get nat_eq old.jobs s) (Some v) →
    new.options ≡ old.options →
    ((q : ℕ) → map.get nat_eq new.sessions q ≡ cond (s == q) (Some after) (map.get nat_eq old.sessions q)) →
    (map.hash_map_len new.sessions ≡ map.hash_map_len old.sessions) →
    Starts old.jobs new.jobs s (starting event.kind (decided_on old.options arr v s) (map.get nat_eq old.jobs s) v) →
    ((q : ℕ) → has new.numbers q ≡ ((arr.number == q) || has old.numbers q)) →
    ((a p : ℕ) → holder_at new.board a p ≡ cond (is_key a p arr.source arr.port) None (holder_at old.board a p)) →
    new.failures ≡ old.failures → new.stopped ≡ old.stopped →
    Serves old new log event answer (decided_on old.options arr v s) done
unfolding decide
serves-held old new log event answer done arr s v after st link unused going held there after_is acted same table len begins numbers board failed stopped =
    serves-about old new log event answer d done s v after st comes.passes.counts about known (sym (link.row past unused (sym st.tables.stopped ∙ going) ∙ rw (holds, known) (arrival-row (in_range o arr.port) (same_ip v.opening.raw.ip arr.raw.ip) s))) acted
    (record {
      options = same;
      session = after_is ∙ ap (λ c. session_after event.at event.kind answer d c job v) (sym (comes.silent event.kind answer));
      sessions = sessions-stay old.sessions new.sessions d s after (passes-live d comes.passes) comes.passes.as_many table len;
      jobs = jobs-start old.jobs new.jobs o event.kind answer d done s v comes.unfinished (comes.kept answer) begins acted;
    })
    (λ q. rw (link.brings d) (numbers q ∙ ap (λ b. (arr.number == q) || b) (st.tables.numbers q)))
    (λ a p. board a p ∙ sym (holders-arrived old log event answer d done arr a p st link comes))
    (λ key. failed-linked old new log event answer d done arr.number key st (link.brings d) failed) stopped
  where
    o : Options
    o = old.options

    past : List Entry
    past = past_of log

    job : Option Running
    job = map.get nat_eq old.jobs s

    d : Decision
    d = decided_on o arr v s

    comes : Comes d
    comes = arrival-comes (in_range o arr.port && same_ip v.opening.raw.ip arr.raw.ip) s

    holds : holder o past (V4 arr.source) arr.port ≡ Some s
    holds = sym (st.tables.holders arr.source arr.port) ∙ held

    known : session o past s ≡ Some v
    known = sym (st.tables.sessions s) ∙ there

    about : IsAbout o past (entry event answer d done) s
    about =
        arrival-about o past (entry event answer d done) (record { client = V4 arr.source; port = arr.port }) s
        (record { to = link.to; plain = comes.passes.plain; unnamed = link.unnamed; no_grant = comes.passes.no_grant }) (comes.passes.unopened event.kind) holds

-- whoever holds a port is live
pub held-live : (hub : Hub) (log : List Entry) (a p s : ℕ) → Stands hub log → holder_at hub.board a p ≡ Some s → map.get nat_eq hub.sessions s ≡ None → ⊥
held-live hub log a p s st held none =
    let w : WaitsFor hub.options (past_of log) s (V4 a) p = held-waits hub log a p s st (sym (st.tables.holders a p) ∙ held) in
    let clash : Some w.view ≡ None = sym w.known ∙ sym (st.tables.sessions s) ∙ none in
    cc

-- a data connection that comes to the listener of session s, where each has its own, goes to it, or is turned away
pub serves-accepted :
    (old new : Hub) (log : List Entry) (event : HubEvent) (answer : Answer) (done : List Action) (s n : ℕ) (raw : SocketAddr) (v after : Session) →
    Stands old log → event.kind ≡ kind.Accepted s n raw → is_legacy old.options.mode ≡ true → is_used (past_of log) n ≡ false →
    map.get nat_eq old.sessions s ≡ Some v →
    after ≡ session_after event.at event.kind answer (arrival_of (is_waiting v.slot && same_ip v.opening.raw.ip raw.ip) s) 0 (map.get nat_eq old.jobs s) v →
    done ≡ session_acts old.options s event.kind answer (arrival_of (is_waiting v.slot && same_ip v.opening.raw.ip raw.ip) s) (map.get nat_eq old.jobs s) (Some v) →
    new.options ≡ old.options →
    ((q : ℕ) → map.get nat_eq new.sessions q ≡ cond (s == q) (Some after) (map.get nat_eq old.sessions q)) →
    (map.hash_map_len new.sessions ≡ map.hash_map_len old.sessions) →
    Starts old.jobs new.jobs s (starting event.kind (arrival_of (is_waiting v.slot && same_ip v.opening.raw.ip raw.ip) s) (map.get nat_eq old.jobs s) v) →
    ((q : ℕ) → has new.numbers q ≡ ((n == q) || has old.numbers q)) →
    ((a p : ℕ) → holder_at new.board a p ≡ holder_at old.board a p) →
    new.failures ≡ old.failures → new.stopped ≡ old.stopped →
    Serves old new log event answer (arrival_of (is_waiting v.slot && same_ip v.opening.raw.ip raw.ip) s) done
unfolding decide
serves-accepted old new log event answer done s n raw v after st is legacy unused there after_is acted same table len begins numbers board failed stopped =
    serves-about old new log event answer d done s v after st comes.passes.counts
    (record { subject_is = subject-plain o past e comes.passes.plain ∙ rw named refl; unopened = comes.passes.unopened event.kind }) known
    (sym (due-named o past event.at event.kind answer s (Some v) (rw is refl) named known ∙ rw (is, legacy, unused) refl)) acted
    (record {
      options = same;
      session = after_is ∙ ap (λ c. session_after event.at event.kind answer d c (map.get nat_eq old.jobs s) v) (sym (comes.silent event.kind answer));
      sessions = sessions-stay old.sessions new.sessions d s after (passes-live d comes.passes) comes.passes.as_many table len;
      jobs = jobs-start old.jobs new.jobs o event.kind answer d done s v comes.unfinished (comes.kept answer) begins acted;
    })
    (λ q. rw (brings d) (numbers q ∙ ap (λ b. (n == q) || b) (st.tables.numbers q)))
    (λ a p. board a p ∙ st.tables.holders a p ∙ holder-legacy o past (V4 a) p legacy ∙ sym (holder-legacy o (e ∷ past) (V4 a) p legacy))
    (λ key. failed-linked old new log event answer d done n key st (brings d) failed) stopped
  where
    o : Options
    o = old.options

    past : List Entry
    past = past_of log

    d : Decision
    d = arrival_of (is_waiting v.slot && same_ip v.opening.raw.ip raw.ip) s

    e : Entry
    e = entry event answer d done

    comes : Comes d
    comes = arrival-comes (is_waiting v.slot && same_ip v.opening.raw.ip raw.ip) s

    named : named_session event.kind ≡ Some s
    named = ap named_session is

    brings : (d : Decision) → new_number event.kind d ≡ Some n
    brings d = ap (λ (k : EventKind). new_number k d) is

    known : session o past s ≡ Some v
    known = sym (st.tables.sessions s) ∙ there
