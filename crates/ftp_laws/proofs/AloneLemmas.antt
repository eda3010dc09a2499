-- A client's part of the log serves what its events and answers give with nobody else there.
use Rattle.std.proofs.Common.{◌≡◌, refl, sym, ◌∙◌, ap, ap₂, ℕ, Bool, true, false, true≢false, not, ◌||◌, cond, List, [], ◌∷◌, Option, Some, None}
use Rattle.std.specs.Prelude.{◌≢◌, filter, is_some, unwrap_or}
use Rattle.std.specs.Option.{option_and_then}
use Rattle.std.proofs.lemmas.Bool.{or_parts}
use Rattle.ftp_options.specs.declared.lockout.FailedLoginsPolicy.{FailedLoginsPolicy}
use Rattle.ftp_lockout.specs.declared.cache.Failures.{Failures}
use Rattle.ftp_lockout.specs.declared.key.LoginKey.{LoginKey}
use Rattle.ftp_events.specs.declared.decision.Decision.TheVariants as decision
use Rattle.ftp_events.specs.declared.event.EventKind.TheVariants as kind
use Rattle.ftp_events.specs.declared.session.Login.TheVariants as login
use Rattle.ftp_events.specs.Classes.{is_stop}
use Rattle.ftp_events.specs.Lockout.{login_key, is_login_for, failures_by, failures_after, tally, failures}
use Rattle.ftp_events.specs.Log.{is_stopped}
use Rattle.ftp_events.specs.Login.{login_by, name_by, logged_user}
use Rattle.ftp_events.specs.LoginRows.{auth_row}
use Rattle.ftp_events.specs.Place.{cwd_after, cwd, offset_by}
use Rattle.ftp_events.specs.Right.{next_entry, log_of, events_of}
use Rattle.ftp_events.specs.Session.{life_by, is_live, opened_sessions}
use Rattle.ftp_events.specs.Slot.{queued_by}
use Rattle.ftp_events.specs.Words.{latest}
use Rattle.ftp_laws.proofs.Common.{IpAddr, Options, is_legacy, client_log, Answer, Decision, Entry, EventKind, Session, is_number, is_used, is_refusal, past_of, named_session, new_number, is_client, opener, Target, target, holder, holder_of_target, concerns, opens, history, Lane, lane_after, lane, session, due, decide, acts, acts_of, IsRight, IsActed, kept_running}
use Rattle.ftp_laws.specs.Alone.{IsActedButStops, ServesSame, SameServed}
use Rattle.ftp_laws.proofs.ClassLemmas.{stop-is, stop-counts, opened-is}
use Rattle.ftp_laws.proofs.SubjectLemmas.{nobody-concerns}
use Rattle.ftp_laws.proofs.PortLemmas.{life-given, opened-subject}
use Rattle.ftp_laws.proofs.EntryLemmas.{Comes, right-past, right-history}
use Rattle.ftp_laws.proofs.SameLemmas.{TellSame, decided-same, done-same}
use Rattle.ftp_laws.proofs.LogLemmas.{acts-bare, log_of-right}
use Rattle.ftp_laws.proofs.IsolationLemmas.{stopped-alike}
use Rattle.ftp_laws.proofs.ClientLemmas.{client-right}
use Rattle.ftp_events.specs.Isolation.{IsApart, locks_by_address}
use Rattle.ftp_laws.proofs.Cases.{by_test}

-- an entry without what a stop did
abbrev pub without_stop : Entry → Entry
without_stop e = record { event = e.event; answer = e.answer; decision = e.decision; actions = cond (is_stop e.decision) [] e.actions }

-- entries without what stops did
abbrev pub without_stops : List Entry → List Entry
without_stops [] = []
without_stops (e ∷ log) = without_stop e ∷ without_stops log

-- what is no stop is as it was
without-plain : (e : Entry) → is_stop e.decision ≡ false → without_stop e ≡ e
without-plain e n = ap (λ b. record { event = e.event; answer = e.answer; decision = e.decision; actions = cond b [] e.actions }) n

-- a stop is left without actions
without-actions :
    (e : Entry) →
    is_stop e.decision ≡ true →
    without_stop e ≡ record { event = e.event; answer = e.answer; decision = e.decision; actions = [] }
without-actions e n = ap (λ b. record { event = e.event; answer = e.answer; decision = e.decision; actions = cond b [] e.actions }) n

-- how sessions came is told without
opener-without : (past : List Entry) (s : ℕ) → opener (without_stops past) s ≡ opener past s
opener-without [] s = refl
opener-without (e ∷ past) s = rw (opener-without past s) refl

-- so is which client a session has
client-without :
    (past : List Entry) (n : Option ℕ) (a : IpAddr) →
    is_client (without_stops past) n a ≡ is_client past n a
client-without past None a = refl
client-without past (Some s) a = rw (opener-without past s) refl

-- who holds ports
holder-without :
    (o : Options) (past : List Entry) (a : IpAddr) (p : ℕ) →
    holder o (without_stops past) a p ≡ holder o past a p
holder-without o [] a p = refl
holder-without o (e ∷ past) a p = rw (client-without past (named_session e.event.kind) a, holder-without o past a p) refl

-- whom an event comes for
comes-without :
    (o : Options) (past : List Entry) (k : EventKind) (answer : Answer) →
    holder_of_target o (without_stops past) k answer ≡ holder_of_target o past k answer
comes-without o past k answer = go (target o k answer)
  where
    go :
        (t : Option Target) →
        option_and_then (λ t. holder o (without_stops past) t.client t.port) t ≡ option_and_then (λ t. holder o past t.client t.port) t
    go None = refl
    go (Some t) = holder-without o past t.client t.port

-- and the histories, without too
history-without :
    (o : Options) (past : List Entry) (s : ℕ) →
    history o (without_stops past) s ≡ without_stops (history o past s)
history-without o [] s = refl
history-without o (e ∷ past) s =
    rw (comes-without o past e.event.kind e.answer, history-without o past s) (go (opens e s) (concerns o past e s))
  where
    go :
        (b c : Bool) →
        cond b (without_stop e ∷ []) (cond c (without_stop e ∷ without_stops (history o past s)) (without_stops (history o past s)))
        ≡ without_stops (cond b (e ∷ []) (cond c (e ∷ history o past s) (history o past s)))
    go true c = refl
    go false true = refl
    go false false = refl

-- what single entries tell but by their actions is told without
latest-without :
    {B : Type 0} (first : B) (tells : Entry → Option B) (h : List Entry) →
    ((e : Entry) → tells (without_stop e) ≡ tells e) →
    latest first tells (without_stops h) ≡ latest first tells h
latest-without first tells [] same = refl
latest-without first tells (e ∷ h) same = ap₂ unwrap_or (same e) (latest-without first tells h same)

-- the directory
cwd-without : (h : List Entry) → cwd (without_stops h) ≡ cwd h
cwd-without [] = refl
cwd-without (e ∷ h) = ap (cwd_after e.decision e.event.kind) (cwd-without h)

-- the slot and the job
lane-without : (h : List Entry) → lane (without_stops h) ≡ lane h
lane-without [] = refl
lane-without (e ∷ h) =
    let logins = latest-without login.New (λ e. login_by e.decision) h (λ e. refl) in
    let names = latest-without None (λ e. name_by e.decision e.event.kind) h (λ e. refl) in
    let offsets = latest-without 0 (λ e. offset_by e.decision e.event.kind e.answer) h (λ e. refl) in
    ap (λ (l : Lane). record { slot = l.slot; pending = l.pending; running = kept_running e.decision e.answer l.running })
    (λ i. lane_after e.event.kind e.decision (queued_by e.decision e.event.kind (logged_user (logins i) (names i)) (cwd-without h i) (offsets i)) (lane-without h i))

-- whether a session is live
live-without : (h : List Entry) → is_live (without_stops h) ≡ is_live h
live-without h = latest-without false (λ e. life_by e.decision) h (λ e. refl)

-- the numbers that were used
used-without : (past : List Entry) (n : ℕ) → is_used (without_stops past) n ≡ is_used past n
used-without [] n = refl
used-without (e ∷ past) n = ap (λ b. is_number (new_number e.event.kind e.decision) n || b) (used-without past n)

-- whether there was a stop
stopped-without : (past : List Entry) → is_stopped (without_stops past) ≡ is_stopped past
stopped-without [] = refl
stopped-without (e ∷ past) = ap (λ b. is_stop e.decision || b) (stopped-without past)

-- which sessions were opened
opened-without : (past : List Entry) → opened_sessions (without_stops past) ≡ opened_sessions past
opened-without [] = refl
opened-without (e ∷ past) = rw (opened-without past) refl

-- in every right log the history of a live session has no stop
unstopped :
    (o : Options) (log : List Entry) (s : ℕ) →
    IsRight o log →
    is_live (history o (past_of log) s) ≡ true →
    without_stops (history o (past_of log) s) ≡ history o (past_of log) s
unstopped o log s r = right-history o s (λ h. is_live h ≡ true → without_stops h ≡ h) (λ l. refl) opened own log r
  where
    opened : (e : Entry) → opens e s ≡ true → is_live (e ∷ []) ≡ true → without_stops (e ∷ []) ≡ e ∷ []
    opened e n l = ap (λ x. x ∷ []) (without-plain e (ap is_stop (opened-is e.event.kind e.decision s n)))

    own :
        (log : List Entry) (e : Entry) → Comes o log e → concerns o (past_of log) e s ≡ true →
        (is_live (history o (past_of log) s) ≡ true → without_stops (history o (past_of log) s) ≡ history o (past_of log) s) →
        is_live (e ∷ history o (past_of log) s) ≡ true →
        without_stops (e ∷ history o (past_of log) s) ≡ e ∷ history o (past_of log) s
    own log e comes c ih l =
        let before : is_live (history o (past_of log) s) ≡ true = life-given e.decision (is_live (history o (past_of log) s)) unopened l in
        ap₂ (λ x xs. x ∷ xs) (without-plain e plain) (ih before)
      where
        unopened : e.decision ≢ decision.Opened
        unopened x = true≢false (sym c ∙ nobody-concerns o (past_of log) e s (opened-subject o (past_of log) e x (sym comes.fit ∙ x)))

        plain : is_stop e.decision ≡ false
        plain =
            by_test (is_stop e.decision)
            (λ n. let z : false ≡ true = sym (ap (λ d. unwrap_or (life_by d) (is_live (history o (past_of log) s))) (stop-is e.decision n)) ∙ l in cc)
            (λ n. n)

-- so every session is told without
session-without :
    (o : Options) (log : List Entry) (s : ℕ) →
    IsRight o log →
    session o (without_stops (past_of log)) s ≡ session o (past_of log) s
session-without o log s r =
    rw (history-without o past s, opener-without past s)
    (by_test (is_live (history o past s)) (λ l. rw (unstopped o log s r l) refl) (λ l. rw (live-without (history o past s), l) refl))
  where
    past : List Entry
    past = past_of log

-- all is told without
told-without :
    (o : Options) (log : List Entry) →
    IsRight o log →
    TellSame o (past_of log) (without_stops (past_of log))
told-without o log r =
    record {
      sessions = λ s. session-without o log s r;
      jobs = λ s. ap (λ h. (lane h).running) (history-without o past s) ∙ ap (λ (l : Lane). l.running) (lane-without (history o past s));
      holders = holder-without o past;
      numbers = used-without past;
      stopped = stopped-without past;
      live = λ i. filter (λ s. is_some (session-without o log s r i)) (opened-without past i);
    }
  where
    past : List Entry
    past = past_of log

-- failed logins too
tally-without :
    (o : Options) (p : FailedLoginsPolicy) (log : List Entry) (key : LoginKey) →
    IsRight o log →
    tally o p (without_stops (past_of log)) key ≡ tally o p (past_of log) key
tally-without o p log key r = right-past o (λ past. tally o p (without_stops past) key ≡ tally o p past key) refl step log r
  where
    step :
        (log : List Entry) (e : Entry) → Comes o log e →
        tally o p (without_stops (past_of log)) key ≡ tally o p (past_of log) key →
        tally o p (without_stops (e ∷ past_of log)) key ≡ tally o p (e ∷ past_of log) key
    step log e comes h = go e.event.kind (tally o p (without_stops (past_of log)) key) (tally o p (past_of log) key) h
      where
        go :
            (k : EventKind) (f g : Option Failures) → f ≡ g →
            failures_after o p (without_stops (past_of log)) key k e.event.at f ≡ failures_after o p (past_of log) key k e.event.at g
        go (kind.AuthDone s said) f g x =
            λ i. cond (is_login_for p (session-without o log s comes.right i) key) (failures_by said p e.event.at (x i)) (x i)
        go k f g x = ap (failures_after o p (past_of log) key k e.event.at) x

-- so the same is decided
decides-without :
    (o : Options) (log : List Entry) (at : ℕ) (k : EventKind) (answer : Answer) → IsRight o log →
    due o (without_stops (past_of log)) at k answer ≡ due o (past_of log) at k answer
decides-without o log at k answer r =
    decided-same o past (without_stops past) (told-without o log r) at k answer (λ v said. ap (λ f. auth_row o.lockout at f said v.login) (keys v o.lockout))
  where
    past : List Entry
    past = past_of log

    each :
        (y : Option FailedLoginsPolicy) (key : LoginKey) →
        option_and_then (λ q. tally o q (without_stops (past_of log)) key) y ≡ option_and_then (λ q. tally o q (past_of log) key) y
    each None key = refl
    each (Some q) key = tally-without o q log key r

    keys :
        (v : Session) (x : Option FailedLoginsPolicy) →
        option_and_then (λ p. failures o (without_stops (past_of log)) (login_key p v)) x ≡ option_and_then (λ p. failures o (past_of log) (login_key p v)) x
    keys v None = refl
    keys v (Some p) = each o.lockout (login_key p v)

-- and done
does-without :
    (o : Options) (log : List Entry) (e : Entry) →
    IsRight o log →
    acts_of o (without_stops (past_of log)) e ≡ acts_of o (past_of log) e
does-without o log e r = done-same o (past_of log) (without_stops (past_of log)) (told-without o log r) e

-- a log and another serve the same, and are the same without what stops did
pub record AreServed (one other : List Entry) : Type 0 where
  pub served : SameServed one other
  pub same : without_stops (past_of one) ≡ without_stops (past_of other)

-- with an entry more on both they still do
served-more :
    (one other : List Entry) (d e : Entry) → AreServed one other →
    ServesSame d e → without_stop d ≡ without_stop e → AreServed (d ∷ one) (e ∷ other)
served-more one other d e h serves same = record { served = (h.served, serves); same = go (is_refusal e.decision) refl }
  where
    go :
        (b : Bool) →
        is_refusal e.decision ≡ b →
        without_stops (past_of (d ∷ one)) ≡ without_stops (past_of (e ∷ other))
    go true x = rw (ap is_refusal serves.decision ∙ x, x) h.same
    go false x = rw (ap is_refusal serves.decision ∙ x, x) (ap₂ (λ y ys. y ∷ ys) same h.same)

-- the log of the events and answers of a right log that is acted but for its Shutdowns serves the same
pub served-again :
    (o : Options) (log : List Entry) → IsRight o log → IsActedButStops o log →
    AreServed (log_of o (events_of log)) log
unfolding decide acts
served-again o [] r a = record { served = tt; same = refl }
served-again o (e ∷ log) r a = go (served-again o log r.0 a.0)
  where
    again : List Entry
    again = log_of o (events_of log)

    next : Entry
    next = next_entry o again e.event e.answer

    right : IsRight o again
    right = (log_of-right o (events_of log)).0

    go : AreServed (log_of o (events_of log)) log → AreServed (next ∷ again) (e ∷ log)
    go before = served-more again log next e before serves (same (is_stop e.decision) refl)
      where
        decided : next.decision ≡ e.decision
        decided =
            sym (decides-without o again e.event.at e.event.kind e.answer right)
            ∙ (ap (λ p. due o p e.event.at e.event.kind e.answer) before.same
            ∙ (decides-without o log e.event.at e.event.kind e.answer r.0 ∙ sym r.1))

        done : (x : Entry) → acts_of o (past_of again) x ≡ acts_of o (past_of log) x
        done x =
            sym (does-without o again x right) ∙ (ap (λ p. acts_of o p x) before.same ∙ does-without o log x r.0)

        acted : e.event.kind ≢ kind.Shutdown → next.actions ≡ e.actions
        acted going =
            done (record { event = e.event; answer = e.answer; decision = next.decision; actions = [] })
            ∙ (ap (λ d. acts_of o (past_of log) (record { event = e.event; answer = e.answer; decision = d; actions = [] })) decided
            ∙ (acts-bare o log e ∙ sym (a.1 going)))

        serves : ServesSame next e
        serves = record { event = refl; answer = refl; decision = decided; actions = acted }

        going : is_stop e.decision ≡ false → e.event.kind ≢ kind.Shutdown
        going n k =
            let z : true ≡ false = sym (ap is_stop (r.1 ∙ ap (λ x. due o (past_of log) e.event.at x e.answer) k)) ∙ n in
            cc

        same : (b : Bool) → is_stop e.decision ≡ b → without_stop next ≡ without_stop e
        same true n =
            without-actions next (ap is_stop decided ∙ n)
            ∙ (ap (λ (d : Decision). record { event = e.event; answer = e.answer; decision = d; actions = [] }) decided ∙ sym (without-actions e n))
        same false n =
            λ i. record { event = e.event; answer = e.answer; decision = decided i; actions = cond (is_stop (decided i)) [] (acted (going n) i) }

-- logs that serve the same are the same, where the other has no Shutdown
pub served-same :
    (o : Options) (one other : List Entry) → IsRight o other → is_stopped (past_of other) ≡ false →
    SameServed one other → one ≡ other
unfolding decide
served-same o [] [] r n h = refl
served-same o [] (e ∷ other) r n h = absurd h
served-same o (d ∷ one) [] r n h = absurd h
served-same o (d ∷ one) (e ∷ other) r n h = ap₂ (λ x xs. x ∷ xs) entry (served-same o one other r.0 before h.0)
  where
    stopping :
        (b : Bool) →
        is_refusal e.decision ≡ b →
        is_stopped (cond (not b) (e ∷ past_of other) (past_of other)) ≡ false →
        (is_stopped (past_of other) ≡ false) × (is_stop e.decision ≡ false)
    stopping true x y = (y, by_test (is_stop e.decision) (λ z. absurd (true≢false (sym x ∙ stop-counts e.decision z))) (λ z. z))
    stopping false x y = let parts = or_parts (is_stop e.decision) (is_stopped (past_of other)) y in (parts.1, parts.0)

    parts : (is_stopped (past_of other) ≡ false) × (is_stop e.decision ≡ false)
    parts = stopping (is_refusal e.decision) refl n

    before : is_stopped (past_of other) ≡ false
    before = parts.0

    going : e.event.kind ≢ kind.Shutdown
    going k =
        let z : true ≡ false = sym (ap is_stop (r.1 ∙ ap (λ x. due o (past_of other) e.event.at x e.answer) k)) ∙ parts.1 in
        cc

    entry : d ≡ e
    entry i = record { event = h.1.event i; answer = h.1.answer i; decision = h.1.decision i; actions = h.1.actions going i }

-- a client's part of a right and acted log serves what its events and answers give with nobody else there
pub client-served :
    (o : Options) (log : List Entry) (a : IpAddr) →
    is_legacy o.mode ≡ false → locks_by_address o.lockout ≡ true →
    IsApart log a → IsRight o log → IsActed o log →
    SameServed (log_of o (events_of (client_log log a))) (client_log log a)
client-served o log a m locks apart r d =
    let part = client-right o log a m locks apart r d in
    (served-again o (client_log log a) part.0 part.1).served

-- and before any stop it is that
pub client-alone :
    (o : Options) (log : List Entry) (a : IpAddr) →
    is_legacy o.mode ≡ false → locks_by_address o.lockout ≡ true →
    IsApart log a → IsRight o log → IsActed o log → is_stopped (past_of log) ≡ false →
    log_of o (events_of (client_log log a)) ≡ client_log log a
client-alone o log a m locks apart r d n =
    served-same o _ (client_log log a) (client-right o log a m locks apart r d).0 (stopped-alike o log a r ∙ n) (client-served o log a m locks apart r d)
