-- What waits or runs is as it was queued, and runs where it was started.
use Rattle.std.proofs.Common.{◌≡◌, refl, sym, ◌∙◌, ap, ap₂, subst, ℕ, ◌≤◌, ◌||◌, Bool, true, false, cond, List, [], ◌∷◌, Option, Some, None, arith, eqb-true, eq-eqb, inl, inr}
use Rattle.std.specs.Prelude.{◌↔◌, ◌⊎◌, ◌==◌, count_by}
use Rattle.std.specs.List.{list_any}
use Rattle.std.specs.Option.{option_or}
use Rattle.std.proofs.lemmas.Bool.{and_parts, or_left, or_right}
use Rattle.std.proofs.lemmas.List.Sums.{sum_by-cons}
use Rattle.std.proofs.lemmas.Option.{same_Some}
use Rattle.ftp_events.specs.declared.action.Action.TheVariants as action
use Rattle.ftp_events.specs.declared.decision.Decision.TheVariants as decision
use Rattle.ftp_events.specs.declared.decision.SlotMove.TheVariants.{Links, Queues, Finishes}
use Rattle.ftp_events.specs.Classes.{is_stop}
use Rattle.ftp_events.specs.Fate.{is_running}
use Rattle.ftp_events.specs.History.{Nobody, One}
use Rattle.ftp_events.specs.Login.{logged_user}
use Rattle.ftp_events.specs.Slot.{startable}
use Rattle.ftp_events.specs.Transfer.{command_path, command_offset}
use Rattle.ftp_laws.proofs.Common.{SlotMove, slot_move, moved, starts_by, Options, Ticket, Running, Action, Entry, Pending, Session, past_of, is_refusal, new_number, subject, concerns, opens, history, Lane, with_link, queued_in, lane, session, running_job, due, acts_of, pending_in, start_acts, stays, IsRight, IsActed, lane_after, kept_running}
use Rattle.ftp_laws.specs.Fates.{settles, settle_count, queue_count}
use Rattle.ftp_laws.specs.Transfers.{transfer_of, WasQueuedSo, starts_it, was_started}
use Rattle.ftp_laws.proofs.TicketLemmas.{same_ticket-equal, same_ticket-refl}
use Rattle.ftp_laws.proofs.SubjectLemmas.{by_subject, concerned, one-own}
use Rattle.ftp_laws.proofs.StopLemmas.{running-stopped}
use Rattle.ftp_laws.proofs.ClassLemmas.{queues-is}
use Rattle.ftp_laws.proofs.QuestionLemmas.{history-other, history-own, running-other, session-told, lane-opened, empty_lane}
use Rattle.ftp_laws.proofs.HoldLemmas.{opened-fresh}
use Rattle.ftp_laws.proofs.LiveLemmas.{live_sessions-ascending}
use Rattle.ftp_laws.proofs.PortLemmas.{opened-nobody}
use Rattle.ftp_laws.proofs.LaneLemmas.{IsQueue, queued-live, named-concern, ended-empty}
use Rattle.ftp_laws.proofs.RunningLemmas.{runs-started, running-after, unused-idle}
use Rattle.ftp_laws.proofs.CountLemmas.{IsOnStarts, started_in, count-starts, count-nobody}
use Rattle.ftp_laws.proofs.BalanceLemmas.{one, finishes, settles-completions}
use Rattle.ftp_laws.proofs.PartLemmas.{count-stop-idle}
use Rattle.ftp_laws.proofs.SoundLemmas.{AllOf, all-wider, all-moved, queue-as, sound, all-kept}
use Rattle.ftp_transfer.specs.declared.job.Job.{Job}
use Rattle.ftp_laws.proofs.KeptLemmas.{IsSame, kept-same, kept-some, kept-started}
use Rattle.ftp_laws.proofs.AccountLemmas.{slot-told, entry-fit, settles-here}
use Rattle.ftp_laws.proofs.FateLemmas.{IsAccounted, accounted, running-carried}
use Rattle.ftp_laws.proofs.CancellationLemmas.{any-counted, counted-any}
use Rattle.ftp_laws.proofs.JobLemmas.{started-idle, started-runs, starting-history, started_in-owned}
use Rattle.ftp_laws.proofs.EntryLemmas.{Comes, right-past, acted-past}
use Rattle.ftp_laws.proofs.Cases.{by_test, by_option, by_part}

-- a transfer is of session s, and was queued by an entry
abbrev IsQueuedFor : Options → List Entry → ℕ → Pending → Type 0
IsQueuedFor o past s p = (p.ticket.session ≡ s) × WasQueuedSo o past p

-- what an entry about session s queues
queued-here :
    (o : Options) (past : List Entry) (e : Entry) (s : ℕ) (t : Ticket) (p : Pending) →
    e.decision ≡ due o past e.event.at e.event.kind e.answer →
    concerns o past e s ≡ true →
    slot_move e.decision ≡ Queues t →
    queued_in (history o past s) e ≡ Some p →
    IsQueuedFor o (e ∷ past) s p
queued-here o past e s t p fit c m made =
    let d : e.decision ≡ decision.Queued t = queues-is e.decision t m in
    let q : IsQueue o past e.event.kind t = queued-live o past e.event.at e.event.kind e.answer t (sym fit ∙ d) in
    let v : Session = q.session_then in
    let own : q.number ≡ s = named-concern o past e q.number s fit q.named c in
    let known : session o past s ≡ Some v = subst (λ (n : ℕ). session o past n ≡ Some v) own q.known in
    let told = (session-told o past s v known).told in
    let is = same_Some _ _ (sym made ∙ queue-as (history o past s) e t q.command d q.asked) in
    let ticket : p.ticket ≡ t = ap (λ (x : Pending). x.ticket) is in
    let session_is : p.ticket.session ≡ s = ap (λ (u : Ticket). u.session) (ticket ∙ q.ticket) ∙ own in
    let command : p.command ≡ q.command = ap (λ (x : Pending). x.command) is in (
      session_is,
      inl (record {
        session_then = v;
        live = subst (λ (n : ℕ). session o past n ≡ Some v) (sym session_is) known;
        decided = d ∙ ap decision.Queued (sym ticket);
        asked = q.asked ∙ ap Some (sym command);
        user = ap (λ (x : Pending). x.user) is ∙ ap (λ (w : Session). logged_user w.login w.name) told;
        path = ap (λ (x : Pending). x.path) is ∙ ap₂ command_path (ap (λ (w : Session). w.cwd) told) (sym command);
        offset = ap (λ (x : Pending). x.offset) is ∙ ap₂ command_offset (ap (λ (w : Session). w.offset) told) (sym command);
      }),
    )

-- nothing waits or runs in an empty lane
all-empty : (Q : Pending → Type 0) → AllOf Q empty_lane
all-empty Q = record { waits = λ p x. let z : None ≡ Some p = x in cc; runs = λ j x. let z : None ≡ Some j = x in cc }

-- in every right log, what waits or runs was queued for its session
lane-queued :
    (o : Options) (log : List Entry) (s : ℕ) → IsRight o log →
    AllOf (IsQueuedFor o (past_of log) s) (lane (history o (past_of log) s))
lane-queued o log s r = right-past o (λ past. AllOf (IsQueuedFor o past s) (lane (history o past s))) (all-empty (IsQueuedFor o [] s)) step log r
  where
    step :
        (log : List Entry) (e : Entry) → Comes o log e →
        AllOf (IsQueuedFor o (past_of log) s) (lane (history o (past_of log) s)) →
        AllOf (IsQueuedFor o (e ∷ past_of log) s) (lane (history o (e ∷ past_of log) s))
    step log e comes before =
        let past : List Entry = past_of log in
        let more : AllOf (IsQueuedFor o (e ∷ past) s) (lane (history o past s)) =
        all-wider (IsQueuedFor o past s) (IsQueuedFor o (e ∷ past) s) (lane (history o past s)) (λ p x. (x.0, inr x.1)) before in
        by_part o past e s
        (λ n. subst (AllOf (IsQueuedFor o (e ∷ past) s)) (sym (lane-opened o past e s n)) (all-empty (IsQueuedFor o (e ∷ past) s)))
        (λ n c.
        subst (λ (h : List Entry). AllOf (IsQueuedFor o (e ∷ past) s) (lane h)) (sym (history-own o past e s n c))
        (all-kept (IsQueuedFor o (e ∷ past) s) e.decision e.answer (lane_after e.event.kind e.decision (queued_in (history o past s) e) (lane (history o past s)))
        (all-moved (IsQueuedFor o (e ∷ past) s) (slot_move e.decision) (new_number e.event.kind e.decision) (queued_in (history o past s) e) (lane (history o past s))
        (λ t m p x. queued-here o past e s t p comes.fit c m x) more)))
        (λ n c. subst (λ (h : List Entry). AllOf (IsQueuedFor o (e ∷ past) s) (lane h)) (sym (history-other o past e s n c)) more)

-- so what waits in a session was queued for it
pub waiting-queued :
    (o : Options) (log : List Entry) (s : ℕ) (p : Pending) → IsRight o log →
    pending_in (session o (past_of log) s) ≡ Some p →
    (p.ticket.session ≡ s) × WasQueuedSo o (past_of log) p
waiting-queued o log s p r h = (lane-queued o log s r).waits p (sym (slot-told o (past_of log) s (ended-empty o log s r)).1 ∙ h)

-- and what runs
pub running-queued :
    (o : Options) (log : List Entry) (s : ℕ) (run : Running) → IsRight o log →
    running_job o (past_of log) s ≡ Some run →
    (run.job.ticket.session ≡ s) × WasQueuedSo o (past_of log) (transfer_of run.job)
running-queued o log s run r h = (lane-queued o log s r).runs run h

-- the test on starts of a transfer on a link is one on starts
starts_it-on-starts : (t : Ticket) (n : ℕ) → IsOnStarts (starts_it t n)
starts_it-on-starts t n =
    record { plain = λ s. record { closes = λ m. refl; notifies = λ meta what. refl; replies = λ delay r. refl }; completed = λ u b. refl; cancelled = λ u. refl }

-- the transfer runs on link n
abbrev pub RunsOn : Options → List Entry → Ticket → ℕ → Type 0
RunsOn o past t n = (r : Running) × (running_job o past t.session ≡ Some r) × (r.job.ticket ≡ t) × (r.job.number ≡ n)

-- what was started runs where it was started, or is settled; and what runs was started there
pub record AreStarted (o : Options) (log past : List Entry) : Type 0 where
  pub run : (t : Ticket) (n : ℕ) → was_started t n log ≡ true → RunsOn o past t n ⊎ (1 ≤ settle_count t log)
  pub started : (s : ℕ) (r : Running) → running_job o past s ≡ Some r → was_started r.job.ticket r.job.number log ≡ true

-- one of two that is there
either-some : (a b : Option Running) (r : Running) → option_or a b ≡ Some r → (a ≡ Some r) ⊎ (b ≡ Some r)
either-some None b r h = inr h
either-some (Some j) b r h = inl h

-- what runs after a move starts with it, or ran before
pub runs-after :
    (m : SlotMove) (number : Option ℕ) (queued : Option Pending) (l : Lane) (r : Running) →
    (moved m number queued l).running ≡ Some r →
    (starts_by m number queued l ≡ Some r) ⊎ (l.running ≡ Some r)
runs-after Links number queued l r h = either-some (startable (with_link l.slot number) l.pending l.running) l.running r (sym (runs-started (with_link l.slot number) l.pending l.running) ∙ h)
runs-after (Queues t) number queued l r h = either-some (startable l.slot queued l.running) l.running r (sym (runs-started l.slot queued l.running) ∙ h)
runs-after Finishes number queued l r h = go (either-some (startable l.slot l.pending None) None r (sym (runs-started l.slot l.pending None) ∙ h))
  where
    go : (startable l.slot l.pending None ≡ Some r) ⊎ (None ≡ Some r) → (startable l.slot l.pending None ≡ Some r) ⊎ (l.running ≡ Some r)
    go (inl x) = inl x
    go (inr x) = cc
runs-after m number queued l r h = inr h

-- an entry that comes after a right log, with its actions
record Acts (o : Options) (log : List Entry) (e : Entry) : Type 0 where
  comes : Comes o log e
  acted : e.actions ≡ acts_of o (past_of log) e

-- what an entry does not open, where it is about one session
about-unopened :
    (o : Options) (log : List Entry) (e : Entry) (q : ℕ) → Acts o log e →
    subject o (past_of log) e ≡ One q → opens e q ≡ false
about-unopened o log e q a about = by_test (opens e q) opened (λ x. x)
  where
    opened : opens e q ≡ true → opens e q ≡ false
    opened n =
        let z : Nobody ≡ One q = sym (opened-nobody o (past_of log) e q a.comes.fit n) ∙ about in
        cc

-- a job that an entry starts for a session runs then
started_in-runs :
    (o : Options) (log : List Entry) (e : Entry) (q : ℕ) (j : Running) → Acts o log e →
    subject o (past_of log) e ≡ One q →
    started_in o (past_of log) e q ≡ Some j →
    running_job o (e ∷ past_of log) q ≡ Some j
started_in-runs o log e q j a about h =
    let past : List Entry = past_of log in
    let longer : history o (e ∷ past) q ≡ e ∷ history o past q = history-own o past e q (about-unopened o log e q a about) (one-own o past e q about) in
    let starts = sym (starting-history o past e q (ended-empty o log q a.comes.right)) ∙ h in
    ap (λ (x : List Entry). (lane x).running) longer
    ∙ (kept-started e.decision e.answer (new_number e.event.kind e.decision) (queued_in (history o past q) e) (lane (history o past q)) j (lane_after e.event.kind e.decision (queued_in (history o past q) e) (lane (history o past q))).running starts
    ∙ started-runs (slot_move e.decision) (new_number e.event.kind e.decision) (queued_in (history o past q) e) (lane (history o past q)) j starts)

-- a transfer that an entry starts on link n runs there
starts-run :
    (o : Options) (log : List Entry) (e : Entry) (t : Ticket) (n : ℕ) → Acts o log e →
    list_any (starts_it t n) e.actions ≡ true →
    RunsOn o (e ∷ past_of log) t n
starts-run o log e t n a h =
    by_subject o past e
    (λ about. absurd (omega (arith, any-counted (starts_it t n) e.actions h, count-nobody (starts_it t n) o past e (λ m. refl) a.acted about)))
    (λ q about.
    by_job q about (started_in o past e q) refl
    (omega (arith, any-counted (starts_it t n) e.actions h, count-starts (starts_it t n) o past e q (starts_it-on-starts t n) a.comes.counts a.acted about)))
    (λ about.
    let on : IsOnStarts (starts_it t n) = starts_it-on-starts t n in
    absurd (omega (arith, any-counted (starts_it t n) e.actions h, count-stop-idle o past e a.comes.counts a.acted (starts_it t n) on.plain on.cancelled about)))
  where
    past : List Entry
    past = past_of log

    by_it :
        (q : ℕ) (j : Running) → subject o past e ≡ One q → started_in o past e q ≡ Some j →
        (b : Bool) → starts_it t n (action.Start j.job.ticket j.job.number) ≡ b →
        1 ≤ one b → RunsOn o (e ∷ past) t n
    by_it q j about x false y le = absurd (omega (arith, le))
    by_it q j about x true y le =
        let parts = and_parts _ (j.job.number == n) y in
        let same : j.job.ticket ≡ t = same_ticket-equal j.job.ticket t parts.0 in
        let own : q ≡ t.session = sym (started_in-owned o log e q j a.comes.right a.comes.fit (one-own o past e q about) x) ∙ ap (λ (u : Ticket). u.session) same in
        (j, subst (λ (m : ℕ). running_job o (e ∷ past) m ≡ Some j) own (started_in-runs o log e q j a about x), same, eqb-true j.job.number n parts.1)

    by_job :
        (q : ℕ) → subject o past e ≡ One q → (j : Option Running) → started_in o past e q ≡ j →
        1 ≤ count_by (starts_it t n) (start_acts j) →
        RunsOn o (e ∷ past) t n
    by_job q about None x le = absurd (omega (arith, le))
    by_job q about (Some j) x le =
        by_it q j about x (starts_it t n (action.Start j.job.ticket j.job.number)) refl
        (omega (arith, le, sum_by-cons (λ z. one (starts_it t n z)) (action.Start j.job.ticket j.job.number) []))

-- a transfer that runs on link n still does after an entry, or is settled by it
runs-on :
    (o : Options) (log : List Entry) (e : Entry) (t : Ticket) (n : ℕ) → Acts o log e →
    RunsOn o (past_of log) t n →
    RunsOn o (e ∷ past_of log) t n ⊎ (1 ≤ count_by (settles t) e.actions)
runs-on o log e t n a x = by_part o past e s opened own (λ m c. inl (x.0, running-other o past e s m c ∙ x.1, x.2, x.3))
  where
    past : List Entry
    past = past_of log

    s : ℕ
    s = t.session

    l : Lane
    l = lane (history o past s)

    number : Option ℕ
    number = new_number e.event.kind e.decision

    queued : Option Pending
    queued = queued_in (history o past s) e

    opened : opens e s ≡ true → RunsOn o (e ∷ past) t n ⊎ (1 ≤ count_by (settles t) e.actions)
    opened m =
        let idle : running_job o past s ≡ None = unused-idle o log s a.comes.right (opened-fresh o past e s a.comes.fit m) in
        let z : None ≡ Some x.0 = sym idle ∙ x.1 in
        cc

    own : opens e s ≡ false → concerns o past e s ≡ true → RunsOn o (e ∷ past) t n ⊎ (1 ≤ count_by (settles t) e.actions)
    own m c =
        by_test (finishes (slot_move e.decision))
        (λ f.
        let ran : is_running t l.running ≡ true = rw (x.1, x.2) (same_ticket-refl t) in
        inr (omega (
          arith,
          settles-here o past e t a.comes.counts a.acted c (ended-empty o log s a.comes.right) (λ q. sound o log q a.comes.right) (live_sessions-ascending o log a.comes.right),
          settles-completions t s e.event.kind e.decision (stays e.decision (session o past s)) queued l (entry-fit o past e s a.comes.fit c),
          ap (λ b. cond b (one (is_running t l.running)) 0) f,
          ap one ran,
        )))
        (λ f.
        let none : starts_by (slot_move e.decision) number queued l ≡ None =
        by_option (starts_by (slot_move e.decision) number queued l) (λ y. y)
        (λ j y. let z : None ≡ Some x.0 = sym (started-idle (slot_move e.decision) number queued l j f y) ∙ x.1 in cc) in
        let kept = kept-some e.decision e.answer x.0 in
        inl (
          kept.0,
          ap (λ (h : List Entry). (lane h).running) (history-own o past e s m c)
              ∙ (ap (kept_running e.decision e.answer) (running-after (slot_move e.decision) number queued l f ∙ (ap (λ (j : Option Running). option_or j l.running) none ∙ x.1))
              ∙ kept.1),
          sym (ap (λ (job : Job). job.ticket) kept.2) ∙ x.2,
          sym (ap (λ (job : Job). job.number) kept.2) ∙ x.3,
        ))

-- the job ran, but for its mark and its count
abbrev RanBefore : Options → List Entry → ℕ → Running → Type 0
RanBefore o past s r = (i : Running) × (running_job o past s ≡ Some i) × IsSame i r

-- a job that runs after an entry ran before, but for its mark and its count, or is started by it on its link
run-started :
    (o : Options) (log : List Entry) (e : Entry) (s : ℕ) (r : Running) → Acts o log e →
    running_job o (e ∷ past_of log) s ≡ Some r →
    (list_any (starts_it r.job.ticket r.job.number) e.actions ≡ true) ⊎ RanBefore o (past_of log) s r
run-started o log e s r a h =
    by_test (is_stop e.decision) (λ n. inr (r, sym (running-stopped o past e s n) ∙ h, refl))
    (λ n. by_part o past e s opened (own n) (λ m c. inr (r, sym (running-other o past e s m c) ∙ h, refl)))
  where
    past : List Entry
    past = past_of log

    test : Action → Bool
    test = starts_it r.job.ticket r.job.number

    opened : opens e s ≡ true → (list_any test e.actions ≡ true) ⊎ RanBefore o past s r
    opened m =
        let idle : running_job o (e ∷ past) s ≡ None = ap (λ (l : Lane). l.running) (lane-opened o past e s m) in
        let z : None ≡ Some r = sym idle ∙ h in
        cc

    starts : subject o past e ≡ One s → started_in o past e s ≡ Some r → list_any test e.actions ≡ true
    starts about x =
        let one_start : count_by test (start_acts (Some r)) ≡ 1 = rw (same_ticket-refl r.job.ticket, eq-eqb r.job.number r.job.number refl) refl in
        counted-any test e.actions
        (omega (arith, count-starts test o past e s (starts_it-on-starts r.job.ticket r.job.number) a.comes.counts a.acted about, ap (λ (j : Option Running). count_by test (start_acts j)) x, one_start))

    -- a job that starts here
    start :
        (j : Running) → is_stop e.decision ≡ false → concerns o past e s ≡ true →
        starts_by (slot_move e.decision) (new_number e.event.kind e.decision) (queued_in (history o past s) e) (lane (history o past s)) ≡ Some j →
        kept_running e.decision e.answer (Some j) ≡ Some r →
        (list_any test e.actions ≡ true) ⊎ RanBefore o past s r
    start j plain c x y =
        let plainly = kept-started e.decision e.answer (new_number e.event.kind e.decision) (queued_in (history o past s) e) (lane (history o past s)) j (Some j) x in
        inl (starts (concerned o past e s plain c) (starting-history o past e s (ended-empty o log s a.comes.right) ∙ (x ∙ (sym plainly ∙ y))))

    own :
        is_stop e.decision ≡ false → opens e s ≡ false → concerns o past e s ≡ true →
        (list_any test e.actions ≡ true) ⊎ RanBefore o past s r
    own plain m c =
        let after : Option Running = (lane_after e.event.kind e.decision (queued_in (history o past s) e) (lane (history o past s))).running in
        let here : kept_running e.decision e.answer after ≡ Some r = sym (ap (λ (x : List Entry). (lane x).running) (history-own o past e s m c)) ∙ h in
        let was = kept-same e.decision e.answer after r here in
        go was.0 was.2 (sym (ap (kept_running e.decision e.answer) was.1) ∙ here)
        (runs-after (slot_move e.decision) (new_number e.event.kind e.decision) (queued_in (history o past s) e) (lane (history o past s)) was.0 was.1)
      where
        go :
            (i : Running) → IsSame i r → kept_running e.decision e.answer (Some i) ≡ Some r →
            (starts_by (slot_move e.decision) (new_number e.event.kind e.decision) (queued_in (history o past s) e) (lane (history o past s)) ≡ Some i)
            ⊎ ((lane (history o past s)).running ≡ Some i) →
            (list_any test e.actions ≡ true) ⊎ RanBefore o past s r
        go i same y (inl x) = start i plain c x y
        go i same y (inr x) = inr (i, x, same)

-- in every right and acted log
pub are-started : (o : Options) (log : List Entry) → IsRight o log → IsActed o log → AreStarted o log (past_of log)
are-started o log r a = acted-past o (λ log past. AreStarted o log past) first refused step log r a
  where
    first : AreStarted o [] []
    first = record { run = λ t n h. let z : false ≡ true = h in cc; started = λ s r h. let z : None ≡ Some r = h in cc }

    settled : {A : Type 0} (t : Ticket) (log : List Entry) (e : Entry) → A ⊎ (1 ≤ settle_count t log) → A ⊎ (1 ≤ settle_count t (e ∷ log))
    settled t log e (inl x) = inl x
    settled t log e (inr x) = inr (omega (arith, x))

    refused :
        (log : List Entry) (e : Entry) → e.actions ≡ [] → is_refusal e.decision ≡ true →
        AreStarted o log (past_of log) → AreStarted o (e ∷ log) (past_of log)
    refused log e none x h =
        record {
          run = λ t n y. settled t log e (h.run t n (sym (ap (λ (xs : List Action). list_any (starts_it t n) xs || was_started t n log) none) ∙ y));
          started = λ s r y. or_right (list_any (starts_it r.job.ticket r.job.number) e.actions) (was_started r.job.ticket r.job.number log) (h.started s r y);
        }

    step :
        (log : List Entry) (e : Entry) → Comes o log e → IsActed o log → e.actions ≡ acts_of o (past_of log) e →
        AreStarted o log (past_of log) → AreStarted o (e ∷ log) (e ∷ past_of log)
    step log e comes acted done h = record { run = run; started = started }
      where
        at : Acts o log e
        at = record { comes = comes; acted = done }

        goes : (t : Ticket) (n : ℕ) → RunsOn o (past_of log) t n ⊎ (1 ≤ settle_count t log) → RunsOn o (e ∷ past_of log) t n ⊎ (1 ≤ settle_count t (e ∷ log))
        goes t n (inr x) = inr (omega (arith, x))
        goes t n (inl x) = again (runs-on o log e t n at x)
          where
            again : RunsOn o (e ∷ past_of log) t n ⊎ (1 ≤ count_by (settles t) e.actions) → RunsOn o (e ∷ past_of log) t n ⊎ (1 ≤ settle_count t (e ∷ log))
            again (inl y) = inl y
            again (inr y) = inr (omega (arith, y))

        run : (t : Ticket) (n : ℕ) → was_started t n (e ∷ log) ≡ true → RunsOn o (e ∷ past_of log) t n ⊎ (1 ≤ settle_count t (e ∷ log))
        run t n x =
            by_test (list_any (starts_it t n) e.actions) (λ y. inl (starts-run o log e t n at y))
            (λ y. goes t n (h.run t n (sym (ap (λ b. b || was_started t n log) y) ∙ x)))

        started : (s : ℕ) (r : Running) → running_job o (e ∷ past_of log) s ≡ Some r → was_started r.job.ticket r.job.number (e ∷ log) ≡ true
        started s r x = go (run-started o log e s r at x)
          where
            go :
                (list_any (starts_it r.job.ticket r.job.number) e.actions ≡ true) ⊎ RanBefore o (past_of log) s r →
                was_started r.job.ticket r.job.number (e ∷ log) ≡ true
            go (inl y) = or_left (list_any (starts_it r.job.ticket r.job.number) e.actions) (was_started r.job.ticket r.job.number log) y
            go (inr y) =
                or_right (list_any (starts_it r.job.ticket r.job.number) e.actions) (was_started r.job.ticket r.job.number log)
                (subst (λ (job : Job). was_started job.ticket job.number log ≡ true) y.2 (h.started s y.0 y.1))

-- a transfer that runs was started on the link of its job, and on no other
pub running-started :
    (o : Options) (log : List Entry) (s n : ℕ) (run : Running) → IsRight o log → IsActed o log →
    running_job o (past_of log) s ≡ Some run →
    (was_started run.job.ticket n log ≡ true) ↔ (n ≡ run.job.number)
running-started o log s n run r a known = (
  λ h. on (all.run run.job.ticket n h),
  λ same. subst (λ (m : ℕ). was_started run.job.ticket m log ≡ true) (sym same) (all.started s run known),
)
  where
    all : AreStarted o log (past_of log)
    all = are-started o log r a

    on : RunsOn o (past_of log) run.job.ticket n ⊎ (1 ≤ settle_count run.job.ticket log) → n ≡ run.job.number
    on (inl x) =
        let own : run.job.ticket.session ≡ s = ((sound o log s r).counted.runs run known).0 in
        let here : running_job o (past_of log) s ≡ Some x.0 = subst (λ (m : ℕ). running_job o (past_of log) m ≡ Some x.0) own x.1 in
        sym x.3 ∙ ap (λ (j : Running). j.job.number) (same_Some _ _ (sym here ∙ known))
    on (inr x) =
        let h : IsAccounted o (past_of log) run.job.ticket (settle_count run.job.ticket log) (queue_count run.job.ticket log) = accounted o log run.job.ticket r a in
        absurd (omega (arith, h.balance, h.once, running-carried o log s run r known, x))
