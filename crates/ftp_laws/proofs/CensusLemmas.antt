-- The counts of live sessions and of running jobs are those of lists that have each once.
use Rattle.std.proofs.Common.{◌≡◌, refl, sym, ◌∙◌, ap, ℕ, ◌+◌, ◌-◌, ◌≤◌, Bool, true, false, true≢false, not, cond, List, [], ◌∷◌, length, Option, Some, None, Ok, arith, eqb-true, eq-eqb, inl, inr}
use Rattle.std.specs.Prelude.{◌≢◌, ◌⊎◌, ◌&&◌, ◌==◌, count_by, filter, is_some}
use Rattle.std.proofs.lemmas.List.Sums.{sum_by-cons, length-filter, count_by-le-length}
use Rattle.std.proofs.lemmas.List.Filters.{length-filter_both}
use Rattle.ftp_events.specs.declared.action.Action.TheVariants as action
use Rattle.ftp_events.specs.declared.decision.Decision.TheVariants as decision
use Rattle.ftp_events.specs.declared.decision.Life.TheVariants.{Opens, Ends}
use Rattle.ftp_events.specs.declared.decision.SlotMove.TheVariants.{Finishes}
use Rattle.ftp_events.specs.declared.event.Answer.TheVariants.{Header}
use Rattle.ftp_events.specs.declared.event.EventKind.TheVariants as kind
use Rattle.ftp_events.specs.Classes.{is_stop}
use Rattle.ftp_events.specs.Words.{total}
use Rattle.ftp_events.specs.History.{Nobody, One}
use Rattle.ftp_events.specs.Running.{ended, started, stopped, running_count}
use Rattle.ftp_events.specs.Session.{live_count, live_by_life}
use Rattle.ftp_laws.proofs.Common.{Life, SlotMove, life, ends, slot_move, Options, Ticket, Action, Running, Answer, Decision, Entry, EventKind, Pending, Session, Opening, past_of, job_ticket, is_number, named_session, opened_number, opening_by, subject, concerns, opens, history, Lane, queued_in, lane, lives_on, session, running_job, due, acts_of, completions, stays, start_acts, slot_of, pending_in, IsRight, IsActed}
use Rattle.ftp_laws.specs.Census.{IsCensus}
use Rattle.ftp_laws.specs.Jobs.{starts_for, completes_for, is_cut, cuts_for}
use Rattle.ftp_laws.proofs.SubjectLemmas.{by_subject, all-stop, named-one, one-concerns, one-own, nobody-concerns}
use Rattle.ftp_laws.proofs.StopLemmas.{session-stopped}
use Rattle.ftp_laws.proofs.PartLemmas.{count-stop-idle}
use Rattle.ftp_laws.proofs.ClassLemmas.{opens-is, finishes-is, opened-is, stop-is}
use Rattle.ftp_laws.proofs.DecisionLemmas.{IsLive}
use Rattle.ftp_laws.proofs.EndingLemmas.{ending-live}
use Rattle.ftp_laws.proofs.QuestionLemmas.{session-other, session-own, session_by, running-other}
use Rattle.ftp_laws.proofs.HoldLemmas.{live-unopened}
use Rattle.ftp_laws.proofs.PortLemmas.{opened-subject, session-before, opened-nobody}
use Rattle.ftp_laws.proofs.LaneLemmas.{named-concern}
use Rattle.ftp_laws.proofs.TableLemmas.{same-both}
use Rattle.ftp_laws.proofs.CountLemmas.{IsOnTransfers, IsOnStarts, started_in, count-cuttings, count-about, count-starts, count-drop_acts, count-nobody}
use Rattle.ftp_laws.proofs.BalanceLemmas.{one, IsFit, no-completion, ended-known}
use Rattle.ftp_laws.proofs.AccountLemmas.{entry-fit}
use Rattle.ftp_laws.proofs.JobLemmas.{IsBalanced, jobs-balance, uncut, cut-is, cuts-own, started_in-owned, starts_for-on-starts, completes_for-on-transfers, completes_for-start_acts}
use Rattle.ftp_laws.proofs.EntryLemmas.{Comes, right-past, acted-past}
use Rattle.ftp_laws.proofs.Cases.{by_test, by_option, by_part, by_completion, job-named}

-- of a list without q, how often a number stands in it
count-without :
    (q s : ℕ) (xs : List ℕ) →
    count_by (λ x. x == s) (filter (λ x. not (x == q)) xs) ≡ cond (q == s) 0 (count_by (λ x. x == s) xs)
count-without q s [] = sym (same-both (q == s) 0)
count-without q s (x ∷ xs) = go (x == q) (q == s) refl refl (count-without q s xs)
  where
    rest : List ℕ
    rest = filter (λ y. not (y == q)) xs

    go :
        (b d : Bool) → (x == q) ≡ b → (q == s) ≡ d →
        count_by (λ y. y == s) rest ≡ cond (q == s) 0 (count_by (λ y. y == s) xs) →
        count_by (λ y. y == s) (cond (not b) (x ∷ rest) rest) ≡ cond d 0 (count_by (λ y. y == s) (x ∷ xs))
    go true true i k ih = ih ∙ ap (λ b. cond b 0 (count_by (λ y. y == s) xs)) k
    go true false i k ih =
        let off : (x == s) ≡ false = ap (λ m. m == s) (eqb-true x q i) ∙ k in
        omega (arith, ih ∙ ap (λ b. cond b 0 (count_by (λ y. y == s) xs)) k, sum_by-cons (λ y. one (y == s)) x xs, ap one off)
    go false true i k ih =
        let off : (x == s) ≡ false = ap (λ m. x == m) (sym (eqb-true q s k)) ∙ i in
        omega (arith, ih ∙ ap (λ b. cond b 0 (count_by (λ y. y == s) xs)) k, sum_by-cons (λ y. one (y == s)) x rest, ap one off)
    go false false i k ih =
        omega (
          arith,
          ih ∙ ap (λ b. cond b 0 (count_by (λ y. y == s) xs)) k,
          sum_by-cons (λ y. one (y == s)) x xs,
          sum_by-cons (λ y. one (y == s)) x rest,
        )

-- a census that changes only in q grows or shrinks by it
pub recount :
    (before after : ℕ → Bool) (q : ℕ) (xs : List ℕ) → IsCensus before xs →
    ((s : ℕ) → (q == s) ≡ false → after s ≡ before s) →
    (ys : List ℕ) × IsCensus after ys × (length ys + one (before q) ≡ length xs + one (after q))
recount before after q xs census same = go (after q) refl
  where
    rest : List ℕ
    rest = filter (λ x. not (x == q)) xs

    shorter : length rest + one (before q) ≡ length xs
    shorter = omega (arith, length-filter_both (λ x. x == q) (λ x. not (x == q)) (λ x. refl) xs, length-filter (λ x. x == q) xs, census q)

    off : (s : ℕ) → (q == s) ≡ true → count_by (λ x. x == s) rest ≡ 0
    off s k = count-without q s xs ∙ ap (λ b. cond b 0 (count_by (λ x. x == s) xs)) k

    kept : (s : ℕ) → (q == s) ≡ false → count_by (λ x. x == s) rest ≡ one (after s)
    kept s k = count-without q s xs ∙ (ap (λ b. cond b 0 (count_by (λ x. x == s) xs)) k ∙ (census s ∙ ap one (sym (same s k))))

    go : (b : Bool) → after q ≡ b → (ys : List ℕ) × IsCensus after ys × (length ys + one (before q) ≡ length xs + one b)
    go true a = (
      q ∷ rest,
      λ s. by_test (q == s)
          (λ k.
          let here : after s ≡ true = ap after (sym (eqb-true q s k)) ∙ a in
          omega (arith, sum_by-cons (λ x. one (x == s)) q rest, off s k, ap one k, ap one here))
          (λ k. omega (arith, sum_by-cons (λ x. one (x == s)) q rest, kept s k, ap one k)),
      omega (arith, shorter),
    )
    go false a = (
      rest,
      λ s. by_test (q == s) (λ k. off s k ∙ sym (ap one (ap after (sym (eqb-true q s k)) ∙ a))) (kept s),
      omega (arith, shorter),
    )

-- a census of what a test says, and its length
abbrev HasCensus : (ℕ → Bool) → ℕ → Type 0
HasCensus test n = (xs : List ℕ) × IsCensus test xs × (n ≡ length xs)

-- what opens a session tells how it came
opening-tells :
    (o : Options) (past : List Entry) (at : ℕ) (k : EventKind) (answer : Answer) →
    due o past at k answer ≡ decision.Opened →
    is_some (opening_by k answer) ≡ true
opening-tells o past at (kind.Connect s raw local trace) answer h = refl
opening-tells o past at (kind.Proxied number raw trace) (Header (Ok line)) h = refl
opening-tells o past at k answer h = grind arith

-- and comes with the session's number
opening-known :
    (k : EventKind) (answer : Answer) → is_some (opening_by k answer) ≡ true →
    (s : ℕ) × (op : Opening) × (opened_number k decision.Opened ≡ Some s) × (opening_by k answer ≡ Some op)
opening-known (kind.Connect s raw local trace) answer h = (s, record { raw = raw; local = local; client = raw.ip; trace = trace }, refl, refl)
opening-known (kind.Proxied number raw trace) (Header (Ok line)) h =
    (number, record { raw = raw; local = line.destination; client = line.source.ip; trace = trace }, refl, refl)
opening-known k answer h = cc

-- the sessions that are live
abbrev live_in : Options → List Entry → ℕ → Bool
live_in o past s = is_some (session o past s)

-- a session that is opened is live
opened-live :
    (o : Options) (past : List Entry) (e : Entry) (s : ℕ) (op : Opening) →
    opened_number e.event.kind e.decision ≡ Some s → e.decision ≡ decision.Opened →
    opening_by e.event.kind e.answer ≡ Some op →
    live_in o (e ∷ past) s ≡ true
opened-live o past e s op n d b = rw (n, eq-eqb s s refl, d, b) refl

-- they have a census after an entry that is decided as it has to be
live-step :
    (o : Options) (past : List Entry) (e : Entry) →
    e.decision ≡ due o past e.event.at e.event.kind e.answer →
    HasCensus (live_in o past) (live_count past) →
    HasCensus (live_in o (e ∷ past)) (live_count (e ∷ past))
live-step o past e fit h = by_test (is_stop e.decision) stopped (λ plain. go plain (life e.decision) refl)
  where
    stopped : is_stop e.decision ≡ true → HasCensus (live_in o (e ∷ past)) (live_count (e ∷ past))
    stopped n = (
      [],
      λ s. sym (ap (λ (v : Option Session). one (is_some v)) (session-stopped o past e s n)),
      ap (λ b. cond b 0 (live_by_life (life e.decision) (live_count past))) n,
    )

    counted : is_stop e.decision ≡ false → (l : Life) → life e.decision ≡ l → live_count (e ∷ past) ≡ live_by_life l (live_count past)
    counted plain l x = ap (λ b. cond b 0 (live_by_life (life e.decision) (live_count past))) plain ∙ ap (λ y. live_by_life y (live_count past)) x

    unopened : (q : ℕ) → life e.decision ≢ Opens → opens e q ≡ false
    unopened q other = by_test (opens e q) (λ n. absurd (other (ap life (opened-is e.event.kind e.decision q n)))) (λ n. n)

    ending : is_stop e.decision ≡ false → life e.decision ≡ Ends → HasCensus (live_in o (e ∷ past)) (live_count (e ∷ past))
    ending plain x =
        let alive : IsLive o past e.event.kind = ending-live o past e.event.at e.event.kind e.answer (ap is_stop (sym fit) ∙ plain) (ap (λ d. ends (life d)) (sym fit) ∙ ap ends x) in
        let s : ℕ = alive.number in
        let about : subject o past e ≡ One s = named-one o past e s plain alive.named in
        let here : opens e s ≡ false = unopened s (λ y. let z : Ends ≡ Opens = sym x ∙ y in cc) in
        let dies : lives_on e.decision ≡ false = rw x refl in
        let before : live_in o past s ≡ true = ap is_some alive.known in
        let gone : session o (e ∷ past) s ≡ None = session-own o past e s alive.session_then alive.known here (one-own o past e s about) ∙ rw dies refl in
        let after : live_in o (e ∷ past) s ≡ false = ap is_some gone in
        let more = recount (live_in o past) (live_in o (e ∷ past)) s h.0 h.1
        (λ q k. ap is_some (session-other o past e q (unopened q (λ y. let z : Ends ≡ Opens = sym x ∙ y in cc)) (one-concerns o past e s q about ∙ k))) in
        (more.0, more.1, omega (arith, counted plain Ends x, h.2, more.2, ap one before, ap one after))

    opening : is_stop e.decision ≡ false → life e.decision ≡ Opens → HasCensus (live_in o (e ∷ past)) (live_count (e ∷ past))
    opening plain x =
        let d : e.decision ≡ decision.Opened = opens-is e.decision x in
        let known = opening-known e.event.kind e.answer (opening-tells o past e.event.at e.event.kind e.answer (sym fit ∙ d)) in
        let s : ℕ = known.0 in
        let number : opened_number e.event.kind e.decision ≡ Some s = ap (opened_number e.event.kind) d ∙ known.2 in
        let about = opened-subject o past e d (sym fit ∙ d) in
        let opened : opens e s ≡ true = rw number (eq-eqb s s refl) in
        let before : live_in o past s ≡ false =
        by_option (session o past s) (λ none. ap is_some none) (λ v y. absurd (true≢false (sym opened ∙ live-unopened o past e s v fit y))) in
        let after : live_in o (e ∷ past) s ≡ true = opened-live o past e s known.1 number d known.3 in
        let more = recount (live_in o past) (live_in o (e ∷ past)) s h.0 h.1
        (λ q k. ap is_some (session-other o past e q (rw number k) (nobody-concerns o past e q about))) in
        (more.0, more.1, omega (arith, counted plain Opens x, h.2, more.2, ap one before, ap one after))

    same : life e.decision ≢ Opens → lives_on e.decision ≡ true → (s : ℕ) → live_in o (e ∷ past) s ≡ live_in o past s
    same x l s =
        by_part o past e s (λ n. absurd (true≢false (sym n ∙ unopened s x)))
        (λ n c.
        by_option (session o past s)
        (λ none.
        by_option (session o (e ∷ past) s) (λ y. ap is_some (y ∙ sym none))
        (λ v y. let z : None ≡ Some (session-before o past e s v fit n c y).before = sym none ∙ (session-before o past e s v fit n c y).known in cc))
        (λ v y.
        let stays_live : session o (e ∷ past) s ≡ Some (session_by s e (running_job o past s) v) = session-own o past e s v y n c ∙ rw l refl in
        ap is_some stays_live ∙ sym (ap is_some y)))
        (λ n c. ap is_some (session-other o past e s n c))

    go : is_stop e.decision ≡ false → (l : Life) → life e.decision ≡ l → HasCensus (live_in o (e ∷ past)) (live_count (e ∷ past))
    go plain Opens x = opening plain x
    go plain Ends x = ending plain x
    go plain l x =
        let kept = same (λ y. let z : l ≡ Opens = sym x ∙ y in cc) (rw x refl) in
        (h.0, λ s. h.1 s ∙ ap one (sym (kept s)), counted plain l x ∙ h.2)

-- in every right log the count of live sessions is that of a census of them
pub live-counted :
    (o : Options) (log : List Entry) → IsRight o log →
    (numbers : List ℕ) × IsCensus (λ s. is_some (session o (past_of log) s)) numbers × (live_count (past_of log) ≡ length numbers)
live-counted o log r =
    right-past o (λ past. HasCensus (live_in o past) (live_count past)) ([], λ s. refl, refl)
    (λ log e comes h. live-step o (past_of log) e comes.fit h) log r

-- the action starts a job
abbrev pub is_start : Action → Bool
is_start (action.Start ticket number) = true
is_start _ = false

-- the action completes one
abbrev pub is_completed : Action → Bool
is_completed (action.Completed ticket delivered) = true
is_completed _ = false

-- the test on starts is one on starts
pub start-on-starts : IsOnStarts is_start
start-on-starts =
    record { plain = λ q. record { closes = λ m. refl; notifies = λ meta what. refl; replies = λ delay r. refl }; completed = λ t b. refl; cancelled = λ t. refl }

-- that on completions is one on transfers
pub completed-on-transfers : (q : ℕ) → IsOnTransfers q is_completed
completed-on-transfers q = record { closes = λ m. refl; notifies = λ meta what. refl; replies = λ delay r. refl }

-- a sum of what actions tell is a count of those that tell one
total-counts : (tells : Action → ℕ) (p : Action → Bool) → ((x : Action) → tells x ≡ one (p x)) → (xs : List Action) → total tells xs ≡ count_by p xs
total-counts tells p same [] = refl
total-counts tells p same (x ∷ xs) = omega (arith, total-counts tells p same xs, same x, sum_by-cons (λ y. one (p y)) x xs)

-- an action starts or ends one job, or none
one-each : (x : Action) → (started x ≡ one (is_start x)) × (ended x ≡ one (is_completed x))
one-each (action.Start ticket number) = (refl, refl)
one-each (action.Completed ticket delivered) = (refl, refl)
one-each _ = (refl, refl)

-- so the jobs that start are counted
pub starts-counted : (xs : List Action) → total started xs ≡ count_by is_start xs
starts-counted xs = total-counts started is_start (λ x. (one-each x).0) xs

-- and those that end
pub ends-counted : (xs : List Action) → total ended xs ≡ count_by is_completed xs
ends-counted xs = total-counts ended is_completed (λ x. (one-each x).1) xs

-- a decision stops a job where it cuts one
stopped-cut : (d : Decision) → stopped d ≡ one (is_cut d)
stopped-cut decision.Cut = refl
stopped-cut d = refl

-- of completions two tests that agree on the job's end count the same
completions-alike :
    (p q : Action → Bool) (s : ℕ) (k : EventKind) (d : Decision) (b : Bool) (job : Option Running) → IsOnTransfers s p → IsOnTransfers s q →
    ((t : Ticket) → job_ticket k ≡ Some t → p (action.Completed t b) ≡ q (action.Completed t b)) →
    ((t : Ticket) → p (action.Cancelled t) ≡ q (action.Cancelled t)) →
    count_by p (completions s k d b job) ≡ count_by q (completions s k d b job)
completions-alike p q s k d b job on on' h c =
    by_completion (λ xs. count_by p xs ≡ count_by q xs) s k d b job refl (λ t x y. rw (h t x) refl)
    (λ r x y. count-cuttings p s b r on ∙ (ap one (c r.job.ticket) ∙ sym (count-cuttings q s b r on')))

-- a job that starts for session s counts, whether for s or for any
starts-alike :
    (s : ℕ) (job : Option Running) → ((j : Running) → job ≡ Some j → j.job.ticket.session ≡ s) →
    count_by is_start (start_acts job) ≡ count_by (starts_for s) (start_acts job)
starts-alike s None own = refl
starts-alike s (Some j) own = rw (own j refl, eq-eqb s s refl) refl

-- only a job that ran is completed or cut
completed-ran :
    (s : ℕ) (k : EventKind) (d : Decision) (b : Bool) (queued : Option Pending) (l : Lane) → IsFit k (slot_move d) queued l →
    count_by is_completed (completions s k d b l.running) + one (is_cut d) ≤ one (is_some l.running)
completed-ran s k d b queued l fit = go (slot_move d) refl
  where
    ends :
        (d ≡ decision.Finished) ⊎ (d ≡ decision.Cut) → (ticket : Ticket) → job_ticket k ≡ Some ticket → (j : Running) → l.running ≡ Some j →
        count_by is_completed (completions s k d b l.running) + one (is_cut d) ≡ 1
    ends (inl x) ticket e j ran =
        let told : count_by is_completed (completions s k d b l.running) ≡ 1 = rw (x, e) refl in
        let none : one (is_cut d) ≡ 0 = rw x refl in
        omega (arith, told, none)
    ends (inr x) ticket e j ran =
        let told : count_by is_completed (completions s k d b l.running) ≡ 0 = rw (x, ran) (count-cuttings is_completed s b j (completed-on-transfers s)) in
        let cut : one (is_cut d) ≡ 1 = rw x refl in
        omega (arith, told, cut)

    go : (m : SlotMove) → slot_move d ≡ m → count_by is_completed (completions s k d b l.running) + one (is_cut d) ≤ one (is_some l.running)
    go Finishes x =
        let e = fit.end x in
        let ran : one (is_some l.running) ≡ 1 = rw e.2.1 refl in
        omega (arith, ran, ends (finishes-is d x) e.0 e.1 e.2.0 e.2.1)
    go m x = omega (arith, ap (count_by is_completed) (no-completion s d k b l.running (rw x refl)), ap one (uncut d (rw x refl)))

-- the sessions for which a job runs
abbrev running_in : Options → List Entry → ℕ → Bool
running_in o past s = is_some (running_job o past s)

-- equal as numbers, equal
one-same : (a b : Bool) → one a ≡ one b → a ≡ b
one-same true true h = refl
one-same false false h = refl
one-same true false h = absurd (omega (arith, h))
one-same false true h = absurd (omega (arith, h))

-- they have a census after an entry that is decided and acted as it has to be
running-step :
    (o : Options) (log : List Entry) (e : Entry) → Comes o log e →
    e.actions ≡ acts_of o (past_of log) e →
    HasCensus (running_in o (past_of log)) (running_count (past_of log)) →
    HasCensus (running_in o (e ∷ past_of log)) (running_count (e ∷ past_of log))
running-step o log e comes acted h =
    by_subject o past e (λ x. idle (silent-uncut x) (λ p on cancelled. count-nobody p o past e (on 0).closes acted x)) about
    (λ x. idle (ap is_cut (stop-is e.decision (all-stop o past e x))) (λ p on cancelled. count-stop-idle o past e comes.counts acted p on cancelled x))
  where
    past : List Entry
    past = past_of log

    balanced : (s : ℕ) → IsBalanced o past e s
    balanced s = jobs-balance o log e s comes.right comes.fit comes.counts acted

    counted : running_count (e ∷ past) ≡ running_count past - (one (is_cut e.decision) + count_by is_completed e.actions) + count_by is_start e.actions
    counted = rw (starts-counted e.actions, ends-counted e.actions, stopped-cut e.decision) refl

    silent-uncut : subject o past e ≡ Nobody → is_cut e.decision ≡ false
    silent-uncut x =
        by_test (is_cut e.decision)
        (λ n.
        let d : e.decision ≡ decision.Cut = cut-is e.decision n in
        let end = ended-known o past e.event.at e.event.kind e.answer decision.Cut (sym comes.fit ∙ d) refl in
        let named = named-one o past e end.ticket.session (rw d refl) (job-named e.event.kind end.ticket end.kind_is) in
        let z : Nobody ≡ One end.ticket.session = sym x ∙ named in
        cc)
        (λ n. n)

    idle :
        is_cut e.decision ≡ false →
        ((p : Action → Bool) → ((q : ℕ) → IsOnTransfers q p) → ((t : Ticket) → p (action.Cancelled t) ≡ false) → count_by p e.actions ≡ 0) →
        HasCensus (running_in o (e ∷ past)) (running_count (e ∷ past))
    idle plain none =
        let uncuts : (s : ℕ) → one (cuts_for s e) ≡ 0 = λ s. ap (λ b. one (b && is_number (named_session e.event.kind) s)) plain in
        let kept : (s : ℕ) → running_in o (e ∷ past) s ≡ running_in o past s =
        λ s. one-same _ _ (omega (arith, balanced s, uncuts s, none (starts_for s) (starts_for-on-starts s).plain (λ t. refl), none (completes_for s) (completes_for-on-transfers s) (λ t. refl))) in (
          h.0,
          λ s. h.1 s ∙ ap one (sym (kept s)),
          omega (arith, counted, ap one plain, h.2, none is_start start-on-starts.plain (λ t. refl), none is_completed completed-on-transfers (λ t. refl)),
        )

    only_completions :
        (p : Action → Bool) (q : ℕ) → subject o past e ≡ One q → IsOnTransfers q p →
        ((t : Ticket) → p (action.Cancelled t) ≡ false) →
        ((job : Option Running) → count_by p (start_acts job) ≡ 0) →
        count_by p e.actions ≡ count_by p (completions q e.event.kind e.decision (stays e.decision (session o past q)) (running_job o past q))
    only_completions p q x t cancelled starts =
        let v : Option Session = session o past q in
        omega (
          arith,
          count-about p o past e q t comes.counts acted x,
          starts (started_in o past e q),
          count-drop_acts p q (stays e.decision v) e.decision (slot_of v) (pending_in v) t cancelled,
        )

    about : (q : ℕ) → subject o past e ≡ One q → HasCensus (running_in o (e ∷ past)) (running_count (e ∷ past))
    about q x =
        let c : concerns o past e q ≡ true = one-own o past e q x in
        let staying : Bool = stays e.decision (session o past q) in
        let starts : count_by is_start e.actions ≡ count_by (starts_for q) e.actions =
        count-starts is_start o past e q start-on-starts comes.counts acted x
        ∙ (starts-alike q (started_in o past e q) (λ j y. started_in-owned o log e q j comes.right comes.fit c y)
        ∙ sym (count-starts (starts_for q) o past e q (starts_for-on-starts q) comes.counts acted x)) in
        let completed : count_by is_completed e.actions ≡ count_by is_completed (completions q e.event.kind e.decision staying (running_job o past q)) =
        only_completions is_completed q x (completed-on-transfers q) (λ t. refl) (λ j. none_starts j) in
        let completes : count_by (completes_for q) e.actions ≡ count_by (completes_for q) (completions q e.event.kind e.decision staying (running_job o past q)) =
        only_completions (completes_for q) q x (completes_for-on-transfers q q) (λ t. refl) (λ j. completes_for-start_acts q j) in
        let alike : count_by is_completed (completions q e.event.kind e.decision staying (running_job o past q)) ≡ count_by (completes_for q) (completions q e.event.kind e.decision staying (running_job o past q)) =
        completions-alike is_completed (completes_for q) q e.event.kind e.decision staying (running_job o past q) (completed-on-transfers q) (completes_for-on-transfers q q)
        (λ t k. sym (ap (λ m. m == q) (named-concern o past e t.session q comes.fit (job-named e.event.kind t k) c) ∙ eq-eqb q q refl)) (λ t. refl) in
        let cuts = cuts-own o past e q comes.fit c in
        let ran = completed-ran q e.event.kind e.decision staying (queued_in (history o past q) e) (lane (history o past q)) (entry-fit o past e q comes.fit c) in
        let more = recount (running_in o past) (running_in o (e ∷ past)) q h.0 h.1 (λ s k. ap is_some (others s k)) in (
          more.0,
          more.1,
          omega (arith, counted, h.2, more.2, balanced q, ap one cuts, starts, completed, completes, alike, ran, h.1 q, count_by-le-length (λ n. n == q) h.0),
        )
      where
        none_starts : (job : Option Running) → count_by is_completed (start_acts job) ≡ 0
        none_starts None = refl
        none_starts (Some j) = refl

        others : (s : ℕ) → (q == s) ≡ false → running_job o (e ∷ past) s ≡ running_job o past s
        others s k =
            running-other o past e s
            (by_test (opens e s)
            (λ n.
            let z : Nobody ≡ One q = sym (opened-nobody o past e s comes.fit n) ∙ x in
            cc)
            (λ n. n))
            (one-concerns o past e q s x ∙ k)

-- in every right and acted log the count of running jobs is that of a census of them
pub running-counted :
    (o : Options) (log : List Entry) → IsRight o log → IsActed o log →
    (numbers : List ℕ) × IsCensus (λ s. is_some (running_job o (past_of log) s)) numbers × (running_count (past_of log) ≡ length numbers)
running-counted o log r a =
    acted-past o (λ log past. HasCensus (running_in o past) (running_count past)) ([], λ s. refl, refl) (λ log e none refused h. h)
    (λ log e comes a acted h. running-step o log e comes acted h) log r a
