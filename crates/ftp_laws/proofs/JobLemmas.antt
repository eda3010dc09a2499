-- A session runs one job at a time, on a link of its own.
use Rattle.std.proofs.Common.{◌≡◌, refl, sym, ◌∙◌, ap, ℕ, ◌+◌, ◌&&◌, Bool, true, false, List, ◌∷◌, Option, Some, None, arith, eq-eqb, inl, inr}
use Rattle.std.specs.Prelude.{◌⊎◌, ◌==◌, count_by, is_some}
use Rattle.std.specs.Option.{option_and_then, option_or}
use Rattle.ftp_events.specs.declared.decision.SlotMove.TheVariants.{Links, Queues, Finishes}
use Rattle.ftp_events.specs.declared.decision.Decision.TheVariants as decision
use Rattle.ftp_events.specs.Slot.{startable, started_by}
use Rattle.ftp_events.specs.Classes.{is_stop}
use Rattle.ftp_events.specs.History.{Nobody, One, All}
use Rattle.ftp_laws.proofs.Common.{SlotMove, slot_move, moved, starts_by, Options, Running, Ticket, Decision, Entry, EventKind, Pending, Session, is_number, is_refusal, past_of, job_ticket, named_session, new_number, subject, concerns, opens, history, Lane, with_link, lane_after, queued_in, lane, session, running_job, due, acts_of, completions, stays, slot_of, pending_in, start_acts, starting, IsRight, IsActed}
use Rattle.ftp_laws.proofs.SubjectLemmas.{by_subject, concerned, one-concerns, one-own, named-one, not-all, other-plain, stop-all}
use Rattle.ftp_laws.proofs.StopLemmas.{running-stopped}
use Rattle.ftp_laws.specs.Jobs.{starts_for, completes_for, started_count, completed_count, is_cut, cuts_for, cut_count}
use Rattle.ftp_laws.proofs.ClassLemmas.{finishes-is, opened-is, stop-is}
use Rattle.ftp_laws.proofs.KeptLemmas.{kept-is_some, kept-started}
use Rattle.ftp_laws.proofs.QuestionLemmas.{history-own, running-other, lane-opened}
use Rattle.ftp_laws.proofs.HoldLemmas.{opened-fresh}
use Rattle.ftp_laws.proofs.PortLemmas.{opened-nobody}
use Rattle.ftp_laws.proofs.LaneLemmas.{IsBare, ended-empty, named-concern}
use Rattle.ftp_laws.proofs.RunningLemmas.{runs-started, running-after, unused-idle}
use Rattle.ftp_laws.proofs.CountLemmas.{IsOnTransfers, IsOnStarts, started_in, count-cuttings, count-completions, count-drop_acts, count-about, count-starts, count-nobody}
use Rattle.ftp_laws.proofs.LinkLemmas.{startable-is, starting-told}
use Rattle.ftp_laws.proofs.BalanceLemmas.{one, finishes, no-completion, IsFit, ended-known}
use Rattle.ftp_laws.proofs.PartLemmas.{count-stop-idle}
use Rattle.ftp_laws.proofs.AccountLemmas.{entry-fit}
use Rattle.ftp_laws.proofs.SoundLemmas.{sound, entry-sound}
use Rattle.ftp_laws.proofs.EntryLemmas.{acted-past}
use Rattle.ftp_laws.proofs.Cases.{by_test, by_part, job-named}

-- the test on the starts of a session is one on starts
pub starts_for-on-starts : (s : ℕ) → IsOnStarts (starts_for s)
starts_for-on-starts s =
    record { plain = λ q. record { closes = λ m. refl; notifies = λ meta what. refl; replies = λ delay r. refl }; completed = λ t b. refl; cancelled = λ t. refl }

-- that on its completions is one on transfers
pub completes_for-on-transfers : (s q : ℕ) → IsOnTransfers q (completes_for s)
completes_for-on-transfers s q = record { closes = λ m. refl; notifies = λ meta what. refl; replies = λ delay r. refl }

-- a job that starts and does not follow another is the only one
pub started-idle :
    (m : SlotMove) (number : Option ℕ) (queued : Option Pending) (l : Lane) (j : Running) →
    finishes m ≡ false →
    starts_by m number queued l ≡ Some j → l.running ≡ None
started-idle Links number queued l j f e = (startable-is (with_link l.slot number) l.pending l.running j e).idle
started-idle (Queues t) number queued l j f e = (startable-is l.slot queued l.running j e).idle
started-idle m number queued l j f e = cc

-- a job that starts runs then
pub started-runs :
    (m : SlotMove) (number : Option ℕ) (queued : Option Pending) (l : Lane) (j : Running) →
    starts_by m number queued l ≡ Some j → (moved m number queued l).running ≡ Some j
started-runs Links number queued l j e = runs-started (with_link l.slot number) l.pending l.running ∙ ap (λ (x : Option Running). option_or x l.running) e
started-runs (Queues t) number queued l j e = runs-started l.slot queued l.running ∙ ap (λ (x : Option Running). option_or x l.running) e
started-runs Finishes number queued l j e = runs-started l.slot l.pending None ∙ ap (λ (x : Option Running). option_or x None) e
started-runs m number queued l j e = cc

-- nothing starts from an empty slot
started-bare :
    (m : SlotMove) (number : Option ℕ) (queued : Option Pending) (l : Lane) →
    IsBare l → starts_by m number queued l ≡ None
started-bare Links number queued l h = rw h.0 refl
started-bare (Queues t) number queued l h = rw h.0 refl
started-bare Finishes number queued l h = rw h.0 refl
started-bare m number queued l h = refl

-- what starts is told by the history, also where the session is not live
pub starting-history :
    (o : Options) (past : List Entry) (e : Entry) (s : ℕ) →
    (session o past s ≡ None → IsBare (lane (history o past s))) →
    option_and_then (starting e.event.kind e.decision (running_job o past s)) (session o past s)
    ≡ started_by e.event.kind e.decision (queued_in (history o past s) e) (lane (history o past s))
starting-history o past e s bare = go (session o past s) refl
  where
    go :
        (v : Option Session) → session o past s ≡ v →
        option_and_then (starting e.event.kind e.decision (running_job o past s)) v
        ≡ started_by e.event.kind e.decision (queued_in (history o past s) e) (lane (history o past s))
    go None x = sym (started-bare (slot_move e.decision) (new_number e.event.kind e.decision) (queued_in (history o past s) e) (lane (history o past s)) (bare x))
    go (Some v) x = starting-told o past e s v x

-- a job that starts is one of the session for which it starts
pub started_in-owned :
    (o : Options) (log : List Entry) (e : Entry) (s : ℕ) (j : Running) → IsRight o log →
    e.decision ≡ due o (past_of log) e.event.at e.event.kind e.answer →
    concerns o (past_of log) e s ≡ true →
    started_in o (past_of log) e s ≡ Some j →
    j.job.ticket.session ≡ s
started_in-owned o log e s j r fit c h =
    ((entry-sound o (past_of log) e s fit c (sound o log s r)).counted.runs j (kept-started e.decision e.answer (new_number e.event.kind e.decision) (queued_in (history o (past_of log) s) e) (lane (history o (past_of log) s)) j (lane_after e.event.kind e.decision (queued_in (history o (past_of log) s) e) (lane (history o (past_of log) s))).running (sym (starting-history o (past_of log) e s (ended-empty o log s r)) ∙ h)
    ∙ started-runs (slot_move e.decision) (new_number e.event.kind e.decision) (queued_in (history o (past_of log) s) e) (lane (history o (past_of log) s)) j (sym (starting-history o (past_of log) e s (ended-empty o log s r)) ∙ h))).0

-- a job of session s that starts counts
count-own_start :
    (s : ℕ) (job : Option Running) →
    ((j : Running) → job ≡ Some j → j.job.ticket.session ≡ s) →
    count_by (starts_for s) (start_acts job) ≡ one (is_some job)
count-own_start s None own = refl
count-own_start s (Some j) own = rw (own j refl, eq-eqb s s refl) refl

-- one of another session does not
count-other_start :
    (s q : ℕ) (job : Option Running) → (q == s) ≡ false →
    ((j : Running) → job ≡ Some j → j.job.ticket.session ≡ q) →
    count_by (starts_for s) (start_acts job) ≡ 0
count-other_start s q None other own = refl
count-other_start s q (Some j) other own = rw (own j refl, other) refl

-- a start completes nothing
pub completes_for-start_acts : (s : ℕ) (job : Option Running) → count_by (completes_for s) (start_acts job) ≡ 0
completes_for-start_acts s None = refl
completes_for-start_acts s (Some j) = refl

-- of two jobs of which the second is there only without the first, as many are there as of both
one-either :
    (first second : Option Running) →
    ((j : Running) → first ≡ Some j → second ≡ None) →
    one (is_some (option_or first second)) ≡ one (is_some first) + one (is_some second)
one-either None second h = omega arith
one-either (Some j) second h = rw (h j refl) refl

-- no decision but an end cuts a transfer
pub uncut : (d : Decision) → finishes (slot_move d) ≡ false → is_cut d ≡ false
uncut decision.Cut h = cc
uncut d h = refl

-- a refusal cuts none
refusal-uncut : (d : Decision) → is_refusal d ≡ true → is_cut d ≡ false
refusal-uncut decision.Cut h = cc
refusal-uncut d h = refl

-- a cut is decided as one
pub cut-is : (d : Decision) → is_cut d ≡ true → d ≡ decision.Cut
cut-is decision.Cut h = refl
cut-is d h = cc

-- a job that ends is completed or cut
ends-one :
    (s : ℕ) (k : EventKind) (d : Decision) (b : Bool) (job : Option Running) (ticket : Ticket) (j : Running) →
    (d ≡ decision.Finished) ⊎ (d ≡ decision.Cut) → job_ticket k ≡ Some ticket → job ≡ Some j → ticket.session ≡ s →
    count_by (completes_for s) (completions s k d b job) + one (is_cut d) ≡ 1
ends-one s k d b job ticket j (inl x) e ran own =
    let told : count_by (completes_for s) (completions s k d b job) ≡ 1 = rw (x, e) (rw (own, eq-eqb s s refl) refl) in
    let none : one (is_cut d) ≡ 0 = rw x refl in
    omega (arith, told, none)
ends-one s k d b job ticket j (inr x) e ran own =
    let told : count_by (completes_for s) (completions s k d b job) ≡ 0 = rw (x, ran) (count-cuttings (completes_for s) s b j (completes_for-on-transfers s s)) in
    let cut : one (is_cut d) ≡ 1 = rw x refl in
    omega (arith, told, cut)

-- what ran or starts, runs, is completed or is cut
running-balance :
    (s : ℕ) (k : EventKind) (d : Decision) (b : Bool) (queued : Option Pending) (l : Lane) →
    IsFit k (slot_move d) queued l →
    ((ticket : Ticket) → job_ticket k ≡ Some ticket → ticket.session ≡ s) →
    one (is_some (lane_after k d queued l).running) + count_by (completes_for s) (completions s k d b l.running) + one (is_cut d)
    ≡ one (is_some l.running) + one (is_some (started_by k d queued l))
running-balance s k d b queued l fit named = go (slot_move d) refl
  where
    number : Option ℕ
    number = new_number k d

    go :
        (m : SlotMove) → slot_move d ≡ m →
        one (is_some (moved m number queued l).running) + count_by (completes_for s) (completions s k d b l.running) + one (is_cut d)
        ≡ one (is_some l.running) + one (is_some (starts_by m number queued l))
    go Finishes y =
        let x = fit.end y in
        let told = ends-one s k d b l.running x.0 x.2.0 (finishes-is d y) x.1 x.2.1 (named x.0 x.1) in
        let ran : one (is_some l.running) ≡ 1 = rw x.2.1 refl in
        omega (
          arith,
          told,
          ran,
          ap (λ (r : Option Running). one (is_some r)) (runs-started l.slot l.pending None),
          one-either (startable l.slot l.pending None) None (λ j h. refl),
        )
    go m y =
        omega (
          arith,
          ap (λ (r : Option Running). one (is_some r)) (running-after m number queued l refl),
          one-either (starts_by m number queued l) l.running (λ j h. started-idle m number queued l j refl h),
          ap (count_by (completes_for s)) (no-completion s d k b l.running (ap finishes y)),
          ap one (uncut d (ap finishes y)),
        )

-- what an entry starts, completes and cuts of session s, and which job of it runs then
abbrev pub IsBalanced : Options → List Entry → Entry → ℕ → Type 0
IsBalanced o past e s =
    count_by (starts_for s) e.actions + one (is_some (running_job o past s))
    ≡ count_by (completes_for s) e.actions + one (cuts_for s e) + one (is_some (running_job o (e ∷ past) s))

-- an entry that concerns a session cuts one of that session alone
pub cuts-own :
    (o : Options) (past : List Entry) (e : Entry) (s : ℕ) →
    e.decision ≡ due o past e.event.at e.event.kind e.answer → concerns o past e s ≡ true →
    cuts_for s e ≡ is_cut e.decision
cuts-own o past e s fit c =
    by_test (is_cut e.decision)
    (λ n.
    let end = ended-known o past e.event.at e.event.kind e.answer decision.Cut (sym fit ∙ cut-is e.decision n) refl in
    let named = job-named e.event.kind end.ticket end.kind_is in
    rw (n, named, named-concern o past e end.ticket.session s fit named c, eq-eqb s s refl) refl)
    (λ n. ap (λ b. b && is_number (named_session e.event.kind) s) n ∙ sym n)

-- an entry that counts is balanced
pub jobs-balance :
    (o : Options) (log : List Entry) (e : Entry) (s : ℕ) → IsRight o log →
    e.decision ≡ due o (past_of log) e.event.at e.event.kind e.answer →
    is_refusal e.decision ≡ false →
    e.actions ≡ acts_of o (past_of log) e →
    IsBalanced o (past_of log) e s
jobs-balance o log e s r fit counts acted =
    by_test (is_stop e.decision) (λ n. stopped (stop-all o (past_of log) e n) n) (λ n. by_part o (past_of log) e s opened (own n) other)
  where
    past : List Entry
    past = past_of log

    starts : (q : ℕ) → subject o past e ≡ One q → count_by (starts_for s) e.actions ≡ count_by (starts_for s) (start_acts (started_in o past e q))
    starts q about = count-starts (starts_for s) o past e q (starts_for-on-starts s) counts acted about

    completes :
        (q : ℕ) → subject o past e ≡ One q →
        count_by (completes_for s) e.actions ≡ count_by (completes_for s) (completions q e.event.kind e.decision (stays e.decision (session o past q)) (running_job o past q))
    completes q about =
        omega (
          arith,
          count-about (completes_for s) o past e q (completes_for-on-transfers s q) counts acted about,
          completes_for-start_acts s (started_in o past e q),
          count-drop_acts (completes_for s) q (stays e.decision (session o past q)) e.decision (slot_of (session o past q)) (pending_in (session o past q))
              (completes_for-on-transfers s q) (λ t. refl),
        )

    silent :
        subject o past e ≡ Nobody →
        (count_by (starts_for s) e.actions ≡ 0) × (count_by (completes_for s) e.actions ≡ 0)
    silent about = (
      count-nobody (starts_for s) o past e (λ m. refl) acted about,
      count-nobody (completes_for s) o past e (λ m. refl) acted about,
    )

    cut-named : is_cut e.decision ≡ true → (t : Ticket) × (job_ticket e.event.kind ≡ Some t)
    cut-named n =
        let end = ended-known o past e.event.at e.event.kind e.answer decision.Cut (sym fit ∙ cut-is e.decision n) refl in
        (end.ticket, end.kind_is)

    uncuts : is_cut e.decision ≡ false → cuts_for s e ≡ false
    uncuts n = rw n refl

    stopped : subject o past e ≡ All → is_stop e.decision ≡ true → IsBalanced o past e s
    stopped about n =
        omega (
          arith,
          count-stop-idle o past e counts acted (starts_for s) (starts_for-on-starts s).plain (λ t. refl) about,
          count-stop-idle o past e counts acted (completes_for s) (completes_for-on-transfers s) (λ t. refl) about,
          ap (λ (j : Option Running). one (is_some j)) (running-stopped o past e s n),
          ap one (uncuts (rw (stop-is e.decision n) refl)),
        )

    ends-other : concerns o past e s ≡ false → (ticket : Ticket) → job_ticket e.event.kind ≡ Some ticket → (ticket.session == s) ≡ false
    ends-other c ticket k = sym (one-concerns o past e ticket.session s (named-one o past e ticket.session (other-plain o past e s c) (job-named e.event.kind ticket k))) ∙ c

    cuts-other : concerns o past e s ≡ false → cuts_for s e ≡ false
    cuts-other c =
        by_test (is_cut e.decision)
        (λ n.
        let t = cut-named n in
        rw (n, job-named e.event.kind t.0 t.1, ends-other c t.0 t.1) refl)
        uncuts

    other : opens e s ≡ false → concerns o past e s ≡ false → IsBalanced o past e s
    other n c =
        let kept = ap (λ (j : Option Running). one (is_some j)) (running-other o past e s n c) in
        by_subject o past e (λ about. omega (arith, (silent about).0, (silent about).1, kept, ap one (cuts-other c)))
        (λ q about.
        let others : (q == s) ≡ false = sym (one-concerns o past e q s about) ∙ c in
        let about_q : concerns o past e q ≡ true = one-own o past e q about in
        omega (
          arith,
          starts q about,
          count-other_start s q (started_in o past e q) others (λ j h. started_in-owned o log e q j r fit about_q h),
          completes q about,
          count-completions (completes_for s) q e.event.kind e.decision (stays e.decision (session o past q)) (running_job o past q) (completes_for-on-transfers s q) (ends-other c) (λ r x y. refl),
          kept,
          ap one (cuts-other c),
        ))
        (λ about. absurd (not-all o past e (other-plain o past e s c) about))

    own : is_stop e.decision ≡ false → opens e s ≡ false → concerns o past e s ≡ true → IsBalanced o past e s
    own plain n c =
        let about : subject o past e ≡ One s = concerned o past e s plain c in
        omega (
          arith,
          starts s about,
          count-own_start s (started_in o past e s) (λ j h. started_in-owned o log e s j r fit c h),
          ap (λ (j : Option Running). one (is_some j)) (starting-history o past e s (ended-empty o log s r)),
          completes s about,
          running-balance s e.event.kind e.decision (stays e.decision (session o past s)) (queued_in (history o past s) e) (lane (history o past s))
              (entry-fit o past e s fit c)
              (λ ticket k. named-concern o past e ticket.session s fit (job-named e.event.kind ticket k) c),
          ap (λ (h : List Entry). one (is_some (lane h).running)) (history-own o past e s n c),
          ap one (kept-is_some e.decision e.answer (lane_after e.event.kind e.decision (queued_in (history o past s) e) (lane (history o past s))).running),
          ap one (cuts-own o past e s fit c),
        )

    opened : opens e s ≡ true → IsBalanced o past e s
    opened n =
        let about : subject o past e ≡ Nobody = opened-nobody o past e s fit n in
        let before : running_job o past s ≡ None = unused-idle o log s r (opened-fresh o past e s fit n) in
        omega (
          arith,
          (silent about).0,
          (silent about).1,
          ap (λ (j : Option Running). one (is_some j)) before,
          ap (λ (l : Lane). one (is_some l.running)) (lane-opened o past e s n),
          ap one (uncuts (rw (opened-is e.event.kind e.decision s n) refl)),
        )

-- in every right and acted log, the transfers that were started are those that were completed or cut, and the one that runs
pub runs-one :
    (o : Options) (log : List Entry) (s : ℕ) →
    IsRight o log → IsActed o log →
    started_count s log ≡ completed_count s log + cut_count s log + one (is_some (running_job o (past_of log) s))
runs-one o log s r a =
    acted-past o (λ log past. started_count s log ≡ completed_count s log + cut_count s log + one (is_some (running_job o past s))) refl
    (λ log e none refused h. omega (arith, h, ap (count_by (starts_for s)) none, ap (count_by (completes_for s)) none, ap (λ b. one (b && is_number (named_session e.event.kind) s)) (refusal-uncut e.decision refused)))
    (λ log e comes a acted h. omega (arith, h, jobs-balance o log e s comes.right comes.fit comes.counts acted)) log r a
