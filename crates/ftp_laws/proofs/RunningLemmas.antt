-- Which job of a session runs.
use Rattle.std.proofs.Common.{◌≡◌, refl, sym, ◌∙◌, ℕ, true, false, List, [], ◌∷◌, Option, Some, None}
use Rattle.std.specs.Option.{option_or}
use Rattle.std.proofs.lemmas.Bool.{or_right}
use Rattle.ftp_events.specs.declared.decision.SlotMove.TheVariants.{Links, Queues, Finishes}
use Rattle.ftp_events.specs.declared.session.Slot.TheVariants.{Empty, Waits, Linked}
use Rattle.ftp_events.specs.Slot.{startable}
use Rattle.ftp_laws.proofs.Common.{SlotMove, slot_move, moved, starts_by, Options, Running, Entry, Pending, Session, Slot, is_number, is_used, new_number, past_of, history, Lane, with_link, lane_of, lane_after, queued_in, lane, session, running_job, IsRight}
use Rattle.ftp_laws.proofs.KeptLemmas.{kept-same}
use Rattle.ftp_laws.proofs.EntryLemmas.{past-more, history-more}
use Rattle.ftp_laws.proofs.HoldLemmas.{live-used, opened-new}
use Rattle.ftp_laws.proofs.LaneLemmas.{ended-empty}
use Rattle.ftp_laws.proofs.BalanceLemmas.{finishes}

-- the job of a slot from which one can start is the one that starts, or that ran
pub runs-started :
    (slot : Slot) (pending : Option Pending) (job : Option Running) →
    (lane_of slot pending job).running ≡ option_or (startable slot pending job) job
runs-started Empty pending job = refl
runs-started (Waits port) pending job = refl
runs-started (Linked number) None job = refl
runs-started (Linked number) (Some p) None = refl
runs-started (Linked number) (Some p) (Some job) = refl

-- the job after a move with which no job ends is the one that starts, or that ran
pub running-after :
    (m : SlotMove) (number : Option ℕ) (queued : Option Pending) (l : Lane) →
    finishes m ≡ false →
    (moved m number queued l).running ≡ option_or (starts_by m number queued l) l.running
running-after Links number queued l u = runs-started (with_link l.slot number) l.pending l.running
running-after (Queues t) number queued l u = runs-started l.slot queued l.running
running-after Finishes number queued l u = cc
running-after m number queued l u = refl

-- a job that runs over an empty slot ran before
runs-before :
    (m : SlotMove) (number : Option ℕ) (queued : Option Pending) (l : Lane) (job : Running) →
    l.slot ≡ Empty →
    (moved m number queued l).running ≡ Some job →
    l.running ≡ Some job
runs-before Links number queued l job bare h = rw bare at h
runs-before (Queues t) number queued l job bare h = rw bare at h
runs-before Finishes number queued l job bare h =
    let clash : None ≡ Some job = rw bare at h in
    cc
runs-before m number queued l job bare h = h

-- a session for which a job runs was opened once
job-used :
    (o : Options) (log : List Entry) (s : ℕ) (job : Running) → IsRight o log →
    running_job o (past_of log) s ≡ Some job →
    is_used (past_of log) s ≡ true
job-used o [] s job r h = cc
job-used o (e ∷ log) s job r h =
    past-more (λ p. running_job o p s ≡ Some job → is_used p s ≡ true) e log (λ x. job-used o log s job r.0 x)
    (λ counts.
    history-more (λ l. (lane l).running ≡ Some job → is_used (e ∷ past) s ≡ true) o past e s (λ n x. rw (opened-new e.event.kind e.decision s n) refl)
    (λ about. own (session o past s) refl (λ j x. job-used o log s j r.0 x))
    (λ x. stays_used (job-used o log s job r.0 x)))
    h
  where
    past : List Entry
    past = past_of log

    stays_used : is_used past s ≡ true → is_used (e ∷ past) s ≡ true
    stays_used u = or_right (is_number (new_number e.event.kind e.decision) s) (is_used past s) u

    own :
        (v : Option Session) → session o past s ≡ v →
        ((j : Running) → running_job o past s ≡ Some j → is_used past s ≡ true) →
        (lane (e ∷ history o past s)).running ≡ Some job →
        is_used (e ∷ past) s ≡ true
    own (Some v) known ih x = stays_used (live-used o past s v known)
    own None known ih x =
        let was = kept-same e.decision e.answer (lane_after e.event.kind e.decision (queued_in (history o past s) e) (lane (history o past s))).running job x in
        stays_used (ih was.0 (runs-before (slot_move e.decision) (new_number e.event.kind e.decision) (queued_in (history o past s) e) (lane (history o past s)) was.0 (ended-empty o log s r.0 known).0 was.1))

-- so no job runs for a number that was not used
pub unused-idle :
    (o : Options) (log : List Entry) (s : ℕ) → IsRight o log →
    is_used (past_of log) s ≡ false →
    running_job o (past_of log) s ≡ None
unused-idle o log s r unused = go (running_job o (past_of log) s) refl
  where
    go : (job : Option Running) → running_job o (past_of log) s ≡ job → job ≡ None
    go None x = refl
    go (Some job) x =
        let clash : true ≡ false = sym (job-used o log s job r x) ∙ unused in
        cc
