-- How the jobs that run change with an entry.
use Rattle.std.proofs.Common.{◌≡◌, refl, ap, ◌∙◌, ℕ, ◌+◌, ◌-◌, Bool, false, cond, List, [], ◌∷◌, ◌++◌, Option, Some, None, arith}
use Rattle.std.specs.Prelude.{count_by, flat_map, is_some}
use Rattle.ftp_hub.proofs.Common.{Action, Answer, Decision, EventKind, Options, Pending, Running, Session, Ticket, running_after, session_acts, starting, stopped}
use Rattle.ftp_events.specs.declared.action.Action.TheVariants as action
use Rattle.ftp_events.specs.declared.decision.Decision.TheVariants as decision
use Rattle.ftp_events.specs.declared.event.EventKind.TheVariants as kind
use Rattle.ftp_events.specs.Words.{total}
use Rattle.ftp_events.specs.Slot.{Lane, started_by}
use Rattle.ftp_laws.proofs.CountLemmas.{IsOnTransfers, count-completions, count-drop_acts, count-session_acts}
use Rattle.ftp_laws.proofs.BalanceLemmas.{is_finished, no-completion}
use Rattle.ftp_laws.proofs.CensusLemmas.{completed-on-transfers, ends-counted, is_completed, is_start, start-on-starts, starts-counted}
use Rattle.ftp_events.specs.Acts.{completions, start_acts, stays}
use Rattle.ftp_events.specs.Running.{ended, started}

-- a count is of the actions that pass a test, and only what becomes of transfers does, but no cancellation
record TellsJobs (f : Action → ℕ) (p : Action → Bool) : Type 0 where
  counted : (xs : List Action) → total f xs ≡ count_by p xs
  transfers : (s : ℕ) → IsOnTransfers s p
  drops : (t : Ticket) → p (action.Cancelled t) ≡ false

-- the ends of jobs are counted so
ended-tells : TellsJobs ended is_completed
ended-tells = record { counted = ends-counted; transfers = completed-on-transfers; drops = λ t. refl }

-- and so are their starts
started-tells : TellsJobs started is_start
started-tells = record { counted = starts-counted; transfers = start-on-starts.plain; drops = start-on-starts.cancelled }

-- of a session's actions only the end and the start of a job count
total-acts :
    (f : Action → ℕ) {p : Action → Bool} (o : Options) (s : ℕ) (k : EventKind) (answer : Answer) (d : Decision) (job : Option Running) (v : Session) → TellsJobs f p →
    total f (session_acts o s k answer d job (Some v)) ≡ total f (completions s k d (stays d (Some v)) job) + total f (start_acts (starting k d job v))
total-acts f {p} o s k answer d job v t =
    omega (
      arith,
      t.counted (session_acts o s k answer d job (Some v)),
      t.counted (completions s k d (stays d (Some v)) job),
      t.counted (start_acts (starting k d job v)),
      count-session_acts p o s k answer d job (Some v) (t.transfers s),
      count-drop_acts p s (stays d (Some v)) d v.slot v.pending (t.transfers s) t.drops,
    )

-- with a session's actions the job ends that completes or is cut, and the one starts that starts
pub running-acts :
    (o : Options) (s : ℕ) (k : EventKind) (answer : Answer) (d : Decision) (job : Option Running) (v : Session) (n : ℕ) →
    running_after d (session_acts o s k answer d job (Some v)) n ≡ n - (stopped d + total ended (completions s k d (stays d (Some v)) job)) + total started (start_acts (starting k d job v))
running-acts o s k answer d job v n =
    omega (
      arith,
      total-acts ended o s k answer d job v ended-tells,
      total-acts started o s k answer d job v started-tells,
      none_ends (starting k d job v),
      none_starts (stays d (Some v)),
    )
  where
    none_ends : (job : Option Running) → total ended (start_acts job) ≡ 0
    none_ends None = refl
    none_ends (Some job) = refl

    none_starts : (b : Bool) → total started (completions s k d b job) ≡ 0
    none_starts b =
        started-tells.counted (completions s k d b job)
        ∙ count-completions is_start s k d b job (started-tells.transfers s) (λ t x. refl) (λ r x y. refl)

-- a decision with which no job ends or starts
pub record IsIdle (d : Decision) : Type 0 where
  pub unfinished : is_finished d ≡ false
  pub starts : (k : EventKind) (queued : Option Pending) (l : Lane) → started_by k d queued l ≡ None

-- with such a decision no job is cut
pub unstopped : (d : Decision) → is_finished d ≡ false → stopped d ≡ 0
unstopped decision.Cut h = cc
unstopped d h = refl

-- so as many run as before
pub running-idle :
    (o : Options) (s : ℕ) (k : EventKind) (answer : Answer) (d : Decision) (job : Option Running) (v : Session) (n : ℕ) → IsIdle d →
    running_after d (session_acts o s k answer d job (Some v)) n ≡ n
running-idle o s k answer d job v n idle =
    let none : start_acts (starting k d job v) ≡ [] = ap start_acts (idle.starts k _ _) in
    omega (arith, running-acts o s k answer d job v n, ap (total ended) (no-completion s d k (stays d (Some v)) job idle.unfinished), ap (total started) none, unstopped d idle.unfinished)

-- without an action as many run as before, where no job is cut
pub running-none : (d : Decision) (xs : List Action) (n : ℕ) → stopped d ≡ 0 → xs ≡ [] → running_after d xs n ≡ n
running-none d xs n uncut none = ap (λ ys. running_after d ys n) none ∙ omega (arith, uncut)

-- one start is counted where one starts
pub count-start : (job : Option Running) → total started (start_acts job) ≡ cond (is_some job) 1 0
count-start None = refl
count-start (Some job) = refl

-- the sum over one list and another is that of both
total-append : (f : Action → ℕ) (xs ys : List Action) → total f (xs ++ ys) ≡ total f xs + total f ys
total-append f [] ys = omega arith
total-append f (x ∷ xs) ys = omega (arith, total-append f xs ys)

-- with a stop no job of any session ends or starts
stop-quiet :
    (f : Action → ℕ) {p : Action → Bool} (o : Options) (s : ℕ) (answer : Answer) (job : Option Running) (v : Option Session) → TellsJobs f p → f (action.Close s) ≡ 0 →
    total f (session_acts o s kind.Shutdown answer decision.Stopped job v) ≡ 0
stop-quiet f o s answer job None t closes = omega (arith, closes)
stop-quiet f o s answer job (Some v) t closes = total-acts f o s kind.Shutdown answer decision.Stopped job v t

-- so as many run as before
pub running-stopped :
    (o : Options) (answer : Answer) (jobs : ℕ → Option Running) (live : ℕ → Option Session) (numbers : List ℕ) (n : ℕ) →
    running_after decision.Stopped (flat_map (λ s. session_acts o s kind.Shutdown answer decision.Stopped (jobs s) (live s)) numbers) n ≡ n
running-stopped o answer jobs live numbers n = omega (arith, none ended ended-tells (λ s. refl) numbers, none started started-tells (λ s. refl) numbers)
  where
    none :
        (f : Action → ℕ) {p : Action → Bool} → TellsJobs f p → ((s : ℕ) → f (action.Close s) ≡ 0) → (numbers : List ℕ) →
        total f (flat_map (λ s. session_acts o s kind.Shutdown answer decision.Stopped (jobs s) (live s)) numbers) ≡ 0
    none f t closes [] = refl
    none f t closes (s ∷ numbers) =
        omega (
          arith,
          total-append f (session_acts o s kind.Shutdown answer decision.Stopped (jobs s) (live s)) (flat_map (λ s. session_acts o s kind.Shutdown answer decision.Stopped (jobs s) (live s)) numbers),
          stop-quiet f o s answer (jobs s) (live s) t (closes s),
          none f t closes numbers,
        )
