-- What an entry makes of a transfer that waits or runs.
use Rattle.std.proofs.Common.{◌≡◌, refl, sym, ◌∙◌, ap, ℕ, ◌+◌, Bool, true, false, true≢false, cond, List, [], ◌∷◌, ◌++◌, Option, Some, None, arith, inl, inr}
use Rattle.std.specs.Prelude.{◌⊎◌, count_by}
use Rattle.ftp_events.specs.declared.action.Action.TheVariants as action
use Rattle.ftp_events.specs.declared.decision.Decision.TheVariants as decision
use Rattle.ftp_events.specs.declared.decision.SlotMove.TheVariants.{Awaits, Links, Queues, Finishes}
use Rattle.ftp_events.specs.declared.event.EventKind.TheVariants as kind
use Rattle.ftp_events.specs.declared.session.Slot.TheVariants.{Empty, Waits, Linked}
use Rattle.ftp_events.specs.Transfer.{same_ticket}
use Rattle.ftp_events.specs.EndRows.{outcome_row, moved_row, unless_marked, end_row, piece_row}
use Rattle.ftp_events.specs.Fate.{is_running}
use Rattle.ftp_laws.proofs.Common.{SlotMove, slot_move, empties, moved, Options, Running, Ticket, Action, Decision, Entry, EventKind, Answer, Pending, Slot, new_number, Lane, with_link, drops, lane_of, lane_after, running_job, due, completions, cancellations, closings, link_in, drop_acts, start_acts, is_pending, job_ticket}
use Rattle.ftp_laws.proofs.TicketLemmas.{same_ticket-equal}
use Rattle.ftp_laws.specs.Fates.{queues, queues_it, settles}
use Rattle.ftp_laws.proofs.ClassLemmas.{finishes-is}
use Rattle.ftp_laws.proofs.CountLemmas.{IsOnTransfers, count-append, count-closings, count-cuttings}
use Rattle.ftp_laws.proofs.Cases.{by_completion}

-- one for what holds
abbrev pub one : Bool → ℕ
one b = cond b 1 0

-- how often a transfer is in a slot or runs
abbrev pub carried : Ticket → Lane → ℕ
carried t l = one (is_running t l.running) + one (is_pending t l.pending)

-- a job that starts is carried as before
pub lane_of-carried :
    (t : Ticket) (slot : Slot) (pending : Option Pending) (running : Option Running) →
    carried t (lane_of slot pending running) ≡ one (is_running t running) + one (is_pending t pending)
lane_of-carried t (Linked n) (Some p) None = omega arith
lane_of-carried t (Linked n) (Some p) (Some j) = refl
lane_of-carried t (Linked n) None running = refl
lane_of-carried t Empty pending running = refl
lane_of-carried t (Waits port) pending running = refl

-- the test on what settles a transfer is one on transfers
pub settles-on-transfers : (t : Ticket) (s : ℕ) → IsOnTransfers s (settles t)
settles-on-transfers t s = record { closes = λ m. refl; notifies = λ meta what. refl; replies = λ delay r. refl }

-- the test passes that the transfer is cancelled, and no start
pub record IsOnCancelled (t : Ticket) (p : Action → Bool) : Type 0 where
  pub plain : (s : ℕ) → IsOnTransfers s p
  pub cancelled : (u : Ticket) → p (action.Cancelled u) ≡ same_ticket u t
  pub started : (u : Ticket) (n : ℕ) → p (action.Start u n) ≡ false

-- that on what settles it does
pub settles-on-cancelled : (t : Ticket) → IsOnCancelled t (settles t)
settles-on-cancelled t = record { plain = settles-on-transfers t; cancelled = λ u. refl; started = λ u n. refl }

-- a job that starts does not count
pub count-start_acts :
    (t : Ticket) (p : Action → Bool) (job : Option Running) → IsOnCancelled t p →
    count_by p (start_acts job) ≡ 0
count-start_acts t p None c = refl
count-start_acts t p (Some j) c = rw (c.started j.job.ticket j.job.number) refl

-- a transfer that is dropped counts
pub count-cancellations :
    (t : Ticket) (p : Action → Bool) (s : ℕ) (staying : Bool) (pending : Option Pending) → IsOnCancelled t p →
    count_by p (cancellations s staying pending) ≡ one (is_pending t pending)
count-cancellations t p s staying None c = refl
count-cancellations t p s true (Some q) c = rw (c.cancelled q.ticket, (c.plain s).replies 0 _) (omega arith)
count-cancellations t p s false (Some q) c = rw (c.cancelled q.ticket) (omega arith)

-- so the transfer in a slot that is dropped counts, and no other
pub count-drop_acts-own :
    (t : Ticket) (p : Action → Bool) (s : ℕ) (staying : Bool) (d : Decision) (slot : Slot) (pending : Option Pending) →
    IsOnCancelled t p →
    count_by p (drop_acts s staying d slot pending) ≡ cond (drops d slot) (one (is_pending t pending)) 0
count-drop_acts-own t p s staying d slot pending c = go (drops d slot)
  where
    go :
        (b : Bool) →
        count_by p (cond b (cancellations s staying pending ++ closings (link_in slot)) []) ≡ cond b (one (is_pending t pending)) 0
    go false = refl
    go true =
        omega (
          arith,
          count-append p (cancellations s staying pending) (closings (link_in slot)),
          count-cancellations t p s staying pending c,
          count-closings p (link_in slot) (c.plain s).closes,
        )

-- what is lost with a slot is settled
pub settles-drop_acts :
    (t : Ticket) (s : ℕ) (staying : Bool) (d : Decision) (slot : Slot) (pending : Option Pending) →
    count_by (settles t) (drop_acts s staying d slot pending) ≡ cond (drops d slot) (one (is_pending t pending)) 0
settles-drop_acts t s staying d slot pending = count-drop_acts-own t (settles t) s staying d slot pending (settles-on-cancelled t)

-- the move that ends a job
abbrev pub finishes : SlotMove → Bool
finishes Finishes = true
finishes _ = false

-- a job has ended
abbrev pub is_finished : Decision → Bool
is_finished d = finishes (slot_move d)

-- no other decision completes or cuts a transfer
pub no-completion : (s : ℕ) (d : Decision) (k : EventKind) (b : Bool) (job : Option Running) → is_finished d ≡ false → completions s k d b job ≡ []
no-completion s d k b job u =
    by_completion (λ xs. xs ≡ []) s k d b job refl (λ t x y. absurd (true≢false (sym (ap is_finished y) ∙ u))) (λ r x y. absurd (true≢false (sym (ap is_finished y) ∙ u)))

-- what is known of the end of a job: it ran
pub record IsEnd (o : Options) (past : List Entry) (k : EventKind) : Type 0 where
  pub ticket : Ticket
  pub kind_is : job_ticket k ≡ Some ticket
  pub job : Running
  pub ran : running_job o past ticket.session ≡ Some job
  pub same : job.job.ticket ≡ ticket

-- what is decided on a job that runs is decided on the one of its ticket
ran-known :
    (o : Options) (past : List Entry) (k : EventKind) (ticket : Ticket) (d row : Decision) (j : Running) (b : Bool) →
    job_ticket k ≡ Some ticket → (decision.UnknownNumber ≡ d → ⊥) →
    running_job o past ticket.session ≡ Some j → same_ticket j.job.ticket ticket ≡ b → cond b row decision.UnknownNumber ≡ d →
    IsEnd o past k
ran-known o past k ticket d row j true t n x y h = record { ticket = ticket; kind_is = t; job = j; ran = x; same = same_ticket-equal j.job.ticket ticket y }
ran-known o past k ticket d row j false t n x y h = absurd (n h)

-- a decision that ends a job is not that none of this number is known
unknown : (d : Decision) → decision.UnknownNumber ≡ d → slot_move d ≡ Finishes → ⊥
unknown d z m = let w : slot_move decision.UnknownNumber ≡ Finishes = ap slot_move z ∙ m in cc

-- where the end of a job, or its piece, is decided as one that runs, it ran
end-known :
    (o : Options) (past : List Entry) (ticket : Ticket) (answer : Answer) (d : Decision) (j : Option Running) → (decision.UnknownNumber ≡ d → ⊥) →
    running_job o past ticket.session ≡ j → end_row ticket answer j ≡ d → IsEnd o past (kind.End ticket)
end-known o past ticket answer d None n x h = absurd (n h)
end-known o past ticket answer d (Some j) n x h = ran-known o past (kind.End ticket) ticket d (unless_marked j (outcome_row j.job answer)) j (same_ticket j.job.ticket ticket) refl n x refl h

pub piece-known :
    (o : Options) (past : List Entry) (ticket : Ticket) (answer : Answer) (d : Decision) (j : Option Running) → (decision.UnknownNumber ≡ d → ⊥) →
    running_job o past ticket.session ≡ j → piece_row ticket answer j ≡ d → IsEnd o past (kind.Piece ticket)
piece-known o past ticket answer d None n x h = absurd (n h)
piece-known o past ticket answer d (Some j) n x h = ran-known o past (kind.Piece ticket) ticket d (unless_marked j (moved_row j.job answer)) j (same_ticket j.job.ticket ticket) refl n x refl h

-- only a job that ran is decided as one that has ended or is cut
pub ended-known :
    (o : Options) (past : List Entry) (at : ℕ) (k : EventKind) (answer : Answer) (d : Decision) →
    due o past at k answer ≡ d → slot_move d ≡ Finishes →
    IsEnd o past k
ended-known o past at (kind.End ticket) answer d e m = end-known o past ticket answer d (running_job o past ticket.session) (λ z. unknown d z m) refl e
ended-known o past at (kind.Piece ticket) answer d e m = piece-known o past ticket answer d (running_job o past ticket.session) (λ z. unknown d z m) refl e
ended-known o past at k answer d e m = by (finishes-is d m) e
  where
    by : (d ≡ decision.Finished) ⊎ (d ≡ decision.Cut) → due o past at k answer ≡ d → IsEnd o past k
    by (inl is) e = grind arith
    by (inr is) e = grind arith

-- what an entry needs, so that no transfer is lost or doubled: one that queues finds a free slot, one that ends a job names it
pub record IsFit (k : EventKind) (m : SlotMove) (queued : Option Pending) (l : Lane) : Type 0 where
  pub queue : (ticket : Ticket) → m ≡ Queues ticket → (l.pending ≡ None) × ((p : Pending) × (queued ≡ Some p) × (p.ticket ≡ ticket))
  pub end : m ≡ Finishes → (ticket : Ticket) × (job_ticket k ≡ Some ticket) × ((j : Running) × (l.running ≡ Some j) × (j.job.ticket ≡ ticket))

-- how often a transfer is settled with a slot and a job
abbrev pub lost : Ticket → ℕ → Bool → EventKind → Decision → Lane → ℕ
lost t s staying k d l =
    count_by (settles t) (completions s k d staying l.running) + count_by (settles t) (drop_acts s staying d l.slot l.pending)

-- where a slot may be dropped, its transfer is settled or kept
pub drop-balance :
    (t : Ticket) (b : Bool) (l : Lane) →
    carried t (record { slot = cond b Empty l.slot; pending = cond b None l.pending; running = l.running }) + cond b (one (is_pending t l.pending)) 0 ≡ carried t l
drop-balance t true l = omega arith
drop-balance t false l = omega arith

-- what was carried or is queued is carried, dropped or ended
pub move-balance :
    (t : Ticket) (k : EventKind) (m : SlotMove) (number : Option ℕ) (queued : Option Pending) (l : Lane) →
    IsFit k m queued l →
    carried t (moved m number queued l) + cond (empties m l.slot) (one (is_pending t l.pending)) 0 + cond (finishes m) (one (is_running t l.running)) 0
    ≡ carried t l + one (queues_it t m)
move-balance t k (Queues ticket) number queued l fit =
    let q = fit.queue ticket refl in
    let before : is_pending t l.pending ≡ false = rw q.0 refl in
    let after : is_pending t queued ≡ same_ticket ticket t = rw (q.1.1, q.1.2) refl in
    omega (arith, lane_of-carried t l.slot queued l.running, ap one before, ap one after)
move-balance t k Finishes number queued l fit = omega (arith, lane_of-carried t l.slot l.pending None)
move-balance t k Links number queued l fit = omega (arith, lane_of-carried t (with_link l.slot number) l.pending l.running)
move-balance t k (Awaits port) number queued l fit = omega arith
move-balance t k m number queued l fit = omega (arith, drop-balance t (empties m l.slot) l)

-- an end settles the transfer that ran
pub settles-completions :
    (t : Ticket) (s : ℕ) (k : EventKind) (d : Decision) (staying : Bool) (queued : Option Pending) (l : Lane) →
    IsFit k (slot_move d) queued l →
    count_by (settles t) (completions s k d staying l.running) ≡ cond (finishes (slot_move d)) (one (is_running t l.running)) 0
settles-completions t s k d staying queued l fit = go (slot_move d) refl
  where
    told-one :
        (ticket : Ticket) →
        count_by (settles t) (action.Completed ticket staying ∷ []) ≡ one (same_ticket ticket t)
    told-one ticket = go (same_ticket ticket t) refl
      where
        go :
            (b : Bool) → same_ticket ticket t ≡ b →
            count_by (settles t) (action.Completed ticket staying ∷ []) ≡ one b
        go true x = rw x refl
        go false x = rw x refl

    ends :
        (d ≡ decision.Finished) ⊎ (d ≡ decision.Cut) → (ticket : Ticket) → job_ticket k ≡ Some ticket → (j : Running) → l.running ≡ Some j → j.job.ticket ≡ ticket →
        count_by (settles t) (completions s k d staying l.running) ≡ one (same_ticket ticket t)
    ends (inl x) ticket e j ran same = rw (x, e) (told-one ticket)
    ends (inr x) ticket e j ran same =
        rw (x, ran)
        (count-cuttings (settles t) s staying j (settles-on-transfers t s) ∙ ap (λ (u : Ticket). one (same_ticket u t)) same)

    go :
        (m : SlotMove) → slot_move d ≡ m →
        count_by (settles t) (completions s k d staying l.running) ≡ cond (finishes m) (one (is_running t l.running)) 0
    go Finishes x =
        let e = fit.end x in
        let ran : is_running t l.running ≡ same_ticket e.0 t = rw (e.2.1, e.2.2) refl in
        ends (finishes-is d x) e.0 e.1 e.2.0 e.2.1 e.2.2 ∙ sym (ap one ran)
    go m x = ap (count_by (settles t)) (no-completion s d k staying l.running (ap finishes x))

-- so it is carried or settled
pub lane-balance :
    (t : Ticket) (s : ℕ) (staying : Bool) (k : EventKind) (d : Decision) (queued : Option Pending) (l : Lane) →
    IsFit k (slot_move d) queued l →
    carried t (lane_after k d queued l) + lost t s staying k d l ≡ carried t l + one (queues t d)
lane-balance t s staying k d queued l fit =
    omega (
      arith,
      move-balance t k (slot_move d) (new_number k d) queued l fit,
      settles-completions t s k d staying queued l fit,
      settles-drop_acts t s staying d l.slot l.pending,
    )
