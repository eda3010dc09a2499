-- What every lane of a right log keeps, by one induction.
use Rattle.std.proofs.Common.{◌≡◌, refl, sym, ◌∙◌, ap, subst, ℕ, ◌+◌, ◌≤◌, ◌<◌, Bool, true, false, cond, List, [], ◌∷◌, Option, Some, None, arith}
use Rattle.std.specs.Prelude.{◌≢◌, if◌then◌else◌}
use Rattle.std.proofs.lemmas.Option.{same_Some}
use Rattle.ftp_base.specs.declared.command.DataChanCmd.{DataChanCmd}
use Rattle.ftp_events.specs.declared.decision.Decision.TheVariants as decision
use Rattle.ftp_events.specs.declared.decision.SlotMove.TheVariants.{Awaits, Connects, Links, Queues, Finishes}
use Rattle.ftp_events.specs.declared.session.Slot.TheVariants.{Empty, Waits, Linked}
use Rattle.ftp_events.specs.Login.{login_state, user_name, logged_user}
use Rattle.ftp_events.specs.Words.{total}
use Rattle.ftp_events.specs.Place.{cwd, offset, is_queued, ticket_count}
use Rattle.ftp_events.specs.Slot.{asked_command}
use Rattle.ftp_events.specs.Transfer.{pending_of}
use Rattle.ftp_laws.proofs.Common.{SlotMove, slot_move, empties, moved, Options, Running, Ticket, Decision, Entry, Pending, Session, Slot, new_number, past_of, concerns, history, Lane, with_link, lane_of, lane_after, queued_in, lane, session, due, IsRight, Answer, kept_running}
use Rattle.ftp_transfer.specs.declared.job.Job.{Job}
use Rattle.ftp_laws.specs.Transfers.{transfer_of}
use Rattle.ftp_laws.proofs.ClassLemmas.{queues-is, opened-is}
use Rattle.ftp_laws.proofs.KeptLemmas.{kept-same, kept-none}
use Rattle.ftp_laws.proofs.QuestionLemmas.{session-told}
use Rattle.ftp_laws.proofs.LaneLemmas.{IsQueue, queued-live, named-concern, queue-placed}
use Rattle.ftp_laws.proofs.EntryLemmas.{right-history}

-- the transfer that waits in a slot, and the one that runs, are of one kind
pub record AllOf (Q : Pending → Type 0) (l : Lane) : Type 0 where
  pub waits : (p : Pending) → l.pending ≡ Some p → Q p
  pub runs : (j : Running) → l.running ≡ Some j → Q (transfer_of j.job)

-- they are of a wider kind too
pub all-wider :
    (Q R : Pending → Type 0) (l : Lane) →
    ((p : Pending) → Q p → R p) →
    AllOf Q l → AllOf R l
all-wider Q R l f h = record { waits = λ p x. f p (h.waits p x); runs = λ j x. f (transfer_of j.job) (h.runs j x) }

-- also after a job may have started
all-lane_of :
    (Q : Pending → Type 0) (slot : Slot) (pending : Option Pending) (running : Option Running) →
    AllOf Q (record { slot = slot; pending = pending; running = running }) → AllOf Q (lane_of slot pending running)
all-lane_of Q (Linked n) (Some p) None h =
    record { waits = λ q x. let z : None ≡ Some q = x in cc; runs = λ j x. subst (λ (i : Running). Q (transfer_of i.job)) (same_Some _ _ x) (h.waits p refl) }
all-lane_of Q (Linked n) (Some p) (Some j) h = h
all-lane_of Q (Linked n) None running h = h
all-lane_of Q Empty pending running h = h
all-lane_of Q (Waits port) pending running h = h

-- a slot that may be dropped
all-dropped :
    (Q : Pending → Type 0) (b : Bool) (l : Lane) → AllOf Q l →
    AllOf Q (record { slot = cond b Empty l.slot; pending = cond b None l.pending; running = l.running })
all-dropped Q true l h = record { waits = λ p x. let z : None ≡ Some p = x in cc; runs = h.runs }
all-dropped Q false l h = h

-- after any move they are, where a transfer that is queued is
pub all-moved :
    (Q : Pending → Type 0) (m : SlotMove) (number : Option ℕ) (queued : Option Pending) (l : Lane) →
    ((t : Ticket) → m ≡ Queues t → (p : Pending) → queued ≡ Some p → Q p) →
    AllOf Q l → AllOf Q (moved m number queued l)
all-moved Q (Awaits port) number queued l fit h = record { waits = λ p x. let z : None ≡ Some p = x in cc; runs = h.runs }
all-moved Q Connects number queued l fit h = record { waits = λ p x. let z : None ≡ Some p = x in cc; runs = h.runs }
all-moved Q Links number queued l fit h = all-lane_of Q (with_link l.slot number) l.pending l.running (record { waits = h.waits; runs = h.runs })
all-moved Q (Queues t) number queued l fit h = all-lane_of Q l.slot queued l.running (record { waits = fit t refl; runs = h.runs })
all-moved Q Finishes number queued l fit h =
    all-lane_of Q l.slot l.pending None (record { waits = h.waits; runs = λ j x. let z : None ≡ Some j = x in cc })
all-moved Q m number queued l fit h = all-dropped Q (empties m l.slot) l h

-- and where the job that runs is marked, or a piece of it is counted
pub all-kept :
    (Q : Pending → Type 0) (d : Decision) (given : Answer) (l : Lane) → AllOf Q l →
    AllOf Q (record { slot = l.slot; pending = l.pending; running = kept_running d given l.running })
all-kept Q d given l h =
    record {
      waits = h.waits;
      runs = λ j y.
          let was = kept-same d given l.running j y in
          subst (λ (job : Job). Q (transfer_of job)) was.2 (h.runs was.0 was.1);
    }

-- a transfer of session s, one of its first n
abbrev pub IsCounted : ℕ → ℕ → Pending → Type 0
IsCounted s n p = (p.ticket.session ≡ s) × (p.ticket.nr ≤ n)

-- a transfer waits only in a slot that has or awaits a link, and in one that has it only behind an earlier one that runs;
-- both are among the first n of session s
pub record Sound (s n : ℕ) (l : Lane) : Type 0 where
  pub placed : l.slot ≡ Empty → l.pending ≡ None
  pub behind : (number : ℕ) (p : Pending) → l.slot ≡ Linked number → l.pending ≡ Some p → l.running ≢ None
  pub earlier : (p : Pending) (j : Running) → l.pending ≡ Some p → l.running ≡ Some j → j.job.ticket.nr < p.ticket.nr
  pub counted : AllOf (IsCounted s n) l

-- also after a job may have started
lane_of-sound :
    (s n : ℕ) (slot : Slot) (pending : Option Pending) (running : Option Running) →
    (slot ≡ Empty → pending ≡ None) →
    ((p : Pending) (j : Running) → pending ≡ Some p → running ≡ Some j → j.job.ticket.nr < p.ticket.nr) →
    AllOf (IsCounted s n) (record { slot = slot; pending = pending; running = running }) →
    Sound s n (lane_of slot pending running)
lane_of-sound s n slot pending running placed earlier counted = go slot pending running placed earlier (all-lane_of (IsCounted s n) slot pending running counted)
  where
    go :
        (slot : Slot) (pending : Option Pending) (running : Option Running) →
        (slot ≡ Empty → pending ≡ None) →
        ((p : Pending) (j : Running) → pending ≡ Some p → running ≡ Some j → j.job.ticket.nr < p.ticket.nr) →
        AllOf (IsCounted s n) (lane_of slot pending running) → Sound s n (lane_of slot pending running)
    go (Linked m) (Some p) None x y all =
        record { placed = λ z. refl; behind = λ m q z. cc; earlier = λ q j z. let u : None ≡ Some q = z in cc; counted = all }
    go (Linked m) (Some p) (Some j) x y all = record { placed = x; behind = λ m q z u v. cc; earlier = y; counted = all }
    go (Linked m) None running x y all = record { placed = x; behind = λ m q z u. cc; earlier = y; counted = all }
    go Empty pending running x y all = record { placed = x; behind = λ m q z. cc; earlier = y; counted = all }
    go (Waits port) pending running x y all = record { placed = x; behind = λ m q z. cc; earlier = y; counted = all }

-- a link that may come leaves no slot empty
with_link-placed :
    (slot : Slot) (n : Option ℕ) (pending : Option Pending) →
    (slot ≡ Empty → pending ≡ None) →
    with_link slot n ≡ Empty → pending ≡ None
with_link-placed (Waits port) (Some n) pending h x = cc
with_link-placed (Waits port) None pending h x = h x
with_link-placed Empty n pending h x = h x
with_link-placed (Linked m) n pending h x = h x

-- a slot that may be dropped
dropped-sound :
    (s n : ℕ) (b : Bool) (l : Lane) → Sound s n l →
    Sound s n (record { slot = cond b Empty l.slot; pending = cond b None l.pending; running = l.running })
dropped-sound s n true l h =
    record { placed = λ x. refl; behind = λ m p x. cc; earlier = λ p j x. let z : None ≡ Some p = x in cc; counted = all-dropped (IsCounted s n) true l h.counted }
dropped-sound s n false l h = h

-- of more transfers they are among the first too
sound-more : (s n k : ℕ) (l : Lane) → n ≤ k → Sound s n l → Sound s k l
sound-more s n k l le h =
    record {
      placed = h.placed;
      behind = h.behind;
      earlier = h.earlier;
      counted = all-wider (IsCounted s n) (IsCounted s k) l (λ p x. (x.0, omega (arith, x.1, le))) h.counted;
    }

-- a transfer that is queued into this slot is of session s, and the last of its first k
abbrev pub IsLast : ℕ → ℕ → ℕ → Slot → Option Pending → Type 0
IsLast s n k slot queued =
    (slot ≢ Empty) × ((p : Pending) → queued ≡ Some p → (p.ticket.session ≡ s) × (n < p.ticket.nr) × (p.ticket.nr ≤ k))

-- after a move that queues only such a transfer
pub after-sound :
    (s n k : ℕ) (m : SlotMove) (number : Option ℕ) (queued : Option Pending) (l : Lane) →
    ((t : Ticket) → m ≡ Queues t → IsLast s n k l.slot queued) →
    n ≤ k → Sound s n l → Sound s k (moved m number queued l)
after-sound s n k m number queued l fit le h = go m fit
  where
    more : Sound s k l
    more = sound-more s n k l le h

    go : (m : SlotMove) → ((t : Ticket) → m ≡ Queues t → IsLast s n k l.slot queued) → Sound s k (moved m number queued l)
    go (Awaits port) f =
        record {
          placed = λ x. refl;
          behind = λ i p x. cc;
          earlier = λ p j x. let z : None ≡ Some p = x in cc;
          counted = record { waits = λ p x. let z : None ≡ Some p = x in cc; runs = more.counted.runs };
        }
    go Connects f =
        record {
          placed = λ x. refl;
          behind = λ i p x y. let z : None ≡ Some p = y in cc;
          earlier = λ p j x. let z : None ≡ Some p = x in cc;
          counted = record { waits = λ p x. let z : None ≡ Some p = x in cc; runs = more.counted.runs };
        }
    go Links f =
        lane_of-sound s k (with_link l.slot number) l.pending l.running (with_link-placed l.slot number l.pending h.placed) h.earlier
        (record { waits = more.counted.waits; runs = more.counted.runs })
    go (Queues t) f =
        let q = f t refl in
        lane_of-sound s k l.slot queued l.running (λ x. absurd (q.0 x)) (λ p j x y. omega (arith, (h.counted.runs j y).1, (q.1 p x).1))
        (record { waits = λ p x. ((q.1 p x).0, (q.1 p x).2); runs = more.counted.runs })
    go Finishes f =
        lane_of-sound s k l.slot l.pending None h.placed (λ p j x y. let z : None ≡ Some j = y in cc)
        (record { waits = more.counted.waits; runs = λ j x. let z : None ≡ Some j = x in cc })
    go m f = dropped-sound s k (empties m l.slot) l more

-- also where the job that runs is marked, or a piece of it is counted
kept-sound : (s n : ℕ) (d : Decision) (given : Answer) (l : Lane) → Sound s n l →
    Sound s n (record { slot = l.slot; pending = l.pending; running = kept_running d given l.running })
kept-sound s n d given l h =
    record {
      placed = h.placed;
      behind = λ m p x y z. h.behind m p x y (kept-none d given l.running z);
      earlier = λ p j x y.
          let was = kept-same d given l.running j y in
          omega (arith, h.earlier p was.0 x was.1, ap (λ (job : Job). job.ticket.nr) was.2);
      counted = all-kept (IsCounted s n) d given l h.counted;
    }

-- what is queued is the transfer that the command asks for, as the history has it
pub queue-as :
    (h : List Entry) (e : Entry) (t : Ticket) (c : DataChanCmd) →
    e.decision ≡ decision.Queued t →
    asked_command e.event.kind ≡ Some c →
    queued_in h e ≡ Some (pending_of t (logged_user (login_state h) (user_name h)) (cwd h) (offset h) c)
queue-as h e t c d a = rw (d, a) refl

-- so it is a transfer under its ticket
pub queue-made :
    (h : List Entry) (e : Entry) (t : Ticket) (c : DataChanCmd) →
    e.decision ≡ decision.Queued t →
    asked_command e.event.kind ≡ Some c →
    (p : Pending) × (queued_in h e ≡ Some p) × (p.ticket ≡ t)
queue-made h e t c d a = (pending_of t (logged_user (login_state h) (user_name h)) (cwd h) (offset h) c, queue-as h e t c d a, refl)

-- what every history of session s keeps
abbrev pub IsSound : ℕ → List Entry → Type 0
IsSound s h = Sound s (ticket_count h) (lane h)

-- what an entry about session s queues is of that session, and the next of its transfers
pub queues-last :
    (o : Options) (past : List Entry) (e : Entry) (s : ℕ) (t : Ticket) →
    e.decision ≡ due o past e.event.at e.event.kind e.answer → concerns o past e s ≡ true →
    slot_move e.decision ≡ Queues t →
    IsLast s (ticket_count (history o past s)) (ticket_count (e ∷ history o past s)) (lane (history o past s)).slot (queued_in (history o past s) e)
queues-last o past e s t fit c m =
    let h : List Entry = history o past s in
    let d = queues-is e.decision t m in
    let q : IsQueue o past e.event.kind t = queued-live o past e.event.at e.event.kind e.answer t (sym fit ∙ d) in
    let v = q.session_then in
    let same = named-concern o past e q.number s fit q.named c in
    let known : session o past s ≡ Some v = subst (λ (n : ℕ). session o past n ≡ Some v) same q.known in
    let told = (session-told o past s v known).told in
    let slot = ap (λ (w : Session). w.slot) told in
    let count : v.tickets ≡ ticket_count h = ap (λ (w : Session). w.tickets) (sym told) in
    let longer : ticket_count (e ∷ h) ≡ ticket_count h + 1 = rw d refl in
    let made = queue-made h e t q.command d q.asked in
    let ticket : (p : Pending) → queued_in h e ≡ Some p → p.ticket ≡ record { session = q.number; nr = v.tickets + 1 } =
    λ p x. ap (λ (r : Pending). r.ticket) (sym (same_Some _ _ (sym made.1 ∙ x))) ∙ (made.2 ∙ q.ticket) in (
      λ x. queue-placed v.slot v.pending q.room (sym slot ∙ x),
      λ p x. (
        ap (λ (u : Ticket). u.session) (ticket p x) ∙ same,
        omega (arith, ap (λ (u : Ticket). u.nr) (ticket p x), count),
        omega (arith, ap (λ (u : Ticket). u.nr) (ticket p x), count, longer),
      ),
    )

-- an entry about session s that is decided as it has to be
pub entry-sound :
    (o : Options) (past : List Entry) (e : Entry) (s : ℕ) →
    e.decision ≡ due o past e.event.at e.event.kind e.answer → concerns o past e s ≡ true →
    IsSound s (history o past s) → IsSound s (e ∷ history o past s)
entry-sound o past e s fit c sound =
    kept-sound s (ticket_count (e ∷ h)) e.decision e.answer (lane_after e.event.kind e.decision (queued_in h e) (lane h))
    (after-sound s (ticket_count h) (ticket_count (e ∷ h)) (slot_move e.decision) (new_number e.event.kind e.decision) (queued_in h e) (lane h) (λ t m. queues-last o past e s t fit c m) (omega arith) sound)
  where
    h : List Entry
    h = history o past s

-- after every right log
pub sound : (o : Options) (log : List Entry) (s : ℕ) → IsRight o log → IsSound s (history o (past_of log) s)
sound o log s r =
    right-history o s (IsSound s) empty
    (λ e n. subst (λ (d : Decision). Sound s (total (λ (x : Entry). if is_queued x.decision then 1 else 0) [] + (if is_queued d then 1 else 0)) (record { slot = (lane_after e.event.kind d (queued_in [] e) (lane [])).slot; pending = (lane_after e.event.kind d (queued_in [] e) (lane [])).pending; running = kept_running d e.answer (lane_after e.event.kind d (queued_in [] e) (lane [])).running })) (sym (opened-is e.event.kind e.decision s n)) empty)
    (λ log e comes c. entry-sound o (past_of log) e s comes.fit c)
    log r
  where
    empty : Sound s 0 (record { slot = Empty; pending = None; running = None })
    empty =
        record {
          placed = λ x. refl;
          behind = λ m p x. cc;
          earlier = λ p j x. let z : None ≡ Some p = x in cc;
          counted = record { waits = λ p x. let z : None ≡ Some p = x in cc; runs = λ j x. let z : None ≡ Some j = x in cc };
        }
