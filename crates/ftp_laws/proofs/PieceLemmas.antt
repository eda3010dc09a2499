-- The bytes of the pieces of a transfer are those that its job counts, and it is marked where an ABOR came after its start.
use Rattle.std.proofs.Common.{◌≡◌, refl, sym, ◌∙◌, ap, subst, ℕ, ◌+◌, ◌≤◌, ◌<◌, ◌&&◌, ◌||◌, Bool, true, false, true≢false, cond, List, [], ◌∷◌, Option, Some, None, arith, eq-eqb, eqb-true, inl, inr}
use Rattle.std.specs.Prelude.{◌⊎◌}
use Rattle.std.specs.Option.{option_map_or}
use Rattle.std.proofs.lemmas.Bool.{and_parts, or_parts, or_right}
use Rattle.std.specs.List.{list_any}
use Rattle.std.proofs.lemmas.Option.{same_Some}
use Rattle.ftp_transfer.specs.declared.job.Job.{Job}
use Rattle.ftp_events.specs.declared.decision.Decision.TheVariants as decision
use Rattle.ftp_events.specs.declared.decision.SlotMove.TheVariants.{Awaits, Connects, Links, Queues, Finishes}
use Rattle.ftp_events.specs.declared.event.Answer.TheVariants as answer
use Rattle.ftp_events.specs.declared.event.EventKind.TheVariants as kind
use Rattle.ftp_events.specs.declared.session.Slot.TheVariants.{Empty, Waits, Linked}
use Rattle.ftp_events.specs.Classes.{is_stop}
use Rattle.ftp_events.specs.Fate.{is_pending, is_running}
use Rattle.ftp_events.specs.Place.{ticket_count}
use Rattle.ftp_events.specs.Slot.{raise, startable}
use Rattle.ftp_events.specs.Transfer.{same_ticket}
use Rattle.ftp_laws.proofs.Common.{SlotMove, slot_move, empties, moved, starts_by, Options, Running, Ticket, Decision, Entry, EventKind, Answer, Pending, Slot, new_number, past_of, concerns, opens, history, job_ticket, Lane, with_link, lane_of, lane_after, queued_in, lane, running_job, due, is_number, is_refusal, is_used, named_session, IsActed, IsRight, kept_running}
use Rattle.ftp_laws.specs.Pieces.{aborts, bytes_moved, is_about, is_aborting, moved_by, piece_bytes, was_aborted}
use Rattle.ftp_laws.specs.Fates.{queue_count, settle_count}
use Rattle.ftp_laws.specs.Transfers.{starts_it, was_started}
use Rattle.ftp_laws.proofs.BalanceLemmas.{IsEnd, carried, one, piece-known}
use Rattle.ftp_laws.proofs.Cases.{by_test, by_part, job-named}
use Rattle.ftp_laws.proofs.ClassLemmas.{opened-is, stop-is}
use Rattle.ftp_laws.proofs.EntryLemmas.{Comes, acted-past, right-past}
use Rattle.ftp_laws.proofs.HoldLemmas.{opened-fresh}
use Rattle.ftp_laws.proofs.LaneLemmas.{named-concern}
use Rattle.ftp_laws.proofs.QuestionLemmas.{history-other, history-own, lane-opened}
use Rattle.ftp_laws.proofs.RunningLemmas.{unused-idle}
use Rattle.ftp_laws.proofs.SoundLemmas.{entry-sound, queues-last, sound}
use Rattle.ftp_laws.proofs.SubjectLemmas.{named-one, one-own}
use Rattle.ftp_laws.proofs.TicketLemmas.{same_ticket-equal, same_ticket-refl}
use Rattle.ftp_laws.proofs.TransferLemmas.{RunsOn, are-started, runs-after}
use Rattle.ftp_laws.proofs.FateLemmas.{IsAccounted, accounted}
use Rattle.ftp_laws.proofs.KeptLemmas.{IsSame, fresh}

-- a piece has moved
abbrev is_moved : Decision → Bool
is_moved decision.Moved = true
is_moved _ = false

moved-is : (d : Decision) → is_moved d ≡ true → d ≡ decision.Moved
moved-is decision.Moved h = refl
moved-is d h = cc

-- with no other decision bytes are told
still : (d : Decision) (given : Answer) → is_moved d ≡ false → bytes_moved d given ≡ 0
still decision.Moved given h = cc
still d given h = refl

-- nor does the count of the job that runs change
kept-done :
    (d : Decision) (given : Answer) (job : Option Running) (j : Running) → is_moved d ≡ false →
    kept_running d given job ≡ Some j → (i : Running) × (job ≡ Some i) × (i.job ≡ j.job)
kept-done decision.Moved given job j m h = cc
kept-done decision.Aborting given None j m h = cc
kept-done decision.Aborting given (Some i) j m h = (i, refl, ap (λ (r : Running). r.job) (same_Some _ _ h))
kept-done d given job j m h = (j, h, refl)

-- an entry with such a decision tells no bytes
still-by : (t : Ticket) (e : Entry) → is_moved e.decision ≡ false → moved_by t e ≡ 0
still-by t e h = go (is_about t e.event.kind)
  where
    go : (b : Bool) → cond b (bytes_moved e.decision e.answer) 0 ≡ 0
    go true = still e.decision e.answer h
    go false = refl

-- only a piece of a job that ran is decided as one that moved
pub moved-known :
    (o : Options) (past : List Entry) (at : ℕ) (k : EventKind) (given : Answer) →
    due o past at k given ≡ decision.Moved → IsEnd o past k
moved-known o past at (kind.Piece ticket) given e = piece-known o past ticket given decision.Moved (running_job o past ticket.session) (λ z. cc) refl e
moved-known o past at k given e = grind arith

-- a job that can start is that of the transfer in the slot, unmarked, and nothing of it has moved
record StartsFrom (pending : Option Pending) (j : Running) : Type 0 where
  from : Pending
  there : pending ≡ Some from
  ticket : j.job.ticket ≡ from.ticket
  done : j.job.done ≡ 0
  unmarked : j.marked ≡ false

startable-from : (slot : Slot) (pending : Option Pending) (running : Option Running) (j : Running) → startable slot pending running ≡ Some j → StartsFrom pending j
startable-from (Linked n) (Some p) None j h =
    let is = same_Some _ _ h in
    record {
      from = p;
      there = refl;
      ticket = sym (ap (λ (r : Running). r.job.ticket) is);
      done = sym (ap (λ (r : Running). r.job.done) is);
      unmarked = sym (ap (λ (r : Running). r.marked) is);
    }
startable-from slot pending running j h = cc

-- what waits after a job may have started waited before
lane_of-pending : (slot : Slot) (pending : Option Pending) (running : Option Running) (p : Pending) → (lane_of slot pending running).pending ≡ Some p → pending ≡ Some p
lane_of-pending (Linked n) (Some q) None p h = cc
lane_of-pending (Linked n) (Some q) (Some j) p h = h
lane_of-pending (Linked n) None running p h = h
lane_of-pending Empty pending running p h = h
lane_of-pending (Waits port) pending running p h = h

-- what waits after a move waited before, or is queued by it
waits-after :
    (m : SlotMove) (number : Option ℕ) (queued : Option Pending) (l : Lane) (p : Pending) → (moved m number queued l).pending ≡ Some p →
    (l.pending ≡ Some p) ⊎ ((t : Ticket) × (m ≡ Queues t) × (queued ≡ Some p))
waits-after (Awaits port) number queued l p h = cc
waits-after Connects number queued l p h = cc
waits-after Links number queued l p h = inl (lane_of-pending (with_link l.slot number) l.pending l.running p h)
waits-after (Queues t) number queued l p h = inr (t, refl, lane_of-pending l.slot queued l.running p h)
waits-after Finishes number queued l p h = inl (lane_of-pending l.slot l.pending None p h)
waits-after m number queued l p h = inl (go (empties m l.slot) h)
  where
    go : (b : Bool) → cond b None l.pending ≡ Some p → l.pending ≡ Some p
    go true x = cc
    go false x = x

-- so is what starts with it
starts-from :
    (m : SlotMove) (number : Option ℕ) (queued : Option Pending) (l : Lane) (j : Running) → starts_by m number queued l ≡ Some j →
    StartsFrom l.pending j ⊎ ((t : Ticket) × (m ≡ Queues t) × StartsFrom queued j)
starts-from Links number queued l j h = inl (startable-from (with_link l.slot number) l.pending l.running j h)
starts-from (Queues t) number queued l j h = inr (t, refl, startable-from l.slot queued l.running j h)
starts-from Finishes number queued l j h = inl (startable-from l.slot l.pending None j h)
starts-from m number queued l j h = cc

-- what the past tells of the pieces of session s: none of a transfer that has not started, and those of the one that runs
-- are those that its job counts
record Pieces (o : Options) (past : List Entry) (s : ℕ) : Type 0 where
  unused : is_used past s ≡ false → (t : Ticket) → t.session ≡ s → piece_bytes t past ≡ 0
  later : (t : Ticket) → t.session ≡ s → ticket_count (history o past s) < t.nr → piece_bytes t past ≡ 0
  waits : (p : Pending) → (lane (history o past s)).pending ≡ Some p → piece_bytes p.ticket past ≡ 0
  runs : (j : Running) → (lane (history o past s)).running ≡ Some j → piece_bytes j.job.ticket past ≡ j.job.done

-- an entry that opens the session
pieces-opened :
    (o : Options) (past : List Entry) (e : Entry) (s : ℕ) →
    e.decision ≡ due o past e.event.at e.event.kind e.answer → opens e s ≡ true →
    Pieces o past s → Pieces o (e ∷ past) s
pieces-opened o past e s fit n h =
    record {
      unused = λ u t own. all t own;
      later = λ t own more. all t own;
      waits = λ p x. let z : None ≡ Some p = sym (ap (λ (l : Lane). l.pending) (lane-opened o past e s n)) ∙ x in cc;
      runs = λ j x. let z : None ≡ Some j = sym (ap (λ (l : Lane). l.running) (lane-opened o past e s n)) ∙ x in cc;
    }
  where
    all : (t : Ticket) → t.session ≡ s → piece_bytes t (e ∷ past) ≡ 0
    all t own = omega (arith, h.unused (opened-fresh o past e s fit n) t own, still-by t e (ap is_moved (opened-is e.event.kind e.decision s n)))

-- an entry that is about another
pieces-other :
    (o : Options) (past : List Entry) (e : Entry) (s : ℕ) →
    opens e s ≡ false → concerns o past e s ≡ false →
    ((p : Pending) → (lane (history o past s)).pending ≡ Some p → p.ticket.session ≡ s) →
    ((j : Running) → (lane (history o past s)).running ≡ Some j → j.job.ticket.session ≡ s) →
    Pieces o past s → Pieces o (e ∷ past) s
pieces-other o past e s n c waits runs h =
    record {
      unused = λ u t own. same t own ∙ h.unused (or_parts _ (is_used past s) u).1 t own;
      later = λ t own more. same t own ∙ h.later t own (subst (λ (x : List Entry). ticket_count x < t.nr) as_before more);
      waits = λ p x.
          let y : (lane (history o past s)).pending ≡ Some p = ap (λ (x : List Entry). (lane x).pending) (sym as_before) ∙ x in
          same p.ticket (waits p y) ∙ h.waits p y;
      runs = λ j x.
          let y : (lane (history o past s)).running ≡ Some j = ap (λ (x : List Entry). (lane x).running) (sym as_before) ∙ x in
          same j.job.ticket (runs j y) ∙ h.runs j y;
    }
  where
    as_before : history o (e ∷ past) s ≡ history o past s
    as_before = history-other o past e s n c

    -- what is about a transfer concerns its session
    ours : (t u : Ticket) → t.session ≡ s → job_ticket e.event.kind ≡ Some u → same_ticket u t ≡ true → is_stop e.decision ≡ false → true ≡ false
    ours t u own told same plain =
        let named = job-named e.event.kind u told ∙ ap Some (ap (λ (x : Ticket). x.session) (same_ticket-equal u t same) ∙ own) in
        sym (one-own o past e s (named-one o past e s plain named)) ∙ c

    none : (t : Ticket) → t.session ≡ s → (x : Option Ticket) → job_ticket e.event.kind ≡ x → (b : Bool) → option_map_or (λ u. same_ticket u t) x false ≡ b → cond b (bytes_moved e.decision e.answer) 0 ≡ 0
    none t own x told false is = refl
    none t own None told true is = cc
    none t own (Some u) told true is =
        by_test (is_stop e.decision) (λ stop. still e.decision e.answer (ap is_moved (stop-is e.decision stop)))
        (λ plain. absurd (true≢false (ours t u own told is plain)))

    same : (t : Ticket) → t.session ≡ s → piece_bytes t (e ∷ past) ≡ piece_bytes t past
    same t own = omega (arith, none t own (job_ticket e.event.kind) refl (is_about t e.event.kind) refl)

-- an entry that is about it, and tells no bytes
pieces-still :
    (o : Options) (past : List Entry) (e : Entry) (s : ℕ) →
    e.decision ≡ due o past e.event.at e.event.kind e.answer →
    opens e s ≡ false → concerns o past e s ≡ true → is_moved e.decision ≡ false →
    Pieces o past s → Pieces o (e ∷ past) s
pieces-still o past e s fit n c m h =
    record {
      unused = λ u t own. same t ∙ h.unused (or_parts _ (is_used past s) u).1 t own;
      later = λ t own more.
          let longer : ticket_count (e ∷ before) < t.nr = subst (λ (x : List Entry). ticket_count x < t.nr) grown more in
          same t ∙ h.later t own (omega (arith, longer));
      waits = λ p x. same p.ticket ∙ waits p (waits-after (slot_move e.decision) number queued l p (ap (λ (x : List Entry). (lane x).pending) (sym grown) ∙ x));
      runs = λ j x.
          let was = kept-done e.decision e.answer (lane_after e.event.kind e.decision queued l).running j m (ap (λ (x : List Entry). (lane x).running) (sym grown) ∙ x) in
          same j.job.ticket
          ∙ subst (λ (job : Job). piece_bytes job.ticket past ≡ job.done) was.2 (runs was.0 (runs-after (slot_move e.decision) number queued l was.0 was.1));
    }
  where
    before : List Entry
    before = history o past s

    l : Lane
    l = lane before

    number : Option ℕ
    number = new_number e.event.kind e.decision

    queued : Option Pending
    queued = queued_in before e

    grown : history o (e ∷ past) s ≡ e ∷ before
    grown = history-own o past e s n c

    same : (t : Ticket) → piece_bytes t (e ∷ past) ≡ piece_bytes t past
    same t = omega (arith, still-by t e m)

    -- what is queued is the next, of which nothing has moved
    next : (t : Ticket) (p : Pending) → slot_move e.decision ≡ Queues t → queued ≡ Some p → piece_bytes p.ticket past ≡ 0
    next t p move made =
        let last = (queues-last o past e s t fit c move).1 p made in
        h.later p.ticket last.0 last.1

    waits : (p : Pending) → (l.pending ≡ Some p) ⊎ ((t : Ticket) × (slot_move e.decision ≡ Queues t) × (queued ≡ Some p)) → piece_bytes p.ticket past ≡ 0
    waits p (inl x) = h.waits p x
    waits p (inr x) = next x.0 p x.1 x.2

    fresh : (pending : Option Pending) (j : Running) (from : StartsFrom pending j) → piece_bytes from.from.ticket past ≡ 0 → piece_bytes j.job.ticket past ≡ j.job.done
    fresh pending j from none = ap (λ (t : Ticket). piece_bytes t past) from.ticket ∙ none ∙ sym from.done

    starts : (j : Running) → StartsFrom l.pending j ⊎ ((t : Ticket) × (slot_move e.decision ≡ Queues t) × StartsFrom queued j) → piece_bytes j.job.ticket past ≡ j.job.done
    starts j (inl x) = fresh l.pending j x (h.waits x.from x.there)
    starts j (inr x) = fresh queued j x.2 (next x.0 x.2.from x.1 x.2.there)

    runs : (j : Running) → (starts_by (slot_move e.decision) number queued l ≡ Some j) ⊎ (l.running ≡ Some j) → piece_bytes j.job.ticket past ≡ j.job.done
    runs j (inl x) = starts j (starts-from (slot_move e.decision) number queued l j x)
    runs j (inr x) = h.runs j x

-- an entry that tells a piece of it
pieces-moved :
    (o : Options) (log : List Entry) (e : Entry) (s : ℕ) → Comes o log e →
    opens e s ≡ false → concerns o (past_of log) e s ≡ true → e.decision ≡ decision.Moved →
    Pieces o (past_of log) s → Pieces o (e ∷ past_of log) s
pieces-moved o log e s comes n c m h =
    record {
      unused = λ u t own.
          let idle = unused-idle o log s comes.right (or_parts _ (is_used past s) u).1 in
          let z : None ≡ Some known.job = sym idle ∙ ran in
          cc;
      later = λ t own more.
          let longer : ticket_count (e ∷ before) < t.nr = subst (λ (x : List Entry). ticket_count x < t.nr) grown more in
          other t (λ same. omega (arith, longer, counted, ap (λ (x : Ticket). x.nr) same)) ∙ h.later t own (omega (arith, longer));
      waits = λ p x.
          let y : l.pending ≡ Some p = sym (ap (λ (d : Decision). (lane_after e.event.kind d (queued_in before e) l).pending) m) ∙ ap (λ (x : List Entry). (lane x).pending) (sym grown) ∙ x in
          other p.ticket (λ same. omega (arith, (sound o log s comes.right).earlier p known.job y ran, ap (λ (x : Ticket). x.nr) (known.same ∙ same))) ∙ h.waits p y;
      runs = λ j x. runs e.answer refl j (here ∙ (ap (λ (x : List Entry). (lane x).running) (sym grown) ∙ x));
    }
  where
    past : List Entry
    past = past_of log

    before : List Entry
    before = history o past s

    l : Lane
    l = lane before

    grown : history o (e ∷ past) s ≡ e ∷ before
    grown = history-own o past e s n c

    known : IsEnd o past e.event.kind
    known = moved-known o past e.event.at e.event.kind e.answer (sym comes.fit ∙ m)

    u : Ticket
    u = known.ticket

    own_session : u.session ≡ s
    own_session = named-concern o past e u.session s comes.fit (job-named e.event.kind u known.kind_is) c

    ran : l.running ≡ Some known.job
    ran = subst (λ (q : ℕ). running_job o past q ≡ Some known.job) own_session known.ran

    counted : u.nr ≤ ticket_count before
    counted = subst (λ (t : Ticket). t.nr ≤ ticket_count before) known.same ((sound o log s comes.right).counted.runs known.job ran).1

    here : kept_running decision.Moved e.answer (Some known.job) ≡ (lane (e ∷ before)).running
    here =
        ap (kept_running decision.Moved e.answer) (sym ran)
        ∙ ap (λ (d : Decision). kept_running d e.answer (lane_after e.event.kind d (queued_in before e) l).running) (sym m)

    -- the piece is of no other transfer
    other : (t : Ticket) → (u ≡ t → ⊥) → piece_bytes t (e ∷ past) ≡ piece_bytes t past
    other t differs =
        let about : is_about t e.event.kind ≡ same_ticket u t = ap (λ (x : Option Ticket). option_map_or (λ u. same_ticket u t) x false) known.kind_is in
        let none : moved_by t e ≡ 0 = ap (λ b. cond b (bytes_moved e.decision e.answer) 0) about ∙ go (same_ticket u t) refl in
        omega (arith, none)
      where
        go : (b : Bool) → same_ticket u t ≡ b → cond b (bytes_moved e.decision e.answer) 0 ≡ 0
        go true x = absurd (differs (same_ticket-equal u t x))
        go false x = refl

    told : moved_by u e ≡ bytes_moved decision.Moved e.answer
    told =
        ap (λ (x : Option Ticket). cond (option_map_or (λ v. same_ticket v u) x false) (bytes_moved e.decision e.answer) 0) known.kind_is
        ∙ ap (λ b. cond b (bytes_moved e.decision e.answer) 0) (same_ticket-refl u)
        ∙ ap (λ (d : Decision). bytes_moved d e.answer) m

    was : piece_bytes u past ≡ known.job.job.done
    was = subst (λ (t : Ticket). piece_bytes t past ≡ known.job.job.done) known.same (h.runs known.job ran)

    runs : (given : Answer) → e.answer ≡ given → (j : Running) → kept_running decision.Moved given (Some known.job) ≡ Some j → piece_bytes j.job.ticket (e ∷ past) ≡ j.job.done
    runs (answer.Moved bytes) is j x =
        let same : raise bytes known.job ≡ j = same_Some _ _ x in
        let ticket : u ≡ j.job.ticket = sym known.same ∙ ap (λ (r : Running). r.job.ticket) same in
        let more : moved_by u e ≡ bytes = told ∙ ap (bytes_moved decision.Moved) is in
        subst (λ (t : Ticket). piece_bytes t (e ∷ past) ≡ j.job.done) ticket (omega (arith, was, more, ap (λ (r : Running). r.job.done) same))
    runs given is j x =
        let same : known.job ≡ j = same_Some _ _ x in
        let ticket : u ≡ j.job.ticket = sym known.same ∙ ap (λ (r : Running). r.job.ticket) same in
        let more : moved_by u e ≡ 0 = told ∙ ap (bytes_moved decision.Moved) is in
        subst (λ (t : Ticket). piece_bytes t (e ∷ past) ≡ j.job.done) ticket (omega (arith, was, more, ap (λ (r : Running). r.job.done) same))

-- in every right log
pieces : (o : Options) (log : List Entry) (s : ℕ) → IsRight o log → Pieces o (past_of log) s
pieces o log s r =
    right-past o (λ past. Pieces o past s)
    (record {
      unused = λ u t own. refl;
      later = λ t own more. refl;
      waits = λ p x. let z : None ≡ Some p = x in cc;
      runs = λ j x. let z : None ≡ Some j = x in cc;
    })
    (λ log e comes h.
    let all = (sound o log s comes.right).counted in
    by_part o (past_of log) e s
    (λ n. pieces-opened o (past_of log) e s comes.fit n h)
    (λ n c.
    by_test (is_moved e.decision) (λ m. pieces-moved o log e s comes n c (moved-is e.decision m) h) (λ m. pieces-still o (past_of log) e s comes.fit n c m h))
    (λ n c. pieces-other o (past_of log) e s n c (λ p x. (all.waits p x).0) (λ j x. (all.runs j x).0) h))
    log r

-- the job that runs counts the bytes of its pieces
pub pieces-counted :
    (o : Options) (log : List Entry) (s : ℕ) (r : Running) → IsRight o log →
    running_job o (past_of log) s ≡ Some r →
    r.job.done ≡ piece_bytes r.job.ticket (past_of log)
pieces-counted o log s r right known = sym ((pieces o log s right).runs r known)

-- ---- the mark

-- a job that runs is marked where it was, or by an ABOR that is to stop it
kept-marked :
    (d : Decision) (given : Answer) (job : Option Running) (j : Running) →
    kept_running d given job ≡ Some j → (i : Running) × (job ≡ Some i) × IsSame i j × (j.marked ≡ (is_aborting d || i.marked))
kept-marked decision.Aborting given None j h = cc
kept-marked decision.Aborting given (Some i) j h =
    (i, refl, ap (λ (r : Running). fresh r.job) (same_Some _ _ h), sym (ap (λ (r : Running). r.marked) (same_Some _ _ h)))
kept-marked decision.Moved (answer.Moved bytes) None j h = cc
kept-marked decision.Moved (answer.Moved bytes) (Some i) j h =
    (i, refl, ap (λ (r : Running). fresh r.job) (same_Some _ _ h), sym (ap (λ (r : Running). r.marked) (same_Some _ _ h)))
kept-marked d given job j h = (j, h, refl, refl)

-- with an ABOR that is to stop a job none starts
starts-goes : (d : Decision) (number : Option ℕ) (queued : Option Pending) (l : Lane) (j : Running) → starts_by (slot_move d) number queued l ≡ Some j → is_aborting d ≡ false
starts-goes decision.Aborting number queued l j h = cc
starts-goes d number queued l j h = refl

-- a refusal is no ABOR
refused-goes : (d : Decision) → is_refusal d ≡ true → is_aborting d ≡ false
refused-goes decision.Aborting h = cc
refused-goes d h = refl

-- nor does an ABOR stop every session
aborting-plain : (d : Decision) → is_aborting d ≡ true → is_stop d ≡ false
aborting-plain decision.Aborting h = refl
aborting-plain d h = cc

-- a transfer that an ABOR was to stop had started
aborted-started : (t : Ticket) (n : ℕ) (log : List Entry) → was_aborted t n log ≡ true → was_started t n log ≡ true
aborted-started t n [] h = cc
aborted-started t n (e ∷ log) h =
    or_right (list_any (starts_it t n) e.actions) (was_started t n log) (go (aborts t e) (was_started t n log) refl (aborted-started t n log) h)
  where
    go :
        (a b : Bool) → was_started t n log ≡ b → (was_aborted t n log ≡ true → was_started t n log ≡ true) →
        (a && b || was_aborted t n log) ≡ true → was_started t n log ≡ true
    go a true x older y = x
    go true false x older y = older y
    go false false x older y = older y

-- each job that runs is marked where an ABOR was to stop it
abbrev IsMarked : Options → List Entry → List Entry → ℕ → Type 0
IsMarked o log past s = (r : Running) → running_job o past s ≡ Some r → r.marked ≡ was_aborted r.job.ticket r.job.number log

-- an ABOR names a session
aborting-is : (d : Decision) → is_aborting d ≡ true → d ≡ decision.Aborting
aborting-is decision.Aborting h = refl
aborting-is d h = cc

aborting-named :
    (o : Options) (past : List Entry) (at : ℕ) (k : EventKind) (given : Answer) →
    due o past at k given ≡ decision.Aborting → (q : ℕ) × (named_session k ≡ Some q)
aborting-named o past at (kind.Abor q) given e = (q, refl)
aborting-named o past at k given e = grind arith

-- so one that concerns session s is an ABOR of it
aborts-own :
    (o : Options) (past : List Entry) (e : Entry) (s : ℕ) (t : Ticket) →
    e.decision ≡ due o past e.event.at e.event.kind e.answer → concerns o past e s ≡ true → t.session ≡ s →
    aborts t e ≡ is_aborting e.decision
aborts-own o past e s t fit c own =
    by_test (is_aborting e.decision)
    (λ x.
    let named = aborting-named o past e.event.at e.event.kind e.answer (sym fit ∙ aborting-is e.decision x) in
    let same : named.0 ≡ t.session = named-concern o past e named.0 s fit named.1 c ∙ sym own in
    ap (λ b. b && is_number (named_session e.event.kind) t.session) x
    ∙ ap (λ (q : Option ℕ). is_number q t.session) named.1
    ∙ eq-eqb named.0 t.session same ∙ sym x)
    (λ x. ap (λ b. b && is_number (named_session e.event.kind) t.session) x ∙ sym x)

-- and one that does not concern it is none
aborts-other :
    (o : Options) (past : List Entry) (e : Entry) (s : ℕ) (t : Ticket) →
    concerns o past e s ≡ false → t.session ≡ s → aborts t e ≡ false
aborts-other o past e s t c own =
    by_test (aborts t e)
    (λ x.
    let parts = and_parts (is_aborting e.decision) (is_number (named_session e.event.kind) t.session) x in
    let named : named_session e.event.kind ≡ Some s = number-is (named_session e.event.kind) t.session parts.1 ∙ ap Some own in
    absurd (true≢false (sym (one-own o past e s (named-one o past e s (aborting-plain e.decision parts.0) named)) ∙ c)))
    (λ x. x)
  where
    number-is : (n : Option ℕ) (m : ℕ) → is_number n m ≡ true → n ≡ Some m
    number-is None m h = cc
    number-is (Some k) m h = ap Some (eqb-true k m h)

-- an entry that aborts nothing leaves the mark as it was
unaborted : (t : Ticket) (n : ℕ) (e : Entry) (log : List Entry) → aborts t e ≡ false → was_aborted t n (e ∷ log) ≡ was_aborted t n log
unaborted t n e log h = ap (λ b. b && was_started t n log || was_aborted t n log) h

and-true : (b : Bool) → (b && true) ≡ b
and-true true = refl
and-true false = refl

-- a transfer that is carried once, or not yet, has not started before
record IsNew (o : Options) (log : List Entry) (t : Ticket) (l : Lane) : Type 0 where
  idle : is_running t l.running ≡ true → ⊥
  unsettled : 1 ≤ settle_count t log → ⊥

-- by what is known of all transfers
module _ (o : Options) (log : List Entry) (t : Ticket) (s : ℕ) (r : IsRight o log) (a : IsActed o log) (own : t.session ≡ s) where
  abbrev l : Lane
  l = lane (history o (past_of log) s)

  all : IsAccounted o (past_of log) t (settle_count t log) (queue_count t log)
  all = accounted o log t r a

  balance : carried t l + settle_count t log ≡ queue_count t log
  balance = subst (λ (q : ℕ). carried t (lane (history o (past_of log) q)) + settle_count t log ≡ queue_count t log) own all.balance

  -- one that waits is
  waiting-new : (p : Pending) → l.pending ≡ Some p → p.ticket ≡ t → IsNew o log t l
  waiting-new p there same =
      record {
        idle = λ runs. omega (arith, balance, all.once, ap one runs, ap one pends);
        unsettled = λ settled. omega (arith, balance, all.once, ap one pends, settled);
      }
    where
      pends : is_pending t l.pending ≡ true
      pends =
          ap (is_pending t) there
          ∙ ap (λ (u : Ticket). same_ticket u t) same ∙ same_ticket-refl t

  -- so is the next of a session
  next-new : ticket_count (history o (past_of log) s) < t.nr → IsNew o log t l
  next-new more =
      record {
        idle = λ runs. omega (arith, balance, none, ap one runs);
        unsettled = λ settled. omega (arith, balance, none, settled);
      }
    where
      by_number : (queue_count t log ≡ 0) ⊎ (t.nr ≤ ticket_count (history o (past_of log) t.session)) → queue_count t log ≡ 0
      by_number (inl x) = x
      by_number (inr x) =
          let few : t.nr ≤ ticket_count (history o (past_of log) s) = subst (λ (q : ℕ). t.nr ≤ ticket_count (history o (past_of log) q)) own x in
          absurd (omega (arith, few, more))

      none : queue_count t log ≡ 0
      none = by_number all.numbered

-- so no ABOR was to stop it
new-unaborted :
    (o : Options) (log : List Entry) (t : Ticket) (n s : ℕ) → IsRight o log → IsActed o log → t.session ≡ s →
    IsNew o log t (lane (history o (past_of log) s)) → was_aborted t n log ≡ false
new-unaborted o log t n s r a own fresh_one =
    by_test (was_aborted t n log) (λ x. absurd (started ((are-started o log r a).run t n (aborted-started t n log x)))) (λ x. x)
  where
    started : RunsOn o (past_of log) t n ⊎ (1 ≤ settle_count t log) → ⊥
    started (inr x) = fresh_one.unsettled x
    started (inl x) =
        let here : running_job o (past_of log) s ≡ Some x.0 = subst (λ (q : ℕ). running_job o (past_of log) q ≡ Some x.0) own x.1 in
        fresh_one.idle (ap (is_running t) here ∙ ap (λ (u : Ticket). same_ticket u t) x.2 ∙ same_ticket-refl t)

-- an entry about the session
marked-own :
    (o : Options) (log : List Entry) (e : Entry) (s : ℕ) → Comes o log e → IsActed o log →
    opens e s ≡ false → concerns o (past_of log) e s ≡ true →
    IsMarked o log (past_of log) s → IsMarked o (e ∷ log) (e ∷ past_of log) s
marked-own o log e s comes acted n c h r known = by_origin (runs-after (slot_move e.decision) number queued l was.0 was.1)
  where
    past : List Entry
    past = past_of log

    before : List Entry
    before = history o past s

    l : Lane
    l = lane before

    number : Option ℕ
    number = new_number e.event.kind e.decision

    queued : Option Pending
    queued = queued_in before e

    t : Ticket
    t = r.job.ticket

    m : ℕ
    m = r.job.number

    here : (lane (e ∷ before)).running ≡ Some r
    here = sym (ap (λ (x : List Entry). (lane x).running) (history-own o past e s n c)) ∙ known

    was : (i : Running) × ((lane_after e.event.kind e.decision queued l).running ≡ Some i) × IsSame i r × (r.marked ≡ (is_aborting e.decision || i.marked))
    was = kept-marked e.decision e.answer (lane_after e.event.kind e.decision queued l).running r here

    own : t.session ≡ s
    own = ((entry-sound o past e s comes.fit c (sound o log s comes.right)).counted.runs r here).0

    ticket : was.0.job.ticket ≡ t
    ticket = ap (λ (job : Job). job.ticket) was.2

    aborted : aborts t e ≡ is_aborting e.decision
    aborted = aborts-own o past e s t comes.fit c own

    -- it ran before
    ran : l.running ≡ Some was.0 → r.marked ≡ was_aborted t m (e ∷ log)
    ran x =
        let marked : was.0.marked ≡ was_aborted t m log = subst (λ (job : Job). was.0.marked ≡ was_aborted job.ticket job.number log) was.2 (h was.0 x) in
        let started : was_started t m log ≡ true = subst (λ (job : Job). was_started job.ticket job.number log ≡ true) was.2 ((are-started o log comes.right acted).started s was.0 x) in
        was.3 ∙ ap (λ b. is_aborting e.decision || b) marked
        ∙ sym (ap (λ b. b && was_started t m log || was_aborted t m log) aborted
        ∙ ap (λ b. is_aborting e.decision && b || was_aborted t m log) started
        ∙ ap (λ b. b || was_aborted t m log) (and-true (is_aborting e.decision)))

    -- it starts
    starts : is_aborting e.decision ≡ false → was.0.marked ≡ false → IsNew o log t l → r.marked ≡ was_aborted t m (e ∷ log)
    starts goes unmarked new =
        was.3 ∙ ap (λ b. b || was.0.marked) goes ∙ unmarked
        ∙ sym (unaborted t m e log (aborted ∙ goes) ∙ new-unaborted o log t m s comes.right acted own new)

    from : is_aborting e.decision ≡ false → StartsFrom l.pending was.0 ⊎ ((u : Ticket) × (slot_move e.decision ≡ Queues u) × StartsFrom queued was.0) → r.marked ≡ was_aborted t m (e ∷ log)
    from goes (inl x) = starts goes x.unmarked (waiting-new o log t s comes.right acted own x.from x.there (sym x.ticket ∙ ticket))
    from goes (inr x) =
        let f : StartsFrom queued was.0 = x.2 in
        let last = (queues-last o past e s x.0 comes.fit c x.1).1 f.from f.there in
        let next : ticket_count before < t.nr = subst (λ (u : Ticket). ticket_count before < u.nr) (sym f.ticket ∙ ticket) last.1 in
        starts goes f.unmarked (next-new o log t s comes.right acted own next)

    by_origin : (starts_by (slot_move e.decision) number queued l ≡ Some was.0) ⊎ (l.running ≡ Some was.0) → r.marked ≡ was_aborted t m (e ∷ log)
    by_origin (inl x) = from (starts-goes e.decision number queued l was.0 x) (starts-from (slot_move e.decision) number queued l was.0 x)
    by_origin (inr x) = ran x

-- in every right and acted log
is-marked : (o : Options) (log : List Entry) (s : ℕ) → IsRight o log → IsActed o log → IsMarked o log (past_of log) s
is-marked o log s r a =
    acted-past o (λ log past. IsMarked o log past s)
    (λ j x. let z : None ≡ Some j = x in cc)
    (λ log e none refused h j x.
    h j x
    ∙ sym (unaborted j.job.ticket j.job.number e log (ap (λ b. b && is_number (named_session e.event.kind) j.job.ticket.session) (refused-goes e.decision refused))))
    (λ log e comes acted done h.
    by_part o (past_of log) e s
    (λ n j x. let z : None ≡ Some j = sym (ap (λ (l : Lane). l.running) (lane-opened o (past_of log) e s n)) ∙ x in cc)
    (λ n c. marked-own o log e s comes acted n c h)
    (λ n c j x.
    let y : running_job o (past_of log) s ≡ Some j = sym (ap (λ (q : List Entry). (lane q).running) (history-other o (past_of log) e s n c)) ∙ x in
    h j y
    ∙ sym (unaborted j.job.ticket j.job.number e log (aborts-other o (past_of log) e s j.job.ticket c ((sound o log s comes.right).counted.runs j y).0))))
    log r a

-- the job that runs is marked where an ABOR of its session came after its start
pub marked-aborted :
    (o : Options) (log : List Entry) (s : ℕ) (r : Running) → IsRight o log → IsActed o log →
    running_job o (past_of log) s ≡ Some r →
    r.marked ≡ was_aborted r.job.ticket r.job.number log
marked-aborted o log s r right acted known = is-marked o log s right acted r known
