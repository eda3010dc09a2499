-- What cancels a transfer.
use Rattle.std.proofs.Common.{◌≡◌, refl, sym, ◌∙◌, ap, subst, ℕ, ◌+◌, ◌≤◌, ◌||◌, Bool, true, false, cond, List, [], ◌∷◌, Option, Some, None, arith, eq-eqb, inl, inr, true≢false}
use Rattle.std.specs.Prelude.{◌⊎◌, ◌↔◌, count_by, IsSomeAnd}
use Rattle.std.specs.List.{list_any}
use Rattle.std.specs.Option.{option_and_then}
use Rattle.ftp_events.specs.declared.decision.Decision.TheVariants as decision
use Rattle.ftp_events.specs.declared.decision.SlotMove.TheVariants.{Empties, EmptiesWaiting, Awaits, Connects, Expires}
use Rattle.ftp_events.specs.Fate.{cancels, is_running}
use Rattle.ftp_laws.specs.Jobs.{is_cut}
use Rattle.ftp_events.specs.History.{Nobody, One, All}
use Rattle.ftp_laws.proofs.Common.{Subject, Options, Ticket, Action, Decision, Entry, EventKind, Running, Pending, Session, Slot, is_refusal, past_of, subject, concerns, history, slot_move, SlotMove, empties, drops, lane, session, running_job, acts, acts_of, completions, stays, slot_of, pending_in, starting, IsRight, IsActed, is_pending}
use Rattle.ftp_laws.proofs.SubjectLemmas.{one-concerns, stop-concerns, all-stop}
use Rattle.ftp_laws.specs.Fates.{may_cancel, can_cancel, LosesSlot, CutsIt}
use Rattle.ftp_laws.proofs.TicketLemmas.{same_ticket-equal}
use Rattle.ftp_laws.proofs.QuestionLemmas.{session-told}
use Rattle.ftp_laws.proofs.CountLemmas.{IsOnTransfers, count-about, count-nobody, count-completions, count-cuttings, CountsTest, counts-any}
use Rattle.ftp_laws.proofs.JobLemmas.{cut-is}
use Rattle.ftp_laws.proofs.Cases.{by_test}
use Rattle.ftp_laws.proofs.BalanceLemmas.{one, IsOnCancelled, count-start_acts, count-drop_acts-own}
use Rattle.ftp_laws.proofs.SoundLemmas.{sound}
use Rattle.ftp_laws.proofs.LiveLemmas.{live_sessions-ascending}
use Rattle.ftp_laws.proofs.PartLemmas.{count-concern}
use Rattle.ftp_laws.proofs.AccountLemmas.{stop-other}

-- what some item passes is counted
pub any-counted : (p : Action → Bool) (xs : List Action) → list_any p xs ≡ true → 1 ≤ count_by p xs
any-counted p xs h = go (counts-any p xs)
  where
    go : CountsTest (count_by p xs) (list_any p xs) → 1 ≤ count_by p xs
    go (inl x) = absurd (true≢false (sym h ∙ x.1))
    go (inr x) = x.0

-- what is counted some item passes
pub counted-any : (p : Action → Bool) (xs : List Action) → 1 ≤ count_by p xs → list_any p xs ≡ true
counted-any p xs h = go (counts-any p xs)
  where
    go : CountsTest (count_by p xs) (list_any p xs) → list_any p xs ≡ true
    go (inl x) = absurd (omega (arith, h, x.0))
    go (inr x) = x.1

-- the test on cancellations is one on transfers
pub cancels-on-transfers : (t : Ticket) (s : ℕ) → IsOnTransfers s (cancels t)
cancels-on-transfers t s = record { closes = λ m. refl; notifies = λ meta what. refl; replies = λ delay r. refl }

-- a start cancels nothing, while the transfer in a slot that is dropped is cancelled
pub cancels-on-cancelled : (t : Ticket) → IsOnCancelled t (cancels t)
cancels-on-cancelled t = record { plain = cancels-on-transfers t; cancelled = λ u. refl; started = λ u n. refl }

-- a completion cancels nothing, and a cut the transfer that ran
cancels-completions :
    (t : Ticket) (s : ℕ) (k : EventKind) (d : Decision) (b : Bool) (job : Option Running) →
    count_by (cancels t) (completions s k d b job) ≡ cond (is_cut d) (one (is_running t job)) 0
cancels-completions t s k d b job =
    by_test (is_cut d) (λ n. rw (cut-is d n) (go job))
    (λ n.
    count-completions (cancels t) s k d b job (cancels-on-transfers t s) (λ ticket k. refl) (λ r x y. absurd (true≢false (sym (ap is_cut y) ∙ n)))
    ∙ sym (ap (λ c. cond c (one (is_running t job)) 0) n))
  where
    go : (job : Option Running) → count_by (cancels t) (completions s k decision.Cut b job) ≡ one (is_running t job)
    go None = refl
    go (Some r) = count-cuttings (cancels t) s b r (cancels-on-transfers t s)

-- an entry about a session cancels the transfer in its slot, where it drops that, and the one that runs, where it cuts that
pub cancels-about :
    (o : Options) (past : List Entry) (e : Entry) (t : Ticket) (s : ℕ) →
    is_refusal e.decision ≡ false →
    e.actions ≡ acts_of o past e →
    subject o past e ≡ One s →
    count_by (cancels t) e.actions
    ≡ cond (drops e.decision (slot_of (session o past s))) (one (is_pending t (pending_in (session o past s)))) 0
    + cond (is_cut e.decision) (one (is_running t (running_job o past s))) 0
cancels-about o past e t s counts acted about =
    let v : Option Session = session o past s in
    omega (
      arith,
      count-about (cancels t) o past e s (cancels-on-transfers t s) counts acted about,
      cancels-completions t s e.event.kind e.decision (stays e.decision v) (running_job o past s),
      count-drop_acts-own t (cancels t) s (stays e.decision v) e.decision (slot_of v) (pending_in v) (cancels-on-cancelled t),
      count-start_acts t (cancels t) (option_and_then (starting e.event.kind e.decision (running_job o past s)) v) (cancels-on-cancelled t),
    )

-- so does an entry that concerns the transfer's session, also one that concerns every session
cancels-here :
    (o : Options) (log : List Entry) (e : Entry) (t : Ticket) → IsRight o log →
    is_refusal e.decision ≡ false →
    e.actions ≡ acts_of o (past_of log) e →
    concerns o (past_of log) e t.session ≡ true →
    count_by (cancels t) e.actions
    ≡ cond (drops e.decision (slot_of (session o (past_of log) t.session))) (one (is_pending t (pending_in (session o (past_of log) t.session)))) 0
    + cond (is_cut e.decision) (one (is_running t (running_job o (past_of log) t.session))) 0
cancels-here o log e t r counts acted c =
    let past : List Entry = past_of log in
    let s : ℕ = t.session in
    let v : Option Session = session o past s in
    omega (
      arith,
      count-concern o past e counts acted (cancels t) s (cancels-on-transfers t s) c (live_sessions-ascending o log r)
          (λ about q n. stop-other (cancels t) o past e t q counts acted (cancels-on-cancelled t) about (sound o log q r) n),
      cancels-completions t s e.event.kind e.decision (stays e.decision v) (running_job o past s),
      count-drop_acts-own t (cancels t) s (stays e.decision v) e.decision (slot_of v) (pending_in v) (cancels-on-cancelled t),
      count-start_acts t (cancels t) (option_and_then (starting e.event.kind e.decision (running_job o past s)) v) (cancels-on-cancelled t),
    )

-- where something is lost in one of two ways, that way was gone and had it
lost-either : (a x b y : Bool) → 1 ≤ cond a (one x) 0 + cond b (one y) 0 → ((a ≡ true) × (x ≡ true)) ⊎ ((b ≡ true) × (y ≡ true))
lost-either true true b y h = inl (refl, refl)
lost-either true false true true h = inr (refl, refl)
lost-either true false true false h = absurd (omega (arith, h))
lost-either true false false y h = absurd (omega (arith, h))
lost-either false x true true h = inr (refl, refl)
lost-either false x true false h = absurd (omega (arith, h))
lost-either false x false y h = absurd (omega (arith, h))

-- only the moves that can cancel drop a slot
pub drops-cancels : (m : SlotMove) (slot : Slot) → empties m slot ≡ true → may_cancel m ≡ true
drops-cancels (Awaits port) slot h = refl
drops-cancels Connects slot h = refl
drops-cancels Expires slot h = refl
drops-cancels EmptiesWaiting slot h = refl
drops-cancels Empties slot h = refl
drops-cancels m slot h = cc

-- and none of them is a refusal
pub drops-counts : (d : Decision) (slot : Slot) → drops d slot ≡ true → is_refusal d ≡ false
drops-counts decision.UnknownNumber slot h = cc
drops-counts decision.UsedNumber slot h = cc
drops-counts decision.Misplaced slot h = cc
drops-counts decision.NotExpected slot h = cc
drops-counts d slot h = refl

-- a transfer that waits in a live session's slot is one of that session
pub pending-owned :
    (o : Options) (log : List Entry) (s : ℕ) (v : Session) (t : Ticket) →
    IsRight o log → session o (past_of log) s ≡ Some v →
    is_pending t v.pending ≡ true → s ≡ t.session
pending-owned o log s v t r known waits = go v.pending refl waits
  where
    go : (p : Option Pending) → v.pending ≡ p → is_pending t p ≡ true → s ≡ t.session
    go None y w = cc
    go (Some p) y w =
        let same : (lane (history o (past_of log) s)).pending ≡ Some p = ap (λ (u : Session). u.pending) (session-told o (past_of log) s v known).told ∙ y in
        sym ((sound o log s r).counted.waits p same).0 ∙ ap (λ (u : Ticket). u.session) (same_ticket-equal p.ticket t w)

-- the session loses the slot in which the transfer waits
abbrev pub IsLost : Entry → Ticket → Option Session → Type 0
IsLost e t known =
    IsSomeAnd known (λ v. (drops e.decision v.slot ≡ true) × (is_pending t v.pending ≡ true))

-- a transfer that runs for a session is one of that session
pub running-owned :
    (o : Options) (log : List Entry) (s : ℕ) (t : Ticket) →
    IsRight o log → is_running t (running_job o (past_of log) s) ≡ true → s ≡ t.session
running-owned o log s t r runs = go (running_job o (past_of log) s) refl runs
  where
    go : (j : Option Running) → running_job o (past_of log) s ≡ j → is_running t j ≡ true → s ≡ t.session
    go None y w = cc
    go (Some j) y w = sym ((sound o log s r).counted.runs j y).0 ∙ ap (λ (u : Ticket). u.session) (same_ticket-equal j.job.ticket t w)

-- where a transfer is cancelled, its session loses the slot in which it waits, or it runs and is cut
pub cancelled-loses :
    (o : Options) (log : List Entry) (e : Entry) (t : Ticket) →
    IsRight o (e ∷ log) → IsActed o (e ∷ log) →
    list_any (cancels t) e.actions ≡ true →
    LosesSlot o (past_of log) e t ⊎ CutsIt o (past_of log) e t
unfolding acts
cancelled-loses o log e t r a h = by_refusal (is_refusal e.decision) refl
  where
    past : List Entry
    past = past_of log

    counted : 1 ≤ count_by (cancels t) e.actions
    counted = any-counted (cancels t) e.actions h

    by_session :
        (s : ℕ) → subject o (past_of log) e ≡ One s →
        (v : Option Session) →
        session o (past_of log) s ≡ v →
        (drops e.decision (slot_of v) ≡ true) × (is_pending t (pending_in v) ≡ true) →
        LosesSlot o (past_of log) e t
    by_session s x None y l = let z : false ≡ true = l.1 in cc
    by_session s x (Some v) y l =
        let own : s ≡ t.session = pending-owned o log s v t r.0 y l.1 in
        let known : session o past t.session ≡ Some v = subst (λ (n : ℕ). session o past n ≡ Some v) own y in
        (one-concerns o past e s t.session x ∙ eq-eqb s t.session own, subst (IsLost e t) (sym known) l)

    by_known :
        (v : Option Session) → session o (past_of log) t.session ≡ v →
        concerns o (past_of log) e t.session ≡ true →
        (drops e.decision (slot_of v) ≡ true) × (is_pending t (pending_in v) ≡ true) →
        LosesSlot o (past_of log) e t
    by_known None y c l = let z : false ≡ true = l.1 in cc
    by_known (Some v) y c l = (c, subst (IsLost e t) (sym y) l)

    -- of an entry about this session
    about :
        (s : ℕ) → subject o (past_of log) e ≡ One s →
        ((drops e.decision (slot_of (session o (past_of log) s)) ≡ true) × (is_pending t (pending_in (session o (past_of log) s)) ≡ true))
        ⊎ ((is_cut e.decision ≡ true) × (is_running t (running_job o (past_of log) s) ≡ true)) →
        LosesSlot o (past_of log) e t ⊎ CutsIt o (past_of log) e t
    about s x (inl l) = inl (by_session s x (session o past s) refl l)
    about s x (inr l) =
        let own : s ≡ t.session = running-owned o log s t r.0 l.1 in
        inr (cut-is e.decision l.0, one-concerns o past e s t.session x ∙ eq-eqb s t.session own, subst (λ (n : ℕ). is_running t (running_job o past n) ≡ true) own l.1)

    here :
        concerns o (past_of log) e t.session ≡ true →
        ((drops e.decision (slot_of (session o (past_of log) t.session)) ≡ true) × (is_pending t (pending_in (session o (past_of log) t.session)) ≡ true))
        ⊎ ((is_cut e.decision ≡ true) × (is_running t (running_job o (past_of log) t.session) ≡ true)) →
        LosesSlot o (past_of log) e t ⊎ CutsIt o (past_of log) e t
    here c (inl l) = inl (by_known (session o past t.session) refl c l)
    here c (inr l) = inr (cut-is e.decision l.0, c, l.1)

    by_subject :
        is_refusal e.decision ≡ false → (s : Subject) →
        subject o (past_of log) e ≡ s →
        LosesSlot o (past_of log) e t ⊎ CutsIt o (past_of log) e t
    by_subject counts All x =
        let v : Option Session = session o past t.session in
        let c : concerns o past e t.session ≡ true = stop-concerns o past e t.session (all-stop o past e x) in
        here c
        (lost-either (drops e.decision (slot_of v)) (is_pending t (pending_in v)) (is_cut e.decision) (is_running t (running_job o past t.session))
        (omega (arith, counted, cancels-here o log e t r.0 counts a.1 c)))
    by_subject counts Nobody x = absurd (omega (arith, counted, count-nobody (cancels t) o past e (λ m. refl) a.1 x))
    by_subject counts (One s) x =
        let v : Option Session = session o past s in
        about s x
        (lost-either (drops e.decision (slot_of v)) (is_pending t (pending_in v)) (is_cut e.decision) (is_running t (running_job o past s))
        (omega (arith, counted, cancels-about o past e t s counts a.1 x)))

    by_refusal :
        (b : Bool) → is_refusal e.decision ≡ b →
        LosesSlot o (past_of log) e t ⊎ CutsIt o (past_of log) e t
    by_refusal false x = by_subject x (subject o past e) refl
    by_refusal true x =
        let none : e.actions ≡ [] = a.1 ∙ rw x refl in
        let z : false ≡ true = sym (ap (λ (xs : List Action). list_any (cancels t) xs) none) ∙ h in
        cc

-- where it loses that, or is cut, the transfer is cancelled
pub loses-cancelled :
    (o : Options) (log : List Entry) (e : Entry) (t : Ticket) →
    IsRight o log → IsActed o (e ∷ log) → LosesSlot o (past_of log) e t ⊎ CutsIt o (past_of log) e t →
    list_any (cancels t) e.actions ≡ true
unfolding acts
loses-cancelled o log e t r a (inl l) = by_session (session o past t.session) refl l.1
  where
    past : List Entry
    past = past_of log

    by_session :
        (v : Option Session) →
        session o (past_of log) t.session ≡ v →
        IsLost e t v →
        list_any (cancels t) e.actions ≡ true
    by_session None y m = absurd m
    by_session (Some v) y m =
        let count = cancels-here o log e t r (drops-counts e.decision v.slot m.0) a.1 l.0 in
        let lost : cond (drops e.decision (slot_of (session o past t.session))) (one (is_pending t (pending_in (session o past t.session)))) 0 ≡ 1 = rw (y, m.0, m.1) refl in
        counted-any (cancels t) e.actions (omega (arith, count, lost))
loses-cancelled o log e t r a (inr (d, c, runs)) =
    let count = cancels-here o log e t r (rw d refl) a.1 c in
    let cut : cond (is_cut e.decision) (one (is_running t (running_job o (past_of log) t.session))) 0 ≡ 1 = rw (d, runs) refl in
    counted-any (cancels t) e.actions (omega (arith, count, cut))

-- so a transfer is cancelled exactly where its session loses the slot in which it waits, or it is cut
pub cancelled-with-slot :
    (o : Options) (log : List Entry) (e : Entry) (t : Ticket) →
    IsRight o (e ∷ log) → IsActed o (e ∷ log) →
    (list_any (cancels t) e.actions ≡ true) ↔ (LosesSlot o (past_of log) e t ⊎ CutsIt o (past_of log) e t)
cancelled-with-slot o log e t r a = (cancelled-loses o log e t r a, loses-cancelled o log e t r.0 a)

-- a transfer is cancelled by a decision that can, of an entry that concerns its session
pub cancelled-so :
    (o : Options) (log : List Entry) (e : Entry) (t : Ticket) →
    IsRight o (e ∷ log) → IsActed o (e ∷ log) →
    list_any (cancels t) e.actions ≡ true →
    (can_cancel e.decision ≡ true) × (concerns o (past_of log) e t.session ≡ true)
cancelled-so o log e t r a h = go (cancelled-loses o log e t r a h)
  where
    can : (v : Option Session) → IsLost e t v → can_cancel e.decision ≡ true
    can None m = absurd m
    can (Some v) m = ap (λ b. b || is_cut e.decision) (drops-cancels (slot_move e.decision) v.slot m.0)

    go : LosesSlot o (past_of log) e t ⊎ CutsIt o (past_of log) e t → (can_cancel e.decision ≡ true) × (concerns o (past_of log) e t.session ≡ true)
    go (inl l) = (can (session o (past_of log) t.session) l.1, l.0)
    go (inr c) = (rw c.0 refl, c.1)
