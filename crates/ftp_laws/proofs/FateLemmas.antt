-- Each transfer that was queued has one fate.
use Rattle.std.proofs.Common.{◌≡◌, refl, sym, ◌∙◌, ap, ap₂, subst, ℕ, ◌+◌, ◌≤◌, Bool, true, false, true≢false, ◌||◌, cond, List, [], ◌∷◌, length, Option, Some, None, arith, inl, inr}
use Rattle.std.specs.Prelude.{◌⊎◌, count_by, is_some}
use Rattle.std.specs.List.{list_any}
use Rattle.std.proofs.Math.Bool.{or_assoc, or-false}
use Rattle.std.specs.Option.{option_map_or}
use Rattle.std.proofs.lemmas.Bool.{or_parts}
use Rattle.ftp_events.specs.declared.decision.Decision.TheVariants as decision
use Rattle.ftp_events.specs.declared.session.Slot.TheVariants.{Empty, Waits, Linked}
use Rattle.ftp_events.specs.Place.{is_queued, ticket_count}
use Rattle.ftp_events.specs.Fate.{Fate, CompletedAt, CancelledAt, AwaitsConnection, AwaitsItsEnd, AwaitsEarlierEnd, completes, cancels, settlement, is_running, in_slot, wait, fate}
use Rattle.ftp_events.specs.Acts.{slot_of}
use Rattle.ftp_events.specs.Session.{live_sessions}
use Rattle.ftp_events.specs.History.{Nobody}
use Rattle.ftp_laws.proofs.Common.{Options, Ticket, Action, Decision, Entry, Pending, Session, Slot, is_number, is_refusal, past_of, is_used, new_number, subject, concerns, opens, history, Lane, lane_after, queued_in, lane, session, running_job, due, acts_of, stays, pending_in, IsRight, IsActed, is_pending, Running}
use Rattle.ftp_laws.specs.Census.{IsAscending}
use Rattle.ftp_laws.specs.Fates.{queues, was_queued, queue_count, settles, settle_count}
use Rattle.ftp_laws.proofs.TicketLemmas.{same_ticket-refl}
use Rattle.ftp_laws.proofs.ClassLemmas.{opened-is}
use Rattle.ftp_laws.proofs.QuestionLemmas.{history-other, history-own, lane-opened}
use Rattle.ftp_laws.proofs.HoldLemmas.{opened-fresh}
use Rattle.ftp_laws.proofs.LiveLemmas.{live_sessions-ascending}
use Rattle.ftp_laws.proofs.PortLemmas.{opened-nobody}
use Rattle.ftp_laws.proofs.LaneLemmas.{IsBare, ended-empty}
use Rattle.ftp_laws.proofs.CountLemmas.{count-nobody, CountsTest, counts-one, counts-or, counts-same, counts-any}
use Rattle.ftp_laws.proofs.KeptLemmas.{kept-is_running}
use Rattle.ftp_laws.proofs.BalanceLemmas.{one, carried, lane-balance}
use Rattle.ftp_laws.proofs.SoundLemmas.{IsSound, sound}
use Rattle.ftp_laws.proofs.AccountLemmas.{slot-told, IsNext, queues-next, entry-fit, settles-elsewhere, settles-here}
use Rattle.ftp_laws.proofs.EntryLemmas.{acted-past}
use Rattle.ftp_laws.proofs.Cases.{by_part}

-- a transfer that was queued once waits, runs or was settled once
pub record IsAccounted (o : Options) (past : List Entry) (t : Ticket) (settled queued : ℕ) : Type 0 where
  pub balance : carried t (lane (history o past t.session)) + settled ≡ queued
  pub fresh : is_used past t.session ≡ false → queued ≡ 0
  pub numbered : (queued ≡ 0) ⊎ (t.nr ≤ ticket_count (history o past t.session))
  pub once : queued ≤ 1

-- an opening queues nothing
pub opened-unqueued : (t : Ticket) (d : Decision) → d ≡ decision.Opened → queues t d ≡ false
opened-unqueued t d e = rw e refl

-- after the opening of its session a transfer was never queued
pub accounted-opened :
    (o : Options) (past : List Entry) (e : Entry) (t : Ticket) (settled queued : ℕ) →
    e.decision ≡ due o past e.event.at e.event.kind e.answer →
    e.actions ≡ acts_of o past e →
    opens e t.session ≡ true →
    IsAccounted o past t settled queued →
    IsAccounted o (e ∷ past) t (settled + count_by (settles t) e.actions) (queued + one (queues t e.decision))
accounted-opened o past e t settled queued fit acted n h =
    let s : ℕ = t.session in
    let d : e.decision ≡ decision.Opened = opened-is e.event.kind e.decision s n in
    let none : queued ≡ 0 = h.fresh (opened-fresh o past e s fit n) in
    let unqueued : one (queues t e.decision) ≡ 0 = ap one (opened-unqueued t e.decision d) in
    let about : subject o past e ≡ Nobody = opened-nobody o past e s fit n in
    let silent : count_by (settles t) e.actions ≡ 0 = count-nobody (settles t) o past e (λ m. refl) acted about in
    let empty : carried t (lane (history o (e ∷ past) s)) ≡ 0 = ap (carried t) (lane-opened o past e s n) in
    let sum : queued + one (queues t e.decision) ≡ 0 = omega (arith, none, unqueued) in
    record {
      balance = omega (arith, empty, h.balance, none, unqueued, silent);
      fresh = λ x. sum;
      numbered = inl sum;
      once = omega (arith, sum);
    }

-- an entry that concerns another session changes nothing of it
pub accounted-other :
    (o : Options) (past : List Entry) (e : Entry) (t : Ticket) (settled queued : ℕ) →
    e.decision ≡ due o past e.event.at e.event.kind e.answer →
    is_refusal e.decision ≡ false →
    e.actions ≡ acts_of o past e →
    opens e t.session ≡ false →
    concerns o past e t.session ≡ false →
    ((s : ℕ) → IsSound s (history o past s)) →
    IsAccounted o past t settled queued →
    IsAccounted o (e ∷ past) t (settled + count_by (settles t) e.actions) (queued + one (queues t e.decision))
accounted-other o past e t settled queued fit counts acted n c own h =
    let s : ℕ = t.session in
    let same : history o (e ∷ past) s ≡ history o past s = history-other o past e s n c in
    let silent : count_by (settles t) e.actions ≡ 0 = settles-elsewhere o past e t counts acted c own in
    let unqueued : one (queues t e.decision) ≡ 0 = ap one (elsewhere (queues t e.decision) refl) in
    let kept : carried t (lane (history o (e ∷ past) s)) ≡ carried t (lane (history o past s)) = ap (λ (x : List Entry). carried t (lane x)) same in
    record {
      balance = omega (arith, kept, h.balance, unqueued, silent);
      fresh = λ x. omega (arith, unqueued, h.fresh (or_parts (is_number (new_number e.event.kind e.decision) s) (is_used past s) x).1);
      numbered = numbers unqueued h.numbered;
      once = omega (arith, unqueued, h.once);
    }
  where
    elsewhere : (b : Bool) → queues t e.decision ≡ b → b ≡ false
    elsewhere false x = refl
    elsewhere true x = sym (queues-next o past e t fit x).concerned ∙ c

    numbers :
        one (queues t e.decision) ≡ 0 →
        (queued ≡ 0) ⊎ (t.nr ≤ ticket_count (history o past t.session)) →
        (queued + one (queues t e.decision) ≡ 0) ⊎ (t.nr ≤ ticket_count (history o (e ∷ past) t.session))
    numbers u (inl x) = inl (omega (arith, u, x))
    numbers u (inr x) = inr (subst (λ (l : List Entry). t.nr ≤ ticket_count l) (sym (history-other o past e t.session n c)) x)

-- an entry that concerns its session moves it on
pub accounted-own :
    (o : Options) (past : List Entry) (e : Entry) (t : Ticket) (settled queued : ℕ) →
    e.decision ≡ due o past e.event.at e.event.kind e.answer →
    is_refusal e.decision ≡ false →
    e.actions ≡ acts_of o past e →
    opens e t.session ≡ false →
    concerns o past e t.session ≡ true →
    (session o past t.session ≡ None → IsBare (lane (history o past t.session))) →
    ((s : ℕ) → IsSound s (history o past s)) →
    IsAscending (live_sessions o past) →
    IsAccounted o past t settled queued →
    IsAccounted o (e ∷ past) t (settled + count_by (settles t) e.actions) (queued + one (queues t e.decision))
accounted-own o past e t settled queued fit counts acted n c bare own ascends h =
    record {
      balance = omega (
        arith,
        h.balance,
        ap (λ (x : List Entry). carried t (lane x)) longer ∙ ap (λ (b : Bool). one b + one (is_pending t (lane_after e.event.kind e.decision (queued_in (history o past t.session) e) (lane (history o past t.session))).pending)) (kept-is_running t e.decision e.answer (lane_after e.event.kind e.decision (queued_in (history o past t.session) e) (lane (history o past t.session))).running),
        settles-here o past e t counts acted c bare own ascends,
        lane-balance t t.session (stays e.decision (session o past t.session)) e.event.kind e.decision (queued_in (history o past t.session) e) (lane (history o past t.session)) (entry-fit o past e t.session fit c),
      );
      fresh = λ x. unused (or_parts (is_number (new_number e.event.kind e.decision) t.session) (is_used past t.session) x).1 (queues t e.decision) refl;
      numbered = numbers (queues t e.decision) refl h.numbered;
      once = single (queues t e.decision) refl h.numbered;
    }
  where
    longer : history o (e ∷ past) t.session ≡ e ∷ history o past t.session
    longer = history-own o past e t.session n c

    counted : ticket_count (history o (e ∷ past) t.session) ≡ ticket_count (history o past t.session) + one (is_queued e.decision)
    counted = ap ticket_count longer

    unused :
        is_used past t.session ≡ false → (b : Bool) →
        queues t e.decision ≡ b → queued + one b ≡ 0
    unused x false y = omega (arith, h.fresh x)
    unused x true y = absurd (true≢false (sym (queues-next o past e t fit y).used ∙ x))

    numbers :
        (b : Bool) → queues t e.decision ≡ b →
        (queued ≡ 0) ⊎ (t.nr ≤ ticket_count (history o past t.session)) →
        (queued + one b ≡ 0) ⊎ (t.nr ≤ ticket_count (history o (e ∷ past) t.session))
    numbers true y x =
        let next : IsNext o past e t = queues-next o past e t fit y in
        inr (omega (arith, counted, ap one next.queued, next.count))
    numbers false y (inl x) = inl (omega (arith, x))
    numbers false y (inr x) = inr (omega (arith, counted, x))

    single :
        (b : Bool) → queues t e.decision ≡ b →
        (queued ≡ 0) ⊎ (t.nr ≤ ticket_count (history o past t.session)) →
        queued + one b ≤ 1
    single false y x = omega (arith, h.once)
    single true y (inl x) = omega (arith, x)
    single true y (inr x) = omega (arith, x, (queues-next o past e t fit y).count)

-- a refusal queues nothing
pub refused-unqueued :
    (t : Ticket) (d : Decision) → is_refusal d ≡ true →
    queues t d ≡ false
refused-unqueued t (decision.Queued ticket) r = cc
refused-unqueued t d r = refl

-- in every right and acted log each transfer is accounted for
pub accounted :
    (o : Options) (log : List Entry) (t : Ticket) →
    IsRight o log → IsActed o log →
    IsAccounted o (past_of log) t (settle_count t log) (queue_count t log)
accounted o log t r a =
    acted-past o (λ log past. IsAccounted o past t (settle_count t log) (queue_count t log))
    (record { balance = refl; fresh = λ x. refl; numbered = inl refl; once = omega arith })
    (λ log e none refused h.
    let settled : settle_count t log ≡ settle_count t (e ∷ log) = omega (arith, ap (count_by (settles t)) none) in
    let queued : queue_count t log ≡ queue_count t (e ∷ log) = omega (arith, ap one (refused-unqueued t e.decision refused)) in
    subst (IsAccounted o (past_of log) t (settle_count t (e ∷ log))) queued (subst (λ (n : ℕ). IsAccounted o (past_of log) t n (queue_count t log)) settled h))
    (λ log e comes a acted h.
    by_part o (past_of log) e t.session
    (λ n. accounted-opened o (past_of log) e t (settle_count t log) (queue_count t log) comes.fit acted n h)
    (λ n c. accounted-own o (past_of log) e t (settle_count t log) (queue_count t log) comes.fit comes.counts acted n c (ended-empty o log t.session comes.right) (λ s. sound o log s comes.right) (live_sessions-ascending o log comes.right) h)
    (λ n c. accounted-other o (past_of log) e t (settle_count t log) (queue_count t log) comes.fit comes.counts acted n c (λ s. sound o log s comes.right) h)) log r a

-- a test that one of two holds is passed in a list where one of both is
any-or : (p q : Action → Bool) (xs : List Action) → list_any (λ x. p x || q x) xs ≡ (list_any p xs || list_any q xs)
any-or p q [] = refl
any-or p q (x ∷ xs) = rw (any-or p q xs) (regroup (p x) (q x) (list_any p xs) (list_any q xs))
  where
    regroup : (a b c d : Bool) → ((a || b) || (c || d)) ≡ ((a || c) || (b || d))
    regroup true b c d = refl
    regroup false true true d = refl
    regroup false true false d = refl
    regroup false false c d = refl

-- a value in one of two cases, or what is there otherwise
some-either : (b : Bool) (x : Fate) (others : Option Fate) → is_some (cond b (Some x) others) ≡ (b || is_some others)
some-either true x others = refl
some-either false x others = refl

-- the log counts how often it settled the transfer where it did
settled-counts : (t : Ticket) (log : List Entry) → CountsTest (settle_count t log) (is_some (settlement log t))
settled-counts t [] = inl (refl, refl)
settled-counts t (e ∷ log) =
    subst (CountsTest (settle_count t (e ∷ log))) (sym more)
    (counts-or (settle_count t (e ∷ log)) (count_by (settles t) e.actions) (settle_count t log) _ _ (omega arith) (counts-any (settles t) e.actions) (settled-counts t log))
  where
    more : is_some (settlement (e ∷ log) t) ≡ (list_any (settles t) e.actions || is_some (settlement log t))
    more =
        some-either (list_any (completes t) e.actions) (CompletedAt (length log)) _
        ∙ ap (λ b. list_any (completes t) e.actions || b) (some-either (list_any (cancels t) e.actions) (CancelledAt (length log)) (settlement log t))
        ∙ sym (or_assoc (list_any (completes t) e.actions) (list_any (cancels t) e.actions) (is_some (settlement log t)))
        ∙ ap (λ b. b || is_some (settlement log t)) (sym (any-or (completes t) (cancels t) e.actions))

-- and how often it queued it
queued-counts : (t : Ticket) (log : List Entry) → CountsTest (queue_count t log) (was_queued t log)
queued-counts t [] = inl (refl, refl)
queued-counts t (e ∷ log) =
    counts-or (queue_count t (e ∷ log)) (one (queues t e.decision)) (queue_count t log) _ _ (omega arith) (counts-one (queues t e.decision)) (queued-counts t log)

-- a transfer waits in a slot that is not empty where it is the one in it
in_slot-some :
    (t : Ticket) (slot : Slot) (pending : Option Pending) → (slot ≡ Empty → pending ≡ None) →
    is_some (in_slot t slot pending) ≡ is_pending t pending
in_slot-some t Empty pending h = rw (h refl) refl
in_slot-some t (Waits port) pending h = some-either (is_pending t pending) AwaitsConnection None ∙ or-false (is_pending t pending)
in_slot-some t (Linked n) pending h = some-either (is_pending t pending) AwaitsEarlierEnd None ∙ or-false (is_pending t pending)

-- what waits or runs is counted
wait-counts :
    (o : Options) (log : List Entry) (t : Ticket) → IsRight o log →
    CountsTest (carried t (lane (history o (past_of log) t.session))) (is_some (wait o (past_of log) t))
wait-counts o log t r =
    subst (CountsTest (carried t l)) (sym either)
    (counts-or (carried t l) (one (is_running t l.running)) (one (is_pending t l.pending)) _ _ refl (counts-one (is_running t l.running)) (counts-one (is_pending t l.pending)))
  where
    l : Lane
    l = lane (history o (past_of log) t.session)

    in_view : (v : Option Session) → option_map_or (λ v. in_slot t v.slot v.pending) v None ≡ in_slot t (slot_of v) (pending_in v)
    in_view None = refl
    in_view (Some v) = refl

    either : is_some (wait o (past_of log) t) ≡ (is_running t l.running || is_pending t l.pending)
    either =
        let told = slot-told o (past_of log) t.session (ended-empty o log t.session r) in
        some-either (is_running t l.running) AwaitsItsEnd _
        ∙ ap (λ (f : Option Fate). is_running t l.running || is_some f) (in_view (session o (past_of log) t.session) ∙ ap₂ (in_slot t) told.0 told.1)
        ∙ ap (λ b. is_running t l.running || b) (in_slot-some t l.slot l.pending (sound o log t.session r).placed)

-- what the log says of a transfer, together
abbrev pub HasFate : Options → List Entry → Ticket → Type 0
HasFate o log t =
    (is_some (fate o log t) ≡ was_queued t log) × (is_some (settlement log t) ≡ true → wait o (past_of log) t ≡ None)

-- a transfer has a fate where it was queued, and waits for nothing where it was settled
pub fate-had :
    (o : Options) (log : List Entry) (t : Ticket) →
    IsRight o log → IsActed o log → HasFate o log t
fate-had o log t r a = (by_settlement (settlement log t) ∙ counts-same (queue_count t log) _ _ all (queued-counts t log), alone)
  where
    h : IsAccounted o (past_of log) t (settle_count t log) (queue_count t log)
    h = accounted o log t r a

    all : CountsTest (queue_count t log) (is_some (settlement log t) || is_some (wait o (past_of log) t))
    all = counts-or (queue_count t log) (settle_count t log) (carried t (lane (history o (past_of log) t.session))) _ _ (omega (arith, h.balance)) (settled-counts t log) (wait-counts o log t r)

    by_settlement : (f : Option Fate) → is_some (option_map_or Some f (wait o (past_of log) t)) ≡ (is_some f || is_some (wait o (past_of log) t))
    by_settlement None = refl
    by_settlement (Some f) = refl

    nothing : (n m : ℕ) (f g : Option Fate) → n + m ≤ 1 → CountsTest n (is_some f) → CountsTest m (is_some g) → is_some f ≡ true → g ≡ None
    nothing n m f None le x y s = refl
    nothing n m f (Some g) le (inl x) y s = absurd (true≢false (sym s ∙ x.1))
    nothing n m f (Some g) le (inr x) (inl y) s = absurd (true≢false y.1)
    nothing n m f (Some g) le (inr x) (inr y) s = absurd (omega (arith, le, x.0, y.0))

    alone : is_some (settlement log t) ≡ true → wait o (past_of log) t ≡ None
    alone = nothing (settle_count t log) _ (settlement log t) _ (omega (arith, h.balance, h.once)) (settled-counts t log) (wait-counts o log t r)

-- no transfer is settled twice
pub settled-once :
    (o : Options) (log : List Entry) (t : Ticket) →
    IsRight o log → IsActed o log → settle_count t log ≤ 1
settled-once o log t r a =
    let h : IsAccounted o (past_of log) t (settle_count t log) (queue_count t log) = accounted o log t r a in
    omega (arith, h.balance, h.once)

-- a transfer that runs is in no slot
pub running-unslotted :
    (o : Options) (log : List Entry) (t : Ticket) →
    IsRight o log → IsActed o log →
    is_running t (running_job o (past_of log) t.session) ≡ true →
    is_pending t (pending_in (session o (past_of log) t.session)) ≡ false
running-unslotted o log t r a runs =
    let told = slot-told o (past_of log) t.session (ended-empty o log t.session r) in
    go (is_pending t (pending_in (session o (past_of log) t.session))) (sym (ap (is_pending t) told.1))
  where
    go : (b : Bool) → is_pending t (lane (history o (past_of log) t.session)).pending ≡ b → b ≡ false
    go false x = refl
    go true x =
        let known = accounted o log t r a in
        absurd (omega (arith, known.balance, known.once, ap one runs, ap one x))

-- no transfer is queued twice
pub queued-once : (o : Options) (log : List Entry) (t : Ticket) → IsRight o log → IsActed o log → queue_count t log ≤ 1
queued-once o log t r a = (accounted o log t r a).once

-- a transfer that runs is one of its session, and is carried there
pub running-carried :
    (o : Options) (log : List Entry) (s : ℕ) (run : Running) → IsRight o log →
    running_job o (past_of log) s ≡ Some run →
    1 ≤ carried run.job.ticket (lane (history o (past_of log) run.job.ticket.session))
running-carried o log s run r known =
    let t : Ticket = run.job.ticket in
    let own : t.session ≡ s = ((sound o log s r).counted.runs run known).0 in
    let here : running_job o (past_of log) t.session ≡ Some run = subst (λ (n : ℕ). running_job o (past_of log) n ≡ Some run) (sym own) known in
    omega (arith, ap (λ (j : Option Running). one (is_running t j)) here, ap one (same_ticket-refl t))

-- it was queued, and is not settled
pub running-unsettled :
    (o : Options) (log : List Entry) (s : ℕ) (run : Running) → IsRight o log → IsActed o log →
    running_job o (past_of log) s ≡ Some run →
    (was_queued run.job.ticket log ≡ true) × (settlement log run.job.ticket ≡ None)
running-unsettled o log s run r a known =
    let t : Ticket = run.job.ticket in
    let h : IsAccounted o (past_of log) t (settle_count t log) (queue_count t log) = accounted o log t r a in
    let runs = running-carried o log s run r known in (
      queued (queued-counts t log) (omega (arith, h.balance, runs)),
      unsettled (settlement log t) (settled-counts t log) (omega (arith, h.balance, h.once, runs)),
    )
  where
    queued : {n : ℕ} {b : Bool} → CountsTest n b → 1 ≤ n → b ≡ true
    queued (inl x) le = absurd (omega (arith, x.0, le))
    queued (inr x) le = x.1

    unsettled : {n : ℕ} (f : Option Fate) → CountsTest n (is_some f) → n ≡ 0 → f ≡ None
    unsettled None x zero = refl
    unsettled (Some f) (inl x) zero = absurd (true≢false x.1)
    unsettled (Some f) (inr x) zero = absurd (omega (arith, x.0, zero))
