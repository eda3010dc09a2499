-- A link takes one job at most.
use Rattle.std.proofs.Common.{◌≡◌, refl, sym, ◌∙◌, ap, subst, ℕ, ◌+◌, ◌≤◌, Bool, true, false, true≢false, cond, List, ◌∷◌, Option, Some, None, arith, eqb-true, eq-eqb, inl, inr}
use Rattle.std.specs.Prelude.{◌⊎◌, ◌==◌, count_by}
use Rattle.std.specs.Option.{option_map_or, option_and_then}
use Rattle.std.proofs.lemmas.Bool.{or_right, or_parts}
use Rattle.ftp_events.specs.declared.decision.SlotMove.TheVariants.{Awaits, Connects, Links, Queues, Finishes}
use Rattle.ftp_events.specs.declared.session.Slot.TheVariants.{Empty, Waits, Linked}
use Rattle.ftp_events.specs.Classes.{is_stop}
use Rattle.ftp_events.specs.Slot.{startable, started_by}
use Rattle.ftp_events.specs.History.{Nobody, One, All}
use Rattle.ftp_laws.proofs.Common.{Subject, SlotMove, slot_move, empties, moved, starts_by, Options, Running, Decision, Entry, Pending, Session, Slot, is_number, is_refusal, past_of, is_used, new_number, subject, concerns, opens, history, Lane, with_link, lane_of, queued_in, lane, session, running_job, due, acts_of, link_in, start_acts, starting, IsRight, IsActed}
use Rattle.ftp_laws.proofs.SubjectLemmas.{concerned, one-own, one-same}
use Rattle.ftp_laws.specs.Links.{starts_on, start_count}
use Rattle.ftp_laws.proofs.ClassLemmas.{opened-is, stop-is}
use Rattle.ftp_laws.proofs.PartLemmas.{count-stop-idle}
use Rattle.ftp_laws.proofs.DecisionLemmas.{new-unused}
use Rattle.ftp_laws.proofs.QuestionLemmas.{history-other, history-own, session-told}
use Rattle.ftp_laws.proofs.CountLemmas.{IsOnStarts, count-starts, count-nobody}
use Rattle.ftp_laws.proofs.EntryLemmas.{acted-past}
use Rattle.ftp_laws.proofs.Cases.{by_test, by_part}

-- the moves by a connection that is attached, or taken for a PORT
abbrev pub links : SlotMove → Bool
links Links = true
links Connects = true
links _ = false

-- a data connection is attached, or taken
abbrev pub is_attached : Decision → Bool
is_attached d = links (slot_move d)

-- which no stop is
attached-plain : (d : Decision) → is_attached d ≡ true → is_stop d ≡ false
attached-plain d a =
    by_test (is_stop d)
    (λ n. let z : false ≡ true = sym (ap is_attached (stop-is d n)) ∙ a in cc)
    (λ n. n)

-- the link n is in the slot, or comes for it
abbrev pub Brings : SlotMove → Option ℕ → Slot → ℕ → Type 0
Brings m number slot n =
    (link_in slot ≡ Some n) ⊎ ((links m ≡ true) × (number ≡ Some n))

-- what a link comes for has it, or had one
pub with_link-brings :
    (m : SlotMove) (number : Option ℕ) (slot : Slot) (n : ℕ) →
    links m ≡ true →
    link_in (with_link slot number) ≡ Some n →
    Brings m number slot n
with_link-brings m (Some number) (Waits port) n a h = inr (a, h)
with_link-brings m None (Waits port) n a h = cc
with_link-brings m number Empty n a h = cc
with_link-brings m number (Linked x) n a h = inl h

-- a job that can start, by its slot and the job that runs: it has the slot's link and leaves none, and it is the only one
pub record IsStart (slot : Slot) (pending : Option Pending) (running : Option Running) (j : Running) : Type 0 where
  pub link : link_in slot ≡ Some j.job.number
  pub leaves : link_in (lane_of slot pending running).slot ≡ None
  pub idle : running ≡ None

pub startable-is :
    (slot : Slot) (pending : Option Pending) (running : Option Running) (j : Running) →
    startable slot pending running ≡ Some j → IsStart slot pending running j
startable-is (Linked n) (Some p) None j e =
    record { link = ap (λ (x : Option Running). option_map_or (λ y. Some y.job.number) x None) e; leaves = refl; idle = refl }
startable-is (Linked n) (Some p) (Some i) j e = cc
startable-is (Linked n) None running j e = cc
startable-is Empty pending running j e = cc
startable-is (Waits port) pending running j e = cc

-- a link that is left was there
pub lane_of-link :
    (slot : Slot) (pending : Option Pending) (running : Option Running) (n : ℕ) →
    link_in (lane_of slot pending running).slot ≡ Some n →
    link_in slot ≡ Some n
lane_of-link (Linked m) (Some p) None n e = cc
lane_of-link (Linked m) (Some p) (Some i) n e = e
lane_of-link (Linked m) None running n e = e
lane_of-link Empty pending running n e = e
lane_of-link (Waits port) pending running n e = e

-- a slot that is dropped has no link left
pub dropped-link :
    (b : Bool) (slot : Slot) (n : ℕ) →
    link_in (cond b Empty slot) ≡ Some n →
    link_in slot ≡ Some n
dropped-link true slot n e = cc
dropped-link false slot n e = e

-- the link of a job that starts with an entry
pub started-brings :
    (m : SlotMove) (number : Option ℕ) (queued : Option Pending) (l : Lane) (j : Running) →
    starts_by m number queued l ≡ Some j →
    Brings m number l.slot j.job.number
started-brings Links number queued l j e = with_link-brings Links number l.slot j.job.number refl (startable-is (with_link l.slot number) l.pending l.running j e).link
started-brings (Queues ticket) number queued l j e = inl (startable-is l.slot queued l.running j e).link
started-brings Finishes number queued l j e = inl (startable-is l.slot l.pending None j e).link
started-brings m number queued l j e = cc

-- where a job starts no link is left
pub started-leaves :
    (m : SlotMove) (number : Option ℕ) (queued : Option Pending) (l : Lane) (j : Running) →
    starts_by m number queued l ≡ Some j →
    link_in (moved m number queued l).slot ≡ None
started-leaves Links number queued l j e = (startable-is (with_link l.slot number) l.pending l.running j e).leaves
started-leaves (Queues ticket) number queued l j e = (startable-is l.slot queued l.running j e).leaves
started-leaves Finishes number queued l j e = (startable-is l.slot l.pending None j e).leaves
started-leaves m number queued l j e = cc

-- the link that a PORT leaves alone is the one that comes
link-made : (number : Option ℕ) (n : ℕ) → link_in (option_map_or Linked number Empty) ≡ Some n → number ≡ Some n
link-made None n e = cc
link-made (Some m) n e = e

-- a link after an entry
pub link-brings :
    (m : SlotMove) (number : Option ℕ) (queued : Option Pending) (l : Lane) (n : ℕ) →
    link_in (moved m number queued l).slot ≡ Some n →
    Brings m number l.slot n
link-brings Links number queued l n e = with_link-brings Links number l.slot n refl (lane_of-link (with_link l.slot number) l.pending l.running n e)
link-brings (Queues ticket) number queued l n e = inl (lane_of-link l.slot queued l.running n e)
link-brings Finishes number queued l n e = inl (lane_of-link l.slot l.pending None n e)
link-brings (Awaits port) number queued l n e = cc
link-brings Connects number queued l n e = inr (refl, link-made number n e)
link-brings m number queued l n e = inl (dropped-link (empties m l.slot) l.slot n e)

-- what starts is told by the history
pub starting-told :
    (o : Options) (past : List Entry) (e : Entry) (s : ℕ) (v : Session) →
    session o past s ≡ Some v →
    starting e.event.kind e.decision (running_job o past s) v ≡ started_by e.event.kind e.decision (queued_in (history o past s) e) (lane (history o past s))
starting-told o past e s v known =
    subst (λ (w : Session). starting e.event.kind e.decision (running_job o past s) w ≡ started_by e.event.kind e.decision (queued_in (history o past s) e) (lane (history o past s))) (session-told o past s v known).told refl

-- the test on starts on link n is one on starts
starts-on-starts : (n : ℕ) → IsOnStarts (starts_on n)
starts-on-starts n =
    record { plain = λ s. record { closes = λ m. refl; notifies = λ meta what. refl; replies = λ delay r. refl }; completed = λ t b. refl; cancelled = λ t. refl }

-- an entry starts a job on link n
pub record StartsOn (o : Options) (past : List Entry) (e : Entry) (n : ℕ) : Type 0 where
  pub number : ℕ
  pub about : subject o past e ≡ One number
  pub job : Running
  pub started : started_by e.event.kind e.decision (queued_in (history o past number) e) (lane (history o past number)) ≡ Some job
  pub link : job.job.number ≡ n
  pub count : count_by (starts_on n) e.actions ≡ 1

-- it does, or starts nothing there
abbrev pub StartsOrNot : Options → List Entry → Entry → ℕ → Type 0
StartsOrNot o past e n = (count_by (starts_on n) e.actions ≡ 0) ⊎ StartsOn o past e n

-- one of the two is so
pub starts-entry :
    (o : Options) (past : List Entry) (e : Entry) (n : ℕ) →
    is_refusal e.decision ≡ false →
    e.actions ≡ acts_of o past e →
    StartsOrNot o past e n
starts-entry o past e n counts acted = by_subject (subject o past e) refl
  where
    by_link :
        (s : ℕ) (v : Session) (j : Running) →
        subject o past e ≡ One s → session o past s ≡ Some v →
        starting e.event.kind e.decision (running_job o past s) v ≡ Some j →
        count_by (starts_on n) e.actions ≡ count_by (starts_on n) (start_acts (Some j)) →
        (b : Bool) → (j.job.number == n) ≡ b →
        StartsOrNot o past e n
    by_link s v j about known st total false x = inl (total ∙ rw x refl)
    by_link s v j about known st total true x =
        inr (record { number = s; about = about; job = j; started = sym (starting-told o past e s v known) ∙ st; link = eqb-true j.job.number n x; count = total ∙ rw x refl })

    by_job :
        (s : ℕ) (v : Session) (j : Option Running) →
        subject o past e ≡ One s → session o past s ≡ Some v →
        starting e.event.kind e.decision (running_job o past s) v ≡ j →
        count_by (starts_on n) e.actions ≡ count_by (starts_on n) (start_acts j) →
        StartsOrNot o past e n
    by_job s v None about known st total = inl total
    by_job s v (Some j) about known st total = by_link s v j about known st total (j.job.number == n) refl

    by_session :
        (s : ℕ) (v : Option Session) → subject o past e ≡ One s →
        session o past s ≡ v →
        count_by (starts_on n) e.actions ≡ count_by (starts_on n) (start_acts (option_and_then (starting e.event.kind e.decision (running_job o past s)) v)) →
        StartsOrNot o past e n
    by_session s None about known total = inl total
    by_session s (Some v) about known total = by_job s v (starting e.event.kind e.decision (running_job o past s) v) about known refl total

    by_subject :
        (s : Subject) → subject o past e ≡ s →
        StartsOrNot o past e n
    by_subject All about =
        let on : IsOnStarts (starts_on n) = starts-on-starts n in
        inl (count-stop-idle o past e counts acted (starts_on n) on.plain on.cancelled about)
    by_subject Nobody about = inl (count-nobody (starts_on n) o past e (λ m. refl) acted about)
    by_subject (One s) about =
        by_session s (session o past s) about refl
        (count-starts (starts_on n) o past e s (starts-on-starts n) counts acted about)

-- the link that the slot of session s has
abbrev pub link_of : Options → List Entry → ℕ → Option ℕ
link_of o past s = link_in (lane (history o past s)).slot

-- the slot of session s had the link n, or it comes for that with the entry
abbrev pub WasOrComes : Options → List Entry → Entry → ℕ → ℕ → Type 0
WasOrComes o past e s n =
    (link_of o past s ≡ Some n) ⊎ ((concerns o past e s ≡ true) × ((is_attached e.decision ≡ true) × (new_number e.event.kind e.decision ≡ Some n)))

-- a link that a slot has after an entry was in it, or comes with the entry
pub link-after :
    (o : Options) (past : List Entry) (e : Entry) (s n : ℕ) →
    link_of o (e ∷ past) s ≡ Some n →
    WasOrComes o past e s n
link-after o past e s n h =
    by_part o past e s
    (λ x.
    let start : link_of o (e ∷ past) s ≡ None = rw (x, opened-is e.event.kind e.decision s x) refl in
    let z : None ≡ Some n = sym start ∙ h in
    cc)
    (λ x c.
    by_link c (link-brings (slot_move e.decision) (new_number e.event.kind e.decision) (queued_in (history o past s) e) (lane (history o past s)) n
    (subst (λ (l : List Entry). link_in (lane l).slot ≡ Some n) (history-own o past e s x c) h)))
    (λ x c. inl (subst (λ (l : List Entry). link_in (lane l).slot ≡ Some n) (history-other o past e s x c) h))
  where
    by_link :
        concerns o past e s ≡ true →
        Brings (slot_move e.decision) (new_number e.event.kind e.decision) (lane (history o past s)).slot n →
        WasOrComes o past e s n
    by_link c (inl y) = inl y
    by_link c (inr y) = inr (c, y)

-- where a job starts no link is left in its session's slot
pub starts-leave :
    (o : Options) (past : List Entry) (e : Entry) (n : ℕ) (st : StartsOn o past e n) →
    link_of o (e ∷ past) st.number ≡ None
starts-leave o past e n st =
    by_test (opens e st.number) (λ x. rw (x, opened-is e.event.kind e.decision st.number x) refl)
    (λ x.
    subst (λ (l : List Entry). link_in (lane l).slot ≡ None) (sym (history-own o past e st.number x (one-own o past e st.number st.about)))
    (started-leaves (slot_move e.decision) (new_number e.event.kind e.decision) (queued_in (history o past st.number) e) (lane (history o past st.number)) st.job st.started))

-- what the past says of link n, on which so many jobs were started
pub record IsTakenOnce (o : Options) (past : List Entry) (n count : ℕ) : Type 0 where
  pub once : count ≤ 1
  pub fresh : is_used past n ≡ false → count ≡ 0
  pub linked : (s : ℕ) → link_of o past s ≡ Some n → (is_used past n ≡ true) × (count ≡ 0)
  pub one : (s t : ℕ) → link_of o past s ≡ Some n → link_of o past t ≡ Some n → s ≡ t

-- it says so after an entry that is decided and acted as it has to be
pub taken-step :
    (o : Options) (past : List Entry) (e : Entry) (n count : ℕ) →
    e.decision ≡ due o past e.event.at e.event.kind e.answer →
    is_refusal e.decision ≡ false →
    e.actions ≡ acts_of o past e →
    IsTakenOnce o past n count →
    IsTakenOnce o (e ∷ past) n (count + count_by (starts_on n) e.actions)
taken-step o past e n count fit counts acted h =
    record { once = still_once starts; fresh = λ x. still_fresh starts x; linked = λ s x. (still_used s (link-after o past e s n x), still_none s x starts (link-after o past e s n x)); one = λ s t x y. still_one s t (link-after o past e s n x) (link-after o past e t n y) }
  where
    starts : StartsOrNot o past e n
    starts = starts-entry o past e n counts acted

    unused :
        (is_attached e.decision ≡ true) × (new_number e.event.kind e.decision ≡ Some n) →
        is_used past n ≡ false
    unused x = new-unused o past e.event.at e.event.kind e.answer e.decision n (sym fit) counts x.1

    new : new_number e.event.kind e.decision ≡ Some n → is_used (e ∷ past) n ≡ true
    new x = rw (x, eq-eqb n n refl) refl

    brings : (st : StartsOn o past e n) → Brings (slot_move e.decision) (new_number e.event.kind e.decision) (lane (history o past st.number)).slot n
    brings st =
        subst (λ (m : ℕ). Brings (slot_move e.decision) (new_number e.event.kind e.decision) (lane (history o past st.number)).slot m) st.link
        (started-brings (slot_move e.decision) (new_number e.event.kind e.decision) (queued_in (history o past st.number) e) (lane (history o past st.number)) st.job st.started)

    before :
        (slot : ℕ) →
        Brings (slot_move e.decision) (new_number e.event.kind e.decision) (lane (history o past slot)).slot n →
        count ≡ 0
    before s (inl x) = (h.linked s x).1
    before s (inr x) = h.fresh (unused x)

    still_once :
        StartsOrNot o past e n →
        count + count_by (starts_on n) e.actions ≤ 1
    still_once (inl x) = omega (arith, h.once, x)
    still_once (inr st) = omega (arith, st.count, before st.number (brings st))

    still_used :
        (s : ℕ) →
        WasOrComes o past e s n →
        is_used (e ∷ past) n ≡ true
    still_used s (inl x) = rw (h.linked s x).0 (or_right _ true refl)
    still_used s (inr x) = new x.1.1

    still_fresh :
        StartsOrNot o past e n →
        is_used (e ∷ past) n ≡ false →
        count + count_by (starts_on n) e.actions ≡ 0
    still_fresh (inl x) y = omega (arith, x, h.fresh (or_parts (is_number (new_number e.event.kind e.decision) n) (is_used past n) y).1)
    still_fresh (inr st) y = absurd (true≢false (sym (by_link (brings st)) ∙ y))
      where
        by_link :
            Brings (slot_move e.decision) (new_number e.event.kind e.decision) (lane (history o past st.number)).slot n →
            is_used (e ∷ past) n ≡ true
        by_link (inl x) = still_used st.number (inl x)
        by_link (inr x) = new x.1

    still_one :
        (s t : ℕ) →
        WasOrComes o past e s n →
        WasOrComes o past e t n →
        s ≡ t
    still_one s t (inl x) (inl y) = h.one s t x y
    still_one s t (inl x) (inr y) = absurd (true≢false (sym (h.linked s x).0 ∙ unused y.1))
    still_one s t (inr x) (inl y) = absurd (true≢false (sym (h.linked t y).0 ∙ unused x.1))
    still_one s t (inr x) (inr y) = one-same o past e s t (concerned o past e s (attached-plain e.decision x.1.0) x.0) (concerned o past e t (attached-plain e.decision y.1.0) y.0)

    still_none :
        (s : ℕ) → link_of o (e ∷ past) s ≡ Some n →
        StartsOrNot o past e n →
        WasOrComes o past e s n →
        count + count_by (starts_on n) e.actions ≡ 0
    still_none s x (inl z) (inl y) = omega (arith, z, (h.linked s y).1)
    still_none s x (inl z) (inr y) = omega (arith, z, h.fresh (unused y.1))
    still_none s x (inr st) y =
        let left : link_of o (e ∷ past) s ≡ None = subst (λ (t : ℕ). link_of o (e ∷ past) t ≡ None) (sym (by_link y (brings st))) (starts-leave o past e n st) in
        let z : None ≡ Some n = sym left ∙ x in
        cc
      where
        by_link :
            WasOrComes o past e s n →
            Brings (slot_move e.decision) (new_number e.event.kind e.decision) (lane (history o past st.number)).slot n →
            s ≡ st.number
        by_link (inl i) (inl j) = h.one s st.number i j
        by_link (inl i) (inr j) = absurd (true≢false (sym (h.linked s i).0 ∙ unused j))
        by_link (inr i) j = one-same o past e s st.number (concerned o past e s (attached-plain e.decision i.1.0) i.0) st.about

-- in every right and acted log a link takes one job at most
pub taken-once :
    (o : Options) (log : List Entry) (n : ℕ) →
    IsRight o log → IsActed o log →
    IsTakenOnce o (past_of log) n (start_count n log)
taken-once o log n r a =
    acted-past o (λ log past. IsTakenOnce o past n (start_count n log))
    (record { once = omega arith; fresh = λ x. refl; linked = λ s x. let z : None ≡ Some n = x in cc; one = λ s t x y. let z : None ≡ Some n = x in cc })
    (λ log e none refused h.
    let same : start_count n log ≡ start_count n (e ∷ log) = omega (arith, ap (count_by (starts_on n)) none) in
    subst (IsTakenOnce o (past_of log) n) same h)
    (λ log e comes a acted h. taken-step o (past_of log) e n (start_count n log) comes.fit comes.counts acted h) log r a
