-- The lists of a state that are in order have lines: those that one walk over the lists writes.
use Rattle.std.proofs.Common.{◌≡◌, ℕ, suc, ◌+◌, ◌<◌, ◌≤◌, inl, inr, Bool, true, false, ◌&&◌, cond, eqb, ltb, List, [], ◌∷◌, ◌++◌, map, Option, Some, None, refl, sym, ap, subst, ◌∙◌, arith}
use Rattle.std.specs.Prelude.{is_some, IsSome}
use Rattle.std.specs.List.{AllByRecursion}
use Rattle.std.specs.List.Sorted.{IsStrictlySortedBy}
use Rattle.std.specs.declared.cmp.Ordering.{Ordering}
use Rattle.std.specs.declared.cmp.Ordering.TheVariants.{Less}
use Rattle.std.proofs.lemmas.Bool.{eqb-true, lt-ltb}
use Rattle.std.proofs.lemmas.List.{append-nil}
use Rattle.std.proofs.lemmas.List.Elements.{filter_map-append}
use Rattle.ftp_base.specs.declared.net.IpAddr.{IpAddr}
use Rattle.ftp_options.specs.declared.lockout.FailedLoginsBlock.{FailedLoginsBlock}
use Rattle.ftp_options.specs.declared.lockout.FailedLoginsBlock.TheVariants.{UserAndIP, IP, User}
use Rattle.ftp_switchboard.specs.declared.numbers.Interval.{Interval}
use Rattle.ftp_switchboard.specs.Used.{IsApart}
use Rattle.ftp_lockout.specs.Keys.{key_cmp}
use Rattle.ftp_laws.specs.Census.{IsAscending}
use Rattle.ftp_hub.specs.declared.state.HubState.{HubState}
use Rattle.ftp_hub.specs.declared.state.JobLine.{JobLine}
use Rattle.ftp_hub.specs.declared.state.QueuedLine.{QueuedLine}
use Rattle.ftp_hub.specs.declared.state.RecordLine.{RecordLine}
use Rattle.ftp_hub.specs.declared.state.SessionLine.{SessionLine}
use Rattle.ftp_hub.specs.declared.state.SlotLine.{SlotLine}
use Rattle.ftp_hub.specs.State.{record_key}
use Rattle.ftp_text.specs.declared.state_line.StateLine.{StateLine}
use Rattle.ftp_text.specs.declared.state_line.StateLine.TheVariants as says
use Rattle.ftp_text.specs.Spelling.{IsStateLine}
use Rattle.ftp_text.specs.Grammar.{follows, is_alike, is_less, precedes, record_follows, session_follows, job_follows, IsChain, AreStateLines, no_state, with_line}
use Rattle.ftp_text.specs.ListOrder.{IsOfPolicy, AreListsInOrder}
use Rattle.ftp_text.specs.Walk.{Onward, own_queued, own_slot, session_walk, walk}
use Rattle.ftp_text.proofs.KindLemmas.{Kind, Said, list_of, none-said, own-said, place, said, said_in}
use Rattle.ftp_text.proofs.KindLemmas as kind
use Rattle.ftp_text.proofs.WalkLemmas.{said-added}
use Rattle.ftp_text.proofs.Within.{Within, eqb-same, within-is}

-- ---- sessions

abbrev session_of : SessionLine → ℕ
session_of l = l.session

abbrev slot_of : SlotLine → ℕ
slot_of l = l.session

abbrev queued_of : QueuedLine → ℕ
queued_of l = l.session

abbrev Slots : List SessionLine → List SlotLine → Type 0
Slots = Within session_of slot_of

abbrev Transfers : List SlotLine → List QueuedLine → Type 0
Transfers = Within slot_of queued_of

-- the lists of sessions, slots and transfers, by their kind
abbrev three : List SessionLine → List SlotLine → List QueuedLine → (k : Kind) → List (Said k)
three sessions slots queued kind.Session = sessions
three sessions slots queued kind.Slot = slots
three sessions slots queued kind.Queued = queued
three sessions slots queued _ = []

-- the lines say these lists alone
abbrev SaysAll : List StateLine → List SessionLine → List SlotLine → List QueuedLine → Type 0
SaysAll lines sessions slots queued = (k : Kind) → said_in k lines ≡ three sessions slots queued k

with-session : (s : SessionLine) (lines : List StateLine) (sessions : List SessionLine) (slots : List SlotLine) (queued : List QueuedLine) → SaysAll lines sessions slots queued → SaysAll (says.Session s ∷ lines) (s ∷ sessions) slots queued
with-session s lines sessions slots queued a kind.Session = ap (λ (l : List SessionLine). s ∷ l) (a kind.Session)
with-session s lines sessions slots queued a k = a k

with-slot : (s : SlotLine) (lines : List StateLine) (sessions : List SessionLine) (slots : List SlotLine) (queued : List QueuedLine) → SaysAll lines sessions slots queued → SaysAll (says.Slot s ∷ lines) sessions (s ∷ slots) queued
with-slot s lines sessions slots queued a kind.Slot = ap (λ (l : List SlotLine). s ∷ l) (a kind.Slot)
with-slot s lines sessions slots queued a k = a k

with-queued : (s : QueuedLine) (lines : List StateLine) (sessions : List SessionLine) (slots : List SlotLine) (queued : List QueuedLine) → SaysAll lines sessions slots queued → SaysAll (says.Queued s ∷ lines) sessions slots (s ∷ queued)
with-queued s lines sessions slots queued a kind.Queued = ap (λ (l : List QueuedLine). s ∷ l) (a kind.Queued)
with-queued s lines sessions slots queued a k = a k

no-slots : (sessions : List SessionLine) → Slots sessions []
no-slots [] = refl
no-slots (s ∷ sessions) = tt

no-transfers : (slots : List SlotLine) → Transfers slots []
no-transfers [] = refl
no-transfers (l ∷ slots) = tt

-- the walk says all of the lists
walk-says : (sessions : List SessionLine) (slots : List SlotLine) (queued : List QueuedLine) → Slots sessions slots → Transfers slots queued → SaysAll (session_walk sessions slots queued) sessions slots queued
walk-says [] [] queued p q = none queued q where
  none : (ts : List QueuedLine) → ts ≡ [] → SaysAll [] [] [] ts
  none ts same kind.Queued = sym same
  none ts same kind.Used = refl
  none ts same _ = refl
walk-says [] (l ∷ slots) queued p q = absurd (cc p)
walk-says (s ∷ sessions) [] queued p q =
    with-session s (session_walk sessions [] queued) sessions [] queued (walk-says sessions [] queued (no-slots sessions) q)
walk-says (s ∷ sessions) (l ∷ slots) queued (inr p) q =
    subst (λ (b : Bool). SaysAll (says.Session s ∷ cond b (says.Slot l ∷ own_queued s.session (session_walk sessions slots) queued) (session_walk sessions (l ∷ slots) queued)) (s ∷ sessions) (l ∷ slots) queued) (sym p.0)
    (with-session s (session_walk sessions (l ∷ slots) queued) sessions (l ∷ slots) queued (walk-says sessions (l ∷ slots) queued p.1 q))
walk-says (s ∷ sessions) (l ∷ slots) [] (inl p) q =
    subst (λ (b : Bool). SaysAll (says.Session s ∷ cond b (says.Slot l ∷ session_walk sessions slots []) (session_walk sessions (l ∷ slots) [])) (s ∷ sessions) (l ∷ slots) []) (sym p.0)
    (with-session s (says.Slot l ∷ session_walk sessions slots []) sessions (l ∷ slots) [] (with-slot l (session_walk sessions slots []) sessions slots [] (walk-says sessions slots [] p.1 (no-transfers slots))))
walk-says (s ∷ sessions) (l ∷ slots) (t ∷ queued) (inl p) (inl q) =
    let own : eqb t.session s.session ≡ true = ap (eqb t.session) (sym (eqb-true l.session s.session p.0)) ∙ q.0 in
    let more = session_walk sessions slots in
    subst (λ (b : Bool). SaysAll (says.Session s ∷ cond b (says.Slot l ∷ own_queued s.session more (t ∷ queued)) (session_walk sessions (l ∷ slots) (t ∷ queued))) (s ∷ sessions) (l ∷ slots) (t ∷ queued)) (sym p.0)
    (subst (λ (b : Bool). SaysAll (says.Session s ∷ (says.Slot l ∷ cond b (says.Queued t ∷ more queued) (more (t ∷ queued)))) (s ∷ sessions) (l ∷ slots) (t ∷ queued)) (sym own)
    (with-session s (says.Slot l ∷ (says.Queued t ∷ more queued)) sessions (l ∷ slots) (t ∷ queued)
    (with-slot l (says.Queued t ∷ more queued) sessions slots (t ∷ queued) (with-queued t (more queued) sessions slots queued (walk-says sessions slots queued p.1 q.1)))))
walk-says (s ∷ sessions) (l ∷ slots) (t ∷ queued) (inl p) (inr q) =
    let own : eqb t.session s.session ≡ false = ap (eqb t.session) (sym (eqb-true l.session s.session p.0)) ∙ q.0 in
    let more = session_walk sessions slots in
    subst (λ (b : Bool). SaysAll (says.Session s ∷ cond b (says.Slot l ∷ own_queued s.session more (t ∷ queued)) (session_walk sessions (l ∷ slots) (t ∷ queued))) (s ∷ sessions) (l ∷ slots) (t ∷ queued)) (sym p.0)
    (subst (λ (b : Bool). SaysAll (says.Session s ∷ (says.Slot l ∷ cond b (says.Queued t ∷ more queued) (more (t ∷ queued)))) (s ∷ sessions) (l ∷ slots) (t ∷ queued)) (sym own)
    (with-session s (says.Slot l ∷ more (t ∷ queued)) sessions (l ∷ slots) (t ∷ queued)
    (with-slot l (more (t ∷ queued)) sessions slots (t ∷ queued) (walk-says sessions slots (t ∷ queued) p.1 q.1))))

-- each session may stand behind the line
abbrev Below : StateLine → List SessionLine → Type 0
Below before sessions = AllByRecursion (λ (s : SessionLine). session_follows before s.session ≡ true) sessions

below-number : (n k : ℕ) (sessions : List SessionLine) → k ≡ n → AllByRecursion (λ (m : ℕ). n < m) (map session_of sessions) → AllByRecursion (λ (s : SessionLine). ltb k s.session ≡ true) sessions
below-number n k [] same above = tt
below-number n k (s ∷ sessions) same above = (lt-ltb k s.session (omega (arith, same, above.0)), below-number n k sessions same above.1)

-- the last of lines, and the line before them where there is none
abbrev last_of : StateLine → List StateLine → StateLine
last_of before [] = before
last_of before (l ∷ lines) = last_of l lines

-- lines behind a line, of which the last is of place p or of an earlier one
record StandUpTo (p : ℕ) (before : StateLine) (lines : List StateLine) : Type 0 where
  chain : IsChain before lines
  last : place (last_of before lines) ≤ p

-- the line is of session n
abbrev IsOf : ℕ → StateLine → Type 0
IsOf n (says.Session s) = s.session ≡ n
IsOf n (says.Slot l) = l.session ≡ n
IsOf n (says.Queued q) = q.session ≡ n
IsOf n _ = ⊥

-- whatever is left stands behind each line of session n
abbrev Onwards : ℕ → Onward → Type 0
Onwards n more = (b : StateLine) → IsOf n b → (slots : List SlotLine) (queued : List QueuedLine) → StandUpTo 3 b (more slots queued)

before-stands : (p : ℕ) (before l : StateLine) (lines : List StateLine) → follows before l ≡ true → StandUpTo p l lines → StandUpTo p before (l ∷ lines)
before-stands p before l lines h s = record { chain = (h, s.chain); last = s.last }

queued-stands : (n : ℕ) (more : Onward) (slots : List SlotLine) (l : SlotLine) (queued : List QueuedLine) → l.session ≡ n → Onwards n more → StandUpTo 3 (says.Slot l) (own_queued n (more slots) queued)
queued-stands n more slots l [] same on = on (says.Slot l) same slots []
queued-stands n more slots l (q ∷ queued) same on = by (eqb q.session n) refl where
  by : (b : Bool) → eqb q.session n ≡ b → StandUpTo 3 (says.Slot l) (cond b (says.Queued q ∷ more slots queued) (more slots (q ∷ queued)))
  by true e =
      let own : q.session ≡ n = eqb-true q.session n e in
      let test : eqb l.session q.session ≡ true = ap (λ (m : ℕ). eqb m q.session) (same ∙ sym own) ∙ eqb-same q.session in
      before-stands 3 (says.Slot l) (says.Queued q) (more slots queued) test (on (says.Queued q) own slots queued)
  by false e = on (says.Slot l) same slots (q ∷ queued)

slot-stands : (s : SessionLine) (more : Onward) (slots : List SlotLine) (queued : List QueuedLine) → Onwards s.session more → StandUpTo 3 (says.Session s) (own_slot s.session more slots queued)
slot-stands s more [] queued on = on (says.Session s) refl [] queued
slot-stands s more (l ∷ slots) queued on = by (eqb l.session s.session) refl where
  by : (b : Bool) → eqb l.session s.session ≡ b → StandUpTo 3 (says.Session s) (cond b (says.Slot l ∷ own_queued s.session (more slots) queued) (more (l ∷ slots) queued))
  by true e =
      let own : l.session ≡ s.session = eqb-true l.session s.session e in
      let test : eqb s.session l.session ≡ true = ap (λ (m : ℕ). eqb m l.session) (sym own) ∙ eqb-same l.session in
      before-stands 3 (says.Session s) (says.Slot l) (own_queued s.session (more slots) queued) test (queued-stands s.session more slots l queued own on)
  by false e = on (says.Session s) refl (l ∷ slots) queued

below-of : (n : ℕ) (b : StateLine) (sessions : List SessionLine) → IsOf n b → AllByRecursion (λ (m : ℕ). n < m) (map session_of sessions) → (place b ≤ 3) × Below b sessions
below-of n (says.Session s) sessions same above = (omega arith, below-number n s.session sessions same above)
below-of n (says.Slot s) sessions same above = (omega arith, below-number n s.session sessions same above)
below-of n (says.Queued s) sessions same above = (omega arith, below-number n s.session sessions same above)
below-of n _ sessions same above = absurd same

walk-stands : (before : StateLine) (sessions : List SessionLine) (slots : List SlotLine) (queued : List QueuedLine) → place before ≤ 3 → IsAscending (map session_of sessions) → Below before sessions → StandUpTo 3 before (session_walk sessions slots queued)
walk-stands before [] slots queued early up below = record { chain = tt; last = early }
walk-stands before (s ∷ sessions) slots queued early up below =
    before-stands 3 before (says.Session s) (own_slot s.session (session_walk sessions) slots queued) below.0
    (slot-stands s (session_walk sessions) slots queued
    (λ b is ls qs. let next = below-of s.session b sessions is up.0 in walk-stands b sessions ls qs next.0 up.1 next.1))

-- ---- intervals, records and jobs

chain-append : (before : StateLine) (lines more : List StateLine) → IsChain before lines → IsChain (last_of before lines) more → IsChain before (lines ++ more)
chain-append before [] more c d = d
chain-append before (l ∷ lines) more c d = (c.0, chain-append l lines more c.1 d)

apart-tail : (i : Interval) (used : List Interval) → IsApart (i ∷ used) → IsApart used
apart-tail i used a = record {
  each = λ k lt. a.each (suc k) (omega (arith, lt));
  gaps = λ j k below lt. a.gaps (suc j) (suc k) (omega (arith, below)) (omega (arith, lt));
}

used-rises : (b : Interval) (used : List Interval) → IsApart (b ∷ used) → StandUpTo 1 (says.Used b) (map says.Used used)
used-rises b [] a = record { chain = tt; last = omega arith }
used-rises b (i ∷ used) a =
    before-stands 1 (says.Used b) (says.Used i) (map says.Used used) (lt-ltb (b.hi + 1) i.lo (a.gaps 0 1 (omega arith) (omega arith)))
    (used-rises i used (apart-tail b (i ∷ used) a))

used-opens : (events : ℕ) (stopped : Bool) (used : List Interval) → IsApart used → StandUpTo 1 (says.Checkpoint events stopped) (map says.Used used)
used-opens events stopped [] a = record { chain = tt; last = omega arith }
used-opens events stopped (i ∷ used) a = before-stands 1 (says.Checkpoint events stopped) (says.Used i) (map says.Used used) refl (used-rises i used a)

less-test : (o : Ordering) → o ≡ Less → is_less o ≡ true
less-test o e = ap is_less e

both-some : {A : Type 0} (a b : Option A) → is_some a ≡ is_some b → is_alike a b ≡ true
both-some (Some x) (Some y) e = refl
both-some None None e = refl
both-some (Some x) None e = absurd cc
both-some None (Some y) e = absurd cc

some-of : {A : Type 0} (a : Option A) → IsSome a → is_some a ≡ true
some-of a h = h

none-of : {A : Type 0} (a : Option A) → a ≡ None → is_some a ≡ false
none-of a h = ap is_some h

policy-alike : (block : FailedLoginsBlock) (a b : Option IpAddr) (u v : Option (List ℕ)) → IsOfPolicy block a u → IsOfPolicy block b v → (is_alike a b && is_alike u v) ≡ true
policy-alike UserAndIP a b u v p q = rw (both-some a b (p.0 ∙ sym q.0), both-some u v (p.1 ∙ sym q.1)) refl
policy-alike IP a b u v p q = rw (both-some a b (p.0 ∙ sym q.0), both-some u v (none-of u p.1 ∙ sym (none-of v q.1))) refl
policy-alike User a b u v p q = rw (both-some a b (none-of a p.0 ∙ sym (none-of b q.0)), both-some u v (p.1 ∙ sym q.1)) refl

records-rise : (block : FailedLoginsBlock) (b : RecordLine) (records : List RecordLine) → AllByRecursion (λ (r : RecordLine). IsOfPolicy block r.ip r.user) (b ∷ records) → IsStrictlySortedBy key_cmp (map record_key (b ∷ records)) → StandUpTo 2 (says.Record b) (map says.Record records)
unfolding IsStrictlySortedBy
records-rise block b [] all sorted = record { chain = tt; last = omega arith }
records-rise block b (r ∷ records) all sorted =
    let test : precedes b r ≡ true = rw (policy-alike block b.ip r.ip b.user r.user all.0 all.1.0, less-test (key_cmp (record_key b) (record_key r)) sorted.0.0) refl in
    before-stands 2 (says.Record b) (says.Record r) (map says.Record records) test (records-rise block r records all.1 sorted.1)

record-opening : (before : StateLine) (r : RecordLine) → place before ≤ 1 → record_follows before r ≡ true
record-opening (says.Checkpoint events stopped) r le = refl
record-opening (says.Used i) r le = refl
record-opening _ r le = absurd (omega (arith, le))

records-head : (before : StateLine) (block : FailedLoginsBlock) (records : List RecordLine) → place before ≤ 1 → AllByRecursion (λ (r : RecordLine). IsOfPolicy block r.ip r.user) records → IsStrictlySortedBy key_cmp (map record_key records) → StandUpTo 2 before (map says.Record records)
records-head before block [] opening all sorted = record { chain = tt; last = omega (arith, opening) }
records-head before block (r ∷ records) opening all sorted =
    before-stands 2 before (says.Record r) (map says.Record records) (record-opening before r opening) (records-rise block r records all sorted)

session-opening : (before : StateLine) (n : ℕ) → place before ≤ 2 → session_follows before n ≡ true
session-opening (says.Session b) n le = absurd (omega (arith, le))
session-opening (says.Slot b) n le = absurd (omega (arith, le))
session-opening (says.Queued b) n le = absurd (omega (arith, le))
session-opening (says.Job b) n le = absurd (omega (arith, le))
session-opening _ n le = refl

head-below : (before : StateLine) (sessions : List SessionLine) → place before ≤ 2 → Below before sessions
head-below before [] le = tt
head-below before (s ∷ sessions) le = (session-opening before s.session le, head-below before sessions le)

abbrev job_session : JobLine → ℕ
job_session j = j.job.ticket.session

jobs-rise : (b : JobLine) (jobs : List JobLine) → IsAscending (map job_session (b ∷ jobs)) → IsChain (says.Job b) (map says.Job jobs)
jobs-rise b [] up = tt
jobs-rise b (j ∷ jobs) up = (lt-ltb (job_session b) (job_session j) up.0.0, jobs-rise j jobs up.1)

job-opening : (before : StateLine) (n : ℕ) → place before ≤ 3 → job_follows before n ≡ true
job-opening (says.Job b) n le = absurd (omega (arith, le))
job-opening _ n le = refl

jobs-stand : (before : StateLine) (jobs : List JobLine) → place before ≤ 3 → IsAscending (map job_session jobs) → IsChain before (map says.Job jobs)
jobs-stand before [] early up = tt
jobs-stand before (j ∷ jobs) early up = (job-opening before (job_session j) early, jobs-rise j jobs up)

-- ---- what all of the walk says

-- the lines of all lists behind the checkpoint
abbrev listed : HubState → List StateLine
listed x = map says.Used x.used ++ (map says.Record x.records ++ (session_walk x.sessions x.slots x.queued ++ map says.Job x.jobs))

-- what they say of a kind, list by list
in_parts : (k : Kind) (x : HubState) → said_in k (listed x)
    ≡ said_in k (map says.Used x.used)
    ++ (said_in k (map says.Record x.records) ++ (said_in k (session_walk x.sessions x.slots x.queued) ++ said_in k (map says.Job x.jobs)))
in_parts k x =
    let sessions = session_walk x.sessions x.slots x.queued in
    let jobs = map says.Job x.jobs in
    let records = map says.Record x.records in
    filter_map-append (said k) (map says.Used x.used) (records ++ (sessions ++ jobs))
    ∙ ap (λ (t : List (Said k)). said_in k (map says.Used x.used) ++ t)
    (filter_map-append (said k) records (sessions ++ jobs)
    ∙ ap (λ (t : List (Said k)). said_in k records ++ t) (filter_map-append (said k) sessions jobs))

-- nothing but what the walk over sessions says
in_walk : (k : Kind) (x : HubState) → SaysAll (session_walk x.sessions x.slots x.queued) x.sessions x.slots x.queued →
    ((i : Interval) → said k (says.Used i) ≡ None) → ((r : RecordLine) → said k (says.Record r) ≡ None) → ((j : JobLine) → said k (says.Job j) ≡ None) →
    said_in k (listed x) ≡ three x.sessions x.slots x.queued k
in_walk k x s used records jobs =
    in_parts k x
    ∙ (λ i. none-said k says.Used used x.used i ++ (none-said k says.Record records x.records i ++ (s k i ++ none-said k says.Job jobs x.jobs i)))
    ∙ append-nil (three x.sessions x.slots x.queued k)

-- they say the list of each kind
listed-says : (x : HubState) → SaysAll (session_walk x.sessions x.slots x.queued) x.sessions x.slots x.queued → (k : Kind) → said_in k (listed x) ≡ list_of k x
listed-says x s kind.Used =
    in_parts kind.Used x
    ∙ (λ i. own-said kind.Used says.Used (λ _. refl) x.used i ++ (none-said kind.Used says.Record (λ _. refl) x.records i ++ (s kind.Used i ++ none-said kind.Used says.Job (λ _. refl) x.jobs i)))
    ∙ append-nil x.used
listed-says x s kind.Record =
    in_parts kind.Record x
    ∙ (λ i. none-said kind.Record says.Used (λ _. refl) x.used i ++ (own-said kind.Record says.Record (λ _. refl) x.records i ++ (s kind.Record i ++ none-said kind.Record says.Job (λ _. refl) x.jobs i)))
    ∙ append-nil x.records
listed-says x s kind.Job =
    in_parts kind.Job x
    ∙ (λ i. none-said kind.Job says.Used (λ _. refl) x.used i ++ (none-said kind.Job says.Record (λ _. refl) x.records i ++ (s kind.Job i ++ own-said kind.Job says.Job (λ _. refl) x.jobs i)))
listed-says x s kind.Session = in_walk kind.Session x s (λ _. refl) (λ _. refl) (λ _. refl)
listed-says x s k = in_walk k x s (λ _. refl) (λ _. refl) (λ _. refl)

-- a state whose lists are in order, and whose lines fit, has the lines that one walk writes
pub walk-has : (x : HubState) → AreListsInOrder x → AllByRecursion IsStateLine (walk x) → AreStateLines x (walk x)
walk-has x order fit =
    let first : StateLine = says.Checkpoint x.events x.stopped in
    let used = map says.Used x.used in
    let records = map says.Record x.records in
    let sessions = session_walk x.sessions x.slots x.queued in
    let jobs = map says.Job x.jobs in
    let a = used-opens x.events x.stopped x.used order.used in
    let b = records-head (last_of first used) order.policy.0 x.records a.last order.policy.1 order.records in
    let end : StateLine = last_of (last_of first used) records in
    let c = walk-stands end x.sessions x.slots x.queued (omega (arith, b.last)) order.sessions (head-below end x.sessions b.last) in
    let d = jobs-stand (last_of end sessions) x.jobs c.last order.jobs in
    let chain : IsChain first (used ++ (records ++ (sessions ++ jobs))) =
    chain-append first used (records ++ (sessions ++ jobs)) a.chain
    (chain-append (last_of first used) records (sessions ++ jobs) b.chain (chain-append end sessions jobs c.chain d)) in
    let slots : Slots x.sessions x.slots = within-is session_of slot_of x.sessions x.slots order.sessions order.slots order.live in
    let queued : Transfers x.slots x.queued = within-is slot_of queued_of x.slots x.queued order.slots order.queued order.placed in
    let told = listed-says x (walk-says x.sessions x.slots x.queued slots queued) in
    record {
      in_order = (refl, chain);
      fit = fit;
      say =
          said-added (with_line no_state first) first (listed x) chain
          ∙ (λ i. record {
            events = x.events;
            stopped = x.stopped;
            used = told kind.Used i;
            records = told kind.Record i;
            sessions = told kind.Session i;
            slots = told kind.Slot i;
            queued = told kind.Queued i;
            jobs = told kind.Job i;
          });
    }
