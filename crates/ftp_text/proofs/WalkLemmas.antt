-- One walk over the lists of a state writes its lines.
use Rattle.std.proofs.Common.{◌≡◌, ℕ, ◌*◌, ◌<◌, ◌≤◌, Bool, true, false, cond, eqb, List, [], ◌∷◌, ◌++◌, map, refl, sym, ap, ◌∙◌, append_assoc, arith}
use Rattle.std.specs.List.{AllByRecursion, flat_map}
use Rattle.std.proofs.lemmas.Grind.{flat_map-append}
use Rattle.std.proofs.lemmas.List.Folds.{flat_map-map}
use Rattle.std.proofs.lemmas.Bool.{eqb-true, ltb-true}
use Rattle.std.proofs.lemmas.Bool.Decides.{nat_tests}
use Rattle.std.proofs.lemmas.List.{append-nil}
use Rattle.ftp_switchboard.specs.declared.numbers.Interval.{Interval}
use Rattle.ftp_hub.specs.declared.state.HubState.{HubState}
use Rattle.ftp_hub.specs.declared.state.JobLine.{JobLine}
use Rattle.ftp_hub.specs.declared.state.QueuedLine.{QueuedLine}
use Rattle.ftp_hub.specs.declared.state.RecordLine.{RecordLine}
use Rattle.ftp_hub.specs.declared.state.SessionLine.{SessionLine}
use Rattle.ftp_hub.specs.declared.state.SlotLine.{SlotLine}
use Rattle.ftp_text.specs.declared.state_line.StateLine.{StateLine}
use Rattle.ftp_text.specs.declared.state_line.StateLine.TheVariants as says
use Rattle.ftp_text.specs.Grammar.{follows, session_follows, IsChain, AreInLineOrder, no_state, with_line, with_lines, AreStateLines}
use Rattle.ftp_text.specs.StateText.{with_feed, state_text}
use Rattle.ftp_text.specs.Walk.{Onward, own_queued, own_slot, session_walk, walk}
use Rattle.ftp_text.proofs.KindLemmas.{From, Kind, list_of, none-left, past-chain, place-chain, said_in, said-from}
use Rattle.ftp_text.proofs.KindLemmas as kind

-- a state with further lines
abbrev pub added : HubState → List StateLine → HubState
added x lines = record {
  events = x.events;
  stopped = x.stopped;
  used = x.used ++ said_in kind.Used lines;
  records = x.records ++ said_in kind.Record lines;
  sessions = x.sessions ++ said_in kind.Session lines;
  slots = x.slots ++ said_in kind.Slot lines;
  queued = x.queued ++ said_in kind.Queued lines;
  jobs = x.jobs ++ said_in kind.Job lines;
}

added-none : (x : HubState) → added x [] ≡ x
added-none x = λ i. record {
  events = x.events;
  stopped = x.stopped;
  used = append-nil x.used i;
  records = append-nil x.records i;
  sessions = append-nil x.sessions i;
  slots = append-nil x.slots i;
  queued = append-nil x.queued i;
  jobs = append-nil x.jobs i;
}

-- a line that is not the first adds itself
added-line : (x : HubState) (before l : StateLine) (lines : List StateLine) → follows before l ≡ true → added (with_line x l) lines ≡ added x (l ∷ lines)
added-line x before (says.Checkpoint events stopped) lines h = absurd cc
added-line x before (says.Used i) lines h = ap (λ (u : List Interval). record (added x lines) { used = u }) (append_assoc x.used (i ∷ []) (said_in kind.Used lines))
added-line x before (says.Record r) lines h = ap (λ (u : List RecordLine). record (added x lines) { records = u }) (append_assoc x.records (r ∷ []) (said_in kind.Record lines))
added-line x before (says.Session s) lines h = ap (λ (u : List SessionLine). record (added x lines) { sessions = u }) (append_assoc x.sessions (s ∷ []) (said_in kind.Session lines))
added-line x before (says.Slot l) lines h = ap (λ (u : List SlotLine). record (added x lines) { slots = u }) (append_assoc x.slots (l ∷ []) (said_in kind.Slot lines))
added-line x before (says.Queued q) lines h = ap (λ (u : List QueuedLine). record (added x lines) { queued = u }) (append_assoc x.queued (q ∷ []) (said_in kind.Queued lines))
added-line x before (says.Job j) lines h = ap (λ (u : List JobLine). record (added x lines) { jobs = u }) (append_assoc x.jobs (j ∷ []) (said_in kind.Job lines))

pub said-added : (x : HubState) (before : StateLine) (lines : List StateLine) → IsChain before lines → with_lines x lines ≡ added x lines
said-added x before [] c = sym (added-none x)
said-added x before (l ∷ lines) c = said-added (with_line x l) l lines c.1 ∙ added-line x before l lines c.0

-- behind the checkpoint each list is what the lines say
pub in_added : (events : ℕ) (stopped : Bool) (lines : List StateLine) (k : Kind) → said_in k lines ≡ list_of k (added (with_line no_state (says.Checkpoint events stopped)) lines)
in_added events stopped lines kind.Used = refl
in_added events stopped lines _ = refl

-- ---- the numbers of sessions

other : (m n k : ℕ) → n < m → m ≤ k → eqb k n ≡ false
other m n k lt le = grind (arith, nat_tests)

-- no slot of later sessions is taken for one of this
skip-slot : (m n : ℕ) (more : Onward) (slots : List SlotLine) (queued : List QueuedLine) → n < m → AllByRecursion (λ (l : SlotLine). m ≤ l.session) slots → own_slot n more slots queued ≡ more slots queued
skip-slot m n more [] queued lt f = refl
skip-slot m n more (l ∷ slots) queued lt f =
    ap (λ t. cond t (says.Slot l ∷ own_queued n (more slots) queued) (more (l ∷ slots) queued)) (other m n l.session lt f.0)

skip-queued : (m n : ℕ) (more : List QueuedLine → List StateLine) (queued : List QueuedLine) → n < m → AllByRecursion (λ (q : QueuedLine). m ≤ q.session) queued → own_queued n more queued ≡ more queued
skip-queued m n more [] lt f = refl
skip-queued m n more (q ∷ queued) lt f =
    ap (λ t. cond t (says.Queued q ∷ more queued) (more (q ∷ queued))) (other m n q.session lt f.0)

-- ---- the walk

-- the lines of sessions that are left behind a line
abbrev expected : StateLine → List SessionLine → Onward
expected (says.Session s) sessions = own_slot s.session (session_walk sessions)
expected (says.Slot l) sessions = λ slots. own_queued l.session (session_walk sessions slots)
expected _ sessions = session_walk sessions

abbrev left : StateLine → List StateLine → List StateLine
left before lines = expected before (said_in kind.Session lines) (said_in kind.Slot lines) (said_in kind.Queued lines)

-- the lines of all kinds
abbrev whole : List Interval → List RecordLine → List StateLine → List JobLine → List StateLine
whole used records sessions jobs = map says.Used used ++ (map says.Record records ++ (sessions ++ map says.Job jobs))

abbrev sections : StateLine → List StateLine → List StateLine
sections before lines = whole (said_in kind.Used lines) (said_in kind.Record lines) (left before lines) (said_in kind.Job lines)

expected-none : (before : StateLine) → expected before [] [] [] ≡ []
expected-none (says.Session s) = refl
expected-none (says.Slot l) = refl
expected-none _ = refl

-- where no interval and no record is left, the sessions come first
late : (n : ℕ) (lines : List StateLine) (sessions first : List StateLine) → 2 < n → From n lines → sessions ≡ first →
    whole (said_in kind.Used lines) (said_in kind.Record lines) sessions (said_in kind.Job lines) ≡ first ++ map says.Job (said_in kind.Job lines)
late n lines sessions first lt f same =
    ap (λ (u : List Interval). whole u (said_in kind.Record lines) sessions (said_in kind.Job lines)) (none-left kind.Used n lines (omega (arith, lt)) f)
    ∙ ap (λ (r : List RecordLine). whole [] r sessions (said_in kind.Job lines)) (none-left kind.Record n lines lt f)
    ∙ ap (λ (e : List StateLine). e ++ map says.Job (said_in kind.Job lines)) same

-- a line of a session, of its slot or of its transfer stands before what is left
next-session : (before l : StateLine) (lines sessions : List StateLine) → From 3 lines →
    sessions ≡ l ∷ left l lines → sections l lines ≡ lines →
    whole (said_in kind.Used lines) (said_in kind.Record lines) sessions (said_in kind.Job lines) ≡ l ∷ lines
next-session before l lines sessions f same rest =
    late 3 lines sessions (l ∷ left l lines) (omega arith) f same
    ∙ ap (λ (ls : List StateLine). l ∷ ls)
    (sym (late 3 lines (left l lines) (left l lines) (omega arith) f refl) ∙ rest)

-- a session is the next one, whatever stands before it
opened : (before : StateLine) (s : SessionLine) (lines : List StateLine) → session_follows before s.session ≡ true → IsChain (says.Session s) lines →
    expected before (s ∷ said_in kind.Session lines) (said_in kind.Slot lines) (said_in kind.Queued lines) ≡ says.Session s ∷ left (says.Session s) lines
opened (says.Session b) s lines h c =
    let f = past-chain 3 (3 * s.session) (says.Session s) lines c (omega arith) (λ from same. omega arith) in
    skip-slot s.session b.session (session_walk (s ∷ said_in kind.Session lines)) (said_in kind.Slot lines) (said_in kind.Queued lines) (ltb-true _ _ h) (said-from kind.Slot s.session lines refl f)
opened (says.Slot b) s lines h c =
    let f = past-chain 3 (3 * s.session) (says.Session s) lines c (omega arith) (λ from same. omega arith) in
    skip-queued s.session b.session (session_walk (s ∷ said_in kind.Session lines) (said_in kind.Slot lines)) (said_in kind.Queued lines) (ltb-true _ _ h) (said-from kind.Queued s.session lines refl f)
opened (says.Job j) s lines h c = absurd cc
opened _ s lines h c = refl

slot-next : (n : ℕ) (l : SlotLine) (sessions : List SessionLine) (slots : List SlotLine) (queued : List QueuedLine) → eqb n l.session ≡ true →
    own_slot n (session_walk sessions) (l ∷ slots) queued ≡ says.Slot l ∷ own_queued l.session (session_walk sessions slots) queued
slot-next n l sessions slots queued h =
    let same : n ≡ l.session = eqb-true n l.session h in
    let test : eqb l.session l.session ≡ true = grind (arith, nat_tests) in
    ap (λ (m : ℕ). own_slot m (session_walk sessions) (l ∷ slots) queued) same
    ∙ ap (λ t. cond t (says.Slot l ∷ own_queued l.session (session_walk sessions slots) queued) (session_walk sessions (l ∷ slots) queued)) test

queued-next : (n : ℕ) (q : QueuedLine) (more : List QueuedLine → List StateLine) (queued : List QueuedLine) → eqb n q.session ≡ true →
    own_queued n more (q ∷ queued) ≡ says.Queued q ∷ more queued
queued-next n q more queued h =
    let same : n ≡ q.session = eqb-true n q.session h in
    let test : eqb q.session q.session ≡ true = grind (arith, nat_tests) in
    ap (λ (m : ℕ). own_queued m more (q ∷ queued)) same
    ∙ ap (λ t. cond t (says.Queued q ∷ more queued) (more (q ∷ queued))) test

-- behind a job only jobs are left
jobs-left : (before : StateLine) (j : JobLine) (lines : List StateLine) → From 4 lines → sections (says.Job j) lines ≡ lines →
    whole (said_in kind.Used lines) (said_in kind.Record lines) (left before lines) (j ∷ said_in kind.Job lines) ≡ says.Job j ∷ lines
jobs-left before j lines f rest =
    let none : (b : StateLine) → left b lines ≡ [] =
    λ b.
    ap (λ (s : List SessionLine). expected b s (said_in kind.Slot lines) (said_in kind.Queued lines)) (none-left kind.Session 4 lines (omega arith) f)
    ∙ ap (λ (s : List SlotLine). expected b [] s (said_in kind.Queued lines)) (none-left kind.Slot 4 lines (omega arith) f)
    ∙ ap (expected b [] []) (none-left kind.Queued 4 lines (omega arith) f)
    ∙ expected-none b in
    ap (λ (u : List Interval). whole u (said_in kind.Record lines) (left before lines) (j ∷ said_in kind.Job lines)) (none-left kind.Used 4 lines (omega arith) f)
    ∙ ap (λ (r : List RecordLine). whole [] r (left before lines) (j ∷ said_in kind.Job lines)) (none-left kind.Record 4 lines (omega arith) f)
    ∙ ap (λ (e : List StateLine). e ++ map says.Job (j ∷ said_in kind.Job lines)) (none before)
    ∙ ap (λ (ls : List StateLine). says.Job j ∷ ls) (sym (late 4 lines (left (says.Job j) lines) [] (omega arith) f (none (says.Job j))) ∙ rest)

next-record : (before : StateLine) (r : RecordLine) (lines : List StateLine) → From 2 lines → left before lines ≡ left (says.Record r) lines →
    sections (says.Record r) lines ≡ lines →
    whole (said_in kind.Used lines) (r ∷ said_in kind.Record lines) (left before lines) (said_in kind.Job lines) ≡ says.Record r ∷ lines
next-record before r lines f same rest =
    let none = none-left kind.Used 2 lines (omega arith) f in
    let e = left (says.Record r) lines in
    ap (λ (x : List StateLine). whole (said_in kind.Used lines) (r ∷ said_in kind.Record lines) x (said_in kind.Job lines)) same
    ∙ ap (λ (u : List Interval). whole u (r ∷ said_in kind.Record lines) e (said_in kind.Job lines)) none
    ∙ ap (λ (ls : List StateLine). says.Record r ∷ ls) (ap (λ (u : List Interval). whole u (said_in kind.Record lines) e (said_in kind.Job lines)) (sym none) ∙ rest)

sections-are : (before : StateLine) (lines : List StateLine) → IsChain before lines → sections before lines ≡ lines
sections-are before [] c = append-nil (expected before [] [] []) ∙ expected-none before
sections-are before (says.Checkpoint events stopped ∷ lines) c = absurd (cc c.0)
sections-are (says.Checkpoint events stopped) (says.Used i ∷ lines) c = ap (λ (ls : List StateLine). says.Used i ∷ ls) (sections-are (says.Used i) lines c.1)
sections-are (says.Used b) (says.Used i ∷ lines) c = ap (λ (ls : List StateLine). says.Used i ∷ ls) (sections-are (says.Used i) lines c.1)
sections-are before (says.Used i ∷ lines) c = absurd (cc c.0)
sections-are (says.Checkpoint events stopped) (says.Record r ∷ lines) c =
    next-record (says.Checkpoint events stopped) r lines (place-chain 2 (says.Record r) lines c.1 (omega arith)) refl (sections-are (says.Record r) lines c.1)
sections-are (says.Used b) (says.Record r ∷ lines) c =
    next-record (says.Used b) r lines (place-chain 2 (says.Record r) lines c.1 (omega arith)) refl (sections-are (says.Record r) lines c.1)
sections-are (says.Record b) (says.Record r ∷ lines) c =
    next-record (says.Record b) r lines (place-chain 2 (says.Record r) lines c.1 (omega arith)) refl (sections-are (says.Record r) lines c.1)
sections-are before (says.Record r ∷ lines) c = absurd (cc c.0)
sections-are before (says.Session s ∷ lines) c =
    next-session before (says.Session s) lines (expected before (s ∷ said_in kind.Session lines) (said_in kind.Slot lines) (said_in kind.Queued lines)) (place-chain 3 (says.Session s) lines c.1 (omega arith))
    (opened before s lines c.0 c.1) (sections-are (says.Session s) lines c.1)
sections-are (says.Session b) (says.Slot l ∷ lines) c =
    next-session (says.Session b) (says.Slot l) lines (expected (says.Session b) (said_in kind.Session lines) (l ∷ said_in kind.Slot lines) (said_in kind.Queued lines)) (place-chain 3 (says.Slot l) lines c.1 (omega arith))
    (slot-next b.session l (said_in kind.Session lines) (said_in kind.Slot lines) (said_in kind.Queued lines) c.0) (sections-are (says.Slot l) lines c.1)
sections-are before (says.Slot l ∷ lines) c = absurd (cc c.0)
sections-are (says.Slot b) (says.Queued q ∷ lines) c =
    next-session (says.Slot b) (says.Queued q) lines (expected (says.Slot b) (said_in kind.Session lines) (said_in kind.Slot lines) (q ∷ said_in kind.Queued lines)) (place-chain 3 (says.Queued q) lines c.1 (omega arith))
    (queued-next b.session q (session_walk (said_in kind.Session lines) (said_in kind.Slot lines)) (said_in kind.Queued lines) c.0) (sections-are (says.Queued q) lines c.1)
sections-are before (says.Queued q ∷ lines) c = absurd (cc c.0)
sections-are before (says.Job j ∷ lines) c =
    jobs-left before j lines (place-chain 4 (says.Job j) lines c.1 (omega arith)) (sections-are (says.Job j) lines c.1)

-- a state of lines is walked in these lines
walk-lines : (lines : List StateLine) → AreInLineOrder lines → walk (with_lines no_state lines) ≡ lines
walk-lines [] order = absurd order
walk-lines (says.Checkpoint events stopped ∷ lines) order =
    ap walk (said-added (with_line no_state (says.Checkpoint events stopped)) (says.Checkpoint events stopped) lines order.1)
    ∙ ap (λ (ls : List StateLine). says.Checkpoint events stopped ∷ ls) (sections-are (says.Checkpoint events stopped) lines order.1)
walk-lines (l ∷ lines) order = absurd (cc order.0)

pub walk-is : (x : HubState) (lines : List StateLine) → AreStateLines x lines → walk x ≡ lines
walk-is x lines is = ap walk (sym is.say) ∙ walk-lines lines is.in_order

-- ---- its text

-- the text of a list of each kind, one behind the other
pub text-walk : (x : HubState) → state_text (walk x)
    ≡ with_feed (says.Checkpoint x.events x.stopped)
    ++ (flat_map (λ i. with_feed (says.Used i)) x.used
    ++ (flat_map (λ r. with_feed (says.Record r)) x.records
    ++ (state_text (session_walk x.sessions x.slots x.queued) ++ flat_map (λ j. with_feed (says.Job j)) x.jobs)))
text-walk x =
    let used = map says.Used x.used in
    let records = map says.Record x.records in
    let sessions = session_walk x.sessions x.slots x.queued in
    let jobs = map says.Job x.jobs in
    let first = with_feed (says.Checkpoint x.events x.stopped) in
    ap (λ (t : List ℕ). first ++ t)
    (flat_map-append with_feed used (records ++ (sessions ++ jobs))
    ∙ ap (λ (t : List ℕ). state_text used ++ t)
    (flat_map-append with_feed records (sessions ++ jobs)
    ∙ ap (λ (t : List ℕ). state_text records ++ t) (flat_map-append with_feed sessions jobs))
    ∙ (λ i. flat_map-map with_feed says.Used x.used i ++ (flat_map-map with_feed says.Record x.records i ++ (state_text sessions ++ flat_map-map with_feed says.Job x.jobs i))))
