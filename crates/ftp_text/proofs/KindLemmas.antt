-- The lines of each kind among the lines of a state, and in which order they stand.
use Rattle.std.proofs.Common.{◌≡◌, ℕ, ◌+◌, ◌*◌, ◌<◌, ◌≤◌, Bool, true, false, ◌||◌, cond, eqb, List, [], ◌∷◌, map, Option, Some, None, refl, sym, ap, ◌∙◌, arith}
use Rattle.std.specs.Prelude.{is_some}
use Rattle.std.specs.List.{AllByRecursion, cons_option, filter_map, list_any}
use Rattle.std.specs.Option.{option_map_or}
use Rattle.std.proofs.lemmas.Bool.{eqb-true, ltb-true}
use Rattle.ftp_switchboard.specs.declared.numbers.Interval.{Interval}
use Rattle.ftp_laws.specs.Census.{IsAscending}
use Rattle.ftp_hub.specs.declared.state.HubState.{HubState}
use Rattle.ftp_hub.specs.declared.state.JobLine.{JobLine}
use Rattle.ftp_hub.specs.declared.state.QueuedLine.{QueuedLine}
use Rattle.ftp_hub.specs.declared.state.RecordLine.{RecordLine}
use Rattle.ftp_hub.specs.declared.state.SessionLine.{SessionLine}
use Rattle.ftp_hub.specs.declared.state.SlotLine.{SlotLine}
use Rattle.ftp_hub.specs.State.{line_of}
use Rattle.ftp_text.specs.declared.state_line.StateLine.{StateLine}
use Rattle.ftp_text.specs.declared.state_line.StateLine.TheVariants as says
use Rattle.ftp_text.specs.Fields.{Each}
use Rattle.ftp_text.specs.Grammar.{follows, IsChain}

-- ---- the lines of a kind

-- the kinds of lines that a state has lists of
pub data Kind : Type 0 where
  Used : Kind
  Record : Kind
  Session : Kind
  Slot : Kind
  Queued : Kind
  Job : Kind

-- what a line of the kind says
abbrev pub Said : Kind → Type 0
Said Used = Interval
Said Record = RecordLine
Said Session = SessionLine
Said Slot = SlotLine
Said Queued = QueuedLine
Said Job = JobLine

-- what the line says, if it is of the kind
abbrev pub said : (k : Kind) → StateLine → Option (Said k)
said Used (says.Used i) = Some i
said Record (says.Record r) = Some r
said Session (says.Session s) = Some s
said Slot (says.Slot l) = Some l
said Queued (says.Queued q) = Some q
said Job (says.Job j) = Some j
said _ _ = None

-- what the lines of the kind say
abbrev pub said_in : (k : Kind) → List StateLine → List (Said k)
said_in k lines = filter_map (said k) lines

-- the list of the kind in a state
abbrev pub list_of : (k : Kind) → HubState → List (Said k)
list_of Used x = x.used
list_of Record x = x.records
list_of Session x = x.sessions
list_of Slot x = x.slots
list_of Queued x = x.queued
list_of Job x = x.jobs

-- what is told of each line of the kind holds of what they say
pub said-all : (k : Kind) (P : StateLine → Type 0) (Q : Said k → Type 0) → ((l : StateLine) → P l → Each Q (said k l)) →
    (lines : List StateLine) → AllByRecursion P lines → AllByRecursion Q (said_in k lines)
said-all k P Q each [] f = tt
said-all k P Q each (l ∷ lines) f = by (said k l) (each l f.0) (said-all k P Q each lines f.1) where
  by : (o : Option (Said k)) → Each Q o → AllByRecursion Q (said_in k lines) → AllByRecursion Q (cons_option o (said_in k lines))
  by None holds more = more
  by (Some x) holds more = (holds, more)

-- lines that are made of the list of a kind say the list
pub own-said : (k : Kind) (line : Said k → StateLine) → ((x : Said k) → said k (line x) ≡ Some x) → (xs : List (Said k)) → said_in k (map line xs) ≡ xs
own-said k line own [] = refl
own-said k line own (x ∷ xs) = λ i. cons_option (own x i) (own-said k line own xs i)

-- and nothing of another kind
pub none-said : {A : Type 0} (k : Kind) (line : A → StateLine) → ((x : A) → said k (line x) ≡ None) → (xs : List A) → said_in k (map line xs) ≡ []
none-said k line none [] = refl
none-said k line none (x ∷ xs) = λ i. cons_option (none x i) (none-said k line none xs i)

-- ---- their order

-- the lines of sessions, slots and transfers stand among each other, and the other kinds one behind the other
abbrev pub place_of : Kind → ℕ
place_of Used = 1
place_of Record = 2
place_of Job = 4
place_of _ = 3

abbrev pub place : StateLine → ℕ
place (says.Checkpoint events stopped) = 0
place (says.Used i) = 1
place (says.Record r) = 2
place (says.Job j) = 4
place _ = 3

-- a slot stands behind its session, and a transfer behind its slot
abbrev pub number_of : StateLine → ℕ
number_of (says.Session s) = 3 * s.session
number_of (says.Slot l) = 3 * l.session + 1
number_of (says.Queued q) = 3 * q.session + 2
number_of (says.Job j) = j.job.ticket.session
number_of _ = 0

-- the line is of a later place than p, or of this place and, from the sessions on, of a higher number than n
pub record IsPast (p n : ℕ) (l : StateLine) : Type 0 where
  later : p ≤ place l
  above : 3 ≤ p → p ≡ place l → n < number_of l

rising : (b l : StateLine) → place b ≤ place l → number_of b < number_of l → IsPast (place b) (number_of b) l
rising b l le lt = record { later = le; above = λ from same. lt }

past-step : (b l : StateLine) → follows b l ≡ true → IsPast (place b) (number_of b) l
past-step (says.Session b) (says.Session l) h = rising (says.Session b) (says.Session l) (omega arith) (omega (arith, ltb-true _ _ h))
past-step (says.Slot b) (says.Session l) h = rising (says.Slot b) (says.Session l) (omega arith) (omega (arith, ltb-true _ _ h))
past-step (says.Queued b) (says.Session l) h = rising (says.Queued b) (says.Session l) (omega arith) (omega (arith, ltb-true _ _ h))
past-step (says.Session b) (says.Slot l) h = rising (says.Session b) (says.Slot l) (omega arith) (omega (arith, eqb-true _ _ h))
past-step (says.Slot b) (says.Queued l) h = rising (says.Slot b) (says.Queued l) (omega arith) (omega (arith, eqb-true _ _ h))
past-step (says.Job b) (says.Job l) h = rising (says.Job b) (says.Job l) (omega arith) (omega (arith, ltb-true _ _ h))
past-step b (says.Checkpoint events stopped) h = absurd cc
past-step b l h = record { later = first_of (omega arith, cc); above = λ from same. first_of (omega arith, cc) }

-- all lines behind a line that is there or past it are past it
pub past-chain : (p n : ℕ) (b : StateLine) (lines : List StateLine) → IsChain b lines → p ≤ place b → (3 ≤ p → p ≡ place b → n ≤ number_of b) → AllByRecursion (IsPast p n) lines
past-chain p n b [] c le at = tt
past-chain p n b (l ∷ lines) c le at =
    let step = past-step b l c.0 in
    let next : IsPast p n l = record {
      later = omega (arith, le, step.later);
      above = λ from same.
          let here : p ≡ place b = omega (arith, le, step.later, same) in
          omega (arith, at from here, step.above (omega (arith, from, le)) (sym here ∙ same));
    } in
    (next, past-chain p n l lines c.1 next.later (λ from same. omega (arith, next.above from same)))

-- all lines are of this place or of a later one
abbrev pub From : ℕ → List StateLine → Type 0
From n lines = AllByRecursion (λ l. n ≤ place l) lines

pub place-chain : (n : ℕ) (b : StateLine) (lines : List StateLine) → IsChain b lines → n ≤ place b → From n lines
place-chain n b [] c le = tt
place-chain n b (l ∷ lines) c le =
    let next : n ≤ place l = omega (arith, le, (past-step b l c.0).later) in (next, place-chain n l lines c.1 next)

not-said : (k : Kind) (l : StateLine) → place_of k < place l → said k l ≡ None
not-said Used (says.Used i) lt = absurd (omega (arith, lt))
not-said Record (says.Record r) lt = absurd (omega (arith, lt))
not-said Session (says.Session s) lt = absurd (omega (arith, lt))
not-said Slot (says.Slot l) lt = absurd (omega (arith, lt))
not-said Queued (says.Queued q) lt = absurd (omega (arith, lt))
not-said Job (says.Job j) lt = absurd (omega (arith, lt))
not-said _ _ lt = refl

-- among lines of later places there is none of the kind
pub none-left : (k : Kind) (n : ℕ) (lines : List StateLine) → place_of k < n → From n lines → said_in k lines ≡ []
none-left k n [] lt f = refl
none-left k n (l ∷ lines) lt f = λ i. cons_option (not-said k l (omega (arith, lt, f.0)) i) (none-left k n lines lt f.1 i)

-- ---- the numbers of sessions

-- the session of a line from the sessions on
abbrev pub session_in : (k : Kind) → Said k → ℕ
session_in Session s = s.session
session_in Slot l = l.session
session_in Queued q = q.session
session_in Job j = j.job.ticket.session
session_in _ _ = 0

from-each : (k : Kind) (n : ℕ) (l : StateLine) → place_of k ≡ 3 → IsPast 3 (3 * n) l → Each (λ x. n ≤ session_in k x) (said k l)
from-each Used n (says.Used i) at f = absurd (omega (arith, at))
from-each Record n (says.Record r) at f = absurd (omega (arith, at))
from-each Session n (says.Session s) at f = omega (arith, f.above (omega arith) refl)
from-each Slot n (says.Slot l) at f = omega (arith, f.above (omega arith) refl)
from-each Queued n (says.Queued q) at f = omega (arith, f.above (omega arith) refl)
from-each Job n (says.Job j) at f = absurd (omega (arith, at))
from-each _ n _ at f = tt

-- past the line of a session there is none of an earlier one
pub said-from : (k : Kind) (n : ℕ) (lines : List StateLine) → place_of k ≡ 3 → AllByRecursion (IsPast 3 (3 * n)) lines → AllByRecursion (λ x. n ≤ session_in k x) (said_in k lines)
said-from k n lines at f = said-all k (IsPast 3 (3 * n)) (λ x. n ≤ session_in k x) (λ l past. from-each k n l at past) lines f

-- a line that is past one of its kind is of a later session
rises : (k : Kind) (b l : StateLine) → 3 ≤ place_of k → IsPast (place b) (number_of b) l → Each (λ x. Each (λ y. session_in k x < session_in k y) (said k l)) (said k b)
rises Used (says.Used b) (says.Used l) from f = absurd (omega (arith, from))
rises Record (says.Record b) (says.Record l) from f = absurd (omega (arith, from))
rises Session (says.Session b) (says.Session l) from f = omega (arith, f.above (omega arith) refl)
rises Slot (says.Slot b) (says.Slot l) from f = omega (arith, f.above (omega arith) refl)
rises Queued (says.Queued b) (says.Queued l) from f = omega (arith, f.above (omega arith) refl)
rises Job (says.Job b) (says.Job l) from f = omega (arith, f.above (omega arith) refl)
rises _ _ _ from f = tt

all-map : {A : Type 0} (f : A → ℕ) (P : ℕ → Type 0) (xs : List A) → AllByRecursion (λ x. P (f x)) xs → AllByRecursion P (map f xs)
all-map f P [] all = tt
all-map f P (x ∷ xs) all = (all.0, all-map f P xs all.1)

-- the sessions of the lines of a kind rise
pub ascend : (k : Kind) → 3 ≤ place_of k → (b : StateLine) (lines : List StateLine) → IsChain b lines → IsAscending (map (session_in k) (said_in k lines))
ascend k from b [] c = tt
ascend k from b (l ∷ lines) c = by (said k l) (λ m past. rises k l m from past) (ascend k from l lines c.1) where
  by : (o : Option (Said k)) →
      ((m : StateLine) → IsPast (place l) (number_of l) m → Each (λ x. Each (λ y. session_in k x < session_in k y) (said k m)) o) →
      IsAscending (map (session_in k) (said_in k lines)) → IsAscending (map (session_in k) (cons_option o (said_in k lines)))
  by None above more = more
  by (Some x) above more = (
    all-map (session_in k) (λ m. session_in k x < m) (said_in k lines)
        (said-all k (IsPast (place l) (number_of l)) (λ y. session_in k x < session_in k y) above lines
        (past-chain (place l) (number_of l) l lines c.1 (omega arith) (λ from same. omega arith))),
    more,
  )

-- ---- lines of one session

-- the line is one of the kind, of session n
abbrev pub is_of : (k : Kind) → ℕ → StateLine → Bool
is_of k n l = option_map_or (λ x. eqb (session_in k x) n) (said k l) false

-- there is a line of session n if one of the lines is
pub some-of : (k : Kind) (n : ℕ) (lines : List StateLine) → is_some (line_of (session_in k) (said_in k lines) n) ≡ list_any (is_of k n) lines
some-of k n [] = refl
some-of k n (l ∷ lines) = by (said k l) (some-of k n lines) where
  first : (b : Bool) (x : Said k) (o : Option (Said k)) (more : Bool) → is_some o ≡ more → is_some (cond b (Some x) o) ≡ (b || more)
  first true x o more e = refl
  first false x o more e = e

  by : (o : Option (Said k)) → is_some (line_of (session_in k) (said_in k lines) n) ≡ list_any (is_of k n) lines →
      is_some (line_of (session_in k) (cons_option o (said_in k lines)) n) ≡ (option_map_or (λ x. eqb (session_in k x) n) o false || list_any (is_of k n) lines)
  by None e = e
  by (Some x) e = first (eqb (session_in k x) n) x (line_of (session_in k) (said_in k lines) n) (list_any (is_of k n) lines) e

either : (a b p q : Bool) → (a ≡ true → p ≡ true) → (b ≡ true → q ≡ true) → (a || b) ≡ true → (p || q) ≡ true
either true b p q f g h = ap (λ t. t || q) (f refl)
either false b true q f g h = refl
either false b false q f g h = g h

-- where each line of kind k stands behind one of kind j of its session, such a line is among the lines
pub has-before : (j k : Kind) (n : ℕ) → ((b l : StateLine) → follows b l ≡ true → is_of k n l ≡ true → is_of j n b ≡ true) →
    (b : StateLine) (lines : List StateLine) → IsChain b lines → list_any (is_of k n) lines ≡ true → list_any (is_of j n) (b ∷ lines) ≡ true
has-before j k n step b [] c h = absurd cc
has-before j k n step b (l ∷ lines) c h =
    either (is_of k n l) (list_any (is_of k n) lines) (is_of j n b) (list_any (is_of j n) (l ∷ lines))
    (step b l c.0) (has-before j k n step l lines c.1) h
