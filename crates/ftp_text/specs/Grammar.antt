-- Which lines are those of a state, and what they say together.
--
-- The first line is that of the checkpoint. Whether a further line may stand behind the lines before it is told by the last
-- of these: intervals do not touch, records rise by key, sessions and jobs by number, a slot stands behind its session, and a
-- waiting transfer behind its slot.
use Rattle.std.specs.Prelude.{◌≡◌, ℕ, ◌+◌, nat_lt, ◌==◌, ◌&&◌, ◌||◌, not, Bool, true, false, List, [], ◌∷◌, ◌++◌, Option, is_some}
use Rattle.std.specs.List.{AllByRecursion}
use Rattle.std.specs.declared.cmp.Ordering.{Ordering}
use Rattle.std.specs.declared.cmp.Ordering.TheVariants as order
use Rattle.ftp_switchboard.specs.declared.numbers.Interval.{Interval}
use Rattle.ftp_lockout.specs.Keys.{key_cmp}
use Rattle.ftp_hub.specs.declared.state.HubState.{HubState}
use Rattle.ftp_hub.specs.declared.state.RecordLine.{RecordLine}
use Rattle.ftp_hub.specs.State.{record_key}
use Rattle.ftp_text.specs.declared.state_line.StateLine.{StateLine}
use Rattle.ftp_text.specs.declared.state_line.StateLine.TheVariants as says
use Rattle.ftp_text.specs.Spelling.{IsStateLine, state_line}

-- ---- what may stand behind what

-- the first line
abbrev pub is_first_line : StateLine → Bool
is_first_line (says.Checkpoint events stopped) = true
is_first_line _ = false

-- an interval: at least one number lies between it and the one before it
abbrev pub used_follows : StateLine → Interval → Bool
used_follows (says.Checkpoint events stopped) i = true
used_follows (says.Used before) i = nat_lt (before.hi + 1) i.lo
used_follows _ i = false

-- both have something, or neither has
abbrev pub is_alike : {A : Type 0} → Option A → Option A → Bool
is_alike a b = (is_some a && is_some b) || not (is_some a || is_some b)

abbrev pub is_less : Ordering → Bool
is_less order.Less = true
is_less _ = false

-- the records are of one policy, and the key of the second is the higher one
abbrev pub precedes : RecordLine → RecordLine → Bool
precedes a b = (is_alike a.ip b.ip && is_alike a.user b.user) && is_less (key_cmp (record_key a) (record_key b))

-- a record
abbrev pub record_follows : StateLine → RecordLine → Bool
record_follows (says.Checkpoint events stopped) r = true
record_follows (says.Used i) r = true
record_follows (says.Record before) r = precedes before r
record_follows _ r = false

-- the line of session n
abbrev pub session_follows : StateLine → ℕ → Bool
session_follows (says.Session s) n = nat_lt s.session n
session_follows (says.Slot l) n = nat_lt l.session n
session_follows (says.Queued q) n = nat_lt q.session n
session_follows (says.Job j) n = false
session_follows _ n = true

-- the line of its slot
abbrev pub slot_follows : StateLine → ℕ → Bool
slot_follows (says.Session s) n = s.session == n
slot_follows _ n = false

-- the line of its waiting transfer
abbrev pub queued_follows : StateLine → ℕ → Bool
queued_follows (says.Slot l) n = l.session == n
queued_follows _ n = false

-- the line of its job
abbrev pub job_follows : StateLine → ℕ → Bool
job_follows (says.Job j) n = nat_lt j.job.ticket.session n
job_follows _ n = true

-- the second line may stand behind the first
abbrev pub follows : StateLine → StateLine → Bool
follows before (says.Checkpoint events stopped) = false
follows before (says.Used i) = used_follows before i
follows before (says.Record r) = record_follows before r
follows before (says.Session s) = session_follows before s.session
follows before (says.Slot l) = slot_follows before l.session
follows before (says.Queued q) = queued_follows before q.session
follows before (says.Job j) = job_follows before j.job.ticket.session

-- ---- the lines of a state

-- each line may stand behind the one before it
abbrev pub IsChain : StateLine → List StateLine → Type 0
IsChain before [] = Unit {0}
IsChain before (line ∷ lines) = (follows before line ≡ true) × IsChain line lines

-- the lines are in order: that of the checkpoint first, and each behind one that it may stand behind
abbrev pub AreInLineOrder : List StateLine → Type 0
AreInLineOrder [] = ⊥
AreInLineOrder (line ∷ lines) = (is_first_line line ≡ true) × IsChain line lines

-- whether a line may stand behind these
abbrev pub may_stand_behind : List StateLine → StateLine → Bool
may_stand_behind [] line = is_first_line line
may_stand_behind (before ∷ []) line = follows before line
may_stand_behind (first ∷ before ∷ lines) line = may_stand_behind (before ∷ lines) line

-- the new lines are the old ones and one that may stand behind them, which fits its type and is spelled so
abbrev pub IsNextLine : List StateLine → List ℕ → List StateLine → Type 0
IsNextLine old text new =
    (line : StateLine) × (state_line line ≡ text) × IsStateLine line × (may_stand_behind old line ≡ true) × (new ≡ old ++ line ∷ [])

-- ---- what lines say

-- nothing yet
abbrev pub no_state : HubState
no_state = record { events = 0; stopped = false; used = []; records = []; sessions = []; slots = []; queued = []; jobs = [] }

-- what a line says besides
abbrev pub with_line : HubState → StateLine → HubState
with_line x (says.Checkpoint events stopped) = record x { events = events; stopped = stopped }
with_line x (says.Used i) = record x { used = x.used ++ i ∷ [] }
with_line x (says.Record r) = record x { records = x.records ++ r ∷ [] }
with_line x (says.Session s) = record x { sessions = x.sessions ++ s ∷ [] }
with_line x (says.Slot l) = record x { slots = x.slots ++ l ∷ [] }
with_line x (says.Queued q) = record x { queued = x.queued ++ q ∷ [] }
with_line x (says.Job j) = record x { jobs = x.jobs ++ j ∷ [] }

-- what lines say besides
abbrev pub with_lines : HubState → List StateLine → HubState
with_lines x [] = x
with_lines x (line ∷ lines) = with_lines (with_line x line) lines

-- these are the lines of the state: they are in order, each fits its type, and they say the state
pub record AreStateLines (x : HubState) (lines : List StateLine) : Type 0 where
  pub in_order : AreInLineOrder lines
  pub fit : AllByRecursion IsStateLine lines
  pub say : with_lines no_state lines ≡ x

-- the lists of the state have the order and the form of lines
abbrev pub HasForm : HubState → Type 0
HasForm x = (lines : List StateLine) × AreStateLines x lines
