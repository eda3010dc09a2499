-- The lines of a state's lists, as one walk over the lists writes them.
use Rattle.std.specs.Prelude.{ℕ, ◌==◌, List, [], ◌∷◌, ◌++◌, map as each, if◌then◌else◌}
use Rattle.ftp_hub.specs.declared.state.HubState.{HubState}
use Rattle.ftp_hub.specs.declared.state.QueuedLine.{QueuedLine}
use Rattle.ftp_hub.specs.declared.state.SessionLine.{SessionLine}
use Rattle.ftp_hub.specs.declared.state.SlotLine.{SlotLine}
use Rattle.ftp_text.specs.declared.state_line.StateLine.{StateLine}
use Rattle.ftp_text.specs.declared.state_line.StateLine.TheVariants as says

-- what goes on behind the lines of slots and transfers that are left
abbrev pub Onward : Type 0
Onward = List SlotLine → List QueuedLine → List StateLine

-- the next transfer, where it is of session n
abbrev pub own_queued : ℕ → (List QueuedLine → List StateLine) → List QueuedLine → List StateLine
own_queued n more [] = more []
own_queued n more (q ∷ queued) = if q.session == n then says.Queued q ∷ more queued else more (q ∷ queued)

-- the next slot, where it is of session n, and its transfer
abbrev pub own_slot : ℕ → Onward → Onward
own_slot n more [] queued = more [] queued
own_slot n more (l ∷ slots) queued =
    if l.session == n then says.Slot l ∷ own_queued n (more slots) queued else more (l ∷ slots) queued

-- the sessions, each with what is its own
abbrev pub session_walk : List SessionLine → Onward
session_walk [] slots queued = []
session_walk (s ∷ sessions) slots queued = says.Session s ∷ own_slot s.session (session_walk sessions) slots queued

-- the lines of all lists
abbrev pub walk : HubState → List StateLine
walk x =
    says.Checkpoint x.events x.stopped
    ∷ each says.Used x.used ++ (each says.Record x.records ++ (session_walk x.sessions x.slots x.queued ++ each says.Job x.jobs))
