-- A right and acted log is the one that its events and answers give.
use Rattle.std.proofs.Common.{◌≡◌, refl, sym, ◌∙◌, ap, List, [], ◌∷◌}
use Rattle.ftp_events.specs.declared.event.HubEvent.{HubEvent}
use Rattle.ftp_events.specs.Right.{with_decision, next_entry, log_of, events_of}
use Rattle.ftp_laws.proofs.Common.{Options, Action, Entry, Answer, decide, acts, IsRight, IsActed}

-- the actions of an entry do not hang on the actions that it has
pub acts-bare :
    (o : Options) (log : List Entry) (e : Entry) →
    acts o log (record { event = e.event; answer = e.answer; decision = e.decision; actions = [] }) ≡ acts o log e
unfolding acts
acts-bare o log e = refl

-- the next entry is the one that is there
pub next_entry-right :
    (o : Options) (log : List Entry) (e : Entry) →
    e.decision ≡ decide o log e.event e.answer →
    e.actions ≡ acts o log e →
    next_entry o log e.event e.answer ≡ e
next_entry-right o log e right acted =
    ap (with_decision o log e.event e.answer) (sym right) ∙
    ap (λ (xs : List Action). record { event = e.event; answer = e.answer; decision = e.decision; actions = xs }) (acts-bare o log e ∙ sym acted)

-- so is the whole log
pub log_of-events_of :
    (o : Options) (log : List Entry) → IsRight o log →
    IsActed o log → log_of o (events_of log) ≡ log
log_of-events_of o [] r a = refl
log_of-events_of o (e ∷ log) r a =
    ap (λ (l : List Entry). next_entry o l e.event e.answer ∷ l) (log_of-events_of o log r.0 a.0) ∙
    ap (λ (x : Entry). x ∷ log) (next_entry-right o log e r.1 a.1)

-- with its next entry a right and acted log is right and acted
pub right-next_entry :
    (o : Options) (log : List Entry) (event : HubEvent) (answer : Answer) →
    IsRight o log × IsActed o log →
    IsRight o (next_entry o log event answer ∷ log) × IsActed o (next_entry o log event answer ∷ log)
right-next_entry o log event answer before =
    ((before.0, refl), (before.1, acts-bare o log (next_entry o log event answer)))

-- so the log of any events and answers is
pub log_of-right :
    (o : Options) (xs : List (HubEvent × Answer)) →
    IsRight o (log_of o xs) × IsActed o (log_of o xs)
log_of-right o [] = (tt, tt)
log_of-right o (x ∷ xs) = right-next_entry o (log_of o xs) x.0 x.1 (log_of-right o xs)
