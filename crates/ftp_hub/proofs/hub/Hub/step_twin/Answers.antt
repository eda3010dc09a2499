use Rattle.std.proofs.Common.{◌≡◌, refl, sym, ap, ◌∙◌, subst, ◌∷◌, List, Option}
use Rattle.std.specs.Option.{option_and_then, option_map}
use Rattle.ftp_hub.proofs.Common.{Action, Entry, Hub, IsActed, IsRight, Options, Pending, entry, options_of, past_of}
use Rattle.ftp_hub.specs.declared.twin.Copies.{Copies}
use Rattle.ftp_handlers.specs.Rooms.{actions_in}
use Rattle.ftp_hub.specs.Stands.{pending_for}
use Rattle.ftp_hub.specs.Twin.{can_start, first_start, job_at, started_job}
use Rattle.ftp_hub.proofs.Twins.{job-is, start-either}
use Rattle.ftp_hub.proofs.Moved.{same-lent}
use Rattle.ftp_hub.proofs.Refusals.{stands-taken}
use Rattle.ftp_hub.proofs.hub.Hub.step_twin.Goals as goal

-- the hub stands for the longer log, whatever it keeps for the next event
pub returns-clause-stands : goal.returns-clause-stands
returns-clause-stands c log st =
    let h : Hub = c.enter-decision.new.self in
    let taken : c.take_twin-actions.result.0 ≡ actions_in c.enter-decision.new.room = cc in
    stands-taken h _ log c.args.event c.args.answer c.enter-decision.result (actions_in c.enter-decision.new.room) c.take_twin-actions.result.0
    (record { head = record { options = refl; count = refl; counters = refl }; tables = same-lent h _ (λ q. refl) refl refl refl refl refl refl }) taken (c.enter-decision.ensures.stands log st)

-- a refused event changes no table
pub returns-clause-refused : goal.returns-clause-refused
returns-clause-refused c log st refused =
    let same = c.enter-decision.ensures.refused log st refused in
    record { sessions = same.sessions; live = same.live; jobs = same.jobs; running = same.running; numbers = same.numbers; holders = same.holders; failures = same.failures; stopped = same.stopped }

-- the job is made of the copy of its transfer
pub returns-clause-job : goal.returns-clause-job
returns-clause-job c log st =
    let hub = c.args.self.now in
    let k = c.args.event.kind in
    let d = c.enter-decision.result in
    let e : Entry = entry c.args.event c.args.answer d (actions_in c.enter-decision.new.room) in
    let taken : c.take_twin-actions.result.0 ≡ actions_in c.enter-decision.new.room = cc in
    let stood = c.enter-decision.ensures.stands log st in
    let right : IsRight hub.options (e ∷ log) = subst (λ (o : Options). IsRight o (e ∷ log)) c.enter-decision.ensures.options stood.right in
    let acted : IsActed hub.options (e ∷ log) = subst (λ (o : Options). IsActed o (e ∷ log)) c.enter-decision.ensures.options stood.acted in
    let copies : Copies = c.args.room.copies.value in
    let lent : c.deref_mut-4.result.now ≡ record copies { event = c.take_event-copy.new.self.event } =
    c.deref_mut-4.ensures.value ∙ c.take_event-copy.ensures.same ∙ ap (λ (x : Copies). record x { event = c.take_event-copy.new.self.event }) c.deref_mut-3.ensures.value in
    c.start-job.ensures
    ∙ start-either (can_start d c.deref_mut-4.result.now.asked c.deref_mut-4.result.now.waiting) (first_start c.as_slice.result.now)
    ∙ ap (λ (xs : List Action). option_and_then (λ p. option_map (job_at p) (first_start xs)) (can_start d c.deref_mut-4.result.now.asked c.deref_mut-4.result.now.waiting)) (c.as_slice.ensures ∙ taken)
    ∙ ap (λ (x : Copies). option_and_then (λ p. option_map (job_at p) (first_start e.actions)) (can_start d x.asked x.waiting)) lent
    ∙ ap (option_and_then (λ p. option_map (job_at p) (first_start e.actions)))
    (ap (λ (x : Option Pending). can_start d x copies.waiting) c.requires.asked
    ∙ ap (can_start d (pending_for hub k)) c.requires.waiting)
    ∙ job-is hub log e st right.1 acted.1
    ∙ ap (λ xs. started_job (options_of hub) (past_of log) (entry c.args.event c.args.answer d xs)) (sym taken)
