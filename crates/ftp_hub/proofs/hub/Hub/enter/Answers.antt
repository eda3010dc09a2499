use Rattle.std.proofs.Common.{◌≡◌, refl, sym, ap, ◌∙◌, subst, [], ◌∷◌, List, Option, arith}
use Rattle.ftp_hub.proofs.Common.{Action, Answer, Decision, Entry, Hub, IsActed, IsRight, Options, acts, decide, entry}
use Rattle.ftp_events.specs.declared.counters.Counters.{Counters}
use Rattle.ftp_events.specs.declared.status.Ended.{Ended}
use Rattle.ftp_handlers.specs.Rooms.{actions_in}
use Rattle.ftp_hub.specs.Stands.{ended_in}
use Rattle.ftp_hub.proofs.Counting.{Notes, counted-more}
use Rattle.ftp_hub.proofs.Refusals.{same-refused}
use Rattle.ftp_hub.proofs.Moved.{tables-lent}
use Rattle.ftp_hub.proofs.hub.Hub.enter.Goals as goal

-- the entry that is due
pub returns-clause-due : goal.returns-clause-due
unfolding acts
returns-clause-due c log st =
    let served = c.serve-decision.ensures.serves log st in
    let done : actions_in c.serve-decision.new.room ≡ acts c.args.self.now.options log (record { event = c.args.event.now; answer = c.args.answer; decision = c.serve-decision.result; actions = [] }) = served.done in
    let due : Decision → List Action = λ d. acts c.args.self.now.options log (record { event = c.args.event.now; answer = c.args.answer; decision = d; actions = [] }) in
    λ i. record {
      event = c.args.event.now;
      answer = c.args.answer;
      decision = served.decision i;
      actions = (done ∙ ap due served.decision) i;
    }

-- a refused event changes no table
pub returns-clause-refused : goal.returns-clause-refused
returns-clause-refused c log st refused =
    let same = same-refused c.args.self.now c.serve-decision.new.self log c.args.event.now c.args.answer c.serve-decision.result (actions_in c.serve-decision.new.room) c.serve-decision.ensures.head.options st (c.serve-decision.ensures.serves log st) refused in
    record { sessions = same.sessions; live = same.live; jobs = same.jobs; running = same.running; numbers = same.numbers; holders = same.holders; failures = same.failures; stopped = same.stopped }

-- the hub stands for the longer log, and what the entry tells was counted
pub returns-clause-stands : goal.returns-clause-stands
unfolding decide acts
returns-clause-stands c log st =
    let h : Hub = c.serve-decision.new.self in
    let e : Entry = entry c.args.event.now c.args.answer c.serve-decision.result (actions_in c.serve-decision.new.room) in
    let head = c.serve-decision.ensures.head in
    let served = c.serve-decision.ensures.serves log st in
    record {
      right = subst (λ (o : Options). IsRight o (e ∷ log)) (sym head.options) (st.right, served.decision);
      acted = subst (λ (o : Options). IsActed o (e ∷ log)) (sym head.options) (st.acted, served.done);
      tables = tables-lent h _ _ refl (λ q. refl) refl refl refl refl refl refl served.tables;
      counted = omega (arith, head.count, st.counted);
    }

-- what the entry tells was counted
pub returns-clause-counters : goal.returns-clause-counters
unfolding decide acts
returns-clause-counters c log st told =
    let old : Hub = c.args.self.now in
    let h : Hub = c.serve-decision.new.self in
    let event = c.args.event.now in
    let a : Answer = c.args.answer in
    let d : Decision = c.serve-decision.result in
    let done : List Action = actions_in c.serve-decision.new.room in
    let counters : Counters = c.note.new.self in
    let head = c.serve-decision.ensures.head in
    let notes : Notes h.options a d c.actions.result.now c.ended-ended.result h.counters counters = c.note.ensures.counted in
    let by_done : Notes h.options a d done c.ended-ended.result h.counters counters =
    subst (λ (xs : List Action). Notes h.options a d xs c.ended-ended.result h.counters counters) c.actions.ensures notes
    in
    let by_ended : Notes h.options a d done (ended_in old event.kind) h.counters counters =
    subst (λ (x : Option Ended). Notes h.options a d done x h.counters counters) c.ended-ended.ensures by_done
    in
    let by_old : Notes h.options a d done (ended_in old event.kind) old.counters counters =
    subst (λ (x : Counters). Notes h.options a d done (ended_in old event.kind) x counters) head.counters by_ended
    in
    let by_options : Notes old.options a d done (ended_in old event.kind) old.counters counters =
    subst (λ (o : Options). Notes o a d done (ended_in old event.kind) old.counters counters) head.options by_old
    in
    counted-more old log event a d done counters st told c.requires.below by_options (λ r. c.note.ensures.refused r ∙ head.counters)
