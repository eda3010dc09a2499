use Rattle.std.proofs.Common.{◌≡◌, refl}
use Rattle.ftp_hub.proofs.Common.{Hub}
use Rattle.ftp_handlers.specs.Rooms.{actions_in}
use Rattle.ftp_hub.proofs.Moved.{same-lent}
use Rattle.ftp_hub.proofs.Refusals.{stands-taken}
use Rattle.ftp_hub.proofs.hub.Hub.step.Goals as goal

-- the hub stands for the longer log, whatever it keeps for the next event
pub returns-clause-stands : goal.returns-clause-stands
returns-clause-stands c log st =
    let h : Hub = c.enter-decision.new.self in
    let taken : c.take_actions-actions.result ≡ actions_in c.enter-decision.new.room = cc in
    stands-taken h _ log c.args.event c.args.answer c.enter-decision.result (actions_in c.enter-decision.new.room) c.take_actions-actions.result
    (record { head = record { options = refl; count = refl; counters = refl }; tables = same-lent h _ (λ q. refl) refl refl refl refl refl refl }) taken (c.enter-decision.ensures.stands log st)

-- a refused event changes no table
pub returns-clause-refused : goal.returns-clause-refused
returns-clause-refused c log st refused =
    let same = c.enter-decision.ensures.refused log st refused in
    record { sessions = same.sessions; live = same.live; jobs = same.jobs; running = same.running; numbers = same.numbers; holders = same.holders; failures = same.failures; stopped = same.stopped }
