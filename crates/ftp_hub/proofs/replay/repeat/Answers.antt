use Rattle.std.proofs.Common.{◌≡◌, ◌∷◌, ◌∙◌, sym, ap, subst, List}
use Rattle.ftp_events.specs.declared.entry.Entry.{Entry}
use Rattle.ftp_hub.specs.Stands.{Stands}
use Rattle.ftp_hub.proofs.Refusals.{stands-same}
use Rattle.ftp_hub.proofs.replay.repeat.Goals as goal

-- the hub that has made its step stands for the log with the new entry
pub returns-in-Ok-clause-stands : goal.returns-in-Ok-clause-stands
returns-in-Ok-clause-stands c = λ st.
    let log = c.args.log.now.entries in
    let next = c.step.ensures.stands log (stands-same c.args.hub.now c.prepare.new.self log c.prepare.ensures.same st) in
    let pushed : c.push_reserved.new.self.entries ≡ c.step.result ∷ log =
    c.push_reserved.ensures.pushed ∙ ap (λ log. c.step.result ∷ log) c.make_room.ensures.same
    in
    subst (λ (log : List Entry). Stands c.step.new.self log) (sym pushed) next
