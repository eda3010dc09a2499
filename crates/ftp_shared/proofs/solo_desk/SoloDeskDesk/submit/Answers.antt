use Rattle.std.proofs.Common.{sym, ap, ◌∙◌, subst, ℕ, List, ◌∷◌, Some}
use Rattle.ftp_base.specs.declared.reply.Reply.{Reply}
use Rattle.ftp_events.specs.declared.entry.Entry.{Entry}
use Rattle.ftp_shared.specs.Desk.{IsVouched}
use Rattle.ftp_shared.specs.Outbox.{outbox_after, outbox_of, own_session}
use Rattle.ftp_shared.proofs.TurnLemmas.{turn-vouched}
use Rattle.ftp_shared.proofs.SubmitLemmas.{turn-appends}
use Rattle.ftp_shared.proofs.solo_desk.SoloDeskDesk.submit.Goals as goal

-- what the locked hub gives is vouched for
pub returns-clause-vouched : goal.returns-clause-vouched
returns-clause-vouched g c =
    let o = g.L.Serving.options in
    let turn = c.in-Ok-append_for in
    λ _.
    subst (λ (xs : List (ℕ × Reply)). IsVouched o xs c.told.result.entry) (sym c.told.ensures.earlier)
    (subst (λ (e : Entry). IsVouched o turn.turn.earlier e) (sym c.told.ensures.entry) (turn-vouched o turn.turn c.args.event c.args.answer turn.ensures.next))

-- and its journal grows by it
pub returns-clause-appended : goal.returns-clause-appended
returns-clause-appended g c =
    let old = c.args.self.now.locked in
    let log = old.journal.entries in
    let turn = c.in-Ok-append_for in
    let same = c.told.ensures.entry in
    turn-appends g.L.Serving.options old.hub log old.outbox c.args.event c.args.answer
    c.told.result.entry c.told.result.earlier _ _ _ _ _
    old.kept (same ∙ turn.ensures.due) (ap Some (turn.ensures.journal ∙ ap (λ (e : Entry). e ∷ log) (sym same)))
    (c.told.ensures.earlier ∙ turn.ensures.earlier)
    (λ s. turn.ensures.outbox s ∙ ap (λ (e : Entry). outbox_after (own_session c.args.event.kind) e (outbox_of old.outbox log) s) (sym same))
