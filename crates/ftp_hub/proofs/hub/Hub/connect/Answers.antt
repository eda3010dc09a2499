use Rattle.std.proofs.Common.{◌≡◌, refl, sym, ◌∙◌, true}
use Rattle.ftp_hub.proofs.Common.{decide, is_used, past_of}
use Rattle.ftp_events.specs.declared.decision.Decision.TheVariants as decision
use Rattle.ftp_hub.proofs.Refusals.{serves-refused}
use Rattle.ftp_hub.proofs.hub.Hub.connect.Goals as goal

-- a connection beside the proxy, or of an address of version 6, is refused
pub returns-then-is_misplaced-clause-serves : goal.returns-then-is_misplaced-clause-serves
unfolding decide
returns-then-is_misplaced-clause-serves c log st =
    let misplaced = sym c.is_misplaced.ensures ∙ c.if-is_misplaced.true in
    serves-refused c.args.self.now log c.args.event.now c.args.answer decision.Misplaced _ st (rw (c.in-Connect.is, misplaced) refl) refl c.requires.ready.actions

-- so is a number that was used
pub returns-then-has-clause-serves : goal.returns-then-has-clause-serves
unfolding decide
returns-then-has-clause-serves c log st =
    let placed = sym c.is_misplaced.ensures ∙ c.if-is_misplaced.false in
    let used : is_used (past_of log) c.in-Connect.session ≡ true = sym (st.tables.numbers c.in-Connect.session) ∙ sym c.has.ensures ∙ c.if-has.true in
    serves-refused c.args.self.now log c.args.event.now c.args.answer decision.UsedNumber _ st (rw (c.in-Connect.is, placed, used) refl) refl c.requires.ready.actions
