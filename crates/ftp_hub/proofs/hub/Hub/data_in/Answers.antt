use Rattle.std.proofs.Common.{◌≡◌, refl, sym, ◌∙◌, true}
use Rattle.ftp_events.specs.declared.decision.Decision.TheVariants as decision
use Rattle.ftp_hub.proofs.Common.{decide, is_used, past_of}
use Rattle.ftp_hub.proofs.Refusals.{serves-refused}
use Rattle.ftp_hub.proofs.hub.Hub.data_in.Goals as goal

-- a connection of another mode is refused
pub returns-then-not-is_pooled-clause-serves : goal.returns-then-not-is_pooled-clause-serves
unfolding decide
returns-then-not-is_pooled-clause-serves c log st =
    serves-refused c.args.self.now log c.args.event.now c.args.answer decision.Misplaced _ st (rw (c.in-DataIn.is, sym c.if-not-is_pooled.ensures) refl) refl c.requires.ready.ready.actions

-- so is an address of version 6
pub returns-in_default-ip-clause-serves : goal.returns-in_default-ip-clause-serves
unfolding decide
returns-in_default-ip-clause-serves c log st =
    serves-refused c.args.self.now log c.args.event.now c.args.answer decision.Misplaced _ st (rw (c.in-DataIn.is, sym c.if-not-is_pooled.ensures, c.in_default-ip.is) refl) refl c.requires.ready.ready.actions

-- and a number that was used
pub returns-then-has-clause-serves : goal.returns-then-has-clause-serves
unfolding decide
returns-then-has-clause-serves c log st =
    let used : is_used (past_of log) c.in-DataIn.number ≡ true = sym (st.tables.numbers c.in-DataIn.number) ∙ sym c.has.ensures ∙ c.if-has.true in
    serves-refused c.args.self.now log c.args.event.now c.args.answer decision.UsedNumber _ st (rw (c.in-DataIn.is, sym c.if-not-is_pooled.ensures, c.in-V4.is, used) refl) refl c.requires.ready.ready.actions
