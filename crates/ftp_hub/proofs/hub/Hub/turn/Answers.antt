use Rattle.std.proofs.Common.{◌≡◌, refl, sym, ◌∙◌, false}
use Rattle.ftp_hub.proofs.Common.{is_used, past_of}
use Rattle.ftp_hub.proofs.Stops.{serves-late}
use Rattle.ftp_hub.proofs.hub.Hub.turn.Goals as goal

-- the connection is closed
pub returns-clause-serves : goal.returns-clause-serves
returns-clause-serves c log st =
    let unused : is_used (past_of log) c.args.number ≡ false = sym (st.tables.numbers c.args.number) ∙ c.requires.unused in
    serves-late c.args.self.now _ log c.args.event.now c.args.answer _ c.args.number st c.requires.of_this_event unused c.requires.stopped
    (rw (c.close.ensures.actions, c.requires.ready.actions) refl) refl refl refl c.put.ensures (λ a p. refl) refl refl
