use Rattle.std.proofs.Common.{◌≡◌, refl, sym, ap, ◌∙◌, false, None, []}
use Rattle.std.specs.Prelude.{nat_eq}
use Rattle.std.specs.HashMap as map
use Rattle.ftp_hub.proofs.Common.{is_used, past_of}
use Rattle.ftp_handlers.specs.Rooms.{actions_in}
use Rattle.ftp_hub.proofs.Openings.{serves-opened, unused-none}
use Rattle.ftp_hub.proofs.hub.Hub.open.Goals as goal

-- a new session
pub returns-clause-serves : goal.returns-clause-serves
returns-clause-serves c log st =
    let s = c.args.number in
    let unused : is_used (past_of log) s ≡ false = sym (st.tables.numbers s) ∙ c.requires.unused in
    let absent : map.get nat_eq c.args.self.now.sessions s ≡ None = st.tables.sessions s ∙ unused-none c.args.self.now.options (past_of log) s unused in
    let nothing : actions_in c.take_kept.new.self ≡ [] = ap actions_in c.take_kept.ensures.same ∙ c.requires.ready.actions in
    serves-opened c.args.self.now _ log c.args.event.now c.args.answer s c.args.opening _ st c.requires.of_this_event unused c.requires.going nothing refl
    (λ q. rw (sym c.new_session.ensures) (c.put-2.ensures.updates q)) (c.put-2.ensures.len absent) refl c.put.ensures (λ a p. refl) refl refl
