use Rattle.std.proofs.Common.{sym, ◌∙◌, subst}
use Rattle.std.proofs.lemmas.Result.{err_from_is_err_and}
use Rattle.ftp_hub.proofs.Common.{IsActed, IsRight, Options}
use Rattle.ftp_hub.specs.State.{AreMadeBy, IsState}
use Rattle.ftp_hub.proofs.hub.Hub.resumed.Goals as goal

-- the state has the form of one
pub from_state-requires : goal.from_state-requires
from_state-requires c = record { form = c.in_ok-state.ensures.form c.requires.log.0 c.requires.log.1 }

-- the hub stands for each log of which it is the state
pub returns-clause-stands : goal.returns-clause-stands
returns-clause-stands c log st =
    let own = c.in_ok-options.ensures in
    c.in_ok-hub.ensures.stands log
    (subst (λ (o : Options). IsRight o log) (sym own) st.right)
    (subst (λ (o : Options). IsActed o log) (sym own) st.acted)
    (subst (λ (o : Options). IsState o log c.in_ok-state.state) (sym own) (c.in_ok-state.ensures.state log st))

-- it has counted as many events
pub returns-clause-count : goal.returns-clause-count
returns-clause-count c = c.in_ok-hub.ensures.count ∙ sym (c.in_ok-state.ensures.tells c.requires.log.0 c.requires.log.1).events

-- the state of a log is refused for want of memory alone
pub returns-in_err-hub-clause-memory : goal.returns-in_err-hub-clause-memory
returns-in_err-hub-clause-memory c =
    let own = c.in_ok-options.ensures in
    let st = c.requires.log.1 in
    let log = c.requires.log.0 in
    let p = err_from_is_err_and c.from_residual-in_err-hub.result c.from_residual-in_err-hub.ensures.1 in
    rw (p.1, p.2)
    (c.in_err-hub.ensures.lawful log
    (subst (λ (o : Options). IsRight o log) (sym own) st.right)
    (subst (λ (o : Options). IsActed o log) (sym own) st.acted)
    (subst (λ (o : Options). IsState o log c.in_ok-state.state) (sym own) (c.in_ok-state.ensures.state log st))
    (subst (λ (o : Options). AreMadeBy o.lockout c.in_ok-state.state.records) (sym own) c.in_ok-state.ensures.made))
