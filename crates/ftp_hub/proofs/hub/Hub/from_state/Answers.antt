use Rattle.std.proofs.Common.{◌≡◌, sym, ap, ◌∙◌, subst}
use Rattle.std.specs.Prelude.{◌⊎◌}
use Rattle.std.specs.List.{list_any}
use Rattle.std.proofs.lemmas.Result.{err_from_is_err_and}
use Rattle.ftp_hub.proofs.Common.{IsActed, IsRight, Options}
use Rattle.ftp_hub.proofs.Lawful.{logs-pass}
use Rattle.ftp_hub.proofs.Refusing.{by-tables, not-refused}
use Rattle.ftp_hub.proofs.States.{stands-told}
use Rattle.ftp_hub.proofs.Telling.{holders-told, kept-told}
use Rattle.ftp_hub.specs.declared.state.StateError.{StateError}
use Rattle.ftp_hub.specs.declared.state.StateError.TheVariants.{OutOfMemory}
use Rattle.ftp_hub.specs.Refused.{GivesCause, HasCause, IsFirst, is_of_v6}
use Rattle.ftp_hub.specs.State.{IsState}
use Rattle.ftp_hub.proofs.hub.Hub.from_state.Goals as goal

-- the hub tells what its tables told
pub returns-clause-told : goal.returns-clause-told
returns-clause-told c =
    let kept = c.in_ok-hub.ensures in
    kept-told c.in_ok-tables.tables c.in_ok-hub.hub c.args.state
    (record { sessions = kept.sessions; jobs = kept.jobs; numbers = kept.numbers; failures = kept.failures; stopped = kept.stopped; options = kept.options; count = kept.count })
    c.in_ok-tables.ensures.told

-- and each port is held by who waits for it
pub returns-clause-holds : goal.returns-clause-holds
returns-clause-holds c =
    let kept = c.in_ok-hub.ensures in
    holders-told c.in_ok-tables.tables c.in_ok-hub.hub c.args.state
    (record { sessions = kept.sessions; jobs = kept.jobs; numbers = kept.numbers; failures = kept.failures; stopped = kept.stopped; options = kept.options; count = kept.count })
    c.in_ok-tables.ensures.told kept.held kept.nobody

-- so it stands for the logs of which this is the state
pub returns-clause-stands : goal.returns-clause-stands
returns-clause-stands c log right acted is =
    let own : c.in_ok-hub.hub.options ≡ c.args.options = c.in_ok-hub.ensures.options ∙ c.in_ok-tables.ensures.options in
    stands-told c.in_ok-hub.hub log c.args.state
    (subst (λ (o : Options). IsRight o log) (sym own) right)
    (subst (λ (o : Options). IsActed o log) (sym own) acted)
    (subst (λ (o : Options). IsState o log c.args.state) (sym own) is)
    (returns-clause-told c) (returns-clause-holds c)

-- nothing gives cause to a refusal
pub returns-clause-passed : goal.returns-clause-passed
returns-clause-passed c =
    by-tables c.args.options c.in_ok-tables.tables c.args.state c.has_v6-brings_v6.result c.in_ok-tables.ensures.told c.in_ok-tables.ensures.options (c.has_v6-brings_v6.ensures ∙ ap (list_any is_of_v6) c.as_slice.ensures)
    (λ k live jobs v6. (e : StateError) → GivesCause k live jobs v6 e → ⊥) c.in_ok-hub.ensures.passed

-- what is refused is so for want of memory, or first
pub returns-in_err-hub-clause-refused : goal.returns-in_err-hub-clause-refused
returns-in_err-hub-clause-refused c =
    let e : StateError = c.in_err-hub.field-0.0 in
    let p = err_from_is_err_and c.from_residual-in_err-hub.result c.from_residual-in_err-hub.ensures.1 in
    rw (p.1, p.2)
    (by-tables c.args.options c.in_ok-tables.tables c.args.state c.has_v6-brings_v6.result c.in_ok-tables.ensures.told c.in_ok-tables.ensures.options (c.has_v6-brings_v6.ensures ∙ ap (list_any is_of_v6) c.as_slice.ensures)
    (λ k live jobs v6. (e ≡ OutOfMemory) ⊎ IsFirst (GivesCause k live jobs v6) e) c.in_err-hub.ensures.refused)

-- the state of a log is refused for want of memory alone
pub returns-in_err-hub-clause-lawful : goal.returns-in_err-hub-clause-lawful
returns-in_err-hub-clause-lawful c =
    let e : StateError = c.in_err-hub.field-0.0 in
    let p = err_from_is_err_and c.from_residual-in_err-hub.result c.from_residual-in_err-hub.ensures.1 in
    let refused =
    by-tables c.args.options c.in_ok-tables.tables c.args.state c.has_v6-brings_v6.result c.in_ok-tables.ensures.told c.in_ok-tables.ensures.options (c.has_v6-brings_v6.ensures ∙ ap (list_any is_of_v6) c.as_slice.ensures)
    (λ k live jobs v6. (e ≡ OutOfMemory) ⊎ IsFirst (GivesCause k live jobs v6) e) c.in_err-hub.ensures.refused
    in
    rw (p.1, p.2)
    (λ log right acted is made.
    not-refused (HasCause c.args.options c.args.state) e refused (logs-pass c.args.options log c.args.state e right acted is made))
