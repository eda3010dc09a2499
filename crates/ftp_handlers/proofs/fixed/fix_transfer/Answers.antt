use Rattle.std.proofs.Common.{sym, ap, ◌∙◌, ℕ, List, Option, Some}
use Rattle.ftp_base.specs.declared.command.DataChanCmd.TheVariants.{Stor}
use Rattle.ftp_events.specs.declared.event.EventKind.{EventKind}
use Rattle.ftp_events.specs.declared.session.Pending.{Pending}
use Rattle.ftp_events.specs.declared.session.Session.{Session}
use Rattle.ftp_events.specs.Login.{logged_user}
use Rattle.ftp_events.specs.Transfer.{pending_of}
use Rattle.ftp_handlers.specs.Handlers.{asked_for, kept_by, next_ticket}
use Rattle.ftp_handlers.proofs.fixed.fix_transfer.Goals as goal

-- STOU stores under the unique name that is kept
pub returns-in_ok-pending_of-in-Stou : goal.returns-in_ok-pending_of-in-Stou
returns-in_ok-pending_of-in-Stou c =
    let v : Session = c.args.session.now in
    let made : ℕ → List ℕ → Option Pending = λ n path. Some (pending_of (next_ticket n v) (logged_user v.login v.name) v.cwd v.offset (Stor path)) in
    ap Some c.in_ok-pending_of-in-Stou.ensures
    ∙ ap (made c.in-Stou.number) (c.in_ok-path-in-Stou.ensures ∙ c.requires)
    ∙ ap (λ (k : EventKind). made c.in-Stou.number (kept_by k v)) c.in-Stou.is
    ∙ ap (λ (k : EventKind). asked_for k v) (sym c.in-Stou.is)
