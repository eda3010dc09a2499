use Rattle.std.proofs.Common.{◌≡◌, sym, ap, ◌∙◌, ℕ, List, [], ◌∷◌, ◌++◌}
use Rattle.ftp_base.specs.declared.reply.Reply.TheVariants as reply
use Rattle.ftp_base.specs.declared.reply.ReplyCode.TheVariants as code
use Rattle.ftp_events.specs.declared.action.Action.TheVariants as action
use Rattle.ftp_events.specs.declared.action.Action.{Action}
use Rattle.ftp_events.specs.declared.event.EventKind.{EventKind}
use Rattle.ftp_events.specs.Reply.{queued_text}
use Rattle.ftp_handlers.specs.Rooms.{actions_in}
use Rattle.ftp_handlers.specs.Handlers.{number_of}
use Rattle.ftp_handlers.proofs.transfer.handle.Goals as goal
use Rattle.ftp_handlers.proofs.transfer.handle.Goals.{in-Transfer, in-Stou}

-- the text is that of the command
pub returns-in-Transfer-args-clause-actions : goal.returns-in-Transfer-args-clause-actions
returns-in-Transfer-args-clause-actions c answer job =
    let k : EventKind = c.args.args.now in
    let tell : ℕ → List ℕ → List Action = λ s text. action.Reply s 0 (reply.CodeAndMsg code.FileStatusOkay text) ∷ [] in
    let empty : actions_in c.take_pending.new.self ≡ [] = ap actions_in c.take_pending.ensures.same ∙ c.requires.room.actions in
    let number : c.match-args.number ≡ number_of k =
    elim c.match-args.branch [
      | in-Transfer w ↦ w.number-is ∙ ap number_of (sym w.in-Transfer.is)
      | in-Stou w ↦ w.number-is ∙ ap number_of (sym w.in-Stou.is)
    ] in
    c.reply-in-Transfer-args.ensures.actions
    ∙ ap (λ before. before ++ tell c.match-args.number c.ready_text.result.now) empty
    ∙ ap (tell c.match-args.number) (c.ready_text.ensures c.in-Transfer-args.session ∙ ap queued_text (sym c.in-Transfer-args.is))
    ∙ ap (λ s. tell s (queued_text k)) number
