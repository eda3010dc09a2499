use Rattle.std.proofs.Common.{◌≡◌, refl, sym, ap, ◌∙◌, true, false, List, [], Some, None, cond}
use Rattle.std.specs.Prelude.{nat_eq}
use Rattle.std.specs.Option.{option_copied}
use Rattle.std.specs.HashMap as map
use Rattle.std.proofs.lemmas.Bool.{not-false, not-true}
use Rattle.ftp_hub.proofs.Common.{Action, Answer, Entry, EventKind, Hub, HubEvent, Running, Serves, Stands, Ticket, job_ticket}
use Rattle.ftp_events.specs.declared.decision.Decision.TheVariants as decision
use Rattle.ftp_events.specs.declared.event.Answer.TheVariants as answer
use Rattle.ftp_events.specs.EndRows.{can_end, can_move, unless_marked}
use Rattle.ftp_events.specs.Transfer.{same_ticket}
use Rattle.ftp_hub.specs.Endings.{is_piece}
use Rattle.ftp_hub.proofs.Refusals.{serves-refused}
use Rattle.ftp_hub.proofs.Ends.{end-due, going-due, piece-is, row_of, row-done, row-headed, row-unmoved, row-unrun}
use Rattle.ftp_hub.proofs.hub.Hub.end.Goals as goal

-- a job that is not to stop goes on as it was where its row does not expect the answer
unexpected :
    (hub : Hub) (log : List Entry) (event : HubEvent) (answer : Answer) (t : Ticket) (job : Running) (done : List Action) →
    Stands hub log → job_ticket event.kind ≡ Some t → map.get nat_eq hub.jobs t.session ≡ Some job →
    same_ticket job.job.ticket t ≡ true → job.marked ≡ false → done ≡ [] → row_of event.kind job.job answer ≡ decision.NotExpected →
    Serves hub hub log event answer decision.NotExpected done
unexpected hub log event answer t job done st told there same going nothing row =
    serves-refused hub log event answer decision.NotExpected done st (sym (going-due hub log event answer t job st told there same going ∙ row)) refl nothing

-- no job runs for the session
pub returns-in_default-clause-serves : goal.returns-in_default-clause-serves
returns-in_default-clause-serves c log st =
    let there : map.get nat_eq c.args.self.now.jobs c.args.ticket.session ≡ None = sym c.get.ensures.value ∙ ap option_copied c.in_default.is in
    serves-refused c.args.self.now log c.args.event.now c.args.answer decision.UnknownNumber _ st
    (sym (end-due c.args.self.now log c.args.event.now c.args.answer c.args.ticket None st c.requires.of_this_event there)) refl c.requires.fits.ready.actions

-- another job runs
pub returns-then-ne-clause-serves : goal.returns-then-ne-clause-serves
returns-then-ne-clause-serves c log st =
    let k : EventKind = c.args.event.now.kind in
    let job : Running = c.in-Some.running.now in
    let there : map.get nat_eq c.args.self.now.jobs c.args.ticket.session ≡ Some job = sym c.get.ensures.value ∙ ap option_copied c.in-Some.is in
    let other : same_ticket job.job.ticket c.args.ticket ≡ false = not-true _ (sym c.if-ne.ensures) in
    serves-refused c.args.self.now log c.args.event.now c.args.answer decision.UnknownNumber _ st
    (sym (end-due c.args.self.now log c.args.event.now c.args.answer c.args.ticket (Some job) st c.requires.of_this_event there
    ∙ ap (λ b. cond b (unless_marked job (row_of k job.job c.args.answer)) decision.UnknownNumber) other))
    refl c.requires.fits.ready.actions

-- an answer that the job does not accept
pub returns-then-not-is_piece-clause-serves : goal.returns-then-not-is_piece-clause-serves
returns-then-not-is_piece-clause-serves c log st =
    let job : Running = c.in-Some.running.now in
    unexpected c.args.self.now log c.args.event.now c.args.answer c.args.ticket job _ st c.requires.of_this_event
    (sym c.get.ensures.value ∙ ap option_copied c.in-Some.is) (not-false _ (sym c.if-ne.ensures)) c.if-running.false c.requires.fits.ready.actions
    (ap (row_of c.args.event.now.kind job.job) c.in-Moved.is ∙ row-unmoved c.args.event.now.kind job.job c.in-Moved.bytes (sym c.if-not-is_piece.ensures))

pub returns-then-not-can_move-clause-serves : goal.returns-then-not-can_move-clause-serves
returns-then-not-can_move-clause-serves c log st =
    let k : EventKind = c.args.event.now.kind in
    let job : Running = c.in-Some.running.now in
    let piece : is_piece k ≡ true = sym c.if-not-is_piece.ensures in
    let unfit : can_move job.job c.in-Moved.bytes ≡ false = sym c.if-not-can_move.ensures in
    unexpected c.args.self.now log c.args.event.now c.args.answer c.args.ticket job _ st c.requires.of_this_event
    (sym c.get.ensures.value ∙ ap option_copied c.in-Some.is) (not-false _ (sym c.if-ne.ensures)) c.if-running.false c.requires.fits.ready.actions
    (ap (row_of k job.job) c.in-Moved.is
    ∙ ap (λ (x : EventKind). row_of x job.job (answer.Moved c.in-Moved.bytes)) (piece-is k c.args.ticket piece c.requires.of_this_event)
    ∙ ap (λ b. cond b decision.Moved decision.NotExpected) unfit)

pub returns-then-not-can_end-clause-serves : goal.returns-then-not-can_end-clause-serves
returns-then-not-can_end-clause-serves c log st =
    let k : EventKind = c.args.event.now.kind in
    let job : Running = c.in-Some.running.now in
    let unfit : can_end job.job c.in-Done.outcome ≡ false = sym c.if-not-can_end.ensures in
    unexpected c.args.self.now log c.args.event.now c.args.answer c.args.ticket job _ st c.requires.of_this_event
    (sym c.get.ensures.value ∙ ap option_copied c.in-Some.is) (not-false _ (sym c.if-ne.ensures)) c.if-running.false c.requires.fits.ready.actions
    (ap (row_of k job.job) c.in-Done.is
    ∙ row-done k job.job c.in-Done.outcome
    ∙ ap (λ b. cond b decision.Finished decision.NotExpected) unfit)

-- it was not run
pub returns-in-None-clause-serves : goal.returns-in-None-clause-serves
returns-in-None-clause-serves c log st =
    let job : Running = c.in-Some.running.now in
    unexpected c.args.self.now log c.args.event.now c.args.answer c.args.ticket job _ st c.requires.of_this_event
    (sym c.get.ensures.value ∙ ap option_copied c.in-Some.is) (not-false _ (sym c.if-ne.ensures)) c.if-running.false c.requires.fits.ready.actions
    (ap (row_of c.args.event.now.kind job.job) c.in-None.is ∙ row-unrun c.args.event.now.kind job.job)

pub returns-in-Header-clause-serves : goal.returns-in-Header-clause-serves
returns-in-Header-clause-serves c log st =
    let job : Running = c.in-Some.running.now in
    unexpected c.args.self.now log c.args.event.now c.args.answer c.args.ticket job _ st c.requires.of_this_event
    (sym c.get.ensures.value ∙ ap option_copied c.in-Some.is) (not-false _ (sym c.if-ne.ensures)) c.if-running.false c.requires.fits.ready.actions
    (ap (row_of c.args.event.now.kind job.job) c.in-Header.is ∙ row-headed c.args.event.now.kind job.job c.in-Header.field-0)
