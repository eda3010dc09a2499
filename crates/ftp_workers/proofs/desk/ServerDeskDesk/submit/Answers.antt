use Rattle.std.proofs.Common.{◌≡◌, ◌∙◌, ℕ, ◌+◌, ap, subst, true, arith}
use Rattle.std.proofs.lemmas.Result.{on_ok_weaker, on_err_weaker}
use Rattle.std.specs.Bool.{then_some}
use Rattle.ftp_base.specs.Outside.{HasRisen}
use Rattle.ftp_hub.specs.declared.prepare.PrepareError.TheVariants.{Exhausted}
use Rattle.ftp_shared.specs.Desk.{IsVouched, RisesBy}
use Rattle.ftp_shared.specs.Next.{IsTurnAt}
use Rattle.ftp_shared.proofs.DeskLemmas.{rises-told}
use Rattle.ftp_shared.proofs.TurnLemmas.{turn-answer, turn-event, turn-vouched}
use Rattle.ftp_workers.proofs.ResultLemmas.{on_err-all, on_ok-all}
use Rattle.ftp_workers.proofs.TellingLemmas.{if_ok-told, err_of-told, on_ok-given}
use Rattle.ftp_workers.proofs.desk.ServerDeskDesk.submit.Goals as goal

-- what the hub gives has the event
pub returns-clause-event : goal.returns-clause-event
returns-clause-event g c =
    if_ok-told c.submit_for-turn.result c.tell.result (λ t. IsTurnAt g.H.JournalHub.options t c.args.event c.args.answer) (λ told. told.entry.event ≡ c.args.event)
    c.tell.ensures.told (λ t next. turn-event g.H.JournalHub.options t c.args.event c.args.answer next) c.submit_for-turn.ensures.next

-- and the answer that were handed in
pub returns-clause-answer : goal.returns-clause-answer
returns-clause-answer g c =
    if_ok-told c.submit_for-turn.result c.tell.result (λ t. IsTurnAt g.H.JournalHub.options t c.args.event c.args.answer) (λ told. told.entry.answer ≡ c.args.answer)
    c.tell.ensures.told (λ t next. turn-answer g.H.JournalHub.options t c.args.event c.args.answer next) c.submit_for-turn.ensures.next

-- and is vouched for
pub returns-clause-vouched : goal.returns-clause-vouched
returns-clause-vouched g c =
    if_ok-told c.submit_for-turn.result c.tell.result (λ t. IsTurnAt g.H.JournalHub.options t c.args.event c.args.answer) (λ told. IsVouched g.H.JournalHub.options told.earlier told.entry)
    c.tell.ensures.told (λ t next. turn-vouched g.H.JournalHub.options t c.args.event c.args.answer next) c.submit_for-turn.ensures.next

-- an entry is counted, and perhaps one before it
pub returns-clause-share : goal.returns-clause-share
returns-clause-share g c =
    let made = g.H.JournalHub.made in
    let counts = g.H.JournalHub.counts in
    if_ok-told c.submit_for-turn.result c.tell.result (λ t. counts ≡ true → made c.submit_for-turn.new.pass ≡ made c.accept_before.new.self.pass + 1)
    (λ told. RisesBy 1 (then_some counts (made c.args.self.now.pass)) (then_some counts (made c.tell.new.self.pass)))
    c.tell.ensures.told
    (λ t one. rises-told counts 1 (made c.args.self.now.pass) (made c.tell.new.self.pass)
    (λ on. let step = one on in omega (arith, step, c.accept_before.ensures.share, ap made c.tell.ensures.pass)))
    (on_ok-given c.submit_for-turn.result (counts ≡ true) (made c.submit_for-turn.new.pass ≡ made c.accept_before.new.self.pass + 1) c.submit_for-turn.ensures.share)

pub returns-clause-alone : goal.returns-clause-alone
returns-clause-alone g c = λ on quiet.
    let made = g.H.JournalHub.made in
    if_ok-told c.submit_for-turn.result c.tell.result (λ t. made c.submit_for-turn.new.pass ≡ made c.accept_before.new.self.pass + 1)
    (λ told. made c.tell.new.self.pass ≡ made c.args.self.now.pass + 1)
    c.tell.ensures.told
    (λ t one. ap made c.tell.ensures.pass ∙ one ∙ ap (λ (n : ℕ). n + 1) (c.accept_before.ensures.none quiet))
    (c.submit_for-turn.ensures.share on)

pub returns-clause-second : goal.returns-clause-second
returns-clause-second g c =
    let made = g.H.JournalHub.made in
    on_ok-all c.tell.result (omega (arith, c.accept_before.ensures.once, c.submit_for-turn.ensures.once, ap made c.tell.ensures.pass))

pub returns-clause-same_share : goal.returns-clause-same_share
returns-clause-same_share g c =
    let made = g.H.JournalHub.made in
    on_err-all c.tell.result
    (rises-told g.H.JournalHub.counts 0 (made c.args.self.now.pass) (made c.tell.new.self.pass)
    (λ on. omega (arith, c.submit_for-turn.ensures.kept_share, c.accept_before.ensures.share, ap made c.tell.ensures.pass)))

-- what was refused is counted by the telling alone
pub returns-clause-unrefused : goal.returns-clause-unrefused
returns-clause-unrefused g c = on_ok_weaker c.tell.result (λ same. same ∙ c.accept_before.ensures.refused) c.tell.ensures.unrefused

pub returns-clause-refused_rose : goal.returns-clause-refused_rose
returns-clause-refused_rose g c =
    on_err_weaker c.tell.result (λ rose. subst (λ (n : ℕ). HasRisen n c.tell.new.self.refused) c.accept_before.ensures.refused rose) c.tell.ensures.refused_rose

pub returns-clause-exhausted : goal.returns-clause-exhausted
returns-clause-exhausted g c = λ e.
    c.submit_for-turn.ensures.exhausted (err_of-told c.submit_for-turn.result c.tell.result Exhausted c.tell.ensures.told e)
