use Rattle.ftp_talk.proofs.control.open_session.Goals as goal

pub returns-in-Ok-submit_opening-clause-opened : goal.returns-in-Ok-submit_opening-clause-opened
returns-in-Ok-submit_opening-clause-opened g c = λ s.
    let begun = rw c.options.ensures.told at c.in-Ok.ensures in
    c.in-Ok-submit_opening.ensures.opened s c.in-Ok.state begun.0 begun.1 begun.2
