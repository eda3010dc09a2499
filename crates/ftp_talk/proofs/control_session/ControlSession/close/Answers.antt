use Rattle.ftp_talk.specs.Ground.{AClose}
use Rattle.ftp_talk.specs.Parts.{turns_of, due_pieces}
use Rattle.ftp_talk.proofs.EndLemmas.{asking-close, talk-closed, front-halted, ends-front}
use Rattle.ftp_talk.proofs.control_session.ControlSession.close.Goals as goal

pub returns-in-Ok-clause-ended : goal.returns-in-Ok-clause-ended
returns-in-Ok-clause-ended g c = λ q d hs rest about s may.
    let asking = asking-close q c.args.self.now _ _ _ (turns_of s.parted.parts) (due_pieces q s.parted.parts) s.speaking in
    talk-closed q _ _ _ _ _ _ _ _ d hs rest c.in-Ok.field-0 s (c.in-Ok.ensures.spoke q (turns_of s.parted.parts) (due_pieces q s.parted.parts) AClose about.0 asking) may

pub returns-in-Err-clause-ended : goal.returns-in-Err-clause-ended
returns-in-Err-clause-ended g c = λ q d hs rest about s may.
    let asking = asking-close q c.args.self.now _ _ _ (turns_of s.parted.parts) (due_pieces q s.parted.parts) s.speaking in
    rw c.end_by.ensures
    (ends-front c.in-Err.halt q _ _ _ hs
    (front-halted q _ _ _ _ _ _ _ _ d hs rest s (c.in-Err.ensures.spoke q (turns_of s.parted.parts) (due_pieces q s.parted.parts) AClose about.0 asking) may))
