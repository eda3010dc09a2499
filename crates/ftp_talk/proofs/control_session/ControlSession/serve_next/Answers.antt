use Rattle.std.proofs.Common.{ap, ◌∙◌}
use Rattle.std.specs.Prelude.{Ok}
use Rattle.ftp_control.specs.ControlLine.{held_in}
use Rattle.ftp_talk.specs.Turns.{LineDue}
use Rattle.ftp_talk.proofs.ServeLemmas.{cut-here}
use Rattle.ftp_talk.proofs.EndLemmas.{found-within, standing-got, standing-out, talking-sent, talking-on}
use Rattle.ftp_talk.proofs.ControlLemmas.{ends-with}
use Rattle.ftp_talk.proofs.HeardLemmas.{only-ok}
use Rattle.ftp_talk.proofs.ResultLemmas.{if_none-then, if_some-then, risen-either, said-either}
use Rattle.ftp_talk.proofs.control_session.ControlSession.serve_next.Goals as goal

pub serve_got-next-requires : goal.serve_got-next-requires
serve_got-next-requires g c = record { within = found-within c.next_control_line.new.buffer c.in-Ok.got _ c.in-Ok.ensures.found }

pub returns-in-Ok-clause-goes_on : goal.returns-in-Ok-clause-goes_on
returns-in-Ok-clause-goes_on g c =
    if_none-then c.proceed.result (λ h q x0 hs is hears t.
    let left1 = g.C.Source.left c.next_control_line.new.control in
    let held1 = held_in c.next_control_line.new.buffer c.next_control_line.new.held in
    let st = standing-got q c.args.self.now _ _ _ _ hs c.next_control_line.new.buffer c.in-Ok.got g.C.Control.is_always_ready _ held1 _ left1 c.next_control_line.ensures.sent t c.in-Ok.ensures.told c.in-Ok.ensures.found (λ b e. c.in-Ok.ensures.always b (ap Ok e)) in
    let w = c.serve_got-next.ensures.served q x0 hs st.0 is hears st.1 st.2 in
    (w.0, only-ok c.serve_got-next.result h.1 w.2, talking-on q _ _ _ _ w.0 held1 st.0 left1 _ (h.2 q w.0 st.0 w.3) st.3 (h.0 ∙ c.serve_got-next.ensures.control.left)))
    c.proceed.ensures.goes_on

pub returns-in-Ok-clause-ended : goal.returns-in-Ok-clause-ended
returns-in-Ok-clause-ended g c =
    if_some-then c.proceed.result (λ e h q x0 hs is hears t.
    let held1 = held_in c.next_control_line.new.buffer c.next_control_line.new.held in
    let st = standing-got q c.args.self.now _ _ _ _ hs c.next_control_line.new.buffer c.in-Ok.got g.C.Control.is_always_ready _ held1 _ _ c.next_control_line.ensures.sent t c.in-Ok.ensures.told c.in-Ok.ensures.found (λ b e. c.in-Ok.ensures.always b (ap Ok e)) in
    let w = c.serve_got-next.ensures.served q x0 hs st.0 is hears st.1 st.2 in
    ends-with (g.X.Extras.may x0) (g.X.Extras.pending x0) e q _ _ _ w.0 w.1 (h q w.0 st.0 is.about w.3))
    c.proceed.ensures.ended

pub returns-in-Ok-clause-write_fault : goal.returns-in-Ok-clause-write_fault
returns-in-Ok-clause-write_fault g c = λ e.
    risen-either _ _ _ _ c.serve_got-next.ensures.control.fault_rose (c.proceed.ensures.write_fault e) c.next_control_line.ensures.count c.serve_got-next.ensures.control.count c.proceed.ensures.count

pub returns-in-Ok-clause-exhausted : goal.returns-in-Ok-clause-exhausted
returns-in-Ok-clause-exhausted g c = λ e. said-either c.serve_got-next.ensures.exhausted (c.proceed.ensures.exhausted e)

pub returns-in-Ok-End-clause-ended : goal.returns-in-Ok-End-clause-ended
returns-in-Ok-End-clause-ended g c = λ q x0 hs is hears t.
    let st = standing-out q c.args.self.now _ _ _ _ hs _ (held_in c.next_control_line.new.buffer c.next_control_line.new.held) _ (g.C.Source.left c.next_control_line.new.control) c.next_control_line.ensures.sent t (rw c.in-Ok-End.field-0-is at c.in-Ok-End.ensures.told) (c.next_control_line.ensures.end (c.in-Ok-End.is ∙ ap Ok c.in-Ok-End.field-0-is)) (rw c.in-Ok-End.field-0-is at c.in-Ok-End.ensures.found) in
    ends-with (g.X.Extras.may x0) (g.X.Extras.pending x0) c.close.result q _ _ _ hs hears.allowed (c.close.ensures.ended q LineDue hs st.0 is.about st.1 st.2)

pub returns-in-Err-clause-ended : goal.returns-in-Err-clause-ended
returns-in-Err-clause-ended g c = λ q x0 hs is hears t0.
    let t = talking-sent q c.args.self.now _ _ _ _ hs _ _ c.next_control_line.ensures.sent t0 in (
      hs,
      hears.allowed,
      c.leave.ensures q hs (g.C.Source.sending c.next_control_line.new.control).sent is.about
          (cut-here q c.args.self.now _ _ _ _ hs _ t.standing),
    )
