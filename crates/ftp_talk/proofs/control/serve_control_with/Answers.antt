use Rattle.std.proofs.Common.{ℕ, Bool, List, [], Option, ap, subst, ◌∙◌, refl, Err}
use Rattle.ftp_base.specs.declared.login.AuthAnswer.{AuthAnswer}
use Rattle.ftp_base.specs.declared.net.IpAddr.{IpAddr}
use Rattle.ftp_base.specs.Edge.{EdgeView}
use Rattle.ftp_base.specs.Outside.{Writes}
use Rattle.ftp_options.specs.declared.options.Options.{Options}
use Rattle.ftp_control.specs.Writing.{WritesFront}
use Rattle.ftp_shared.specs.Desk.{DeskView}
use Rattle.ftp_talk.specs.Saying.{greeting_line}
use Rattle.ftp_talk.specs.Ground.{Start}
use Rattle.ftp_talk.specs.Control.{ground_of}
use Rattle.ftp_talk.specs.Halts.{halt_by}
use Rattle.ftp_talk.proofs.EndLemmas.{ends-front}
use Rattle.ftp_talk.proofs.ControlLemmas.{begin-talking, begin-cut, ends-with, serves-opened, serves-unopened, no-fault, halt-ends, halt-sound, end-sound}
use Rattle.ftp_talk.proofs.control.serve_control_with.Goals as goal

-- how all stood before the session was opened
abbrev start_of : EdgeView → DeskView → Option (List ℕ) → Option (List ℕ) → (List ℕ → List ℕ → IpAddr → AuthAnswer → Bool) → Bool → Bool → Bool → Start
start_of edge desk input sent answers ready vouches draws_next = record {
  edge = edge;
  desk = desk;
  input = input;
  sent = sent;
  answers = answers;
  ready = ready;
  vouches = vouches;
  draws_next = draws_next;
}

pub returns-in-Err-clause-served : goal.returns-in-Err-clause-served
returns-in-Err-clause-served g c =
    let start = start_of (g.E.Edge.view c.args.edge.now) (g.D.Desk.view c.args.desk.now) (g.C.Source.left c.args.control.now) (g.C.Source.sending c.args.control.now).sent (g.A.Authenticator.may_answer c.args.auth.now) g.C.Control.is_always_ready g.D.Desk.vouches g.D.Desk.draws_next in
    serves-unopened (g.X.Extras.may c.args.extras.now) (g.X.Extras.pending c.args.extras.now) c.in-Err.end c.args.opening c.args.answer start (g.D.Desk.view c.open_session.new.desk) (c.in-Err.ensures.unopened start)

pub returns-in-Err-clause-read_fault : goal.returns-in-Err-clause-read_fault
returns-in-Err-clause-read_fault g c = λ e. absurd ((no-fault c.in-Err.end c.in-Err.ensures.unbroken).0 e)

pub returns-in-Err-clause-write_fault : goal.returns-in-Err-clause-write_fault
returns-in-Err-clause-write_fault g c = λ e. absurd ((no-fault c.in-Err.end c.in-Err.ensures.unbroken).1 e)

pub returns-in-Err-greet-clause-served : goal.returns-in-Err-greet-clause-served
returns-in-Err-greet-clause-served g c =
    let start = start_of (g.E.Edge.view c.args.edge.now) (g.D.Desk.view c.args.desk.now) (g.C.Source.left c.args.control.now) (g.C.Source.sending c.args.control.now).sent (g.A.Authenticator.may_answer c.args.auth.now) g.C.Control.is_always_ready g.D.Desk.vouches g.D.Desk.draws_next in
    let desk1 = g.D.Desk.view c.open_session.new.desk in
    let h = c.in-Ok-open_session.ensures.opened start in
    let ground = ground_of h.entry h.peer start in
    let sent1 = (g.C.Source.sending c.greet.new.link).sent in
    let front = subst (λ (o : Options). WritesFront start.sent sent1 (greeting_line o.greeting)) (c.options.ensures.told ∙ h.options) c.in-Err-greet.ensures.front in
    let cut = begin-cut c.args.opening c.args.answer start c.in-Ok-open_session.state c.greet.new.self desk1 sent1 h c.greet.ensures.known c.greet.ensures.over front in
    let edge2 = g.E.Edge.view c.cut.new.edge in
    let desk2 = g.D.Desk.view c.cut.new.desk in
    serves-opened (g.X.Extras.may c.args.extras.now) (g.X.Extras.pending c.args.extras.now) c.cut.result c.args.opening c.args.answer start c.in-Ok-open_session.state desk1 edge2 desk2 sent1 h
    (ends-with (g.X.Extras.may c.args.extras.now) (g.X.Extras.pending c.args.extras.now) c.cut.result ground edge2 desk2 sent1 [] tt
    (rw c.cut.ensures.ended (ends-front (halt_by c.in-Err-greet.failed) ground edge2 desk2 sent1 [] (c.cut.ensures.left ground [] sent1 (refl, refl) cut))))

pub returns-in-Err-greet-clause-read_fault : goal.returns-in-Err-greet-clause-read_fault
returns-in-Err-greet-clause-read_fault g c = λ e.
    absurd ((halt-ends c.in-Err-greet.failed c.cut.result c.cut.ensures.ended).1 e)

pub returns-in-Err-greet-clause-write_fault : goal.returns-in-Err-greet-clause-write_fault
returns-in-Err-greet-clause-write_fault g c = λ e.
    c.in-Err-greet.ensures.link.fault_rose (ap Err ((halt-ends c.in-Err-greet.failed c.cut.result c.cut.ensures.ended).0 e))

pub returns-in-Err-greet-clause-exhausted : goal.returns-in-Err-greet-clause-exhausted
returns-in-Err-greet-clause-exhausted g c = λ e.
    absurd ((halt-ends c.in-Err-greet.failed c.cut.result c.cut.ensures.ended).2 e)

pub returns-in-Err-greet-clause-complete : goal.returns-in-Err-greet-clause-complete
returns-in-Err-greet-clause-complete g c =
    halt-sound c.in-Err-greet.failed c.cut.result (g.C.Source.faults c.args.control.now) (g.C.Source.faults c.greet.new.link)
    c.cut.ensures.ended (λ e. c.in-Err-greet.ensures.link.fault_rose (ap Err e))

pub returns-clause-complete : goal.returns-clause-complete
returns-clause-complete g c =
    end-sound c.serve_lines.result (g.C.Source.faults c.args.control.now) (g.C.Source.faults c.greet.new.link) (g.C.Source.faults c.serve_lines.new.control)
    c.in_default-greet.ensures.link.count c.serve_lines.ensures.count c.serve_lines.ensures.read_fault c.serve_lines.ensures.write_fault

pub returns-clause-served : goal.returns-clause-served
returns-clause-served g c =
    let start = start_of (g.E.Edge.view c.args.edge.now) (g.D.Desk.view c.args.desk.now) (g.C.Source.left c.args.control.now) (g.C.Source.sending c.args.control.now).sent (g.A.Authenticator.may_answer c.args.auth.now) g.C.Control.is_always_ready g.D.Desk.vouches g.D.Desk.draws_next in
    let desk1 = g.D.Desk.view c.open_session.new.desk in
    let h = c.in-Ok-open_session.ensures.opened start in
    let sent1 = (g.C.Source.sending c.greet.new.link).sent in
    let wrote = subst (λ (o : Options). Writes start.sent sent1 (greeting_line o.greeting)) (c.options.ensures.told ∙ h.options) c.in_default-greet.ensures.wrote in
    serves-opened (g.X.Extras.may c.args.extras.now) (g.X.Extras.pending c.args.extras.now) c.serve_lines.result c.args.opening c.args.answer start c.in-Ok-open_session.state desk1
    (g.E.Edge.view c.serve_lines.new.edge) (g.D.Desk.view c.serve_lines.new.desk) (g.C.Source.sending c.serve_lines.new.control).sent h
    (c.serve_lines.ensures.ended (ground_of h.entry h.peer start) (record { about = (refl, refl); ready = refl; answers = refl })
    (begin-talking c.args.opening c.args.answer start c.in-Ok-open_session.state c.greet.new.self desk1 sent1 (g.C.Source.left c.greet.new.link) h
    c.greet.ensures.known c.greet.ensures.over wrote c.in_default-greet.ensures.link.left))
