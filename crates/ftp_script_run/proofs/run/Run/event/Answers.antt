use Rattle.std.proofs.Common.{inl, inr, [], ◌∷◌, refl, sym, subst}
use Rattle.ftp_base.specs.Outside.{Writes}
use Rattle.ftp_control.specs.Writing.{WritesFront}
use Rattle.ftp_control.proofs.WritingLemmas.{on_err, on_ok-then, on_err-then}
use Rattle.ftp_script_run.proofs.Written.{log_lines-one}
use Rattle.ftp_script_run.proofs.RunLemmas.{keeps-text}
use Rattle.ftp_script_run.proofs.run.Run.event.Goals as goal

pub returns-in_err-entry-clause-front : goal.returns-in_err-entry-clause-front
returns-in_err-entry-clause-front g c =
    on_err c.from_residual.result (λ before items log kept may. inl refl)

pub returns-clause-took : goal.returns-clause-took
returns-clause-took g c =
    let e = c.in_ok-entry.entry in
    let step = c.step.new.self in
    on_ok-then c.print_entry-written.result c.print_entry-written.ensures.wrote (λ wrote before items log kept may. (
      e ∷ [],
      keeps-text before step
          (record { alloc = step.alloc; hub = step.hub; storage = step.storage; links = step.links; text = c.print_entry-written.new.text })
          _ _ refl refl (c.in_ok-entry.ensures.due before items log kept may),
      subst (Writes (g.K.Sink.written c.args.sink.now) (g.K.Sink.written c.print_entry-written.new.sink)) (sym (log_lines-one e)) wrote,
    ))

pub returns-clause-front : goal.returns-clause-front
returns-clause-front g c =
    let e = c.in_ok-entry.entry in
    let step = c.step.new.self in
    on_err-then c.print_entry-written.result c.print_entry-written.ensures.front (λ front before items log kept may. inr (
      e ∷ [],
      keeps-text before step
          (record { alloc = step.alloc; hub = step.hub; storage = step.storage; links = step.links; text = c.print_entry-written.new.text })
          _ _ refl refl (c.in_ok-entry.ensures.due before items log kept may),
      subst (WritesFront (g.K.Sink.written c.args.sink.now) (g.K.Sink.written c.print_entry-written.new.sink)) (sym (log_lines-one e)) front,
    ))
