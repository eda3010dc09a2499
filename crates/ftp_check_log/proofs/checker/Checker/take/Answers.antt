use Rattle.std.specs.Prelude.{IfOk}
use Rattle.std.proofs.Common.{None, sym, subst}
use Rattle.ftp_text.specs.declared.line.LogLine.{LogLine}
use Rattle.ftp_check_log.specs.Checks.{Takes}
use Rattle.ftp_check_log.proofs.CheckLemmas.{takes-answer}
use Rattle.ftp_check_log.proofs.checker.Checker.take.Goals as goal

pub returns-in-Options-clause-taken : goal.returns-in-Options-clause-taken
returns-in-Options-clause-taken c = subst (λ (x : LogLine). Takes x None c.args.self.now c.set_options.new.self) (sym c.in-Options.is) c.set_options.ensures.set

pub returns-in-Event-clause-taken : goal.returns-in-Event-clause-taken
returns-in-Event-clause-taken c = subst (λ (x : LogLine). Takes x c.happen.result c.args.self.now c.happen.new.self) (sym c.in-Event.is) c.happen.ensures.happened

pub returns-in-Answer-clause-taken : goal.returns-in-Answer-clause-taken
returns-in-Answer-clause-taken c =
    let new = record c.args.self.now { answer = c.in-Answer.answer } in
    subst (λ (x : LogLine). Takes x None c.args.self.now new) (sym c.in-Answer.is) (takes-answer c.args.self.now c.in-Answer.answer)

pub returns-in-Decision-clause-taken : goal.returns-in-Decision-clause-taken
returns-in-Decision-clause-taken c =
    subst (λ (x : LogLine). IfOk c.decide.result (λ ended. Takes x ended c.args.self.now c.decide.new.self)) (sym c.in-Decision.is) c.decide.ensures.decided

pub returns-in-Action-clause-taken : goal.returns-in-Action-clause-taken
returns-in-Action-clause-taken c = subst (λ (x : LogLine). Takes x c.act.result c.args.self.now c.act.new.self) (sym c.in-Action.is) c.act.ensures.acted
