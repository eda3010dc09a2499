use Rattle.std.proofs.Common.{sym, ◌∙◌}
use Rattle.ftp_text.specs.declared.line.LogLine.TheVariants as says
use Rattle.ftp_check_log.proofs.CheckLemmas.{takes-again, takes-nothing}
use Rattle.ftp_check_log.proofs.checker.Checker.decide.Goals as goal

pub returns-in-Some-clause-decided : goal.returns-in-Some-clause-decided
returns-in-Some-clause-decided c =
    takes-again c.decide_on.result (says.Decision c.args.decision) c.args.self.now c.decide_on.new.self c.in-Some.event (sym c.take.ensures.value ∙ c.in-Some.is) c.decide_on.ensures.decided

pub returns-in-None-clause-decided : goal.returns-in-None-clause-decided
returns-in-None-clause-decided c =
    let it = c.args.self.now in
    takes-nothing it (record it { event = c.take.new.self }) c.args.decision (sym c.take.ensures.value ∙ c.in-None.is)
