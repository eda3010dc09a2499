use Rattle.ftp_text.specs.declared.line.LogLine.TheVariants as says
use Rattle.ftp_check_log.proofs.CheckLemmas.{takes-made_ready}
use Rattle.ftp_check_log.proofs.checker.Checker.decide_on.Goals as goal

pub returns-in-Ok-clause-decided : goal.returns-in-Ok-clause-decided
returns-in-Ok-clause-decided c =
    takes-made_ready c.compare.result (says.Decision c.args.decision) c.args.self.now c.compare.new.self c.prepare.new.self c.args.event c.prepare.ensures.same c.compare.ensures.compared
