use Rattle.std.proofs.Common.{Some, sym, subst}
use Rattle.ftp_text.specs.declared.line.LogLine.TheVariants as says
use Rattle.ftp_check_log.specs.declared.verdict.Verdict.{Verdict}
use Rattle.ftp_check_log.specs.Checks.{Takes}
use Rattle.ftp_check_log.proofs.CheckLemmas.{tells-action, takes-action}
use Rattle.ftp_check_log.proofs.checker.Checker.act.Goals as goal

pub returns-in-Some-clause-acted : goal.returns-in-Some-clause-acted
returns-in-Some-clause-acted c =
    takes-action c.args.self.now c.args.action.now c.in-Some.came c.in-Some.ensures.0 c.in-Some.ensures.1

pub returns-in-None-clause-acted : goal.returns-in-None-clause-acted
returns-in-None-clause-acted c =
    let it = c.args.self.now in
    let action = c.args.action.now in
    subst (λ (v : Verdict). Takes (says.Action action) (Some v) it it) (sym c.other_actions.ensures) (tells-action it action c.in-None.ensures)
