use Rattle.std.proofs.Common.{Some, sym, subst, arith}
use Rattle.ftp_text.specs.declared.line.LogLine.TheVariants as says
use Rattle.ftp_check_log.specs.declared.verdict.Verdict.{Verdict}
use Rattle.ftp_check_log.specs.Checks.{Takes}
use Rattle.ftp_check_log.proofs.CheckLemmas.{tells-event}
use Rattle.ftp_check_log.proofs.checker.Checker.happen.Goals as goal

pub returns-then-self-as_slice-clause-happened : goal.returns-then-self-as_slice-clause-happened
returns-then-self-as_slice-clause-happened c =
    let it = c.args.self.now in
    subst (λ (v : Verdict). Takes (says.Event c.args.event) (Some v) it it) (sym c.other_actions.ensures) (tells-event it c.args.event (grind arith))
