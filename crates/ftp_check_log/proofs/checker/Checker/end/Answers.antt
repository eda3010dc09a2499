use Rattle.std.proofs.Common.{ℕ, [], sym, subst, arith}
use Rattle.ftp_check_log.specs.declared.verdict.Verdict.{Verdict}
use Rattle.ftp_check_log.specs.declared.verdict.Verdict.TheVariants as verdict
use Rattle.ftp_check_log.specs.Checks.{TellsBy}
use Rattle.ftp_check_log.proofs.EndLemmas.{bad-told, missing-told, right-told}
use Rattle.ftp_check_log.proofs.checker.Checker.end.Goals as goal

pub returns-then-not-is_whole : goal.returns-then-not-is_whole
returns-then-not-is_whole c = λ lines all checks.
    bad-told c.args.self.now lines all [] c.args.self.now.place.lines checks (c.is_whole.ensures.unfinished lines all checks.read c.if-not-is_whole.true)

pub returns-then-self-as_slice : goal.returns-then-self-as_slice
returns-then-self-as_slice c = λ lines all checks.
    subst (λ (v : Verdict). TellsBy v c.args.self.now all) (sym c.other_actions.ensures) (missing-told c.args.self.now lines all (grind arith) checks)

pub returns : goal.returns
returns c = λ lines all checks.
    subst (λ (n : ℕ). TellsBy (verdict.Right n) c.args.self.now all) (sym c.events.ensures)
    (right-told c.args.self.now lines all (c.is_whole.ensures.whole lines all checks.read c.if-not-is_whole.false).0 (grind arith) checks)
