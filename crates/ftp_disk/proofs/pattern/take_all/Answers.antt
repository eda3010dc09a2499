use Rattle.std.proofs.Common.{◌≡◌, ◌∷◌, ℕ, List, ◌-◌, drop, get_or, sym, subst, arith}
use Rattle.ftp_disk.specs.Patterns.{AreAnswers}
use Rattle.ftp_disk.proofs.PatternLemmas.{drop-before}
use Rattle.ftp_disk.proofs.pattern.take_all.Goals as goal

pub loop-i-preserved : goal.loop-i-preserved
loop-i-preserved c =
    let pattern = c.args.pattern.now in
    let e = drop-before pattern c.loop-i.i (omega arith) c.loop-i.invariant.within in
    record {
      within = omega arith;
      answers = subst (λ (rest : List ℕ). AreAnswers rest c.args.name.now c.take_byte.new.row) (sym e) (c.take_byte.ensures.answers (drop c.loop-i.i pattern) c.loop-i.invariant.answers);
    }
