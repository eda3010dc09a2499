use Rattle.std.proofs.Common.{◌∙◌, ◌∷◌, ◌≢◌, false, drop, get_or, sym, ap}
use Rattle.ftp_disk.specs.Patterns.{matches}
use Rattle.ftp_disk.proofs.PatternLemmas.{matches-any, matches-one}
use Rattle.ftp_disk.proofs.pattern.take_byte.Goals as goal

pub returns-then-p-eq42-clause-answers : goal.returns-then-p-eq42-clause-answers
returns-then-p-eq42-clause-answers c = λ pattern answers k lt.
    matches-any pattern c.args.name.now (λ i. get_or c.args.row.now i false) (λ i. get_or c.take_any.new.row i false)
    c.take_any.ensures.before c.take_any.ensures.end answers k lt
    ∙ sym (ap (λ p. matches (p ∷ pattern) (drop k c.args.name.now)) c.if-p-eq42.true)

pub returns-else-p-eq42-clause-answers : goal.returns-else-p-eq42-clause-answers
returns-else-p-eq42-clause-answers c = λ pattern answers k lt.
    matches-one c.args.p pattern c.args.name.now (λ i. get_or c.args.row.now i false) (λ i. get_or c.take_one.new.row i false)
    c.if-p-eq42.false c.take_one.ensures.before c.take_one.ensures.end answers k lt
