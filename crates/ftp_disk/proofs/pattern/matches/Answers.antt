use Rattle.std.proofs.Common.{◌≡◌, ◌∙◌, List, [], Bool, sym, subst}
use Rattle.ftp_disk.specs.Patterns.{AreAnswers}
use Rattle.ftp_disk.proofs.PatternLemmas.{AreAnswers-none}
use Rattle.ftp_disk.proofs.pattern.matches.Goals as goal

pub take_all-requires-clause-none : goal.take_all-requires-clause-none
take_all-requires-clause-none c =
    subst (λ (row : List Bool). AreAnswers [] c.args.name.now row) (sym (c.as_mut_slice.ensures.value ∙ c.in_ok-take_none.ensures)) (AreAnswers-none c.args.name.now)
