use Rattle.std.proofs.Common.{sym, ◌∙◌}
use Rattle.ftp_text.proofs.WalkLemmas.{walk-is}
use Rattle.ftp_text.proofs.state_laws.a_state_has_one_text.Goals as goal

pub returns : goal.returns
returns c = λ x a b first second. sym (walk-is x a first) ∙ walk-is x b second
