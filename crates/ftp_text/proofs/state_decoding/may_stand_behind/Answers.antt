use Rattle.std.proofs.Common.{sym, ◌∙◌}
use Rattle.ftp_text.proofs.GrammarLemmas.{last-stands}
use Rattle.ftp_text.proofs.state_decoding.may_stand_behind.Goals as goal

pub returns-in-Some : goal.returns-in-Some
returns-in-Some c = c.follows.ensures ∙ sym (last-stands c.args.lines.now c.in-Some.before.now c.args.line.now c.in-Some.ensures.value)
