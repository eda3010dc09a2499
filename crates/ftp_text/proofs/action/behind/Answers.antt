use Rattle.std.proofs.Common.{[], arith}
use Rattle.ftp_text.specs.ActionReading.{action_word_text, action_words, action_behind}
use Rattle.ftp_text.proofs.WordThen.{by_word-past}
use Rattle.ftp_text.proofs.action.behind.Goals as goal

pub returns-in_default : goal.returns-in_default
returns-in_default c =
    by_word-past action_word_text action_words [] action_behind c.args.word.now c.args.bytes.now
    ((λ e. grind arith), ((λ e. grind arith), ((λ e. grind arith), ((λ e. grind arith), ((λ e. grind arith), ((λ e. grind arith), tt))))))
