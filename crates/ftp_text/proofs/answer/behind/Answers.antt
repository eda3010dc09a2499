use Rattle.std.proofs.Common.{[], arith}
use Rattle.ftp_text.specs.LogLines.{answer_word_text}
use Rattle.ftp_text.specs.AnswerReading.{answer_words, answer_behind}
use Rattle.ftp_text.proofs.WordThen.{by_word-past}
use Rattle.ftp_text.proofs.answer.behind.Goals as goal

pub returns-in_default : goal.returns-in_default
returns-in_default c =
    by_word-past answer_word_text answer_words [] answer_behind c.args.word.now c.args.bytes.now
    ((λ e. grind arith), ((λ e. grind arith), ((λ e. grind arith), tt)))
