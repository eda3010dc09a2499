-- What holds of every word, whoever asks.
use Rattle.std.specs.Prelude.{◌≡◌, false, ℕ, List, Option, Some, None, codes}
use Rattle.ftp_base.specs.declared.message.ControlChanMsg.TheVariants.{RenameSuccess}
use Rattle.ftp_base.specs.declared.reply.ReplyCode.TheVariants.{NotLoggedIn}
use Rattle.ftp_control.specs.declared.command.Command.TheVariants.{Other}
use Rattle.ftp_extras.specs.declared.extra.Extra.{Extra}
use Rattle.ftp_extras.specs.declared.extra.Extra.TheVariants.{Tell}
use Rattle.ftp_extras.specs.declared.plan.Offers.{Offers}
use Rattle.ftp_extras.specs.declared.word.ExtraWord.{ExtraWord}
use Rattle.ftp_extras.specs.Answers.{MayDo}
use Rattle.ftp_extras.specs.Extra.{AskerView, tells}
use Rattle.ftp_extras.specs.Words.{extra_word_of, is_open_word}

-- before the login a word that is not open is refused, whatever stands behind it, and nothing is kept
abbrev pub WordsWaitForLogin : Type 0
WordsWaitForLogin =
    (o : Offers) (who : AskerView) (before : Option (List ℕ)) (word line : List ℕ) (known : ExtraWord) (x : Extra) (after : Option (List ℕ)) →
    who.is_in ≡ false → extra_word_of word ≡ Some known → is_open_word known ≡ false → MayDo o who before (Other word) line x after →
    (x ≡ tells NotLoggedIn (codes "Please authenticate")) × (after ≡ None)

-- a rename is told only of what was kept from the line before
abbrev pub RenamesWhatWasNamed : Type 0
RenamesWhatWasNamed =
    (o : Offers) (who : AskerView) (before : Option (List ℕ)) (word line from to : List ℕ) (x : Extra) (after : Option (List ℕ)) →
    MayDo o who before (Other word) line x after → x ≡ Tell (RenameSuccess from to) → before ≡ Some from
