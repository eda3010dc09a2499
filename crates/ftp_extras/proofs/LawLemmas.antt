-- Before the login only the open words are answered.
use Rattle.std.proofs.Common.{◌≡◌, ℕ, Bool, true, false, cond, ◌||◌, List, Option, Some, None, refl, sym, subst}
use Rattle.std.specs.Prelude.{codes}
use Rattle.std.specs.Option.{option_map_or}
use Rattle.ftp_base.specs.declared.reply.ReplyCode.TheVariants.{NotLoggedIn}
use Rattle.ftp_control.specs.declared.command.Command.{Command}
use Rattle.ftp_control.specs.declared.command.Command.TheVariants.{Other}
use Rattle.ftp_control.specs.Line.{parameter}
use Rattle.ftp_extras.specs.declared.extra.Extra.{Extra}
use Rattle.ftp_extras.specs.declared.extra.Extra.TheVariants.{Pass}
use Rattle.ftp_extras.specs.declared.plan.Offers.{Offers}
use Rattle.ftp_extras.specs.declared.plan.Plan.{Plan}
use Rattle.ftp_extras.specs.declared.plan.Plan.TheVariants.{Do}
use Rattle.ftp_extras.specs.declared.word.ExtraWord.{ExtraWord}
use Rattle.ftp_extras.specs.Answers.{CanAnswer, IsDone}
use Rattle.ftp_extras.specs.Extra.{AskerView, tells}
use Rattle.ftp_extras.specs.Laws.{WordsWaitForLogin}
use Rattle.ftp_extras.specs.Plan.{word_plan, login_plan}
use Rattle.ftp_extras.specs.Words.{extra_word_of, is_open_word}

-- the word is refused, and nothing is kept
abbrev IsRefused : Extra → Option (List ℕ) → Type 0
IsRefused x after = (x ≡ tells NotLoggedIn (codes "Please authenticate")) × (after ≡ None)

refused-unless : (c : Command) (b : Bool) (p : Plan) (x : Extra) (after : Option (List ℕ)) → b ≡ false →
    IsDone CanAnswer c (cond b p (Do (tells NotLoggedIn (codes "Please authenticate")))) x after → IsRefused x after
refused-unless c true p x after e done = absurd (cc)
refused-unless c false p x after e done = done

refused-known : (o : Offers) (who : AskerView) (before : Option (List ℕ)) (word line : List ℕ) (known : ExtraWord) (x : Extra) (after : Option (List ℕ)) →
    who.is_in ≡ false → is_open_word known ≡ false → IsDone CanAnswer (Other word) (login_plan o who before known (parameter line)) x after → IsRefused x after
refused-known o who before word line known x after out closed done =
    let neither : (who.is_in || is_open_word known) ≡ false = rw (out, closed) refl in
    refused-unless (Other word) (who.is_in || is_open_word known) (word_plan o who before known (parameter line)) x after neither done

-- the law
pub waits : WordsWaitForLogin
waits o who before word line known x after out spelled closed done = by (extra_word_of word) spelled done where
  by : (found : Option ExtraWord) → found ≡ Some known →
      IsDone CanAnswer (Other word) (option_map_or (λ k. login_plan o who before k (parameter line)) found (Do Pass)) x after → IsRefused x after
  by None e d = absurd (cc)
  by (Some k) e d =
      let same : k ≡ known = cc in
      refused-known o who before word line k x after out (subst (λ (w : ExtraWord). is_open_word w ≡ false) (sym same) closed) d
