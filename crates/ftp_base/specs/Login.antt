-- What is said of a name and a password.
use Rattle.std.specs.Prelude.{ℕ, Bool, ◌==◌}
use Rattle.ftp_base.specs.declared.login.AuthAnswer.{AuthAnswer}
use Rattle.ftp_base.specs.declared.login.AuthAnswer.TheVariants as answer

-- the place of an answer among the five
abbrev pub place_of : AuthAnswer → ℕ
place_of answer.BadUser = 0
place_of answer.Refused = 1
place_of answer.Disabled = 2
place_of answer.NotEntered = 3
place_of answer.Good = 4

-- the same answer
abbrev pub same_answer : AuthAnswer → AuthAnswer → Bool
same_answer a b = place_of a == place_of b
