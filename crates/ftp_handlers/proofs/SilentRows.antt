-- The rows of commands that notify nobody.
use Rattle.std.proofs.Common.{◌≡◌, refl, ℕ, Bool, true, false, cond, Option, Some, None}
use Rattle.ftp_base.specs.declared.error_kind.ErrorKind.{ErrorKind}
use Rattle.ftp_options.specs.declared.options.Options.{Options}
use Rattle.ftp_events.specs.declared.decision.Decision.{Decision}
use Rattle.ftp_events.specs.declared.decision.Decision.TheVariants as decision
use Rattle.ftp_events.specs.declared.event.Answer.{Answer}
use Rattle.ftp_events.specs.declared.event.EventKind.{EventKind}
use Rattle.ftp_events.specs.declared.session.Login.{Login}
use Rattle.ftp_events.specs.declared.session.Login.TheVariants as login
use Rattle.ftp_events.specs.declared.session.Session.{Session}
use Rattle.ftp_events.specs.CommandRows.{abor_row, cwd_row, if_logged_in, rest_row, slot_row}
use Rattle.ftp_events.specs.LoginRows.{pass_row, user_row}
use Rattle.ftp_handlers.specs.Handlers.{notices_of}

-- whichever of two rows it is, where both notify nobody
either-silent : (k : EventKind) (answer : Answer) (b : Bool) (x y : Decision) → notices_of k x answer ≡ 0 → notices_of k y answer ≡ 0 → notices_of k (cond b x y) answer ≡ 0
either-silent k answer true x y here there = here
either-silent k answer false x y here there = there

pub user-silent : (k : EventKind) (answer : Answer) (l : Login) → notices_of k (user_row l) answer ≡ 0
user-silent k answer login.New = refl
user-silent k answer login.Named = refl
user-silent k answer login.Checking = refl
user-silent k answer login.LoggedIn = refl

pub pass-silent : (k : EventKind) (answer : Answer) (l : Login) → notices_of k (pass_row l) answer ≡ 0
pass-silent k answer login.New = refl
pass-silent k answer login.Named = refl
pass-silent k answer login.Checking = refl
pass-silent k answer login.LoggedIn = refl

-- a row of those who are logged in, which notifies nobody
inside-silent : (k : EventKind) (answer : Answer) (v : Session) (d : Decision) → notices_of k d answer ≡ 0 → notices_of k (if_logged_in v d) answer ≡ 0
inside-silent k answer v d here = either-silent k answer _ d decision.NotLoggedIn here refl

pub rest-silent : (k : EventKind) (answer : Answer) (o : Options) (v : Session) → notices_of k (if_logged_in v (rest_row o)) answer ≡ 0
rest-silent k answer o v = inside-silent k answer v (rest_row o) (either-silent k answer _ decision.RestOk decision.NoRestart refl refl)

pub cwd-silent : (k : EventKind) (answer : Answer) (v : Session) (refusal : Option ErrorKind) → notices_of k (if_logged_in v (cwd_row refusal)) answer ≡ 0
cwd-silent k answer v None = inside-silent k answer v decision.CwdOk refl
cwd-silent k answer v (Some refusal) = inside-silent k answer v (decision.CwdRefused refusal) refl

pub abor-silent : (k : EventKind) (answer : Answer) (can_stop : Bool) (v : Session) → notices_of k (if_logged_in v (abor_row can_stop v)) answer ≡ 0
abor-silent k answer can_stop v =
    inside-silent k answer v (abor_row can_stop v)
    (either-silent k answer can_stop decision.Aborting _ refl (either-silent k answer _ decision.NothingToAbort decision.Aborted refl refl))

pub slot-silent : (k : EventKind) (answer : Answer) (o : Options) (at : ℕ) (v : Session) → notices_of k (slot_row o at v) answer ≡ 0
slot-silent k answer o at v = either-silent k answer _ decision.SlotDropped decision.Early refl refl
