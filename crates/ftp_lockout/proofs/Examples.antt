-- Worked examples of the tally, each by computation. The newest call stands first.
use Rattle.std.proofs.Common.{◌≡◌, ℕ, true, false, List, [], ◌∷◌, Some, None, refl}
use Rattle.std.specs.Prelude.{codes}
use Rattle.ftp_base.specs.declared.net.IpAddr.{IpAddr}
use Rattle.ftp_base.specs.declared.net.IpAddr.TheVariants.{V4, V6}
use Rattle.ftp_base.specs.declared.login.LockState.TheVariants.{MaxFailuresReached, AlreadyLocked}
use Rattle.ftp_options.specs.declared.lockout.FailedLoginsBlock.{FailedLoginsBlock}
use Rattle.ftp_options.specs.declared.lockout.FailedLoginsBlock.TheVariants.{UserAndIP, IP, User}
use Rattle.ftp_options.specs.declared.lockout.FailedLoginsPolicy.{FailedLoginsPolicy}
use Rattle.ftp_lockout.specs.Keys.{key_of, key_cmp}
use Rattle.ftp_lockout.specs.Failures.{is_locked, lock_state}
use Rattle.ftp_lockout.specs.Tally.{Call, Failed, Succeeded, Swept, tally}

abbrev by : FailedLoginsBlock → FailedLoginsPolicy
by block = record { max_attempts = 3; expires_after_ms = 120000; block_by = block }

abbrev home : IpAddr
home = V4 167772161

abbrev away : IpAddr
away = V6 167772161

abbrev ann : List ℕ
ann = codes "ann"

abbrev bob : List ℕ
bob = codes "bob"

-- three failures
abbrev three : List Call
three = Failed 2000 home ann ∷ Failed 1000 home ann ∷ Failed 0 home ann ∷ []

counted : tally (by UserAndIP) three (key_of UserAndIP home ann) ≡ Some (record { count = 3; last = 2000 })
unfolding key_cmp
counted = refl

locked_at_the_limit : is_locked (by UserAndIP) 122000 (tally (by UserAndIP) three (key_of UserAndIP home ann)) ≡ true
unfolding key_cmp
locked_at_the_limit = refl

open_above_it : is_locked (by UserAndIP) 122001 (tally (by UserAndIP) three (key_of UserAndIP home ann)) ≡ false
unfolding key_cmp
open_above_it = refl

another_name : tally (by UserAndIP) three (key_of UserAndIP home bob) ≡ None
unfolding key_cmp
another_name = refl

another_address : tally (by UserAndIP) three (key_of UserAndIP away ann) ≡ None
unfolding key_cmp
another_address = refl

any_name_of_the_address : tally (by IP) three (key_of IP home bob) ≡ Some (record { count = 3; last = 2000 })
unfolding key_cmp
any_name_of_the_address = refl

any_address_of_the_name : tally (by User) three (key_of User away ann) ≡ Some (record { count = 3; last = 2000 })
unfolding key_cmp
any_address_of_the_name = refl

a_lock_stays : tally (by User) (Succeeded 3000 home ann ∷ three) (key_of User home ann) ≡ Some (record { count = 3; last = 2000 })
unfolding key_cmp
a_lock_stays = refl

an_open_key_is_cleared : tally (by User) (Succeeded 123000 home ann ∷ three) (key_of User home ann) ≡ None
unfolding key_cmp
an_open_key_is_cleared = refl

counted_anew : tally (by User) (Failed 123000 home ann ∷ three) (key_of User home ann) ≡ Some (record { count = 1; last = 123000 })
unfolding key_cmp
counted_anew = refl

renewed : tally (by User) (Failed 122000 home ann ∷ three) (key_of User home ann) ≡ Some (record { count = 4; last = 122000 })
unfolding key_cmp
renewed = refl

moments_may_fall : tally (by User) (Failed 7 home ann ∷ three) (key_of User home ann) ≡ Some (record { count = 4; last = 7 })
unfolding key_cmp
moments_may_fall = refl

swept_away : tally (by User) (Swept 122001 ∷ three) (key_of User home ann) ≡ None
unfolding key_cmp
swept_away = refl

kept_at_the_limit : tally (by User) (Swept 122000 ∷ three) (key_of User home ann) ≡ Some (record { count = 3; last = 2000 })
unfolding key_cmp
kept_at_the_limit = refl

what_is_said : lock_state (by User) 2 ≡ None
what_is_said = refl

said_when_reached : lock_state (by User) 3 ≡ Some MaxFailuresReached
said_when_reached = refl

said_above : lock_state (by User) 4 ≡ Some AlreadyLocked
said_above = refl
