use Rattle.std.proofs.Common.{◌≡◌, ◌++◌, ℕ, List, Vec, Global}
use Rattle.ftp_config.specs.Users.{named}
use Rattle.ftp_config.specs.declared.user.User.{User}
use Rattle.ftp_gateway.specs.Owned.{AreHomesOf}
use Rattle.ftp_gateway.proofs.homes.homes_of.Given as goal

-- the users so far have the homes, and the others are left
abbrev pub invariant-loop-name : goal.invariant-loop-name
invariant-loop-name l =
    (front : List (Vec ℕ Global × User)) × (front ++ l.name-iterator ≡ l.initial.name-iterator) × AreHomesOf (named front) l.homes
