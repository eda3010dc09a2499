-- What a desk tells of the entries that were made with its pass.
use Rattle.std.proofs.Common.{◌≡◌, refl, ℕ, ◌+◌, ◌≤◌, Bool, true, false}
use Rattle.std.specs.Bool.{then_some}
use Rattle.ftp_shared.specs.Desk.{RisesBy}

-- a count that is told where there is one rises with it
pub rises-told : (counts : Bool) (n old new : ℕ) → (counts ≡ true → old + n ≤ new) → RisesBy n (then_some counts old) (then_some counts new)
rises-told true n old new h = (new, refl, h refl)
rises-told false n old new h = tt
