-- The moments that a worker takes for its entries.
use Rattle.std.specs.Prelude.{◌≡◌, ℕ, ◌+◌, ◌≤◌, drop, IfSome}
use Rattle.ftp_base.specs.Edge.{EdgeView, Feed, Takes, next_number}

-- so many moments are taken
abbrev pub behind_moments : ℕ → Feed → Feed
behind_moments n f = record f { moments = drop n f.moments }

-- moments were taken, at least one for each of so many entries, and the last of them is this
pub record TakesMoments (old new : EdgeView) (entries at : ℕ) : Type 0 where
  pub before : ℕ
  pub enough : entries ≤ before + 1
  pub taken : Takes (behind_moments (before + 1)) old new
  pub last : IfSome old.feed (λ f. at ≡ next_number (drop before f.moments))
