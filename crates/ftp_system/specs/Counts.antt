-- How many sessions there are of each client address.
use Rattle.std.specs.Prelude.{◌≡◌, ◌≢◌, ℕ}
use Rattle.std.specs.Ordering.{nat_cmp}
use Rattle.std.specs.Option.{unwrap_or}
use Rattle.std.specs.BTreeMap.{get}
use Rattle.ftp_system.specs.declared.counts.SessionCounts.{SessionCounts}

-- how many sessions there are of an address
abbrev pub count_at : SessionCounts → ℕ → ℕ
count_at s address = unwrap_or (get nat_cmp s.counts address) 0

-- of every other address there are as many as before
abbrev pub OthersStay : ℕ → SessionCounts → SessionCounts → Type 0
OthersStay address old new = (other : ℕ) → other ≢ address → count_at new other ≡ count_at old other
