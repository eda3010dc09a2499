-- What a receipt is worth.
use Rattle.std.specs.Prelude.{◌≡◌, ℕ, Bool, true, false, All, List, Some, reverse, slice_get, take, ⊤}
use Rattle.ftp_options.specs.declared.options.Options.{Options}
use Rattle.ftp_events.specs.declared.entry.Entry.{Entry}
use Rattle.ftp_events.specs.Right.{IsActed, IsRight}
use Rattle.ftp_shared.specs.declared.receipt.Receipt.{Receipt}
use Rattle.ftp_shared.specs.declared.settle.SettleError.{SettleError}
use Rattle.ftp_shared.specs.declared.settle.SettleError.TheVariants.{Missing, Differs, OutOfMemory}

-- the receipt is the entry at its place, the places being counted from 0 with the oldest first
abbrev pub IsKept : List Entry → Receipt → Type 0
IsKept journal r = slice_get (reverse journal) r.place ≡ Some r.entry

-- the error tells of the receipt and of the entry at its place, unless memory ran out
abbrev pub IsDiffering : List Entry → Receipt → SettleError → Type 0
IsDiffering journal r (Differs place kept told) = (place ≡ r.place) × (kept ≡ slice_get (reverse journal) r.place) × (told ≡ r.entry)
IsDiffering journal r OutOfMemory = ⊤
IsDiffering journal r (Missing counted length) = ⊥

-- the error tells of the first receipt that is not the entry at its place
pub record IsFirstOther (journal : List Entry) (receipts : List Receipt) (e : SettleError) : Type 0 where
  pub before : ℕ
  pub first : Receipt
  pub at : slice_get receipts before ≡ Some first
  pub kept : All (λ r. IsKept journal r) (take before receipts)
  pub other : ¬ IsKept journal first
  pub told : IsDiffering journal first e

-- it does so of a right and acted journal
pub record IsOtherOf (o : Options) (receipts : List Receipt) (e : SettleError) : Type 0 where
  pub journal : List Entry
  pub right : IsRight o journal
  pub acted : IsActed o journal
  pub first : IsFirstOther journal receipts e

-- the sum of the shares is not the length of the journal
abbrev pub IsMissing : ℕ → ℕ → SettleError → Type 0
IsMissing sum len (Missing counted length) = (counted ≡ sum) × (length ≡ len)
IsMissing sum len e = ⊥

-- it tells of missing steps
abbrev pub is_missing : SettleError → Bool
is_missing (Missing counted length) = true
is_missing e = false
