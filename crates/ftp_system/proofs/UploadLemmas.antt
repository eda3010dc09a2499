-- Paths that are looked up.
use Rattle.std.proofs.Common.{◌≡◌, ◌≢◌, ℕ, Bool, true, false, List, refl, sym}
use Rattle.std.specs.Ordering.{nat_cmp, eq_by_cmp}
use Rattle.std.specs.Cmp.Lexicographic.{slice_cmp}
use Rattle.std.specs.Cmp.{Equal-is}
use Rattle.ftp_base.proofs.Files.{paths_apart}

-- another path does not tie with this one
pub other-apart : (path other : List ℕ) → other ≢ path → eq_by_cmp (slice_cmp nat_cmp) path other ≡ false
other-apart path other differs = go (eq_by_cmp (slice_cmp nat_cmp) path other) refl where
  go : (b : Bool) → eq_by_cmp (slice_cmp nat_cmp) path other ≡ b → b ≡ false
  go true same = absurd (differs (sym (paths_apart path other ((Equal-is (slice_cmp nat_cmp path other)).0 same))))
  go false same = refl
