-- Which paths are being written.
use Rattle.std.specs.Prelude.{◌≡◌, ◌≢◌, ℕ, Bool, List, Vec}
use Rattle.std.specs.Ordering.{nat_cmp}
use Rattle.std.specs.Cmp.Lexicographic.{slice_cmp}
use Rattle.std.specs.BTreeSet.{contains_by}
use Rattle.std.specs.Global.{Global}
use Rattle.ftp_system.specs.declared.uploads.Uploads.{Uploads}

-- an upload to the path is under way
abbrev pub is_written : Uploads → List ℕ → Bool
is_written u path = contains_by (λ key. slice_cmp nat_cmp path key.items) u.paths

-- for every other path it is as before
abbrev pub OthersStay : List ℕ → Uploads → Uploads → Type 0
OthersStay path old new = (other : Vec ℕ Global) → other.items ≢ path → is_written new other.items ≡ is_written old other.items
