use Rattle.std.proofs.Common.{◌≡◌, length, ℕ, Vec, Global}
use Rattle.std.specs.BTreeMap.Range.{entries_between}
use Rattle.std.specs.Cmp.Lexicographic.{slice_cmp}
use Rattle.std.specs.FinMap as map
use Rattle.std.specs.Ordering.{nat_cmp}
use Rattle.std.specs.declared.ops.Bound.TheVariants.{Included, Unbounded}
use Rattle.ftp_base.specs.MemoryStorage.{files_of, front, placed}
use Rattle.ftp_base.proofs.ListingSteps.{children_before}
use Rattle.ftp_base.proofs.PathOrder.{UpTo}
use Rattle.ftp_base.proofs.memory_storage.listing.places_in.Given as goal

-- the children before the path to go on from
abbrev pub invariant-loop-path : goal.invariant-loop-path
invariant-loop-path l =
    (placed l.places.entries ≡ map.entries (children_before (files_of l.nodes.entries) l.dir l.from.items))
    × UpTo (front l.dir) l.from.items
    × (l.front.items ≡ front l.dir)

abbrev pub decreases-loop-path : goal.decreases-loop-path
decreases-loop-path l = length (entries_between (λ (x y : Vec ℕ Global). slice_cmp nat_cmp x.items y.items) (Included l.from) Unbounded l.nodes.entries)
