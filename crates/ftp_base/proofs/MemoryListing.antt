-- Listings of nodes in a map.
use Rattle.std.proofs.Common.{◌≡◌, ℕ, List, [], ◌∷◌, map as map_list, Vec, Global, length, refl, sym, ap, ◌∙◌, arith}
use Rattle.std.specs.FinMap as map
use Rattle.std.specs.FinMap.{put}
use Rattle.std.specs.BTreeMap.{insert_entry}
use Rattle.std.specs.List.Sorted.{IsStrictlySortedBy}
use Rattle.std.specs.declared.cmp.Ordering.{Ordering}
use Rattle.std.specs.declared.cmp.Ordering.TheVariants.{Less, Equal, Greater}
use Rattle.std.specs.Ordering.{nat_cmp, ordering_then}
use Rattle.std.specs.Cmp.{IsTotalOrder, then_total, on_total}
use Rattle.std.specs.Cmp.Lexicographic.{slice_cmp, nat_list_cmp_total}
use Rattle.ftp_base.specs.declared.storage.Meta.{Meta}
use Rattle.ftp_base.specs.MemoryStorage.{item_of, items, files_of, placed}
use Rattle.ftp_base.specs.Storage.{Item, place_cmp}
use Rattle.ftp_base.proofs.MemoryFiles.{Nodes}

-- places are in one order
pub place_total : IsTotalOrder place_cmp
place_total = then_total (on_total (λ t. t.0) nat_list_cmp_total) (on_total (λ t. t.1) nat_list_cmp_total)

-- children under their places
abbrev pub Places : Type 0
Places = List ((Vec ℕ Global × Vec ℕ Global) × Meta)

-- by names, and equal names by paths
abbrev pub vec_place_cmp : Vec ℕ Global × Vec ℕ Global → Vec ℕ Global × Vec ℕ Global → Ordering
vec_place_cmp x y = ordering_then (slice_cmp nat_cmp x.0.items y.0.items) (slice_cmp nat_cmp x.1.items y.1.items)

-- a child that is put under its place is one that is put there
pub placed-insert_entry : (places : Places) (k : Vec ℕ Global × Vec ℕ Global) (v : Meta) →
    placed (insert_entry vec_place_cmp places k v) ≡ put place_cmp (k.0.items, k.1.items) v (placed places)
placed-insert_entry [] k v = refl
placed-insert_entry (e ∷ places) k v =
    elim (vec_place_cmp k e.0) as (λ r. vec_place_cmp k e.0 ≡ r → placed (insert_entry vec_place_cmp (e ∷ places) k v) ≡ put place_cmp (k.0.items, k.1.items) v (placed (e ∷ places))) [
      | Less ↦ λ p. rw p refl
      | Equal ↦ λ p. rw p refl
      | Greater ↦ λ p. rw p (ap (λ (rest : List ((List ℕ × List ℕ) × Meta)). ((e.0.0.items, e.0.1.items), e.1) ∷ rest) (placed-insert_entry places k v))
    ] refl

none_there : {A : Type 0} (es : List A) → length es ≡ 0 → es ≡ []
none_there [] e = refl
none_there (x ∷ es) e = absurd (omega arith)

-- no places
pub entries-empty : map.entries (map.empty {X = Meta} {R = place_cmp}) ≡ []
entries-empty = none_there (map.entries (map.empty {X = Meta} {R = place_cmp})) (sym (map.len-entries (map.empty {X = Meta} {R = place_cmp})) ∙ map.len-empty place_cmp Meta)

no_entries : map.entries (map.empty {X = Item} {R = slice_cmp nat_cmp}) ≡ []
no_entries = none_there (map.entries (map.empty {X = Item} {R = slice_cmp nat_cmp})) (sym (map.len-entries (map.empty {X = Item} {R = slice_cmp nat_cmp})) ∙ map.len-empty (slice_cmp nat_cmp) Item)

-- the entries of the files of nodes in order are the nodes' items
pub entries-files_of : (nodes : Nodes) → IsStrictlySortedBy (λ x y. slice_cmp nat_cmp x.items y.items) (map_list (λ e. e.0) nodes) → map.entries (files_of nodes) ≡ items nodes
unfolding IsStrictlySortedBy
entries-files_of [] sorted = no_entries
entries-files_of (e ∷ []) sorted =
    map.entries-insert nat_list_cmp_total (files_of []) e.0.items (item_of e.1) ∙ ap (put (slice_cmp nat_cmp) e.0.items (item_of e.1)) no_entries
entries-files_of (e ∷ (f ∷ nodes)) sorted =
    map.entries-insert nat_list_cmp_total (files_of (f ∷ nodes)) e.0.items (item_of e.1)
    ∙ ap (put (slice_cmp nat_cmp) e.0.items (item_of e.1)) (entries-files_of (f ∷ nodes) sorted.1)
    ∙ rw sorted.0.0 refl
