-- Listings in byte order of names, and places by the last of their names.
use Rattle.std.proofs.Common.{◌≡◌, ◌∙◌, ◌||◌, ap, sym, subst, refl, ℕ, Bool, List, All, [], ◌∷◌, ◌++◌, map, Bor, Some, length, take, arith}
use Rattle.std.specs.Fn.{Called}
use Rattle.std.specs.List.{list_any}
use Rattle.std.specs.List.Sorted.{IsSortedByKey, IsSortedByClosure}
use Rattle.std.proofs.lemmas.Fn.{always_returns_same}
use Rattle.std.proofs.lemmas.List.{map-append}
use Rattle.std.proofs.lemmas.List.Elements.{All-weaker}
use Rattle.std.proofs.lemmas.List.Sorted.{ranks_by}
use denote.Param.Members.{Mut}
use Rattle.std.specs.declared.cmp.Ordering.{Ordering}
use Rattle.std.specs.Ordering.{nat_cmp, is_lt}
use Rattle.std.specs.Cmp.Lexicographic.{slice_cmp, nat_list_cmp_total}
use Rattle.ftp_base.specs.declared.storage.FileInfo.{FileInfo}
use Rattle.ftp_places.specs.Place.{Location, below_by}
use Rattle.ftp_disk.specs.declared.standing.Standing.{Standing}
use Rattle.ftp_disk.specs.FileSystem.{IsUnlinked, Told}
use Rattle.ftp_disk.specs.Standing.{Stood}
use Rattle.ftp_disk.specs.Listing.{child, IsListingOf, IsShownBy, IsShownOf, Lists, ListsFile, WasShown}
use Rattle.ftp_disk.proofs.VisibleLemmas.{dir-of}

-- what a sort by a closure that compares names ensures
pub sorted_by_name :
    {F : Type 0} {g : Mut F (Bor FileInfo × (Bor FileInfo × Unit {0})) Ordering} {f : F} (infos : List FileInfo) →
    IsSortedByClosure g f infos →
    ((a : Bor FileInfo × (Bor FileInfo × Unit {0})) (r : Ordering) (f' : F) → Called g f a r f' → (r ≡ slice_cmp nat_cmp a.0.now.name a.1.0.now.name) × (f' ≡ f)) →
    IsSortedByKey (λ info. info.name) (slice_cmp nat_cmp) infos
sorted_by_name {g = g} {f = f} infos up h =
    up (λ x y. is_lt (slice_cmp nat_cmp x.name y.name)) (ranks_by nat_list_cmp_total (λ (info : FileInfo). info.name))
    (always_returns_same g (λ a r. is_lt r ≡ is_lt (slice_cmp nat_cmp a.0.now.name a.1.0.now.name)) f (λ a r f' k. (ap is_lt (h a r f' k).0, (h a r f' k).1)))

-- a list of one is sorted
pub sorted-one : (info : FileInfo) → IsSortedByKey (λ (i : FileInfo). i.name) (slice_cmp nat_cmp) (info ∷ [])
sorted-one info = λ k d low high. absurd (omega arith)

-- a list that is one of one is sorted
pub sorted-alone : (info : FileInfo) (infos : List FileInfo) → infos ≡ info ∷ [] → IsSortedByKey (λ (i : FileInfo). i.name) (slice_cmp nat_cmp) infos
sorted-alone info infos e = subst (λ (is : List FileInfo). IsSortedByKey (λ (i : FileInfo). i.name) (slice_cmp nat_cmp) is) (sym e) (sorted-one info)

-- what is listed where this stands
pub listing-of :
    {told : Told} {place : Location} {infos : List FileInfo} (standing : Standing) →
    IsUnlinked told place → Stood told place standing → Lists told place standing infos → IsSortedByKey (λ (i : FileInfo). i.name) (slice_cmp nat_cmp) infos →
    IsListingOf told place infos
listing-of standing unlinked stood listed in_order = record { unlinked = unlinked; standing = standing; stood = stood; listed = listed; in_order = in_order }

-- what is shown by a pattern is shown
pub WasShown-all : (told : Told) (place : Location) (pattern : List ℕ) (infos : List FileInfo) → All (IsShownOf told place pattern) infos → All (WasShown told place) infos
WasShown-all told place pattern infos shown = All-weaker (IsShownOf told place pattern) (WasShown told place) (λ info h. h.1) infos shown

-- the names of the directory before a place, and the place as a child of it
pub names-before :
    (place dir : Location) (parts before : List (Bor (List ℕ))) (last : Bor (List ℕ)) →
    map (λ n. n.now) parts ≡ place.names → parts ≡ before ++ last ∷ [] → dir ≡ below_by place.root (take (length before) place.names) →
    dir.names ≡ map (λ n. n.now) before
names-before place dir parts before last named split at =
    ap (λ (d : Location). d.names) at
    ∙ ap (take (length before)) (sym named ∙ ap (map (λ (n : Bor (List ℕ)). n.now)) split)
    ∙ dir-of before last

pub child-last :
    (place dir : Location) (parts before : List (Bor (List ℕ))) (last : Bor (List ℕ)) →
    map (λ n. n.now) parts ≡ place.names → parts ≡ before ++ last ∷ [] → dir ≡ below_by place.root (take (length before) place.names) →
    place ≡ child dir last.now
child-last place dir parts before last named split at =
    ap (below_by place.root)
    (sym named ∙ ap (map (λ (n : Bor (List ℕ)). n.now)) split ∙ map-append (λ n. n.now) before (last ∷ []) ∙ ap (λ ns. ns ++ last.now ∷ []) (sym (names-before place dir parts before last named split at)))
    ∙ ap (λ root. below_by root (dir.names ++ last.now ∷ [])) (sym (ap (λ (d : Location). d.root) at))

-- a file is listed by what is shown of it
pub ListsFile-shown : (told : Told) (place dir : Location) (name : List ℕ) (info : FileInfo) → place ≡ child dir name →
    IsShownBy told dir name (Some info) → ListsFile told place (info ∷ [])
ListsFile-shown told place dir name info leads shown =
    record { dir = dir; info = info; leads = leads ∙ ap (child dir) (sym shown.0); alone = refl; shown = shown.2 }

-- a test of names that are lent
pub list_any-map : {X Y : Type 0} (p : X → Bool) (h : Y → X) (ys : List Y) → list_any p (map h ys) ≡ list_any (λ y. p (h y)) ys
list_any-map p h [] = refl
list_any-map p h (y ∷ ys) = ap (λ t. p (h y) || t) (list_any-map p h ys)
