-- Numbers that are sorted and differ ascend, and are those that they were before.
use Rattle.std.proofs.Common.{◌≡◌, refl, sym, ◌∙◌, ℕ, ◌<◌, ◌||◌, List, [], ◌∷◌, arith}
use Rattle.std.specs.Prelude.{◌==◌, nat_eq}
use Rattle.std.specs.Ordering.{nat_cmp}
use Rattle.std.specs.List.{AllByRecursion, IsDistinct}
use Rattle.std.specs.List.Sorted.{IsPermutation, IsSorted, IsStrictlySortedBy}
use Rattle.std.specs.declared.cmp.Ordering.TheVariants.{Less}
use Rattle.std.proofs.lemmas.List.Sorted.{IsNonDecreasingBy-from_sort, list_any-IsPermutation}
use Rattle.std.proofs.lemmas.Map.Keys.{IsDistinct-IsPermutation, IsStrictlyIncreasing-from_distinct, sorted_from_strictly_increasing, sorted_head, sorted_tail}
use Rattle.std.specs.Set.{is_member}
use Rattle.ftp_laws.specs.Census.{IsAscending, has as is_listed}

-- what compares as less is less
all-less : (x : ℕ) (ys : List ℕ) → AllByRecursion (λ y. nat_cmp x y ≡ Less) ys → AllByRecursion (λ y. x < y) ys
all-less x [] all = tt
all-less x (y ∷ ys) all = (less x y all.0, all-less x ys all.1)
  where
    less : (x y : ℕ) → nat_cmp x y ≡ Less → x < y
    less x y h = grind arith

ascend : (xs : List ℕ) → IsStrictlySortedBy nat_cmp xs → IsAscending xs
ascend [] up = tt
ascend (x ∷ xs) up = (all-less x xs (sorted_head nat_cmp x xs up), ascend xs (sorted_tail nat_cmp x xs up))

same-flipped : (x y : ℕ) → nat_eq x y ≡ nat_eq y x
same-flipped x y = grind arith

-- so do the keys of a table once they are sorted
pub sorted-ascend :
    (xs ys : List ℕ) → IsDistinct nat_eq xs → IsPermutation xs ys → IsSorted nat_cmp ys →
    IsAscending ys
sorted-ascend xs ys distinct moved sorted =
    ascend ys
    (sorted_from_strictly_increasing ys
    (IsStrictlyIncreasing-from_distinct ys (IsNonDecreasingBy-from_sort (λ x. x) ys sorted) (IsDistinct-IsPermutation nat_eq same-flipped xs ys moved distinct)))

-- a number is listed where it is a key
pub listed-key :
    (xs ys : List ℕ) (s : ℕ) → IsPermutation xs ys →
    is_listed ys s ≡ is_member nat_eq xs s
listed-key xs ys s moved = sym (list_any-IsPermutation (λ n. n == s) xs ys moved) ∙ flip xs
  where
    flip : (xs : List ℕ) → is_listed xs s ≡ is_member nat_eq xs s
    flip [] = refl
    flip (x ∷ xs) = (λ i. same-flipped x s i || flip xs i)
