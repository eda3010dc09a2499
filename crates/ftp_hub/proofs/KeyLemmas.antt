-- Numbers that were taken one by one from the keys of a table, until none was left, and sorted.
use Rattle.std.proofs.Common.{◌≡◌, sym, ap, ◌∙◌, subst, ℕ, List, [], ◌++◌, length, append-nil}
use Rattle.std.specs.Prelude.{nat_eq}
use Rattle.std.specs.List.{IsDistinct}
use Rattle.std.specs.List.Sorted.{IsPermutation, IsSorted}
use Rattle.std.specs.Ordering.{nat_cmp}
use Rattle.std.specs.Set.{is_member}
use Rattle.std.proofs.lemmas.List.Sorted.{length_permutation}
use Rattle.ftp_laws.specs.Census.{IsAscending, has as is_listed}
use Rattle.ftp_hub.proofs.Ascending.{listed-key, sorted-ascend}

module _ (keys items left sorted : List ℕ) (ends : left ≡ []) (taken : items ++ left ≡ keys) (moved : IsPermutation items sorted) where
  -- all were taken
  all-taken : items ≡ keys
  all-taken = sym (append-nil items) ∙ ap (λ (rest : List ℕ). items ++ rest) (sym ends) ∙ taken

  all-moved : IsPermutation keys sorted
  all-moved = subst (λ (xs : List ℕ). IsPermutation xs sorted) all-taken moved

  -- keys that differ ascend
  pub taken-ascend : IsDistinct nat_eq keys → IsSorted nat_cmp sorted → IsAscending sorted
  taken-ascend distinct up = sorted-ascend keys sorted distinct all-moved up

  -- a number is listed where it is a key
  pub taken-listed : (s : ℕ) → is_listed sorted s ≡ is_member nat_eq keys s
  taken-listed s = listed-key keys sorted s all-moved

  -- there are as many as there are keys
  pub length-taken : length sorted ≡ length keys
  length-taken = length_permutation items sorted moved ∙ ap length all-taken
