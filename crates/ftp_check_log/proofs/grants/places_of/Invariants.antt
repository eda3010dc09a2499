use Rattle.std.proofs.Common.{◌≡◌, ◌+◌, ◌<◌, ℕ, length}
use Rattle.std.specs.Prelude.{slice_get}
use Rattle.std.specs.BTreeMap as tree
use Rattle.std.specs.Option.{option_map}
use Rattle.std.specs.Ordering.{nat_cmp}
use Rattle.ftp_check_log.proofs.grants.places_of.Given as goal

-- the places of the ports so far
abbrev pub invariant-loop-i : goal.invariant-loop-i
invariant-loop-i l = record {
  count : length l.places.items ≡ l.i;
  places : (j : ℕ) → j < length l.places.items → option_map (λ x. x.place) (tree.get nat_cmp l.last (l.options.lo + j)) ≡ slice_get l.places.items j;
}
