-- A hash map seen as a finite map.
use Rattle.std.proofs.Common.{◌≡◌, ℕ, nat_eq, Bool, cond, List, [], ◌∷◌, Some, refl, sym, ap, ◌∙◌, Ordering}
use Rattle.std.specs.Ordering.{eq_by_cmp, nat_cmp}
use Rattle.std.specs.Cmp.{IsTotalOrder, eq_by_cmp_equiv, nat_cmp_total, unsigned_ties}
use Rattle.std.specs.Map.{lookup}
use Rattle.std.specs.FinMap.{nat_cmp-IsAntisymmetric, IsAntisymmetric, get, insert, from_entries, find, get-from_entries, get-insert, same_map}

module _ {K X : Type 0} {R : K → K → Ordering} (o : IsTotalOrder R) (exact : IsAntisymmetric R) (E : K → K → Bool) (ties : (x y : K) → E x y ≡ eq_by_cmp R x y) where
  -- an entry that is found by order is found by equality
  find-lookup : (es : List (K × X)) (q : K) → find R q es ≡ lookup (E q) es
  find-lookup [] q = refl
  find-lookup (e ∷ es) q =
      ap (λ b. cond b (Some e.1) (find R q es)) (sym (ties q e.0))
      ∙ ap (cond (E q e.0) (Some e.1)) (find-lookup es q)

  -- the map of the entries has at a key what a look-up finds
  pub get-from_entries-lookup : (es : List (K × X)) (q : K) → get (from_entries {R = R} es) q ≡ lookup (E q) es
  get-from_entries-lookup es q = get-from_entries o es q ∙ find-lookup es q

  -- entries with one more, or with one changed, are the map with that key put in
  pub from_entries-insert : (es fs : List (K × X)) (k : K) (v : X) → ((q : K) → lookup (E q) fs ≡ cond (E k q) (Some v) (lookup (E q) es)) → from_entries {R = R} fs ≡ insert (from_entries es) k v
  from_entries-insert es fs k v h =
      same_map o exact _ _ (λ q.
      get-from_entries-lookup fs q ∙ h q
      ∙ ap (λ b. cond b (Some v) (lookup (E q) es)) (ties k q ∙ (eq_by_cmp_equiv o).symm k q)
      ∙ sym
      (get-insert o (from_entries es) k v q
      ∙ ap (cond (eq_by_cmp R q k) (Some v)) (get-from_entries-lookup es q)))

module _ {X : Type 0} where
  -- at keys that are numbers
  pub get-numbers : (es : List (ℕ × X)) (q : ℕ) → get (from_entries {R = nat_cmp} es) q ≡ lookup (nat_eq q) es
  get-numbers = get-from_entries-lookup nat_cmp_total nat_cmp-IsAntisymmetric nat_eq unsigned_ties

  -- a number put in
  pub from_entries-insert-number : (es fs : List (ℕ × X)) (k : ℕ) (v : X) → ((q : ℕ) → lookup (nat_eq q) fs ≡ cond (nat_eq k q) (Some v) (lookup (nat_eq q) es)) → from_entries {R = nat_cmp} fs ≡ insert (from_entries es) k v
  from_entries-insert-number = from_entries-insert nat_cmp_total nat_cmp-IsAntisymmetric nat_eq unsigned_ties
