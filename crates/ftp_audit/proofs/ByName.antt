-- Maps by names of which the entries are kept under vectors.
use Rattle.std.proofs.Common.{◌≡◌, ℕ, Bool, true, false, cond, List, [], ◌∷◌, Vec, Global, Option, Some, None, refl, sym, ap, ◌∙◌}
use Rattle.std.specs.Prelude.{IsSome}
use Rattle.std.specs.FinMap as map
use Rattle.std.specs.Map.{lookup, set_value, remove_entry, keys_of}
use Rattle.std.specs.BTreeMap.{insert_entry, is_at}
use Rattle.std.specs.List.{IsDistinct, AllByRecursion}
use Rattle.std.specs.List.Sorted.{IsStrictlySortedBy}
use Rattle.std.proofs.lemmas.Map.{lookup-remove_entry, lookup-set_value}
use Rattle.std.proofs.lemmas.Map.Keys.{IsDistinct-from_sorted}
use Rattle.std.specs.Str.{bytes_eq}
use Rattle.std.proofs.lemmas.Slice.Eq.{bytes_eq-Decides}
use Rattle.std.specs.declared.cmp.Ordering.TheVariants.{Less, Equal, Greater}
use Rattle.std.specs.Ordering.{nat_cmp, eq_by_cmp}
use Rattle.std.specs.Cmp.Lexicographic.{slice_cmp, nat_list_cmp_total}
use Rattle.std.specs.Cmp.{Equal-is, eq_by_cmp_equiv}
use Rattle.std.specs.FinMap.{find, put}
use Rattle.std.specs.FinMap.Entries.{find-put}
use Rattle.ftp_base.proofs.Files.{paths_apart}
use Rattle.ftp_audit.specs.Names.{named, by_name}

-- the test by which a name is looked up
abbrev pub at_name : List ℕ → Vec ℕ Global → Bool
at_name name = is_at (λ k. slice_cmp nat_cmp name k.items)

-- names that are found equal are equal
pub same_name : (a b : List ℕ) → bytes_eq a b ≡ true → a ≡ b
same_name a b e = (bytes_eq-Decides a b).0 e

-- a name equals itself
pub own_name : (a : List ℕ) → bytes_eq a a ≡ true
own_name a = (bytes_eq-Decides a a).1 refl

-- names that tie are equal
pub tied : (a b : List ℕ) → eq_by_cmp (slice_cmp nat_cmp) a b ≡ true → a ≡ b
tied a b e = paths_apart a b ((Equal-is (slice_cmp nat_cmp a b)).0 e)

-- a name ties with itself
pub itself : (a : List ℕ) → eq_by_cmp (slice_cmp nat_cmp) a a ≡ true
itself a = (eq_by_cmp_equiv nat_list_cmp_total).refl a

-- a name ties with another as that does with it
pub turned : (a b : List ℕ) → eq_by_cmp (slice_cmp nat_cmp) a b ≡ eq_by_cmp (slice_cmp nat_cmp) b a
turned a b = (eq_by_cmp_equiv nat_list_cmp_total).symm a b

-- one name: what ties with it ties with what it ties with
one : (name x y : List ℕ) → eq_by_cmp (slice_cmp nat_cmp) name x ≡ true → eq_by_cmp (slice_cmp nat_cmp) name y ≡ eq_by_cmp (slice_cmp nat_cmp) x y
one name x y e = ap (λ (n : List ℕ). eq_by_cmp (slice_cmp nat_cmp) n y) (tied name x e)

module _ {X : Type 0} where
  -- what is found in a map is what is looked up in its entries
  pub find-lookup : (es : List (List ℕ × X)) (q : List ℕ) → find (slice_cmp nat_cmp) q es ≡ lookup (eq_by_cmp (slice_cmp nat_cmp) q) es
  find-lookup [] q = refl
  find-lookup (e ∷ es) q = ap (cond (eq_by_cmp (slice_cmp nat_cmp) q e.0) (Some e.1)) (find-lookup es q)

  lookup-named : (entries : List (Vec ℕ Global × X)) (q : List ℕ) → lookup (eq_by_cmp (slice_cmp nat_cmp) q) (named entries) ≡ lookup (at_name q) entries
  lookup-named [] q = refl
  lookup-named (e ∷ entries) q = ap (cond (at_name q e.0) (Some e.1)) (lookup-named entries q)

  get-lookup : (es : List (List ℕ × X)) (q : List ℕ) → map.get (map.from_entries {R = slice_cmp nat_cmp} es) q ≡ lookup (eq_by_cmp (slice_cmp nat_cmp) q) es
  get-lookup es q = map.get-from_entries nat_list_cmp_total es q ∙ find-lookup es q

  -- what stands at a name is what is looked up
  pub get-by_name : (entries : List (Vec ℕ Global × X)) (q : List ℕ) → map.get (by_name entries) q ≡ lookup (at_name q) entries
  get-by_name entries q = get-lookup (named entries) q ∙ lookup-named entries q

  -- what was found under a key is what stands at its name
  pub get-found : (entries : List (Vec ℕ Global × X)) (q key : List ℕ) (x : Option X) → key ≡ q → x ≡ lookup (at_name key) entries → map.get (by_name entries) q ≡ x
  get-found entries q key x same found = get-by_name entries q ∙ ap (λ (name : List ℕ). lookup (at_name name) entries) (sym same) ∙ sym found

  named-insert_entry : (entries : List (Vec ℕ Global × X)) (k : Vec ℕ Global) (v : X) →
      named (insert_entry (λ x y. slice_cmp nat_cmp x.items y.items) entries k v) ≡ put (slice_cmp nat_cmp) k.items v (named entries)
  named-insert_entry [] k v = refl
  named-insert_entry (e ∷ entries) k v =
      elim (slice_cmp nat_cmp k.items e.0.items) as (λ r. slice_cmp nat_cmp k.items e.0.items ≡ r → named (insert_entry (λ x y. slice_cmp nat_cmp x.items y.items) (e ∷ entries) k v) ≡ put (slice_cmp nat_cmp) k.items v (named (e ∷ entries))) [
        | Less ↦ λ p. rw p refl
        | Equal ↦ λ p. rw p refl
        | Greater ↦ λ p. rw p (ap (λ (rest : List (List ℕ × X)). (e.0.items, e.1) ∷ rest) (named-insert_entry entries k v))
      ] refl

  by_name-insert_entry : (entries : List (Vec ℕ Global × X)) (k : Vec ℕ Global) (v : X) →
      by_name (insert_entry (λ x y. slice_cmp nat_cmp x.items y.items) entries k v) ≡ map.insert (by_name entries) k.items v
  by_name-insert_entry entries k v =
      map.same_map nat_list_cmp_total paths_apart _ _ (λ q.
      map.get-from_entries nat_list_cmp_total (named (insert_entry (λ x y. slice_cmp nat_cmp x.items y.items) entries k v)) q
      ∙ ap (find (slice_cmp nat_cmp) q) (named-insert_entry entries k v)
      ∙ find-put (slice_cmp nat_cmp) nat_list_cmp_total q k.items v (named entries)
      ∙ ap (cond (eq_by_cmp (slice_cmp nat_cmp) q k.items) (Some v)) (sym (map.get-from_entries nat_list_cmp_total (named entries) q))
      ∙ sym (map.get-insert nat_list_cmp_total (by_name entries) k.items v q))

  -- what was put under a key of this name is put at the name
  pub by_name-put : (entries new : List (Vec ℕ Global × X)) (q : List ℕ) (k : Vec ℕ Global) (v : X) → k.items ≡ q →
      new ≡ insert_entry (λ x y. slice_cmp nat_cmp x.items y.items) entries k v → by_name new ≡ map.insert (by_name entries) q v
  by_name-put entries new q k v same put =
      ap by_name put ∙ by_name-insert_entry entries k v ∙ ap (λ (name : List ℕ). map.insert (by_name entries) name v) same

  named-set_value : (entries : List (Vec ℕ Global × X)) (name : List ℕ) (w : X) →
      named (set_value (at_name name) entries w) ≡ set_value (eq_by_cmp (slice_cmp nat_cmp) name) (named entries) w
  named-set_value [] name w = refl
  named-set_value (e ∷ entries) name w =
      elim (at_name name e.0) as (λ b. named (cond b ((e.0, w) ∷ entries) (e ∷ set_value (at_name name) entries w)) ≡ cond b ((e.0.items, w) ∷ named entries) ((e.0.items, e.1) ∷ set_value (eq_by_cmp (slice_cmp nat_cmp) name) (named entries) w)) [
        | true ↦ refl
        | false ↦ ap (λ (rest : List (List ℕ × X)). (e.0.items, e.1) ∷ rest) (named-set_value entries name w)
      ]

  named-remove_entry : (entries : List (Vec ℕ Global × X)) (name : List ℕ) →
      named (remove_entry (at_name name) entries) ≡ remove_entry (eq_by_cmp (slice_cmp nat_cmp) name) (named entries)
  named-remove_entry [] name = refl
  named-remove_entry (e ∷ entries) name =
      elim (at_name name e.0) as (λ b. named (cond b entries (e ∷ remove_entry (at_name name) entries)) ≡ cond b (named entries) ((e.0.items, e.1) ∷ remove_entry (eq_by_cmp (slice_cmp nat_cmp) name) (named entries))) [
        | true ↦ refl
        | false ↦ ap (λ (rest : List (List ℕ × X)). (e.0.items, e.1) ∷ rest) (named-remove_entry entries name)
      ]

  by_name-set_value : (entries : List (Vec ℕ Global × X)) (name : List ℕ) (w : X) → IsSome (lookup (at_name name) entries) →
      by_name (set_value (at_name name) entries w) ≡ map.insert (by_name entries) name w
  by_name-set_value entries name w there =
      let found : IsSome (lookup (eq_by_cmp (slice_cmp nat_cmp) name) (named entries)) = rw (lookup-named entries name) there in
      map.same_map nat_list_cmp_total paths_apart _ _ (λ q.
      get-lookup (named (set_value (at_name name) entries w)) q
      ∙ ap (lookup (eq_by_cmp (slice_cmp nat_cmp) q)) (named-set_value entries name w)
      ∙ lookup-set_value (eq_by_cmp_equiv nat_list_cmp_total) (eq_by_cmp (slice_cmp nat_cmp) name) (one name) q w (named entries) found
      ∙ ap (λ b. cond b (Some w) (lookup (eq_by_cmp (slice_cmp nat_cmp) q) (named entries))) (turned name q)
      ∙ ap (cond (eq_by_cmp (slice_cmp nat_cmp) q name) (Some w)) (sym (get-lookup (named entries) q))
      ∙ sym (map.get-insert nat_list_cmp_total (by_name entries) name w q))

  -- what was written where a key was found is put at its name
  pub by_name-written : (entries new : List (Vec ℕ Global × X)) (q key : List ℕ) (x w : X) → key ≡ q → Some x ≡ lookup (at_name key) entries →
      new ≡ set_value (at_name key) entries w → by_name new ≡ map.insert (by_name entries) q w
  by_name-written entries new q key x w same found written =
      ap by_name written ∙ by_name-set_value entries key w (rw (← found) refl) ∙ ap (λ (name : List ℕ). map.insert (by_name entries) name w) same

  above-named : (k : List ℕ) (entries : List (Vec ℕ Global × X)) → AllByRecursion (λ y. slice_cmp nat_cmp k y.items ≡ Less) (keys_of entries) →
      AllByRecursion (λ y. slice_cmp nat_cmp k y ≡ Less) (keys_of (named entries))
  above-named k [] above = above
  above-named k (e ∷ entries) above = (above.0, above-named k entries above.1)

  sorted-named : (entries : List (Vec ℕ Global × X)) → IsStrictlySortedBy (λ x y. slice_cmp nat_cmp x.items y.items) (keys_of entries) →
      IsStrictlySortedBy (slice_cmp nat_cmp) (keys_of (named entries))
  unfolding IsStrictlySortedBy
  sorted-named [] sorted = sorted
  sorted-named (e ∷ entries) sorted = (above-named e.0.items entries sorted.0, sorted-named entries sorted.1)

  by_name-remove_entry : (entries : List (Vec ℕ Global × X)) (name : List ℕ) → IsStrictlySortedBy (λ x y. slice_cmp nat_cmp x.items y.items) (keys_of entries) →
      by_name (remove_entry (at_name name) entries) ≡ map.remove (by_name entries) name
  by_name-remove_entry entries name sorted =
      let distinct : IsDistinct (eq_by_cmp (slice_cmp nat_cmp)) (keys_of (named entries)) = IsDistinct-from_sorted (slice_cmp nat_cmp) (keys_of (named entries)) (sorted-named entries sorted) in
      map.same_map nat_list_cmp_total paths_apart _ _ (λ q.
      get-lookup (named (remove_entry (at_name name) entries)) q
      ∙ ap (lookup (eq_by_cmp (slice_cmp nat_cmp) q)) (named-remove_entry entries name)
      ∙ lookup-remove_entry (eq_by_cmp_equiv nat_list_cmp_total) (eq_by_cmp (slice_cmp nat_cmp) name) (one name) q (named entries) distinct
      ∙ ap (λ b. cond b None (lookup (eq_by_cmp (slice_cmp nat_cmp) q) (named entries))) (turned name q)
      ∙ ap (cond (eq_by_cmp (slice_cmp nat_cmp) q name) None) (sym (get-lookup (named entries) q))
      ∙ sym (map.get-remove nat_list_cmp_total (by_name entries) name q))

  -- what was taken out under a key is taken from its name
  pub by_name-removed : (entries new : List (Vec ℕ Global × X)) (q key : List ℕ) → IsStrictlySortedBy (λ x y. slice_cmp nat_cmp x.items y.items) (keys_of entries) →
      key ≡ q → new ≡ remove_entry (at_name key) entries → by_name new ≡ map.remove (by_name entries) q
  by_name-removed entries new q key sorted same removed =
      ap by_name removed ∙ by_name-remove_entry entries key sorted ∙ ap (map.remove (by_name entries)) same
