-- What a search for a name among the registered ones finds.
use Rattle.std.proofs.Common.{◌≡◌, ℕ, ◌<◌, Bool, List, [], ◌∷◌, length, get_or, Some, None, cond, refl, sym, ap, ◌∙◌}
use Rattle.std.specs.List.{insert, HoldsAt}
use Rattle.std.specs.List.Sorted.{IsStrictlySortedBy, IsNonDecreasingBy, IsPartitionPoint}
use Rattle.std.specs.Map.{lookup, keys_of}
use Rattle.std.specs.Ordering.{nat_cmp, eq_by_cmp, ordering_index}
use Rattle.std.specs.Str.{bytes_eq}
use Rattle.std.specs.declared.cmp.Ordering.TheVariants.{Less, Equal, Greater}
use Rattle.std.specs.Cmp.Lexicographic.{slice_cmp, nat_list_cmp_total}
use Rattle.std.proofs.lemmas.Map.Text.{is_eq-slice_cmp}
use Rattle.ftp_options.specs.Site.{upper, handler_of, with_handler, FindsOneMore}
use Rattle.ftp_base.proofs.Sorted.{comparisons_climb}
use Rattle.ftp_options.proofs.Tables.{lookup-found, lookup-gap, insert-gap, rises-entry, lookup-entry}

abbrev pub Sites : Type 0 → Type 0
Sites H = List (List ℕ × H)

module _ {H : Type 0} where
  abbrev pub AreInOrder : Sites H → Type 0
  AreInOrder sites = IsStrictlySortedBy (slice_cmp nat_cmp) (keys_of sites)

  -- the names before the place are lower, and those from it on are higher, where the names are in order
  abbrev IsGap : Sites H → List ℕ → ℕ → Type 0
  IsGap sites name i =
      IsNonDecreasingBy (λ site. ordering_index (slice_cmp nat_cmp site.0 (upper name))) sites →
      IsPartitionPoint (λ site. slice_cmp nat_cmp site.0 (upper name) ≡ Less) (λ site. slice_cmp nat_cmp site.0 (upper name) ≡ Greater) sites i

  by_order : (sites : Sites H) (name : List ℕ) → lookup (bytes_eq name) sites ≡ lookup (eq_by_cmp (slice_cmp nat_cmp) name) sites
  by_order [] name = refl
  by_order (s ∷ sites) name =
      ap (λ (b : Bool). cond b (Some s.1) (lookup (bytes_eq name) sites)) (sym (is_eq-slice_cmp name s.0))
      ∙ ap (cond (eq_by_cmp (slice_cmp nat_cmp) name s.0) (Some s.1)) (by_order sites name)

  -- at the place that was found stands the handler
  pub found : (sites : Sites H) (name : List ℕ) (i : ℕ) (d : List ℕ × H) → AreInOrder sites → i < length sites →
      HoldsAt (λ site. slice_cmp nat_cmp site.0 (upper name) ≡ Equal) sites i →
      handler_of sites name ≡ Some (get_or sites i d).1
  found sites name i d order lt is = by_order sites (upper name) ∙ lookup-found nat_list_cmp_total sites i (upper name) d order lt (is d)

  pub not-absent : (sites : Sites H) (name : List ℕ) (i : ℕ) (d : List ℕ × H) → AreInOrder sites → i < length sites →
      HoldsAt (λ site. slice_cmp nat_cmp site.0 (upper name) ≡ Equal) sites i →
      handler_of sites name ≡ None → ⊥
  not-absent sites name i d order lt is none = let here : None ≡ Some (get_or sites i d).1 = sym none ∙ found sites name i d order lt is in cc

  -- where no place was found there is none
  pub absent : (sites : Sites H) (name : List ℕ) (i : ℕ) → AreInOrder sites →
      IsGap sites name i →
      handler_of sites name ≡ None
  absent sites name i order is =
      let parted = is (comparisons_climb nat_list_cmp_total sites (upper name) order) in
      by_order sites (upper name) ∙ lookup-gap nat_list_cmp_total sites i (upper name) parted.0 parted.1

  -- put where it would go, a handler is in order of names
  pub put : (sites : Sites H) (name : List ℕ) (handler : H) (i : ℕ) → AreInOrder sites →
      IsGap sites name i →
      insert sites i (upper name, handler) ≡ with_handler sites name handler
  put sites name handler i order is =
      let parted = is (comparisons_climb nat_list_cmp_total sites (upper name) order) in
      insert-gap nat_list_cmp_total sites i (upper name) handler parted.0 parted.1

  pub put-order : (sites : Sites H) (name : List ℕ) (handler : H) → AreInOrder sites → AreInOrder (with_handler sites name handler)
  put-order sites name handler order = rises-entry nat_list_cmp_total sites (upper name) handler order

  -- it is found under its name, whatever the case
  pub put-found : (sites : Sites H) (name : List ℕ) (handler : H) → FindsOneMore name handler sites (with_handler sites name handler)
  put-found sites name handler other =
      by_order (with_handler sites name handler) (upper other)
      ∙ lookup-entry nat_list_cmp_total sites (upper name) handler (upper other)
      ∙ ap (λ (b : Bool). cond b (Some handler) (lookup (eq_by_cmp (slice_cmp nat_cmp) (upper other)) sites)) (is_eq-slice_cmp (upper other) (upper name))
      ∙ ap (cond (bytes_eq (upper other) (upper name)) (Some handler)) (sym (by_order sites (upper other)))
