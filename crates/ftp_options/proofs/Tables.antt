-- Entries whose keys rise: what a binary search finds among them, and an entry more in its place.
use Rattle.std.proofs.Common.{◌≡◌, ℕ, zero, suc, ◌<◌, Bool, true, false, cond, List, [], ◌∷◌, length, get_or, Some, None, refl, sym, ap, ◌∙◌, arith}
use Rattle.std.specs.List.{insert, AllByRecursion, AllWithin}
use Rattle.std.specs.Map.{lookup, keys_of}
use Rattle.std.specs.BTreeMap.{insert_entry}
use Rattle.std.specs.Ordering.{eq_by_cmp, is_eq, ordering_reverse, match_ordering}
use Rattle.std.specs.Cmp.{IsTotalOrder, alike_right, tied_back}
use Rattle.std.specs.declared.cmp.Ordering.{Ordering}
use Rattle.std.specs.declared.cmp.Ordering.TheVariants.{Less, Equal, Greater}
use Rattle.ftp_base.proofs.Sorted.{shadows, swaps, apart, Rises, rises-head, rises-tail, rises-cons, all-get_or, none_rises}

all-imply : {K : Type 0} {P Q : K → Type 0} → ((k : K) → P k → Q k) → (ks : List K) → AllByRecursion P ks → AllByRecursion Q ks
all-imply each [] all = tt
all-imply each (k ∷ ks) all = (each k all.0, all-imply each ks all.1)

module _ {K : Type 0} {R : K → K → Ordering} (o : IsTotalOrder R) where
  -- keys that tie are one to each other key
  same : (q k l : K) → R k l ≡ Equal → eq_by_cmp R q k ≡ eq_by_cmp R q l
  same q k l tie = ap is_eq (alike_right o k l q tie)

  -- ---- entries

  module _ {X : Type 0} where
    -- a key at a place has the value there
    pub lookup-found : (es : List (K × X)) (i : ℕ) (k : K) (d : K × X) → Rises o es → i < length es → R (get_or es i d).0 k ≡ Equal → lookup (eq_by_cmp R k) es ≡ Some (get_or es i d).1
    lookup-found [] i k d rises lt tie = absurd (omega arith)
    lookup-found (e ∷ es) zero k d rises lt tie = ap (λ (b : Bool). cond b (Some e.1) (lookup (eq_by_cmp R k) es)) (ap is_eq (tied_back o e.0 k tie))
    lookup-found (e ∷ es) (suc i) k d rises lt tie = by (eq_by_cmp R k e.0) refl (lookup-found es i k d (rises-tail o e es rises) (omega arith) tie) where
      by : (b : Bool) → eq_by_cmp R k e.0 ≡ b → lookup (eq_by_cmp R k) es ≡ Some (get_or es i d).1 → cond b (Some e.1) (lookup (eq_by_cmp R k) es) ≡ Some (get_or es i d).1
      by true there rest =
          absurd (apart o k e.0 (get_or es i d).0 (all-get_or o (λ y. R e.0 y ≡ Less) es i d (rises-head o e es rises) (omega arith)) there (ap is_eq (tied_back o (get_or es i d).0 k tie)))
      by false other rest = rest

    -- ---- a key between its neighbours

    below : (es : List (K × X)) (e : K × X) (i : ℕ) (k : K) → AllWithin (λ x. R x.0 k ≡ Less) (e ∷ es) 0 (suc i) → R k e.0 ≡ Greater
    below es e i k lower = o.antisymm k e.0 ∙ ap ordering_reverse (lower 0 e (omega arith) (omega arith))

    above : (es : List (K × X)) (e : K × X) (k : K) → AllWithin (λ x. R x.0 k ≡ Greater) (e ∷ es) 0 (length (e ∷ es)) → R k e.0 ≡ Less
    above es e k higher = o.antisymm k e.0 ∙ ap ordering_reverse (higher 0 e (omega arith) (omega arith))

    -- it has no value
    pub lookup-gap : (es : List (K × X)) (i : ℕ) (k : K) →
        AllWithin (λ x. R x.0 k ≡ Less) es 0 i → AllWithin (λ x. R x.0 k ≡ Greater) es i (length es) →
        lookup (eq_by_cmp R k) es ≡ None
    lookup-gap [] i k lower higher = refl
    lookup-gap (e ∷ es) zero k lower higher =
        ap (λ (r : Ordering). cond (is_eq r) (Some e.1) (lookup (eq_by_cmp R k) es)) (above es e k higher)
        ∙ lookup-gap es zero k (λ j d le lt. absurd (omega arith)) (λ j d le lt. higher (suc j) d (omega arith) (omega arith))
    lookup-gap (e ∷ es) (suc i) k lower higher =
        ap (λ (r : Ordering). cond (is_eq r) (Some e.1) (lookup (eq_by_cmp R k) es)) (below es e i k lower)
        ∙ lookup-gap es i k (λ j d le lt. lower (suc j) d (omega arith) (omega arith)) (λ j d le lt. higher (suc j) d (omega arith) (omega arith))

    entry_by : (e : K × X) (es : List (K × X)) (k : K) (v : X) (r : Ordering) → R k e.0 ≡ r →
        insert_entry R (e ∷ es) k v ≡ match_ordering r ((k, v) ∷ e ∷ es) ((e.0, v) ∷ es) (e ∷ insert_entry R es k v)
    entry_by e es k v r is = ap (λ (c : Ordering). match_ordering c ((k, v) ∷ e ∷ es) ((e.0, v) ∷ es) (e ∷ insert_entry R es k v)) is

    -- put there, it stands in its place
    pub insert-gap : (es : List (K × X)) (i : ℕ) (k : K) (v : X) →
        AllWithin (λ x. R x.0 k ≡ Less) es 0 i → AllWithin (λ x. R x.0 k ≡ Greater) es i (length es) →
        insert es i (k, v) ≡ insert_entry R es k v
    insert-gap [] zero k v lower higher = refl
    insert-gap [] (suc i) k v lower higher = refl
    insert-gap (e ∷ es) zero k v lower higher = sym (entry_by e es k v Less (above es e k higher))
    insert-gap (e ∷ es) (suc i) k v lower higher =
        ap (λ (xs : List (K × X)). e ∷ xs) (insert-gap es i k v (λ j d le lt. lower (suc j) d (omega arith) (omega arith)) (λ j d le lt. higher (suc j) d (omega arith) (omega arith)))
        ∙ sym (entry_by e es k v Greater (below es e i k lower))

    -- ---- an entry more

    all-entry : (P : K → Type 0) (es : List (K × X)) (k : K) (v : X) → P k → AllByRecursion P (keys_of es) → AllByRecursion P (keys_of (insert_entry R es k v))
    all-entry P [] k v here all = (here, tt)
    all-entry P (e ∷ es) k v here all = by (R k e.0) (all-entry P es k v here all.1) where
      by : (r : Ordering) → AllByRecursion P (keys_of (insert_entry R es k v)) → AllByRecursion P (keys_of (match_ordering r ((k, v) ∷ e ∷ es) ((e.0, v) ∷ es) (e ∷ insert_entry R es k v)))
      by Less rest = (here, all)
      by Equal rest = all
      by Greater rest = (all.0, rest)

    -- the keys rise with an entry more
    pub rises-entry : (es : List (K × X)) (k : K) (v : X) → Rises o es → Rises o (insert_entry R es k v)
    rises-entry [] k v rises = rises-cons o (k, v) [] tt (none_rises R)
    rises-entry (e ∷ es) k v rises = by (R k e.0) refl (rises-entry es k v (rises-tail o e es rises)) where
      by : (r : Ordering) → R k e.0 ≡ r → Rises o (insert_entry R es k v) → Rises o (match_ordering r ((k, v) ∷ e ∷ es) ((e.0, v) ∷ es) (e ∷ insert_entry R es k v))
      by Less less rest = rises-cons o (k, v) (e ∷ es) (less, all-imply (λ y up. o.trans k e.0 y less up) (keys_of es) (rises-head o e es rises)) rises
      by Equal tie rest = rises-cons o (e.0, v) es (rises-head o e es rises) (rises-tail o e es rises)
      by Greater more rest = rises-cons o e (insert_entry R es k v) (all-entry (λ y. R e.0 y ≡ Less) es k v (o.antisymm e.0 k ∙ ap ordering_reverse more) (rises-head o e es rises)) rest

    -- under its key stands the new value, and under each other key what stood there
    pub lookup-entry : (es : List (K × X)) (k : K) (v : X) (q : K) → lookup (eq_by_cmp R q) (insert_entry R es k v) ≡ cond (eq_by_cmp R q k) (Some v) (lookup (eq_by_cmp R q) es)
    lookup-entry [] k v q = refl
    lookup-entry (e ∷ es) k v q = by (R k e.0) refl (lookup-entry es k v q) where
      by : (r : Ordering) → R k e.0 ≡ r →
          lookup (eq_by_cmp R q) (insert_entry R es k v) ≡ cond (eq_by_cmp R q k) (Some v) (lookup (eq_by_cmp R q) es) →
          lookup (eq_by_cmp R q) (match_ordering r ((k, v) ∷ e ∷ es) ((e.0, v) ∷ es) (e ∷ insert_entry R es k v))
          ≡ cond (eq_by_cmp R q k) (Some v) (cond (eq_by_cmp R q e.0) (Some e.1) (lookup (eq_by_cmp R q) es))
      by Less less rest = refl
      by Equal tie rest =
          ap (λ (b : Bool). cond b (Some v) (lookup (eq_by_cmp R q) es)) (sym (same q k e.0 tie))
          ∙ shadows (eq_by_cmp R q k) (Some v) (Some e.1) (lookup (eq_by_cmp R q) es)
          ∙ ap (λ (b : Bool). cond (eq_by_cmp R q k) (Some v) (cond b (Some e.1) (lookup (eq_by_cmp R q) es))) (same q k e.0 tie)
      by Greater more rest =
          ap (cond (eq_by_cmp R q e.0) (Some e.1)) rest
          ∙ swaps (eq_by_cmp R q e.0) (eq_by_cmp R q k) (Some e.1) (Some v) (lookup (eq_by_cmp R q) es)
          (apart o q e.0 k (o.antisymm e.0 k ∙ ap ordering_reverse more))
