-- Look-ups in a list of records whose keys rise, and what edits at a place make of them.
use Rattle.std.proofs.Common.{◌≡◌, ℕ, zero, suc, ◌<◌, ◌≤◌, Bool, true, false, cond, List, [], ◌∷◌, length, get_or, Some, None, refl, sym, ap, subst, ◌∙◌, arith, inl, inr}
use Rattle.std.proofs.Math.ListN.{set}
use Rattle.std.specs.Prelude.{slice_get, filter}
use Rattle.std.specs.List.{insert, remove, AllByRecursion}
use Rattle.std.specs.Map.{lookup, keys_of}
use Rattle.std.specs.Ordering.{eq_by_cmp, is_eq, ordering_reverse}
use Rattle.std.specs.Cmp.{IsTotalOrder, tied_back}
use Rattle.std.specs.declared.cmp.Ordering.{Ordering}
use Rattle.std.specs.declared.cmp.Ordering.TheVariants.{Less, Equal}
use Rattle.std.proofs.lemmas.Bool.{cases_lt}
use Rattle.ftp_base.proofs.Sorted.{shadows, swaps, apart, none_rises, Rises, rises-head, rises-tail, rises-cons}

-- ---- lists

-- what is got at a place is what stands there
pub get_or-get : {A : Type 0} (xs : List A) (i : ℕ) (x d : A) → slice_get xs i ≡ Some x → get_or xs i d ≡ x
get_or-get [] i x d got = cc
get_or-get (y ∷ xs) zero x d got = cc
get_or-get (y ∷ xs) (suc i) x d got = get_or-get xs i x d got

-- what is got stands within the list
pub get-within : {A : Type 0} (xs : List A) (i : ℕ) (x : A) → slice_get xs i ≡ Some x → i < length xs
get-within [] i x got = cc
get-within (y ∷ xs) zero x got = omega arith
get-within (y ∷ xs) (suc i) x got = let lt = get-within xs i x got in omega arith

-- ---- records

module _ {K X : Type 0} where
  pub all-get : (P : K → Type 0) (es : List (K × X)) (i : ℕ) (r : K × X) → AllByRecursion P (keys_of es) → slice_get es i ≡ Some r → P r.0
  all-get P [] i r all got = cc
  all-get P (e ∷ es) zero r all got = let here : e ≡ r = cc in subst (λ (x : K × X). P x.0) here all.0
  all-get P (e ∷ es) (suc i) r all got = all-get P es i r all.1 got

  all-from_get : (P : K → Type 0) (es : List (K × X)) → ((i : ℕ) (r : K × X) → slice_get es i ≡ Some r → P r.0) → AllByRecursion P (keys_of es)
  all-from_get P [] each = tt
  all-from_get P (e ∷ es) each = (each 0 e refl, all-from_get P es (λ i r got. each (suc i) r got))

  all-insert : (P : K → Type 0) (es : List (K × X)) (i : ℕ) (k : K) (v : X) → AllByRecursion P (keys_of es) → P k → AllByRecursion P (keys_of (insert es i (k, v)))
  all-insert P es zero k v all new = (new, all)
  all-insert P [] (suc i) k v all new = (new, tt)
  all-insert P (e ∷ es) (suc i) k v all new = (all.0, all-insert P es i k v all.1 new)

  all-remove : (P : K → Type 0) (es : List (K × X)) (i : ℕ) → AllByRecursion P (keys_of es) → AllByRecursion P (keys_of (remove es i))
  all-remove P [] zero all = tt
  all-remove P [] (suc i) all = tt
  all-remove P (e ∷ es) zero all = all.1
  all-remove P (e ∷ es) (suc i) all = (all.0, all-remove P es i all.1)

  all-filter : (P : K → Type 0) (p : K × X → Bool) (es : List (K × X)) → AllByRecursion P (keys_of es) → AllByRecursion P (keys_of (filter p es))
  all-filter P p [] all = tt
  all-filter P p (e ∷ es) all = by (p e) (all-filter P p es all.1) where
    by : (b : Bool) → AllByRecursion P (keys_of (filter p es)) → AllByRecursion P (keys_of (cond b (e ∷ filter p es) (filter p es)))
    by true rest = (all.0, rest)
    by false rest = rest

  pub keys-set : (es : List (K × X)) (i : ℕ) (r : K × X) (v : X) → slice_get es i ≡ Some r → keys_of (set es i (r.0, v)) ≡ keys_of es
  keys-set [] i r v got = cc
  keys-set (e ∷ es) zero r v got = let here : e ≡ r = cc in ap (λ (x : K × X). x.0 ∷ keys_of es) (sym here)
  keys-set (e ∷ es) (suc i) r v got = ap (λ (ks : List K). e.0 ∷ ks) (keys-set es i r v got)

  module _ {R : K → K → Ordering} (o : IsTotalOrder R) where
    lookup-above : (es : List (K × X)) (q k : K) → AllByRecursion (λ y. R k y ≡ Less) (keys_of es) → eq_by_cmp R q k ≡ true → lookup (eq_by_cmp R q) es ≡ None
    lookup-above [] q k all here = refl
    lookup-above (e ∷ es) q k all here = by (eq_by_cmp R q e.0) refl (lookup-above es q k all.1 here) where
      by : (b : Bool) → eq_by_cmp R q e.0 ≡ b → lookup (eq_by_cmp R q) es ≡ None → cond b (Some e.1) (lookup (eq_by_cmp R q) es) ≡ None
      by true there rest = absurd (apart o q k e.0 all.0 here there)
      by false other rest = rest

    -- another record under the key at a place
    pub lookup-set : (es : List (K × X)) (i : ℕ) (r : K × X) (v : X) (q : K) → Rises o es → slice_get es i ≡ Some r →
        lookup (eq_by_cmp R q) (set es i (r.0, v)) ≡ cond (eq_by_cmp R q r.0) (Some v) (lookup (eq_by_cmp R q) es)
    lookup-set [] i r v q rises got = cc
    lookup-set (e ∷ es) zero r v q rises got =
        let here : e ≡ r = cc in
        shadows (eq_by_cmp R q r.0) (Some v) (Some e.1) (lookup (eq_by_cmp R q) es)
        ∙ ap (λ (x : K × X). cond (eq_by_cmp R q r.0) (Some v) (cond (eq_by_cmp R q x.0) (Some e.1) (lookup (eq_by_cmp R q) es))) (sym here)
    lookup-set (e ∷ es) (suc i) r v q rises got =
        ap (cond (eq_by_cmp R q e.0) (Some e.1)) (lookup-set es i r v q (rises-tail o e es rises) got)
        ∙ swaps (eq_by_cmp R q e.0) (eq_by_cmp R q r.0) (Some e.1) (Some v) (lookup (eq_by_cmp R q) es)
        (apart o q e.0 r.0 (all-get (λ y. R e.0 y ≡ Less) es i r (rises-head o e es rises) got))

    -- without the record at a place
    pub lookup-remove : (es : List (K × X)) (i : ℕ) (r : K × X) (q : K) → Rises o es → slice_get es i ≡ Some r →
        lookup (eq_by_cmp R q) (remove es i) ≡ cond (eq_by_cmp R q r.0) None (lookup (eq_by_cmp R q) es)
    lookup-remove [] i r q rises got = cc
    lookup-remove (e ∷ es) zero r q rises got =
        let here : e ≡ r = cc in
        by (eq_by_cmp R q e.0) refl ∙ ap (λ (x : K × X). cond (eq_by_cmp R q x.0) None (cond (eq_by_cmp R q e.0) (Some e.1) (lookup (eq_by_cmp R q) es))) here where
          by : (b : Bool) → eq_by_cmp R q e.0 ≡ b → lookup (eq_by_cmp R q) es ≡ cond b None (cond b (Some e.1) (lookup (eq_by_cmp R q) es))
          by true same = lookup-above es q e.0 (rises-head o e es rises) same
          by false other = refl
    lookup-remove (e ∷ es) (suc i) r q rises got =
        ap (cond (eq_by_cmp R q e.0) (Some e.1)) (lookup-remove es i r q (rises-tail o e es rises) got)
        ∙ swaps (eq_by_cmp R q e.0) (eq_by_cmp R q r.0) (Some e.1) None (lookup (eq_by_cmp R q) es)
        (apart o q e.0 r.0 (all-get (λ y. R e.0 y ≡ Less) es i r (rises-head o e es rises) got))

    -- a record more, with lower keys before it
    pub lookup-insert : (es : List (K × X)) (i : ℕ) (k : K) (v : X) (q : K) →
        ((j : ℕ) (r : K × X) → j < i → slice_get es j ≡ Some r → R r.0 k ≡ Less) →
        lookup (eq_by_cmp R q) (insert es i (k, v)) ≡ cond (eq_by_cmp R q k) (Some v) (lookup (eq_by_cmp R q) es)
    lookup-insert es zero k v q lower = refl
    lookup-insert [] (suc i) k v q lower = refl
    lookup-insert (e ∷ es) (suc i) k v q lower =
        ap (cond (eq_by_cmp R q e.0) (Some e.1)) (lookup-insert es i k v q (λ j r lt got. lower (suc j) r (omega arith) got))
        ∙ swaps (eq_by_cmp R q e.0) (eq_by_cmp R q k) (Some e.1) (Some v) (lookup (eq_by_cmp R q) es) (apart o q e.0 k (lower 0 e (omega arith) refl))

    pub rises-insert : (es : List (K × X)) (i : ℕ) (k : K) (v : X) → Rises o es →
        ((j : ℕ) (r : K × X) → j < i → slice_get es j ≡ Some r → R r.0 k ≡ Less) →
        ((j : ℕ) (r : K × X) → i ≤ j → slice_get es j ≡ Some r → R k r.0 ≡ Less) →
        Rises o (insert es i (k, v))
    rises-insert es zero k v rises lower higher =
        rises-cons o (k, v) es (all-from_get (λ y. R k y ≡ Less) es (λ j r got. higher j r (omega arith) got)) rises
    rises-insert [] (suc i) k v rises lower higher = rises-cons o (k, v) [] tt (none_rises R)
    rises-insert (e ∷ es) (suc i) k v rises lower higher =
        rises-cons o e (insert es i (k, v)) (all-insert (λ y. R e.0 y ≡ Less) es i k v (rises-head o e es rises) (lower 0 e (omega arith) refl))
        (rises-insert es i k v (rises-tail o e es rises) (λ j r lt got. lower (suc j) r (omega arith) got) (λ j r le got. higher (suc j) r (omega arith) got))

    pub rises-remove : (es : List (K × X)) (i : ℕ) → Rises o es → Rises o (remove es i)
    rises-remove [] zero rises = none_rises R
    rises-remove [] (suc i) rises = none_rises R
    rises-remove (e ∷ es) zero rises = rises-tail o e es rises
    rises-remove (e ∷ es) (suc i) rises =
        rises-cons o e (remove es i) (all-remove (λ y. R e.0 y ≡ Less) es i (rises-head o e es rises)) (rises-remove es i (rises-tail o e es rises))

    pub rises-filter : (p : K × X → Bool) (es : List (K × X)) → Rises o es → Rises o (filter p es)
    rises-filter p [] rises = none_rises R
    rises-filter p (e ∷ es) rises = by (p e) (rises-filter p es (rises-tail o e es rises)) where
      by : (b : Bool) → Rises o (filter p es) → Rises o (cond b (e ∷ filter p es) (filter p es))
      by true rest = rises-cons o e (filter p es) (all-filter (λ y. R e.0 y ≡ Less) p es (rises-head o e es rises)) rest
      by false rest = rest

    -- keys that tie have the same record
    pub lookup-same : (es : List (K × X)) (q k : K) → R q k ≡ Equal → lookup (eq_by_cmp R q) es ≡ lookup (eq_by_cmp R k) es
    lookup-same [] q k tie = refl
    lookup-same (e ∷ es) q k tie =
        ap (cond (eq_by_cmp R q e.0) (Some e.1)) (lookup-same es q k tie)
        ∙ ap (λ (r : Ordering). cond (is_eq r) (Some e.1) (lookup (eq_by_cmp R k) es)) (o.congr q k e.0 tie)

    -- a key at a place has the record there
    pub lookup-found : (es : List (K × X)) (i : ℕ) (r : K × X) (k : K) → Rises o es → slice_get es i ≡ Some r → R r.0 k ≡ Equal → lookup (eq_by_cmp R k) es ≡ Some r.1
    lookup-found [] i r k rises got tie = cc
    lookup-found (e ∷ es) zero r k rises got tie =
        let here : e ≡ r = cc in
        let same : eq_by_cmp R k r.0 ≡ true = ap is_eq (tied_back o r.0 k tie) in
        ap (λ (x : K × X). cond (eq_by_cmp R k x.0) (Some x.1) (lookup (eq_by_cmp R k) es)) here ∙ ap (λ (b : Bool). cond b (Some r.1) (lookup (eq_by_cmp R k) es)) same
    lookup-found (e ∷ es) (suc i) r k rises got tie = by (eq_by_cmp R k e.0) refl (lookup-found es i r k (rises-tail o e es rises) got tie) where
      by : (b : Bool) → eq_by_cmp R k e.0 ≡ b → lookup (eq_by_cmp R k) es ≡ Some r.1 → cond b (Some e.1) (lookup (eq_by_cmp R k) es) ≡ Some r.1
      by true there rest =
          absurd (apart o k e.0 r.0 (all-get (λ y. R e.0 y ≡ Less) es i r (rises-head o e es rises) got) there (ap is_eq (tied_back o r.0 k tie)))
      by false other rest = rest

    -- a key between its neighbours has no record
    pub lookup-gap : (es : List (K × X)) (i : ℕ) (k : K) →
        ((j : ℕ) (r : K × X) → j < i → slice_get es j ≡ Some r → R r.0 k ≡ Less) →
        ((j : ℕ) (r : K × X) → i ≤ j → slice_get es j ≡ Some r → R k r.0 ≡ Less) →
        lookup (eq_by_cmp R k) es ≡ None
    lookup-gap es i k lower higher =
        none es (λ j r got. elim (cases_lt j i) [
          | inl lt ↦ ap is_eq (o.antisymm k r.0 ∙ ap ordering_reverse (lower j r lt got))
          | inr le ↦ ap is_eq (higher j r le got)
        ]) where
          none : (xs : List (K × X)) → ((j : ℕ) (r : K × X) → slice_get xs j ≡ Some r → eq_by_cmp R k r.0 ≡ false) → lookup (eq_by_cmp R k) xs ≡ None
          none [] each = refl
          none (x ∷ xs) each = ap (λ (b : Bool). cond b (Some x.1) (lookup (eq_by_cmp R k) xs)) (each 0 x refl) ∙ none xs (λ j r got. each (suc j) r got)
