-- What is left of a row, and of the table, once only live sessions hold.
use Rattle.std.proofs.Common.{◌≡◌, ℕ, suc, ◌+◌, ◌<◌, ◌≤◌, nat_eq, Bool, true, false, cond, List, [], ◌∷◌, ◌++◌, length, get_or, set, take, drop, Option, Some, None, IfSome, IsTrue, ◌↔◌, refl, sym, ap, subst, ◌∙◌, arith, inl, inr, append_assoc, length-append}
use Rattle.std.specs.BTreeSet.{BTreeSet, contains}
use Rattle.std.specs.List.{remove, slice_get, AllByRecursion, IsDistinct}
use Rattle.std.specs.Map.{lookup, keys_of}
use Rattle.std.specs.Map.Calls.{RetainsPairs}
use Rattle.std.specs.Ordering.{nat_cmp}
use Rattle.std.specs.Cmp.{nat_eq_equiv}
use Rattle.std.proofs.lemmas.Bool.{cases_eq, false≢true}
use Rattle.std.proofs.lemmas.Bool.Decides.{nat_tests}
use Rattle.std.proofs.lemmas.List.{drop_at, drop_more, drop-set-lt, get_or_at, take_at, take_more_set, length-take-le}
use Rattle.std.proofs.lemmas.Map.{lookup-none}
use Rattle.std.proofs.lemmas.Map.Entries.{lookup_from_place, none_past_head}
use Rattle.std.proofs.lemmas.Map.Keys.{IsDistinct-tail}
use Rattle.ftp_switchboard.specs.declared.row.Row.{Row}
use Rattle.ftp_switchboard.specs.Board.{holder_among}
use Rattle.ftp_switchboard.specs.Bits.{Ascends, IsHeldRow, IsRow, left, port_at, session_of}
use Rattle.ftp_switchboard.proofs.RowLemmas.{session_of-at, session_of-remove}
use Rattle.ftp_switchboard.proofs.TableLemmas.{session_in}

module _ (pairs : List (ℕ × ℕ)) (kept place : ℕ) (order : kept ≤ place) (below : place < length pairs) where
  abbrev here : ℕ × ℕ
  here = get_or pairs place (0, 0)

  kept-length : length (take kept pairs) ≡ kept
  kept-length = length-take-le kept pairs (omega arith)

  left-is : left kept place pairs ≡ take kept pairs ++ (here ∷ drop (place + 1) pairs)
  left-is = ap (λ (rest : List (ℕ × ℕ)). take kept pairs ++ rest) (drop_more pairs place (0, 0) below)

  -- The pair at the place is left, next after those that were kept.
  pub left-here : get_or (left kept place pairs) kept (0, 0) ≡ here
  left-here = ap (λ (xs : List (ℕ × ℕ)). get_or xs kept (0, 0)) left-is ∙ get_or_at (take kept pairs) here (drop (place + 1) pairs) (0, 0) kept kept-length

  pub left-below : kept < length (left kept place pairs)
  left-below =
      let all : length (take kept pairs ++ (here ∷ drop (place + 1) pairs)) ≡ length (take kept pairs) + suc (length (drop (place + 1) pairs)) = length-append (take kept pairs) (here ∷ drop (place + 1) pairs) in
      let same : length (left kept place pairs) ≡ length (take kept pairs ++ (here ∷ drop (place + 1) pairs)) = ap length left-is in
      let short : length (take kept pairs) ≡ kept = kept-length in
      omega arith

  -- A pair that is kept leaves what was left.
  pub left-write : left (kept + 1) (place + 1) (set pairs kept here) ≡ left kept place pairs
  left-write =
      ap (λ (front : List (ℕ × ℕ)). front ++ drop (place + 1) (set pairs kept here)) (take_more_set pairs kept here (omega arith))
      ∙ ap (λ (rest : List (ℕ × ℕ)). (take kept pairs ++ here ∷ []) ++ rest) (drop-set-lt (place + 1) pairs kept here (omega arith))
      ∙ append_assoc (take kept pairs) (here ∷ []) (drop (place + 1) pairs)
      ∙ sym left-is

  -- A pair that is passed over is taken out.
  pub left-skip : left kept (place + 1) pairs ≡ remove (left kept place pairs) kept
  left-skip =
      let front : take kept (take kept pairs ++ (here ∷ drop (place + 1) pairs)) ≡ take kept pairs = take_at (take kept pairs) (here ∷ drop (place + 1) pairs) kept kept-length in
      let longer : length (take kept pairs ++ here ∷ []) ≡ suc kept = (let all : length (take kept pairs ++ here ∷ []) ≡ length (take kept pairs) + 1 = length-append (take kept pairs) (here ∷ []) in let short : length (take kept pairs) ≡ kept = kept-length in omega arith) in
      let rest : drop (suc kept) (take kept pairs ++ (here ∷ drop (place + 1) pairs)) ≡ drop (place + 1) pairs =
      ap (drop (suc kept)) (sym (append_assoc (take kept pairs) (here ∷ []) (drop (place + 1) pairs))) ∙ drop_at (take kept pairs ++ here ∷ []) (drop (place + 1) pairs) (suc kept) longer in
      sym (ap (λ (xs : List (ℕ × ℕ)). remove xs kept) left-is
      ∙ ap (λ (xs : List (ℕ × ℕ)). xs ++ drop (suc kept) (take kept pairs ++ (here ∷ drop (place + 1) pairs))) front
      ∙ ap (λ (xs : List (ℕ × ℕ)). take kept pairs ++ xs) rest)

module _ (live : BTreeSet ℕ) where
  -- A session that is not live holds nothing afterwards.
  pub among-remove : (pairs : List (ℕ × ℕ)) (place : ℕ) → Ascends pairs → place < length pairs → contains nat_cmp live (get_or pairs place (0, 0)).1 ≡ false →
      (p : ℕ) → holder_among live (session_of (remove pairs place) p) ≡ holder_among live (session_of pairs p)
  among-remove pairs place ascends below dead p =
      let gone : session_of (remove pairs place) p ≡ cond (nat_eq (port_at pairs place) p) None (session_of pairs p) = session_of-remove pairs place (port_at pairs place) ascends below refl p in
      elim (cases_eq (port_at pairs place) p) [
        | inl same ↦ (
            let was : session_of pairs p ≡ Some (get_or pairs place (0, 0)).1 = ap (session_of pairs) (sym same) ∙ session_of-at pairs place ascends below in
            let none : session_of (remove pairs place) p ≡ None = grind (arith, nat_tests, gone, same) in
            ap (holder_among live) none ∙ sym (ap (holder_among live) was ∙ ap (λ b. cond b (Some (get_or pairs place (0, 0)).1) None) dead)
            )
        | inr apart ↦ (
            let kept : session_of (remove pairs place) p ≡ session_of pairs p = grind (arith, nat_tests, gone, apart) in
            ap (holder_among live) kept
            )
      ]

  -- Where each session is live, each holds what it held.
  pub among-all : (pairs : List (ℕ × ℕ)) (p : ℕ) → ((k : ℕ) → k < length pairs → contains nat_cmp live (get_or pairs k (0, 0)).1 ≡ true) → session_of pairs p ≡ holder_among live (session_of pairs p)
  among-all [] p all = refl
  among-all (e ∷ pairs) p all = by (nat_eq p e.0) (all 0 (omega arith)) (among-all pairs p (λ k below. all (suc k) (omega arith)))
    where
      by : (b : Bool) → contains nat_cmp live e.1 ≡ true → session_of pairs p ≡ holder_among live (session_of pairs p) →
          cond b (Some e.1) (session_of pairs p) ≡ holder_among live (cond b (Some e.1) (session_of pairs p))
      by true here rest = sym (ap (λ b. cond b (Some e.1) None) here)
      by false here rest = rest

  -- what is left of a row, and whether any port is held
  pub record IsLeft (lo hi : ℕ) (before after : Row) (some : Bool) : Type 0 where
    pub is_row : IsRow lo hi after
    pub sessions : (p : ℕ) → session_of after.pairs.items p ≡ holder_among live (session_of before.pairs.items p)
    pub is_some : IsTrue some ↔ (0 < length after.pairs.items)

  empty-none : (row : Row) (p : ℕ) → ((0 < length row.pairs.items) → ⊥) → session_of row.pairs.items p ≡ None
  empty-none row p none = by row.pairs.items none
    where
      by : (pairs : List (ℕ × ℕ)) → ((0 < length pairs) → ⊥) → session_of pairs p ≡ None
      by [] none = refl
      by (e ∷ pairs) none = absurd (none (omega arith))

  -- A source's row, and those of the other sources.
  row-left : (lo hi : ℕ) (v w : Row) (b t : Bool) (l e : Option Row) → IsLeft lo hi v w b → (t ≡ true → e ≡ None) →
      IfSome l (IsHeldRow lo hi) × ((p : ℕ) → session_in l p ≡ holder_among live (session_in e p)) →
      IfSome (cond b (cond t (Some w) l) l) (IsHeldRow lo hi)
      × ((p : ℕ) → session_in (cond b (cond t (Some w) l) l) p ≡ holder_among live (session_in (cond t (Some v) e) p))
  row-left lo hi v w true true l e is none later = ((is.is_row, is.is_some.0 refl), λ p. is.sessions p)
  row-left lo hi v w true false l e is none later = later
  row-left lo hi v w false true l e is none later = (
    later.0,
    λ p. later.1 p ∙ ap (λ (o : Option Row). holder_among live (session_in o p)) (none refl)
        ∙ sym (sym (is.sessions p) ∙ empty-none w p (λ some. false≢true (is.is_some.1 some))),
  )
  row-left lo hi v w false false l e is none later = later

  lookup-cond : (q : ℕ) (b : Bool) (e : ℕ × Row) (rest : List (ℕ × Row)) →
      lookup (nat_eq q) (cond b (e ∷ rest) rest) ≡ cond b (cond (nat_eq q e.0) (Some e.1) (lookup (nat_eq q) rest)) (lookup (nat_eq q) rest)
  lookup-cond q true e rest = refl
  lookup-cond q false e rest = refl

  module _ (lo hi : ℕ) {F : Type 0} (T : F → ℕ → Row → Bool → Row → F → Type 0) (f : F)
      (step : (k : ℕ) (v : Row) (b : Bool) (w : Row) (f' : F) → IsHeldRow lo hi v → T f k v b w f' → IsLeft lo hi v w b × (f' ≡ f)) where
    -- A source's row afterwards.
    pub rows-left : (es kept : List (ℕ × Row)) → AllByRecursion (λ e. IsHeldRow lo hi e.1) es → RetainsPairs T f es kept → IsDistinct nat_eq (keys_of es) → (q : ℕ) →
        IfSome (lookup (nat_eq q) kept) (IsHeldRow lo hi) × ((p : ℕ) → session_in (lookup (nat_eq q) kept) p ≡ holder_among live (session_in (lookup (nat_eq q) es) p))
    rows-left [] kept all retains distinct q =
        subst (λ (left : List (ℕ × Row)). IfSome (lookup (nat_eq q) left) (IsHeldRow lo hi) × ((p : ℕ) → session_in (lookup (nat_eq q) left) p ≡ None)) (sym retains) (tt, λ p. refl)
    rows-left (e ∷ es) kept all retains distinct q =
        let b = retains.0 in
        let w = retains.1 in
        let rest = retains.3 in
        let called = step e.0 e.1 b w retains.2 all.0 retains.4 in
        let more = subst (λ g. RetainsPairs T g es rest) called.1 retains.5 in
        let later = rows-left es rest all.1 more (IsDistinct-tail nat_eq e.0 (keys_of es) distinct) q in
        let now : lookup (nat_eq q) kept ≡ cond b (cond (nat_eq q e.0) (Some w) (lookup (nat_eq q) rest)) (lookup (nat_eq q) rest) =
        ap (lookup (nat_eq q)) retains.6 ∙ lookup-cond q b (e.0, w) rest in
        subst (λ (o : Option Row). IfSome o (IsHeldRow lo hi) × ((p : ℕ) → session_in o p ≡ holder_among live (session_in (lookup (nat_eq q) (e ∷ es)) p)))
        (sym now)
        (row-left lo hi e.1 w b (nat_eq q e.0) (lookup (nat_eq q) rest) (lookup (nat_eq q) es) called.0
        (λ here. lookup-none (nat_eq q) es (none_past_head nat_eq_equiv q e es distinct here)) later)

-- What each look-up finds stands in the table, and the other way round.
all-from : {X : Type 0} (P : X → Type 0) (es : List X) → ((i : ℕ) (e : X) → slice_get es i ≡ Some e → P e) → AllByRecursion P es
all-from P [] each = tt
all-from P (e ∷ es) each = (each 0 e refl, all-from P es (λ i x got. each (suc i) x got))

found : (P : Row → Type 0) (o : Option Row) (v : Row) → o ≡ Some v → IfSome o P → P v
found P o v is some = let seen : Option Row → Type 0 = λ o. IfSome o P in subst seen is some

-- Each row in the table has what holds of each source's.
pub all-rows : (P : Row → Type 0) (es : List (ℕ × Row)) → IsDistinct nat_eq (keys_of es) → ((q : ℕ) → IfSome (lookup (nat_eq q) es) P) → AllByRecursion (λ e. P e.1) es
all-rows P es distinct each =
    all-from (λ e. P e.1) es (λ i e got. found P (lookup (nat_eq e.0) es) e.1 (lookup_from_place nat_eq_equiv es i e.0 e.1 distinct got) (each e.0))

slice_get-middle : {X : Type 0} (before : List X) (x : X) (after : List X) → slice_get (before ++ x ∷ after) (length before) ≡ Some x
slice_get-middle [] x after = refl
slice_get-middle (y ∷ before) x after = slice_get-middle before x after

-- So has the row between others.
pub row-between : (P : Row → Type 0) (es before after : List (ℕ × Row)) (k : ℕ) (v : Row) → IsDistinct nat_eq (keys_of es) → ((q : ℕ) → IfSome (lookup (nat_eq q) es) P) →
    es ≡ before ++ (k, v) ∷ after → P v
row-between P es before after k v distinct each split =
    let got : slice_get es (length before) ≡ Some (k, v) = ap (λ (xs : List (ℕ × Row)). slice_get xs (length before)) split ∙ slice_get-middle before (k, v) after in
    found P (lookup (nat_eq k) es) v (lookup_from_place nat_eq_equiv es (length before) k v distinct got) (each k)
