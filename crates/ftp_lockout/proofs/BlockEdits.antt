-- What edits of one block make of all records.
use Rattle.std.proofs.Common.{◌≡◌, ℕ, zero, suc, ◌+◌, ◌-◌, ◌<◌, ◌≤◌, Bool, true, false, cond, not, nat_eq, List, [], ◌∷◌, ◌++◌, length, take, drop, get_or, Some, refl, sym, ap, subst, ◌∙◌, append_assoc, arith, length-set}
use Rattle.std.proofs.Math.ListN.{set}
use Rattle.std.specs.Prelude.{slice_get, filter}
use Rattle.std.specs.List.{insert, remove}
use Rattle.std.specs.declared.vec.Vec.{Vec}
use Rattle.std.proofs.lemmas.Bool.Decides.{nat_tests}
use Rattle.std.proofs.lemmas.List.{length-append, length-drop, length-take-le, take_all}
use Rattle.std.proofs.lemmas.List.Edits.{length-insert, length-remove}
use Rattle.std.proofs.lemmas.List.Elements.{filter-append}
use Rattle.ftp_lockout.specs.declared.cache.Failures.{Failures}
use Rattle.ftp_lockout.specs.declared.key.LoginKey.{LoginKey}
use Rattle.ftp_lockout.specs.declared.places.Place.{Place}
use Rattle.ftp_lockout.specs.Keys.{same_key}
use Rattle.ftp_lockout.specs.Failures.{recorded}
use Rattle.ftp_lockout.specs.Places.{AreBlocks, AreInKeyOrder, AreRoomy, HasGap, IsAt, IsBlock, IsOpen, records_in}
use Rattle.ftp_lockout.proofs.Tables.{get_or-get}
use Rattle.ftp_lockout.proofs.Records.{Records, stands-at, recorded-set, order-set}
use Rattle.ftp_lockout.proofs.BlockLemmas.{Blocks, get-short, same-got, got-in, got-set, take-set, drop-set, roomy-set, blocks-set, blocks-insert, records-set, records-insert, records-remove, records-halved}

-- what two lists are of the list that they make
pub halves : {X : Type 0} (xs ys zs : List X) (n : ℕ) → xs ++ ys ≡ zs → length xs ≡ n → (xs ≡ take n zs) × (ys ≡ drop n zs)
halves {X} xs ys zs n whole len = (
  sym (front xs ys) ∙ ap (λ (m : ℕ). take m (xs ++ ys)) len ∙ ap (take n) whole,
  sym (rest xs ys) ∙ ap (λ (m : ℕ). drop m (xs ++ ys)) len ∙ ap (drop n) whole,
) where
  front : (cs ys : List X) → take (length cs) (cs ++ ys) ≡ cs
  front [] ys = refl
  front (x ∷ cs) ys = ap (λ (zs : List X). x ∷ zs) (front cs ys)

  rest : (cs ys : List X) → drop (length cs) (cs ++ ys) ≡ ys
  rest [] ys = refl
  rest (x ∷ cs) ys = rest cs ys

-- a filter leaves no more
filter-short : {X : Type 0} (p : X → Bool) (xs : List X) → length (filter p xs) ≤ length xs
filter-short p [] = omega arith
filter-short p (x ∷ xs) = by (p x) (filter-short p xs) where
  by : (b : Bool) → length (filter p xs) ≤ length xs → length (cond b (x ∷ filter p xs) (filter p xs)) ≤ length (x ∷ xs)
  by true le = omega arith
  by false le = omega arith

-- a test for a record
abbrev pub has_record : {Z : Type 0} → Vec (LoginKey × Failures) Z → Bool
has_record v = not (nat_eq (length v.items) 0)

no-record : (xs : Records) → not (nat_eq (length xs) 0) ≡ false → xs ≡ []
no-record [] h = refl
no-record (x ∷ xs) h = let n : 0 < length (x ∷ xs) = omega arith in absurd (grind (arith, nat_tests))

some-record : (xs : Records) → not (nat_eq (length xs) 0) ≡ true → 0 < length xs
some-record [] h = absurd (grind (arith, nat_tests))
some-record (x ∷ xs) h = omega arith

module _ {Z : Type 0} where
  -- other failures under the key at a place
  pub set-all : (bs : Blocks Z) (b : ℕ) (v w : Vec (LoginKey × Failures) Z) (i : ℕ) (f : Failures) → AreInKeyOrder (records_in bs) → AreBlocks bs →
      slice_get bs b ≡ Some v → i < length v.items →
      ((r : LoginKey × Failures) → slice_get v.items i ≡ Some r → w.items ≡ set v.items i (r.0, f)) → w.cap ≡ v.cap →
      ((key other : LoginKey) → IsAt (records_in bs) key (length (records_in (take b bs)) + i) → recorded (records_in (set bs b w)) other ≡ cond (same_key other key) (Some f) (recorded (records_in bs) other))
      × AreInKeyOrder (records_in (set bs b w)) × AreBlocks (set bs b w)
  set-all bs b v w i f order blocks got lt is caps =
      let at = stands-at v.items i lt in
      let r = at.0 in
      let place = length (records_in (take b bs)) + i in
      let there : slice_get (records_in bs) place ≡ Some r = got-in bs b v i r got at.1 in
      let read : r ≡ get_or (records_in bs) place r = sym (get_or-get (records_in bs) place r r there) in
      let within : place < length (records_in bs) = get-short (records_in bs) place r there in
      let same : records_in (set bs b w) ≡ set (records_in bs) place (r.0, f) = records-set bs b v w i (r.0, f) got lt (is r at.1) in
      let old = blocks b v got in
      let len : length w.items ≡ length v.items = ap length (is r at.1) ∙ length-set v.items i (r.0, f) in (
        λ key other here. ap (λ (x : Records). recorded x other) same ∙ recorded-set (records_in bs) place r f order within read key other here,
        subst AreInKeyOrder (sym same) (order-set (records_in bs) place r f order within read),
        blocks-set bs b w blocks (record { filled = omega (arith, old.filled, len); few = omega (arith, old.few, len); roomy = omega (arith, old.roomy, caps) }),
      )

  pub insert-all : (bs : Blocks Z) (b : ℕ) (v w : Vec (LoginKey × Failures) Z) (i : ℕ) (e : LoginKey × Failures) → AreBlocks bs →
      slice_get bs b ≡ Some v → i ≤ length v.items → length v.items < 128 → w.items ≡ insert v.items i e → v.cap ≤ w.cap →
      (records_in (set bs b w) ≡ insert (records_in bs) (length (records_in (take b bs)) + i) e) × AreBlocks (set bs b w)
  insert-all bs b v w i e blocks got le open_ is caps =
      let old = blocks b v got in
      let len : length w.items ≡ length v.items + 1 = ap length is ∙ length-insert v.items i e le in (
        records-insert bs b v w i e got le is,
        blocks-set bs b w blocks (record { filled = omega (arith, len); few = omega (arith, open_, len); roomy = omega (arith, old.roomy, caps) }),
      )

  pub remove-all : (bs : Blocks Z) (b : ℕ) (v w : Vec (LoginKey × Failures) Z) (i : ℕ) → AreBlocks bs →
      slice_get bs b ≡ Some v → i < length v.items → (length v.items ≡ 1 → ⊥) → w.items ≡ remove v.items i → w.cap ≡ v.cap →
      (records_in (set bs b w) ≡ remove (records_in bs) (length (records_in (take b bs)) + i)) × AreBlocks (set bs b w)
  remove-all bs b v w i blocks got lt more is caps =
      let old = blocks b v got in
      let len : length w.items + 1 ≡ length v.items = ap (λ (x : List (LoginKey × Failures)). length x + 1) is ∙ length-remove v.items i lt in (
        records-remove bs b v w i got lt is,
        blocks-set bs b w blocks (record { filled = many (length v.items) (length w.items) len more; few = omega (arith, old.few, len); roomy = omega (arith, old.roomy, caps) }),
      ) where
        many : (n m : ℕ) → m + 1 ≡ n → (n ≡ 1 → ⊥) → 0 < m
        many n zero is not_one = absurd (not_one (omega (arith, is)))
        many n (suc m) is not_one = omega arith

  -- ---- a sweep

  pub got-dropped : (cs bs : Blocks Z) (i : ℕ) (v : Vec (LoginKey × Failures) Z) → drop i cs ≡ drop i bs → slice_get cs i ≡ Some v → slice_get bs i ≡ Some v
  got-dropped [] [] i v same got = got
  got-dropped cs bs zero v same got = ap (λ (x : Blocks Z). slice_get x 0) (sym same) ∙ got
  got-dropped [] (b ∷ bs) (suc i) v same got = cc
  got-dropped (a ∷ cs) [] (suc i) v same got = ap (λ (x : Blocks Z). slice_get x 0) (sym same) ∙ (get-drop cs i ∙ got) where
    get-drop : (xs : Blocks Z) (j : ℕ) → slice_get (drop j xs) 0 ≡ slice_get xs j
    get-drop [] zero = refl
    get-drop [] (suc j) = refl
    get-drop (x ∷ xs) zero = refl
    get-drop (x ∷ xs) (suc j) = get-drop xs j
  got-dropped (a ∷ cs) (b ∷ bs) (suc i) v same got = got-dropped cs bs i v same got

  pub records-more : (bs : Blocks Z) (i : ℕ) (v : Vec (LoginKey × Failures) Z) → slice_get bs i ≡ Some v → records_in (take (suc i) bs) ≡ records_in (take i bs) ++ v.items
  records-more [] i v got = cc
  records-more (b ∷ bs) zero v got = let here : b ≡ v = cc in ap (λ (x : Vec (LoginKey × Failures) Z). x.items ++ []) here ∙ nil v.items where
    nil : (xs : Records) → xs ++ [] ≡ xs
    nil [] = refl
    nil (x ∷ xs) = ap (λ (ys : Records). x ∷ ys) (nil xs)
  records-more (b ∷ bs) (suc i) v got =
      ap (λ (x : Records). b.items ++ x) (records-more bs i v got) ∙ sym (append_assoc b.items (records_in (take i bs)) v.items)

  pub drop-later : (cs bs : Blocks Z) (i : ℕ) → drop i cs ≡ drop i bs → drop (suc i) cs ≡ drop (suc i) bs
  drop-later cs bs i same = sym (tail cs i) ∙ ap (drop 1) same ∙ tail bs i where
    tail : (xs : Blocks Z) (j : ℕ) → drop 1 (drop j xs) ≡ drop (suc j) xs
    tail [] zero = refl
    tail [] (suc j) = refl
    tail (x ∷ xs) zero = refl
    tail (x ∷ xs) (suc j) = tail xs j

  -- blocks without a record have none
  pub records-filled : (bs : Blocks Z) → records_in (filter has_record bs) ≡ records_in bs
  records-filled [] = refl
  records-filled (b ∷ bs) = by (has_record b) refl (records-filled bs) where
    by : (c : Bool) → has_record b ≡ c → records_in (filter has_record bs) ≡ records_in bs →
        records_in (cond c (b ∷ filter has_record bs) (filter has_record bs)) ≡ b.items ++ records_in bs
    by true is rest = ap (λ (x : Records). b.items ++ x) rest
    by false is rest = rest ∙ ap (λ (x : Records). x ++ records_in bs) (sym (no-record b.items is))

  pub blocks-filled : (bs : Blocks Z) → AreRoomy bs → AreBlocks (filter has_record bs)
  blocks-filled [] roomy = λ i v got. cc
  blocks-filled (b ∷ bs) roomy = by (has_record b) refl (blocks-filled bs (λ j x there. roomy (suc j) x there)) where
    head : has_record b ≡ true → IsBlock b
    head is = let r = roomy 0 b refl in record { filled = some-record b.items is; few = r.0; roomy = r.1 }

    by : (c : Bool) → has_record b ≡ c → AreBlocks (filter has_record bs) → AreBlocks (cond c (b ∷ filter has_record bs) (filter has_record bs))
    by true is rest zero v got = let here : b ≡ v = cc in subst IsBlock here (head is)
    by true is rest (suc i) v got = rest i v got
    by false is rest i v got = rest i v got

  -- one block more is swept
  pub swept-more : (bs old : Blocks Z) (i : ℕ) (v w : Vec (LoginKey × Failures) Z) (p : LoginKey × Failures → Bool) → slice_get bs i ≡ Some v → w.items ≡ filter p v.items → w.cap ≡ v.cap →
      AreRoomy bs → records_in (take i bs) ≡ filter p (records_in (take i old)) → drop i bs ≡ drop i old →
      AreRoomy (set bs i w) × (records_in (take (i + 1) (set bs i w)) ≡ filter p (records_in (take (i + 1) old))) × (drop (i + 1) (set bs i w) ≡ drop (i + 1) old)
  swept-more bs old i v w p got is caps roomy done same =
      let lt = get-short bs i v got in
      let n : i + 1 ≡ suc i = omega arith in
      let r = roomy i v got in (
        roomy-set bs i w roomy (omega (arith, r.0, filter-short p v.items, ap length is), omega (arith, r.1, caps)),
        ap (λ (m : ℕ). records_in (take m (set bs i w))) n
            ∙ records-more (set bs i w) i w (got-set bs i w lt)
            ∙ ap (λ (x : Blocks Z). records_in x ++ w.items) (take-set bs i w)
            ∙ ap (λ (x : Records). x ++ w.items) done
            ∙ ap (λ (x : Records). filter p (records_in (take i old)) ++ x) is
            ∙ sym (filter-append p (records_in (take i old)) v.items)
            ∙ ap (filter p) (sym (records-more old i v (got-dropped bs old i v same got)))
            ∙ ap (λ (m : ℕ). filter p (records_in (take m old))) (sym n),
        ap (λ (m : ℕ). drop m (set bs i w)) n ∙ drop-set bs i w ∙ drop-later bs old i same ∙ ap (λ (m : ℕ). drop m old) (sym n),
      )

  -- all blocks are swept
  pub swept-all : (bs old : Blocks Z) (i : ℕ) (p : LoginKey × Failures → Bool) → length bs ≤ i → length bs ≡ length old →
      records_in (take i bs) ≡ filter p (records_in (take i old)) → records_in bs ≡ filter p (records_in old)
  swept-all bs old i p le len done =
      ap records_in (sym (take_all i bs le)) ∙ done ∙ ap (λ (x : Blocks Z). filter p (records_in x)) (take_all i old (omega (arith, le, len)))

  -- ---- halves

  take-insert : (bs : Blocks Z) (b : ℕ) (u : Vec (LoginKey × Failures) Z) → b < length bs → take b (insert bs (suc b) u) ≡ take b bs
  take-insert [] b u lt = absurd (omega arith)
  take-insert (v ∷ bs) zero u lt = refl
  take-insert (v ∷ bs) (suc b) u lt = ap (λ (xs : Blocks Z). v ∷ xs) (take-insert bs b u (omega arith))

  get-insert : (bs : Blocks Z) (b : ℕ) (u : Vec (LoginKey × Failures) Z) → b < length bs → slice_get (insert bs (suc b) u) b ≡ slice_get bs b
  get-insert [] b u lt = absurd (omega arith)
  get-insert (v ∷ bs) zero u lt = refl
  get-insert (v ∷ bs) (suc b) u lt = get-insert bs b u (omega arith)

  get-inserted : (bs : Blocks Z) (b : ℕ) (u : Vec (LoginKey × Failures) Z) → b < length bs → slice_get (insert bs (suc b) u) (suc b) ≡ Some u
  get-inserted [] b u lt = absurd (omega arith)
  get-inserted (v ∷ bs) zero u lt = refl
  get-inserted (v ∷ bs) (suc b) u lt = get-inserted bs b u (omega arith)

  -- what the halves of a full block are among the blocks
  pub record IsHalved (bs new : Blocks Z) (b : ℕ) (w u : Vec (LoginKey × Failures) Z) : Type 0 where
    pub records : records_in new ≡ records_in bs
    pub blocks : AreBlocks new
    pub before : records_in (take b new) ≡ records_in (take b bs)
    pub first : slice_get new b ≡ Some w
    pub second : slice_get new (b + 1) ≡ Some u
    pub between : length (records_in (take (b + 1) new)) ≡ length (records_in (take b bs)) + 64
    pub within : b + 1 < length new
    pub half : length w.items ≡ 64
    pub other : length u.items ≡ 64

  pub halved-all : (bs : Blocks Z) (b : ℕ) (v w u : Vec (LoginKey × Failures) Z) → AreBlocks bs → slice_get bs b ≡ Some v → length v.items ≡ 128 →
      w.items ≡ take 64 v.items → u.items ≡ drop 64 v.items → w.cap ≡ v.cap → 128 ≤ u.cap → IsHalved bs (insert (set bs b w) (b + 1) u) b w u
  halved-all bs b v w u blocks got full front rest wcap ucap =
      let n : suc b ≡ b + 1 = omega arith in
      subst (λ (m : ℕ). IsHalved bs (insert (set bs b w) m u) b w u) n by where
        lt : b < length bs
        lt = get-short bs b v got

        lts : b < length (set bs b w)
        lts = omega (arith, lt, length-set bs b w)

        wlen : length w.items ≡ 64
        wlen = ap length front ∙ length-take-le 64 v.items (omega (arith, full))

        ulen : length u.items ≡ 64
        ulen = omega (arith, ap length rest, length-drop 64 v.items, full)

        new : Blocks Z
        new = insert (set bs b w) (suc b) u

        first : slice_get new b ≡ Some w
        first = get-insert (set bs b w) b u lts ∙ got-set bs b w lt

        before : records_in (take b new) ≡ records_in (take b bs)
        before = ap records_in (take-insert (set bs b w) b u lts ∙ take-set bs b w)

        by : IsHalved bs new b w u
        by = record {
          records = records-halved bs b v w u 64 got front rest;
          blocks = blocks-insert (set bs b w) (suc b) u
              (blocks-set bs b w blocks (record { filled = omega (arith, wlen); few = omega (arith, wlen); roomy = omega (arith, (blocks b v got).roomy, wcap) }))
              (record { filled = omega (arith, ulen); few = omega (arith, ulen); roomy = ucap });
          before = before;
          first = first;
          second = (let n : b + 1 ≡ suc b = omega arith in ap (slice_get new) n ∙ get-inserted (set bs b w) b u lts);
          between = (let n : b + 1 ≡ suc b = omega arith in
              ap (λ (m : ℕ). length (records_in (take m new))) n
              ∙ ap length (records-more new b w first)
              ∙ length-append (records_in (take b new)) w.items
              ∙ ap (λ (x : Records). length x + length w.items) before
              ∙ ap (λ (m : ℕ). length (records_in (take b bs)) + m) wlen);
          within = omega (arith, lts, length-insert (set bs b w) (suc b) u (omega (arith, lts)));
          half = wlen;
          other = ulen;
        }

  -- a place in the front half, and one behind it
  pub front-gap : (bs new : Blocks Z) (w u : Vec (LoginKey × Failures) Z) (place : Place) → IsHalved bs new place.block w u → place.index ≤ 64 → HasGap new place × IsOpen new place
  front-gap bs new w u place halved le = (
    record {
      block = omega (arith, halved.within);
      index = λ x there. omega (arith, le, halved.half, len x there);
    },
    λ x there. omega (arith, halved.half, len x there),
  ) where
    len : (x : Vec (LoginKey × Failures) Z) → slice_get new place.block ≡ Some x → length w.items ≡ length x.items
    len x there = ap (λ (v : Vec (LoginKey × Failures) Z). length v.items) (same-got new place.block w x halved.first there)

  pub rear-gap : (bs new : Blocks Z) (w u : Vec (LoginKey × Failures) Z) (place : Place) → IsHalved bs new place.block w u → place.index ≤ 128 →
      HasGap new (record { block = place.block + 1; index = place.index - 64 }) × IsOpen new (record { block = place.block + 1; index = place.index - 64 })
  rear-gap bs new w u place halved le = (
    record {
      block = halved.within;
      index = λ x there. omega (arith, le, halved.other, len x there);
    },
    λ x there. omega (arith, halved.other, len x there),
  ) where
    len : (x : Vec (LoginKey × Failures) Z) → slice_get new (place.block + 1) ≡ Some x → length u.items ≡ length x.items
    len x there = ap (λ (v : Vec (LoginKey × Failures) Z). length v.items) (same-got new (place.block + 1) u x halved.second there)
