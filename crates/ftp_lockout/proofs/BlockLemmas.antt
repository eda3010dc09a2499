-- Records in blocks: a block with what stands before and behind it, and what edits in it make of all records.
use Rattle.std.proofs.Common.{◌≡◌, ◌≢◌, ℕ, zero, suc, ◌+◌, ◌-◌, ◌<◌, ◌≤◌, true, false, List, [], ◌∷◌, ◌++◌, length, take, drop, get_or, Some, refl, sym, ap, subst, ◌∙◌, append_assoc, arith, inl, inr}
use Rattle.std.proofs.Math.ListN.{set}
use Rattle.std.specs.Prelude.{slice_get}
use Rattle.std.specs.List.{insert, remove, AllByRecursion}
use Rattle.std.specs.Map.{keys_of}
use Rattle.std.specs.Ordering.{ordering_reverse, is_gt}
use Rattle.std.specs.Cmp.{alike_right}
use Rattle.std.specs.declared.cmp.Ordering.{Ordering}
use Rattle.std.specs.declared.cmp.Ordering.TheVariants.{Less, Equal, Greater}
use Rattle.std.specs.declared.vec.Vec.{Vec}
use Rattle.std.proofs.lemmas.Bool.{cases_lt}
use Rattle.std.proofs.lemmas.List.{length-append, set-append_left, set-append_right, take-append-drop}
use Rattle.std.proofs.lemmas.List.Edits.{insert-append_left, insert-append_right, remove-append_left, remove-append_right}
use Rattle.ftp_lockout.specs.declared.cache.Failures.{Failures}
use Rattle.ftp_lockout.specs.declared.key.LoginKey.{LoginKey}
use Rattle.ftp_lockout.specs.Keys.{key_cmp}
use Rattle.ftp_lockout.specs.Places.{AreBlocks, AreInKeyOrder, AreRoomy, IsAt, IsBlock, IsGapFor, records_in}
use Rattle.ftp_base.proofs.Sorted.{rises-head, rises-tail, rises-cons}
use Rattle.ftp_lockout.proofs.Tables.{all-get}
use Rattle.ftp_lockout.proofs.Records.{Records, keys_total, none_in_order}

-- ---- lists

pub get-left : {X : Type 0} (xs ys : List X) (i : ℕ) → i < length xs → slice_get (xs ++ ys) i ≡ slice_get xs i
get-left [] ys i lt = absurd (omega arith)
get-left (x ∷ xs) ys zero lt = refl
get-left (x ∷ xs) ys (suc i) lt = get-left xs ys i (omega arith)

pub get-right : {X : Type 0} (xs ys : List X) (i : ℕ) → slice_get (xs ++ ys) (length xs + i) ≡ slice_get ys i
get-right {X} [] ys i =
    let n : length {A = X} [] + i ≡ i = omega arith in ap (slice_get ys) n
get-right (x ∷ xs) ys i =
    let n : length (x ∷ xs) + i ≡ suc (length xs + i) = omega arith in
    ap (slice_get (x ∷ (xs ++ ys))) n ∙ get-right xs ys i

pub get-short : {X : Type 0} (xs : List X) (i : ℕ) (x : X) → slice_get xs i ≡ Some x → i < length xs
get-short [] i x got = cc
get-short (y ∷ xs) zero x got = omega arith
get-short (y ∷ xs) (suc i) x got = let lt = get-short xs i x got in omega arith

-- what is read at a place stands there
pub got-read : {X : Type 0} (xs : List X) (i : ℕ) (x : X) → i < length xs → x ≡ get_or xs i x → slice_get xs i ≡ Some x
got-read [] i x lt read = absurd (omega arith)
got-read (y ∷ xs) zero x lt read = ap Some (sym read)
got-read (y ∷ xs) (suc i) x lt read = got-read xs i x (omega arith) read

pub same-got : {X : Type 0} (xs : List X) (i : ℕ) (x y : X) → slice_get xs i ≡ Some x → slice_get xs i ≡ Some y → x ≡ y
same-got xs i x y a b = let e : Some x ≡ Some y = sym a ∙ b in cc

-- ---- a record between others

module _ {X : Type 0} where
  -- an edit of a part in the middle
  pub set-middle : (p x s : List X) (i : ℕ) (e : X) → i < length x → set (p ++ (x ++ s)) (length p + i) e ≡ p ++ (set x i e ++ s)
  set-middle p x s i e lt =
      let n : length p + i - length p ≡ i = omega arith in
      set-append_right p (x ++ s) (length p) (length p + i) e refl (omega arith)
      ∙ ap (λ (m : ℕ). p ++ set (x ++ s) m e) n
      ∙ ap (λ (xs : List X). p ++ xs) (set-append_left x s i e lt)

  pub insert-middle : (p x s : List X) (i : ℕ) (e : X) → i ≤ length x → insert (p ++ (x ++ s)) (length p + i) e ≡ p ++ (insert x i e ++ s)
  insert-middle p x s i e le =
      let n : length p + i - length p ≡ i = omega arith in
      insert-append_right p (x ++ s) (length p) (length p + i) e refl (omega arith)
      ∙ ap (λ (m : ℕ). p ++ insert (x ++ s) m e) n
      ∙ ap (λ (xs : List X). p ++ xs) (insert-append_left x s i e le)

  pub remove-middle : (p x s : List X) (i : ℕ) → i < length x → remove (p ++ (x ++ s)) (length p + i) ≡ p ++ (remove x i ++ s)
  remove-middle p x s i lt =
      let n : length p + i - length p ≡ i = omega arith in
      remove-append_right p (x ++ s) (length p) (length p + i) refl (omega arith)
      ∙ ap (λ (m : ℕ). p ++ remove (x ++ s) m) n
      ∙ ap (λ (xs : List X). p ++ xs) (remove-append_left x s i lt)

-- ---- order

all-front : (P : LoginKey → Type 0) (xs ys : Records) → AllByRecursion P (keys_of (xs ++ ys)) → AllByRecursion P (keys_of xs)
all-front P [] ys all = tt
all-front P (x ∷ xs) ys all = (all.0, all-front P xs ys all.1)

all-middle : (P : LoginKey → Type 0) (xs : Records) (f : LoginKey × Failures) (ys : Records) → AllByRecursion P (keys_of (xs ++ f ∷ ys)) → P f.0
all-middle P [] f ys all = all.0
all-middle P (x ∷ xs) f ys all = all-middle P xs f ys all.1

pub order-back : (xs ys : Records) → AreInKeyOrder (xs ++ ys) → AreInKeyOrder ys
order-back [] ys order = order
order-back (x ∷ xs) ys order = order-back xs ys (rises-tail keys_total x (xs ++ ys) order)

pub order-front : (xs ys : Records) → AreInKeyOrder (xs ++ ys) → AreInKeyOrder xs
order-front [] ys order = none_in_order
order-front (x ∷ xs) ys order =
    rises-cons keys_total x xs (all-front (λ y. key_cmp x.0 y ≡ Less) xs ys (rises-head keys_total x (xs ++ ys) order)) (order-front xs ys (rises-tail keys_total x (xs ++ ys) order))

-- what stands before a record is below it, and what stands behind it above
lower-before : (xs : Records) (f : LoginKey × Failures) (ys : Records) → AreInKeyOrder (xs ++ f ∷ ys) → (i : ℕ) (r : LoginKey × Failures) → slice_get xs i ≡ Some r → key_cmp r.0 f.0 ≡ Less
lower-before [] f ys order i r got = cc
lower-before (x ∷ xs) f ys order zero r got =
    let here : x ≡ r = cc in
    subst (λ (e : LoginKey × Failures). key_cmp e.0 f.0 ≡ Less) here (all-middle (λ y. key_cmp x.0 y ≡ Less) xs f ys (rises-head keys_total x (xs ++ f ∷ ys) order))
lower-before (x ∷ xs) f ys order (suc i) r got = lower-before xs f ys (rises-tail keys_total x (xs ++ f ∷ ys) order) i r got

higher-behind : (f : LoginKey × Failures) (ys : Records) → AreInKeyOrder (f ∷ ys) → (i : ℕ) (r : LoginKey × Failures) → slice_get ys i ≡ Some r → key_cmp f.0 r.0 ≡ Less
higher-behind f ys order i r got = all-get (λ y. key_cmp f.0 y ≡ Less) ys i r (rises-head keys_total f ys order) got

-- where a record is not above a key, what stands before it is below the key
pub below_key : (xs : Records) (f : LoginKey × Failures) (ys : Records) (k : LoginKey) → AreInKeyOrder (xs ++ f ∷ ys) → key_cmp f.0 k ≢ Greater →
    (i : ℕ) (r : LoginKey × Failures) → slice_get xs i ≡ Some r → key_cmp r.0 k ≡ Less
below_key xs f ys k order above i r got = by (key_cmp f.0 k) refl where
  less : key_cmp r.0 f.0 ≡ Less
  less = lower-before xs f ys order i r got

  by : (c : Ordering) → key_cmp f.0 k ≡ c → key_cmp r.0 k ≡ Less
  by Less is = keys_total.trans r.0 f.0 k less is
  by Equal is = sym (alike_right keys_total f.0 k r.0 is) ∙ less
  by Greater is = absurd (above is)

-- where a record is above a key, so is what stands behind it
pub above_key : (f : LoginKey × Failures) (ys : Records) (k : LoginKey) → AreInKeyOrder (f ∷ ys) → key_cmp f.0 k ≡ Greater →
    (i : ℕ) (r : LoginKey × Failures) → slice_get (f ∷ ys) i ≡ Some r → key_cmp k r.0 ≡ Less
above_key f ys k order above i r got = by i got where
  first : key_cmp k f.0 ≡ Less
  first = keys_total.antisymm k f.0 ∙ ap ordering_reverse above

  by : (j : ℕ) → slice_get (f ∷ ys) j ≡ Some r → key_cmp k r.0 ≡ Less
  by zero here = let same : f ≡ r = cc in subst (λ (e : LoginKey × Failures). key_cmp k e.0 ≡ Less) same first
  by (suc j) there = keys_total.trans k f.0 r.0 first (higher-behind f ys order j r there)

-- ---- places

-- a key in a part in the middle
pub at-middle : (p x s : Records) (k : LoginKey) (i : ℕ) → IsAt x k i → IsAt (p ++ (x ++ s)) k (length p + i)
at-middle p x s k i at =
    record {
      within = omega (arith, at.within, length-append p (x ++ s), length-append x s);
      here = λ r got. at.here r (sym (get-left x s i at.within) ∙ sym (get-right p (x ++ s) i) ∙ got);
    }

pub gap-middle : (p x s : Records) (k : LoginKey) (i : ℕ) → IsGapFor x k i →
    ((j : ℕ) (r : LoginKey × Failures) → slice_get p j ≡ Some r → key_cmp r.0 k ≡ Less) →
    ((j : ℕ) (r : LoginKey × Failures) → slice_get s j ≡ Some r → key_cmp k r.0 ≡ Less) →
    IsGapFor (p ++ (x ++ s)) k (length p + i)
gap-middle p x s k i gap before behind =
    record {
      within = omega (arith, gap.within, length-append p (x ++ s), length-append x s);
      lower = λ j r lt got.
          elim (cases_lt j (length p)) [
            | inl less ↦ before j r (sym (get-left p (x ++ s) j less) ∙ got)
            | inr ge ↦
                let n : length p + (j - length p) ≡ j = omega arith in
                let m : j - length p < length x = omega (arith, gap.within) in
                gap.lower (j - length p) r (omega arith)
                (sym (get-left x s (j - length p) m) ∙ sym (get-right p (x ++ s) (j - length p)) ∙ ap (slice_get (p ++ (x ++ s))) n ∙ got)
          ];
      higher = λ j r le got.
          let n : length p + (j - length p) ≡ j = omega arith in
          let there : slice_get (x ++ s) (j - length p) ≡ Some r = sym (get-right p (x ++ s) (j - length p)) ∙ ap (slice_get (p ++ (x ++ s))) n ∙ got in
          elim (cases_lt (j - length p) (length x)) [
            | inl less ↦ gap.higher (j - length p) r (omega arith) (sym (get-left x s (j - length p) less) ∙ there)
            | inr ge ↦
                let o : length x + (j - length p - length x) ≡ j - length p = omega arith in
                behind (j - length p - length x) r (sym (get-right x s (j - length p - length x)) ∙ ap (slice_get (x ++ s)) o ∙ there)
          ];
    }

-- ---- blocks

abbrev pub Blocks : Type 0 → Type 0
Blocks Z = List (Vec (LoginKey × Failures) Z)

gt-is : (c : Ordering) → is_gt c ≡ true → c ≡ Greater
gt-is Less h = cc
gt-is Equal h = cc
gt-is Greater h = refl

no-gt : (c : Ordering) → is_gt c ≡ false → c ≢ Greater
no-gt Less h e = cc
no-gt Equal h e = cc
no-gt Greater h e = cc

first-of : (x : Records) → 0 < length x → (f : LoginKey × Failures) × (ys : Records) × (x ≡ f ∷ ys)
first-of [] some = absurd (omega arith)
first-of (f ∷ ys) some = (f, ys, refl)

module _ {Z : Type 0} where
  -- a block, with the records before it and behind it
  pub parted_at : (bs : Blocks Z) (b : ℕ) (v : Vec (LoginKey × Failures) Z) → slice_get bs b ≡ Some v →
      records_in bs ≡ records_in (take b bs) ++ (v.items ++ records_in (drop (suc b) bs))
  parted_at [] b v got = cc
  parted_at (w ∷ bs) zero v got = let here : w ≡ v = cc in ap (λ (x : Vec (LoginKey × Failures) Z). x.items ++ records_in bs) here
  parted_at (w ∷ bs) (suc b) v got =
      ap (λ (xs : Records). w.items ++ xs) (parted_at bs b v got)
      ∙ sym (append_assoc w.items (records_in (take b bs)) (v.items ++ records_in (drop (suc b) bs)))

  pub from_block : (bs : Blocks Z) (b : ℕ) (v : Vec (LoginKey × Failures) Z) → slice_get bs b ≡ Some v → records_in (drop b bs) ≡ v.items ++ records_in (drop (suc b) bs)
  from_block [] b v got = cc
  from_block (w ∷ bs) zero v got = let here : w ≡ v = cc in ap (λ (x : Vec (LoginKey × Failures) Z). x.items ++ records_in bs) here
  from_block (w ∷ bs) (suc b) v got = from_block bs b v got

  -- another block at a place
  pub parted-set : (bs : Blocks Z) (b : ℕ) (w : Vec (LoginKey × Failures) Z) → b < length bs →
      records_in (set bs b w) ≡ records_in (take b bs) ++ (w.items ++ records_in (drop (suc b) bs))
  parted-set [] b w lt = absurd (omega arith)
  parted-set (v ∷ bs) zero w lt = refl
  parted-set (v ∷ bs) (suc b) w lt =
      ap (λ (xs : Records). v.items ++ xs) (parted-set bs b w (omega arith))
      ∙ sym (append_assoc v.items (records_in (take b bs)) (w.items ++ records_in (drop (suc b) bs)))

  pub take-set : (bs : Blocks Z) (b : ℕ) (w : Vec (LoginKey × Failures) Z) → take b (set bs b w) ≡ take b bs
  take-set [] b w = refl
  take-set (v ∷ bs) zero w = refl
  take-set (v ∷ bs) (suc b) w = ap (λ (xs : Blocks Z). v ∷ xs) (take-set bs b w)

  pub drop-set : (bs : Blocks Z) (b : ℕ) (w : Vec (LoginKey × Failures) Z) → drop (suc b) (set bs b w) ≡ drop (suc b) bs
  drop-set [] b w = refl
  drop-set (v ∷ bs) zero w = refl
  drop-set (v ∷ bs) (suc b) w = drop-set bs b w

  pub got-set : (bs : Blocks Z) (b : ℕ) (w : Vec (LoginKey × Failures) Z) → b < length bs → slice_get (set bs b w) b ≡ Some w
  got-set [] b w lt = absurd (omega arith)
  got-set (v ∷ bs) zero w lt = refl
  got-set (v ∷ bs) (suc b) w lt = got-set bs b w (omega arith)

  pub blocks-set : (bs : Blocks Z) (b : ℕ) (w : Vec (LoginKey × Failures) Z) → AreBlocks bs → IsBlock w → AreBlocks (set bs b w)
  blocks-set [] b w blocks is i v got = cc
  blocks-set (u ∷ bs) zero w blocks is zero v got = let here : w ≡ v = cc in subst IsBlock here is
  blocks-set (u ∷ bs) zero w blocks is (suc i) v got = blocks (suc i) v got
  blocks-set (u ∷ bs) (suc b) w blocks is zero v got = blocks zero v got
  blocks-set (u ∷ bs) (suc b) w blocks is (suc i) v got = blocks-set bs b w (λ j x there. blocks (suc j) x there) is i v got

  pub roomy-set : (bs : Blocks Z) (b : ℕ) (w : Vec (LoginKey × Failures) Z) → AreRoomy bs → (length w.items ≤ 128) × (128 ≤ w.cap) → AreRoomy (set bs b w)
  roomy-set [] b w roomy is i v got = cc
  roomy-set (u ∷ bs) zero w roomy is zero v got = let here : w ≡ v = cc in subst (λ (x : Vec (LoginKey × Failures) Z). (length x.items ≤ 128) × (128 ≤ x.cap)) here is
  roomy-set (u ∷ bs) zero w roomy is (suc i) v got = roomy (suc i) v got
  roomy-set (u ∷ bs) (suc b) w roomy is zero v got = roomy zero v got
  roomy-set (u ∷ bs) (suc b) w roomy is (suc i) v got = roomy-set bs b w (λ j x there. roomy (suc j) x there) is i v got

  pub blocks-insert : (bs : Blocks Z) (b : ℕ) (w : Vec (LoginKey × Failures) Z) → AreBlocks bs → IsBlock w → AreBlocks (insert bs b w)
  blocks-insert bs zero w blocks is zero v got = let here : w ≡ v = cc in subst IsBlock here is
  blocks-insert bs zero w blocks is (suc i) v got = blocks i v got
  blocks-insert [] (suc b) w blocks is zero v got = let here : w ≡ v = cc in subst IsBlock here is
  blocks-insert [] (suc b) w blocks is (suc i) v got = cc
  blocks-insert (u ∷ bs) (suc b) w blocks is zero v got = blocks zero v got
  blocks-insert (u ∷ bs) (suc b) w blocks is (suc i) v got = blocks-insert bs b w (λ j x there. blocks (suc j) x there) is i v got

  pub blocks-remove : (bs : Blocks Z) (b : ℕ) → AreBlocks bs → AreBlocks (remove bs b)
  blocks-remove [] zero blocks i v got = cc
  blocks-remove [] (suc b) blocks i v got = cc
  blocks-remove (u ∷ bs) zero blocks i v got = blocks (suc i) v got
  blocks-remove (u ∷ bs) (suc b) blocks zero v got = blocks zero v got
  blocks-remove (u ∷ bs) (suc b) blocks (suc i) v got = blocks-remove bs b (λ j x there. blocks (suc j) x there) i v got

  -- without a block
  pub parted-remove : (bs : Blocks Z) (b : ℕ) → records_in (remove bs b) ≡ records_in (take b bs) ++ records_in (drop (suc b) bs)
  parted-remove [] zero = refl
  parted-remove [] (suc b) = refl
  parted-remove (v ∷ bs) zero = refl
  parted-remove (v ∷ bs) (suc b) =
      ap (λ (xs : Records). v.items ++ xs) (parted-remove bs b) ∙ sym (append_assoc v.items (records_in (take b bs)) (records_in (drop (suc b) bs)))

  -- a block behind another
  pub parted-insert : (bs : Blocks Z) (b : ℕ) (v w : Vec (LoginKey × Failures) Z) → slice_get bs b ≡ Some v →
      records_in (insert bs (suc b) w) ≡ records_in (take b bs) ++ (v.items ++ (w.items ++ records_in (drop (suc b) bs)))
  parted-insert [] b v w got = cc
  parted-insert (u ∷ bs) zero v w got = let here : u ≡ v = cc in ap (λ (x : Vec (LoginKey × Failures) Z). x.items ++ (w.items ++ records_in bs)) here
  parted-insert (u ∷ bs) (suc b) v w got =
      ap (λ (xs : Records). u.items ++ xs) (parted-insert bs b v w got)
      ∙ sym (append_assoc u.items (records_in (take b bs)) (v.items ++ (w.items ++ records_in (drop (suc b) bs))))

  -- ---- searches

  -- what stands from a block on that begins above a key, and before one that does not
  pub block-above : (bs : Blocks Z) (b : ℕ) (v : Vec (LoginKey × Failures) Z) (k : LoginKey) → AreInKeyOrder (records_in bs) → AreBlocks bs → slice_get bs b ≡ Some v →
      ((r : LoginKey × Failures) → slice_get v.items 0 ≡ Some r → true ≡ is_gt (key_cmp r.0 k)) →
      (i : ℕ) (r : LoginKey × Failures) → slice_get (records_in (drop b bs)) i ≡ Some r → key_cmp k r.0 ≡ Less
  block-above bs b v k order blocks got greater i r there =
      let h = first-of v.items (blocks b v got).filled in
      let rest = records_in (drop (suc b) bs) in
      let whole : records_in bs ≡ records_in (take b bs) ++ (h.0 ∷ (h.1 ++ rest)) = parted_at bs b v got ∙ ap (λ (x : Records). records_in (take b bs) ++ (x ++ rest)) h.2 in
      let from : records_in (drop b bs) ≡ h.0 ∷ (h.1 ++ rest) = from_block bs b v got ∙ ap (λ (x : Records). x ++ rest) h.2 in
      let ordered : AreInKeyOrder (h.0 ∷ (h.1 ++ rest)) = order-back (records_in (take b bs)) (h.0 ∷ (h.1 ++ rest)) (subst AreInKeyOrder whole order) in
      above_key h.0 (h.1 ++ rest) k ordered (gt-is (key_cmp h.0.0 k) (sym (greater h.0 (ap (λ (x : Records). slice_get x 0) h.2)))) i r (subst (λ (x : Records). slice_get x i ≡ Some r) from there)

  pub block-below : (bs : Blocks Z) (b : ℕ) (v : Vec (LoginKey × Failures) Z) (k : LoginKey) → AreInKeyOrder (records_in bs) → AreBlocks bs → slice_get bs b ≡ Some v →
      ((r : LoginKey × Failures) → slice_get v.items 0 ≡ Some r → false ≡ is_gt (key_cmp r.0 k)) →
      (i : ℕ) (r : LoginKey × Failures) → slice_get (records_in (take b bs)) i ≡ Some r → key_cmp r.0 k ≡ Less
  block-below bs b v k order blocks got other i r there =
      let h = first-of v.items (blocks b v got).filled in
      let rest = records_in (drop (suc b) bs) in
      let whole : records_in bs ≡ records_in (take b bs) ++ (h.0 ∷ (h.1 ++ rest)) = parted_at bs b v got ∙ ap (λ (x : Records). records_in (take b bs) ++ (x ++ rest)) h.2 in
      below_key (records_in (take b bs)) h.0 (h.1 ++ rest) k (subst AreInKeyOrder whole order) (no-gt (key_cmp h.0.0 k) (sym (other h.0 (ap (λ (x : Records). slice_get x 0) h.2)))) i r there

  -- nothing stands behind the last block
  pub none-behind : (bs : Blocks Z) (i : ℕ) (r : LoginKey × Failures) → slice_get (records_in (drop (length bs) bs)) i ≡ Some r → ⊥
  none-behind [] i r got = cc
  none-behind (v ∷ bs) i r got = none-behind bs i r got

  pub none-of-none : (bs : Blocks Z) (n i : ℕ) (r : LoginKey × Failures) → length bs ≡ 0 → slice_get (records_in (drop n bs)) i ≡ Some r → ⊥
  none-of-none [] zero i r none got = cc
  none-of-none [] (suc n) i r none got = cc
  none-of-none (v ∷ bs) n i r none got = absurd (omega (arith, none))

  pub gap-none : (bs : Blocks Z) (n : ℕ) (k : LoginKey) → length bs ≡ 0 → IsGapFor (records_in bs) k (length (records_in (take n bs)) + 0)
  gap-none [] zero k none = record { within = omega arith; lower = λ i r lt got. cc; higher = λ i r le got. cc }
  gap-none [] (suc n) k none = record { within = omega arith; lower = λ i r lt got. cc; higher = λ i r le got. cc }
  gap-none (v ∷ bs) n k none = absurd (omega (arith, none))

  -- what stands in a block, among all records
  pub order-of : (bs : Blocks Z) (b : ℕ) (v : Vec (LoginKey × Failures) Z) → AreInKeyOrder (records_in bs) → slice_get bs b ≡ Some v → AreInKeyOrder v.items
  order-of bs b v order got =
      order-front v.items (records_in (drop (suc b) bs))
      (order-back (records_in (take b bs)) (v.items ++ records_in (drop (suc b) bs)) (subst AreInKeyOrder (parted_at bs b v got) order))

  pub at-in : (bs : Blocks Z) (b : ℕ) (v : Vec (LoginKey × Failures) Z) (k : LoginKey) (i : ℕ) → slice_get bs b ≡ Some v → IsAt v.items k i →
      IsAt (records_in bs) k (length (records_in (take b bs)) + i)
  at-in bs b v k i got at =
      subst (λ (x : Records). IsAt x k (length (records_in (take b bs)) + i)) (sym (parted_at bs b v got))
      (at-middle (records_in (take b bs)) v.items (records_in (drop (suc b) bs)) k i at)

  pub gap-in : (bs : Blocks Z) (b : ℕ) (v : Vec (LoginKey × Failures) Z) (k : LoginKey) (i : ℕ) → slice_get bs b ≡ Some v → IsGapFor v.items k i →
      ((j : ℕ) (r : LoginKey × Failures) → slice_get (records_in (take b bs)) j ≡ Some r → key_cmp r.0 k ≡ Less) →
      ((j : ℕ) (r : LoginKey × Failures) → slice_get (records_in (drop (b + 1) bs)) j ≡ Some r → key_cmp k r.0 ≡ Less) →
      IsGapFor (records_in bs) k (length (records_in (take b bs)) + i)
  gap-in bs b v k i got gap before behind =
      let n : b + 1 ≡ suc b = omega arith in
      subst (λ (x : Records). IsGapFor x k (length (records_in (take b bs)) + i)) (sym (parted_at bs b v got))
      (gap-middle (records_in (take b bs)) v.items (records_in (drop (suc b) bs)) k i gap before
      (λ j r there. behind j r (ap (λ (m : ℕ). slice_get (records_in (drop m bs)) j) n ∙ there)))

  pub got-in : (bs : Blocks Z) (b : ℕ) (v : Vec (LoginKey × Failures) Z) (i : ℕ) (r : LoginKey × Failures) → slice_get bs b ≡ Some v → slice_get v.items i ≡ Some r →
      slice_get (records_in bs) (length (records_in (take b bs)) + i) ≡ Some r
  got-in bs b v i r got here =
      ap (λ (x : Records). slice_get x (length (records_in (take b bs)) + i)) (parted_at bs b v got)
      ∙ get-right (records_in (take b bs)) (v.items ++ records_in (drop (suc b) bs)) i
      ∙ get-left v.items (records_in (drop (suc b) bs)) i (get-short v.items i r here)
      ∙ here

  -- ---- edits

  -- one of a block, where it edits the same of a list that the block stands in, is one of all records
  records-edited : (bs : Blocks Z) (b : ℕ) (v w : Vec (LoginKey × Failures) Z) (i : ℕ) (edit : Records → ℕ → Records) → slice_get bs b ≡ Some v → w.items ≡ edit v.items i →
      ((p s : Records) → edit (p ++ (v.items ++ s)) (length p + i) ≡ p ++ (edit v.items i ++ s)) →
      records_in (set bs b w) ≡ edit (records_in bs) (length (records_in (take b bs)) + i)
  records-edited bs b v w i edit got is within =
      let P = records_in (take b bs) in
      let S = records_in (drop (suc b) bs) in
      parted-set bs b w (get-short bs b v got)
      ∙ ap (λ (x : Records). P ++ (x ++ S)) is
      ∙ sym (within P S)
      ∙ ap (λ (x : Records). edit x (length P + i)) (sym (parted_at bs b v got))

  pub records-set : (bs : Blocks Z) (b : ℕ) (v w : Vec (LoginKey × Failures) Z) (i : ℕ) (e : LoginKey × Failures) → slice_get bs b ≡ Some v → i < length v.items → w.items ≡ set v.items i e →
      records_in (set bs b w) ≡ set (records_in bs) (length (records_in (take b bs)) + i) e
  records-set bs b v w i e got lt is = records-edited bs b v w i (λ x n. set x n e) got is (λ p s. set-middle p v.items s i e lt)

  pub records-insert : (bs : Blocks Z) (b : ℕ) (v w : Vec (LoginKey × Failures) Z) (i : ℕ) (e : LoginKey × Failures) → slice_get bs b ≡ Some v → i ≤ length v.items → w.items ≡ insert v.items i e →
      records_in (set bs b w) ≡ insert (records_in bs) (length (records_in (take b bs)) + i) e
  records-insert bs b v w i e got le is = records-edited bs b v w i (λ x n. insert x n e) got is (λ p s. insert-middle p v.items s i e le)

  pub records-remove : (bs : Blocks Z) (b : ℕ) (v w : Vec (LoginKey × Failures) Z) (i : ℕ) → slice_get bs b ≡ Some v → i < length v.items → w.items ≡ remove v.items i →
      records_in (set bs b w) ≡ remove (records_in bs) (length (records_in (take b bs)) + i)
  records-remove bs b v w i got lt is = records-edited bs b v w i remove got is (λ p s. remove-middle p v.items s i lt)

  -- without a block of one record
  pub records-removed : (bs : Blocks Z) (b : ℕ) (v : Vec (LoginKey × Failures) Z) (i : ℕ) → slice_get bs b ≡ Some v → length v.items ≡ 1 → i < length v.items →
      records_in (remove bs b) ≡ remove (records_in bs) (length (records_in (take b bs)) + i)
  records-removed bs b v i got one lt =
      let P = records_in (take b bs) in
      let S = records_in (drop (suc b) bs) in
      parted-remove bs b
      ∙ ap (λ (x : Records). P ++ (x ++ S)) (sym (none-left v.items i one lt))
      ∙ sym (remove-middle P v.items S i lt)
      ∙ ap (λ (x : Records). remove x (length P + i)) (sym (parted_at bs b v got)) where
        none-left : (x : Records) (j : ℕ) → length x ≡ 1 → j < length x → remove x j ≡ []
        none-left [] j is lt = absurd (omega (arith, is))
        none-left (e ∷ []) zero is lt = refl
        none-left (e ∷ []) (suc j) is lt = absurd (omega arith)
        none-left (e ∷ (f ∷ x)) j is lt = absurd (omega (arith, is))

  -- ---- halves

  -- a full block in two, with the place between them
  pub records-halved : (bs : Blocks Z) (b : ℕ) (v w u : Vec (LoginKey × Failures) Z) (n : ℕ) → slice_get bs b ≡ Some v → w.items ≡ take n v.items → u.items ≡ drop n v.items →
      records_in (insert (set bs b w) (suc b) u) ≡ records_in bs
  records-halved bs b v w u n got front rest =
      let P = records_in (take b bs) in
      let S = records_in (drop (suc b) bs) in
      parted-insert (set bs b w) b w u (got-set bs b w (get-short bs b v got))
      ∙ ap (λ (x : Records). x ++ (w.items ++ (u.items ++ records_in (drop (suc b) (set bs b w))))) (ap records_in (take-set bs b w))
      ∙ ap (λ (x : Records). P ++ (w.items ++ (u.items ++ x))) (ap records_in (drop-set bs b w))
      ∙ ap (λ (x : Records). P ++ (x ++ (u.items ++ S))) front
      ∙ ap (λ (x : Records). P ++ (take n v.items ++ (x ++ S))) rest
      ∙ ap (λ (x : Records). P ++ x) (sym (append_assoc (take n v.items) (drop n v.items) S))
      ∙ ap (λ (x : Records). P ++ (x ++ S)) (take-append-drop n v.items)
      ∙ sym (parted_at bs b v got)
