-- The first sixteen bytes: which of them is refused first.
use Rattle.std.proofs.Common.{◌≡◌, ℕ, zero, suc, ◌+◌, ◌<◌, ◌≤◌, Bool, true, false, cond, eqb, ltb, leb, List, [], ◌∷◌, ◌++◌, length, get_or, take, drop, Option, Some, None, Result, Ok, Err, refl, sym, ap, subst, ◌∙◌, arith, inl, inr, below_more, lit<}
use Rattle.std.specs.Option.{option_map_or}
use Rattle.std.specs.Prelude.{is_some, ◌||◌, IfSome}
use Rattle.std.specs.Int.{w16, from_be_bytes}
use Rattle.std.proofs.Math.Seq.{take-add}
use borrow.Rule.Slice.PartMut.{put_mid}
use Rattle.std.proofs.lemmas.Bool.{cases_lt, cases_eq}
use Rattle.std.proofs.lemmas.Bool.Decides.{nat_tests}
use Rattle.std.proofs.lemmas.List.{length-drop, get_or-take, take-take, drop-drop, drop_all}
use Rattle.ftp_proxy.specs.declared.v2_header.Header2.{Header2}
use Rattle.ftp_proxy.specs.declared.v2_header.Body.{Body}
use Rattle.ftp_proxy.specs.declared.v2_error.Proxy2Error.{Proxy2Error}
use Rattle.ftp_proxy.specs.declared.v2_error.Proxy2Error.TheVariants as error
use Rattle.ftp_proxy.specs.V2Header.{signature}
use Rattle.ftp_proxy.specs.Reading.{at, addresses_len, block_len, refusal_at, refusal_from, refusal, taken_len, header_of, outcome, mapped, body_of, made, ReadsAll, Reads, ReadsFrom, IsAnswer, IsTaken, IsPart, IsBytes, FillsAll, Fills, Begun}
use Rattle.ftp_proxy.proofs.BodyLemmas.{needed_by, body_by}
use Rattle.ftp_proxy.proofs.ReadLemmas.{IsBytes-append, front_more, made_short, made_long}

some_none : {A : Type 0} (x : A) → Some x ≡ None → ⊥
some_none x e = absurd cc

none_some : {A : Type 0} (x : A) → None ≡ Some x → ⊥
none_some x e = absurd cc

some_is : {A : Type 0} (x y : A) → Some x ≡ Some y → x ≡ y
some_is x y e = cc

-- none of so many places is refused
pub none_refused : (n i : ℕ) (bytes : List ℕ) → ((k : ℕ) → i ≤ k → k < i + n → refusal_at bytes k ≡ None) → refusal_from n i bytes ≡ None
unfolding refusal_from
none_refused zero i bytes h = refl
none_refused (suc n) i bytes h =
    ap (λ (o : Option Proxy2Error). option_map_or (λ e. Some (i, e)) o (refusal_from n (i + 1) bytes)) (h i (omega arith) (omega arith))
    ∙ none_refused n (i + 1) bytes (λ k p q. h k (omega arith) (omega arith))

-- the first that is refused
pub first_refused : (n i : ℕ) (bytes : List ℕ) (j : ℕ) (e : Proxy2Error) → i ≤ j → j < i + n →
    ((k : ℕ) → i ≤ k → k < j → refusal_at bytes k ≡ None) → refusal_at bytes j ≡ Some e → refusal_from n i bytes ≡ Some (j, e)
unfolding refusal_from
first_refused zero i bytes j e from below before here = absurd (omega arith)
first_refused (suc n) i bytes j e from below before here =
    elim (cases_eq i j) [
      | inl same ↦
          ap (λ (o : Option Proxy2Error). option_map_or (λ e. Some (i, e)) o (refusal_from n (i + 1) bytes)) (ap (refusal_at bytes) same ∙ here)
          ∙ ap (λ (k : ℕ). Some (k, e)) same
      | inr other ↦
          let next : i < j = omega arith in
          ap (λ (o : Option Proxy2Error). option_map_or (λ e. Some (i, e)) o (refusal_from n (i + 1) bytes)) (before i (omega arith) next)
          ∙ first_refused n (i + 1) bytes j e (omega arith) (omega arith) (λ k p q. before k (omega arith) q) here
    ]

-- the place that is refused
pub record IsRefusedAt (n i : ℕ) (bytes : List ℕ) (j : ℕ) (e : Proxy2Error) : Type 0 where
  pub from : i ≤ j
  pub below : j < i + n
  pub here : refusal_at bytes j ≡ Some e

-- where none is refused, none of the places is
pub each_none : (n i : ℕ) (bytes : List ℕ) → refusal_from n i bytes ≡ None → (k : ℕ) → i ≤ k → k < i + n → refusal_at bytes k ≡ None
unfolding refusal_from
each_none zero i bytes e k p q = absurd (omega arith)
each_none (suc n) i bytes e k p q = by (λ r. each_none n (i + 1) bytes r k) (refusal_at bytes i) refl where
  by : (refusal_from n (i + 1) bytes ≡ None → i + 1 ≤ k → k < i + 1 + n → refusal_at bytes k ≡ None) → (o : Option Proxy2Error) → refusal_at bytes i ≡ o → refusal_at bytes k ≡ None
  by rest (Some d) is = let s : Some (i, d) ≡ None = ap (λ (o : Option Proxy2Error). option_map_or (λ e. Some (i, e)) o (refusal_from n (i + 1) bytes)) (sym is) ∙ e in absurd (some_none (i, d) s)
  by rest None is =
      let s : refusal_from n (i + 1) bytes ≡ None = ap (λ (o : Option Proxy2Error). option_map_or (λ e. Some (i, e)) o (refusal_from n (i + 1) bytes)) (sym is) ∙ e in
      elim (cases_eq i k) [
        | inl same ↦ ap (refusal_at bytes) (sym same) ∙ is
        | inr other ↦ rest s (omega arith) (omega arith)
      ]

pub refused_at : (n i : ℕ) (bytes : List ℕ) (r : ℕ × Proxy2Error) → refusal_from n i bytes ≡ Some r → IsRefusedAt n i bytes r.0 r.1
unfolding refusal_from
refused_at zero i bytes r e = absurd cc
refused_at (suc n) i bytes r e = by (λ s. refused_at n (i + 1) bytes r s) (refusal_at bytes i) refl where
  by : (refusal_from n (i + 1) bytes ≡ Some r → IsRefusedAt n (i + 1) bytes r.0 r.1) → (o : Option Proxy2Error) → refusal_at bytes i ≡ o → IsRefusedAt (suc n) i bytes r.0 r.1
  by rest (Some d) is =
      let s : Some (i, d) ≡ Some r = ap (λ (o : Option Proxy2Error). option_map_or (λ e. Some (i, e)) o (refusal_from n (i + 1) bytes)) (sym is) ∙ e in
      let p : (i, d) ≡ r = some_is (i, d) r s in
      record {
        from = subst (λ (x : ℕ × Proxy2Error). i ≤ x.0) p (omega arith);
        below = subst (λ (x : ℕ × Proxy2Error). x.0 < i + suc n) p (omega arith);
        here = subst (λ (x : ℕ × Proxy2Error). refusal_at bytes x.0 ≡ Some x.1) p is;
      }
  by rest None is =
      let s : refusal_from n (i + 1) bytes ≡ Some r = ap (λ (o : Option Proxy2Error). option_map_or (λ e. Some (i, e)) o (refusal_from n (i + 1) bytes)) (sym is) ∙ e in
      let q = rest s in
      record { from = omega (arith, q.from); below = omega (arith, q.below); here = q.here }

-- where none is refused so far, more is taken
pub taken_beyond : (bytes : List ℕ) (i : ℕ) → i < 16 → ((k : ℕ) → k < i → refusal_at bytes k ≡ None) → i < taken_len bytes
taken_beyond bytes i lt none = by (refusal bytes) refl where
  by : (o : Option (ℕ × Proxy2Error)) → refusal bytes ≡ o → i < option_map_or (λ r. r.0 + 1) (refusal bytes) (16 + block_len bytes)
  by None e = subst (λ (o : Option (ℕ × Proxy2Error)). i < option_map_or (λ r. r.0 + 1) o (16 + block_len bytes)) (sym e) (omega arith)
  by (Some r) e =
      let q = refused_at 16 0 bytes r e in
      elim (cases_lt r.0 i) [
        | inl before ↦ absurd (none_some r.1 (sym (none r.0 before) ∙ q.here))
        | inr ge ↦ subst (λ (o : Option (ℕ × Proxy2Error)). i < option_map_or (λ r. r.0 + 1) o (16 + block_len bytes)) (sym e) (omega arith)
      ]

-- ---- the outcome

-- where none of the first sixteen is refused
pub outcome_whole : (bytes : List ℕ) → refusal bytes ≡ None →
    outcome bytes ≡ cond (ltb (length bytes) (16 + block_len bytes)) (Err error.UnexpectedEof) (header_of bytes)
outcome_whole bytes e =
    ap (λ (o : Option (ℕ × Proxy2Error)). cond (ltb (length bytes) (option_map_or (λ r. r.0 + 1) o (16 + block_len bytes))) (Err error.UnexpectedEof) (option_map_or (λ r. Err r.1) o (header_of bytes))) e

-- where one is
pub outcome_refused : (bytes : List ℕ) (j : ℕ) (e : Proxy2Error) → refusal bytes ≡ Some (j, e) → j < length bytes →
    (outcome bytes ≡ Err e) × (taken_len bytes ≡ j + 1)
outcome_refused bytes j d e lt =
    let h : ltb (length bytes) (j + 1) ≡ false = grind (arith, nat_tests) in (
      ap (λ (o : Option (ℕ × Proxy2Error)). cond (ltb (length bytes) (option_map_or (λ r. r.0 + 1) o (16 + block_len bytes))) (Err error.UnexpectedEof) (option_map_or (λ r. Err r.1) o (header_of bytes))) e
          ∙ ap (λ (b : Bool). cond b (Err error.UnexpectedEof) (Err d)) h,
      ap (λ (o : Option (ℕ × Proxy2Error)). option_map_or (λ r. r.0 + 1) o (16 + block_len bytes)) e,
    )

-- where the bytes end before that
pub outcome_ended : (bytes : List ℕ) → length bytes < taken_len bytes → outcome bytes ≡ Err error.UnexpectedEof
outcome_ended bytes lt =
    let h : ltb (length bytes) (taken_len bytes) ≡ true = grind (arith, nat_tests) in
    ap (λ (b : Bool). cond b (Err error.UnexpectedEof) (option_map_or (λ r. Err r.1) (refusal bytes) (header_of bytes))) h

abbrev pub good : Header2 → Result Header2 Proxy2Error
good h = Ok h

-- a header
pub outcome_good : (bytes : List ℕ) (h : Header2) → outcome bytes ≡ Ok h →
    (refusal bytes ≡ None) × (16 + block_len bytes ≤ length bytes) × (header_of bytes ≡ Ok h)
outcome_good bytes h e = by (refusal bytes) refl where
  whole : (b : Bool) → ltb (length bytes) (16 + block_len bytes) ≡ b → refusal bytes ≡ None → (refusal bytes ≡ None) × (16 + block_len bytes ≤ length bytes) × (header_of bytes ≡ Ok h)
  whole true t is =
      let s : cond true (Err error.UnexpectedEof) (header_of bytes) ≡ good h = ap (λ (b : Bool). cond b (Err error.UnexpectedEof) (header_of bytes)) (sym t) ∙ sym (outcome_whole bytes is) ∙ e in absurd cc
  whole false t is =
      let s : cond false (Err error.UnexpectedEof) (header_of bytes) ≡ good h = ap (λ (b : Bool). cond b (Err error.UnexpectedEof) (header_of bytes)) (sym t) ∙ sym (outcome_whole bytes is) ∙ e in
      (is, grind (arith, nat_tests), s)

  by : (o : Option (ℕ × Proxy2Error)) → refusal bytes ≡ o → (refusal bytes ≡ None) × (16 + block_len bytes ≤ length bytes) × (header_of bytes ≡ Ok h)
  by None is = whole (ltb (length bytes) (16 + block_len bytes)) refl is
  by (Some r) is =
      elim (cases_lt r.0 (length bytes)) [
        | inl lt ↦ let o = (outcome_refused bytes r.0 r.1 is lt).0 in absurd cc
        | inr le ↦
            let t : taken_len bytes ≡ r.0 + 1 = ap (λ (o : Option (ℕ × Proxy2Error)). option_map_or (λ r. r.0 + 1) o (16 + block_len bytes)) is in
            let o = outcome_ended bytes (omega (arith, t)) in absurd cc
      ]

-- ---- bytes that begin alike are refused alike

same_at : (a b : List ℕ) (n k : ℕ) → k < n → take n a ≡ take n b → at a k ≡ at b k
same_at a b n k lt same =
    sym (get_or-take n a k 0 lt) ∙ ap (λ (x : List ℕ). get_or x k 0) same ∙ get_or-take n b k 0 lt

refusal_low : (bytes : List ℕ) (i : ℕ) → i < 12 → refusal_at bytes i ≡ cond (eqb (at bytes i) (at signature i)) None (Some (error.NotSignature i))
refusal_low bytes i lt = let h : ltb i 12 ≡ true = grind (arith, nat_tests) in rw h refl

refusal_12 : (a b : List ℕ) → take 13 a ≡ take 13 b → refusal_at a 12 ≡ refusal_at b 12
refusal_12 a b same = ap (λ (c : ℕ). cond (eqb c 32 || eqb c 33) None (Some (error.BadVersion c))) (same_at a b 13 12 (omega arith) same)

refusal_13 : (a b : List ℕ) → take 14 a ≡ take 14 b → refusal_at a 13 ≡ refusal_at b 13
refusal_13 a b same =
    let c = same_at a b 14 12 (omega arith) same in
    let f = same_at a b 14 13 (omega arith) same in
    λ j. cond (eqb (c j) 32 || is_some (addresses_len (f j))) None (Some (error.BadFamily (f j)))

refusal_15 : (a b : List ℕ) → take 16 a ≡ take 16 b → refusal_at a 15 ≡ refusal_at b 15
refusal_15 a b same =
    let c = same_at a b 16 12 (omega arith) same in
    let f = same_at a b 16 13 (omega arith) same in
    let h = same_at a b 16 14 (omega arith) same in
    let l = same_at a b 16 15 (omega arith) same in
    λ j.
    cond (leb (needed_by (c j) (f j)) (from_be_bytes w16 (h j ∷ l j ∷ []))) None
    (Some (error.ShortBlock (from_be_bytes w16 (h j ∷ l j ∷ [])) (needed_by (c j) (f j))))

pub refusal_same : (a b : List ℕ) (i : ℕ) → i < 16 → take (i + 1) a ≡ take (i + 1) b → refusal_at a i ≡ refusal_at b i
refusal_same a b i lt same =
    elim (cases_lt i 12) [
      | inl low ↦
          refusal_low a i low
          ∙ ap (λ (x : ℕ). cond (eqb x (at signature i)) None (Some (error.NotSignature i))) (same_at a b (i + 1) i (omega arith) same)
          ∙ sym (refusal_low b i low)
      | inr high ↦
          elim (cases_eq i 12) [
            | inl is ↦ subst (λ (k : ℕ). take (k + 1) a ≡ take (k + 1) b → refusal_at a k ≡ refusal_at b k) (sym is) (refusal_12 a b) same
            | inr n12 ↦
                elim (cases_eq i 13) [
                  | inl is ↦ subst (λ (k : ℕ). take (k + 1) a ≡ take (k + 1) b → refusal_at a k ≡ refusal_at b k) (sym is) (refusal_13 a b) same
                  | inr n13 ↦
                      elim (cases_eq i 14) [
                        | inl is ↦ subst (λ (k : ℕ). refusal_at a k ≡ refusal_at b k) (sym is) refl
                        | inr n14 ↦
                            let is : i ≡ 15 = omega arith in
                            subst (λ (k : ℕ). take (k + 1) a ≡ take (k + 1) b → refusal_at a k ≡ refusal_at b k) (sym is) (refusal_15 a b) same
                      ]
                ]
          ]
    ]

-- ---- reading the first sixteen

pub begun_more : (all head slice : List ℕ) (i k : ℕ) (now later : Option (List ℕ)) →
    i < 16 → length slice ≡ 1 → i ≤ length head → Begun all head i now →
    IfSome now (λ l. FillsAll l slice later) →
    refusal_at (put_mid i k head slice) i ≡ None →
    Begun all (put_mid i k head slice) (i + 1) later
begun_more all head slice i k now later lt one le b filled passes =
    let f = subst (λ (o : Option (List ℕ)). IfSome o (λ l. FillsAll l slice later)) b.rest filled in
    let next : slice ≡ take 1 (drop i all) = f.front ∙ ap (λ (n : ℕ). take n (drop i all)) one in
    let front = front_more all head slice i 1 k le (omega (arith, one)) b.front (ap (take 1) next ∙ take-take 1 1 (drop i all) (omega arith)) in
    let same = refusal_same (put_mid i k head slice) all i lt front in record {
      within = omega (arith, f.within, length-drop i all, b.within, one);
      front = front;
      none = below_more (λ j. refusal_at all j ≡ None) i b.none (sym same ∙ passes);
      rest = f.rest ∙ ap (λ (n : ℕ). Some (drop n (drop i all))) one ∙ ap Some (drop-drop 1 i all);
      are_bytes = subst IsBytes (sym (take-add i 1 all ∙ ap (λ (x : List ℕ). take i all ++ x) (sym next))) (IsBytes-append (take i all) slice b.are_bytes f.are_bytes);
    }

-- the byte is refused
pub begun_refused : (all head slice : List ℕ) (i k : ℕ) (now later : Option (List ℕ)) (e : Proxy2Error) →
    i < 16 → length slice ≡ 1 → i ≤ length head → Begun all head i now →
    IfSome now (λ l. FillsAll l slice later) →
    refusal_at (put_mid i k head slice) i ≡ Some e →
    (outcome all ≡ Err e) × (later ≡ Some (drop (taken_len all) all))
begun_refused all head slice i k now later e lt one le b filled refused =
    let f = subst (λ (o : Option (List ℕ)). IfSome o (λ l. FillsAll l slice later)) b.rest filled in
    let next : slice ≡ take 1 (drop i all) = f.front ∙ ap (λ (n : ℕ). take n (drop i all)) one in
    let front = front_more all head slice i 1 k le (omega (arith, one)) b.front (ap (take 1) next ∙ take-take 1 1 (drop i all) (omega arith)) in
    let here = sym (refusal_same (put_mid i k head slice) all i lt front) ∙ refused in
    let first = first_refused 16 0 all i e (omega arith) (omega arith) (λ j p q. b.none j q) here in
    let o = outcome_refused all i e first (omega (arith, f.within, length-drop i all, b.within, one)) in
    (o.0, f.rest ∙ ap (λ (n : ℕ). Some (drop n (drop i all))) one ∙ ap Some (drop-drop 1 i all) ∙ ap (λ (n : ℕ). Some (drop n all)) (sym o.1))

-- the bytes end
pub begun_ended : (all head : List ℕ) (i n : ℕ) (now later : Option (List ℕ)) → i < 16 → n ≡ 1 → Begun all head i now →
    IfSome now (λ l. (length l < n) × (later ≡ Some [])) →
    (outcome all ≡ Err error.UnexpectedEof) × (later ≡ Some (drop (taken_len all) all))
begun_ended all head i n now later lt one b ended =
    let f = subst (λ (o : Option (List ℕ)). IfSome o (λ l. (length l < n) × (later ≡ Some []))) b.rest ended in
    let len : length all ≡ i = omega (arith, f.0, length-drop i all, b.within, one) in
    let beyond = taken_beyond all i lt b.none in
    (outcome_ended all (omega arith), f.1 ∙ ap Some (sym (drop_all (taken_len all) all (omega arith))))

-- a read failed
pub begun_failed : (all head : List ℕ) (i n : ℕ) (now later : Option (List ℕ)) → i < 16 → n ≡ 1 → Begun all head i now →
    IfSome now (λ l. IsPart n l later) → IsPart (taken_len all) all later
begun_failed all head i n now later lt one b failed =
    let f = subst (λ (o : Option (List ℕ)). IfSome o (λ l. IsPart n l later)) b.rest failed in
    let beyond = taken_beyond all i lt b.none in
    (i + f.0, omega (arith, f.1, one), f.2 ∙ ap Some (drop-drop f.0 i all))

-- any error of a read
pub begun_error : (all head out : List ℕ) (i : ℕ) (now later : Option (List ℕ)) (e : Proxy2Error) → i < 16 → length out ≡ 1 → Begun all head i now →
    IfSome now (λ l. Fills {A = Unit {0}} l out (Err e) later) → IsAnswer all (Err e) × IsTaken all (Err e) later
begun_error all head out i now later error.Fault lt one b f = (tt, begun_failed all head i (length out) now later lt one b f)
begun_error all head out i now later error.UnexpectedEof lt one b f =
    let o = begun_ended all head i (length out) now later lt one b f in (sym o.0, o.1)
begun_error all head out i now later e lt one b f = absurd (subst (λ (o : Option (List ℕ)). IfSome o (λ l. ⊥)) b.rest f)

-- an answer that is the outcome
pub refused_answer : (all : List ℕ) (e : Proxy2Error) (later : Option (List ℕ)) → outcome all ≡ Err e → later ≡ Some (drop (taken_len all) all) →
    IsAnswer all (Err e) × IsTaken all (Err e) later
refused_answer all error.Fault later o rest = (tt, (taken_len all, omega arith, rest))
refused_answer all error.OutOfMemory later o rest = (tt, (taken_len all, omega arith, rest))
refused_answer all error.UnexpectedEof later o rest = (sym o, rest)
refused_answer all (error.NotSignature a) later o rest = (sym o, rest)
refused_answer all (error.BadVersion a) later o rest = (sym o, rest)
refused_answer all (error.BadFamily a) later o rest = (sym o, rest)
refused_answer all (error.ShortBlock a b) later o rest = (sym o, rest)
refused_answer all (error.BadField a) later o rest = (sym o, rest)

-- nothing was read yet
pub begun_none : (all head : List ℕ) (left : Option (List ℕ)) → left ≡ Some all → Begun all head 0 left
begun_none all head left e = record { within = omega arith; front = refl; none = λ k lt. absurd (omega arith); rest = e; are_bytes = λ i. lit< tt }

-- ---- the block behind the first sixteen

-- what the buffer says of all bytes
record Says (all head : List ℕ) : Type 0 where
  pub len : block_len head ≡ block_len all
  pub family : at head 13 ≡ at all 13
  pub body : (block : List ℕ) → body_of head block ≡ body_of all block

says : (all head : List ℕ) → take 16 head ≡ take 16 all → Says all head
says all head same =
    let c = same_at head all 16 12 (omega arith) same in
    let f = same_at head all 16 13 (omega arith) same in
    let h = same_at head all 16 14 (omega arith) same in
    let l = same_at head all 16 15 (omega arith) same in
    record { len = λ i. from_be_bytes w16 (h i ∷ l i ∷ []); family = f; body = λ block i. body_by (c i) (f i) block }

abbrev header_with : ℕ → Body → Header2
header_with family body = record { family = family; body = body }

block_outcome : (all : List ℕ) → 16 ≤ length all → refusal all ≡ None → mapped (header_with (at all 13)) (made (block_len all) (body_of all) (drop 16 all)) ≡ outcome all
block_outcome all le none =
    elim (cases_lt (length all) (16 + block_len all)) [
      | inl lt ↦
          let t : ltb (length all) (16 + block_len all) ≡ true = grind (arith, nat_tests) in
          ap (mapped (header_with (at all 13))) (made_short (block_len all) (body_of all) (drop 16 all) (omega (arith, length-drop 16 all)))
          ∙ sym (outcome_whole all none ∙ ap (λ (b : Bool). cond b (Err error.UnexpectedEof) (header_of all)) t)
      | inr ge ↦
          let t : ltb (length all) (16 + block_len all) ≡ false = grind (arith, nat_tests) in
          ap (mapped (header_with (at all 13))) (made_long (block_len all) (body_of all) (drop 16 all) (omega (arith, length-drop 16 all)))
          ∙ sym (outcome_whole all none ∙ ap (λ (b : Bool). cond b (Err error.UnexpectedEof) (header_of all)) t)
    ]

-- so much is taken where none of the first sixteen is refused
taken_whole : (all : List ℕ) → refusal all ≡ None → taken_len all ≡ 16 + block_len all
taken_whole all none = ap (λ (o : Option (ℕ × Proxy2Error)). option_map_or (λ r. r.0 + 1) o (16 + block_len all)) none

record IsWhole (all : List ℕ) (r : Result Body Proxy2Error) (later : Option (List ℕ)) : Type 0 where
  pub answer : mapped (header_with (at all 13)) r ≡ outcome all
  pub rest : later ≡ Some (drop (taken_len all) all)
  pub are_bytes : 16 + block_len all ≤ length all → IsBytes (take (taken_len all) all)

block_read : (all head : List ℕ) (mid later : Option (List ℕ)) (r : Result Body Proxy2Error) → Begun all head 16 mid → ReadsAll (block_len head) (body_of head) (drop 16 all) r later → IsWhole all r later
block_read all head mid later r b read =
    let s = says all head b.front in
    let none = none_refused 16 0 all (λ k p q. b.none k q) in
    let body : body_of head ≡ body_of all = λ i block. s.body block i in
    let t = taken_whole all none in record {
      answer =
          ap (mapped (header_with (at all 13))) (read.answer_is ∙ ap (λ (n : ℕ). made n (body_of head) (drop 16 all)) s.len ∙ ap (λ (f : List ℕ → Result Body Proxy2Error). made (block_len all) f (drop 16 all)) body)
          ∙ block_outcome all b.within none;
      rest = read.rest ∙ ap Some (drop-drop (block_len head) 16 all) ∙ ap (λ (n : ℕ). Some (drop (16 + n) all)) s.len ∙ ap (λ (n : ℕ). Some (drop n all)) (sym t);
      are_bytes = λ long.
          subst (λ (n : ℕ). IsBytes (take n all)) (ap (λ (n : ℕ). 16 + n) s.len ∙ sym t)
          (subst IsBytes (sym (take-add 16 (block_len head) all)) (IsBytes-append (take 16 all) (take (block_len head) (drop 16 all)) b.are_bytes (read.are_bytes (omega (arith, length-drop 16 all, s.len)))));
    }

block_part : (all head : List ℕ) (mid later : Option (List ℕ)) → Begun all head 16 mid → IsPart (block_len head) (drop 16 all) later → IsPart (taken_len all) all later
block_part all head mid later b p =
    let s = says all head b.front in
    let t = taken_whole all (none_refused 16 0 all (λ k p q. b.none k q)) in
    (16 + p.0, omega (arith, p.1, s.len, t), p.2 ∙ ap Some (drop-drop p.0 16 all))

block_refused : (all head : List ℕ) (mid later : Option (List ℕ)) (e : Proxy2Error) → Begun all head 16 mid → Reads (block_len head) (body_of head) (drop 16 all) (Err e) later →
    IsAnswer all (Err e) × IsTaken all (Err e) later
block_refused all head mid later error.Fault b r = (tt, block_part all head mid later b r)
block_refused all head mid later error.OutOfMemory b r = (tt, block_part all head mid later b r)
block_refused all head mid later error.UnexpectedEof b r = let w = block_read all head mid later (Err error.UnexpectedEof) b r in (w.answer, w.rest)
block_refused all head mid later (error.NotSignature x) b r = let w = block_read all head mid later (Err (error.NotSignature x)) b r in (w.answer, w.rest)
block_refused all head mid later (error.BadVersion x) b r = let w = block_read all head mid later (Err (error.BadVersion x)) b r in (w.answer, w.rest)
block_refused all head mid later (error.BadFamily x) b r = let w = block_read all head mid later (Err (error.BadFamily x)) b r in (w.answer, w.rest)
block_refused all head mid later (error.ShortBlock x y) b r = let w = block_read all head mid later (Err (error.ShortBlock x y)) b r in (w.answer, w.rest)
block_refused all head mid later (error.BadField x) b r = let w = block_read all head mid later (Err (error.BadField x)) b r in (w.answer, w.rest)

-- a header that was refused
pub from_refused : (all head : List ℕ) (mid later : Option (List ℕ)) (e : Proxy2Error) → Begun all head 16 mid →
    IfSome mid (λ l. Reads (block_len head) (body_of head) l (Err e) later) → ReadsFrom all (Err e) later
from_refused all head mid later e b r =
    let q = block_refused all head mid later e b (subst (λ (o : Option (List ℕ)). IfSome o (λ l. Reads (block_len head) (body_of head) l (Err e) later)) b.rest r) in
    record { is_answer = q.0; is_taken = q.1; are_bytes = λ h. absurd cc }

-- one whose first bytes were refused
pub head_refused : (all : List ℕ) (later : Option (List ℕ)) (e : Proxy2Error) → IsAnswer all (Err e) × IsTaken all (Err e) later → ReadsFrom all (Err e) later
head_refused all later e q = record { is_answer = q.0; is_taken = q.1; are_bytes = λ h. absurd cc }

-- a header that was read
pub from_read : (all head : List ℕ) (mid later : Option (List ℕ)) (body : Body) → Begun all head 16 mid →
    IfSome mid (λ l. ReadsAll (block_len head) (body_of head) l (Ok body) later) → ReadsFrom all (Ok (header_with (at head 13) body)) later
from_read all head mid later body b r =
    let read = subst (λ (o : Option (List ℕ)). IfSome o (λ l. ReadsAll (block_len head) (body_of head) l (Ok body) later)) b.rest r in
    let w = block_read all head mid later (Ok body) b read in
    let s = says all head b.front in
    let answer : good (header_with (at head 13) body) ≡ outcome all = ap (λ (f : ℕ). good (header_with f body)) s.family ∙ w.answer in
    let long = (outcome_good all (header_with (at head 13) body) (sym answer)).1 in
    record { is_answer = answer; is_taken = w.rest; are_bytes = λ h. w.are_bytes long }
