-- Line feeds, spans and reads.
use Rattle.std.proofs.Common.{◌≡◌, ℕ, ◌+◌, ◌-◌, ◌<◌, ◌≤◌, List, ◌++◌, length, get_or, take, drop, Bool, true, false, eqb, [], Option, Some, None, refl, sym, ap, subst, ◌∙◌, append_assoc, arith, inl, inr, eq-eqb, not}
use Rattle.std.specs.Prelude.{IfSome, slice_range}
use Rattle.std.specs.List.{position_or_len}
use Rattle.std.proofs.lemmas.Bool.{cases_lt}
use Rattle.std.proofs.lemmas.List.{take-append-drop, drop-take, length-take, length-drop, length-append, length-take-le, drop-append-le, take-append-le, take_at, take-take, drop-drop, take_all, get_or-drop}
use Rattle.std.proofs.lemmas.List.Folds.{prefix_len-append}
use Rattle.std.proofs.lemmas.Bool.Decides.{nat_tests}
use Rattle.std.proofs.lemmas.List.Sums.{fails_before_first, position_or_len_is}
use borrow.Rule.Slice.PartMut.{put_mid, post_of}
use Rattle.std.proofs.Math.Seq.{take-append-add}
use Rattle.memchr.specs.Find.{IsFirstByte, is_byte}
use Rattle.ftp_base.specs.Outside.{ReadsFront}
use Rattle.ftp_control.specs.Lines.{is_line_feed, first_line, behind_line, Rest, TakesAtMost}

-- the bytes from a place on
tail_is : (bytes : List ℕ) (from : ℕ) → slice_range bytes from (length bytes) ≡ drop from bytes
tail_is bytes from = take_all (length bytes - from) (drop from bytes) (omega (arith, length-drop from bytes))

-- a byte behind a place, of which a search says that it is no line feed
fails_behind : (bytes : List ℕ) (from k : ℕ) → from ≤ k → (is_line_feed (get_or (drop from bytes) (k - from) 0) ≡ true → ⊥) → is_line_feed (get_or bytes k 0) ≡ false
fails_behind bytes from k le other =
    let sum : from + (k - from) ≡ k = omega arith in
    false_from_not (is_line_feed (get_or bytes k 0))
    (λ yes. other (ap is_line_feed (get_or-drop from bytes (k - from) 0 ∙ ap (λ (n : ℕ). get_or bytes n 0) sum) ∙ yes)) where
      false_from_not : (b : Bool) → (b ≡ true → ⊥) → b ≡ false
      false_from_not true h = absurd (h refl)
      false_from_not false h = refl

-- a search from a place before which no line feed stands
pub line_feed_found : (bytes : List ℕ) (from i : ℕ) →
    from ≤ length bytes →
    from ≤ position_or_len is_line_feed bytes →
    IsFirstByte (is_byte 10) (slice_range bytes from (length bytes)) (Some i) →
    (from + i < length bytes) × (position_or_len is_line_feed bytes ≡ from + i)
line_feed_found bytes from i within none searched =
    let first = subst (λ (x : List ℕ). IsFirstByte (is_byte 10) x (Some i)) (tail_is bytes from) searched in
    let at : is_line_feed (get_or bytes (from + i) 0) ≡ true = ap is_line_feed (sym (get_or-drop from bytes i 0)) ∙ first.1 in
    let inside : from + i < length bytes = omega (arith, first.0.high, length-drop from bytes) in (
      inside,
      position_or_len_is is_line_feed bytes (from + i) 0 (omega (arith, inside)) (none_before bytes from i none first) (λ lt. at),
    ) where
      none_before : (bytes : List ℕ) (from i : ℕ) →
          from ≤ position_or_len is_line_feed bytes →
          IsFirstByte (is_byte 10) (drop from bytes) (Some i) →
          (k : ℕ) → k < from + i → is_line_feed (get_or bytes k 0) ≡ false
      none_before bytes from i none first k lt =
          elim (cases_lt k from) [
            | inl less ↦ fails_before_first is_line_feed bytes k 0 (omega arith)
            | inr ge ↦ fails_behind bytes from k ge (first.0.before (k - from) (omega arith) (omega arith))
          ]

-- a search that finds none
pub line_feed_none : (bytes : List ℕ) (from : ℕ) →
    from ≤ length bytes →
    from ≤ position_or_len is_line_feed bytes →
    IsFirstByte (is_byte 10) (slice_range bytes from (length bytes)) None →
    position_or_len is_line_feed bytes ≡ length bytes
line_feed_none bytes from within none searched =
    let nowhere = subst (λ (x : List ℕ). IsFirstByte (is_byte 10) x None) (tail_is bytes from) searched in
    position_or_len_is is_line_feed bytes (length bytes) 0 (omega arith)
    (λ k lt.
    elim (cases_lt k from) [
      | inl less ↦ fails_before_first is_line_feed bytes k 0 (omega arith)
      | inr ge ↦ fails_behind bytes from k ge (nowhere (k - from) (omega arith) (omega (arith, length-drop from bytes)))
    ])
    (λ lt. absurd (omega arith))

pub length-bytes_in : (bytes : List ℕ) (start end : ℕ) → start ≤ end → end ≤ length bytes → length (take (end - start) (drop start bytes)) ≡ end - start
length-bytes_in bytes start end le within = omega (arith, length-take (end - start) (drop start bytes), length-drop start bytes)

-- a buffer from the start on is the bytes of the span and what stands behind
split_span : (bytes rest : List ℕ) (start end : ℕ) → start ≤ end → end ≤ length bytes → drop start (take end bytes ++ rest) ≡ take (end - start) (drop start bytes) ++ rest
split_span bytes rest start end le within =
    let len : length (take end bytes) ≡ end = length-take-le end bytes within in
    let sum : start + (end - start) ≡ end = omega arith in
    drop-append-le start (take end bytes) rest (omega (arith, len))
    ∙ ap (λ (x : List ℕ). x ++ rest) (ap (λ (n : ℕ). drop start (take n bytes)) (sym sum) ∙ drop-take start (end - start) bytes)

-- what stands before the end is kept by a write behind it
pub kept_before : (bytes out : List ℕ) (k start end : ℕ) → start ≤ end → end ≤ length bytes →
    take (end - start) (drop start (put_mid end k bytes out)) ≡ take (end - start) (drop start bytes)
kept_before bytes out k start end le within =
    ap (take (end - start)) (split_span bytes (out ++ post_of end k bytes) start end le within)
    ∙ take_at (take (end - start) (drop start bytes)) (out ++ post_of end k bytes) (end - start) (length-bytes_in bytes start end le within)

pub read_on : (bytes out : List ℕ) (k start end n : ℕ) (l : List ℕ) (later : Option (List ℕ)) → start ≤ end → end ≤ length bytes → n ≤ length out → ReadsFront l later n out →
    Rest (take (end + n - start) (drop start (put_mid end k bytes out))) later (take (end - start) (drop start bytes) ++ l)
read_on bytes out k start end n l later le within short p =
    let A = take (end - start) (drop start bytes) in
    let len : length A ≡ end - start = length-bytes_in bytes start end le within in
    let count : end + n - start ≡ length A + n = omega (arith, len) in
    let total : take (end + n - start) (drop start (put_mid end k bytes out)) ≡ A ++ take n l =
    ap (take (end + n - start)) (split_span bytes (out ++ post_of end k bytes) start end le within)
    ∙ ap (λ (m : ℕ). take m (A ++ (out ++ post_of end k bytes))) count
    ∙ take-append-add A (out ++ post_of end k bytes) n
    ∙ ap (λ (x : List ℕ). A ++ x) (take-append-le n out (post_of end k bytes) short ∙ p.front) in
    subst (λ (o : Option (List ℕ)). Rest (take (end + n - start) (drop start (put_mid end k bytes out))) o (A ++ l)) (sym p.rest)
    (ap (λ (x : List ℕ). x ++ drop n l) total ∙ append_assoc A (take n l) (drop n l) ∙ ap (λ (x : List ℕ). A ++ x) (take-append-drop n l))

-- ---- lines of what is held and left

pub pos_found : (xs ys : List ℕ) (i : ℕ) → position_or_len is_line_feed xs ≡ i → i < length xs → position_or_len is_line_feed (xs ++ ys) ≡ i
pos_found xs ys i e lt =
    let d : eqb (position_or_len is_line_feed xs) (length xs) ≡ false = grind (arith, nat_tests) in
    prefix_len-append (λ b. not (is_line_feed b)) xs ys ∙ rw d e

pub pos_none : (xs ys : List ℕ) → position_or_len is_line_feed xs ≡ length xs → position_or_len is_line_feed (xs ++ ys) ≡ length xs + position_or_len is_line_feed ys
pos_none xs ys e =
    let d : eqb (position_or_len is_line_feed xs) (length xs) ≡ true = eq-eqb _ _ e in
    prefix_len-append (λ b. not (is_line_feed b)) xs ys ∙ rw d refl

-- a longer span begins with the shorter one
longer_is : (bytes : List ℕ) (start end more : ℕ) → start ≤ end → end ≤ more → more ≤ length bytes →
    take (more - start) (drop start bytes) ≡ take (end - start) (drop start bytes) ++ drop (end - start) (take (more - start) (drop start bytes))
longer_is bytes start end more le longer within =
    sym (take-append-drop (end - start) (take (more - start) (drop start bytes)))
    ∙ ap (λ (x : List ℕ). x ++ drop (end - start) (take (more - start) (drop start bytes))) (take-take (end - start) (more - start) (drop start bytes) (omega arith))

-- no line feed in what was held: the search goes on behind it
pub scanned_on : (old new : List ℕ) (a b more start scanned : ℕ) → a ≤ b → b ≤ more → more ≤ length new → take (b - a) (drop a new) ≡ old → position_or_len is_line_feed old ≡ length old →
    scanned ≡ b - a → start ≡ a → scanned ≤ position_or_len is_line_feed (take (more - start) (drop start new))
scanned_on old new a b more start scanned le longer fits same none count at =
    let len : length old ≡ b - a = ap length (sym same) ∙ length-bytes_in new a b le (omega arith) in
    let whole : take (more - a) (drop a new) ≡ old ++ drop (b - a) (take (more - a) (drop a new)) = longer_is new a b more le longer fits ∙ ap (λ (x : List ℕ). x ++ drop (b - a) (take (more - a) (drop a new))) same in
    let p = pos_none old (drop (b - a) (take (more - a) (drop a new))) none in
    rw at (omega (arith, ap (position_or_len is_line_feed) whole, p, len, count))

pub rest_on : (old new : List ℕ) (now later : Option (List ℕ)) (all same : List ℕ) → same ≡ old → Rest old now all → IfSome now (λ l. Rest new later (same ++ l)) → Rest new later all
rest_on old new None later all same e rest more = absurd rest
rest_on old new (Some l) later all same e rest more = subst (λ (x : List ℕ). Rest new later x) (ap (λ (x : List ℕ). x ++ l) e ∙ rest) more

pub found_told : (buffer : List ℕ) (start end i limit : ℕ) (left : Option (List ℕ)) (all : List ℕ) → start ≤ end → end ≤ length buffer → end - start ≤ limit + 1 →
    position_or_len is_line_feed (take (end - start) (drop start buffer)) ≡ i → i < length (take (end - start) (drop start buffer)) → Rest (take (end - start) (drop start buffer)) left all →
    (0 < length all) × (take (start + i - start) (drop start buffer) ≡ first_line all) × (length (first_line all) ≤ limit) × Rest (take (end - (start + (i + 1))) (drop (start + (i + 1)) buffer)) left (behind_line all)
found_told buffer start end i limit None all le within short pos lt rest = absurd rest
found_told buffer start end i limit (Some l) all le within short pos lt rest =
    let H = take (end - start) (drop start buffer) in
    let len : length H ≡ end - start = length-bytes_in buffer start end le within in
    let p : position_or_len is_line_feed all ≡ i = ap (position_or_len is_line_feed) (sym rest) ∙ pos_found H l i pos lt in
    let front : first_line all ≡ take i H = ap (λ (n : ℕ). take n all) p ∙ ap (take i) (sym rest) ∙ take-append-le i H l (omega arith) in
    let behind : behind_line all ≡ drop (i + 1) H ++ l = ap (λ (n : ℕ). drop (n + 1) all) p ∙ ap (drop (i + 1)) (sym rest) ∙ drop-append-le (i + 1) H l (omega arith) in
    let line : take (start + i - start) (drop start buffer) ≡ take i H =
    let n : start + i - start ≡ i = omega arith in
    ap (λ (m : ℕ). take m (drop start buffer)) n ∙ sym (take-take i (end - start) (drop start buffer) (omega (arith, len))) in
    let held : take (end - (start + (i + 1))) (drop (start + (i + 1)) buffer) ≡ drop (i + 1) H =
    let m : i + 1 + (end - (start + (i + 1))) ≡ end - start = omega (arith, len) in
    ap (take (end - (start + (i + 1)))) (sym (drop-drop (i + 1) start buffer))
    ∙ sym (drop-take (i + 1) (end - (start + (i + 1))) (drop start buffer))
    ∙ ap (λ (n : ℕ). drop (i + 1) (take n (drop start buffer))) m in (
      omega (arith, ap length (sym rest), length-append H l, lt),
      line ∙ sym front,
      omega (arith, ap length front, length-take-le i H (omega arith), len, short, lt),
      ap (λ (x : List ℕ). x ++ l) held ∙ sym behind,
    )

pub long_told : (held : List ℕ) (limit : ℕ) (left : Option (List ℕ)) (all : List ℕ) → position_or_len is_line_feed held ≡ length held → length held ≡ limit + 1 → Rest held left all → limit < length (first_line all)
long_told held limit None all none len rest = absurd rest
long_told held limit (Some l) all none len rest =
    let p = pos_none held l none in
    let q = ap (position_or_len is_line_feed) (sym rest) ∙ p in
    omega (arith, length-take (position_or_len is_line_feed all) all, q, len, ap length (sym rest), length-append held l)

pub found_taken : (held : List ℕ) (start i : ℕ) (left : Option (List ℕ)) (all : List ℕ) → position_or_len is_line_feed held ≡ i → i < length held → Rest held left all →
    start + (i + 1) - start + length (behind_line all) ≡ length all
found_taken held start i None all pos lt rest = absurd rest
found_taken held start i (Some l) all pos lt rest =
    let p : position_or_len is_line_feed all ≡ i = ap (position_or_len is_line_feed) (sym rest) ∙ pos_found held l i pos lt in
    omega (arith, length-drop (position_or_len is_line_feed all + 1) all, p, ap length (sym rest), length-append held l)

-- what is held was taken
pub held_taken : (held : List ℕ) (size : ℕ) (left : Option (List ℕ)) (all : List ℕ) → length held ≤ size → Rest held left all → TakesAtMost size all left
held_taken held size None all short rest = absurd rest
held_taken held size (Some l) all short rest = record { taken = held; rest = l; bytes_are = rest; left_is = refl; at_most = short }

-- and nothing else, at the end of the source
pub held_taken-end : (held : List ℕ) (size : ℕ) (left later : Option (List ℕ)) (all : List ℕ) →
    length held ≤ size →
    Rest held left all →
    IfSome left (λ l. (l ≡ []) × (later ≡ Some [])) →
    TakesAtMost size all later
held_taken-end held size None later all short rest end = absurd rest
held_taken-end held size (Some l) later all short rest end =
    record { taken = held; rest = l; bytes_are = rest; left_is = end.1 ∙ ap Some (sym end.0); at_most = short }
