-- Reads of a source, one after the other.
use Rattle.std.proofs.Common.{◌≡◌, ℕ, zero, suc, ◌+◌, ◌-◌, ◌^◌, ◌<◌, ◌≤◌, Bool, true, false, cond, ltb, List, [], ◌∷◌, ◌++◌, length, take, drop, Option, Some, None, Result, Ok, Err, refl, sym, ap, subst, ◌∙◌, arith, inl, inr}
use Rattle.std.specs.Prelude.{IfSome}
use Rattle.std.proofs.Math.Seq.{take-add, take-append-add}
use Rattle.std.proofs.lemmas.Bool.{cases_lt}
use Rattle.std.proofs.lemmas.Bool.Decides.{nat_tests}
use Rattle.std.proofs.lemmas.List.{length-take, length-drop, take-append-le, drop-drop, drop_all, take_all}
use borrow.Rule.Slice.PartMut.{put_mid, post_of}
use Rattle.ftp_base.specs.declared.fault.LinkFault.{LinkFault}
use Rattle.ftp_base.specs.Calls.{Calls}
use Rattle.ftp_base.specs.Outside.{Sending, ReadsFront}
use Rattle.ftp_base.proofs.CallsMade.{AllWell-more, LinkMet-more}
use Rattle.ftp_base.proofs.KeptLemmas.{OnlyReads-more}
use Rattle.ftp_proxy.specs.declared.v2_error.Proxy2Error.{Proxy2Error}
use Rattle.ftp_proxy.specs.declared.v2_error.Proxy2Error.TheVariants as error
use Rattle.ftp_proxy.specs.Reading.{mapped, IsPart, IsBytes, ReadsWell, ReadsToFault, IsRefused, Filling, FillsAll, made, ReadsAll, Reads}
use Rattle.ftp_proxy.proofs.FieldsReading.{fine, fine_is}

-- what holds of an option's value
pub IfSome_by : {A : Type 0} (P : A → Type 0) (o : Option A) → ((x : A) → o ≡ Some x → P x) → IfSome o P
IfSome_by P None f = tt
IfSome_by P (Some x) f = f x refl

-- ---- what reads do to a source

-- all went well, and goes on so
pub ReadsWell-more : {S : Type 0} {sending : S → Sending} {faults limit : S → ℕ} {calls : S → Option (Calls (ℕ × LinkFault))} {a b c : S} →
    ReadsWell sending faults limit calls a b →
    ReadsWell sending faults limit calls b c →
    ReadsWell sending faults limit calls a c
ReadsWell-more first next = record {
  last_fault = next.last_fault ∙ first.last_fault;
  unlisted = AllWell-more (λ (call : ℕ × LinkFault). call.0) _ _ _ first.unlisted next.unlisted;
  only_reads = OnlyReads-more first.only_reads next.only_reads;
}

-- all went well, and then a read failed
pub ReadsToFault-more : {S : Type 0} {sending : S → Sending} {faults limit : S → ℕ} {calls : S → Option (Calls (ℕ × LinkFault))} {is_link : Bool} {a b c : S} →
    ReadsWell sending faults limit calls a b →
    ReadsToFault sending faults limit calls is_link b c →
    ReadsToFault sending faults limit calls is_link a c
ReadsToFault-more {faults = faults} {b = b} first next = record {
  met = next.met;
  as_listed = LinkMet-more _ _ _ _ first.unlisted next.as_listed;
  fault_rose = λ below.
      let f = first.only_reads.counts.count in
      let n = next.only_reads.counts.count in
      elim (cases_lt (faults b) (2 ^ 64 - 1)) [
        | inl lt ↦ let r = next.fault_rose lt in omega (arith, f, r)
        | inr le ↦ omega (arith, f, n, le)
      ];
  only_reads = OnlyReads-more first.only_reads next.only_reads;
}

-- all went well, and then an error came
pub IsRefused-more : {S : Type 0} {sending : S → Sending} {faults limit : S → ℕ} {calls : S → Option (Calls (ℕ × LinkFault))} {a b : S} (is_link : Bool) (c : S) (e : Proxy2Error) →
    ReadsWell sending faults limit calls a b →
    IsRefused sending faults limit calls is_link b c e →
    IsRefused sending faults limit calls is_link a c e
IsRefused-more is_link c error.Fault first next = ReadsToFault-more first next
IsRefused-more is_link c _ first next = ReadsWell-more first next

-- ---- a buffer

pub IsBytes-append : (a b : List ℕ) → IsBytes a → IsBytes b → IsBytes (a ++ b)
IsBytes-append [] b p q i = q i
IsBytes-append (x ∷ a) b p q zero = p 0
IsBytes-append (x ∷ a) b p q (suc i) = IsBytes-append a b (λ k. p (suc k)) q i

-- the front of a list that was written over from a place on
pub front_more : (all out slice : List ℕ) (at n k : ℕ) → at ≤ length out → n ≤ length slice →
    take at out ≡ take at all → take n slice ≡ take n (drop at all) →
    take (at + n) (put_mid at k out slice) ≡ take (at + n) all
front_more all out slice at n k le short front next =
    let at_is : length (take at out) ≡ at = omega (arith, length-take at out) in
    ap (λ (m : ℕ). take (m + n) (take at out ++ (slice ++ post_of at k out))) (sym at_is)
    ∙ take-append-add (take at out) (slice ++ post_of at k out) n
    ∙ ap (λ (x : List ℕ). take at out ++ x) (take-append-le n slice (post_of at k out) short ∙ next)
    ∙ ap (λ (x : List ℕ). x ++ take n (drop at all)) front
    ∙ sym (take-add at n all)

pub fill_begun : (all out : List ℕ) → Filling all out 0 (Some all)
fill_begun all out = record { within = omega arith; front = refl; rest = refl }

-- what a read of the rest says of all
read_at : (all : List ℕ) (at n : ℕ) (now later : Option (List ℕ)) (slice : List ℕ) → now ≡ Some (drop at all) →
    IfSome now (λ l. ReadsFront l later n slice) → ReadsFront (drop at all) later n slice
read_at all at n now later slice is r = subst (λ (o : Option (List ℕ)). IfSome o (λ l. ReadsFront l later n slice)) is r

pub fill_more : (all out slice : List ℕ) (at n k : ℕ) (now later : Option (List ℕ)) →
    Filling all out at now → at ≤ length out → n ≤ length slice →
    IfSome now (λ l. ReadsFront l later n slice) →
    Filling all (put_mid at k out slice) (at + n) later
fill_more all out slice at n k now later f le short read =
    let r = read_at all at n now later slice f.rest read in record {
      within = omega (arith, r.within, length-drop at all, f.within);
      front = front_more all out slice at n k le short f.front r.front;
      rest = r.rest ∙ ap Some (drop-drop n at all);
    }

-- nothing is left, and the buffer has room
pub fill_ended : (all out slice : List ℕ) (at n : ℕ) (now later : Option (List ℕ)) →
    Filling all out at now → at < length out → length slice ≡ length out - at → n ≡ 0 →
    IfSome now (λ l. ReadsFront l later n slice) →
    (length all < length out) × (later ≡ Some [])
fill_ended all out slice at n now later f lt room none read =
    let r = read_at all at n now later slice f.rest read in
    let nil = r.end (omega arith) none in
    (omega (arith, ap length nil, length-drop at all), r.rest ∙ ap Some (ap (drop n) nil ∙ drop_all n [] (omega arith)))

-- all of the buffer is filled
pub fill_all : (all out : List ℕ) (at : ℕ) (now : Option (List ℕ)) → Filling all out at now → at ≤ length out → length out ≤ at →
    IsBytes out → FillsAll all out now
fill_all all out at now f le ge small =
    let full : at ≡ length out = omega arith in
    let whole : take (length out) out ≡ out = take_all (length out) out (omega arith) in
    record {
      within = subst (λ (m : ℕ). m ≤ length all) full f.within;
      front = sym whole ∙ subst (λ (m : ℕ). take m out ≡ take m all) full f.front;
      rest = f.rest ∙ ap (λ (m : ℕ). Some (drop m all)) full;
      are_bytes = small;
    }

-- ---- what is made of so many bytes

-- bytes that were read
pub made_fine : (n : ℕ) (bytes x : List ℕ) → fine x ≡ made n fine bytes → (n ≤ length bytes) × (x ≡ take n bytes)
made_fine n bytes x e = by (ltb (length bytes) n) refl where
  by : (b : Bool) → ltb (length bytes) n ≡ b → (n ≤ length bytes) × (x ≡ take n bytes)
  by true h = let s : fine x ≡ cond true (Err error.UnexpectedEof) (fine (take n bytes)) = e ∙ ap (λ (b : Bool). cond b (Err error.UnexpectedEof) (fine (take n bytes))) h in absurd cc
  by false h =
      let s : fine x ≡ cond false (Err error.UnexpectedEof) (fine (take n bytes)) = e ∙ ap (λ (b : Bool). cond b (Err error.UnexpectedEof) (fine (take n bytes))) h in
      (grind (arith, nat_tests), fine_is x (take n bytes) s)

abbrev refused : Proxy2Error → Result (List ℕ) Proxy2Error
refused e = Err e

-- bytes that were not
made_refused : (n : ℕ) (bytes : List ℕ) (e : Proxy2Error) → refused e ≡ made n fine bytes → (e ≡ error.UnexpectedEof) × (length bytes < n)
made_refused n bytes d e = by (ltb (length bytes) n) refl where
  by : (b : Bool) → ltb (length bytes) n ≡ b → (d ≡ error.UnexpectedEof) × (length bytes < n)
  by true h =
      let s : refused d ≡ cond true (Err error.UnexpectedEof) (fine (take n bytes)) = e ∙ ap (λ (b : Bool). cond b (Err error.UnexpectedEof) (fine (take n bytes))) h in
      (cc, grind (arith, nat_tests))
  by false h = let s : refused d ≡ cond false (Err error.UnexpectedEof) (fine (take n bytes)) = e ∙ ap (λ (b : Bool). cond b (Err error.UnexpectedEof) (fine (take n bytes))) h in absurd cc

-- too few bytes
pub made_short : {A : Type 0} (n : ℕ) (make : List ℕ → Result A Proxy2Error) (bytes : List ℕ) → length bytes < n → made n make bytes ≡ Err error.UnexpectedEof
made_short n make bytes lt =
    let h : ltb (length bytes) n ≡ true = grind (arith, nat_tests) in
    ap (λ (b : Bool). cond b (Err error.UnexpectedEof) (make (take n bytes))) h

-- enough bytes
pub made_long : {A : Type 0} (n : ℕ) (make : List ℕ → Result A Proxy2Error) (bytes : List ℕ) → n ≤ length bytes → made n make bytes ≡ make (take n bytes)
made_long n make bytes le =
    let h : ltb (length bytes) n ≡ false = grind (arith, nat_tests) in
    ap (λ (b : Bool). cond b (Err error.UnexpectedEof) (make (take n bytes))) h

ended : {A : Type 0} (n m : ℕ) (make : List ℕ → Result A Proxy2Error) (bytes : List ℕ) (left : Option (List ℕ)) → n ≤ m → length bytes < n → left ≡ Some (drop n bytes) →
    ReadsAll m make bytes (Err error.UnexpectedEof) left
ended n m make bytes left le lt rest = record {
  answer_is = sym (made_short m make bytes (omega arith));
  rest = rest ∙ ap Some (drop_all n bytes (omega arith) ∙ sym (drop_all m bytes (omega arith)));
  are_bytes = λ long. absurd (omega arith);
}

-- the first of several reads was refused
pub reads_refused : {A : Type 0} (n m : ℕ) (make : List ℕ → Result A Proxy2Error) (bytes : List ℕ) (e : Proxy2Error) (left : Option (List ℕ)) → n ≤ m →
    Reads n fine bytes (Err e) left → Reads m make bytes (Err e) left
reads_refused n m make bytes error.Fault left le r = (r.0, omega (arith, r.1), r.2)
reads_refused n m make bytes error.OutOfMemory left le r = (r.0, omega (arith, r.1), r.2)
reads_refused n m make bytes error.UnexpectedEof left le r = ended n m make bytes left le (made_refused n bytes error.UnexpectedEof r.answer_is).1 r.rest
reads_refused n m make bytes (error.NotSignature x) left le r = let q = (made_refused n bytes (error.NotSignature x) r.answer_is).0 in absurd cc
reads_refused n m make bytes (error.BadVersion x) left le r = let q = (made_refused n bytes (error.BadVersion x) r.answer_is).0 in absurd cc
reads_refused n m make bytes (error.BadFamily x) left le r = let q = (made_refused n bytes (error.BadFamily x) r.answer_is).0 in absurd cc
reads_refused n m make bytes (error.ShortBlock x y) left le r = let q = (made_refused n bytes (error.ShortBlock x y) r.answer_is).0 in absurd cc
reads_refused n m make bytes (error.BadField x) left le r = let q = (made_refused n bytes (error.BadField x) r.answer_is).0 in absurd cc

pub reads_refused_in : {A : Type 0} (n m : ℕ) (make : List ℕ → Result A Proxy2Error) (now : Option (List ℕ)) (e : Proxy2Error) (left : Option (List ℕ)) → n ≤ m →
    IfSome now (λ l. Reads n fine l (Err e) left) → IfSome now (λ l. Reads m make l (Err e) left)
reads_refused_in n m make None e left le r = tt
reads_refused_in n m make (Some l) e left le r = reads_refused n m make l e left le r

-- so many bytes, and then so many more
record Joins {A B : Type 0} (n m all : ℕ) (bytes x : List ℕ) (make2 : List ℕ → Result A Proxy2Error) (make : List ℕ → Result B Proxy2Error) (f : A → B) : Type 0 where
  pub sum : all ≡ n + m
  pub within : n ≤ length bytes
  pub first : x ≡ take n bytes
  pub small : IsBytes (take n bytes)
  pub same : (y : List ℕ) → make (take n bytes ++ y) ≡ mapped f (make2 y)

made_then : {A B : Type 0} (n m all : ℕ) (bytes x : List ℕ) (make2 : List ℕ → Result A Proxy2Error) (make : List ℕ → Result B Proxy2Error) (f : A → B) →
    Joins n m all bytes x make2 make f → mapped f (made m make2 (drop n bytes)) ≡ made all make bytes
made_then n m all bytes x make2 make f j = by (ltb (length (drop n bytes)) m) refl where
  by : (b : Bool) → ltb (length (drop n bytes)) m ≡ b → mapped f (made m make2 (drop n bytes)) ≡ made all make bytes
  by true h =
      let lt : length (drop n bytes) < m = grind (arith, nat_tests) in
      ap (mapped f) (made_short m make2 (drop n bytes) lt) ∙ sym (made_short all make bytes (omega (arith, length-drop n bytes, j.sum, j.within)))
  by false h =
      let le : m ≤ length (drop n bytes) = grind (arith, nat_tests) in
      ap (mapped f) (made_long m make2 (drop n bytes) le)
      ∙ sym (j.same (take m (drop n bytes)))
      ∙ ap make (sym (take-add n m bytes) ∙ ap (λ (k : ℕ). take k bytes) (sym j.sum))
      ∙ sym (made_long all make bytes (omega (arith, length-drop n bytes, j.sum, j.within)))

joined : {A B : Type 0} (n m all : ℕ) (bytes x : List ℕ) (make2 : List ℕ → Result A Proxy2Error) (make : List ℕ → Result B Proxy2Error) (f : A → B) (r : Result A Proxy2Error) (left : Option (List ℕ)) →
    Joins n m all bytes x make2 make f → ReadsAll m make2 (drop n bytes) r left → ReadsAll all make bytes (mapped f r) left
joined n m all bytes x make2 make f r left j next = record {
  answer_is = ap (mapped f) next.answer_is ∙ made_then n m all bytes x make2 make f j;
  rest = next.rest ∙ ap Some (drop-drop m n bytes ∙ ap (λ (k : ℕ). drop k bytes) (sym j.sum));
  are_bytes = λ long.
      subst IsBytes (sym (take-add n m bytes) ∙ ap (λ (k : ℕ). take k bytes) (sym j.sum))
      (IsBytes-append (take n bytes) (take m (drop n bytes)) j.small (next.are_bytes (omega (arith, length-drop n bytes, j.sum))));
}

joined_refused : {A B : Type 0} (n m all : ℕ) (bytes x : List ℕ) (make2 : List ℕ → Result A Proxy2Error) (make : List ℕ → Result B Proxy2Error) (f : A → B) (e : Proxy2Error) (left : Option (List ℕ)) →
    Joins n m all bytes x make2 make f → Reads m make2 (drop n bytes) (Err e) left → Reads all make bytes (Err e) left
joined_refused n m all bytes x make2 make f error.Fault left j r = (n + r.0, omega (arith, r.1, j.sum), r.2 ∙ ap Some (drop-drop r.0 n bytes))
joined_refused n m all bytes x make2 make f error.OutOfMemory left j r = (n + r.0, omega (arith, r.1, j.sum), r.2 ∙ ap Some (drop-drop r.0 n bytes))
joined_refused n m all bytes x make2 make f error.UnexpectedEof left j r = joined n m all bytes x make2 make f (Err error.UnexpectedEof) left j r
joined_refused n m all bytes x make2 make f (error.NotSignature a) left j r = joined n m all bytes x make2 make f (Err (error.NotSignature a)) left j r
joined_refused n m all bytes x make2 make f (error.BadVersion a) left j r = joined n m all bytes x make2 make f (Err (error.BadVersion a)) left j r
joined_refused n m all bytes x make2 make f (error.BadFamily a) left j r = joined n m all bytes x make2 make f (Err (error.BadFamily a)) left j r
joined_refused n m all bytes x make2 make f (error.ShortBlock a b) left j r = joined n m all bytes x make2 make f (Err (error.ShortBlock a b)) left j r
joined_refused n m all bytes x make2 make f (error.BadField a) left j r = joined n m all bytes x make2 make f (Err (error.BadField a)) left j r

joins : {A B : Type 0} (n m all : ℕ) (bytes x : List ℕ) (mid : Option (List ℕ)) (make2 : List ℕ → Result A Proxy2Error) (make : List ℕ → Result B Proxy2Error) (f : A → B) →
    all ≡ n + m → ReadsAll n fine bytes (Ok x) mid → (length x ≡ n → (y : List ℕ) → make (x ++ y) ≡ mapped f (make2 y)) →
    Joins n m all bytes x make2 make f
joins n m all bytes x mid make2 make f sum first same =
    let q = made_fine n bytes x first.answer_is in record {
      sum = sum;
      within = q.0;
      first = q.1;
      small = first.are_bytes q.0;
      same = λ y. subst (λ (z : List ℕ). make (z ++ y) ≡ mapped f (make2 y)) q.1 (same (ap length q.1 ∙ omega (arith, length-take n bytes, q.0)) y);
    }

-- so many bytes were read, and then so many more were not
pub reads_then_refused : {A B : Type 0} (n m all : ℕ) (bytes x : List ℕ) (mid left : Option (List ℕ)) (make2 : List ℕ → Result A Proxy2Error) (make : List ℕ → Result B Proxy2Error) (f : A → B) (e : Proxy2Error) →
    all ≡ n + m → ReadsAll n fine bytes (Ok x) mid → (length x ≡ n → (y : List ℕ) → make (x ++ y) ≡ mapped f (make2 y)) →
    IfSome mid (λ l. Reads m make2 l (Err e) left) → Reads all make bytes (Err e) left
reads_then_refused n m all bytes x mid left make2 make f e sum first same next =
    joined_refused n m all bytes x make2 make f e left (joins n m all bytes x mid make2 make f sum first same)
    (subst (λ (o : Option (List ℕ)). IfSome o (λ l. Reads m make2 l (Err e) left)) first.rest next)

-- so many bytes were read, and then so many more
pub reads_then : {A B : Type 0} (n m all : ℕ) (bytes x : List ℕ) (mid left : Option (List ℕ)) (make2 : List ℕ → Result A Proxy2Error) (make : List ℕ → Result B Proxy2Error) (f : A → B) (y : A) →
    all ≡ n + m → ReadsAll n fine bytes (Ok x) mid → (length x ≡ n → (y : List ℕ) → make (x ++ y) ≡ mapped f (make2 y)) →
    IfSome mid (λ l. ReadsAll m make2 l (Ok y) left) → ReadsAll all make bytes (Ok (f y)) left
reads_then n m all bytes x mid left make2 make f y sum first same next =
    joined n m all bytes x make2 make f (Ok y) left (joins n m all bytes x mid make2 make f sum first same)
    (subst (λ (o : Option (List ℕ)). IfSome o (λ l. ReadsAll m make2 l (Ok y) left)) first.rest next)

-- memory ran out behind the last read
pub reads_no_memory : {A : Type 0} (n : ℕ) (make : List ℕ → Result A Proxy2Error) (bytes : List ℕ) (answer : Result A Proxy2Error) (left : Option (List ℕ)) →
    ReadsAll n make bytes answer left → IsPart n bytes left
reads_no_memory n make bytes answer left r = (n, omega arith, r.rest)

-- the same is made of as many bytes
pub reads_as : {A : Type 0} (n m : ℕ) (make other : List ℕ → Result A Proxy2Error) (bytes : List ℕ) (answer : Result A Proxy2Error) (left : Option (List ℕ)) →
    n ≡ m → ((x : List ℕ) → make x ≡ other x) → Reads n make bytes answer left → Reads m other bytes answer left
reads_as {A} n m make other bytes answer left size same r =
    let all : make ≡ other = λ i x. same x i in
    subst (λ (k : ℕ). Reads k other bytes answer left) size (subst (λ (f : List ℕ → Result A Proxy2Error). Reads n f bytes answer left) all r)

-- an error that is no fault
pub IsRefused-well : {S : Type 0} {sending : S → Sending} {faults limit : S → ℕ} {calls : S → Option (Calls (ℕ × LinkFault))} {a b : S} (is_link : Bool) (e : Proxy2Error) →
    (e ≡ error.Fault → ⊥) → ReadsWell sending faults limit calls a b → IsRefused sending faults limit calls is_link a b e
IsRefused-well is_link error.Fault other well = absurd (other refl)
IsRefused-well is_link _ other well = well
