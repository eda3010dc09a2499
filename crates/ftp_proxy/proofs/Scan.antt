-- Bytes that were read one by one, of which none is a line feed.
use Rattle.std.proofs.Common.{◌≡◌, ℕ, ◌+◌, ◌-◌, ◌<◌, ◌≤◌, Bool, true, false, cond, ltb, eqb, lt-ltb, List, [], ◌∷◌, ◌++◌, length, get_or, take, drop, Option, Some, None, refl, sym, ap, subst, ◌∙◌, arith}
use Rattle.std.specs.Prelude.{◌==◌, IfSome}
use Rattle.std.proofs.Math.ListN.{set}
use Rattle.std.specs.List.{position_or_len}
use Rattle.std.proofs.lemmas.Bool.Decides.{nat_tests}
use Rattle.std.proofs.lemmas.List.{length-take, length-drop, get_or-take, get_or-drop, drop-drop, take_more, take_more_set, take-set}
use Rattle.std.proofs.lemmas.List.Sums.{position_or_len_is}
use Rattle.std.proofs.lemmas.List.Quantifiers.{position-Some}
use Rattle.ftp_proxy.specs.Line.{line_feed, taken_len, untaken, IsLine, IsCutShort, IsFront, IsNext}

-- so many bytes were taken to the front of the buffer, and none of them is a line feed
pub record Scanned (all buffer : List ℕ) (i : ℕ) (left : Option (List ℕ)) : Type 0 where
  pub within : i ≤ length all
  pub front : take i buffer ≡ take i all
  pub none : (k : ℕ) → k < i → (get_or all k 0 == 10) ≡ false
  pub rest : left ≡ Some (drop i all)

-- where the first line feed is, by what stands before it
feed_at : (all : List ℕ) (i : ℕ) →
    i < length all →
    i < 108 →
    ((k : ℕ) → k < i → (get_or all k 0 == 10) ≡ false) →
    (get_or all i 0 == 10) ≡ true →
    line_feed all ≡ Some i
feed_at all i within below none found =
    let len : i < length (take 108 all) = omega (arith, length-take 108 all) in
    let at : position_or_len (λ b. b == 10) (take 108 all) ≡ i =
    position_or_len_is (λ b. b == 10) (take 108 all) i 0 (omega arith)
    (λ k lt. ap (λ (b : ℕ). b == 10) (get_or-take 108 all k 0 (omega arith)) ∙ none k lt)
    (λ inside. ap (λ (b : ℕ). b == 10) (get_or-take 108 all i 0 below) ∙ found) in
    let before : ltb i (length (take 108 all)) ≡ true = lt-ltb i (length (take 108 all)) len in
    ap (λ (n : ℕ). cond (ltb n (length (take 108 all))) (Some n) None) at ∙ ap (λ (b : Bool). cond b (Some i) None) before

-- no line feed is among the bytes that are looked at
feed_none : (all : List ℕ) → ((k : ℕ) → k < length (take 108 all) → (get_or all k 0 == 10) ≡ false) → line_feed all ≡ None
feed_none all none =
    let len = length-take 108 all in
    let at : position_or_len (λ b. b == 10) (take 108 all) ≡ length (take 108 all) =
    position_or_len_is (λ b. b == 10) (take 108 all) (length (take 108 all)) 0 (omega arith)
    (λ k lt. ap (λ (b : ℕ). b == 10) (get_or-take 108 all k 0 (omega arith)) ∙ none k lt)
    (λ inside. absurd (omega arith)) in
    let not_before : ltb (length (take 108 all)) (length (take 108 all)) ≡ false = grind (arith, nat_tests) in
    ap (λ (n : ℕ). cond (ltb n (length (take 108 all))) (Some n) None) at
    ∙ ap (λ (b : Bool). cond b (Some (length (take 108 all))) None) not_before

-- nothing was read
pub scan_begun : (all buffer : List ℕ) → Scanned all buffer 0 (Some all)
scan_begun all buffer = record { within = omega arith; front = refl; none = λ k lt. absurd (omega arith); rest = refl }

-- the next byte, and what is left behind it
pub next_is : (all : List ℕ) (i byte : ℕ) (rest : List ℕ) → drop i all ≡ byte ∷ rest →
    (i < length all) × (get_or all i 0 ≡ byte) × (rest ≡ drop (i + 1) all)
next_is all i byte rest e =
    let len : length all - i ≡ length rest + 1 = sym (length-drop i all) ∙ ap length e ∙ omega arith in (
      omega arith,
      ap (λ (n : ℕ). get_or all n 0) (omega arith) ∙ sym (get_or-drop i all 0 0) ∙ ap (λ (x : List ℕ). get_or x 0 0) e,
      ap (drop 1) (sym e) ∙ drop-drop 1 i all,
    )

-- what a read of the next byte says of all bytes
next_at : (all buffer : List ℕ) (i : ℕ) (now later : Option (List ℕ)) (read byte : Option ℕ) →
    Scanned all buffer i now →
    IfSome now (λ l. IsNext l read later) →
    read ≡ byte →
    IsNext (drop i all) byte later
next_at all buffer i now later read byte s next is =
    subst (λ (b : Option ℕ). IsNext (drop i all) b later) is
    (subst (λ (l : Option (List ℕ)). IfSome l (λ x. IsNext x read later)) s.rest next)

-- a byte more that is no line feed
pub scan_more : (all buffer : List ℕ) (i byte : ℕ) (now later : Option (List ℕ)) (read : Option ℕ) →
    Scanned all buffer i now →
    i < length buffer →
    IfSome now (λ l. IsNext l read later) →
    read ≡ Some byte →
    (byte == 10) ≡ false →
    Scanned all (set buffer i byte) (i + 1) later
scan_more all buffer i byte now later read s room next is other =
    let at = next_at all buffer i now later read (Some byte) s next is in
    let n = next_is all i byte at.0 at.1 in record {
      within = omega (arith, n.0);
      front = take_more_set buffer i byte room ∙ ap (λ (x : List ℕ). x ++ byte ∷ []) s.front ∙ ap (λ (b : ℕ). take i all ++ b ∷ []) (sym n.1) ∙ sym (take_more all i 0 n.0);
      none = λ k lt. by k lt (eqb k i) refl;
      rest = at.2 ∙ ap Some n.2;
    } where
      byte_is : get_or all i 0 ≡ byte
      byte_is = let at = next_at all buffer i now later read (Some byte) s next is in (next_is all i byte at.0 at.1).1

      by : (k : ℕ) → k < i + 1 → (b : Bool) → eqb k i ≡ b → (get_or all k 0 == 10) ≡ false
      by k lt true same =
          let here : k ≡ i = grind (arith, nat_tests) in
          ap (λ (n : ℕ). get_or all n 0 == 10) here ∙ ap (λ (b : ℕ). b == 10) byte_is ∙ other
      by k lt false apart = s.none k (grind (arith, nat_tests))

-- the line feed
pub scan_found : (all buffer : List ℕ) (i byte : ℕ) (now later : Option (List ℕ)) (read : Option ℕ) →
    Scanned all buffer i now →
    i < 108 →
    IfSome now (λ l. IsNext l read later) →
    read ≡ Some byte →
    (byte == 10) ≡ true →
    IsLine all (set buffer i byte) (Some i) × (later ≡ Some (untaken all))
scan_found all buffer i byte now later read s below next is feed =
    let here = next_at all buffer i now later read (Some byte) s next is in
    let n = next_is all i byte here.0 here.1 in
    let at : line_feed all ≡ Some i = feed_at all i n.0 below s.none (ap (λ (b : ℕ). b == 10) n.1 ∙ feed) in (
      (at, take-set buffer i byte ∙ s.front, n.0),
      here.2 ∙ ap Some n.2 ∙ ap (λ (o : Option ℕ). Some (drop (taken_len all o) all)) (sym at),
    )

-- the end before a line feed
pub scan_ended : (all buffer : List ℕ) (i : ℕ) (now later : Option (List ℕ)) (read : Option ℕ) →
    Scanned all buffer i now →
    i < 108 →
    IfSome now (λ l. IsNext l read later) →
    read ≡ None →
    IsCutShort all × (later ≡ Some (untaken all))
scan_ended all buffer i now later read s below next is =
    let end = next_at all buffer i now later read None s next is in
    let len : length all ≡ i = omega (arith, ap length end.0, length-drop i all, s.within) in
    let at : line_feed all ≡ None = feed_none all (λ k lt. s.none k (omega (arith, length-take 108 all))) in
    let whole : taken_len all (line_feed all) ≡ i = ap (taken_len all) at ∙ omega (arith, length-take 108 all) in (
      (at, omega arith),
      end.1 ∙ ap Some (sym end.0) ∙ ap (λ (n : ℕ). Some (drop n all)) (sym whole),
    )

-- no line feed in all that is looked at
pub scan_full : (all buffer : List ℕ) (i : ℕ) (now : Option (List ℕ)) →
    Scanned all buffer i now →
    i ≡ 108 →
    IsLine all buffer None × (now ≡ Some (untaken all))
scan_full all buffer i now s full =
    let within = s.within in
    let at : line_feed all ≡ None = feed_none all (λ k lt. s.none k (omega (arith, length-take 108 all))) in
    let whole : taken_len all (line_feed all) ≡ i = ap (taken_len all) at ∙ omega (arith, length-take 108 all) in (
      (at, omega arith),
      s.rest ∙ ap (λ (n : ℕ). Some (drop n all)) (sym whole),
    )

-- what was taken before a fault stands at the front of the line
pub scan_failed : (all buffer : List ℕ) (i : ℕ) (now later : Option (List ℕ)) →
    Scanned all buffer i now →
    i ≤ 108 →
    later ≡ now →
    IsFront all later
scan_failed all buffer i now later s below same = (i, by (line_feed all) refl, same ∙ s.rest) where
  after : (end : ℕ) → (get_or (take 108 all) end 0 == 10) ≡ true → end < length (take 108 all) → (b : Bool) → ltb end i ≡ b → i ≤ end
  after end feed lt false not_before = grind (arith, nat_tests)
  after end feed lt true before =
      let less : end < i = grind (arith, nat_tests) in
      let other = ap (λ (b : ℕ). b == 10) (get_or-take 108 all end 0 (omega (arith, length-take 108 all))) ∙ s.none end less in
      absurd (cc (feed, other))

  by : (o : Option ℕ) → line_feed all ≡ o → i ≤ length (take (taken_len all o) all)
  by None at = let within = s.within in omega (arith, length-take 108 all, length-take (length (take 108 all)) all)
  by (Some end) at =
      let p = position-Some (λ b. b == 10) (take 108 all) end 0 at in
      let within = s.within in
      let le = after end p.1 p.0 (ltb end i) refl in
      omega (arith, length-take (end + 1) all)
