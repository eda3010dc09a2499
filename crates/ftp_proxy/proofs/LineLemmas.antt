-- A line whose first byte was read before.
use Rattle.std.proofs.Common.{◌≡◌, ℕ, ◌+◌, ◌-◌, ◌<◌, ◌≤◌, true, false, cond, ltb, List, [], ◌∷◌, ◌++◌, length, get_or, take, drop, Option, Some, None, Result, Ok, Err, refl, sym, ap, subst, ◌∙◌, arith, inl, inr}
use Rattle.std.specs.Prelude.{◌==◌, IfSome, position}
use Rattle.std.proofs.lemmas.Bool.{cases_lt, cases_eq}
use Rattle.std.proofs.lemmas.Bool.Decides.{nat_tests}
use Rattle.std.proofs.lemmas.List.{length-take, length-drop, get_or-take, take-take, get_or-drop, take_min, take_more, take_more_set, drop-drop, drop_more}
use Rattle.std.proofs.lemmas.List.Quantifiers.{position-Some}
use Rattle.std.proofs.Math.ListN.{set}
use Rattle.ftp_proxy.specs.declared.header.ProxyHeader.{ProxyHeader}
use Rattle.ftp_proxy.specs.declared.error.ProxyError.{ProxyError}
use Rattle.ftp_proxy.specs.declared.error.ProxyError.TheVariants as error
use Rattle.ftp_proxy.specs.declared.error.ReadError.TheVariants as read
use Rattle.ftp_proxy.specs.Header.{pieces, header_outcome}
use Rattle.ftp_proxy.specs.Line.{line_feed, taken_len, taken, untaken, outcome_at, line, IsFront, IsNext, IsAnswer, IsTaken}
use Rattle.ftp_proxy.proofs.Scan.{Scanned, scan_found, scan_ended, scan_full, scan_failed}
use Rattle.ftp_proxy.specs.Any.{IsReadTo}

-- the first byte was read
pub read_to_begun : (buffer left : List ℕ) (now : Option (List ℕ)) → 0 < length buffer → now ≡ Some left → IsReadTo (get_or buffer 0 0 ∷ left) buffer 1 now
read_to_begun [] left now some e = absurd (omega arith)
read_to_begun (b ∷ buffer) left now some e = record { within = omega arith; front = refl; none = λ k lt. absurd (omega arith); rest = e }

-- no line feed so far
scanned : (all buffer : List ℕ) (i : ℕ) (now : Option (List ℕ)) → 0 < i → IsReadTo all buffer i now → (get_or all (i - 1) 0 == 10) ≡ false → Scanned all buffer i now
scanned all buffer i now some r other = record {
  within = r.within;
  front = r.front;
  none = λ k lt.
      elim (cases_lt (k + 1) i) [
        | inl below ↦ r.none k below
        | inr last ↦ let is : k ≡ i - 1 = omega arith in ap (λ (n : ℕ). get_or all n 0 == 10) is ∙ other
      ];
  rest = r.rest;
}

-- the last byte in the buffer is that of all bytes
last_byte : (all buffer : List ℕ) (i : ℕ) (now : Option (List ℕ)) → 0 < i → IsReadTo all buffer i now → get_or buffer (i - 1) 0 ≡ get_or all (i - 1) 0
last_byte all buffer i now some r =
    sym (get_or-take i buffer (i - 1) 0 (omega arith)) ∙ ap (λ (x : List ℕ). get_or x (i - 1) 0) r.front ∙ get_or-take i all (i - 1) 0 (omega arith)

-- the line feed was the last byte
pub read_to_feed : (all buffer : List ℕ) (i : ℕ) (now : Option (List ℕ)) → 0 < i → i ≤ 108 → IsReadTo all buffer i now → get_or buffer (i - 1) 0 ≡ 10 →
    (line_feed all ≡ Some (i - 1)) × (take i buffer ≡ taken all) × (now ≡ Some (untaken all))
read_to_feed all buffer i now some le r feed =
    let is : (get_or all (i - 1) 0 == 10) ≡ true = let e = sym (last_byte all buffer i now some r) ∙ feed in grind (arith, nat_tests) in
    let within = r.within in
    let before : Scanned all buffer (i - 1) (Some (drop (i - 1) all)) = record {
      within = omega arith;
      front = sym (take-take (i - 1) i buffer (omega arith)) ∙ ap (take (i - 1)) r.front ∙ take-take (i - 1) i all (omega arith);
      none = λ k lt. r.none k (omega arith);
      rest = refl;
    } in
    let next : IsNext (drop (i - 1) all) (Some (get_or all (i - 1) 0)) (Some (drop (i - 1 + 1) all)) = (drop (i - 1 + 1) all, drop_more all (i - 1) 0 (omega arith), refl) in
    let f = scan_found all buffer (i - 1) (get_or all (i - 1) 0) (Some (drop (i - 1) all)) (Some (drop (i - 1 + 1) all)) (Some (get_or all (i - 1) 0)) before (omega arith) next refl is in
    let one : i - 1 + 1 ≡ i = omega arith in (
      f.0.0,
      r.front ∙ ap (λ (n : ℕ). take n all) (sym one) ∙ ap (λ (o : Option ℕ). take (taken_len all o) all) (sym f.0.0),
      r.rest ∙ ap (λ (n : ℕ). Some (drop n all)) (sym one) ∙ f.1,
    )

-- what a read of the next byte says of all bytes
next_of : (all : List ℕ) (i : ℕ) (now later : Option (List ℕ)) (r byte : Option ℕ) → now ≡ Some (drop i all) → IfSome now (λ l. IsNext l r later) → r ≡ byte → IsNext (drop i all) byte later
next_of all i now later r byte rest next is =
    subst (λ (b : Option ℕ). IsNext (drop i all) b later) is (subst (λ (o : Option (List ℕ)). IfSome o (λ l. IsNext l r later)) rest next)

-- the bytes came to their end
pub read_to_end : (all buffer : List ℕ) (i : ℕ) (now later : Option (List ℕ)) (r : Option ℕ) → 0 < i → i < 108 → IsReadTo all buffer i now → (get_or buffer (i - 1) 0 ≡ 10 → ⊥) →
    IfSome now (λ l. IsNext l r later) → r ≡ None → (take i buffer ≡ taken all) × (later ≡ Some (untaken all))
read_to_end all buffer i now later r some lt s other next none =
    let not_feed : (get_or all (i - 1) 0 == 10) ≡ false = let e = last_byte all buffer i now some s in grind (arith, nat_tests) in
    let nil = (next_of all i now later r None s.rest next none).0 in
    let e = scan_ended all buffer i now later r (scanned all buffer i now some s not_feed) lt next none in
    let within = s.within in
    let len : length all ≡ i = omega (arith, ap length nil, length-drop i all) in
    let size : length (take 108 all) ≡ i = omega (arith, length-take 108 all) in
    (s.front ∙ ap (λ (n : ℕ). take n all) (sym size) ∙ ap (λ (o : Option ℕ). take (taken_len all o) all) (sym e.0.0), e.1)

-- a read failed
pub read_to_fault : (all buffer : List ℕ) (i : ℕ) (now later : Option (List ℕ)) → 0 < i → i < 108 → IsReadTo all buffer i now → (get_or buffer (i - 1) 0 ≡ 10 → ⊥) →
    later ≡ now → IsFront all later
read_to_fault all buffer i now later some lt s other same =
    let not_feed : (get_or all (i - 1) 0 == 10) ≡ false = let e = last_byte all buffer i now some s in grind (arith, nat_tests) in
    scan_failed all buffer i now later (scanned all buffer i now some s not_feed) (omega arith) same

-- all of the buffer was read
pub read_to_full : (all buffer : List ℕ) (i : ℕ) (now : Option (List ℕ)) → i ≡ 108 → IsReadTo all buffer i now → (take 108 buffer ≡ taken all) × (now ≡ Some (untaken all))
read_to_full all buffer i now full r =
    let whole : take 108 buffer ≡ take i buffer = ap (λ (n : ℕ). take n buffer) (sym full) in
    elim (cases_eq (get_or buffer (i - 1) 0) 10) [
      | inl feed ↦ let f = read_to_feed all buffer i now (omega arith) (omega arith) r feed in (whole ∙ f.1, f.2)
      | inr other ↦
          let not_feed : (get_or all (i - 1) 0 == 10) ≡ false = let e = last_byte all buffer i now (omega arith) r in grind (arith, nat_tests) in
          let e = scan_full all buffer i now (scanned all buffer i now (omega arith) r not_feed) full in
          let within = r.within in
          let size : length (take 108 all) ≡ i = omega (arith, length-take 108 all) in
          (whole ∙ r.front ∙ ap (λ (n : ℕ). take n all) (sym size) ∙ ap (λ (o : Option ℕ). take (taken_len all o) all) (sym e.0.0), e.1)
    ]

-- one byte more
pub read_to_more : (all buffer : List ℕ) (i byte : ℕ) (now later : Option (List ℕ)) (r : Option ℕ) → 0 < i → i < length buffer → IsReadTo all buffer i now → (get_or buffer (i - 1) 0 ≡ 10 → ⊥) →
    IfSome now (λ l. IsNext l r later) → r ≡ Some byte → IsReadTo all (set buffer i byte) (i + 1) later
read_to_more all buffer i byte now later r some lt s other next is =
    let not_feed : (get_or all (i - 1) 0 == 10) ≡ false = let e = last_byte all buffer i now some s in grind (arith, nat_tests) in
    let before = scanned all buffer i now some s not_feed in
    let n = next_of all i now later r (Some byte) s.rest next is in
    let within = s.within in
    let len : length all - i ≡ length n.0 + 1 = sym (length-drop i all) ∙ ap length n.1 ∙ omega arith in
    let byte_is : get_or all i 0 ≡ byte = ap (λ (k : ℕ). get_or all k 0) (omega arith) ∙ sym (get_or-drop i all 0 0) ∙ ap (λ (x : List ℕ). get_or x 0 0) n.1 in
    let rest : n.0 ≡ drop (i + 1) all = ap (drop 1) (sym n.1) ∙ drop-drop 1 i all in
    record {
      within = omega (arith, len);
      front = take_more_set buffer i byte lt ∙ ap (λ (x : List ℕ). x ++ byte ∷ []) s.front ∙ ap (λ (b : ℕ). take i all ++ b ∷ []) (sym byte_is) ∙ sym (take_more all i 0 (omega (arith, len)));
      none = λ j lt. before.none j (omega arith);
      rest = n.2 ∙ ap Some rest;
    }

-- ---- the line that was read says what all bytes say

-- the first line feed is there in the front up to it too
feed_in_front : (all : List ℕ) (end : ℕ) → line_feed all ≡ Some end → line_feed (take (end + 1) all) ≡ Some end
feed_in_front all end e =
    let p = position-Some (λ b. b == 10) (take 108 all) end 0 e in
    let len = length-take 108 all in
    let below = p.0 in
    let within : end + 1 ≤ length all = omega arith in
    let size : length (take (end + 1) all) ≡ end + 1 = omega (arith, length-take (end + 1) all) in
    let front : List ℕ = take (end + 1) all in
    let before : Scanned (take (end + 1) all) (take (end + 1) all) end (Some (drop end (take (end + 1) all))) = record {
      within = omega (arith, size);
      front = refl;
      none = λ k lt.
          ap (λ (b : ℕ). b == 10) (get_or-take (end + 1) all k 0 (omega arith) ∙ sym (get_or-take 108 all k 0 (omega arith))) ∙ p.2 k lt;
      rest = refl;
    } in
    let byte : (get_or (take (end + 1) all) end 0 == 10) ≡ true =
    ap (λ (b : ℕ). b == 10) (get_or-take (end + 1) all end 0 (omega arith) ∙ sym (get_or-take 108 all end 0 (omega arith))) ∙ p.1 in
    let next : IsNext (drop end (take (end + 1) all)) (Some (get_or (take (end + 1) all) end 0)) (Some (drop (end + 1) (take (end + 1) all))) =
    (drop (end + 1) (take (end + 1) all), drop_more (take (end + 1) all) end 0 (omega (arith, size)), refl) in
    (scan_found (take (end + 1) all) (take (end + 1) all) end (get_or (take (end + 1) all) end 0) (Some (drop end (take (end + 1) all))) (Some (drop (end + 1) (take (end + 1) all))) (Some (get_or (take (end + 1) all) end 0)) before (omega arith) next refl byte).0.0

same_outcome : (all : List ℕ) (end : ℕ) → outcome_at (take (end + 1) all) (Some end) ≡ outcome_at all (Some end)
same_outcome all end =
    elim (cases_lt end 13) [
      | inl lt ↦ let h : ltb end 13 ≡ true = grind (arith, nat_tests) in rw h refl
      | inr le ↦
          let h : ltb end 13 ≡ false = grind (arith, nat_tests) in
          let byte = get_or-take (end + 1) all (end - 1) 0 (omega arith) in
          let text = take-take (end - 1) (end + 1) all (omega arith) in
          λ i. cond (ltb end 13) (Err error.HeaderSize) (cond (byte i == 13) (header_outcome (pieces 32 (text i))) (Err error.CrlfError))
    ]

pub line_front : (all : List ℕ) → line (taken all) ≡ line all
line_front all = by (line_feed all) refl where
  by : (o : Option ℕ) → line_feed all ≡ o → outcome_at (take (taken_len all (line_feed all)) all) (line_feed (take (taken_len all (line_feed all)) all)) ≡ outcome_at all (line_feed all)
  by (Some end) e =
      subst (λ (o : Option ℕ). outcome_at (take (taken_len all o) all) (line_feed (take (taken_len all o) all)) ≡ outcome_at all o) (sym e)
      (ap (outcome_at (take (end + 1) all)) (feed_in_front all end e) ∙ same_outcome all end)
  by None e =
      let whole : take (length (take 108 all)) all ≡ take 108 all = ap (λ (n : ℕ). take n all) (length-take 108 all) ∙ take_min 108 all in
      let none : line_feed (take 108 all) ≡ None = ap (λ (x : List ℕ). position (λ b. b == 10) x) (take-take 108 108 all (omega arith)) ∙ e in
      let len = length-take 108 all in
      subst (λ (o : Option ℕ). outcome_at (take (taken_len all o) all) (line_feed (take (taken_len all o) all)) ≡ outcome_at all o) (sym e)
      (ap (λ (x : List ℕ). outcome_at x (line_feed x)) whole
      ∙ ap (outcome_at (take 108 all)) none
      ∙ elim (cases_lt (length all) 108) [
        | inl lt ↦
            let a : ltb (length (take 108 all)) 108 ≡ true = grind (arith, nat_tests) in
            let b : ltb (length all) 108 ≡ true = grind (arith, nat_tests) in
            rw (a, b) refl
        | inr le ↦
            let a : ltb (length (take 108 all)) 108 ≡ false = grind (arith, nat_tests) in
            let b : ltb (length all) 108 ≡ false = grind (arith, nat_tests) in
            rw (a, b) refl
      ])

-- the answer to the line that was read is that to all bytes
pub answer_front : (all front : List ℕ) (answer : Result ProxyHeader ProxyError) → front ≡ taken all → IsAnswer front answer → IsAnswer all answer
answer_front all front (Ok h) same answer = answer ∙ ap line same ∙ line_front all
answer_front all front (Err (error.ReadError read.Fault)) same answer = tt
answer_front all front (Err (error.ReadError read.UnexpectedEof)) same answer = answer ∙ ap line same ∙ line_front all
answer_front all front (Err error.HeaderSize) same answer = answer ∙ ap line same ∙ line_front all
answer_front all front (Err error.CrlfError) same answer = answer ∙ ap line same ∙ line_front all
answer_front all front (Err error.NotProxyHdr) same answer = answer ∙ ap line same ∙ line_front all
answer_front all front (Err error.DecodeError) same answer = answer ∙ ap line same ∙ line_front all
answer_front all front (Err error.IPv4Required) same answer = answer ∙ ap line same ∙ line_front all
answer_front all front (Err error.UnsupportedVersion) same answer = answer ∙ ap line same ∙ line_front all

-- what was taken, where the line did not fail
pub taken_front : (all : List ℕ) (answer : Result ProxyHeader ProxyError) (left : Option (List ℕ)) → (answer ≡ Err (error.ReadError read.Fault) → ⊥) → left ≡ Some (untaken all) → IsTaken all answer left
taken_front all (Ok h) left sound rest = rest
taken_front all (Err (error.ReadError read.Fault)) left sound rest = absurd (sound refl)
taken_front all (Err (error.ReadError read.UnexpectedEof)) left sound rest = rest
taken_front all (Err error.HeaderSize) left sound rest = rest
taken_front all (Err error.CrlfError) left sound rest = rest
taken_front all (Err error.NotProxyHdr) left sound rest = rest
taken_front all (Err error.DecodeError) left sound rest = rest
taken_front all (Err error.IPv4Required) left sound rest = rest
taken_front all (Err error.UnsupportedVersion) left sound rest = rest
