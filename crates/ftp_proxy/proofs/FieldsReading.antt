-- Reading the fields that end a block.
use Rattle.std.proofs.Common.{◌≡◌, ℕ, zero, suc, ◌+◌, ◌-◌, ◌^◌, ◌<◌, ◌≤◌, Bool, true, false, cond, eqb, ltb, List, [], ◌∷◌, ◌++◌, length, get_or, take, drop, Option, Some, None, Result, Ok, Err, refl, sym, ap, ◌∙◌, append_assoc, arith, lit<}
use Rattle.std.specs.Int.{w16, to_be_bytes, from_be_bytes}
use Rattle.std.proofs.lemmas.Bool.Decides.{nat_tests}
use Rattle.std.proofs.lemmas.List.{length-append, length-take, length-drop, take_at, drop_at, drop-drop, append-nil, nil_from_length, take-append-drop, get_or-take, drop-take, take-take}
use Rattle.std.proofs.lemmas.Nat.{be_bytes_2, from_be_bytes-to_be_bytes_2}
use Rattle.ftp_proxy.specs.declared.v2_header.Field.{Field}
use Rattle.ftp_proxy.specs.declared.v2_error.Proxy2Error.{Proxy2Error}
use Rattle.ftp_proxy.specs.declared.v2_error.Proxy2Error.TheVariants as error
use Rattle.ftp_proxy.specs.V2Header.{field_bytes, fields_bytes}
use Rattle.ftp_proxy.specs.Reading.{mapped, number_at, field_len, field_of, whole_field, fields_at, IsBytes}
use Rattle.ftp_proxy.proofs.WideLemmas.{IsBytes-drop}

-- ---- what was answered

abbrev pub fine : {A : Type 0} → A → Result A Proxy2Error
fine x = Ok x

pub fine_is : {A : Type 0} (x y : A) → fine x ≡ fine y → x ≡ y
fine_is x y e = cc

-- what more was done to
pub mapped_fine : {A B : Type 0} (f : A → B) (r : Result A Proxy2Error) (y : B) → mapped f r ≡ Ok y → (x : A) × (r ≡ Ok x) × (f x ≡ y)
mapped_fine f (Ok x) y e = (x, refl, fine_is (f x) y e)
mapped_fine f (Err d) y e = absurd cc

-- ---- the field at the front

pub whole_some : (bytes : List ℕ) (len : ℕ) → whole_field bytes ≡ Some len → (len ≡ field_len bytes) × (len ≤ length bytes)
whole_some bytes len e = by (ltb (length bytes) (field_len bytes)) refl where
  by : (b : Bool) → ltb (length bytes) (field_len bytes) ≡ b → (len ≡ field_len bytes) × (len ≤ length bytes)
  by true h = let s : cond true None (Some (field_len bytes)) ≡ Some len = ap (λ (b : Bool). cond b None (Some (field_len bytes))) (sym h) ∙ e in absurd cc
  by false h =
      let s : cond false None (Some (field_len bytes)) ≡ Some len = ap (λ (b : Bool). cond b None (Some (field_len bytes))) (sym h) ∙ e in
      let is : len ≡ field_len bytes = cc in
      (is, grind (arith, nat_tests))

whole_long : (bytes : List ℕ) → field_len bytes ≤ length bytes → whole_field bytes ≡ Some (field_len bytes)
whole_long bytes le =
    let h : ltb (length bytes) (field_len bytes) ≡ false = grind (arith, nat_tests) in
    ap (λ (b : Bool). cond b None (Some (field_len bytes))) h

-- ---- one field after the other

pub fields_at-nil : (n place : ℕ) (bytes : List ℕ) → length bytes ≡ 0 → fields_at n place bytes ≡ Ok []
unfolding fields_at
fields_at-nil zero place bytes e = refl
fields_at-nil (suc n) place bytes e =
    let h : eqb (length bytes) 0 ≡ true = grind (arith, nat_tests) in rw h refl

pub fields_at-some : (n place : ℕ) (bytes : List ℕ) (len : ℕ) → 0 < length bytes → whole_field bytes ≡ Some len →
    fields_at (suc n) place bytes ≡ mapped (λ fields. field_of bytes ∷ fields) (fields_at n (place + len) (drop len bytes))
unfolding fields_at
fields_at-some n place bytes len some whole =
    let h : eqb (length bytes) 0 ≡ false = grind (arith, nat_tests) in rw (h, whole) refl

pub fields_at-cut : (n place : ℕ) (bytes : List ℕ) → 0 < length bytes → whole_field bytes ≡ None →
    fields_at (suc n) place bytes ≡ Err (error.BadField place)
unfolding fields_at
fields_at-cut n place bytes some cut =
    let h : eqb (length bytes) 0 ≡ false = grind (arith, nat_tests) in rw (h, cut) refl

-- with enough steps it does not matter how many
pub fields_at-steps : (n m place : ℕ) (bytes : List ℕ) → length bytes ≤ n → length bytes ≤ m → fields_at n place bytes ≡ fields_at m place bytes
fields_at-steps zero m place bytes p q = fields_at-nil zero place bytes (omega arith) ∙ sym (fields_at-nil m place bytes (omega arith))
fields_at-steps (suc n) zero place bytes p q = fields_at-nil (suc n) place bytes (omega arith) ∙ sym (fields_at-nil zero place bytes (omega arith))
fields_at-steps (suc n) (suc m) place bytes p q =
    by (λ len a b. fields_at-steps n m (place + len) (drop len bytes) a b) (eqb (length bytes) 0) refl where
      more : ((len : ℕ) → length (drop len bytes) ≤ n → length (drop len bytes) ≤ m → fields_at n (place + len) (drop len bytes) ≡ fields_at m (place + len) (drop len bytes)) →
          (o : Option ℕ) → 0 < length bytes → whole_field bytes ≡ o → fields_at (suc n) place bytes ≡ fields_at (suc m) place bytes
      more rest None some e = fields_at-cut n place bytes some e ∙ sym (fields_at-cut m place bytes some e)
      more rest (Some len) some e =
          let w = whole_some bytes len e in
          let shorter : length (drop len bytes) ≤ length bytes - 3 = omega (arith, length-drop len bytes, w.0, w.1) in
          fields_at-some n place bytes len some e
          ∙ ap (mapped (λ fields. field_of bytes ∷ fields)) (rest len (omega arith) (omega arith))
          ∙ sym (fields_at-some m place bytes len some e)

      by : ((len : ℕ) → length (drop len bytes) ≤ n → length (drop len bytes) ≤ m → fields_at n (place + len) (drop len bytes) ≡ fields_at m (place + len) (drop len bytes)) →
          (b : Bool) → eqb (length bytes) 0 ≡ b → fields_at (suc n) place bytes ≡ fields_at (suc m) place bytes
      by rest true h = let e : length bytes ≡ 0 = grind (arith, nat_tests) in fields_at-nil (suc n) place bytes e ∙ sym (fields_at-nil (suc m) place bytes e)
      by rest false h = more rest (whole_field bytes) (grind (arith, nat_tests)) refl

-- ---- a loop that reads them

abbrev pub field_with : ℕ → List ℕ → Field
field_with kind value = record { kind = kind; value = value }

-- the field that bytes are, all of them
abbrev pub cut_field : List ℕ → Field
cut_field bytes = field_with (get_or bytes 0 0) (take (length bytes - 3) (drop 3 bytes))

pub cut_field_is : (bytes : List ℕ) (len : ℕ) → whole_field bytes ≡ Some len → cut_field (take len bytes) ≡ field_of bytes
cut_field_is bytes len whole =
    let w = whole_some bytes len whole in
    let n : ℕ = number_at bytes 1 in
    let size : length (take len bytes) - 3 ≡ number_at bytes 1 = omega (arith, length-take len bytes, w.0, w.1) in
    let kind = get_or-take len bytes 0 0 (omega (arith, w.0)) in
    let value : take (length (take len bytes) - 3) (drop 3 (take len bytes)) ≡ take (number_at bytes 1) (drop 3 bytes) =
    ap (λ (k : ℕ). take k (drop 3 (take len bytes))) size
    ∙ ap (λ (k : ℕ). take (number_at bytes 1) (drop 3 (take k bytes))) w.0
    ∙ ap (take (number_at bytes 1)) (drop-take 3 (number_at bytes 1) bytes)
    ∙ take-take (number_at bytes 1) (number_at bytes 1) (drop 3 bytes) (omega arith) in
    λ i. field_with (kind i) (value i)

-- what was read before, and what is still read
abbrev pub with_front : List Field → Result (List Field) Proxy2Error → Result (List Field) Proxy2Error
with_front front read = mapped (λ fields. front ++ fields) read

regroup : (front : List Field) (f : Field) (read : Result (List Field) Proxy2Error) →
    with_front front (mapped (λ fields. f ∷ fields) read) ≡ with_front (front ++ f ∷ []) read
regroup front f (Ok fields) = ap fine (simp append_assoc)
regroup front f (Err e) = refl

pub goes_on : (front : List Field) (place : ℕ) (bytes : List ℕ) (len : ℕ) (all : Result (List Field) Proxy2Error) →
    0 < length bytes →
    whole_field bytes ≡ Some len →
    with_front front (fields_at (length bytes) place bytes) ≡ all →
    with_front (front ++ field_of bytes ∷ []) (fields_at (length (drop len bytes)) (place + len) (drop len bytes)) ≡ all
goes_on front place bytes len all some whole so_far =
    let w = whole_some bytes len whole in
    let n : length bytes ≡ suc (length bytes - 1) = omega arith in
    let first = ap (λ (n : ℕ). fields_at n place bytes) n ∙ fields_at-some (length bytes - 1) place bytes len some whole in
    let steps = fields_at-steps (length bytes - 1) (length (drop len bytes)) (place + len) (drop len bytes) (omega (arith, length-drop len bytes, w.0)) (omega arith) in
    sym (ap (with_front front) (first ∙ ap (mapped (λ fields. field_of bytes ∷ fields)) steps) ∙ regroup front (field_of bytes) (fields_at (length (drop len bytes)) (place + len) (drop len bytes)))
    ∙ so_far

pub is_cut : (front : List Field) (place : ℕ) (bytes : List ℕ) (all : Result (List Field) Proxy2Error) →
    0 < length bytes →
    whole_field bytes ≡ None →
    with_front front (fields_at (length bytes) place bytes) ≡ all →
    Err (error.BadField place) ≡ all
is_cut front place bytes all some cut so_far =
    let n : length bytes ≡ suc (length bytes - 1) = omega arith in
    sym (ap (with_front front) (ap (λ (n : ℕ). fields_at n place bytes) n ∙ fields_at-cut (length bytes - 1) place bytes some cut)) ∙ so_far

pub is_done : (front : List Field) (place : ℕ) (bytes : List ℕ) (all : Result (List Field) Proxy2Error) →
    length bytes ≡ 0 →
    with_front front (fields_at (length bytes) place bytes) ≡ all →
    Ok front ≡ all
is_done front place bytes all none so_far =
    ap fine (sym (append-nil front)) ∙ sym (ap (with_front front) (fields_at-nil (length bytes) place bytes none)) ∙ so_far

-- ---- both laws

-- what is spelled so is read
pub fields_again : (fields : List Field) (n place : ℕ) → length (fields_bytes fields) ≤ n → length (fields_bytes fields) < 2 ^ 16 →
    fields_at n place (fields_bytes fields) ≡ Ok fields
fields_again [] n place le short = fields_at-nil n place [] refl
fields_again (f ∷ fields) zero place le short = absurd (omega (arith, length-append (field_bytes f) (fields_bytes fields)))
fields_again (f ∷ fields) (suc n) place le short =
    let len = length-append (field_bytes f) (fields_bytes fields) in
    let value = length-append f.value (fields_bytes fields) in
    let number : number_at (field_bytes f ++ fields_bytes fields) 1 ≡ length f.value = from_be_bytes-to_be_bytes_2 (length f.value) (omega arith) in
    let behind : drop (3 + length f.value) (field_bytes f ++ fields_bytes fields) ≡ fields_bytes fields =
    sym (drop-drop (length f.value) 3 (field_bytes f ++ fields_bytes fields)) ∙ drop_at f.value (fields_bytes fields) (length f.value) refl in
    let whole : whole_field (field_bytes f ++ fields_bytes fields) ≡ Some (3 + length f.value) =
    whole_long (field_bytes f ++ fields_bytes fields) (omega (arith, number, len)) ∙ ap (λ (n : ℕ). Some (3 + n)) number in
    let field : field_of (field_bytes f ++ fields_bytes fields) ≡ f =
    ap (λ (n : ℕ). record { kind = f.kind; value = take n (f.value ++ fields_bytes fields) }) number ∙ ap (λ (v : List ℕ). record { kind = f.kind; value = v }) (take_at f.value (fields_bytes fields) (length f.value) refl) in
    fields_at-some n place (field_bytes f ++ fields_bytes fields) (3 + length f.value) (omega (arith, len)) whole
    ∙ ap (λ (g : Field). mapped (λ fs. g ∷ fs) (fields_at n (place + (3 + length f.value)) (drop (3 + length f.value) (field_bytes f ++ fields_bytes fields)))) field
    ∙ ap (λ (x : List ℕ). mapped (λ fs. f ∷ fs) (fields_at n (place + (3 + length f.value)) x)) behind
    ∙ ap (mapped (λ fs. f ∷ fs)) (fields_again fields n (place + (3 + length f.value)) (omega (arith, len)) (omega (arith, len)))

-- two bytes
pub two_bytes : (b c : ℕ) → b < 256 → c < 256 → IsBytes (b ∷ c ∷ [])
two_bytes b c p q zero = p
two_bytes b c p q (suc zero) = q
two_bytes b c p q (suc (suc i)) = lit< tt

-- the field at the front, and what is behind it
front_field : (bytes : List ℕ) (len : ℕ) → IsBytes bytes → whole_field bytes ≡ Some len → field_bytes (field_of bytes) ++ drop len bytes ≡ bytes
front_field [] len small whole = let w = whole_some [] len whole in absurd (omega (arith, w.0, w.1))
front_field (a ∷ []) len small whole = let w = whole_some (a ∷ []) len whole in absurd (omega (arith, w.0, w.1))
front_field (a ∷ b ∷ []) len small whole = let w = whole_some (a ∷ b ∷ []) len whole in absurd (omega (arith, w.0, w.1))
front_field (a ∷ b ∷ c ∷ bytes) len small whole =
    let w = whole_some (a ∷ b ∷ c ∷ bytes) len whole in
    let n : ℕ = from_be_bytes w16 (b ∷ c ∷ []) in
    let long : length (take n bytes) ≡ n = omega (arith, length-take n bytes, w.0, w.1) in
    let two : to_be_bytes w16 n ≡ b ∷ c ∷ [] = be_bytes_2 (b ∷ c ∷ []) n refl (two_bytes b c (small 1) (small 2)) refl in
    let said : to_be_bytes w16 (length (take n bytes)) ≡ b ∷ c ∷ [] = ap (to_be_bytes w16) long ∙ two in
    let behind : drop len (a ∷ b ∷ c ∷ bytes) ≡ drop n bytes = ap (λ (k : ℕ). drop k (a ∷ b ∷ c ∷ bytes)) w.0 ∙ sym (drop-drop n 3 (a ∷ b ∷ c ∷ bytes)) in
    ap (λ (x : List ℕ). a ∷ (x ++ take n bytes) ++ drop len (a ∷ b ∷ c ∷ bytes)) said
    ∙ ap (λ (x : List ℕ). a ∷ b ∷ c ∷ (take n bytes ++ x)) behind
    ∙ ap (λ (x : List ℕ). a ∷ b ∷ c ∷ x) (take-append-drop n bytes)

-- what is read is spelled so
pub fields_sound : (n place : ℕ) (bytes : List ℕ) (fields : List Field) → length bytes ≤ n → IsBytes bytes →
    fields_at n place bytes ≡ Ok fields → fields_bytes fields ≡ bytes
fields_sound zero place bytes fields le small e =
    let none : fine [] ≡ fine fields = sym (fields_at-nil zero place bytes (omega arith)) ∙ e in
    ap fields_bytes (sym (fine_is [] fields none)) ∙ sym (nil_from_length bytes (omega arith))
fields_sound (suc n) place bytes fields le small e =
    by (λ len others a b c. fields_sound n (place + len) (drop len bytes) others a b c) (eqb (length bytes) 0) refl where
      more : ((len : ℕ) (others : List Field) → length (drop len bytes) ≤ n → IsBytes (drop len bytes) → fields_at n (place + len) (drop len bytes) ≡ Ok others → fields_bytes others ≡ drop len bytes) →
          (o : Option ℕ) → 0 < length bytes → whole_field bytes ≡ o → fields_bytes fields ≡ bytes
      more rest None some w = let cut = sym (fields_at-cut n place bytes some w) ∙ e in absurd cc
      more rest (Some len) some w =
          let i = whole_some bytes len w in
          let m = mapped_fine (λ (fs : List Field). field_of bytes ∷ fs) (fields_at n (place + len) (drop len bytes)) fields (sym (fields_at-some n place bytes len some w) ∙ e) in
          let behind = rest len m.0 (omega (arith, length-drop len bytes, i.0)) (IsBytes-drop len bytes small) m.1 in
          ap fields_bytes (sym m.2) ∙ ap (λ (x : List ℕ). field_bytes (field_of bytes) ++ x) behind ∙ front_field bytes len small w

      by : ((len : ℕ) (others : List Field) → length (drop len bytes) ≤ n → IsBytes (drop len bytes) → fields_at n (place + len) (drop len bytes) ≡ Ok others → fields_bytes others ≡ drop len bytes) →
          (b : Bool) → eqb (length bytes) 0 ≡ b → fields_bytes fields ≡ bytes
      by rest true h =
          let z : length bytes ≡ 0 = grind (arith, nat_tests) in
          let none : fine [] ≡ fine fields = sym (fields_at-nil (suc n) place bytes z) ∙ e in
          ap fields_bytes (sym (fine_is [] fields none)) ∙ sym (nil_from_length bytes z)
      by rest false h = more rest (whole_field bytes) (grind (arith, nat_tests)) refl
