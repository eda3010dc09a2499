-- The fields behind the addresses, as bytes, and lengths in two bytes.
use Rattle.std.proofs.Common.{◌≡◌, ℕ, ◌+◌, ◌<◌, ◌≤◌, Bool, true, false, cond, leb, List, [], ◌∷◌, ◌++◌, length, get_or, take, drop, Some, None, refl, sym, ap, ◌∙◌, arith}
use Rattle.std.proofs.lemmas.Bool.Decides.{nat_tests}
use Rattle.std.proofs.lemmas.List.{length-append, take_more, take-append-drop, append-nil}
use Rattle.std.proofs.lemmas.List.Concat.{flat_map-append}
use Rattle.ftp_proxy.specs.declared.v2_header.Field.{Field}
use Rattle.ftp_proxy.specs.V2Header.{field_bytes, fields_bytes, in_two_bytes}

-- one field more
pub fields_bytes-more : (fields : List Field) (i : ℕ) (f : Field) → i < length fields → f ≡ get_or fields i f →
    fields_bytes (take (i + 1) fields) ≡ fields_bytes (take i fields) ++ field_bytes f
fields_bytes-more fields i f lt is =
    ap fields_bytes (take_more fields i f lt)
    ∙ flat_map-append field_bytes (take i fields) (get_or fields i f ∷ [])
    ∙ ap (λ (x : List ℕ). fields_bytes (take i fields) ++ x) (append-nil (field_bytes (get_or fields i f)))
    ∙ ap (λ (g : Field). fields_bytes (take i fields) ++ field_bytes g) (sym is)

-- so many fields and one more are no longer than all
pub field_within : (fields : List Field) (i : ℕ) (f : Field) → i < length fields → f ≡ get_or fields i f →
    length (fields_bytes (take i fields)) + 3 + length f.value ≤ length (fields_bytes fields)
field_within fields i f lt is =
    let whole : length (fields_bytes fields) ≡ length (fields_bytes (take (i + 1) fields)) + length (fields_bytes (drop (i + 1) fields)) =
    sym (ap (λ (x : List Field). length (fields_bytes x)) (take-append-drop (i + 1) fields))
    ∙ ap length (flat_map-append field_bytes (take (i + 1) fields) (drop (i + 1) fields))
    ∙ length-append (fields_bytes (take (i + 1) fields)) (fields_bytes (drop (i + 1) fields)) in
    let front = ap length (fields_bytes-more fields i f lt is) ∙ length-append (fields_bytes (take i fields)) (field_bytes f) in
    omega (arith, whole, front)

-- what two bytes say is the number
pub in_two_bytes_some : (n m : ℕ) → in_two_bytes n ≡ Some m → (m ≡ n) × (n ≤ 65535)
in_two_bytes_some n m e = by (leb n 65535) refl where
  by : (b : Bool) → leb n 65535 ≡ b → (m ≡ n) × (n ≤ 65535)
  by true h = let s : cond true (Some n) None ≡ Some m = ap (λ (b : Bool). cond b (Some n) None) (sym h) ∙ e in (cc, grind (arith, nat_tests))
  by false h = let s : cond false (Some n) None ≡ Some m = ap (λ (b : Bool). cond b (Some n) None) (sym h) ∙ e in absurd cc

-- what two bytes cannot say is large
pub in_two_bytes_none : (n : ℕ) → in_two_bytes n ≡ None → 65535 < n
in_two_bytes_none n e = by (leb n 65535) refl where
  by : (b : Bool) → leb n 65535 ≡ b → 65535 < n
  by false h = grind (arith, nat_tests)
  by true h = let s : cond true (Some n) None ≡ None = ap (λ (b : Bool). cond b (Some n) None) (sym h) ∙ e in absurd cc

-- two bytes cannot say a large number
pub in_two_bytes_large : (n : ℕ) → 65535 < n → in_two_bytes n ≡ None
in_two_bytes_large n lt = let h : leb n 65535 ≡ false = grind (arith, nat_tests) in ap (λ (b : Bool). cond b (Some n) None) h
