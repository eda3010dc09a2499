-- Texts, byte by byte.
use Rattle.std.proofs.Common.{◌≡◌, ℕ, suc, ◌+◌, ◌*◌, ◌<◌, ◌≤◌, Bool, true, false, cond, ◌&&◌, ltb, eqb, List, [], ◌∷◌, ◌++◌, length, Option, Some, None, refl, sym, ap, subst, ◌∙◌, arith, append_assoc}
use Rattle.std.specs.Char.{digit_value}
use Rattle.std.specs.Str.{bytes_eq}
use Rattle.std.proofs.lemmas.Bool.{eqb-true}
use Rattle.std.proofs.lemmas.List.{append-nil}
use Rattle.ftp_text.specs.Fields.{is_plain, escape_byte}
use Rattle.ftp_text.specs.declared.fault.LineFault.{LineFault}
use Rattle.ftp_text.specs.declared.fault.LineFault.TheVariants as fault
use Rattle.ftp_text.specs.Reading.{◌>>=◌, Fails, escaped_at, text_byte_at, text_from, text_of}

abbrev pub then_text : Option (ℕ × List ℕ) → Option (List ℕ)
then_text read = read >>= λ x. text_from [] x.1 >>= λ t. Some (x.0 ∷ t)

abbrev pending : List ℕ → List ℕ → Option (List ℕ × List ℕ)
pending begun text = Some (begun, text)

abbrev read : ℕ → List ℕ → Option (ℕ × List ℕ)
read n bytes = Some (n, bytes)

abbrev goes_on : List ℕ → List ℕ × List ℕ → Option (List ℕ)
goes_on bytes s = text_from s.0 bytes >>= λ text. Some (s.1 ++ text)

-- the two digits
digits_case : (b : Bool) (n : ℕ) (bytes : List ℕ) →
    (((cond b (pending [] (n ∷ [])) None >>= goes_on bytes) >>= λ t. Some ([] ++ t)) >>= λ t. Some ([] ++ t)) ≡ then_text (cond b (read n bytes) None)
digits_case true n bytes = elim (text_from [] bytes) as (λ r. (((r >>= λ t. Some (n ∷ t)) >>= λ t. Some ([] ++ t)) >>= λ t. Some ([] ++ t)) ≡ (r >>= λ t. Some (n ∷ t))) [ Some t ↦ refl | None ↦ refl ]
digits_case false n bytes = refl

abbrev is_spelled : ℕ → ℕ → Bool
is_spelled h l = let n = 16 * digit_value h + digit_value l in ltb n 256 && bytes_eq (escape_byte n) (92 ∷ 120 ∷ h ∷ l ∷ [])

x_case : (b : Bool) (x h l : ℕ) (bytes : List ℕ) → (b ≡ true → x ≡ 120) →
    (cond b (pending (92 ∷ x ∷ []) []) None >>= goes_on (h ∷ l ∷ bytes)) ≡ then_text (cond (b && ltb (16 * digit_value h + digit_value l) 256 && bytes_eq (escape_byte (16 * digit_value h + digit_value l)) (92 ∷ 120 ∷ h ∷ l ∷ [])) (read (16 * digit_value h + digit_value l) bytes) None)
unfolding text_from
x_case true x h l bytes e =
    subst (λ (y : ℕ). (pending (92 ∷ y ∷ []) [] >>= goes_on (h ∷ l ∷ bytes)) ≡ then_text (cond (is_spelled h l) (read (16 * digit_value h + digit_value l) bytes) None)) (sym (e refl))
    (digits_case (is_spelled h l) (16 * digit_value h + digit_value l) bytes)
x_case false x h l bytes e = refl

escape_case : (bytes : List ℕ) → text_from (92 ∷ []) bytes ≡ then_text (escaped_at bytes)
unfolding text_from
escape_case [] = refl
escape_case (x ∷ []) = elim (eqb x 120) as (λ b. (cond b (pending (92 ∷ x ∷ []) []) None >>= goes_on []) ≡ None) [ true ↦ refl | false ↦ refl ]
escape_case (x ∷ h ∷ []) = elim (eqb x 120) as (λ b. (cond b (pending (92 ∷ x ∷ []) []) None >>= goes_on (h ∷ [])) ≡ None) [ true ↦ refl | false ↦ refl ]
escape_case (x ∷ h ∷ l ∷ bytes) = x_case (eqb x 120) x h l bytes (λ p. eqb-true _ _ p)

first_case : (b d : Bool) (c : ℕ) (bytes : List ℕ) → (d ≡ true → c ≡ 92) →
    (cond b (pending [] (c ∷ [])) (cond d (pending (c ∷ []) []) None) >>= goes_on bytes) ≡ then_text (cond b (read c bytes) (cond d (escaped_at bytes) None))
unfolding text_from
first_case true d c bytes e = refl
first_case false false c bytes e = refl
first_case false true c bytes e =
    subst (λ (y : ℕ). (pending (y ∷ []) [] >>= goes_on bytes) ≡ then_text (escaped_at bytes)) (sym (e refl))
    (elim (text_from (92 ∷ []) bytes) as (λ r. (r >>= λ t. Some ([] ++ t)) ≡ r) [ Some t ↦ refl | None ↦ refl ] ∙ escape_case bytes)

-- a text is a byte and a text
pub text_step : (c : ℕ) (bytes : List ℕ) → text_of (c ∷ bytes) ≡ then_text (text_byte_at (c ∷ bytes))
unfolding text_from text_byte_at
text_step c bytes = first_case (is_plain c) (eqb c 92) c bytes (λ p. eqb-true _ _ p)

-- what was read before, and what is still read
abbrev pub with_front : List ℕ → Option (List ℕ) → Option (List ℕ)
with_front front read = read >>= λ t. Some (front ++ t)

abbrev length_of : Option (ℕ × List ℕ) → ℕ
length_of None = 0
length_of (Some x) = suc (length x.1)

shorter_escape : (bytes : List ℕ) → length_of (escaped_at bytes) ≤ length bytes
shorter_escape [] = omega arith
shorter_escape (x ∷ []) = omega arith
shorter_escape (x ∷ h ∷ []) = omega arith
shorter_escape (x ∷ h ∷ l ∷ bytes) = elim (eqb x 120 && ltb (16 * digit_value h + digit_value l) 256 && bytes_eq (escape_byte (16 * digit_value h + digit_value l)) (92 ∷ 120 ∷ h ∷ l ∷ [])) as (λ b. length_of (cond b (read (16 * digit_value h + digit_value l) bytes) None) ≤ length (x ∷ h ∷ l ∷ bytes)) [ true ↦ omega arith | false ↦ omega arith ]

shorter_case : (b d : Bool) (c : ℕ) (bytes : List ℕ) → length_of (cond b (read c bytes) (cond d (escaped_at bytes) None)) ≤ length (c ∷ bytes)
shorter_case true d c bytes = omega arith
shorter_case false true c bytes = omega (arith, shorter_escape bytes)
shorter_case false false c bytes = omega arith

-- a byte of a text takes bytes
pub text_byte_shorter : (bytes : List ℕ) (x : ℕ × List ℕ) → text_byte_at bytes ≡ Some x → length x.1 < length bytes
unfolding text_byte_at
text_byte_shorter [] x e = absurd cc
text_byte_shorter (c ∷ bytes) x e = omega (arith, shorter_case (is_plain c) (eqb c 92) c bytes, ap length_of e)

pub text_more : (front bytes : List ℕ) (x : ℕ × List ℕ) (all : Option (List ℕ)) → 0 < length bytes → text_byte_at bytes ≡ Some x → with_front front (text_of bytes) ≡ all → with_front (front ++ x.0 ∷ []) (text_of x.1) ≡ all
text_more front [] x all some e h = absurd (omega arith)
text_more front (c ∷ bytes) x all some e h =
    let s : text_of (c ∷ bytes) ≡ (text_of x.1 >>= λ t. Some (x.0 ∷ t)) = text_step c bytes ∙ ap then_text e in
    regroup (text_of x.1) ∙ ap (with_front front) (sym s) ∙ h where
      regroup : (r : Option (List ℕ)) → with_front (front ++ x.0 ∷ []) r ≡ with_front front (r >>= λ t. Some (x.0 ∷ t))
      regroup (Some t) = ap Some (simp append_assoc)
      regroup None = refl

pub text_bad : (front bytes : List ℕ) (all : Option (List ℕ)) → 0 < length bytes → text_byte_at bytes ≡ None → with_front front (text_of bytes) ≡ all → all ≡ None
text_bad front [] all some e h = absurd (omega arith)
text_bad front (c ∷ bytes) all some e h =
    let s : text_of (c ∷ bytes) ≡ None = text_step c bytes ∙ ap then_text e in
    sym h ∙ ap (with_front front) s

pub text_done : (front bytes : List ℕ) (all : Option (List ℕ)) → length bytes ≡ 0 → with_front front (text_of bytes) ≡ all → all ≡ Some front
unfolding text_from
text_done front [] all none h = sym h ∙ ap Some (append-nil front)
text_done front (c ∷ bytes) all none h = absurd (omega arith)

pub text_ends : (e : LineFault) (front bytes : List ℕ) (all : Option (List ℕ)) → 0 < length bytes → Fails e (text_byte_at bytes) → with_front front (text_of bytes) ≡ all → Fails e all
text_ends fault.Memory front bytes all some e h = tt
text_ends fault.Bad front bytes all some e h = text_bad front bytes all some e h
