-- The text of bytes, byte by byte.
use Rattle.std.proofs.Common.{◌≡◌, ◌≢◌, ◌≤◌, ◌<◌, ◌+◌, ◌++◌, ◌∷◌, [], suc, ℕ, List, Bool, true, false, length, get_or, take, drop, set, if◌then◌else◌, refl, sym, ap, ap₂, subst, ◌∙◌, arith, append_assoc, drop-cons, append-nil}
use Rattle.std.proofs.Math.Seq.{take-suc-set}
use Rattle.std.proofs.lemmas.List.{drop-set-lt, drop_all}
use Rattle.ftp_system.specs.declared.telnet.Telnet.{Telnet}
use Rattle.ftp_system.specs.Telnet.{text_in}

-- what a step from one place to the next says of a byte
abbrev pub Steps : Telnet → ℕ → Telnet → Bool → Type 0
Steps at byte next is_text =
    (bytes : List ℕ) → text_in at (byte ∷ bytes) ≡ (if is_text then byte ∷ text_in next bytes else text_in next bytes)

-- what stands from a byte on
step-one : (at next : Telnet) (is_text : Bool) (bytes : List ℕ) (i : ℕ) →
    i < length bytes →
    Steps at (get_or bytes i 0) next is_text →
    (more : List ℕ) →
    text_in at (drop i bytes ++ more)
    ≡ (if is_text then get_or bytes i 0 ∷ text_in next (drop (i + 1) bytes ++ more) else text_in next (drop (i + 1) bytes ++ more))
step-one at next is_text bytes i within steps more =
    let next_place : suc i ≡ i + 1 = omega arith in
    let byte : ℕ = get_or bytes i 0 in
    ap (λ l. text_in at (l ++ more)) (drop-cons bytes i 0 within)
    ∙ steps (drop (suc i) bytes ++ more)
    ∙ ap (λ (n : ℕ). if is_text then byte ∷ text_in next (drop n bytes ++ more) else text_in next (drop n bytes ++ more)) next_place

-- a byte that is no text is passed over
pub step-passed : (at next : Telnet) (is_text : Bool) (bytes : List ℕ) (i : ℕ) →
    i < length bytes →
    is_text ≡ false →
    Steps at (get_or bytes i 0) next is_text →
    (more : List ℕ) →
    text_in at (drop i bytes ++ more) ≡ text_in next (drop (i + 1) bytes ++ more)
step-passed at next is_text bytes i within passed steps =
    step-one at next false bytes i within (subst (Steps at (get_or bytes i 0) next) passed steps)

-- a byte of text is what the text begins with
pub step-first : (at next : Telnet) (is_text : Bool) (bytes : List ℕ) (i : ℕ) →
    i < length bytes →
    is_text ≡ true →
    Steps at (get_or bytes i 0) next is_text →
    (more : List ℕ) →
    text_in at (drop i bytes ++ more) ≡ get_or bytes i 0 ∷ text_in next (drop (i + 1) bytes ++ more)
step-first at next is_text bytes i within kept steps =
    step-one at next true bytes i within (subst (Steps at (get_or bytes i 0) next) kept steps)

-- a byte of text is kept behind the others
pub step-kept : (at next : Telnet) (is_text : Bool) (bytes now : List ℕ) (kept count i : ℕ) →
    kept ≤ i →
    i < length bytes →
    is_text ≡ true →
    now ≡ set bytes kept (get_or bytes i 0) →
    count ≡ kept + 1 →
    Steps at (get_or bytes i 0) next is_text →
    (more : List ℕ) →
    take kept bytes ++ text_in at (drop i bytes ++ more) ≡ take count now ++ text_in next (drop (i + 1) now ++ more)
step-kept at next is_text bytes now kept count i behind within is steps_now counts steps more =
    let byte : ℕ = get_or bytes i 0 in
    let one_more : suc kept ≡ count = omega (arith, counts) in
    let front : take count now ≡ take kept bytes ++ byte ∷ [] =
    ap₂ (λ (n : ℕ) (l : List ℕ). take n l) (sym one_more) steps_now ∙ take-suc-set bytes kept byte (omega (arith, behind, within)) in
    let back : drop (i + 1) now ≡ drop (i + 1) bytes =
    ap (λ l. drop (i + 1) l) steps_now ∙ drop-set-lt (i + 1) bytes kept byte (omega (arith, behind)) in
    ap (λ l. take kept bytes ++ l) (step-first at next is_text bytes i within is steps more)
    ∙ sym (append_assoc (take kept bytes) (byte ∷ []) (text_in next (drop (i + 1) bytes ++ more)))
    ∙ ap₂ (λ (f b : List ℕ). f ++ text_in next (b ++ more)) (sym front) (sym back)

-- behind the last byte only what follows is left
pub text-behind : (at : Telnet) (bytes : List ℕ) (i : ℕ) →
    length bytes ≤ i →
    (more : List ℕ) →
    text_in at (drop i bytes ++ more) ≡ text_in at more
text-behind at bytes i end more = ap (λ l. text_in at (l ++ more)) (drop_all i bytes end)

-- nothing has no text
pub text-none : (at : Telnet) → text_in at [] ≡ []
unfolding text_in
text-none at = refl

-- a byte that is no text is passed over, and nothing follows the bytes
pub step-passed-last : (at next : Telnet) (is_text : Bool) (bytes : List ℕ) (i : ℕ) →
    i < length bytes →
    is_text ≡ false →
    Steps at (get_or bytes i 0) next is_text →
    text_in at (drop i bytes) ≡ text_in next (drop (i + 1) bytes)
step-passed-last at next is_text bytes i within passed steps =
    ap (λ l. text_in at l) (sym (append-nil (drop i bytes)))
    ∙ step-passed at next is_text bytes i within passed steps []
    ∙ ap (λ l. text_in next l) (append-nil (drop (i + 1) bytes))

-- where there is a byte of text, the text is not empty
pub step-some : (at next : Telnet) (is_text : Bool) (bytes : List ℕ) (i : ℕ) →
    i < length bytes →
    is_text ≡ true →
    Steps at (get_or bytes i 0) next is_text →
    text_in at (drop i bytes) ≢ []
step-some at next is_text bytes i within is steps none =
    let spelled : text_in at (drop i bytes) ≡ get_or bytes i 0 ∷ text_in next (drop (i + 1) bytes ++ []) =
    ap (λ l. text_in at l) (sym (append-nil (drop i bytes))) ∙ step-first at next is_text bytes i within is steps [] in
    cc (spelled, none)
