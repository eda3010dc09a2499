-- Texts with digits behind a colon.
use Rattle.std.proofs.Common.{◌≡◌, ℕ, ◌+◌, ◌-◌, ◌<◌, ◌≤◌, suc, true, false, true≢false, List, ◌∷◌, ◌++◌, length, get_or, take, drop, Some, None, sym, ap, ap₂, ◌∙◌, lt_of_not-le, length-append, take-append-drop, drop-cons, get_or-append-add, arith}
use Rattle.std.specs.Prelude.{◌==◌}
use Rattle.std.specs.List.{list_all}
use Rattle.std.specs.Char.{is_ascii_digit}
use Rattle.std.proofs.Math.Seq.{get_or-append_seam, take-append_seam, drop-append-add}
use Rattle.ftp_proxy.proofs.Numbers.{digit_in_range}

-- nothing is no number
pub no-number : (n : ℕ) → None ≡ Some n → ⊥
no-number n e = absurd (cc e)

-- the digits begin behind the last colon
pub behind-colon : (text host digits : List ℕ) (behind : ℕ) →
    text ≡ host ++ 58 ∷ digits →
    list_all is_ascii_digit digits ≡ true →
    behind ≤ length text →
    (0 < behind → get_or text (behind - 1) 0 ≡ 58) →
    ((k : ℕ) → behind ≤ k → k < length text → (get_or text k 0 == 58) ≡ false) →
    behind ≡ length host + 1
behind-colon text host digits behind spelled all within colon last =
    let long : length text ≡ length host + suc (length digits) = ap length spelled ∙ length-append host (58 ∷ digits) in
    let here : get_or text (length host) 0 ≡ 58 = ap (λ l. get_or l (length host) 0) spelled ∙ get_or-append_seam host 58 digits 0 in
    let low : length host < behind = lt_of_not-le (λ le. true≢false (sym (ap (λ (b : ℕ). b == 58) here) ∙ last (length host) le (omega (arith, long)))) in
    let high : behind < length host + 2 = lt_of_not-le (λ le.
    let j : ℕ = behind - 2 - length host in
    let there : get_or text (behind - 1) 0 ≡ get_or digits j 0 =
    ap (λ l. get_or l (behind - 1) 0) spelled ∙ ap (λ k. get_or (host ++ 58 ∷ digits) k 0) (omega arith) ∙ get_or-append-add host (58 ∷ digits) (suc j) 0 in
    let digit = digit_in_range digits j all (omega (arith, long)) in
    omega (arith, colon (omega arith), there, digit.1)) in
    omega (arith, low, high)

-- what stands before the colon and what stands behind it
pub cut-colon : (text host digits : List ℕ) (behind : ℕ) →
    text ≡ host ++ 58 ∷ digits →
    behind ≡ length host + 1 →
    (host ≡ take (behind - 1) text) × (digits ≡ drop behind text)
cut-colon text host digits behind spelled at = (
  sym (ap (λ n. take n text) (omega (arith, at)) ∙ ap (λ l. take (length host) l) spelled ∙ take-append_seam host (58 ∷ digits)),
  sym (ap (λ n. drop n text) at ∙ ap (λ l. drop (length host + 1) l) spelled ∙ drop-append-add host (58 ∷ digits) 1),
)

-- a text is what stands before a colon, the colon, and what stands behind it
pub join-colon : (text : List ℕ) (behind : ℕ) →
    0 < behind →
    behind ≤ length text →
    get_or text (behind - 1) 0 ≡ 58 →
    text ≡ take (behind - 1) text ++ 58 ∷ drop behind text
join-colon text behind some within colon =
    let next : suc (behind - 1) ≡ behind = omega arith in
    let rest : drop (behind - 1) text ≡ 58 ∷ drop behind text =
    drop-cons text (behind - 1) 0 (omega arith) ∙ ap₂ (λ (x : ℕ) (l : List ℕ). x ∷ l) colon (ap (λ n. drop n text) next) in
    sym (take-append-drop (behind - 1) text) ∙ ap (λ l. take (behind - 1) text ++ l) rest
