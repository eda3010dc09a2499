-- Texts cut at a byte.
use Rattle.std.proofs.Common.{◌≡◌, ℕ, ◌+◌, ◌<◌, true, false, List, [], ◌∷◌, length, get_or, take, drop, None, refl, ap, ◌∙◌, arith}
use Rattle.std.specs.Prelude.{◌==◌}
use Rattle.std.specs.List.{position_or_len}
use Rattle.std.proofs.lemmas.List.{get_or_default}
use Rattle.std.proofs.lemmas.List.Sums.{position_or_len_is}
use Rattle.std.proofs.lemmas.List.Splits.{slice_split_none, slice_split_first, length-slice_split}
use Rattle.ftp_proxy.specs.Header.{pieces, four}

-- the first piece ends at the first byte c
pub pieces-found : (c : ℕ) (text : List ℕ) (i : ℕ) →
    i < length text →
    ((k : ℕ) → k < i → (get_or text k 0 == c) ≡ false) →
    (get_or text i 0 == c) ≡ true →
    pieces c text ≡ take i text ∷ pieces c (drop (i + 1) text)
pieces-found c text i lt before found =
    let at : position_or_len (λ b. b == c) text ≡ i = position_or_len_is (λ b. b == c) text i 0 (omega arith) before (λ inside. found) in
    slice_split_first (λ b. b == c) text 0 (omega (arith, at)) ∙ ap (λ (n : ℕ). take n text ∷ pieces c (drop (n + 1) text)) at

-- where there is no byte c, the text is the one piece
pub pieces-none : (c : ℕ) (text : List ℕ) → ((k : ℕ) → k < length text → (get_or text k 0 == c) ≡ false) → pieces c text ≡ text ∷ []
pieces-none c text none = slice_split_none (λ b. b == c) text (λ k d lt. ap (λ (b : ℕ). b == c) (get_or_default text k d 0 lt) ∙ none k lt)

-- a text has a piece at least
pub pieces-some : (c : ℕ) (text : List ℕ) → 0 < length (pieces c text)
pieces-some c text = omega (arith, length-slice_split (λ b. b == c) text)

-- with a fifth piece there are not four
pub four-more : {A : Type 0} (a b c d : A) (more : List A) → 0 < length more → four (a ∷ b ∷ c ∷ d ∷ more) ≡ None
four-more a b c d [] some = absurd (omega arith)
four-more a b c d (e ∷ more) some = refl
