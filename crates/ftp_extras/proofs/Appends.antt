-- Texts that are put behind a text, one after the other.
use Rattle.std.proofs.Common.{◌≡◌, ◌∙◌, ℕ, List, [], ◌++◌, append_assoc, ap, sym}
use Rattle.std.proofs.lemmas.List.{append-nil}

-- three texts put one after the other
pub three-lines : (a b c t1 t2 t3 : List ℕ) → t1 ≡ a → t2 ≡ t1 ++ b → t3 ≡ t2 ++ c → t3 ≡ a ++ (b ++ (c ++ []))
three-lines a b c t1 t2 t3 e1 e2 e3 =
    e3 ∙ ap (λ (t : List ℕ). t ++ c) (e2 ∙ ap (λ (t : List ℕ). t ++ b) e1) ∙ append_assoc a b c
    ∙ ap (λ (t : List ℕ). a ++ (b ++ t)) (sym (append-nil c))
