-- Lists of four and of five items, as the pattern of a slice reads them.
use Rattle.std.proofs.Common.{◌≡◌, ◌∙◌, ℕ, ◌+◌, ◌<◌, List, [], ◌∷◌, length, get_or, drop, sym, ap, arith}
use Rattle.std.proofs.lemmas.List.{drop_all, drop_more}

-- the items from a place on, of which the first is known
next : {X : Type 0} (items : List X) (i : ℕ) (x : X) → i < length items → x ≡ get_or items i x → drop i items ≡ x ∷ drop (i + 1) items
next items i x lt is = drop_more items i x lt ∙ ap (λ y. y ∷ drop (i + 1) items) (sym is)

-- four items
pub four-items : {X : Type 0} (items : List X) (b c d : X) → length items ≡ 4 → b ≡ get_or items 1 b → c ≡ get_or items 2 c → d ≡ get_or items 3 d →
    items ≡ get_or items 0 b ∷ b ∷ c ∷ d ∷ []
four-items items b c d len p q r =
    let last = next items 3 d (omega arith) r ∙ ap (λ xs. d ∷ xs) (drop_all 4 items (omega arith)) in
    drop_more items 0 b (omega arith)
    ∙ ap (λ xs. get_or items 0 b ∷ xs) (next items 1 b (omega arith) p ∙ ap (λ xs. b ∷ xs) (next items 2 c (omega arith) q ∙ ap (λ xs. c ∷ xs) last))

-- five items
pub five-items : {X : Type 0} (items : List X) (b c d e : X) → length items ≡ 5 → b ≡ get_or items 1 b → c ≡ get_or items 2 c → d ≡ get_or items 3 d → e ≡ get_or items 4 e →
    items ≡ get_or items 0 b ∷ b ∷ c ∷ d ∷ e ∷ []
five-items items b c d e len p q r t =
    let last = next items 3 d (omega arith) r ∙ ap (λ xs. d ∷ xs) (next items 4 e (omega arith) t ∙ ap (λ xs. e ∷ xs) (drop_all 5 items (omega arith))) in
    drop_more items 0 b (omega arith)
    ∙ ap (λ xs. get_or items 0 b ∷ xs) (next items 1 b (omega arith) p ∙ ap (λ xs. b ∷ xs) (next items 2 c (omega arith) q ∙ ap (λ xs. c ∷ xs) last))
