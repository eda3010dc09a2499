use Rattle.std.proofs.Common.{◌≡◌, List, ℕ, [], ◌∷◌, length, get_or, Some, map, sym, ap, subst, arith}
use Rattle.std.specs.Prelude.{◌↔◌}
use Rattle.std.proofs.lemmas.Bool.Decides.{nat_tests}
use Rattle.ftp_check_log.specs.declared.command.CheckCommand.{CheckCommand}
use Rattle.ftp_check_log.specs.CheckCommands.{AsksFor}
use Rattle.ftp_check_log.proofs.command.check_command.Goals as goal

one-item : {X : Type 0} (xs : List X) (x : X) → x ≡ get_or xs 0 x → length xs ≡ 1 → xs ≡ x ∷ []
one-item [] x is len = absurd (omega (arith, len))
one-item (y ∷ []) x is len = ap (λ z. z ∷ []) (sym is)
one-item (y ∷ z ∷ xs) x is len = absurd (omega (arith, len))

two-items : {X : Type 0} (xs : List X) (x y : X) → x ≡ get_or xs 0 x → y ≡ get_or xs 1 y → length xs ≡ 2 → xs ≡ x ∷ y ∷ []
two-items [] x y first second len = absurd (omega (arith, len))
two-items (v ∷ []) x y first second len = absurd (omega (arith, len))
two-items (v ∷ w ∷ []) x y first second len = λ i. sym first i ∷ sym second i ∷ []
two-items (v ∷ w ∷ z ∷ xs) x y first second len = absurd (omega (arith, len))

pub returns-in-len1 : goal.returns-in-len1
returns-in-len1 c =
    let len : length c.args.words.now ≡ 1 = grind (arith, nat_tests, c.in-len1.len_at_least, c.in-len1.len_below) in
    let same : map (λ w. w.items) c.args.words.now ≡ c.as_slice.result.now ∷ [] = rw (one-item c.args.words.now c.word-item.result c.word-item.is len) (ap (λ (t : List ℕ). t ∷ []) (sym c.as_slice.ensures.value)) in
    subst (λ (words : List (List ℕ)). (d : CheckCommand) → (c.lone.result ≡ Some d) ↔ AsksFor words d) (sym same) c.lone.ensures

pub returns-in-len2 : goal.returns-in-len2
returns-in-len2 c =
    let len : length c.args.words.now ≡ 2 = grind (arith, nat_tests, c.in-len2.len_at_least, c.in-len2.len_below) in
    let items = two-items c.args.words.now c.word-item-then-words-lt3.result c.place-item.result c.word-item-then-words-lt3.is c.place-item.is len in
    let same : map (λ w. w.items) c.args.words.now ≡ c.as_slice-in-len2.result.now ∷ c.as_slice-in-len2-2.result.now ∷ [] =
    rw items (λ i. sym c.as_slice-in-len2.ensures.value i ∷ sym c.as_slice-in-len2-2.ensures.value i ∷ []) in
    subst (λ (words : List (List ℕ)). (d : CheckCommand) → (c.placed.result ≡ Some d) ↔ AsksFor words d) (sym same) c.placed.ensures
