-- Bytes that move in pieces.
use Rattle.std.proofs.Common.{◌≡◌, ℕ, ◌+◌, ◌-◌, List, ◌++◌, length, length-drop, take, drop, Option, Some, None, sym, ap, ◌∙◌, append_assoc, arith}
use Rattle.std.proofs.lemmas.List.{take-append-drop, drop-take, take-take, take_all}
use Rattle.ftp_base.specs.Outside.{Writes}

-- the first bytes, and then the next ones
pub take-plus : (m n : ℕ) (xs : List ℕ) → take (m + n) xs ≡ take m xs ++ take n (drop m xs)
take-plus m n xs =
    sym (take-append-drop m (take (m + n) xs))
    ∙ ap (λ (ys : List ℕ). ys ++ drop m (take (m + n) xs)) (take-take m (m + n) xs (omega arith))
    ∙ ap (λ (ys : List ℕ). take m xs ++ ys) (drop-take m n xs)

-- what is written in two pieces is written
pub Writes-more : (a b c : Option (List ℕ)) (m n : ℕ) (xs : List ℕ) →
    Writes a b (take m xs) → Writes b c (take n (drop m xs)) → Writes a c (take (m + n) xs)
Writes-more None b c m n xs first next = tt
Writes-more (Some w) b c m n xs first next =
    let after : c ≡ Some ((w ++ take m xs) ++ take n (drop m xs)) = rw first at next in
    after ∙ ap Some (append_assoc w (take m xs) (take n (drop m xs)) ∙ ap (λ (ys : List ℕ). w ++ ys) (sym (take-plus m n xs)))

-- the slice from a place on is what stands there
pub take-drop_rest : (n : ℕ) (xs : List ℕ) → take (length xs - n) (drop n xs) ≡ drop n xs
take-drop_rest n xs = take_all (length xs - n) (drop n xs) (omega (arith, length-drop n xs))
