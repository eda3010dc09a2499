-- Bytes of a source that are read piece by piece, up to a line feed.
use Rattle.std.proofs.Common.{◌≡◌, ℕ, ◌<◌, inl, inr, List, [], ◌++◌, length, take, drop, Option, Some, None, refl, sym, ap, subst, ◌∙◌, append_assoc, arith}
use Rattle.std.specs.List.{position_or_len}
use Rattle.std.specs.Prelude.{IfSome}
use Rattle.std.proofs.lemmas.Bool.{cases_lt}
use Rattle.std.proofs.lemmas.List.{length-append, take-append-drop}
use Rattle.ftp_base.specs.Outside.{ReadsFront}
use Rattle.ftp_control.specs.Lines.{is_line_feed, Rest}
use Rattle.ftp_control.proofs.ControlLineLemmas.{position_or_len-le}
use Rattle.ftp_control.proofs.LineLemmas.{pos_found, pos_none}
use Rattle.ftp_check_log.specs.Pending.{HasFeed, ShowsLine}

-- a line feed among the last bytes is one among all
pub feed-behind : (xs ys : List ℕ) → HasFeed ys → HasFeed (xs ++ ys)
feed-behind xs ys feed =
    elim (cases_lt (position_or_len is_line_feed xs) (length xs)) [
      | inl less ↦ omega (arith, less, pos_found xs ys (position_or_len is_line_feed xs) refl less, length-append xs ys)
      | inr ge ↦ omega (arith, feed, pos_none xs ys (omega (arith, ge, position_or_len-le xs)), length-append xs ys)
    ]

-- a piece was read behind the bytes
pub piece-rest : (bytes out : List ℕ) (n : ℕ) (now later : Option (List ℕ)) (all : List ℕ) → Rest bytes now all → IfSome now (λ l. ReadsFront l later n out) → Rest (bytes ++ take n out) later all
piece-rest bytes out n None later all rest read = absurd rest
piece-rest bytes out n (Some l) later all rest read =
    subst (λ (o : Option (List ℕ)). Rest (bytes ++ take n out) o all) (sym read.rest)
    (append_assoc bytes (take n out) (drop n l)
    ∙ ap (λ (x : List ℕ). bytes ++ (x ++ drop n l)) read.front
    ∙ ap (λ (x : List ℕ). bytes ++ x) (take-append-drop n l)
    ∙ rest)

-- nothing was left
pub end-left : (out : List ℕ) (n : ℕ) (now later : Option (List ℕ)) → 0 < length out → n ≡ 0 → IfSome now (λ l. ReadsFront l later n out) → IfSome now (λ l. (later ≡ Some []) × (l ≡ []))
end-left out n None later room none read = tt
end-left out n (Some l) later room none read =
    let nil : l ≡ [] = read.end room none in
    (read.rest ∙ ap (λ (m : ℕ). Some (drop m l)) none ∙ ap Some nil, nil)

pub end-rest : (bytes out : List ℕ) (n : ℕ) (now later : Option (List ℕ)) (all : List ℕ) → 0 < length out → n ≡ 0 → Rest bytes now all → IfSome now (λ l. ReadsFront l later n out) → Rest bytes later all
end-rest bytes out n None later all room none rest read = absurd rest
end-rest bytes out n (Some l) later all room none rest read =
    let end = end-left out n (Some l) later room none read in
    subst (λ (o : Option (List ℕ)). Rest bytes o all) (sym end.0) (ap (λ (x : List ℕ). bytes ++ x) (sym end.1) ∙ rest)

-- nothing was left, so the bytes show their line
pub end-shown : (bytes out : List ℕ) (n : ℕ) (first now later : Option (List ℕ)) (all : List ℕ) → 0 < length out → n ≡ 0 → IfSome first (λ l. Rest bytes now (all ++ l)) → IfSome now (λ l. ReadsFront l later n out) →
    IfSome first (λ l. ShowsLine bytes later)
end-shown bytes out n None now later all room none rest read = tt
end-shown bytes out n (Some f) None later all room none rest read = absurd rest
end-shown bytes out n (Some f) (Some l) later all room none rest read = inr (inl (end-left out n (Some l) later room none read).0)

-- what holds of whatever is told
pub if_some : {A : Type 0} (o : Option A) (P : Type 0) → P → IfSome o (λ _. P)
if_some None P p = tt
if_some (Some x) P p = p
