-- Where uploads stand until they came whole.
use Rattle.std.proofs.Common.{◌≡◌, ◌∙◌, ℕ, suc, ◌-◌, ◌≤◌, List, [], ◌∷◌, ◌++◌, map, length, take, get_or, Bor, sym, ap, arith}
use Rattle.std.proofs.lemmas.List.{length-map, map-append}
use Rattle.std.proofs.Math.Seq.{take-append_seam, take-length, take-suc}
use Rattle.ftp_places.specs.Place.{Location, below_by}
use Rattle.ftp_disk.specs.Visible.{IsBeside, upload_mark}

-- the names before the last one
pub dir-of :
    (dir : List (Bor (List ℕ))) (last : Bor (List ℕ)) →
    take (length dir) (map (λ n. n.now) (dir ++ last ∷ [])) ≡ map (λ n. n.now) dir
dir-of dir last =
    ap (take (length dir)) (map-append (λ n. n.now) dir (last ∷ []))
    ∙ ap (λ k. take k (map (λ (n : Bor (List ℕ)). n.now) dir ++ last.now ∷ [])) (sym (length-map dir (λ (n : Bor (List ℕ)). n.now)))
    ∙ take-append_seam (map (λ n. n.now) dir) (last.now ∷ [])

-- a list that is not empty is what stands before its last element, and that
pub split-last :
    {A : Type 0} (l : List A) (d : A) → 1 ≤ length l → l ≡ take (length l - 1) l ++ get_or l (length l - 1) d ∷ []
split-last l d some =
    let e : length l ≡ suc (length l - 1) = omega arith in
    sym (take-length l) ∙ ap (λ k. take k l) e ∙ take-suc l (length l - 1) d (omega arith)

-- an upload stands under the directory of its path, where that has so many names before the last one
pub IsBeside-last :
    (root : List ℕ) (names : List (List ℕ)) (parts dir : List (Bor (List ℕ))) (last : Bor (List ℕ)) (front from : Location) →
    map (λ n. n.now) parts ≡ names → parts ≡ dir ++ last ∷ [] →
    front ≡ below_by root (take (length dir) names) →
    from ≡ below_by front.root (front.names ++ (upload_mark ++ last.now) ∷ []) →
    IsBeside (below_by root names) from
IsBeside-last root names parts dir last front from named split at child =
    let all : names ≡ map (λ n. n.now) (dir ++ last ∷ []) = sym named ∙ ap (map (λ (n : Bor (List ℕ)). n.now)) split in
    record {
      dir = map (λ n. n.now) dir;
      name = last.now;
      to = ap (below_by root) (all ∙ map-append (λ n. n.now) dir (last ∷ []));
      beside =
          child
          ∙ ap (λ (f : Location). below_by f.root (f.names ++ (upload_mark ++ last.now) ∷ [])) at
          ∙ ap (λ ns. below_by root (ns ++ (upload_mark ++ last.now) ∷ [])) (ap (take (length dir)) all ∙ dir-of dir last);
    }
