-- Names that are put one behind the other.
use Rattle.std.proofs.Common.{◌≡◌, ◌∙◌, ℕ, ◌+◌, ◌<◌, List, [], ◌∷◌, ◌++◌, length, take, map, get_or, Bor, ap, sym, arith}
use Rattle.std.specs.List.{flat_map}
use Rattle.std.proofs.lemmas.List.{get_or-map, take_more, length-map, flat_map_more}
use Rattle.ftp_places.specs.Place.{slashed}

-- one name more
pub trail-more : (items : List (Bor (List ℕ))) (i : ℕ) (d : Bor (List ℕ)) (text : List ℕ) → i < length items →
    text ≡ flat_map slashed (take i (map (λ n. n.now) items)) → text ++ slashed (get_or items i d).now ≡ flat_map slashed (take (i + 1) (map (λ n. n.now) items))
trail-more items i d text within e =
    let len : length (map (λ n. n.now) items) ≡ length items = length-map items (λ n. n.now) in
    let more : take (i + 1) (map (λ n. n.now) items) ≡ take i (map (λ n. n.now) items) ++ (get_or items i d).now ∷ [] =
    take_more (map (λ n. n.now) items) i [] (omega (arith, len))
    ∙ ap (λ (name : List ℕ). take i (map (λ n. n.now) items) ++ name ∷ []) (get_or-map (λ n. n.now) items i d [] within)
    in
    ap (λ (t : List ℕ). t ++ slashed (get_or items i d).now) e
    ∙ flat_map_more slashed [] (take i (map (λ n. n.now) items)) (get_or items i d).now
    ∙ sym (ap (flat_map slashed) more)
