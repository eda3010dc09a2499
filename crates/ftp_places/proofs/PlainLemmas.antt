-- The names that a path leads through are plain.
use Rattle.std.proofs.Common.{rules, ◌≡◌, ◌∙◌, ℕ, zero, suc, ◌+◌, ◌-◌, ◌<◌, ◌≤◌, ◌&&◌, not, Bool, true, false, cond, List, [], ◌∷◌, ◌++◌, length, take, map, get_or, Bor, Option, None, refl, ap, sym, arith}
use Rattle.std.specs.Prelude.{is_some}
use Rattle.std.specs.List.{list_all, list_any, slice_split, onto_first, fold}
use Rattle.std.proofs.lemmas.List.{get_or-map, take_more, length-map}
use Rattle.std.proofs.lemmas.List.Folds.{list_all-append, list_all_at}
use Rattle.std.proofs.lemmas.List.Sums.{AllPass-from_list_all, fold_push}
use Rattle.ftp_places.specs.Names.{is_separator, is_here, is_up, go, names_of, is_plain_name, is_taken_name, is_file_name}
use Rattle.ftp_places.specs.Laws.{NamesArePlain}

-- where two tests hold, each does
pub and_true : (a b : Bool) → (a && b) ≡ true → (a ≡ true) × (b ≡ true)
and_true true b e = (refl, e)
and_true false b e = absurd (search rules)

-- what all of a list pass, all of its front pass
pub list_all-take : {X : Type 0} (p : X → Bool) (n : ℕ) (xs : List X) → list_all p xs ≡ true → list_all p (take n xs) ≡ true
list_all-take p zero xs h = refl
list_all-take p (suc n) [] h = refl
list_all-take p (suc n) (x ∷ xs) h =
    let both = and_true (p x) (list_all p xs) h in
    rw (both.0, list_all-take p n xs both.1) refl

-- the name has no separator
abbrev pub is_bare : List ℕ → Bool
is_bare name = not (list_any is_separator name)

-- a byte that is no separator goes before a name that has none
onto_first-bare : (b : ℕ) (parts : List (List ℕ)) → is_separator b ≡ false → list_all is_bare parts ≡ true → list_all is_bare (onto_first b parts) ≡ true
onto_first-bare b [] other all = rw other refl
onto_first-bare b (part ∷ parts) other all = rw other all

-- no part between separators has one
pub slice_split-bare : (path : List ℕ) → list_all is_bare (slice_split is_separator path) ≡ true
slice_split-bare [] = refl
slice_split-bare (b ∷ path) = by (slice_split-bare path) (is_separator b) refl where
  by : list_all is_bare (slice_split is_separator path) ≡ true → (s : Bool) → is_separator b ≡ s → list_all is_bare (slice_split is_separator (b ∷ path)) ≡ true
  by bare true slash = rw slash bare
  by bare false other = rw other (onto_first-bare b (slice_split is_separator path) other bare)

-- a name without a separator leads from plain names to plain names
go-plain : (names : List (List ℕ)) (name : List ℕ) → list_all is_plain_name names ≡ true → is_bare name ≡ true → list_all is_plain_name (go names name) ≡ true
go-plain names name all bare = by (is_here name) refl where
  up : (u : Bool) → is_here name ≡ false → is_up name ≡ u → list_all is_plain_name (cond u (take (length names - 1) names) (names ++ name ∷ [])) ≡ true
  up true h u = list_all-take is_plain_name (length names - 1) names all
  up false h u = list_all-append is_plain_name names (name ∷ []) ∙ rw (all, h, u, bare) refl

  by : (h : Bool) → is_here name ≡ h → list_all is_plain_name (go names name) ≡ true
  by true h = rw h all
  by false h = rw h (up (is_up name) h refl)

-- parts without separators lead from plain names to plain names
fold-go-plain : (parts names : List (List ℕ)) → list_all is_plain_name names ≡ true → list_all is_bare parts ≡ true → list_all is_plain_name (fold go names parts) ≡ true
fold-go-plain [] names all bare = all
fold-go-plain (part ∷ parts) names all bare =
    let both = and_true (is_bare part) (list_all is_bare parts) bare in
    fold-go-plain parts (go names part) (go-plain names part all both.0) both.1

-- each name that a path leads through is plain
pub names_of-plain : NamesArePlain
names_of-plain path = fold-go-plain (slice_split is_separator path) [] refl (slice_split-bare path)

-- where a test fails and another holds of a name, both together fail by the first
pub and_false : (a b : Bool) → a ≡ true → (a && b) ≡ false → b ≡ false
and_false a b holds e = rw holds at e

-- of names that a path leads through, one that no file may have is one that no system takes
pub bad-name : (path : List ℕ) (i : ℕ) → i < length (names_of path) → is_file_name (get_or (names_of path) i []) ≡ false → list_all is_taken_name (names_of path) ≡ false
bad-name path i within bad =
    let name = get_or (names_of path) i [] in
    let plain : is_plain_name name ≡ true = AllPass-from_list_all is_plain_name (names_of path) (names_of-plain path) i [] within in
    list_all_at is_taken_name (names_of path) i [] within (and_false (is_plain_name name) (is_taken_name name) plain bad)

-- the names in a slice, up to one of them and with it
pub take-names : (items : List (Bor (List ℕ))) (i : ℕ) (d : Bor (List ℕ)) → i < length items →
    take (i + 1) (map (λ n. n.now) items) ≡ take i (map (λ n. n.now) items) ++ (get_or items i d).now ∷ []
take-names items i d within =
    let len : length (map (λ n. n.now) items) ≡ length items = length-map items (λ n. n.now) in
    take_more (map (λ n. n.now) items) i [] (omega (arith, len))
    ∙ ap (λ name. take i (map (λ n. n.now) items) ++ name ∷ []) (get_or-map (λ n. n.now) items i d [] within)

-- a front that is as long is the whole
pub take-whole : {A : Type 0} (n : ℕ) (xs : List A) → length xs ≤ n → take n xs ≡ xs
take-whole zero [] le = refl
take-whole zero (x ∷ xs) le = absurd (omega arith)
take-whole (suc n) [] le = refl
take-whole (suc n) (x ∷ xs) le = ap (λ ys. x ∷ ys) (take-whole n xs (omega arith))

-- of the names in a slice, one that no file may have is one that no system takes
pub bad-item : (path : List ℕ) (items : List (Bor (List ℕ))) (i : ℕ) (d : Bor (List ℕ)) (found : Option (Bor (List ℕ))) → map (λ n. n.now) items ≡ names_of path →
    i < length items → is_some found ≡ is_file_name (get_or items i d).now → found ≡ None → list_all is_taken_name (names_of path) ≡ false
bad-item path items i d found e within named none =
    let len : length (names_of path) ≡ length items = ap length (sym e) ∙ length-map items (λ n. n.now) in
    let here : get_or (names_of path) i [] ≡ (get_or items i d).now =
    ap (λ names. get_or names i []) (sym e) ∙ get_or-map (λ n. n.now) items i d [] within in
    bad-name path i (omega (arith, len)) (ap is_file_name here ∙ sym named ∙ ap is_some none)

-- names that files may have are taken by the system
pub list_all-taken : (names : List (List ℕ)) → list_all is_file_name names ≡ true → list_all is_taken_name names ≡ true
list_all-taken [] all = refl
list_all-taken (name ∷ names) all =
    let both = and_true (is_file_name name) (list_all is_file_name names) all in
    rw ((and_true (is_plain_name name) (is_taken_name name) both.0).1, list_all-taken names both.1) refl

-- one part more leads on from where the parts before it lead
pub fold-go-more : (items : List (Bor (List ℕ))) (i : ℕ) (d : Bor (List ℕ)) (names : List (List ℕ)) → i < length items →
    names ≡ fold go [] (take i (map (λ n. n.now) items)) → go names (get_or items i d).now ≡ fold go [] (take (i + 1) (map (λ n. n.now) items))
fold-go-more items i d names within e =
    ap (λ old. go old (get_or items i d).now) e ∙ sym (fold_push go [] (take i (map (λ n. n.now) items)) (get_or items i d).now)
    ∙ sym (ap (fold go []) (take-names items i d within))
