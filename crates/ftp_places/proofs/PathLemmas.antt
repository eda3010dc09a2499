-- Paths as names with a slash before each.
use Rattle.std.proofs.Common.{rules, ◌≡◌, ◌∙◌, ℕ, zero, suc, ◌+◌, ◌<◌, ◌&&◌, ◌||◌, not, Bool, true, false, List, [], ◌∷◌, ◌++◌, length, take, drop, refl, ap, sym, append_assoc, get_or, length-drop, arith}
use Rattle.std.specs.List.{list_all, list_any, slice_split, filter, All}
use Rattle.std.proofs.lemmas.List.Splits.{slice_split_none, slice_split_at, length-slice_split}
use Rattle.std.proofs.lemmas.List.{append-nil, drop_more, take_more}
use Rattle.std.proofs.lemmas.List.Sums.{length-filter}
use Rattle.ftp_places.specs.Names.{is_separator, is_here, is_up, is_plain_name, is_taken_name, is_file_name}
use Rattle.ftp_places.specs.Place.{trail_of, names_in, before_separator}
use Rattle.ftp_places.proofs.PlainLemmas.{and_true, is_bare}

-- a name that a file may have has other separator
pub is_file_name-bare : (name : List ℕ) → is_file_name name ≡ true → is_bare name ≡ true
is_file_name-bare name h =
    let plain = and_true (is_plain_name name) (is_taken_name name) h in
    (and_true (not (is_here name) && not (is_up name)) (is_bare name) plain.0).1

-- where neither of two tests holds, each does not
not_or : (a b : Bool) → not (a || b) ≡ true → (a ≡ false) × (not b ≡ true)
not_or true b e = absurd (search rules)
not_or false b e = (refl, e)

-- other byte of a name without a separator is one
pub All-from_bare : (name : List ℕ) → is_bare name ≡ true → All (λ b. is_separator b ≡ false) name
All-from_bare [] h k d lt = absurd (omega arith)
All-from_bare (b ∷ name) h zero d lt = (not_or (is_separator b) (list_any is_separator name) h).0
All-from_bare (b ∷ name) h (suc k) d lt =
    All-from_bare name (not_or (is_separator b) (list_any is_separator name) h).1 k d (omega arith)

-- the names in a path are those that it was made of
pub names_in-trail_of : (names : List (List ℕ)) → list_all is_file_name names ≡ true → names_in (trail_of names) ≡ names
names_in-trail_of [] all = refl
names_in-trail_of (name ∷ names) all =
    let both = and_true (is_file_name name) (list_all is_file_name names) all in
    by names (All-from_bare name (is_file_name-bare name both.0)) (names_in-trail_of names both.1) where
      by : (names : List (List ℕ)) → All (λ b. is_separator b ≡ false) name → names_in (trail_of names) ≡ names → slice_split is_separator (name ++ trail_of names) ≡ name ∷ names
      by [] bare ih = rw append-nil (slice_split_none is_separator name bare)
      by (next ∷ names) bare ih = slice_split_at is_separator name 47 (next ++ trail_of names) bare refl ∙ ap (λ rest. name ∷ rest) ih

-- a name without a separator goes before what stands before one
before_separator-append : (n : ℕ) (name path : List ℕ) → is_bare name ≡ true → before_separator n (name ++ path) ≡ name ++ before_separator n path
before_separator-append n [] path h = refl
before_separator-append zero (b ∷ name) path h =
    let both = not_or (is_separator b) (list_any is_separator name) h in
    rw both.0 (ap (λ rest. b ∷ rest) (before_separator-append zero name path both.1))
before_separator-append (suc n) (b ∷ name) path h =
    let both = not_or (is_separator b) (list_any is_separator name) h in
    rw both.0 (ap (λ rest. b ∷ rest) (before_separator-append (suc n) name path both.1))

-- before a separator stand as many names as separators before it
pub before_separator-trail_of : (n : ℕ) (names : List (List ℕ)) → list_all is_file_name names ≡ true → before_separator n (trail_of names) ≡ trail_of (take n names)
before_separator-trail_of zero [] all = refl
before_separator-trail_of (suc n) [] all = refl
before_separator-trail_of zero (name ∷ names) all = refl
before_separator-trail_of (suc n) (name ∷ names) all =
    let both = and_true (is_file_name name) (list_all is_file_name names) all in
    ap (λ rest. 47 ∷ rest) (before_separator-append n name (trail_of names) (is_file_name-bare name both.0)
    ∙ ap (λ rest. name ++ rest) (before_separator-trail_of n names both.1))

-- a byte that is other separator goes before what stands before one
before_separator-other : (n b : ℕ) (path : List ℕ) → is_separator b ≡ false → before_separator n (b ∷ path) ≡ b ∷ before_separator n path
before_separator-other zero b path other = rw other refl
before_separator-other (suc n) b path other = rw other refl

-- past a byte that is other separator
pub before_separator-past_other : (n i : ℕ) (path : List ℕ) → i < length path → is_separator (get_or path i 0) ≡ false →
    take i path ++ before_separator n (drop i path) ≡ take (i + 1) path ++ before_separator n (drop (i + 1) path)
before_separator-past_other n i path within other =
    let b = get_or path i 0 in
    let step : drop i path ≡ b ∷ drop (i + 1) path = drop_more path i 0 within in
    let front : take (i + 1) path ≡ take i path ++ b ∷ [] = take_more path i 0 within in
    ap (λ rest. take i path ++ before_separator n rest) step
    ∙ ap (λ rest. take i path ++ rest) (before_separator-other n b (drop (i + 1) path) other)
    ∙ sym (ap (λ t. t ++ before_separator n (drop (i + 1) path)) front ∙ append_assoc (take i path) (b ∷ []) (before_separator n (drop (i + 1) path)))

-- past a separator that is not the one
pub before_separator-past_slash : (n m i : ℕ) (path : List ℕ) → n ≡ suc m → i < length path → get_or path i 0 ≡ 47 →
    take i path ++ before_separator n (drop i path) ≡ take (i + 1) path ++ before_separator m (drop (i + 1) path)
before_separator-past_slash n m i path e within slash =
    let step : drop i path ≡ 47 ∷ drop (i + 1) path = drop_more path i 0 within ∙ ap (λ b. b ∷ drop (i + 1) path) slash in
    let front : take (i + 1) path ≡ take i path ++ 47 ∷ [] = take_more path i 0 within ∙ ap (λ b. take i path ++ b ∷ []) slash in
    ap (λ k. take i path ++ before_separator k (drop i path)) e
    ∙ ap (λ rest. take i path ++ before_separator (suc m) rest) step
    ∙ sym (ap (λ t. t ++ before_separator m (drop (i + 1) path)) front ∙ append_assoc (take i path) (47 ∷ []) (before_separator m (drop (i + 1) path)))

-- at the separator that has none before it
pub before_separator-at : (i : ℕ) (path : List ℕ) → i < length path → get_or path i 0 ≡ 47 → take i path ++ before_separator 0 (drop i path) ≡ take i path
before_separator-at i path within slash =
    let step : drop i path ≡ 47 ∷ drop (i + 1) path = drop_more path i 0 within ∙ ap (λ b. b ∷ drop (i + 1) path) slash in
    ap (λ rest. take i path ++ before_separator 0 rest) step ∙ append-nil (take i path)

-- past the end of a path there is no separator
at_end : (path : List ℕ) → drop (length path) path ≡ []
at_end [] = refl
at_end (b ∷ path) = at_end path

pub before_separator-end : (n i : ℕ) (path : List ℕ) → i ≡ length path → take i path ++ before_separator n (drop i path) ≡ take (length path) path
before_separator-end n i path e =
    ap (λ k. take k path ++ before_separator n (drop k path)) e
    ∙ ap (λ rest. take (length path) path ++ before_separator n rest) (at_end path) ∙ append-nil (take (length path) path)

-- there are as many names as separators
pub length-names_in : (path : List ℕ) → length (filter is_separator path) ≡ length (names_in path)
length-names_in path =
    omega (arith, length-filter is_separator path, length-slice_split is_separator path, length-drop 1 (slice_split is_separator path))
