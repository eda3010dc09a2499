-- A path for the system as a root and the names behind it.
use Rattle.std.proofs.Common.{rules, ◌≡◌, ◌∙◌, ℕ, ◌+◌, ◌<◌, ◌≤◌, true, List, [], ◌∷◌, ◌++◌, length, take, drop, map, get_or, Bor, refl, ap, sym, append_assoc, length-append, arith}
use Rattle.std.specs.List.{list_all}
use Rattle.std.proofs.lemmas.Grind.{flat_map-append}
use Rattle.std.proofs.Math.Seq.{take-append_seam, drop-append_seam, take-append-add}
use Rattle.std.proofs.lemmas.List.{take-append-drop, length-take-le, length-map}
use Rattle.std.proofs.lemmas.List.Folds.{list_all-append}
use Rattle.ftp_places.specs.Names.{is_file_name}
use Rattle.ftp_places.specs.Place.{below_by, slashed, trail_of, names_in, location_of, HasNames, before_separator, system_path}
use Rattle.ftp_places.proofs.PlainLemmas.{list_all-take, take-names, take-whole}
use Rattle.ftp_places.proofs.PathLemmas.{names_in-trail_of, before_separator-trail_of}

-- a root with names behind it stands for the place of these names, which files may have
pub location_of-made : (root text : List ℕ) (names : List (List ℕ)) (n : ℕ) → length root ≡ n → list_all is_file_name names ≡ true → text ≡ root ++ trail_of names →
    HasNames text n × (location_of text n ≡ below_by root names)
location_of-made root text names n len all e =
    let front : take n text ≡ root = ap (λ k. take k text) (sym len) ∙ ap (take (length root)) e ∙ take-append_seam root (trail_of names) in
    let rest : drop n text ≡ trail_of names = ap (λ k. drop k text) (sym len) ∙ ap (drop (length root)) e ∙ drop-append_seam root (trail_of names) in
    let same : names_in (drop n text) ≡ names = ap names_in rest ∙ names_in-trail_of names all in
    let within : n ≤ length text = omega (arith, len, ap length e, length-append root (trail_of names)) in (
      record { within = within; path = rest ∙ ap trail_of (sym same); all = ap (list_all is_file_name) same ∙ all },
      ap (λ r. below_by r (names_in (drop n text))) front ∙ ap (below_by root) same,
    )

-- the path of names and one more
pub trail_of-more : (names : List (List ℕ)) (name : List ℕ) → trail_of (names ++ name ∷ []) ≡ trail_of names ++ slashed name
trail_of-more names name = flat_map-append slashed names (name ∷ []) ∙ ap (λ rest. trail_of names ++ rest) (search rules)

-- files may have names, and one more that a file may have
pub list_all-more : (names : List (List ℕ)) (name : List ℕ) → list_all is_file_name names ≡ true → is_file_name name ≡ true → list_all is_file_name (names ++ name ∷ []) ≡ true
list_all-more names name all one = list_all-append is_file_name names (name ∷ []) ∙ rw (all, one) refl

-- the path for the system is that of the place that it stands for
pub HasNames-system_path : (text : List ℕ) (root : ℕ) → HasNames text root → text ≡ system_path (location_of text root)
HasNames-system_path text root h = sym (take-append-drop root text) ∙ ap (λ rest. take root text ++ rest) h.path

-- a front of a path for the system, up to the slash that has n before it, is the root with the first n names
pub take-front : (text : List ℕ) (root end n : ℕ) → HasNames text root → take end (drop root text) ≡ before_separator n (drop root text) →
    take (root + end) text ≡ take root text ++ trail_of (take n (names_in (drop root text)))
take-front text root end n h e =
    let behind = drop root text in
    let whole : take root text ++ behind ≡ text = take-append-drop root text in
    let len : length (take root text) ≡ root = length-take-le root text h.within in
    let cut : take (length (take root text) + end) (take root text ++ behind) ≡ take root text ++ take end behind =
    take-append-add (take root text) behind end in
    let front : take end behind ≡ trail_of (take n (names_in behind)) =
    e ∙ ap (before_separator n) h.path ∙ before_separator-trail_of n (names_in behind) h.all in
    ap (take (root + end)) (sym whole) ∙ ap (λ k. take (k + end) (take root text ++ behind)) (sym len) ∙ cut
    ∙ ap (λ rest. take root text ++ rest) front

-- a path for the system with a name more stands for the place of that name
pub location_of-more : (text more name : List ℕ) (root : ℕ) → HasNames text root → is_file_name name ≡ true → more ≡ text ++ slashed name →
    HasNames more root × (location_of more root ≡ below_by (take root text) (names_in (drop root text) ++ name ∷ []))
location_of-more text more name root h one e =
    let names = names_in (drop root text) in
    let front = take root text in
    let grown : more ≡ front ++ trail_of (names ++ name ∷ []) =
    e ∙ ap (λ t. t ++ slashed name) (HasNames-system_path text root h) ∙ append_assoc front (trail_of names) (slashed name)
    ∙ ap (λ rest. front ++ rest) (sym (trail_of-more names name)) in
    location_of-made front more (names ++ name ∷ []) root (length-take-le root text h.within) (list_all-more names name h.all one) grown

-- a front of a path for the system stands for the place of the first names
pub location_of-front : (text more : List ℕ) (root end n : ℕ) → HasNames text root → take end (drop root text) ≡ before_separator n (drop root text) →
    more ≡ take (root + end) text →
    HasNames more root × (location_of more root ≡ below_by (take root text) (take n (names_in (drop root text))))
location_of-front text more root end n h e cut =
    location_of-made (take root text) more (take n (names_in (drop root text))) root (length-take-le root text h.within)
    (list_all-take is_file_name n (names_in (drop root text)) h.all) (cut ∙ take-front text root end n h e)

-- a name more that a file may have comes behind a root and the names before it
pub placed-more : (items : List (Bor (List ℕ))) (i : ℕ) (d : Bor (List ℕ)) (root text more name : List ℕ) → i < length items →
    name ≡ (get_or items i d).now → true ≡ is_file_name (get_or items i d).now →
    list_all is_file_name (take i (map (λ n. n.now) items)) ≡ true → text ≡ root ++ trail_of (take i (map (λ n. n.now) items)) → more ≡ text ++ slashed name →
    (list_all is_file_name (take (i + 1) (map (λ n. n.now) items)) ≡ true) × (more ≡ root ++ trail_of (take (i + 1) (map (λ n. n.now) items)))
placed-more items i d root text more name within at good all e grown =
    let before = take i (map (λ n. n.now) items) in
    let item = (get_or items i d).now in
    let front : take (i + 1) (map (λ n. n.now) items) ≡ before ++ item ∷ [] = take-names items i d within in (
      ap (list_all is_file_name) front ∙ list_all-more before item all (sym good),
      grown ∙ ap (λ t. t ++ slashed name) e ∙ append_assoc root (trail_of before) (slashed name) ∙ ap (λ n. root ++ (trail_of before ++ slashed n)) at
          ∙ ap (λ rest. root ++ rest) (sym (trail_of-more before item)) ∙ ap (λ names. root ++ trail_of names) (sym front),
    )

-- all names come behind the root
pub placed-all : (items : List (Bor (List ℕ))) (i : ℕ) (names : List (List ℕ)) (root text : List ℕ) → map (λ n. n.now) items ≡ names → length items ≤ i →
    list_all is_file_name (take i (map (λ n. n.now) items)) ≡ true → text ≡ root ++ trail_of (take i (map (λ n. n.now) items)) →
    (list_all is_file_name names ≡ true) × (text ≡ root ++ trail_of names)
placed-all items i names root text same le all e =
    let len : length (map (λ n. n.now) items) ≡ length items = length-map items (λ n. n.now) in
    let whole : take i (map (λ n. n.now) items) ≡ names = take-whole i (map (λ n. n.now) items) (omega (arith, len)) ∙ same in
    (ap (list_all is_file_name) (sym whole) ∙ all, e ∙ ap (λ ns. root ++ trail_of ns) whole)
