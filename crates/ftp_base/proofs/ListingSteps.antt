-- The children of a directory up to a path, step by step.
use Rattle.std.proofs.Common.{◌≡◌, ℕ, Bool, true, false, cond, T, ◌&&◌, List, [], ◌∷◌, Option, Some, None, refl, sym, ap, ◌∙◌, subst}
use Rattle.std.specs.Prelude.{IsSome, filter, fold}
use Rattle.std.specs.FinMap as map
use Rattle.std.specs.FinMap.{find, is_sorted}
use Rattle.std.specs.FinMap.Entries.{below_all, find-where_key, is_sorted-where_key}
use Rattle.std.specs.declared.cmp.Ordering.{Ordering}
use Rattle.std.specs.declared.cmp.Ordering.TheVariants.{Less, Equal, Greater}
use Rattle.std.specs.Cmp.{Equal-is}
use Rattle.std.specs.Ordering.{is_eq, is_lt, eq_by_cmp, ordering_then}
use Rattle.std.proofs.lemmas.Bool.{false_from_ne_true}
use Rattle.ftp_base.specs.declared.storage.Meta.{Meta}
use Rattle.ftp_base.specs.Storage.{Item, Files, name, meta_of, is_child, place_cmp, with_place, children}
use Rattle.ftp_base.proofs.Files.{paths_apart}
use Rattle.ftp_base.proofs.MemoryListing.{place_total}
use Rattle.ftp_base.proofs.PathOrder.{path_cmp}

both_equal : (r s : Ordering) → ordering_then r s ≡ Equal → (r ≡ Equal) × (s ≡ Equal)
both_equal Less s e = cc
both_equal Equal s e = (refl, e)
both_equal Greater s e = cc

-- only equal places tie
pub places_apart : map.IsAntisymmetric place_cmp
places_apart x y e =
    let parts = both_equal (path_cmp x.0 y.0) (path_cmp x.1 y.1) e in
    let names = paths_apart x.0 y.0 parts.0 in
    let paths = paths_apart x.1 y.1 parts.1 in
    λ i. (names i, paths i)

-- the children whose paths come before this one
abbrev pub children_before : Files → List ℕ → List ℕ → map.FinMap place_cmp Meta
children_before files dir from = map.retain_keys (children files dir) (λ place. is_lt (path_cmp place.1 from))

-- what is told of what was found under a name
abbrev pub told : Bool → Option Item → Option Meta → Option Meta
told named None old = old
told named (Some i) old = cond named (Some (meta_of i)) old

find-below : (q : List ℕ) (es : List (List ℕ × Item)) → T (below_all path_cmp q es) → find path_cmp q es ≡ None
find-below q [] below = refl
find-below q (e ∷ es) below = by (path_cmp q e.0) refl below (find-below q es)
  where
    by : (o : Ordering) → path_cmp q e.0 ≡ o → T (is_lt o && below_all path_cmp q es) → (T (below_all path_cmp q es) → find path_cmp q es ≡ None) →
        cond (is_eq (path_cmp q e.0)) (Some e.1) (find path_cmp q es) ≡ None
    by Less is b rest = rw is (rest b)
    by Equal is b rest = absurd b
    by Greater is b rest = absurd b

then_equal : (r s : Ordering) → s ≡ Equal → is_eq (ordering_then r s) ≡ is_eq r
then_equal Less s e = refl
then_equal Equal s e = ap is_eq e
then_equal Greater s e = refl

then_apart : (r s : Ordering) → is_eq s ≡ false → is_eq (ordering_then r s) ≡ false
then_apart Less s e = refl
then_apart Equal s e = e
then_apart Greater s e = refl

in_order : (e : List ℕ × Item) (es : List (List ℕ × Item)) → T (is_sorted path_cmp (e ∷ es)) → T (below_all path_cmp e.0 es) × T (is_sorted path_cmp es)
in_order e es sorted = by (below_all path_cmp e.0 es) sorted
  where
    by : (b : Bool) → T (b && is_sorted path_cmp es) → T b × T (is_sorted path_cmp es)
    by true s = (tt, s)
    by false s = absurd s

-- what is found under a name and a path when entries were put under theirs
get-fold : (es : List (List ℕ × Item)) (places : map.FinMap place_cmp Meta) (n q : List ℕ) → T (is_sorted path_cmp es) →
    map.get (fold with_place places es) (n, q) ≡ told (eq_by_cmp path_cmp n (name q)) (find path_cmp q es) (map.get places (n, q))
get-fold [] places n q sorted = refl
get-fold (e ∷ es) places n q sorted =
    let parts = in_order e es sorted in
    get-fold es (with_place places e) n q parts.1
    ∙ ap (told (eq_by_cmp path_cmp n (name q)) (find path_cmp q es)) (map.get-insert place_total places (name e.0, e.0) (meta_of e.1) (n, q))
    ∙ by (path_cmp q e.0) refl
  where
    by : (o : Ordering) → path_cmp q e.0 ≡ o →
        told (eq_by_cmp path_cmp n (name q)) (find path_cmp q es) (cond (is_eq (ordering_then (path_cmp n (name e.0)) (path_cmp q e.0))) (Some (meta_of e.1)) (map.get places (n, q)))
        ≡ told (eq_by_cmp path_cmp n (name q)) (cond (is_eq (path_cmp q e.0)) (Some e.1) (find path_cmp q es)) (map.get places (n, q))
    by Less is = rw (is, then_apart (path_cmp n (name e.0)) Less refl) refl
    by Equal is =
        let same : q ≡ e.0 = paths_apart q e.0 is in
        let none : find path_cmp q es ≡ None = find-below q es (subst (λ (k : List ℕ). T (below_all path_cmp k es)) (sym same) (in_order e es sorted).0) in
        rw (none, is, then_equal (path_cmp n (name e.0)) Equal refl, same) refl
    by Greater is = rw (is, then_apart (path_cmp n (name e.0)) Greater refl) refl

-- what is told of the child at a place
get-children : (files : Files) (dir n q : List ℕ) →
    map.get (children files dir) (n, q) ≡ told (eq_by_cmp path_cmp n (name q)) (cond (is_child dir q) (map.get files q) None) None
get-children files dir n q =
    let sorted = is_sorted-where_key path_cmp (is_child dir) (map.entries files) (map.entries_sorted files) in
    let alike : (x : List ℕ) → path_cmp q x ≡ Equal → is_child dir x ≡ is_child dir q = λ x e. ap (is_child dir) (sym (paths_apart q x e)) in
    get-fold (filter (λ e. is_child dir e.0) (map.entries files)) map.empty n q sorted
    ∙ ap (λ (o : Option Item). told (eq_by_cmp path_cmp n (name q)) o (map.get (map.empty {X = Meta} {R = place_cmp}) (n, q)))
    (find-where_key path_cmp (is_child dir) q alike (map.entries files) ∙ ap (λ (o : Option Item). cond (is_child dir q) o None) (sym (map.get-entries files q)))
    ∙ ap (told (eq_by_cmp path_cmp n (name q)) (cond (is_child dir q) (map.get files q) None)) (map.get-empty place_cmp (n, q))

either : (a b : Bool) (o : Option Meta) → (IsSome o → a ≡ b) → cond a o None ≡ cond b o None
either true true None same = refl
either true false None same = refl
either false true None same = refl
either false false None same = refl
either a b (Some x) same = ap (λ (c : Bool). cond c (Some x) None) (same refl)

some-told : (named child : Bool) (o : Option Item) → IsSome (told named (cond child o None) None) → (child ≡ true) × IsSome o
some-told named true (Some i) some = (refl, refl)
some-told named true None some = cc
some-told named false o some = cc

-- a place that is told of is that of a child
child-there : (files : Files) (dir n q : List ℕ) → IsSome (map.get (children files dir) (n, q)) → (is_child dir q ≡ true) × IsSome (map.get files q)
child-there files dir n q some =
    some-told (eq_by_cmp path_cmp n (name q)) (is_child dir q) (map.get files q) (rw (get-children files dir n q) at some)

get-before : (files : Files) (dir from n q : List ℕ) →
    map.get (children_before files dir from) (n, q) ≡ cond (is_lt (path_cmp q from)) (map.get (children files dir) (n, q)) None
get-before files dir from n q =
    map.get-retain_keys (children files dir) (λ place. is_lt (path_cmp place.1 from)) (n, q)
    (λ x e. ap (λ (place : List ℕ × List ℕ). is_lt (path_cmp place.1 from)) (sym (places_apart (n, q) x e)))

-- no child comes before what all begin with
pub before-front : (files : Files) (dir from : List ℕ) → ((q : List ℕ) → is_child dir q ≡ true → is_lt (path_cmp q from) ≡ false) →
    children_before files dir from ≡ map.empty
before-front files dir from later =
    map.same_map place_total places_apart _ _ (λ p.
    get-before files dir from p.0 p.1
    ∙ either (is_lt (path_cmp p.1 from)) false (map.get (children files dir) p) (λ some. later p.1 (child-there files dir p.0 p.1 some).0)
    ∙ sym (map.get-empty place_cmp p))

-- all children come before what is behind them
pub before-end : (files : Files) (dir from : List ℕ) → ((q : List ℕ) → is_child dir q ≡ true → IsSome (map.get files q) → is_lt (path_cmp q from) ≡ true) →
    children_before files dir from ≡ children files dir
before-end files dir from earlier =
    map.same_map place_total places_apart _ _ (λ p.
    get-before files dir from p.0 p.1
    ∙ either (is_lt (path_cmp p.1 from)) true (map.get (children files dir) p) (λ some. let there = child-there files dir p.0 p.1 some in earlier p.1 there.0 there.1))

-- between these two no child comes but the one at this path
abbrev pub Passes : Files → List ℕ → List ℕ → List ℕ → List ℕ → Type 0
Passes files dir from path next =
    (q : List ℕ) → is_child dir q ≡ true → IsSome (map.get files q) → eq_by_cmp path_cmp q path ≡ false → is_lt (path_cmp q from) ≡ is_lt (path_cmp q next)

-- a path that is no child adds none
pub before-other : (files : Files) (dir from path next : List ℕ) → Passes files dir from path next → is_child dir path ≡ false →
    children_before files dir from ≡ children_before files dir next
before-other files dir from path next passes other =
    map.same_map place_total places_apart _ _ (λ p.
    get-before files dir from p.0 p.1
    ∙ either (is_lt (path_cmp p.1 from)) (is_lt (path_cmp p.1 next)) (map.get (children files dir) p)
    (λ some. let there = child-there files dir p.0 p.1 some in passes p.1 there.0 there.1 (apart p.1 there.0))
    ∙ sym (get-before files dir next p.0 p.1))
  where
    apart : (q : List ℕ) → is_child dir q ≡ true → eq_by_cmp path_cmp q path ≡ false
    apart q child =
        false_from_ne_true (eq_by_cmp path_cmp q path) (λ same.
        let equal : q ≡ path = paths_apart q path ((Equal-is (path_cmp q path)).0 same) in
        let no : is_child dir path ≡ true = sym (ap (is_child dir) equal) ∙ child in
        cc (no, other))

-- a child adds itself
pub before-child : (files : Files) (dir from path next : List ℕ) (i : Item) → Passes files dir from path next →
    is_child dir path ≡ true → map.get files path ≡ Some i → is_lt (path_cmp path from) ≡ false → is_lt (path_cmp path next) ≡ true →
    children_before files dir next ≡ with_place (children_before files dir from) (path, i)
before-child files dir from path next i passes child there late early =
    map.same_map place_total places_apart _ _ (λ p.
    get-before files dir next p.0 p.1
    ∙ by p.0 p.1 (path_cmp p.1 path) refl
    ∙ ap (cond (eq_by_cmp place_cmp p (name path, path)) (Some (meta_of i))) (sym (get-before files dir from p.0 p.1))
    ∙ sym (map.get-insert place_total (children_before files dir from) (name path, path) (meta_of i) p))
  where
    here : (n q : List ℕ) → q ≡ path → cond (is_lt (path_cmp q next)) (map.get (children files dir) (n, q)) None
        ≡ cond (is_eq (path_cmp n (name path))) (Some (meta_of i)) (cond (is_lt (path_cmp q from)) (map.get (children files dir) (n, q)) None)
    here n q same = rw (get-children files dir n q, same, early, late, child, there) refl

    by : (n q : List ℕ) (o : Ordering) → path_cmp q path ≡ o → cond (is_lt (path_cmp q next)) (map.get (children files dir) (n, q)) None
        ≡ cond (is_eq (ordering_then (path_cmp n (name path)) (path_cmp q path))) (Some (meta_of i)) (cond (is_lt (path_cmp q from)) (map.get (children files dir) (n, q)) None)
    by n q Equal is =
        rw (then_equal (path_cmp n (name path)) (path_cmp q path) is) (here n q (paths_apart q path is))
    by n q Less is =
        rw (then_apart (path_cmp n (name path)) (path_cmp q path) (ap is_eq is))
        (either (is_lt (path_cmp q next)) (is_lt (path_cmp q from)) (map.get (children files dir) (n, q)) (λ some. let t = child-there files dir n q some in sym (passes q t.0 t.1 (ap is_eq is))))
    by n q Greater is =
        rw (then_apart (path_cmp n (name path)) (path_cmp q path) (ap is_eq is))
        (either (is_lt (path_cmp q next)) (is_lt (path_cmp q from)) (map.get (children files dir) (n, q)) (λ some. let t = child-there files dir n q some in sym (passes q t.0 t.1 (ap is_eq is))))
