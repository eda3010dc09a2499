-- Counting one entry more, name by name.
use Rattle.std.specs.List.{flat_map}
use Rattle.std.specs.Str.{bytes_eq}
use Rattle.std.specs.Int.{from_bool}
use Rattle.std.proofs.Common.{◌≡◌, ℕ, Bool, true, false, Bor, zero, suc, ◌+◌, ◌<◌, ◌≤◌, cond, List, [], ◌∷◌, ◌++◌, length, take, drop, get_or, map, slice_get, slice_set, Some, refl, sym, ap, ◌∙◌, append_assoc, arith}
use Rattle.std.proofs.lemmas.List.{append-nil, take_all}
use Rattle.std.proofs.Math.Numerals.{add-one}
use Rattle.std.proofs.lemmas.List.Sums.{sum_by-cons, count_by-le-length}
use Rattle.ftp_events.specs.declared.entry.Entry.{Entry}
use Rattle.ftp_text.specs.Printing.{decision_text}
use Rattle.ftp_script_run.specs.Counts.{names, named_count, count_line, count_lines, AreCounts}

-- numbers of which the first i are already those of f, and the others those of g
abbrev pub between : {X : Type 0} → (X → ℕ) → (X → ℕ) → List X → ℕ → List ℕ
between f g xs i = map f (take i xs) ++ map g (drop i xs)

-- the next of them is one of g
between-next : {X : Type 0} (f g : X → ℕ) (xs : List X) (i : ℕ) (x : X) → slice_get xs i ≡ Some x → get_or (between f g xs i) i 0 ≡ g x
between-next f g [] i x there = absurd (cc)
between-next f g (y ∷ xs) zero x there = cc
between-next f g (y ∷ xs) (suc i) x there = between-next f g xs i x there

-- and then it is one of f
between-set : {X : Type 0} (f g : X → ℕ) (xs : List X) (i : ℕ) (x : X) →
    slice_get xs i ≡ Some x →
    slice_set (between f g xs i) i (f x) ≡ between f g xs (suc i)
between-set f g [] i x there = absurd (cc)
between-set f g (y ∷ xs) zero x there = cc
between-set f g (y ∷ xs) (suc i) x there = ap (λ l. f y ∷ l) (between-set f g xs i x there)

-- at the end all are those of f
between-end : {X : Type 0} (f g : X → ℕ) (xs : List X) (i : ℕ) → length xs ≤ i → between f g xs i ≡ map f xs
between-end f g [] zero end = refl
between-end f g [] (suc i) end = refl
between-end f g (x ∷ xs) zero end = absurd (omega arith)
between-end f g (x ∷ xs) (suc i) end = ap (λ l. f x ∷ l) (between-end f g xs i (omega arith))

pub length-names : length names ≡ 46
unfolding names
length-names = refl

-- one entry more
count-more : (log : List Entry) (e : Entry) (name : List ℕ) → named_count (e ∷ log) name ≡ named_count log name + cond (bytes_eq (decision_text e.decision) name) 1 0
count-more log e name = sum_by-cons (λ (x : Entry). cond (bytes_eq (decision_text x.decision) name) 1 0) e log ∙ omega arith

-- the numbers while an entry is counted
abbrev pub Counting : List ℕ → List ℕ → Entry → ℕ → Type 0
Counting old new e i = (log : List Entry) → AreCounts old log → new ≡ between (named_count (e ∷ log)) (named_count log) names i

pub counting-start : (old : List ℕ) (e : Entry) → Counting old old e 0
counting-start old e = λ log counts. counts

bit_is : (r : Bool) → from_bool r ≡ cond r 1 0
bit_is true = refl
bit_is false = refl

pub bit-le : (b : ℕ) (r : Bool) → b ≡ from_bool r → b ≤ 1
bit-le b true is = omega arith
bit-le b false is = omega arith

pub counting-next : (old now : List ℕ) (e : Entry) (i : ℕ) (name came : List ℕ) (b : ℕ) (r : Bool) →
    Counting old now e i →
    slice_get names i ≡ Some name →
    b ≡ from_bool r →
    r ≡ bytes_eq came name →
    came ≡ decision_text e.decision →
    Counting old (slice_set now i (get_or now i 0 + b)) e (i + 1)
counting-next old now e i name came b r counting there bit same told = λ log counts.
    let is : b ≡ cond (bytes_eq (decision_text e.decision) name) 1 0 = bit ∙ bit_is r ∙ ap (λ x. cond x 1 0) (same ∙ ap (λ (t : List ℕ). bytes_eq t name) told) in
    let f = named_count (e ∷ log) in
    let g = named_count log in
    let so_far : now ≡ between f g names i = counting log counts in
    let value : get_or now i 0 + b ≡ f name =
    ap (λ (l : List ℕ). get_or l i 0 + b) so_far ∙ ap (λ n. n + b) (between-next f g names i name there) ∙ ap (λ n. g name + n) is ∙ sym (count-more log e name) in
    ap (λ (l : List ℕ). slice_set l i (get_or now i 0 + b)) so_far
    ∙ ap (slice_set (between f g names i) i) value
    ∙ between-set f g names i name there
    ∙ ap (between f g names) (sym (add-one i))

pub counting-fits : (old now : List ℕ) (e : Entry) (i : ℕ) (name : List ℕ) (log : List Entry) →
    Counting old now e i →
    slice_get names i ≡ Some name →
    AreCounts old log →
    get_or now i 0 ≤ length log
counting-fits old now e i name log counting there counts =
    let value : get_or now i 0 ≡ named_count log name =
    ap (λ (l : List ℕ). get_or l i 0) (counting log counts) ∙ between-next (named_count (e ∷ log)) (named_count log) names i name there in
    omega (arith, value, count_by-le-length (λ (x : Entry). bytes_eq (decision_text x.decision) name) log)

pub counting-end : (old new : List ℕ) (e : Entry) (i : ℕ) → Counting old new e i → 46 ≤ i → (log : List Entry) → AreCounts old log → AreCounts new (e ∷ log)
counting-end old new e i counting end log counts =
    counting log counts ∙ between-end (named_count (e ∷ log)) (named_count log) names i (omega (arith, length-names))

-- ---- the lines

get_or-map_at : {X : Type 0} (g : X → ℕ) (xs : List X) (i : ℕ) (x : X) → slice_get xs i ≡ Some x → get_or (map g xs) i 0 ≡ g x
get_or-map_at g [] i x there = absurd (cc)
get_or-map_at g (y ∷ xs) zero x there = cc
get_or-map_at g (y ∷ xs) (suc i) x there = get_or-map_at g xs i x there

flat_map-next : {X : Type 0} (f : X → List ℕ) (xs : List X) (i : ℕ) (x : X) → slice_get xs i ≡ Some x → flat_map f (take (suc i) xs) ≡ flat_map f (take i xs) ++ f x
flat_map-next f [] i x there = absurd (cc)
flat_map-next f (y ∷ xs) zero x there = append-nil (f y) ∙ (cc)
flat_map-next f (y ∷ xs) (suc i) x there = ap (λ l. f y ++ l) (flat_map-next f xs i x there) ∙ sym (append_assoc (f y) (flat_map f (take i xs)) (f x))

-- the lines of the first i names stand in the text
abbrev pub HasLines : List ℕ → List ℕ → ℕ → Type 0
HasLines numbers text i = (log : List Entry) → AreCounts numbers log → text ≡ flat_map (λ name. count_line name (named_count log name)) (take i names)

pub lines-next : (numbers text : List ℕ) (i : ℕ) (name : List ℕ) →
    HasLines numbers text i →
    slice_get names i ≡ Some name →
    HasLines numbers (text ++ count_line name (get_or numbers i 0)) (i + 1)
lines-next numbers text i name lines there = λ log counts.
    let line = λ (n : List ℕ). count_line n (named_count log n) in
    let value : get_or numbers i 0 ≡ named_count log name =
    ap (λ (l : List ℕ). get_or l i 0) counts ∙ get_or-map_at (named_count log) names i name there in
    ap (λ n. text ++ count_line name n) value
    ∙ ap (λ t. t ++ line name) (lines log counts)
    ∙ sym (flat_map-next line names i name there)
    ∙ ap (λ n. flat_map line (take n names)) (sym (add-one i))

pub lines-end : (numbers text : List ℕ) (i : ℕ) → HasLines numbers text i → 46 ≤ i → (log : List Entry) → AreCounts numbers log → text ≡ count_lines log
lines-end numbers text i lines end log counts =
    lines log counts ∙ ap (flat_map (λ name. count_line name (named_count log name))) (take_all i names (omega (arith, length-names)))

-- ---- the table of names

-- what stands at a place of a table of references
pub at_place : (table : List (Bor (List ℕ))) (i : ℕ) (d : Bor (List ℕ)) →
    i < length table →
    slice_get (map (λ (t : Bor (List ℕ)). t.now) table) i ≡ Some (get_or table i d).now
at_place [] i d below = absurd (omega arith)
at_place (t ∷ table) zero d below = refl
at_place (t ∷ table) (suc i) d below = at_place table i d (omega arith)
