-- The nodes from a path on, and the children among them.
use Rattle.std.proofs.Common.{◌≡◌, ℕ, ◌<◌, ◌≤◌, Bool, true, false, cond, not, ◌&&◌, List, [], ◌∷◌, ◌++◌, length, Vec, Global, BTreeMap, Option, Some, None, refl, sym, ap, ◌∙◌, subst, arith, nat_eq}
use Rattle.std.specs.Prelude.{IsSome, filter}
use Rattle.std.specs.Option.{option_map}
use Rattle.std.specs.FinMap as map
use Rattle.std.specs.Map.{lookup}
use Rattle.std.specs.BTreeMap.Range.{IsRangeOf, entries_between, range_contains}
use Rattle.std.specs.List.{starts_with}
use Rattle.std.specs.declared.ops.Bound.TheVariants.{Included, Unbounded}
use Rattle.std.specs.declared.cmp.Ordering.{Ordering}
use Rattle.std.specs.declared.cmp.Ordering.TheVariants.{Less, Equal, Greater}
use Rattle.std.specs.Ordering.{nat_cmp, is_eq, is_lt, is_le, is_gt, eq_by_cmp, ordering_reverse}
use Rattle.std.specs.Cmp.{upto}
use Rattle.std.specs.Cmp.Lexicographic.{slice_cmp, nat_list_cmp_total}
use Rattle.std.proofs.lemmas.Bool.{false_from_ne_true, true_from_ne_false}
use Rattle.std.proofs.lemmas.Bool.Decides.{Decides-eqb}
use Rattle.std.proofs.lemmas.Slice.Eq.{starts_is}
use Rattle.ftp_base.specs.declared.memory_storage.Node.{Node}
use Rattle.ftp_base.specs.MemoryStorage.{NoneBetween, item_of, files_of, front}
use Rattle.ftp_base.specs.Storage.{Files, is_child}
use Rattle.ftp_base.proofs.Files.{paths_apart}
use Rattle.ftp_base.proofs.MemoryFiles.{Nodes, at_path, get-files_of}
use Rattle.ftp_base.proofs.PathOrder.{path_cmp, UpTo, between, up_to-append}
use Rattle.ftp_base.proofs.Under.{child-front}
use Rattle.ftp_base.proofs.ListingSteps.{Passes}

-- paths in byte order, as the keys of nodes
abbrev pub key_cmp : Vec ℕ Global → Vec ℕ Global → Ordering
key_cmp x y = slice_cmp nat_cmp x.items y.items

-- a path that is no later does not come before
pub not-less : (a b : List ℕ) → UpTo a b → is_lt (path_cmp b a) ≡ false
not-less a b low = ap is_lt (nat_list_cmp_total.antisymm b a) ∙ by (path_cmp a b) low
  where
    by : (o : Ordering) → is_gt o ≡ false → is_lt (ordering_reverse o) ≡ false
    by Less e = refl
    by Equal e = refl
    by Greater e = cc

-- and a path that does not come before is no later
pub up_to : (a b : List ℕ) → is_lt (path_cmp b a) ≡ false → UpTo a b
up_to a b low = ap is_gt (nat_list_cmp_total.antisymm a b) ∙ by (path_cmp b a) low
  where
    by : (o : Ordering) → is_lt o ≡ false → is_gt (ordering_reverse o) ≡ false
    by Less e = cc
    by Equal e = refl
    by Greater e = refl

-- what comes before a path comes before all later ones
pub up_to-less : (a b c : List ℕ) → UpTo a b → path_cmp b c ≡ Less → path_cmp a c ≡ Less
up_to-less a b c low less = by (path_cmp a b) refl low
  where
    by : (o : Ordering) → path_cmp a b ≡ o → is_gt o ≡ false → path_cmp a c ≡ Less
    by Less e l = nat_list_cmp_total.trans a b c e less
    by Equal e l = nat_list_cmp_total.congr a b c e ∙ less
    by Greater e l = cc

apart-less : (a b : List ℕ) → UpTo a b → eq_by_cmp path_cmp b a ≡ false → path_cmp a b ≡ Less
apart-less a b low apart = nat_list_cmp_total.antisymm a b ∙ by (path_cmp b a) (ap is_gt (sym (nat_list_cmp_total.antisymm a b)) ∙ low) apart
  where
    by : (o : Ordering) → is_gt (ordering_reverse o) ≡ false → is_eq o ≡ false → ordering_reverse o ≡ Less
    by Less l e = cc
    by Equal l e = cc
    by Greater l e = refl

-- a path that holds something is a node's
key_found : (nodes : Nodes) (q : List ℕ) → IsSome (option_map item_of (lookup (at_path q) nodes)) → (k : Vec ℕ Global) × (k.items ≡ q)
key_found [] q some = cc
key_found (e ∷ nodes) q some =
    elim (path_cmp q e.0.items) as (λ o. path_cmp q e.0.items ≡ o → IsSome (option_map item_of (cond (is_eq o) (Some e.1) (lookup (at_path q) nodes))) → (k : Vec ℕ Global) × (k.items ≡ q)) [
      | Less ↦ λ is s. key_found nodes q s
      | Equal ↦ λ is s. (e.0, sym (paths_apart q e.0.items is))
      | Greater ↦ λ is s. key_found nodes q s
    ] refl some

some-inside : (o : Option Node) → IsSome (option_map item_of o) → IsSome o
some-inside None some = cc
some-inside (Some x) some = refl

-- what is known of the nodes from a path on
abbrev pub From : BTreeMap (Vec ℕ Global) Node → Vec ℕ Global → List (Vec ℕ Global × Node) → Type 0
From m from r = IsRangeOf key_cmp (Included from) Unbounded m r

-- the first of them is the least that holds something
pub least : (m : BTreeMap (Vec ℕ Global) Node) (from p : Vec ℕ Global) (node : Node) (t r : Nodes) → From m from r → r ≡ (p, node) ∷ t →
    (q : List ℕ) → UpTo from.items q → IsSome (map.get (files_of m.entries) q) → UpTo p.items q
least m from p node t r range is q low some =
    let here : IsSome (option_map item_of (lookup (at_path q) m.entries)) = subst IsSome (get-files_of m.entries q) some in
    let k = key_found m.entries q here in
    let got : IsSome (lookup (at_path k.0.items) m.entries) = subst (λ (x : List ℕ). IsSome (lookup (at_path x) m.entries)) (sym k.1) (some-inside _ here) in
    let low' : UpTo from.items k.0.items = subst (UpTo from.items) (sym k.1) low in
    subst (UpTo p.items) k.1 (rw is at (range.2 k.0 (low', tt) got))

-- where there are none, nothing is held from there on
pub none_left : (m : BTreeMap (Vec ℕ Global) Node) (from : Vec ℕ Global) (r : Nodes) → From m from r → r ≡ [] →
    (q : List ℕ) → UpTo from.items q → IsSome (map.get (files_of m.entries) q) → ⊥
none_left m from r range is q low some =
    let here : IsSome (option_map item_of (lookup (at_path q) m.entries)) = subst IsSome (get-files_of m.entries q) some in
    let k = key_found m.entries q here in
    let got : IsSome (lookup (at_path k.0.items) m.entries) = subst (λ (x : List ℕ). IsSome (lookup (at_path x) m.entries)) (sym k.1) (some-inside _ here) in
    let low' : UpTo from.items k.0.items = subst (UpTo from.items) (sym k.1) low in
    let none : lookup (at_path k.0.items) m.entries ≡ None = range.5 is k.0 (low', tt) in
    cc (none, got)

-- the first of them holds what its node is
pub first_item : (m : BTreeMap (Vec ℕ Global) Node) (from p : Vec ℕ Global) (node : Node) (t r : Nodes) → From m from r → r ≡ (p, node) ∷ t →
    UpTo from.items p.items × (map.get (files_of m.entries) p.items ≡ Some (item_of node))
first_item m from p node t r range is =
    let first = rw is at range.1 in
    (first.0.0, get-files_of m.entries p.items ∙ ap (option_map item_of) first.1)

-- from a path on to what comes after the first that holds something, no other child comes
pub passes : (files : Files) (dir from p next : List ℕ) → UpTo from p → ((q : List ℕ) → UpTo from q → IsSome (map.get files q) → UpTo p q) →
    path_cmp p next ≡ Less → NoneBetween dir p next → Passes files dir from p next
passes files dir from p next low first later none q child some apart =
    elim (is_lt (path_cmp q from)) as (λ b. is_lt (path_cmp q from) ≡ b → b ≡ is_lt (path_cmp q next)) [
      | true ↦ λ e. sym (ap is_lt (nat_list_cmp_total.trans q from next (less (path_cmp q from) e) (up_to-less from p next low later)))
      | false ↦ λ e.
          let behind : path_cmp p q ≡ Less = apart-less p q (first q (up_to from q e) some) apart in
          sym (false_from_ne_true (is_lt (path_cmp q next)) (λ f.
          let no : is_child dir q ≡ false = none q behind (less (path_cmp q next) f) in
          cc (no, child)))
    ] refl
  where
    less : (o : Ordering) → is_lt o ≡ true → o ≡ Less
    less Less e = refl
    less Equal e = cc
    less Greater e = cc

-- from a path on that does not begin as the children do, none comes
pub past_front : (files : Files) (dir from p : List ℕ) → UpTo (front dir) from → UpTo from p → ((q : List ℕ) → UpTo from q → IsSome (map.get files q) → UpTo p q) →
    starts_with nat_eq p (front dir) ≡ false → (q : List ℕ) → is_child dir q ≡ true → IsSome (map.get files q) → is_lt (path_cmp q from) ≡ true
past_front files dir from p begun low first past q child some =
    true_from_ne_false (is_lt (path_cmp q from)) (λ e.
    let behind = first q (up_to from q e) some in
    let begins = child-front dir q child in
    let high : UpTo p (front dir ++ begins.0) = subst (UpTo p) begins.1 behind in
    let is = between (front dir) p begins.0 (upto nat_list_cmp_total (front dir) from p begun low) high in
    let yes : starts_with nat_eq p (front dir) ≡ true = (starts_is Decides-eqb p (front dir) (starts_with nat_eq p (front dir)) refl).1 _ is in
    cc (yes, past))

-- no child comes before what all begin with
pub front_first : (dir q : List ℕ) → is_child dir q ≡ true → is_lt (path_cmp q (front dir)) ≡ false
front_first dir q child =
    let begins = child-front dir q child in
    not-less (front dir) q (subst (UpTo (front dir)) (sym begins.1) (up_to-append (front dir) begins.0))

no_more : {X : Type 0} (f g : X → Bool) (es : List X) → ((x : X) → f x ≡ true → g x ≡ true) → length (filter f es) ≤ length (filter g es)
no_more f g [] narrower = omega arith
no_more f g (x ∷ es) narrower =
    let rest = no_more f g es narrower in
    elim (f x) as (λ b. f x ≡ b → length (cond b (x ∷ filter f es) (filter f es)) ≤ length (cond (g x) (x ∷ filter g es) (filter g es))) [
      | true ↦ λ e. rw (narrower x e) (omega (arith, rest))
      | false ↦ λ e. elim (g x) as (λ c. length (filter f es) ≤ length (cond c (x ∷ filter g es) (filter g es))) [ true ↦ omega (arith, rest) | false ↦ rest ]
    ] refl

head_or : {X : Type 0} → X → List X → X
head_or d [] = d
head_or d (x ∷ xs) = x

-- a narrower test that the first does not pass leaves fewer
pub fewer : {X : Type 0} (f g : X → Bool) (es : List X) (x : X) (t : List X) → filter g es ≡ x ∷ t → ((y : X) → f y ≡ true → g y ≡ true) → f x ≡ false →
    length (filter f es) < length (filter g es)
unfolding head_or
fewer f g [] x t is narrower fails = cc
fewer f g (y ∷ es) x t is narrower fails =
    elim (g y) as (λ b. g y ≡ b → cond b (y ∷ filter g es) (filter g es) ≡ x ∷ t → length (cond (f y) (y ∷ filter f es) (filter f es)) < length (cond b (y ∷ filter g es) (filter g es))) [
      | true ↦ λ e h.
          let same : y ≡ x = ap (head_or y) h in
          let fails' : f y ≡ false = ap f same ∙ fails in
          let rest = no_more f g es narrower in
          rw fails' (omega (arith, rest))
      | false ↦ λ e h.
          let fails' : f y ≡ false = false_from_ne_true (f y) (λ yes. let no = narrower y yes in cc (no, e)) in
          let rest = fewer f g es x t h narrower fails in
          rw fails' rest
    ] refl is

contains : (o : Ordering) → is_gt o ≡ false → (is_le o && not false) ≡ true
contains Less e = refl
contains Equal e = refl
contains Greater e = cc

contained : (o : Ordering) → (is_le o && not false) ≡ true → is_gt o ≡ false
contained Less e = refl
contained Equal e = refl
contained Greater e = cc

-- fewer nodes come from a later path on
pub fewer_left : (m : BTreeMap (Vec ℕ Global) Node) (from p next : Vec ℕ Global) (node : Node) (t : Nodes) →
    entries_between key_cmp (Included from) Unbounded m.entries ≡ (p, node) ∷ t → UpTo from.items p.items → path_cmp p.items next.items ≡ Less →
    length (entries_between key_cmp (Included next) Unbounded m.entries) < length (entries_between key_cmp (Included from) Unbounded m.entries)
fewer_left m from p next node t is low later =
    fewer (λ (e : Vec ℕ Global × Node). range_contains key_cmp (Included next) Unbounded e.0) (λ (e : Vec ℕ Global × Node). range_contains key_cmp (Included from) Unbounded e.0) m.entries (p, node) t is
    (λ y e. contains (path_cmp from.items y.0.items) (upto nat_list_cmp_total from.items next.items y.0.items (ap is_gt (up_to-less from.items p.items next.items low later)) (contained (path_cmp next.items y.0.items) e)))
    (false_from_ne_true _ (λ e.
    let no = contained (path_cmp next.items p.items) e in
    let greater : path_cmp next.items p.items ≡ Greater = nat_list_cmp_total.antisymm next.items p.items ∙ ap ordering_reverse later in
    let not_so : is_gt Greater ≡ false = subst (λ (o : Ordering). is_gt o ≡ false) greater no in
    cc))
