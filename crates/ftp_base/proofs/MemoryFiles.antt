-- The files of nodes in a map, as they are looked up and written.
use Rattle.std.proofs.Common.{◌≡◌, ◌≢◌, ℕ, Bool, true, false, cond, List, [], ◌∷◌, Vec, Global, Option, Some, None, refl, sym, ap, ◌∙◌}
use Rattle.std.specs.Prelude.{IsSome, Result, Ok, Err, OnErr}
use Rattle.std.specs.Option.{option_map, option_and_then}
use Rattle.std.specs.FinMap as map
use Rattle.std.specs.Map.{lookup, set_value, remove_entry}
use Rattle.std.specs.BTreeMap.{insert_entry, is_at}
use Rattle.std.specs.declared.cmp.Ordering.TheVariants.{Less, Equal, Greater}
use Rattle.std.specs.Ordering.{nat_cmp, eq_by_cmp, is_eq}
use Rattle.std.specs.Cmp.Lexicographic.{slice_cmp, nat_list_cmp_total}
use Rattle.std.specs.Cmp.{Equal-is, eq_by_cmp_equiv}
use Rattle.std.specs.FinMap.{find, put}
use Rattle.ftp_base.specs.declared.memory_storage.Node.{Node}
use Rattle.ftp_base.specs.Calls.{Calls}
use Rattle.ftp_base.specs.MemoryStorage.{MemoryState, item_of, items, files_of}
use Rattle.std.specs.Str.{bytes_eq}
use Rattle.ftp_base.specs.Storage.{Item, Directory, File, Files, root, item, contents, old_bytes, with_file, bytes_of}
use Rattle.ftp_base.proofs.Files.{paths_apart}
use Rattle.ftp_base.proofs.Sorted.{shadows, swaps}

-- nodes under their paths
abbrev pub Nodes : Type 0
Nodes = List (Vec ℕ Global × Node)

-- the test by which a path is looked up
abbrev pub at_path : List ℕ → Vec ℕ Global → Bool
at_path path = is_at (λ k. slice_cmp nat_cmp path k.items)

-- what is looked up among the items is the item of the node that is looked up
find-items : (path : List ℕ) (nodes : Nodes) → find (slice_cmp nat_cmp) path (items nodes) ≡ option_map item_of (lookup (at_path path) nodes)
find-items path [] = refl
find-items path (e ∷ nodes) =
    elim (eq_by_cmp (slice_cmp nat_cmp) path e.0.items) as (λ b. cond b (Some (item_of e.1)) (find (slice_cmp nat_cmp) path (items nodes)) ≡ option_map item_of (cond b (Some e.1) (lookup (at_path path) nodes))) [
      | true ↦ refl
      | false ↦ find-items path nodes
    ]

-- the item at a path is that of the node there
pub get-files_of : (nodes : Nodes) (path : List ℕ) → map.get (files_of nodes) path ≡ option_map item_of (lookup (at_path path) nodes)
get-files_of nodes path = map.get-from_entries nat_list_cmp_total (items nodes) path ∙ find-items path nodes

-- paths that tie are equal
tied : (a b : List ℕ) → eq_by_cmp (slice_cmp nat_cmp) a b ≡ true → a ≡ b
tied a b e = paths_apart a b ((Equal-is (slice_cmp nat_cmp a b)).0 e)

-- a path ties with itself
itself : (a : List ℕ) → eq_by_cmp (slice_cmp nat_cmp) a a ≡ true
itself a = (eq_by_cmp_equiv nat_list_cmp_total).refl a

not_both : (q a b : List ℕ) → eq_by_cmp (slice_cmp nat_cmp) b a ≡ false → eq_by_cmp (slice_cmp nat_cmp) q a ≡ true → eq_by_cmp (slice_cmp nat_cmp) q b ≡ true → ⊥
not_both q a b apart same same' =
    let equal : b ≡ a = sym (tied q b same') ∙ tied q a same in
    let yes : eq_by_cmp (slice_cmp nat_cmp) b a ≡ true = rw equal (itself a) in
    cc (apart, yes)

items-insert_entry : (nodes : Nodes) (k : Vec ℕ Global) (v : Node) →
    items (insert_entry (λ x y. slice_cmp nat_cmp x.items y.items) nodes k v) ≡ put (slice_cmp nat_cmp) k.items (item_of v) (items nodes)
items-insert_entry [] k v = refl
items-insert_entry (e ∷ nodes) k v =
    elim (slice_cmp nat_cmp k.items e.0.items) as (λ r. slice_cmp nat_cmp k.items e.0.items ≡ r → items (insert_entry (λ x y. slice_cmp nat_cmp x.items y.items) (e ∷ nodes) k v) ≡ put (slice_cmp nat_cmp) k.items (item_of v) (items (e ∷ nodes))) [
      | Less ↦ λ p. rw p refl
      | Equal ↦ λ p. rw p refl
      | Greater ↦ λ p. rw p (ap (λ (rest : List (List ℕ × Item)). (e.0.items, item_of e.1) ∷ rest) (items-insert_entry nodes k v))
    ] refl

find-put : (q k : List ℕ) (v : Item) (es : List (List ℕ × Item)) →
    find (slice_cmp nat_cmp) q (put (slice_cmp nat_cmp) k v es) ≡ cond (eq_by_cmp (slice_cmp nat_cmp) q k) (Some v) (find (slice_cmp nat_cmp) q es)
find-put q k v [] = refl
find-put q k v (e ∷ es) =
    elim (slice_cmp nat_cmp k e.0) as (λ r. slice_cmp nat_cmp k e.0 ≡ r → find (slice_cmp nat_cmp) q (put (slice_cmp nat_cmp) k v (e ∷ es)) ≡ cond (eq_by_cmp (slice_cmp nat_cmp) q k) (Some v) (find (slice_cmp nat_cmp) q (e ∷ es))) [
      | Less ↦ λ p. rw p refl
      | Equal ↦ λ p.
          let equal : k ≡ e.0 = paths_apart k e.0 p in
          rw p (ap (λ (x : List ℕ). cond (eq_by_cmp (slice_cmp nat_cmp) q x) (Some v) (find (slice_cmp nat_cmp) q es)) (sym equal) ∙ shadows (eq_by_cmp (slice_cmp nat_cmp) q k) (Some v) (Some e.1) (find (slice_cmp nat_cmp) q es) ∙ ap (λ (x : List ℕ). cond (eq_by_cmp (slice_cmp nat_cmp) q k) (Some v) (cond (eq_by_cmp (slice_cmp nat_cmp) q x) (Some e.1) (find (slice_cmp nat_cmp) q es))) equal)
      | Greater ↦ λ p.
          let apart : eq_by_cmp (slice_cmp nat_cmp) k e.0 ≡ false = ap is_eq p in
          rw p
          (ap (cond (eq_by_cmp (slice_cmp nat_cmp) q e.0) (Some e.1)) (find-put q k v es)
          ∙ swaps (eq_by_cmp (slice_cmp nat_cmp) q e.0) (eq_by_cmp (slice_cmp nat_cmp) q k) (Some e.1) (Some v) (find (slice_cmp nat_cmp) q es) (not_both q e.0 k apart))
    ] refl

-- a node that is put under a path is an item that is put there
pub files_of-insert_entry : (nodes : Nodes) (k : Vec ℕ Global) (v : Node) →
    files_of (insert_entry (λ x y. slice_cmp nat_cmp x.items y.items) nodes k v) ≡ map.insert (files_of nodes) k.items (item_of v)
files_of-insert_entry nodes k v =
    map.same_map nat_list_cmp_total paths_apart _ _ (λ q.
    map.get-from_entries nat_list_cmp_total (items (insert_entry (λ x y. slice_cmp nat_cmp x.items y.items) nodes k v)) q
    ∙ ap (find (slice_cmp nat_cmp) q) (items-insert_entry nodes k v)
    ∙ find-put q k.items (item_of v) (items nodes)
    ∙ ap (cond (eq_by_cmp (slice_cmp nat_cmp) q k.items) (Some (item_of v))) (sym (map.get-from_entries nat_list_cmp_total (items nodes) q))
    ∙ sym (map.get-insert nat_list_cmp_total (files_of nodes) k.items (item_of v) q))

find-set_value : (q path : List ℕ) (nodes : Nodes) (w : Node) → IsSome (lookup (at_path path) nodes) →
    find (slice_cmp nat_cmp) q (items (set_value (at_path path) nodes w)) ≡ cond (eq_by_cmp (slice_cmp nat_cmp) q path) (Some (item_of w)) (find (slice_cmp nat_cmp) q (items nodes))
find-set_value q path [] w found = cc
find-set_value q path (e ∷ nodes) w found =
    elim (at_path path e.0) as (λ b. eq_by_cmp (slice_cmp nat_cmp) path e.0.items ≡ b → IsSome (cond b (Some e.1) (lookup (at_path path) nodes)) → find (slice_cmp nat_cmp) q (items (cond b ((e.0, w) ∷ nodes) (e ∷ set_value (at_path path) nodes w))) ≡ cond (eq_by_cmp (slice_cmp nat_cmp) q path) (Some (item_of w)) (find (slice_cmp nat_cmp) q (items (e ∷ nodes)))) [
      | true ↦ λ same there.
          let equal : e.0.items ≡ path = sym (tied path e.0.items same) in
          rw equal (shadows (eq_by_cmp (slice_cmp nat_cmp) q path) (Some (item_of w)) (Some (item_of e.1)) (find (slice_cmp nat_cmp) q (items nodes)))
      | false ↦ λ apart there.
          ap (cond (eq_by_cmp (slice_cmp nat_cmp) q e.0.items) (Some (item_of e.1))) (find-set_value q path nodes w there)
          ∙ swaps (eq_by_cmp (slice_cmp nat_cmp) q e.0.items) (eq_by_cmp (slice_cmp nat_cmp) q path) (Some (item_of e.1)) (Some (item_of w)) (find (slice_cmp nat_cmp) q (items nodes)) (not_both q e.0.items path apart)
    ] refl found

-- a node that is written at a path is an item that is put there
pub files_of-set_value : (nodes : Nodes) (path : List ℕ) (w : Node) → IsSome (lookup (at_path path) nodes) →
    files_of (set_value (at_path path) nodes w) ≡ map.insert (files_of nodes) path (item_of w)
files_of-set_value nodes path w found =
    map.same_map nat_list_cmp_total paths_apart _ _ (λ q.
    map.get-from_entries nat_list_cmp_total (items (set_value (at_path path) nodes w)) q
    ∙ find-set_value q path nodes w found
    ∙ ap (cond (eq_by_cmp (slice_cmp nat_cmp) q path) (Some (item_of w))) (sym (map.get-from_entries nat_list_cmp_total (items nodes) q))
    ∙ sym (map.get-insert nat_list_cmp_total (files_of nodes) path (item_of w) q))

-- what stands at another path than the root is the node there
pub item-found : (nodes : Nodes) (path : List ℕ) (o : Option Node) → bytes_eq path root ≡ false → lookup (at_path path) nodes ≡ o →
    item (files_of nodes) path ≡ option_map item_of o
item-found nodes path o other found = rw other (get-files_of nodes path ∙ ap (option_map item_of) found)

-- a directory's node
item_of-directory : (node : Node) → node.is_dir ≡ true → item_of node ≡ Directory
item_of-directory node e = rw e refl

-- a file's node
item_of-file : (node : Node) → node.is_dir ≡ false → item_of node ≡ File node.bytes
item_of-file node e = rw e refl

-- a state of a storage in memory
abbrev pub state : Files → ℕ → Calls ℕ → MemoryState
state files max_file calls = record { files = files; max_file = max_file; calls = calls }

-- an item that is put where it stands changes nothing
insert_again : (files : Files) (path : List ℕ) (i : Item) → map.get files path ≡ Some i → map.insert files path i ≡ files
insert_again files path i there =
    map.same_map nat_list_cmp_total paths_apart _ _ (λ q.
    map.get-insert nat_list_cmp_total files path i q
    ∙ elim (eq_by_cmp (slice_cmp nat_cmp) q path) as (λ b. eq_by_cmp (slice_cmp nat_cmp) q path ≡ b → cond b (Some i) (map.get files q) ≡ map.get files q) [
      | true ↦ λ same. rw (tied q path same) (sym there)
      | false ↦ λ apart. refl
    ] refl)

-- a node that is written with what it was changes nothing
files_of-same : (nodes : Nodes) (path : List ℕ) (node w : Node) → lookup (at_path path) nodes ≡ Some node →
    w.is_dir ≡ node.is_dir → w.bytes ≡ node.bytes → files_of (set_value (at_path path) nodes w) ≡ files_of nodes
files_of-same nodes path node w found kind bytes =
    let same : item_of w ≡ item_of node = rw (kind, bytes) refl in
    let some : IsSome (lookup (at_path path) nodes) = rw found refl in
    files_of-set_value nodes path w some
    ∙ ap (map.insert (files_of nodes) path) same
    ∙ insert_again (files_of nodes) path (item_of node) (get-files_of nodes path ∙ ap (option_map item_of) found)

-- a file is at another path than the root, and is no directory
pub contents_apart : (files : Files) (path : List ℕ) → IsSome (contents files path) → (bytes_eq path root ≡ false) × (item files path ≢ Some Directory)
contents_apart files path there =
    let apart : item files path ≢ Some Directory =
    λ e. let none : IsSome (option_and_then bytes_of (Some Directory)) = rw e at there in cc
    in (
      elim (bytes_eq path root) as (λ b. bytes_eq path root ≡ b → b ≡ false) [
        | true ↦ λ e. absurd (apart (rw e refl))
        | false ↦ λ e. refl
      ] refl,
      apart,
    )

-- the node of a path that is no directory is a file's
file_there : (nodes : Nodes) (path : List ℕ) (node : Node) → bytes_eq path root ≡ false → item (files_of nodes) path ≢ Some Directory →
    lookup (at_path path) nodes ≡ Some node → (node.is_dir ≡ false) × (old_bytes (files_of nodes) path ≡ node.bytes)
file_there nodes path node other file found =
    let stands = item-found nodes path (Some node) other found in
    elim node.is_dir as (λ b. node.is_dir ≡ b → (b ≡ false) × (old_bytes (files_of nodes) path ≡ node.bytes)) [
      | true ↦ λ e. absurd (file (stands ∙ ap Some (item_of-directory node e)))
      | false ↦ λ e. (refl, rw (stands, item_of-file node e) refl)
    ] refl

-- a file's node that is written is a file that is put
files_of-file : (nodes : Nodes) (path bytes : List ℕ) (node w : Node) → lookup (at_path path) nodes ≡ Some node → node.is_dir ≡ false →
    w.is_dir ≡ node.is_dir → w.bytes ≡ bytes → files_of (set_value (at_path path) nodes w) ≡ with_file (files_of nodes) path bytes
files_of-file nodes path bytes node w found file kind e =
    let some : IsSome (lookup (at_path path) nodes) = rw found refl in
    files_of-set_value nodes path w some ∙ ap (map.insert (files_of nodes) path) (item_of-file w (kind ∙ file) ∙ ap File e)

-- a node that is written with what it was leaves the state
pub state-same : (nodes written : Nodes) (path : List ℕ) (node w : Node) (max_file : ℕ) (calls : Calls ℕ) →
    written ≡ set_value (at_path path) nodes w → Some node ≡ lookup (at_path path) nodes → w.is_dir ≡ node.is_dir → w.bytes ≡ node.bytes →
    state (files_of written) max_file calls ≡ state (files_of nodes) max_file calls
state-same nodes written path node w max_file calls is found kind bytes =
    ap (λ (f : Files). state f max_file calls) (ap files_of is ∙ files_of-same nodes path node w (sym found) kind bytes)

-- a file whose bytes are edited at a path is put there
pub state-edited : (edit : List ℕ → List ℕ) (nodes written : Nodes) (path : List ℕ) (node w : Node) (max_file : ℕ) (calls : Calls ℕ) →
    written ≡ set_value (at_path path) nodes w → Some node ≡ lookup (at_path path) nodes → bytes_eq path root ≡ false → item (files_of nodes) path ≢ Some Directory →
    w.is_dir ≡ node.is_dir → w.bytes ≡ edit node.bytes →
    state (files_of written) max_file calls ≡ state (with_file (files_of nodes) path (edit (old_bytes (files_of nodes) path))) max_file calls
state-edited edit nodes written path node w max_file calls is found other file kind bytes =
    let there = file_there nodes path node other file (sym found) in
    ap (λ (f : Files). state f max_file calls)
    (ap files_of is ∙ files_of-file nodes path (edit (old_bytes (files_of nodes) path)) node w (sym found) there.0 kind (bytes ∙ ap edit (sym there.1)))

-- nothing stands where there is no node
pub nothing_there : (nodes : Nodes) (path : List ℕ) → bytes_eq path root ≡ false → lookup (at_path path) nodes ≡ None → old_bytes (files_of nodes) path ≡ []
nothing_there nodes path other none = rw (item-found nodes path None other none) refl

-- a file has a node
pub file_has_node : (nodes : Nodes) (path : List ℕ) → IsSome (contents (files_of nodes) path) → lookup (at_path path) nodes ≡ None → ⊥
file_has_node nodes path there none =
    let apart = contents_apart (files_of nodes) path there in
    let nothing = item-found nodes path None apart.0 none in
    let no : IsSome (option_and_then bytes_of None) = rw nothing at there in
    cc

-- what holds anyway holds after an error
pub after_error : {A E : Type 0} (r : Result A E) (P : Type 0) → P → OnErr r P
after_error (Ok x) P p = tt
after_error (Err e) P p = p

find-remove_other : (q path : List ℕ) (nodes : Nodes) → eq_by_cmp (slice_cmp nat_cmp) q path ≡ false →
    find (slice_cmp nat_cmp) q (items (remove_entry (at_path path) nodes)) ≡ find (slice_cmp nat_cmp) q (items nodes)
find-remove_other q path [] apart = refl
find-remove_other q path (e ∷ nodes) apart =
    elim (at_path path e.0) as (λ b. eq_by_cmp (slice_cmp nat_cmp) path e.0.items ≡ b → find (slice_cmp nat_cmp) q (items (cond b nodes (e ∷ remove_entry (at_path path) nodes))) ≡ find (slice_cmp nat_cmp) q (items (e ∷ nodes))) [
      | true ↦ λ same.
          let equal : e.0.items ≡ path = sym (tied path e.0.items same) in
          rw (equal, apart) refl
      | false ↦ λ other. ap (cond (eq_by_cmp (slice_cmp nat_cmp) q e.0.items) (Some (item_of e.1))) (find-remove_other q path nodes apart)
    ] refl

-- a node that is taken away, so that none is left at its path, is an item that is removed
pub files_of-remove_entry : (nodes : Nodes) (path : List ℕ) → lookup (at_path path) (remove_entry (at_path path) nodes) ≡ None →
    files_of (remove_entry (at_path path) nodes) ≡ map.remove (files_of nodes) path
files_of-remove_entry nodes path gone =
    map.same_map nat_list_cmp_total paths_apart _ _ (λ q.
    map.get-from_entries nat_list_cmp_total (items (remove_entry (at_path path) nodes)) q
    ∙ elim (eq_by_cmp (slice_cmp nat_cmp) q path) as (λ b. eq_by_cmp (slice_cmp nat_cmp) q path ≡ b → find (slice_cmp nat_cmp) q (items (remove_entry (at_path path) nodes)) ≡ cond b None (find (slice_cmp nat_cmp) q (items nodes))) [
      | true ↦ λ same.
          let equal : q ≡ path = tied q path same in
          rw equal (find-items path (remove_entry (at_path path) nodes) ∙ ap (option_map item_of) gone)
      | false ↦ λ apart. find-remove_other q path nodes apart
    ] refl
    ∙ ap (cond (eq_by_cmp (slice_cmp nat_cmp) q path) None) (sym (map.get-from_entries nat_list_cmp_total (items nodes) q))
    ∙ sym (map.get-remove nat_list_cmp_total (files_of nodes) path q))
