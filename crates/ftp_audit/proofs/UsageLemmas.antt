-- What a user's files were given, as owners come, and as the files have it.
use Rattle.std.proofs.Common.{◌≡◌, ℕ, ◌+◌, Bool, ◌&&◌, true, false, cond, List, [], ◌∷◌, Option, Some, None, T, refl, sym, ap, ◌∙◌, arith, length}
use Rattle.std.specs.Prelude.{IfSome, IsTrue, sum_by, filter, unwrap_or, map as map_list}
use Rattle.std.specs.FinMap as map
use Rattle.std.specs.FinMap.{put, is_sorted}
use Rattle.std.specs.FinMap.Entries.{below_all}
use Rattle.std.specs.List.{AllByRecursion}
use Rattle.std.specs.List.Sorted.{IsStrictlySortedBy}
use Rattle.std.specs.Map.{lookup, keys_of, values_of}
use Rattle.std.specs.Option.{option_map}
use Rattle.std.specs.BTreeMap.{insert_entry, is_at}
use Rattle.std.specs.declared.cmp.Ordering.{Ordering}
use Rattle.std.specs.declared.cmp.Ordering.TheVariants.{Less, Equal, Greater}
use Rattle.std.specs.Ordering.{nat_cmp, eq_by_cmp, is_lt}
use Rattle.std.specs.Cmp.{eq_by_cmp_equiv}
use Rattle.std.specs.Cmp.Lexicographic.{slice_cmp, nat_list_cmp_total}
use Rattle.std.proofs.lemmas.Map.{lookup-none}
use Rattle.std.proofs.lemmas.Map.Entries.{sum_by-insert_entry, lookup_head, none_past_head}
use Rattle.std.proofs.lemmas.Map.Keys.{IsDistinct-from_sorted, sorted_tail}
use Rattle.std.proofs.lemmas.List.Sums.{sum_by-cons}
use Rattle.ftp_base.specs.Storage.{Files}
use Rattle.ftp_audit.specs.declared.quota_book.Held.{Held}
use Rattle.ftp_audit.specs.Names.{ByName}
use Rattle.ftp_audit.specs.Usage.{Owners, is_of, bytes_at, usage, share, given, Agrees}
use Rattle.ftp_audit.proofs.ByName.{itself, find-lookup}
use Rattle.ftp_audit.proofs.Maps.{get-remove-same, insert-remove}

is_less : (o : Ordering) → IsTrue (is_lt o) → o ≡ Less
is_less Less h = refl
is_less Equal h = cc
is_less Greater h = cc

first : (a b : Bool) → IsTrue (a && b) → IsTrue a
first true b h = refl
first false b h = cc

second : (a b : Bool) → IsTrue (a && b) → IsTrue b
second true b h = h
second false b h = cc

is_true : (b : Bool) → T b → IsTrue b
is_true true h = refl
is_true false h = absurd h

module _ {X : Type 0} where
  put-entry : (k : List ℕ) (v : X) (es : List (List ℕ × X)) → put (slice_cmp nat_cmp) k v es ≡ insert_entry (slice_cmp nat_cmp) es k v
  put-entry k v [] = refl
  put-entry k v (e ∷ es) =
      elim (slice_cmp nat_cmp k e.0) as (λ r. slice_cmp nat_cmp k e.0 ≡ r → put (slice_cmp nat_cmp) k v (e ∷ es) ≡ insert_entry (slice_cmp nat_cmp) (e ∷ es) k v) [
        | Less ↦ λ p. rw p refl
        | Equal ↦ λ p. rw p refl
        | Greater ↦ λ p. rw p (ap (λ (rest : List (List ℕ × X)). e ∷ rest) (put-entry k v es))
      ] refl

  above_all : (k : List ℕ) (es : List (List ℕ × X)) → IsTrue (below_all (slice_cmp nat_cmp) k es) → AllByRecursion (λ y. slice_cmp nat_cmp k y ≡ Less) (keys_of es)
  above_all k [] h = tt
  above_all k (e ∷ es) h = (is_less (slice_cmp nat_cmp k e.0) (first _ _ h), above_all k es (second _ _ h))

  sorted : (es : List (List ℕ × X)) → IsTrue (is_sorted (slice_cmp nat_cmp) es) → IsStrictlySortedBy (slice_cmp nat_cmp) (keys_of es)
  unfolding IsStrictlySortedBy
  sorted [] h = tt
  sorted (e ∷ es) h = (above_all e.0 es (first _ _ h), sorted es (second _ _ h))

  -- a value that is put at a name adds to a sum over the values, and what stood there is taken off
  pub sum-insert : (f : X → ℕ) (m : ByName X) (k : List ℕ) (v : X) →
      sum_by f (map.values (map.insert m k v)) + unwrap_or (option_map f (map.get m k)) 0 ≡ sum_by f (map.values m) + f v
  sum-insert f m k v =
      let put_is : map.entries (map.insert m k v) ≡ insert_entry (slice_cmp nat_cmp) (map.entries m) k v =
      map.entries-insert nat_list_cmp_total m k v ∙ put-entry k v (map.entries m)
      in
      let get_is : map.get m k ≡ lookup (is_at (slice_cmp nat_cmp k)) (map.entries m) = map.get-entries m k ∙ find-lookup (map.entries m) k in
      rw (put_is, get_is) (sum_by-insert_entry f nat_list_cmp_total (map.entries m) k v (sorted (map.entries m) (is_true _ (map.entries_sorted m))))

-- what a user's files were given where a file is begun or grows
pub given-insert : (owners : Owners) (path : List ℕ) (held : Held) (user : List ℕ) →
    given (map.insert owners path held) user + unwrap_or (option_map (share user) (map.get owners path)) 0 ≡ given owners user + share user held
given-insert owners path held user = sum-insert (share user) owners path held

-- a file without bytes adds nothing
pub no_share : (user : List ℕ) (held : Held) → held.len ≡ 0 → share user held ≡ 0
no_share user held e =
    elim (is_of user held) as (λ b. cond b held.len 0 ≡ 0) [ true ↦ e | false ↦ refl ]

-- what a user's files were given where one without bytes goes
pub given-remove : (owners : Owners) (path : List ℕ) (held : Held) (user : List ℕ) → map.get owners path ≡ Some held → held.len ≡ 0 →
    given (map.remove owners path) user ≡ given owners user
given-remove owners path held user there none =
    let back : map.insert (map.remove owners path) path held ≡ owners = insert-remove owners path held there in
    let sum = given-insert (map.remove owners path) path held user in
    let at = rw (get-remove-same owners path, back, no_share user held none) at sum in
    omega arith

-- the lengths of files that a user owns, and what they were given
sum-owned : (files : Files) (user : List ℕ) (es : List (List ℕ × Held)) → AllByRecursion (λ e. length (bytes_at files e.0) ≡ e.1.len) es →
    sum_by (λ path. length (bytes_at files path)) (map_list (λ e. e.0) (filter (λ e. is_of user e.1) es)) ≡ sum_by (share user) (values_of es)
sum-owned files user [] all = refl
sum-owned files user (e ∷ es) all =
    elim (is_of user e.1) as (λ b.
    sum_by (λ path. length (bytes_at files path)) (map_list (λ e. e.0) (cond b (e ∷ filter (λ e. is_of user e.1) es) (filter (λ e. is_of user e.1) es)))
    ≡ cond b e.1.len 0 + sum_by (share user) (values_of es)) [
      | true ↦ sum_by-cons (λ path. length (bytes_at files path)) e.0 (map_list (λ e. e.0) (filter (λ e. is_of user e.1) es)) ∙ ap (λ n. n + sum_by (λ path. length (bytes_at files path)) (map_list (λ e. e.0) (filter (λ e. is_of user e.1) es))) all.0 ∙ ap (λ n. e.1.len + n) (sum-owned files user es all.1)
      | false ↦ sum-owned files user es all.1 ∙ omega arith
    ]
    ∙ sym (sum_by-cons (share user) e.1 (values_of es))

found_all : (P : List ℕ → Held → Type 0) (es : List (List ℕ × Held)) → IsStrictlySortedBy (slice_cmp nat_cmp) (keys_of es) →
    ((path : List ℕ) → IfSome (lookup (eq_by_cmp (slice_cmp nat_cmp) path) es) (P path)) → AllByRecursion (λ e. P e.0 e.1) es
found_all P [] sort found = tt
found_all P (e ∷ es) sort found =
    let head : lookup (eq_by_cmp (slice_cmp nat_cmp) e.0) (e ∷ es) ≡ Some e.1 = lookup_head (eq_by_cmp (slice_cmp nat_cmp) e.0) e es (itself e.0) in (
      rw head at (found e.0),
      found_all P es (sorted_tail _ e.0 (keys_of es) sort) (λ path.
          elim (eq_by_cmp (slice_cmp nat_cmp) path e.0) as (λ b. eq_by_cmp (slice_cmp nat_cmp) path e.0 ≡ b → IfSome (cond b (Some e.1) (lookup (eq_by_cmp (slice_cmp nat_cmp) path) es)) (P path) → IfSome (lookup (eq_by_cmp (slice_cmp nat_cmp) path) es) (P path)) [
            | true ↦ λ same here.
                let none = lookup-none _ es (none_past_head (eq_by_cmp_equiv nat_list_cmp_total) path e es (IsDistinct-from_sorted (slice_cmp nat_cmp) (keys_of (e ∷ es)) sort) same) in
                rw none tt
            | false ↦ λ apart here. here
          ] refl (found path)),
    )

each : (found held : Option Held) (n : ℕ) → held ≡ found → IfSome held (λ h. n ≡ h.len) → IfSome found (λ h. n ≡ h.len)
each None held n same h = tt
each (Some x) held n same h = rw same at h

-- a user's usage is what the user's files were given, where each has so many bytes
pub usage-given : (owners : Owners) (files : Files) (user : List ℕ) → Agrees owners files → usage owners files user ≡ given owners user
usage-given owners files user agrees =
    sum-owned files user (map.entries owners)
    (found_all (λ path held. length (bytes_at files path) ≡ held.len) (map.entries owners) (sorted (map.entries owners) (is_true _ (map.entries_sorted owners))) (λ path. each (lookup (is_at (slice_cmp nat_cmp path)) (map.entries owners)) (map.get owners path) (length (bytes_at files path)) (map.get-entries owners path ∙ find-lookup (map.entries owners) path) (agrees path)))
