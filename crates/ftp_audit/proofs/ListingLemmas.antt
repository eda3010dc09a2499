-- Users in a list.
use Rattle.std.proofs.Common.{◌≡◌, refl, sym, ◌∙◌, ap, subst, ℕ, Bool, true, false, cond, List, [], ◌∷◌, Some, None, unwrap_or}
use Rattle.std.specs.List.{AllByRecursion}
use Rattle.std.specs.Fn.{Called}
use Rattle.std.specs.List.Sorted.{IsStrictlySortedBy, IsSorted, IsSortedByClosure}
use Rattle.std.proofs.lemmas.Fn.{always_returns_same}
use Rattle.std.proofs.lemmas.List.Sorted.{ranks_by}
use denote.Param.Members.{Mut}
use denote.Ref.{Bor}
use Rattle.std.specs.Map.{lookup, keys_of}
use Rattle.std.specs.declared.cmp.Ordering.{Ordering}
use Rattle.std.specs.declared.cmp.Ordering.TheVariants.{Less}
use Rattle.std.specs.Ordering.{nat_cmp, is_eq, is_lt}
use Rattle.std.specs.Cmp.{IsTotalOrder, nat_cmp_total, back_total, on_total, then_total}
use Rattle.std.specs.Cmp.Lexicographic.{slice_cmp, nat_list_cmp_total}
use Rattle.std.specs.Str.{bytes_eq}
use Rattle.std.proofs.lemmas.Map.Text.{is_eq-slice_cmp}
use Rattle.ftp_audit.specs.declared.account.Mark.{Mark}
use Rattle.ftp_audit.specs.declared.total.Total.{Total}
use Rattle.ftp_audit.specs.Totals.{moved}
use Rattle.ftp_audit.specs.Marks.{newest, total_of}
use Rattle.ftp_audit.specs.Names.{named}
use Rattle.ftp_audit.specs.Users.{marks_of}
use Rattle.ftp_audit.specs.Listing.{listed, IsListing, rank_cmp}
use Rattle.ftp_audit.proofs.ByName.{same_name}
use Rattle.ftp_audit.proofs.UserLemmas.{Users}

-- the order of names
abbrev pub name_cmp : List ℕ → List ℕ → Ordering
name_cmp = slice_cmp nat_cmp

-- rank is an order
pub rank_total : IsTotalOrder rank_cmp
rank_total = then_total (back_total (on_total (λ (row : List ℕ × Total). moved row.1) nat_cmp_total)) (on_total (λ (row : List ℕ × Total). row.0) nat_list_cmp_total)

-- what a sort by a closure that answers by rank ensures
pub sorted_by_rank :
    {F : Type 0} {g : Mut F (Bor (List ℕ × Total) × (Bor (List ℕ × Total) × Unit {0})) Ordering} {f : F} (rows : List (List ℕ × Total)) →
    IsSortedByClosure g f rows →
    ((a : Bor (List ℕ × Total) × (Bor (List ℕ × Total) × Unit {0})) (r : Ordering) (f' : F) → Called g f a r f' → (r ≡ rank_cmp a.0.now a.1.0.now) × (f' ≡ f)) →
    IsSorted rank_cmp rows
sorted_by_rank {g = g} {f = f} rows up h =
    up (λ x y. is_lt (rank_cmp x y)) (ranks_by rank_total (λ (row : List ℕ × Total). row))
    (always_returns_same g (λ a r. is_lt r ≡ is_lt (rank_cmp a.0.now a.1.0.now)) f (λ a r f' k. (ap is_lt (h a r f' k).0, (h a r f' k).1)))

-- names that are above one stay so in the list
above-listed :
    (name : List ℕ) (users : List (List ℕ × List Mark)) →
    AllByRecursion (λ n. name_cmp name n ≡ Less) (keys_of users) →
    AllByRecursion (λ n. name_cmp name n ≡ Less) (keys_of (listed users))
above-listed name [] h = tt
above-listed name ((n, []) ∷ users) h = above-listed name users h.1
above-listed name ((n, m ∷ marks) ∷ users) h = (h.0, above-listed name users h.1)

-- none of them is that name
above-absent :
    (name : List ℕ) (rows : List (List ℕ × Total)) →
    AllByRecursion (λ n. name_cmp name n ≡ Less) (keys_of rows) →
    lookup (bytes_eq name) rows ≡ None
above-absent name [] h = refl
above-absent name (row ∷ rows) h =
    let apart : bytes_eq name row.0 ≡ false = sym (is_eq-slice_cmp name row.0) ∙ ap is_eq h.0 in
    rw apart (above-absent name rows h.1)

listed-order : (users : List (List ℕ × List Mark)) → IsStrictlySortedBy name_cmp (keys_of users) → IsStrictlySortedBy name_cmp (keys_of (listed users))
unfolding IsStrictlySortedBy
listed-order [] h = tt
listed-order ((n, []) ∷ users) h = listed-order users h.1
listed-order ((n, m ∷ marks) ∷ users) h = (above-listed n users h.0, listed-order users h.1)

listed-each :
    (users : List (List ℕ × List Mark)) → IsStrictlySortedBy name_cmp (keys_of users) → (name : List ℕ) →
    lookup (bytes_eq name) (listed users) ≡ total_of (marks_of users name)
unfolding IsStrictlySortedBy
listed-each [] h name = refl
listed-each ((n, []) ∷ users) h name = go (bytes_eq name n) refl (listed-each users h.1 name)
  where
    go :
        (b : Bool) → bytes_eq name n ≡ b → lookup (bytes_eq name) (listed users) ≡ total_of (marks_of users name) →
        lookup (bytes_eq name) (listed users) ≡ total_of (unwrap_or (cond b (Some []) (lookup (bytes_eq name) users)) [])
    go true e rest = subst (λ (q : List ℕ). lookup (bytes_eq q) (listed users) ≡ None) (sym (same_name name n e)) (above-absent n (listed users) (above-listed n users h.0))
    go false e rest = rest
listed-each ((n, m ∷ marks) ∷ users) h name = go (bytes_eq name n) (listed-each users h.1 name)
  where
    go :
        (b : Bool) → lookup (bytes_eq name) (listed users) ≡ total_of (marks_of users name) →
        cond b (Some (newest m.sums marks)) (lookup (bytes_eq name) (listed users)) ≡ total_of (unwrap_or (cond b (Some (m ∷ marks)) (lookup (bytes_eq name) users)) [])
    go true rest = refl
    go false rest = rest

keys-named : (users : Users) → IsStrictlySortedBy (λ x y. name_cmp x.items y.items) (keys_of users) → IsStrictlySortedBy name_cmp (keys_of (named users))
unfolding IsStrictlySortedBy
keys-named [] h = tt
keys-named (e ∷ users) h = (above users h.0, keys-named users h.1)
  where
    above : (us : Users) → AllByRecursion (λ k. name_cmp e.0.items k.items ≡ Less) (keys_of us) → AllByRecursion (λ n. name_cmp e.0.items n ≡ Less) (keys_of (named us))
    above [] h = tt
    above (u ∷ us) h = (h.0, above us h.1)

-- the list of users in a map is their listing
pub listed-listing :
    (users : Users) (state : List (List ℕ × List Mark)) → named users ≡ state →
    IsStrictlySortedBy (λ x y. name_cmp x.items y.items) (keys_of users) →
    IsListing (λ name. total_of (marks_of state name)) (listed (named users))
listed-listing users state view h =
    record {
      in_order = listed-order (named users) (keys-named users h);
      each = λ name. listed-each (named users) (keys-named users h) name ∙ ap (λ (us : List (List ℕ × List Mark)). total_of (marks_of us name)) view;
    }
