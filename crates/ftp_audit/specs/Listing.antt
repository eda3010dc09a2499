-- Users in a list, and the lines that tell what they moved.
use Rattle.std.specs.Prelude.{◌≡◌, ℕ, List, [], ◌∷◌, ◌++◌, filter_map, codes, take, Option}
use Rattle.std.specs.Option.{option_map}
use Rattle.std.specs.Ordering.{nat_cmp, ordering_then}
use Rattle.std.specs.declared.cmp.Ordering.{Ordering}
use Rattle.std.specs.Cmp.Lexicographic.{slice_cmp}
use Rattle.std.specs.List.Sorted.{IsStrictlySortedBy, IsSorted, IsPermutation}
use Rattle.std.specs.Map.{lookup, keys_of}
use Rattle.std.specs.Str.{bytes_eq}
use Rattle.ftp_text.specs.Fields.{field, number, escape}
use Rattle.ftp_audit.specs.declared.account.Mark.{Mark}
use Rattle.ftp_audit.specs.declared.total.Total.{Total}
use Rattle.ftp_audit.specs.Totals.{moved}
use Rattle.ftp_audit.specs.Marks.{total_of}

-- a row for each user of whom something was told, in their order
abbrev pub listed : List (List ℕ × List Mark) → List (List ℕ × Total)
listed users = filter_map (λ e. option_map (λ t. (e.0, t)) (total_of e.1)) users

-- the rows are in byte order of names, and say of each name what is said of it
pub record IsListing (of : List ℕ → Option Total) (rows : List (List ℕ × Total)) : Type 0 where
  pub in_order : IsStrictlySortedBy (slice_cmp nat_cmp) (keys_of rows)
  pub each : (name : List ℕ) → lookup (bytes_eq name) rows ≡ of name

-- the most bytes first, and names in byte order where the bytes are as many
abbrev pub rank_cmp : List ℕ × Total → List ℕ × Total → Ordering
rank_cmp a b = ordering_then (nat_cmp (moved b.1) (moved a.1)) (slice_cmp nat_cmp a.0 b.0)

-- the first k of the rows by rank
pub record AreTop (k : ℕ) (rows found : List (List ℕ × Total)) : Type 0 where
  pub ranked : List (List ℕ × Total)
  pub same : IsPermutation rows ranked
  pub by_rank : IsSorted rank_cmp ranked
  pub first : found ≡ take k ranked

-- the line of a user
abbrev pub row_line : List ℕ × Total → List ℕ
row_line row =
    codes "got" ++ number row.1.got_files ++ number row.1.got_bytes
    ++ codes " put" ++ number row.1.put_files ++ number row.1.put_bytes
    ++ codes " in" ++ number row.1.logins
    ++ codes " out" ++ number row.1.logouts
    ++ field (escape row.0) ++ 10 ∷ []
