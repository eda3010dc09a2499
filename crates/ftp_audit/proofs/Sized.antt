-- Appends to a file that its user began: for the book's sake they are refused for their size alone.
use Rattle.std.proofs.Common.{◌≡◌, ◌⊎◌, inl, inr, ℕ, ◌+◌, Bool, true, false, cond, nat_lt, List, [], ◌∷◌, length, Option, Some, None, refl, sym, ap, subst, ◌∙◌}
use Rattle.std.specs.Prelude.{IsSomeAnd}
use Rattle.std.specs.FinMap as map
use Rattle.std.specs.Option.{option_map, option_or}
use Rattle.std.specs.Str.{bytes_eq}
use Rattle.ftp_base.specs.declared.error_kind.ErrorKind.{ErrorKind}
use Rattle.ftp_base.specs.declared.error_kind.ErrorKind.TheVariants as kind
use Rattle.ftp_base.specs.Storage.{Files, Rule, Begin, Append}
use Rattle.ftp_audit.specs.declared.quota_book.Held.{Held}
use Rattle.ftp_audit.specs.Usage.{Owners, is_of, given}
use Rattle.ftp_audit.specs.Book.{Book, budget_of, if_above, append_refusal, own_refusal}
use Rattle.ftp_audit.specs.Quota.{relengthed, owners_over, owner_or, owned_by, quota_rule}
use Rattle.ftp_audit.proofs.Maps.{get-insert-same}
use Rattle.ftp_audit.proofs.ByName.{own_name}
use Rattle.ftp_audit.proofs.Rules.{get-owners_over, begins-own}

-- neither of two refuses
nor : (x y : Option ErrorKind) → option_or x y ≡ None → (x ≡ None) × (y ≡ None)
nor None y e = (refl, e)
nor (Some k) y e = absurd (cc e)

-- one of two refuses
one_of : (x y : Option ErrorKind) (k : ErrorKind) → option_or x y ≡ Some k → (x ≡ Some k) ⊎ (y ≡ Some k)
one_of None y k e = inr e
one_of (Some j) y k e = inl e

-- with another length a file has the same owner
owner-relengthed : (files : Files) (path : List ℕ) (o : Option Held) (user : List ℕ) → owner_or (option_map (relengthed files path) o) user ≡ owner_or o user
owner-relengthed files path None user = refl
owner-relengthed files path (Some held) user = refl

-- who may begin a file owns it then
begun-owner : (book : Book) (rule : Rule) (files : Files) (user path : List ℕ) (place : ℕ) →
    quota_rule (Some book) rule [] files (Begin user path place) ≡ None → owner_or (map.get book.owners path) user ≡ user
begun-owner book rule files user path place none =
    let now : Book = record book { owners = owners_over files book.owners } in
    sym (owner-relengthed files path (map.get book.owners path) user)
    ∙ sym (ap (λ (o : Option Held). owner_or o user) (get-owners_over files book.owners path))
    ∙ begins-own now user path place (nor (own_refusal now (Begin user path place)) (rule [] files (Begin user path place)) none).0

-- the only refusal for a budget
above-kind : (n budget : ℕ) (k : ErrorKind) → if_above n budget ≡ Some k → k ≡ kind.ExceededStorageAllocationError
above-kind n budget k = elim (nat_lt budget n) as (λ b. cond b (Some kind.ExceededStorageAllocationError) None ≡ Some k → k ≡ kind.ExceededStorageAllocationError) [
  | true ↦ λ h. cc
  | false ↦ λ h. absurd (cc h)
]

-- the owner's appends are refused for the budget alone
own-kind : (o : Option Held) (user : List ℕ) (used budget len : ℕ) (k : ErrorKind) → IsSomeAnd o (λ held. held.owner ≡ user) →
    append_refusal o user used budget len ≡ Some k → k ≡ kind.ExceededStorageAllocationError
own-kind None user used budget len k own is = absurd own
own-kind (Some held) user used budget len k own is =
    let mine : is_of user held ≡ true = ap (λ (name : List ℕ). bytes_eq name user) own ∙ own_name user in
    above-kind (used + len) budget k (subst (λ (b : Bool). cond b (if_above (used + len) budget) (Some kind.PermissionDenied) ≡ Some k) mine is)

-- behind a begin that is not refused, an append by the same user to the same file is refused for its size, or by the storage,
-- which did not refuse the begin
pub appends-sized : (book : Book) (rule : Rule) (files later : Files) (user path : List ℕ) (place : ℕ) (piece : List ℕ) (k : ErrorKind) →
    quota_rule (Some book) rule [] files (Begin user path place) ≡ None →
    quota_rule (Some book) rule ((user, path) ∷ []) later (Append user path piece) ≡ Some k →
    (k ≡ kind.ExceededStorageAllocationError) ⊎ ((rule [] files (Begin user path place) ≡ None) × (rule ((user, path) ∷ []) later (Append user path piece) ≡ Some k))
appends-sized book rule files later user path place piece k none refused =
    elim (one_of (own_refusal now (Append user path piece)) (rule ((user, path) ∷ []) later (Append user path piece)) k refused) [
      | inl own ↦ inl (own-kind (map.get now.owners path) user (given now.owners user) (budget_of book user) (length piece) k held own)
      | inr other ↦ inr ((nor (own_refusal before (Begin user path place)) (rule [] files (Begin user path place)) none).1, other)
    ] where
      before : Book
      before = record book { owners = owners_over files book.owners }

      now : Book
      now = record book { owners = owners_over later (owned_by book.owners (user, path)) }

      begun : Held
      begun = record { owner = owner_or (map.get book.owners path) user; len = 0 }

      there : map.get now.owners path ≡ Some (relengthed later path begun)
      there =
          get-owners_over later (owned_by book.owners (user, path)) path
          ∙ ap (option_map (relengthed later path)) (get-insert-same book.owners path begun)

      held : IsSomeAnd (map.get now.owners path) (λ h. h.owner ≡ user)
      held = subst (λ (o : Option Held). IsSomeAnd o (λ h. h.owner ≡ user)) (sym there) (begun-owner book rule files user path place none)
