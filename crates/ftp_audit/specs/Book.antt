-- The budgets of users with the owners of files, and which calls are refused for them.
use Rattle.std.specs.Prelude.{◌≡◌, ℕ, ◌+◌, ◌-◌, ◌≤◌, nat_lt, Bool, true, false, List, Vec, length, Option, Some, None, IsSome, unwrap_or, if◌then◌else◌, refl}
use Rattle.std.specs.Coded.{Coded, code_by, coded×, coded_ℕ, coded_list}
use Rattle.std.specs.FinMap as map
use Rattle.std.specs.Map.{keys_of}
use Rattle.std.specs.List.Sorted.{IsStrictlySortedBy}
use Rattle.std.specs.Global.{Global}
use Rattle.std.specs.Option.{option_or}
use Rattle.ftp_base.specs.declared.error_kind.ErrorKind.{ErrorKind}
use Rattle.ftp_base.specs.declared.error_kind.ErrorKind.TheVariants as kind
use Rattle.ftp_base.specs.Storage.{Call, Metadata, Listing, ReadAt, Begin, Append, Meaning}
use Rattle.ftp_audit.specs.declared.quota_book.Held.{Held}
use Rattle.ftp_audit.specs.Names.{ByName, path_cmp, by_name}
use Rattle.ftp_audit.specs.Usage.{Owners, is_of, given}

-- the budget of a user who has none of his own, those of the others, and who owns which file
pub record Book : Type 0 where
  pub default : ℕ
  pub budgets : ByName ℕ
  pub owners : Owners

-- what a file's owner and length are stored as
abbrev pub held_code : Coded Held
held_code = code_by (List ℕ × ℕ) (coded× (coded_list coded_ℕ) coded_ℕ) (λ h. (h.owner, h.len)) (λ p. record { owner = p.0; len = p.1 }) (λ _. refl)

-- a book is stored as its parts
abbrev pub book_code : Coded Book
book_code =
    code_by (ℕ × (ByName ℕ × Owners)) (coded× coded_ℕ (coded× (map.code (coded_list coded_ℕ) coded_ℕ) (map.code (coded_list coded_ℕ) held_code)))
    (λ b. (b.default, (b.budgets, b.owners))) (λ p. record { default = p.0; budgets = p.1.0; owners = p.1.1 }) (λ _. refl)

-- a new book
abbrev pub new_book : ℕ → Book
new_book default = record { default = default; budgets = map.empty; owners = map.empty }

-- the budget of a user
abbrev pub budget_of : Book → List ℕ → ℕ
budget_of book user = unwrap_or (map.get book.budgets user) book.default

-- no user's files were given more than the user's budget
abbrev pub IsWithin : Book → Type 0
IsWithin book = (user : List ℕ) → given book.owners user ≤ budget_of book user

-- so many bytes are too many
abbrev pub if_above : ℕ → ℕ → Option ErrorKind
if_above bytes budget = if nat_lt budget bytes then Some kind.ExceededStorageAllocationError else None

-- how it is refused to begin a file at a place: to another user than its owner, for the budget
abbrev pub begin_refusal : Option Held → List ℕ → ℕ → ℕ → ℕ → Option ErrorKind
begin_refusal None user used budget start = if_above (used + start) budget
begin_refusal (Some held) user used budget start =
    if is_of user held then if_above (used - held.len + start) budget else Some kind.PermissionDenied

-- how it is refused to put so many bytes at the end of a file: to another user than its owner, for the budget
abbrev pub append_refusal : Option Held → List ℕ → ℕ → ℕ → ℕ → Option ErrorKind
append_refusal None user used budget len = Some kind.PermissionDenied
append_refusal (Some held) user used budget len = if is_of user held then if_above (used + len) budget else Some kind.PermissionDenied

-- which calls are refused for the book's sake, whatever the storage answers
abbrev pub own_refusal : Book → Call → Option ErrorKind
own_refusal book (Metadata user path) = None
own_refusal book (Listing user path) = None
own_refusal book (ReadAt user path place) = None
own_refusal book (Begin user path start) =
    begin_refusal (map.get book.owners path) user (given book.owners user) (budget_of book user) start
own_refusal book (Append user path bytes) =
    append_refusal (map.get book.owners path) user (given book.owners user) (budget_of book user) (length bytes)

-- which calls are refused in all: first for the book's sake, then by the storage
abbrev pub refusal : Book → Meaning → Meaning
refusal book meaning call = option_or (own_refusal book call) (meaning call)

-- the book with a file that a user has begun or that grew
abbrev pub with_file_of : Book → List ℕ → List ℕ → ℕ → Book
with_file_of book user path len = record book { owners = map.insert book.owners path (record { owner = user; len = len }) }

-- a user owns a file that nobody owned, and was given none of its bytes, or somebody owns it and all is as it was
abbrev pub Takes : Book → Book → List ℕ → List ℕ → Bool → Type 0
Takes old new user path true = (map.get old.owners path ≡ None) × (new ≡ with_file_of old user path 0)
Takes old new user path false = (IsSome (map.get old.owners path)) × (new ≡ old)

-- what was given out is counted: a user's count is what the user's files were given, and each owner has one
pub record Balances (used : ByName ℕ) (owners : Owners) : Type 0 where
  pub counted : (user : List ℕ) → unwrap_or (map.get used user) 0 ≡ given owners user
  pub present : (path : List ℕ) (held : Held) → map.get owners path ≡ Some held → (n : ℕ) × (map.get used held.owner ≡ Some n)

-- the owners of files stand in byte order of paths, and what was given out is counted
pub record Keeps (owners : List (Vec ℕ Global × Held)) (used : List (Vec ℕ Global × ℕ)) : Type 0 where
  pub ordered : IsStrictlySortedBy path_cmp (keys_of owners)
  pub balance : Balances (by_name used) (by_name owners)
