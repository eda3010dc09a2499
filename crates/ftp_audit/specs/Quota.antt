-- A storage with budgets around another one. Without a book it is transparent: nobody has a budget, and nobody owns a file.
use Rattle.std.specs.Prelude.{◌≡◌, ℕ, ◌+◌, List, [], ◌∷◌, map as map_list, length, Option, Some, None, IfSome, IsSomeAnd, unwrap_or, refl}
use Rattle.std.specs.Coded.{Coded, code_by, coded×, coded_option}
use Rattle.std.specs.FinMap as map
use Rattle.std.specs.Option.{option_map}
use Rattle.ftp_base.specs.declared.error_kind.ErrorKind.{ErrorKind}
use Rattle.ftp_base.specs.Storage.{BegunFile, Files, Call, Metadata, Listing, ReadAt, Begin, Append, Meaning, Rule}
use Rattle.ftp_audit.specs.declared.quota_book.Held.{Held}
use Rattle.ftp_audit.specs.Usage.{Owners, bytes_at, usage, given, Agrees}
use Rattle.ftp_audit.specs.Book.{Book, book_code, budget_of, IsWithin, own_refusal, refusal, with_file_of}

-- a storage, with the budgets and owners around it, where there are any
pub record QuotaState (S : Type 0) : Type 0 where
  pub inner : S
  pub accounts : Option Book

-- it is stored as its two parts
abbrev pub quota_code : {S : Type 0} → Coded S → Coded (QuotaState S)
quota_code {S} code =
    code_by (S × Option Book) (coded× code (coded_option book_code)) (λ q. (q.inner, q.accounts)) (λ p. record { inner = p.0; accounts = p.1 }) (λ _. refl)

-- how many bytes a user's files have, over the files as they are
abbrev pub usage_of : Option Book → Files → List ℕ → ℕ
usage_of None files user = 0
usage_of (Some book) files user = usage book.owners files user

-- how many bytes a user's files were given
abbrev pub given_of : Option Book → List ℕ → ℕ
given_of None user = 0
given_of (Some book) user = given book.owners user

-- the storage tells its files, and each that has an owner has as many bytes as it was given
abbrev pub IsTrueTo : Option Files → Option Book → Type 0
IsTrueTo files None = Unit {0}
IsTrueTo files (Some book) = IsSomeAnd files (Agrees book.owners)

-- each file that has an owner has as many bytes as it was given, if the storage tells its files
abbrev pub IfTrueTo : Option Files → Option Book → Type 0
IfTrueTo files None = Unit {0}
IfTrueTo files (Some book) = IfSome files (Agrees book.owners)

-- no user's files were given more than the user's budget
abbrev pub AllWithin : Option Book → Type 0
AllWithin None = Unit {0}
AllWithin (Some book) = IsWithin book

-- the budget of a user, where there are budgets
abbrev pub budget_or : Option Book → List ℕ → Option ℕ
budget_or None user = None
budget_or (Some book) user = Some (budget_of book user)

-- the budget that a user was given of his own
abbrev pub own_budget_of : Option Book → List ℕ → Option ℕ
own_budget_of None user = None
own_budget_of (Some book) user = map.get book.budgets user

-- with a budget for a user
abbrev pub with_budget : Option Book → List ℕ → ℕ → Option Book
with_budget None user n = None
with_budget (Some book) user n = Some (record book { budgets = map.insert book.budgets user n })

-- nobody owns a file
abbrev pub IsUnused : Option Book → Type 0
IsUnused None = Unit {0}
IsUnused (Some book) = book.owners ≡ map.empty

-- which calls are refused for budgets and owners, whatever the storage answers
abbrev pub own_refusal_of : Option Book → Call → Option ErrorKind
own_refusal_of None call = None
own_refusal_of (Some book) call = own_refusal book call

-- which calls are refused in all
abbrev pub refusal_of : Option Book → Meaning → Meaning
refusal_of None meaning = meaning
refusal_of (Some book) meaning = refusal book meaning

-- the book after a call that went well
abbrev pub book_after : Book → Call → Book
book_after book (Metadata user path) = book
book_after book (Listing user path) = book
book_after book (ReadAt user path place) = book
book_after book (Begin user path start) = with_file_of book user path start
book_after book (Append user path bytes) =
    with_file_of book user path (unwrap_or (option_map (λ (held : Held). held.len) (map.get book.owners path)) 0 + length bytes)

-- the same, where there is one
abbrev pub after_call : Option Book → Call → Option Book
after_call None call = None
after_call (Some book) call = Some (book_after book call)

-- a file's owner, with the length that the file has
abbrev pub relengthed : Files → List ℕ → Held → Held
relengthed files path held = record held { len = length (bytes_at files path) }

-- the owners of files, with the lengths of the files as they are
abbrev pub owners_over : Files → Owners → Owners
owners_over files owners = map.from_entries (map_list (λ (e : List ℕ × Held). (e.0, relengthed files e.0 e.1)) (map.entries owners))

-- who owns a file that the user begins: the user, unless it has an owner
abbrev pub owner_or : Option Held → List ℕ → List ℕ
owner_or held user = unwrap_or (option_map (λ (h : Held). h.owner) held) user

-- the owners once a file was begun
abbrev pub owned_by : Owners → BegunFile → Owners
owned_by owners begun = map.insert owners begun.1 (record { owner = owner_or (map.get owners begun.1) begun.0; len = 0 })

-- the owners once files were begun, the first of them first
abbrev pub owned_after : Owners → List BegunFile → Owners
owned_after owners [] = owners
owned_after owners (begun ∷ later) = owned_after (owned_by owners begun) later

-- which calls are refused by files that were begun meanwhile and the files as they are: for budgets and owners first, then by
-- the storage's rule
abbrev pub quota_rule : Option Book → Rule → Rule
quota_rule None rule = rule
quota_rule (Some book) rule = λ begun files. refusal (record book { owners = owners_over files (owned_after book.owners begun) }) (rule begun files)
