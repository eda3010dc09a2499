-- The book and the files after a file was begun or grew.
use Rattle.std.proofs.Common.{◌≡◌, ◌≢◌, ℕ, ◌+◌, ◌-◌, ◌≤◌, Bool, true, false, cond, List, [], ◌++◌, length, Option, Some, None, IsSome, nat_lt, refl, sym, ap, subst, ◌∙◌, arith, length-append}
use Rattle.std.specs.Prelude.{IfSome, IsSomeAnd, unwrap_or, Result, Ok, Err, OnOk, OnErr}
use Rattle.std.specs.FinMap as map
use Rattle.std.specs.Option.{option_and_then}
use Rattle.std.specs.Ordering.{nat_cmp, eq_by_cmp}
use Rattle.std.specs.Cmp.Lexicographic.{slice_cmp, nat_list_cmp_total}
use Rattle.std.specs.Str.{bytes_eq}
use Rattle.std.proofs.lemmas.Bool.{ltb-false}
use Rattle.std.proofs.lemmas.Grind.{common_steps}
use Rattle.ftp_base.specs.declared.error_kind.ErrorKind.{ErrorKind}
use Rattle.ftp_base.specs.declared.error_kind.ErrorKind.TheVariants as kind
use Rattle.ftp_base.specs.Storage.{Item, Directory, File, Files, Begin, Append, root, bytes_of, contents, old_bytes, cut, with_file, Begins, Grows}
use Rattle.ftp_audit.specs.declared.quota_book.Held.{Held}
use Rattle.ftp_audit.specs.Names.{ByName}
use Rattle.ftp_audit.specs.Usage.{Owners, is_of, bytes_at, usage, given, Agrees}
use Rattle.ftp_audit.specs.Book.{Book, new_book, budget_of, IsWithin, if_above, begin_refusal, append_refusal, own_refusal, with_file_of, Takes}
use Rattle.ftp_audit.specs.Quota.{book_after}
use Rattle.ftp_audit.proofs.Maps.{never_some, get-insert-same, insert-insert, remove-insert}
use Rattle.ftp_audit.proofs.UsageLemmas.{usage-given}
use Rattle.ftp_audit.proofs.Balance.{given-empty}
use Rattle.ftp_audit.proofs.ByName.{same_name, own_name}
use Rattle.ftp_audit.proofs.Shares.{own-le, given-new, given-changed, given-others}

-- what is not too many is at most as many
within_if : (n budget : ℕ) → if_above n budget ≡ None → n ≤ budget
within_if n budget = elim (nat_lt budget n) as (λ b. nat_lt budget n ≡ b → cond b (Some kind.ExceededStorageAllocationError) None ≡ None → n ≤ budget) [
  | true ↦ λ e h. absurd (cc h)
  | false ↦ λ e h. ltb-false budget n e
] refl

-- who is not refused as another user is the owner
owner_if : (held : Held) (user : List ℕ) (rest : Option ErrorKind) → cond (is_of user held) rest (Some kind.PermissionDenied) ≡ None → (held.owner ≡ user) × (rest ≡ None)
owner_if held user rest = elim (is_of user held) as (λ b. is_of user held ≡ b → cond b rest (Some kind.PermissionDenied) ≡ None → (held.owner ≡ user) × (rest ≡ None)) [
  | true ↦ λ e h. (same_name held.owner user e, h)
  | false ↦ λ e h. absurd (cc h)
] refl

-- who may begin a file owns it, where anybody does
pub begin-owner : (book : Book) (user path : List ℕ) (start : ℕ) → own_refusal book (Begin user path start) ≡ None →
    (held : Held) → map.get book.owners path ≡ Some held → (held.owner ≡ user) × (given book.owners user - held.len + start ≤ budget_of book user)
begin-owner book user path start none held there =
    let refused : begin_refusal (Some held) user (given book.owners user) (budget_of book user) start ≡ None = rw there at none in
    let own = owner_if held user (if_above (given book.owners user - held.len + start) (budget_of book user)) refused in
    (own.0, within_if _ _ own.1)

-- who may begin a file that nobody owns has room for it
pub begin-new : (book : Book) (user path : List ℕ) (start : ℕ) → own_refusal book (Begin user path start) ≡ None →
    map.get book.owners path ≡ None → given book.owners user + start ≤ budget_of book user
begin-new book user path start none absent =
    let refused : begin_refusal None user (given book.owners user) (budget_of book user) start ≡ None = rw absent at none in
    within_if _ _ refused

-- who may append to a file owns it
pub append-owner : (book : Book) (user path bytes : List ℕ) → own_refusal book (Append user path bytes) ≡ None →
    (held : Held) × (map.get book.owners path ≡ Some held) × (held.owner ≡ user) × (given book.owners user + length bytes ≤ budget_of book user)
append-owner book user path bytes none = found (map.get book.owners path) refl none where
  found : (o : Option Held) → map.get book.owners path ≡ o → append_refusal o user (given book.owners user) (budget_of book user) (length bytes) ≡ None →
      (held : Held) × (map.get book.owners path ≡ Some held) × (held.owner ≡ user) × (given book.owners user + length bytes ≤ budget_of book user)
  found None is h = absurd (cc h)
  found (Some held) is h =
      let own = owner_if held user (if_above (given book.owners user + length bytes) (budget_of book user)) h in
      (held, is, own.0, within_if _ _ own.1)

-- ---- the budgets
same_or_other : (book : Book) (user path : List ℕ) (len : ℕ) → IsWithin book →
    ((held : Held) → map.get book.owners path ≡ Some held → held.owner ≡ user) →
    given (map.insert book.owners path (record { owner = user; len = len })) user ≤ budget_of book user →
    IsWithin (with_file_of book user path len)
same_or_other book user path len within owned fits other =
    elim (bytes_eq user other) as (λ b. bytes_eq user other ≡ b → given (map.insert book.owners path (record { owner = user; len = len })) other ≤ budget_of book other) [
      | true ↦ λ e. let same = same_name user other e in subst (λ (u : List ℕ). given (map.insert book.owners path (record { owner = user; len = len })) u ≤ budget_of book u) same fits
      | false ↦ λ e.
          let apart : user ≢ other = λ same. (let yes = own_of user other same in cc (e, yes)) in
          let stays = given-others book.owners path user other len owned apart in
          let before = within other in
          omega arith
    ] refl where
      own_of : (a b : List ℕ) → a ≡ b → bytes_eq a b ≡ true
      own_of a b same = rw same (own_name b)

-- nobody's files come to more after a file was begun
pub within-begun : (book : Book) (user path : List ℕ) (start : ℕ) → IsWithin book → own_refusal book (Begin user path start) ≡ None →
    IsWithin (book_after book (Begin user path start))
within-begun book user path start within none =
    same_or_other book user path start within (λ held there. (begin-owner book user path start none held there).0) (fits (map.get book.owners path) refl) where
      fits : (o : Option Held) → map.get book.owners path ≡ o → given (map.insert book.owners path (record { owner = user; len = start })) user ≤ budget_of book user
      fits None is =
          let room = begin-new book user path start none is in
          let grown = given-new book.owners path user start is in
          omega arith
      fits (Some held) is =
          let own = begin-owner book user path start none held is in
          let room = own.1 in
          let grown = given-changed book.owners path user start held is own.0 in
          omega arith

-- nobody's files come to more after a file grew
pub within-grown : (book : Book) (user path bytes : List ℕ) (held : Held) → map.get book.owners path ≡ Some held → IsWithin book → own_refusal book (Append user path bytes) ≡ None →
    IsWithin (with_file_of book user path (held.len + length bytes))
within-grown book user path bytes held there within none =
    let own = append-owner book user path bytes none in
    let one : own.0 ≡ held = (let e = own.1 in cc (e, there)) in
    let owner : held.owner ≡ user = ap (λ (h : Held). h.owner) (sym one) ∙ own.2 in
    let below = own-le book.owners path held user there owner in
    let grown = given-changed book.owners path user (held.len + length bytes) held there owner in
    let room = own.3 in
    same_or_other book user path (held.len + length bytes) within (λ h is. let same : held ≡ h = cc (is, there) in ap (λ (x : Held). x.owner) (sym same) ∙ owner) (omega arith)

-- in a new book
pub within-new : (default : ℕ) → IsWithin (new_book default)
within-new default user = let none = given-empty user in omega arith

-- where nobody owns a file
pub within-unused : (book : Book) → book.owners ≡ map.empty → IsWithin book
within-unused book unused user =
    let none : given book.owners user ≡ 0 = ap (λ (owners : Owners). given owners user) unused ∙ given-empty user in
    omega arith

-- ---- the files
length-cut : (bytes : List ℕ) (start : ℕ) → length (cut bytes start) ≡ start
length-cut bytes start = grind (arith, common_steps)

-- what the map has at a path where a file was put, and at others
at_path : (files : Files) (path q bytes : List ℕ) → bytes_at (with_file files path bytes) q ≡ cond (eq_by_cmp (slice_cmp nat_cmp) q path) bytes (bytes_at files q)
at_path files path q bytes =
    ap (λ (o : Option Item). unwrap_or (option_and_then bytes_of o) []) (map.get-insert nat_list_cmp_total files path (File bytes) q)
    ∙ elim (eq_by_cmp (slice_cmp nat_cmp) q path) as (λ b. unwrap_or (option_and_then bytes_of (cond b (Some (File bytes)) (map.get files q))) [] ≡ cond b bytes (bytes_at files q)) [
      | true ↦ refl
      | false ↦ refl
    ]

agrees-put : (owners : Owners) (files : Files) (user path bytes : List ℕ) (len : ℕ) → Agrees owners files → length bytes ≡ len →
    Agrees (map.insert owners path (record { owner = user; len = len })) (with_file files path bytes)
agrees-put owners files user path bytes len agrees has q =
    subst (λ (o : Option Held). IfSome o (λ held. length (bytes_at (with_file files path bytes) q) ≡ held.len)) (sym (map.get-insert nat_list_cmp_total owners path (record { owner = user; len = len }) q))
    (subst (λ (b : List ℕ). IfSome (cond (eq_by_cmp (slice_cmp nat_cmp) q path) (Some (record { owner = user; len = len })) (map.get owners q)) (λ held. length b ≡ held.len)) (sym (at_path files path q bytes))
    (elim (eq_by_cmp (slice_cmp nat_cmp) q path) as (λ b. IfSome (cond b (Some (record { owner = user; len = len })) (map.get owners q)) (λ held. length (cond b bytes (bytes_at files q)) ≡ held.len)) [
      | true ↦ has
      | false ↦ agrees q
    ]))

-- a file that was begun has as many bytes as it was given, and the others have as before
pub true-begun : (owners : Owners) (old new : Option Files) (user path : List ℕ) (start : ℕ) → IsSomeAnd old (Agrees owners) → Begins old new path start →
    IsSomeAnd new (Agrees (map.insert owners path (record { owner = user; len = start })))
true-begun owners None new user path start agrees begun = absurd agrees
true-begun owners (Some files) new user path start agrees begun =
    rw begun (agrees-put owners files user path (cut (old_bytes files path) start) start agrees (length-cut (old_bytes files path) start))

-- what a file holds is what the map has
at_contents : (files : Files) (path had : List ℕ) → contents files path ≡ Some had → bytes_at files path ≡ had
at_contents files path had = elim (bytes_eq path root) as (λ b. option_and_then bytes_of (cond b (Some Directory) (map.get files path)) ≡ Some had → bytes_at files path ≡ had) [
  | true ↦ λ e. absurd (cc e)
  | false ↦ λ e. ap (λ (o : Option (List ℕ)). unwrap_or o []) e
]

grown_files : (o : Option (List ℕ)) (files : Files) (new : Option Files) (path bytes : List ℕ) → contents files path ≡ o →
    IsSomeAnd o (λ had. new ≡ Some (with_file files path (had ++ bytes))) → new ≡ Some (with_file files path (bytes_at files path ++ bytes))
grown_files None files new path bytes is grown = absurd grown
grown_files (Some had) files new path bytes is grown =
    grown ∙ ap (λ (h : List ℕ). Some (with_file files path (h ++ bytes))) (sym (at_contents files path had is))

-- a file that grew has as many bytes as it was given in all, and the others have as before
pub true-grown : (owners : Owners) (old new : Option Files) (user path bytes : List ℕ) (held : Held) → map.get owners path ≡ Some held → IsSomeAnd old (Agrees owners) → Grows old new path bytes →
    IsSomeAnd new (Agrees (map.insert owners path (record { owner = user; len = held.len + length bytes })))
true-grown owners None new user path bytes held there agrees grown = absurd agrees
true-grown owners (Some files) new user path bytes held there agrees grown =
    let later = grown_files (contents files path) files new path bytes refl grown in
    let len : length (bytes_at files path) ≡ held.len = rw there at (agrees path) in
    rw later (agrees-put owners files user path (bytes_at files path ++ bytes) (held.len + length bytes) agrees (length-append (bytes_at files path) bytes ∙ ap (λ n. n + length bytes) len))

-- ---- the room for an owner
-- the user owns the file then
pub takes-held : (old new : Book) (user path : List ℕ) (start : ℕ) (fresh : Bool) → Takes old new user path fresh → own_refusal old (Begin user path start) ≡ None →
    IsSomeAnd (map.get new.owners path) (λ held. held.owner ≡ user)
takes-held old new user path start true taken none =
    let there : map.get new.owners path ≡ Some (record { owner = user; len = 0 }) = ap (λ (b : Book). map.get b.owners path) taken.1 ∙ get-insert-same old.owners path (record { owner = user; len = 0 }) in
    rw there refl
takes-held old new user path start false taken none =
    rw taken.1 (owned (map.get old.owners path) refl taken.0) where
      owned : (o : Option Held) → map.get old.owners path ≡ o → IsSome o → IsSomeAnd o (λ held. held.owner ≡ user)
      owned None is there = absurd (never_some {X = Held} None refl there)
      owned (Some held) is there = (begin-owner old user path start none held is).0

-- to put the file there is to put it where no room was taken
pub takes-put : (old new : Book) (user path : List ℕ) (len : ℕ) (fresh : Bool) → Takes old new user path fresh → with_file_of new user path len ≡ with_file_of old user path len
takes-put old new user path len true taken =
    ap (λ (b : Book). with_file_of b user path len) taken.1
    ∙ ap (λ (owners : Owners). record old { owners = owners }) (insert-insert old.owners path (record { owner = user; len = 0 }) (record { owner = user; len = len }))
takes-put old new user path len false taken = ap (λ (b : Book). with_file_of b user path len) taken.1

-- to give the room up leaves what was before
pub takes-back : (old new : Book) (user path : List ℕ) → Takes old new user path true → record new { owners = map.remove new.owners path } ≡ old
takes-back old new user path taken =
    ap (λ (b : Book). record b { owners = map.remove b.owners path }) taken.1
    ∙ ap (λ (owners : Owners). record old { owners = owners }) (remove-insert old.owners path (record { owner = user; len = 0 }) taken.0)

-- a file for which room was taken has no bytes
pub takes-empty : (old new : Book) (user path : List ℕ) → Takes old new user path true → IfSome (map.get new.owners path) (λ held. held.len ≡ 0)
takes-empty old new user path taken =
    let there : map.get new.owners path ≡ Some (record { owner = user; len = 0 }) = ap (λ (b : Book). map.get b.owners path) taken.1 ∙ get-insert-same old.owners path (record { owner = user; len = 0 }) in
    rw there refl

-- in a new book no file has an owner
pub agrees-new : (files : Files) → Agrees map.empty files
agrees-new files path = subst (λ (o : Option Held). IfSome o (λ held. length (bytes_at files path) ≡ held.len)) (sym (map.get-empty (slice_cmp nat_cmp) path)) tt

-- the usage by the files as they are
pub usage_told : (book : Book) (told : Option Files) (user : List ℕ) (n : ℕ) → n ≡ given book.owners user →
    IfSome told (λ files. IsSomeAnd told (Agrees book.owners) → n ≡ usage book.owners files user)
usage_told book None user n is = tt
usage_told book (Some files) user n is = λ agrees. is ∙ sym (usage-given book.owners files user agrees)

-- a budget that is set, or not, leaves the owners of files
pub same_after : {E : Type 0} (r : Result (Unit {0}) E) (old new : Book) (budgets : ByName ℕ) → OnOk r (new ≡ record old { budgets = budgets }) → OnErr r (new ≡ old) → new.owners ≡ old.owners
same_after (Ok x) old new budgets set unchanged = ap (λ (b : Book). b.owners) set
same_after (Err e) old new budgets set unchanged = ap (λ (b : Book). b.owners) unchanged
