-- The rule of a storage with budgets, before a call and after it.
use Rattle.std.proofs.Common.{◌≡◌, ℕ, Bool, true, false, cond, List, [], ◌∷◌, length, Option, Some, None, refl, sym, ap, subst, ◌∙◌}
use Rattle.std.specs.Prelude.{IfSome, IsSomeAnd, Result, Ok, Err, IsErrOf, OnOk, OnErr, map as map_list, unwrap_or}
use Rattle.std.specs.FinMap as map
use Rattle.std.specs.FinMap.Entries.{find}
use Rattle.std.specs.Option.{option_map}
use Rattle.std.specs.Ordering.{nat_cmp, eq_by_cmp}
use Rattle.std.specs.Cmp.Lexicographic.{slice_cmp, nat_list_cmp_total}
use Rattle.ftp_base.specs.declared.error_kind.ErrorKind.{ErrorKind}
use Rattle.ftp_base.specs.Storage.{BegunFile, Files, Call, Begin, Append, Meaning, Rule, once_begun, meaning_of, Answers}
use Rattle.ftp_base.specs.declared.storage.StoreError.{StoreError}
use Rattle.ftp_base.specs.declared.storage.StoreError.TheVariants as store
use Rattle.ftp_base.proofs.Files.{paths_apart}
use Rattle.ftp_audit.specs.declared.quota_book.Held.{Held}
use Rattle.ftp_audit.specs.Usage.{Owners, bytes_at, Agrees}
use Rattle.ftp_audit.specs.Book.{Book, own_refusal, refusal}
use Rattle.ftp_audit.specs.Quota.{refusal_of, book_after, after_call, relengthed, owners_over, owner_or, owned_by, owned_after, quota_rule, IfTrueTo, IsUnused}
use Rattle.ftp_audit.proofs.ByName.{tied, itself}
use Rattle.ftp_audit.proofs.Begun.{begin-owner, append-owner, agrees-new}

-- who owns a file
abbrev owner_at : Owners → List ℕ → Option (List ℕ)
owner_at owners path = option_map (λ (held : Held). held.owner) (map.get owners path)

-- each file has the same owner by both
abbrev SameOwners : Owners → Owners → Type 0
SameOwners a b = (path : List ℕ) → owner_at a path ≡ owner_at b path

-- ---- owners with the lengths of files
find-relengthed : (files : Files) (q : List ℕ) (es : List (List ℕ × Held)) →
    find (slice_cmp nat_cmp) q (map_list (λ (e : List ℕ × Held). (e.0, relengthed files e.0 e.1)) es) ≡ option_map (relengthed files q) (find (slice_cmp nat_cmp) q es)
find-relengthed files q [] = refl
find-relengthed files q (e ∷ es) =
    elim (eq_by_cmp (slice_cmp nat_cmp) q e.0) as (λ b. eq_by_cmp (slice_cmp nat_cmp) q e.0 ≡ b →
    cond b (Some (relengthed files e.0 e.1)) (find (slice_cmp nat_cmp) q (map_list (λ (e : List ℕ × Held). (e.0, relengthed files e.0 e.1)) es)) ≡ option_map (relengthed files q) (cond b (Some e.1) (find (slice_cmp nat_cmp) q es))) [
      | true ↦ λ same. ap (λ (path : List ℕ). Some (relengthed files path e.1)) (sym (tied q e.0 same))
      | false ↦ λ apart. find-relengthed files q es
    ] refl

pub get-owners_over : (files : Files) (owners : Owners) (q : List ℕ) → map.get (owners_over files owners) q ≡ option_map (relengthed files q) (map.get owners q)
get-owners_over files owners q =
    map.get-from_entries nat_list_cmp_total (map_list (λ (e : List ℕ × Held). (e.0, relengthed files e.0 e.1)) (map.entries owners)) q
    ∙ find-relengthed files q (map.entries owners)
    ∙ ap (option_map (relengthed files q)) (sym (map.get-entries owners q))

-- the owner alone counts
by_owner : (files : Files) (q : List ℕ) (x y : Option Held) → option_map (λ (held : Held). held.owner) x ≡ option_map (λ (held : Held). held.owner) y →
    option_map (relengthed files q) x ≡ option_map (relengthed files q) y
by_owner files q None None e = refl
by_owner files q None (Some y) e = absurd (cc e)
by_owner files q (Some x) None e = absurd (cc e)
by_owner files q (Some x) (Some y) e =
    ap (λ (o : Option (List ℕ)). Some (record { owner = unwrap_or o x.owner; len = length (bytes_at files q) })) e

owners_over-alike : (files : Files) (a b : Owners) → SameOwners a b → owners_over files a ≡ owners_over files b
owners_over-alike files a b same =
    map.same_map nat_list_cmp_total paths_apart _ _ (λ q.
    get-owners_over files a q ∙ by_owner files q (map.get a q) (map.get b q) (same q) ∙ sym (get-owners_over files b q))

same_length : (files : Files) (q : List ℕ) (o : Option Held) → IfSome o (λ held. length (bytes_at files q) ≡ held.len) → option_map (relengthed files q) o ≡ o
same_length files q None has = refl
same_length files q (Some held) has = ap (λ (len : ℕ). Some (record held { len = len })) has

-- where each file has as many bytes as it was given, nothing changes
owners_over-same : (files : Files) (owners : Owners) → Agrees owners files → owners_over files owners ≡ owners
owners_over-same files owners agrees =
    map.same_map nat_list_cmp_total paths_apart _ _ (λ q. get-owners_over files owners q ∙ same_length files q (map.get owners q) (agrees q))

-- ---- owners of files that were begun
owner-insert : (owners : Owners) (path q : List ℕ) (held : Held) → owner_at (map.insert owners path held) q ≡ cond (eq_by_cmp (slice_cmp nat_cmp) q path) (Some held.owner) (owner_at owners q)
owner-insert owners path q held =
    ap (option_map (λ (h : Held). h.owner)) (map.get-insert nat_list_cmp_total owners path held q)
    ∙ elim (eq_by_cmp (slice_cmp nat_cmp) q path) as (λ b. option_map (λ (h : Held). h.owner) (cond b (Some held) (map.get owners q)) ≡ cond b (Some held.owner) (owner_at owners q)) [
      | true ↦ refl
      | false ↦ refl
    ]

owned_by-alike : (a b : Owners) (begun : BegunFile) → SameOwners a b → SameOwners (owned_by a begun) (owned_by b begun)
owned_by-alike a b begun same q =
    owner-insert a begun.1 q (record { owner = owner_or (map.get a begun.1) begun.0; len = 0 })
    ∙ ap (λ (o : Option (List ℕ)). cond (eq_by_cmp (slice_cmp nat_cmp) q begun.1) (Some (unwrap_or o begun.0)) (owner_at a q)) (same begun.1)
    ∙ ap (cond (eq_by_cmp (slice_cmp nat_cmp) q begun.1) (Some (unwrap_or (owner_at b begun.1) begun.0))) (same q)
    ∙ sym (owner-insert b begun.1 q (record { owner = owner_or (map.get b begun.1) begun.0; len = 0 }))

owned_after-alike : (a b : Owners) (begun : List BegunFile) → SameOwners a b → SameOwners (owned_after a begun) (owned_after b begun)
owned_after-alike a b [] same = same
owned_after-alike a b (x ∷ begun) same = owned_after-alike (owned_by a x) (owned_by b x) begun (owned_by-alike a b x same)

-- who puts a file of his own there changes no owner
put-same : (owners : Owners) (user path : List ℕ) (len : ℕ) → owner_at owners path ≡ Some user → SameOwners (map.insert owners path (record { owner = user; len = len })) owners
put-same owners user path len own q =
    owner-insert owners path q (record { owner = user; len = len })
    ∙ elim (eq_by_cmp (slice_cmp nat_cmp) q path) as (λ b. eq_by_cmp (slice_cmp nat_cmp) q path ≡ b → cond b (Some user) (owner_at owners q) ≡ owner_at owners q) [
      | true ↦ λ same. sym own ∙ ap (owner_at owners) (sym (tied q path same))
      | false ↦ λ apart. refl
    ] refl

-- who begins a file that is not another's owns it
pub begins-own : (book : Book) (user path : List ℕ) (start : ℕ) → own_refusal book (Begin user path start) ≡ None → owner_or (map.get book.owners path) user ≡ user
begins-own book user path start none = at (map.get book.owners path) refl where
  at : (o : Option Held) → map.get book.owners path ≡ o → owner_or o user ≡ user
  at None is = refl
  at (Some held) is = (begin-owner book user path start none held is).0

-- ---- the rule
rule-alike : (book : Book) (a b : Owners) (rule : Rule) → SameOwners a b → quota_rule (Some (record book { owners = a })) rule ≡ quota_rule (Some (record book { owners = b })) rule
rule-alike book a b rule same = λ i begun files call.
    refusal (record book { owners = owners_over-alike files (owned_after a begun) (owned_after b begun) (owned_after-alike a b begun same) i }) (rule begun files) call

-- the rule after a file was begun is the one that the rule before says
pub rule-begun : (book : Book) (rule : Rule) (user path : List ℕ) (start : ℕ) → own_refusal book (Begin user path start) ≡ None →
    quota_rule (Some (book_after book (Begin user path start))) (once_begun (user, path) rule) ≡ once_begun (user, path) (quota_rule (Some book) rule)
rule-begun book rule user path start none =
    rule-alike book (map.insert book.owners path (record { owner = user; len = start })) (owned_by book.owners (user, path)) (once_begun (user, path) rule) (λ q.
    owner-insert book.owners path q (record { owner = user; len = start })
    ∙ ap (λ (owner : List ℕ). cond (eq_by_cmp (slice_cmp nat_cmp) q path) (Some owner) (owner_at book.owners q)) (sym (begins-own book user path start none))
    ∙ sym (owner-insert book.owners path q (record { owner = owner_or (map.get book.owners path) user; len = 0 })))

-- a file that grows changes no rule
pub rule-grown : (book : Book) (rule : Rule) (user path bytes : List ℕ) → own_refusal book (Append user path bytes) ≡ None →
    quota_rule (Some (book_after book (Append user path bytes))) rule ≡ quota_rule (Some book) rule
rule-grown book rule user path bytes none =
    let own = append-owner book user path bytes none in
    let owner : owner_at book.owners path ≡ Some user = ap (option_map (λ (held : Held). held.owner)) own.1 ∙ ap Some own.2 in
    rule-alike book _ book.owners rule (put-same book.owners user path _ owner)

-- a call is refused by the rule as it is by what was given
pub rule-now : (book : Book) (rule : Rule) (files : Files) (call : Call) → Agrees book.owners files → quota_rule (Some book) rule [] files call ≡ refusal book (rule [] files) call
rule-now book rule files call agrees =
    ap (λ (owners : Owners). refusal (record book { owners = owners }) (rule [] files) call) (owners_over-same files book.owners agrees)

-- an answer by what was given is one by the rule
pub rule-answers : {A : Type 0} (book : Option Book) (rule : Rule) (told : Option Files) (call : Call) (result : Result A StoreError) → IfTrueTo told book →
    Answers told (refusal_of book (meaning_of rule told) call) result → Answers told (meaning_of (quota_rule book rule) told call) result
rule-answers None rule told call result agrees answers = answers
rule-answers (Some book) rule None call result agrees answers = λ told. cc
rule-answers (Some book) rule (Some files) call result agrees answers =
    subst (λ (refused : Option ErrorKind). Answers (Some files) refused result) (sym (rule-now book rule files call agrees)) answers

-- a call that reads
abbrev pub IsReading : Call → Type 0
IsReading (Begin user path start) = ⊥
IsReading (Append user path bytes) = ⊥
IsReading call = Unit {0}

-- none is refused for the book's sake
reads-own : (book : Option Book) (meaning : Meaning) (call : Call) → IsReading call → refusal_of book meaning call ≡ meaning call
reads-own None meaning call reads = refl
reads-own (Some book) meaning (Begin user path start) reads = absurd reads
reads-own (Some book) meaning (Append user path bytes) reads = absurd reads
reads-own (Some book) meaning call reads = refl

-- so it is refused by the storage alone
pub rule-passes : {A : Type 0} (book : Option Book) (rule : Rule) (told : Option Files) (call : Call) (result : Result A StoreError) → IfTrueTo told book → IsReading call →
    Answers told (meaning_of rule told call) result → Answers told (meaning_of (quota_rule book rule) told call) result
rule-passes book rule told call result agrees reads answers =
    rule-answers book rule told call result agrees (subst (λ (refused : Option ErrorKind). Answers told refused result) (sym (reads-own book (meaning_of rule told) call reads)) answers)

-- after a call the files agree with what was given, if they are told
pub agrees-on : (old new : Option Files) (before after : Book) → (old ≡ None → new ≡ None) → (IsSomeAnd old (Agrees before.owners) → IsSomeAnd new (Agrees after.owners)) →
    IfSome old (Agrees before.owners) → IfSome new (Agrees after.owners)
agrees-on None new before after untold on agrees = rw (untold refl) tt
agrees-on (Some files) None before after untold on agrees = tt
agrees-on (Some files) (Some newer) before after untold on agrees = on agrees

-- they agree where the owners are the same
pub agrees-owners : (told : Option Files) (before after : Book) → after.owners ≡ before.owners → IfTrueTo told (Some before) → IfTrueTo told (Some after)
agrees-owners told before after same agrees = subst (λ (owners : Owners). IfSome told (Agrees owners)) (sym same) agrees

-- where nobody owns a file, every files agree
pub agrees-unused : (told : Option Files) (book : Option Book) → IsUnused book → IfTrueTo told book
agrees-unused told None unused = tt
agrees-unused None (Some book) unused = tt
agrees-unused (Some files) (Some book) unused = subst (λ (owners : Owners). Agrees owners files) (sym unused) (agrees-new files)

-- ---- what an answer tells of the rule
-- a call that went well was not refused for the book's sake
not_own : (x : Unit {0}) (r : Option ErrorKind) → IfSome r (λ k. IsErrOf (Ok x) (store.Kind k)) → r ≡ None
not_own x None own = refl
not_own x (Some k) own = absurd (cc own)

-- after a file was begun the rule is the one that the rule before says
pub begun-so : (result : Result (Unit {0}) StoreError) (book new : Book) (rule now : Rule) (user path : List ℕ) (start : ℕ) →
    IfSome (own_refusal book (Begin user path start)) (λ k. IsErrOf result (store.Kind k)) →
    OnOk result (new ≡ book_after book (Begin user path start)) → OnOk result (now ≡ once_begun (user, path) rule) →
    OnOk result (quota_rule (Some new) now ≡ once_begun (user, path) (quota_rule (Some book) rule))
begun-so (Err e) book new rule now user path start own owned begun = tt
begun-so (Ok x) book new rule now user path start own owned begun =
    ap (λ (b : Book). quota_rule (Some b) now) owned
    ∙ ap (quota_rule (Some (book_after book (Begin user path start)))) begun
    ∙ rule-begun book rule user path start (not_own x (own_refusal book (Begin user path start)) own)

-- whatever is answered to an append, the rule stays
pub grown-so : (result : Result (Unit {0}) StoreError) (book new : Book) (rule now : Rule) (user path bytes : List ℕ) →
    IfSome (own_refusal book (Append user path bytes)) (λ k. IsErrOf result (store.Kind k)) →
    OnOk result (new ≡ book_after book (Append user path bytes)) → OnErr result (new ≡ book) → now ≡ rule →
    quota_rule (Some new) now ≡ quota_rule (Some book) rule
grown-so (Err e) book new rule now user path bytes own owned same stays =
    ap (λ (b : Book). quota_rule (Some b) now) same ∙ ap (quota_rule (Some book)) stays
grown-so (Ok x) book new rule now user path bytes own owned same stays =
    ap (λ (b : Book). quota_rule (Some b) now) owned
    ∙ ap (quota_rule (Some (book_after book (Append user path bytes)))) stays
    ∙ rule-grown book rule user path bytes (not_own x (own_refusal book (Append user path bytes)) own)
