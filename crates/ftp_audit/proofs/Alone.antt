-- What becomes of one user's calls goes by these calls alone.
use Rattle.std.proofs.Common.{◌≡◌, ◌≢◌, ℕ, ◌+◌, Bool, true, false, cond, List, [], ◌∷◌, ◌++◌, length, Option, Some, None, refl, sym, ap, subst, ◌∙◌, arith}
use Rattle.std.specs.Prelude.{unwrap_or, Contains}
use Rattle.std.specs.FinMap as map
use Rattle.std.specs.Option.{option_map, option_and_then, option_or}
use Rattle.std.specs.Ordering.{nat_cmp, eq_by_cmp}
use Rattle.std.specs.Cmp.Lexicographic.{slice_cmp, nat_list_cmp_total}
use Rattle.std.specs.Str.{bytes_eq}
use Rattle.std.specs.List.{AllByRecursion}
use Rattle.std.proofs.lemmas.List.Elements.{Contains-append_left, Contains-append_right, Contains-push}
use Rattle.ftp_base.specs.declared.error_kind.ErrorKind.{ErrorKind}
use Rattle.ftp_base.specs.declared.error_kind.ErrorKind.TheVariants as kind
use Rattle.ftp_base.specs.Storage.{Item, Directory, File, Files, Call, Begin, Append, Meaning, root, item, bytes_of, contents, old_bytes, cut, parent, with_file}
use Rattle.ftp_base.specs.MemoryStorage.{memory_rule, file_refusal, append_refusal as end_refusal, if_directory, if_file, if_within}
use Rattle.ftp_audit.specs.declared.quota_book.Held.{Held}
use Rattle.ftp_audit.specs.declared.calls.QuotaCall.{QuotaCall}
use Rattle.ftp_audit.specs.declared.calls.QuotaCall.TheVariants as call
use Rattle.ftp_audit.specs.declared.calls.Verdict.{Verdict}
use Rattle.ftp_audit.specs.Usage.{Owners, share, given}
use Rattle.ftp_audit.specs.Book.{Book, budget_of, begin_refusal, append_refusal, own_refusal, with_file_of}
use Rattle.ftp_audit.specs.Quota.{refusal_of, after_call}
use Rattle.ftp_audit.specs.Replay.{Kept, call_of, refusal_in, verdict_by, kept_by, next, verdicts}
use Rattle.ftp_audit.specs.Alone.{user_of, path_of, is_by, calls_of, verdicts_to, IsApart}
use Rattle.ftp_audit.proofs.ByName.{same_name, own_name, tied}
use Rattle.ftp_audit.proofs.Maps.{get-insert-other}
use Rattle.ftp_audit.proofs.UsageLemmas.{given-insert}
use Rattle.ftp_audit.proofs.Shares.{given-others}
use Rattle.ftp_audit.proofs.Begun.{begin-owner, append-owner}

-- a directory stands there
abbrev is_dir : Option Item → Bool
is_dir None = false
is_dir (Some Directory) = true
is_dir (Some (File bytes)) = false

-- two books tell one user the same, of files where P holds
abbrev BooksAlike : (List ℕ → Type 0) → List ℕ → Option Book → Option Book → Type 0
BooksAlike P user None None = Unit {0}
BooksAlike P user None (Some b) = ⊥
BooksAlike P user (Some a) None = ⊥
BooksAlike P user (Some a) (Some b) =
    (budget_of a user ≡ budget_of b user) × (given a.owners user ≡ given b.owners user) × ((q : List ℕ) → P q → map.get a.owners q ≡ map.get b.owners q)

-- what is kept tells one user the same: the files where P holds, and each directory
record Alike (P : List ℕ → Type 0) (user : List ℕ) (a b : Kept) : Type 0 where
  files : (q : List ℕ) → P q → map.get a.files q ≡ map.get b.files q
  dirs : (q : List ℕ) → is_dir (map.get a.files q) ≡ is_dir (map.get b.files q)
  books : BooksAlike P user a.book b.book

-- ---- refusals by the storage
by_dir : (o : Option Item) (k : ErrorKind) (rest : Option ErrorKind) → if_directory o k rest ≡ cond (is_dir o) rest (Some k)
by_dir None k rest = refl
by_dir (Some Directory) k rest = refl
by_dir (Some (File bytes)) k rest = refl

at_item : (files : Files) (q : List ℕ) → item files q ≡ cond (bytes_eq q root) (Some Directory) (map.get files q)
at_item files q = refl

item_alike : (m n : Files) (q : List ℕ) → map.get m q ≡ map.get n q → item m q ≡ item n q
item_alike m n q same = ap (λ (o : Option Item). cond (bytes_eq q root) (Some Directory) o) same

dir_alike : (b : Bool) (o o' : Option Item) → is_dir o ≡ is_dir o' → is_dir (cond b (Some Directory) o) ≡ is_dir (cond b (Some Directory) o')
dir_alike true o o' same = refl
dir_alike false o o' same = same

file_alike : (m n : Files) (max len : ℕ) (q : List ℕ) → ((p : List ℕ) → is_dir (map.get m p) ≡ is_dir (map.get n p)) → map.get m q ≡ map.get n q →
    file_refusal m max q len ≡ file_refusal n max q len
file_alike m n max len q dirs same =
    by_dir (item m (parent q)) kind.PermanentDirectoryNotAvailable (if_file (item m q) (if_within len max))
    ∙ ap (λ (b : Bool). cond b (if_file (item m q) (if_within len max)) (Some kind.PermanentDirectoryNotAvailable)) (dir_alike (bytes_eq (parent q) root) (map.get m (parent q)) (map.get n (parent q)) (dirs (parent q)))
    ∙ ap (λ (o : Option Item). cond (is_dir (item n (parent q))) (if_file o (if_within len max)) (Some kind.PermanentDirectoryNotAvailable)) (item_alike m n q same)
    ∙ sym (by_dir (item n (parent q)) kind.PermanentDirectoryNotAvailable (if_file (item n q) (if_within len max)))

contents_alike : (m n : Files) (q : List ℕ) → map.get m q ≡ map.get n q → contents m q ≡ contents n q
contents_alike m n q same = ap (λ (o : Option Item). option_and_then bytes_of o) (item_alike m n q same)

-- ---- refusals in all
-- two books that are alike to a user refuse a call of the user alike, in which one number counts
books_alike : (P : List ℕ → Type 0) (user path : List ℕ) (n : ℕ) (own : Option Held → List ℕ → ℕ → ℕ → ℕ → Option ErrorKind) (call : Call) →
    ((book : Book) → own_refusal book call ≡ own (map.get book.owners path) user (given book.owners user) (budget_of book user) n) →
    (A B : Option Book) (f g : Meaning) → BooksAlike P user A B → P path → f call ≡ g call → refusal_of A f call ≡ refusal_of B g call
books_alike P user path n own call is None None f g alike here same = same
books_alike P user path n own call is None (Some b) f g alike here same = absurd alike
books_alike P user path n own call is (Some a) None f g alike here same = absurd alike
books_alike P user path n own call is (Some a) (Some b) f g alike here same =
    ap (λ (r : Option ErrorKind). option_or r (f call)) (is a)
    ∙ ap (λ (o : Option Held). option_or (own o user (given a.owners user) (budget_of a user) n) (f call)) (alike.2 path here)
    ∙ ap (λ (u : ℕ). option_or (own (map.get b.owners path) user u (budget_of a user) n) (f call)) alike.1
    ∙ ap (λ (u : ℕ). option_or (own (map.get b.owners path) user (given b.owners user) u n) (f call)) alike.0
    ∙ ap (λ (r : Option ErrorKind). option_or r (f call)) (sym (is b))
    ∙ ap (λ (r : Option ErrorKind). option_or (own_refusal b call) r) same

-- a call of the user is refused alike
refused_alike : (P : List ℕ → Type 0) (user : List ℕ) (max : ℕ) (a b : Kept) (c : QuotaCall) → Alike P user a b → user_of c ≡ user → P (path_of c) →
    refusal_in (memory_rule max) a c ≡ refusal_in (memory_rule max) b c
refused_alike P user max a b (call.Begin who path start) alike is here =
    let books : BooksAlike P who a.book b.book = subst (λ (u : List ℕ). BooksAlike P u a.book b.book) (sym is) alike.books in
    books_alike P who path start begin_refusal (Begin who path start) (λ book. refl) a.book b.book (memory_rule max [] a.files) (memory_rule max [] b.files) books here (file_alike a.files b.files max start path alike.dirs (alike.files path here))
refused_alike P user max a b (call.Append who path bytes) alike is here =
    let books : BooksAlike P who a.book b.book = subst (λ (u : List ℕ). BooksAlike P u a.book b.book) (sym is) alike.books in
    books_alike P who path (length bytes) append_refusal (Append who path bytes) (λ book. refl) a.book b.book (memory_rule max [] a.files) (memory_rule max [] b.files) books here
    (ap (λ (o : Option (List ℕ)). end_refusal o max (length bytes)) (contents_alike a.files b.files path (alike.files path here)))

-- ---- what is kept after a call
put_files : (m n : Files) (path x y q : List ℕ) → x ≡ y → map.get m q ≡ map.get n q → map.get (with_file m path x) q ≡ map.get (with_file n path y) q
put_files m n path x y q same before =
    map.get-insert nat_list_cmp_total m path (File x) q
    ∙ ap (λ (o : Option Item). cond (eq_by_cmp (slice_cmp nat_cmp) q path) (Some (File x)) o) before
    ∙ ap (λ (z : List ℕ). cond (eq_by_cmp (slice_cmp nat_cmp) q path) (Some (File z)) (map.get n q)) same
    ∙ sym (map.get-insert nat_list_cmp_total n path (File y) q)

dir_of : (b : Bool) (x : List ℕ) (o : Option Item) → is_dir (cond b (Some (File x)) o) ≡ cond b false (is_dir o)
dir_of true x o = refl
dir_of false x o = refl

put_dir : (m : Files) (path x q : List ℕ) → is_dir (map.get (with_file m path x) q) ≡ cond (eq_by_cmp (slice_cmp nat_cmp) q path) false (is_dir (map.get m q))
put_dir m path x q =
    ap is_dir (map.get-insert nat_list_cmp_total m path (File x) q) ∙ dir_of (eq_by_cmp (slice_cmp nat_cmp) q path) x (map.get m q)

put_dirs : (m n : Files) (path x y q : List ℕ) → is_dir (map.get m q) ≡ is_dir (map.get n q) → is_dir (map.get (with_file m path x) q) ≡ is_dir (map.get (with_file n path y) q)
put_dirs m n path x y q before =
    put_dir m path x q ∙ ap (λ (b : Bool). cond (eq_by_cmp (slice_cmp nat_cmp) q path) false b) before ∙ sym (put_dir n path y q)

put_owner : (m n : Owners) (path q : List ℕ) (h i : Held) → h ≡ i → map.get m q ≡ map.get n q → map.get (map.insert m path h) q ≡ map.get (map.insert n path i) q
put_owner m n path q h i same before =
    map.get-insert nat_list_cmp_total m path h q
    ∙ ap (λ (o : Option Held). cond (eq_by_cmp (slice_cmp nat_cmp) q path) (Some h) o) before
    ∙ ap (λ (x : Held). cond (eq_by_cmp (slice_cmp nat_cmp) q path) (Some x) (map.get n q)) same
    ∙ sym (map.get-insert nat_list_cmp_total n path i q)

given_alike : (m n : Owners) (path user : List ℕ) (h : Held) → given m user ≡ given n user → map.get m path ≡ map.get n path → given (map.insert m path h) user ≡ given (map.insert n path h) user
given_alike m n path user h before same =
    let left = given-insert m path h user in
    let right = given-insert n path h user in
    let old : unwrap_or (option_map (share user) (map.get m path)) 0 ≡ unwrap_or (option_map (share user) (map.get n path)) 0 = ap (λ (o : Option Held). unwrap_or (option_map (share user) o) 0) same in
    omega arith

-- two books after a file of the user's was begun or grew
owned_alike : (P : List ℕ → Type 0) (user path : List ℕ) (m n : ℕ) (a b : Book) → BooksAlike P user (Some a) (Some b) → P path → m ≡ n →
    BooksAlike P user (Some (with_file_of a user path m)) (Some (with_file_of b user path n))
owned_alike P user path m n a b alike here same = (
  alike.0,
  given_alike a.owners b.owners path user (record { owner = user; len = m }) alike.1 (alike.2 path here)
      ∙ ap (λ (len : ℕ). given (map.insert b.owners path (record { owner = user; len = len })) user) same,
  λ q holds. put_owner a.owners b.owners path q (record { owner = user; len = m }) (record { owner = user; len = n }) (ap (λ (len : ℕ). record { owner = user; len = len }) same) (alike.2 q holds),
)

begun_books : (P : List ℕ → Type 0) (user path : List ℕ) (start : ℕ) (A B : Option Book) → BooksAlike P user A B → P path →
    BooksAlike P user (after_call A (Begin user path start)) (after_call B (Begin user path start))
begun_books P user path start None None alike here = tt
begun_books P user path start None (Some b) alike here = absurd alike
begun_books P user path start (Some a) None alike here = absurd alike
begun_books P user path start (Some a) (Some b) alike here = owned_alike P user path start start a b alike here refl

grown_books : (P : List ℕ → Type 0) (user path bytes : List ℕ) (A B : Option Book) → BooksAlike P user A B → P path →
    BooksAlike P user (after_call A (Append user path bytes)) (after_call B (Append user path bytes))
grown_books P user path bytes None None alike here = tt
grown_books P user path bytes None (Some b) alike here = absurd alike
grown_books P user path bytes (Some a) None alike here = absurd alike
grown_books P user path bytes (Some a) (Some b) alike here =
    owned_alike P user path _ _ a b alike here (ap (λ (o : Option Held). unwrap_or (option_map (λ (held : Held). held.len) o) 0 + length bytes) (alike.2 path here))

-- a call of the user leaves the user the same
own_step : (P : List ℕ → Type 0) (user : List ℕ) (a b : Kept) (c : QuotaCall) (r : Option ErrorKind) → Alike P user a b → user_of c ≡ user → P (path_of c) →
    Alike P user (kept_by r a (call_of c)) (kept_by r b (call_of c))
own_step P user a b c (Some k) alike is here = alike
own_step P user a b (call.Begin who path start) None alike is here =
    let old : old_bytes a.files path ≡ old_bytes b.files path = ap (λ (o : Option (List ℕ)). unwrap_or o []) (contents_alike a.files b.files path (alike.files path here)) in
    let now : cut (old_bytes a.files path) start ≡ cut (old_bytes b.files path) start = ap (λ (bytes : List ℕ). cut bytes start) old in
    record {
      files = λ q holds. put_files a.files b.files path _ _ q now (alike.files q holds);
      dirs = λ q. put_dirs a.files b.files path _ _ q (alike.dirs q);
      books = subst (λ (u : List ℕ). BooksAlike P user (after_call a.book (Begin u path start)) (after_call b.book (Begin u path start))) (sym is)
          (begun_books P user path start a.book b.book alike.books here);
    }
own_step P user a b (call.Append who path bytes) None alike is here =
    let old : old_bytes a.files path ≡ old_bytes b.files path = ap (λ (o : Option (List ℕ)). unwrap_or o []) (contents_alike a.files b.files path (alike.files path here)) in
    let now : old_bytes a.files path ++ bytes ≡ old_bytes b.files path ++ bytes = ap (λ (had : List ℕ). had ++ bytes) old in
    record {
      files = λ q holds. put_files a.files b.files path _ _ q now (alike.files q holds);
      dirs = λ q. put_dirs a.files b.files path _ _ q (alike.dirs q);
      books = subst (λ (u : List ℕ). BooksAlike P user (after_call a.book (Append u path bytes)) (after_call b.book (Append u path bytes))) (sym is)
          (grown_books P user path bytes a.book b.book alike.books here);
    }

-- ---- calls of others
nor : (x y : Option ErrorKind) → option_or x y ≡ None → (x ≡ None) × (y ≡ None)
nor None y e = (refl, e)
nor (Some k) y e = absurd (cc e)

-- what is allowed in all is allowed by the storage
allowed : (A : Option Book) (f : Files) (max : ℕ) (c : QuotaCall) → refusal_of A (memory_rule max [] f) (call_of c) ≡ None → memory_rule max [] f (call_of c) ≡ None
allowed None f max c e = e
allowed (Some book) f max c e = (nor (own_refusal book (call_of c)) (memory_rule max [] f (call_of c)) e).1

no_file : (o : Option Item) (rest : Option ErrorKind) → if_file o rest ≡ None → is_dir o ≡ false
no_file None rest e = refl
no_file (Some Directory) rest e = absurd (cc e)
no_file (Some (File bytes)) rest e = refl

under_dir : (o : Option Item) (k : ErrorKind) (rest : Option ErrorKind) → if_directory o k rest ≡ None → rest ≡ None
under_dir None k rest e = absurd (cc e)
under_dir (Some Directory) k rest e = e
under_dir (Some (File bytes)) k rest e = absurd (cc e)

below_root : (b : Bool) (o : Option Item) → is_dir (cond b (Some Directory) o) ≡ false → is_dir o ≡ false
below_root true o e = absurd (cc e)
below_root false o e = e

at_end : (o : Option Item) (max len : ℕ) → end_refusal (option_and_then bytes_of o) max len ≡ None → is_dir o ≡ false
at_end None max len e = absurd (cc e)
at_end (Some Directory) max len e = absurd (cc e)
at_end (Some (File bytes)) max len e = refl

-- what is allowed is allowed on no directory
no_dir : (f : Files) (max : ℕ) (c : QuotaCall) → memory_rule max [] f (call_of c) ≡ None → is_dir (map.get f (path_of c)) ≡ false
no_dir f max (call.Begin who path start) e =
    below_root (bytes_eq path root) (map.get f path)
    (no_file (item f path) (if_within start max) (under_dir (item f (parent path)) kind.PermanentDirectoryNotAvailable (if_file (item f path) (if_within start max)) e))
no_dir f max (call.Append who path bytes) e = below_root (bytes_eq path root) (map.get f path) (at_end (item f path) max (length bytes) e)

other_dirs : (f : Files) (g : Files) (path x q : List ℕ) → is_dir (map.get f path) ≡ false → is_dir (map.get f q) ≡ is_dir (map.get g q) → is_dir (map.get (with_file f path x) q) ≡ is_dir (map.get g q)
other_dirs f g path x q none before =
    put_dir f path x q
    ∙ elim (eq_by_cmp (slice_cmp nat_cmp) q path) as (λ b. eq_by_cmp (slice_cmp nat_cmp) q path ≡ b → cond b false (is_dir (map.get f q)) ≡ is_dir (map.get g q)) [
      | true ↦ λ e. sym none ∙ ap (λ (p : List ℕ). is_dir (map.get f p)) (sym (tied q path e)) ∙ before
      | false ↦ λ e. before
    ] refl

other_owned : (P : List ℕ → Type 0) (user who path : List ℕ) (len : ℕ) (a : Book) (B : Option Book) → BooksAlike P user (Some a) B → (P path → ⊥) → who ≢ user →
    ((held : Held) → map.get a.owners path ≡ Some held → held.owner ≡ who) → BooksAlike P user (Some (with_file_of a who path len)) B
other_owned P user who path len a None alike never apart owned = absurd alike
other_owned P user who path len a (Some b) alike never apart owned = (
  alike.0,
  given-others a.owners path who user len owned apart ∙ alike.1,
  λ q holds. get-insert-other a.owners path (record { owner = who; len = len }) q (λ same. never (subst P same holds)) ∙ alike.2 q holds,
)

begun_other : (P : List ℕ → Type 0) (user who path : List ℕ) (start max : ℕ) (f : Files) (A B : Option Book) → BooksAlike P user A B → (P path → ⊥) → who ≢ user →
    refusal_of A (memory_rule max [] f) (Begin who path start) ≡ None → BooksAlike P user (after_call A (Begin who path start)) B
begun_other P user who path start max f None B alike never apart none = alike
begun_other P user who path start max f (Some a) B alike never apart none =
    let own = (nor (own_refusal a (Begin who path start)) (memory_rule max [] f (Begin who path start)) none).0 in
    other_owned P user who path start a B alike never apart (λ held there. (begin-owner a who path start own held there).0)

grown_other : (P : List ℕ → Type 0) (user who path bytes : List ℕ) (max : ℕ) (f : Files) (A B : Option Book) → BooksAlike P user A B → (P path → ⊥) → who ≢ user →
    refusal_of A (memory_rule max [] f) (Append who path bytes) ≡ None → BooksAlike P user (after_call A (Append who path bytes)) B
grown_other P user who path bytes max f None B alike never apart none = alike
grown_other P user who path bytes max f (Some a) B alike never apart none =
    let own = (nor (own_refusal a (Append who path bytes)) (memory_rule max [] f (Append who path bytes)) none).0 in
    let held = append-owner a who path bytes own in
    other_owned P user who path _ a B alike never apart (λ h there. let one : held.0 ≡ h = (let e = held.1 in cc (e, there)) in ap (λ (x : Held). x.owner) (sym one) ∙ held.2)

-- a call of another user leaves the user the same
other_step : (P : List ℕ → Type 0) (user : List ℕ) (max : ℕ) (a b : Kept) (c : QuotaCall) (r : Option ErrorKind) → refusal_in (memory_rule max) a c ≡ r → Alike P user a b →
    user_of c ≢ user → (P (path_of c) → ⊥) → Alike P user (kept_by r a (call_of c)) b
other_step P user max a b c (Some k) is alike apart never = alike
other_step P user max a b (call.Begin who path start) None is alike apart never =
    let none = no_dir a.files max (call.Begin who path start) (allowed a.book a.files max (call.Begin who path start) is) in
    record {
      files = λ q holds. get-insert-other a.files path (File (cut (old_bytes a.files path) start)) q (λ same. never (subst P same holds)) ∙ alike.files q holds;
      dirs = λ q. other_dirs a.files b.files path _ q none (alike.dirs q);
      books = begun_other P user who path start max a.files a.book b.book alike.books never apart is;
    }
other_step P user max a b (call.Append who path bytes) None is alike apart never =
    let none = no_dir a.files max (call.Append who path bytes) (allowed a.book a.files max (call.Append who path bytes) is) in
    record {
      files = λ q holds. get-insert-other a.files path (File (old_bytes a.files path ++ bytes)) q (λ same. never (subst P same holds)) ∙ alike.files q holds;
      dirs = λ q. other_dirs a.files b.files path _ q none (alike.dirs q);
      books = grown_other P user who path bytes max a.files a.book b.book alike.books never apart is;
    }

-- ---- all calls
-- the calls of the user are for files where P holds, and those of others are not
abbrev Sorted : (List ℕ → Type 0) → List ℕ → QuotaCall → Type 0
Sorted P user c = (user_of c ≡ user → P (path_of c)) × (user_of c ≢ user → P (path_of c) → ⊥)

alone_from : (P : List ℕ → Type 0) (user : List ℕ) (max : ℕ) (calls : List QuotaCall) (a b : Kept) → AllByRecursion (Sorted P user) calls → Alike P user a b →
    verdicts_to user calls (verdicts (memory_rule max) a calls) ≡ verdicts (memory_rule max) b (calls_of user calls)
alone_from P user max [] a b sorted alike = refl
alone_from P user max (c ∷ calls) a b sorted alike =
    elim (is_by user c) as (λ r. is_by user c ≡ r →
    cond r (verdict_by (refusal_in (memory_rule max) a c) ∷ verdicts_to user calls (verdicts (memory_rule max) (next (memory_rule max) a c) calls)) (verdicts_to user calls (verdicts (memory_rule max) (next (memory_rule max) a c) calls))
    ≡ verdicts (memory_rule max) b (cond r (c ∷ calls_of user calls) (calls_of user calls))) [
      | true ↦ λ e.
          let own = same_name (user_of c) user e in
          let here = sorted.0.0 own in
          let same = refused_alike P user max a b c alike own here in
          let rest : verdicts_to user calls (verdicts (memory_rule max) (next (memory_rule max) a c) calls) ≡ verdicts (memory_rule max) (next (memory_rule max) b c) (calls_of user calls) =
          alone_from P user max calls (next (memory_rule max) a c) (next (memory_rule max) b c) sorted.1
          (subst (λ (r : Option ErrorKind). Alike P user (kept_by (refusal_in (memory_rule max) a c) a (call_of c)) (kept_by r b (call_of c))) same
          (own_step P user a b c (refusal_in (memory_rule max) a c) alike own here))
          in
          ap (λ (r : Option ErrorKind). verdict_by r ∷ verdicts_to user calls (verdicts (memory_rule max) (next (memory_rule max) a c) calls)) same
          ∙ ap (λ (vs : List Verdict). verdict_by (refusal_in (memory_rule max) b c) ∷ vs) rest
      | false ↦ λ e.
          let apart : user_of c ≢ user = λ same. (let yes : is_by user c ≡ true = rw same (own_name user) in cc (e, yes)) in
          alone_from P user max calls (next (memory_rule max) a c) b sorted.1
          (other_step P user max a b c (refusal_in (memory_rule max) a c) refl alike apart (sorted.0.1 apart))
    ] refl

each_call : (Q : QuotaCall → Type 0) (calls : List QuotaCall) → ((c : QuotaCall) → Contains calls c → Q c) → AllByRecursion Q calls
each_call Q [] h = tt
each_call Q (c ∷ calls) h =
    (h c (Contains-append_left (c ∷ []) calls c (Contains-push [] c)), each_call Q calls (λ d there. h d (Contains-append_right (c ∷ []) calls d there)))

alike_books : (P : List ℕ → Type 0) (user : List ℕ) (book : Option Book) → BooksAlike P user book book
alike_books P user None = tt
alike_books P user (Some b) = (refl, refl, λ q holds. refl)

-- what becomes of a user's calls among all, is what becomes of them alone
pub verdicts-alone : (user : List ℕ) (max : ℕ) (kept : Kept) (calls : List QuotaCall) → IsApart user calls →
    verdicts_to user calls (verdicts (memory_rule max) kept calls) ≡ verdicts (memory_rule max) kept (calls_of user calls)
verdicts-alone user max kept calls apart =
    alone_from (λ path. (c : QuotaCall) × Contains calls c × (user_of c ≡ user) × (path_of c ≡ path)) user max calls kept kept
    (each_call _ calls (λ d there. (
      λ own. (d, there, own, refl),
      λ other called. apart called.0 d called.1 there called.2 other called.3,
    )))
    (record { files = λ q holds. refl; dirs = λ q. refl; books = alike_books _ user kept.book })
