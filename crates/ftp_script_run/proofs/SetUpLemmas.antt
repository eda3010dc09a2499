-- What sets up a storage or a link: it is made as its line says, and it is not refused.
use Rattle.std.proofs.Common.{◌≡◌, ◌≢◌, ℕ, true, false, not, ◌&&◌, leb, ltb, List, [], Option, Some, None, length, refl, sym, ap, subst, ◌∙◌, arith}
use Rattle.std.specs.Prelude.{is_none}
use Rattle.std.specs.FinMap as map
use Rattle.std.proofs.lemmas.Bool.{not-true, leb-true, and_parts}
use Rattle.std.proofs.lemmas.Bool.Decides.{nat_tests}
use Rattle.ftp_base.specs.declared.error_kind.ErrorKind.{ErrorKind}
use Rattle.ftp_base.specs.declared.error_kind.ErrorKind.TheVariants as error
use Rattle.ftp_base.specs.declared.fault.LinkFault.{LinkFault}
use Rattle.ftp_base.specs.declared.storage.StoreError.{StoreError}
use Rattle.ftp_base.specs.declared.storage.StoreError.TheVariants as store
use Rattle.ftp_base.specs.MemoryStorage.{MemoryState, directory_refusal, file_refusal, if_directory, if_new, if_file, if_within}
use Rattle.ftp_base.specs.Storage.{Files, parent, Refuses, item as item_at}
use Rattle.ftp_base.specs.Storage as storage
use Rattle.ftp_base.specs.Memory.{LinkState}
use Rattle.ftp_events.specs.declared.entry.Entry.{Entry}
use Rattle.ftp_text.specs.declared.setup.Item.{Item}
use Rattle.ftp_text.specs.declared.setup.Item.TheVariants as item
use Rattle.ftp_audit.specs.Quota.{IsUnused}
use Rattle.ftp_script_run.specs.Script.{has_stored, has_quota, has_no_budget, is_free, may_stand}
use Rattle.ftp_script_run.specs.SetUp.{StorageState, has_event, new_storage, storage_in}
use Rattle.ftp_script_run.specs.declared.run.Run.{Run}
use Rattle.ftp_script_run.specs.Items.{new_link}
use Rattle.ftp_script_run.specs.Runs.{Before, Keeps, MayTake}
use Rattle.ftp_script_run.proofs.ItemLemmas.{storage_in-unused}
use Rattle.ftp_script_run.proofs.RunLemmas.{kept-storage}

-- ---- the storage

-- a storage that was made is a new one
pub new_storage-is : (s : MemoryState) (max : ℕ) (fails : List ℕ) →
    s.files ≡ map.empty →
    s.max_file ≡ max →
    s.calls.made ≡ 0 →
    s.calls.faults ≡ 0 →
    s.calls.failing ≡ fails →
    s ≡ new_storage max fails
new_storage-is s max fails files longest made faults failing = λ i. record {
  files = files i;
  max_file = longest i;
  calls = record { made = made i; faults = faults i; failing = failing i };
}

none_is : {X : Type 0} (o : Option X) → is_none o ≡ true → o ≡ None
none_is None h = refl
none_is (Some x) h = absurd cc

-- a path is free in the storage where it is free by the items
free_is : (before : Before) (run : Run) (items : List Item) (log : List Entry) (path : List ℕ) → Keeps before run items log → has_event items ≡ false → is_free items path ≡ true → directory_refusal run.storage.inner.files path ≡ None
free_is before run items log path kept first free = ap (λ (s : StorageState). directory_refusal s.inner.files path) (kept-storage before run items log kept first) ∙ none_is (directory_refusal (storage_in items).inner.files path) free

-- a file is not refused where a directory is not, and it is not too long
file_refusal-none : (files : Files) (max : ℕ) (path : List ℕ) (len : ℕ) → directory_refusal files path ≡ None → leb len max ≡ true → file_refusal files max path len ≡ None
file_refusal-none files max path len free short = by (item_at files (parent path)) (item_at files path) free where
  within : if_within len max ≡ None
  within = let f : ltb max len ≡ false = grind (arith, nat_tests, leb-true len max short) in rw f refl

  by : (p q : Option storage.Item) → if_directory p error.PermanentDirectoryNotAvailable (if_new q) ≡ None → if_directory p error.PermanentDirectoryNotAvailable (if_file q (if_within len max)) ≡ None
  by (Some storage.Directory) None e = within
  by (Some storage.Directory) (Some i) e = absurd cc
  by (Some (storage.File bytes)) q e = absurd cc
  by None q e = absurd cc

-- what sets up the storage comes before all events
pub storage_first : (items : List Item) (max : ℕ) (fails : List ℕ) → may_stand items (item.Storage max fails) ≡ true → has_event items ≡ false
storage_first items max fails may = not-true (has_event items) (and_parts (not (has_event items)) (not (has_stored items)) may).0

pub dir_first : (items : List Item) (path : List ℕ) → may_stand items (item.Dir path) ≡ true → has_event items ≡ false
dir_first items path may = not-true (has_event items) (and_parts (not (has_event items)) (is_free items path) may).0

pub file_first : (items : List Item) (bytes path : List ℕ) → may_stand items (item.File bytes path) ≡ true → has_event items ≡ false
file_first items bytes path may =
    not-true (has_event items) (and_parts (not (has_event items)) (is_free items path && leb (length bytes) (storage_in items).inner.max_file) may).0

pub quota_first : (items : List Item) (default : ℕ) → may_stand items (item.Quota default) ≡ true → has_event items ≡ false
quota_first items default may = not-true (has_event items) (and_parts (not (has_event items)) (not (has_quota items)) may).0

pub budget_first : (items : List Item) (bytes : ℕ) (user : List ℕ) → may_stand items (item.Budget bytes user) ≡ true → has_event items ≡ false
budget_first items bytes user may = not-true (has_event items) (and_parts (not (has_event items)) (has_quota items && has_no_budget items user) may).0

-- before all events nobody owns a file
unused_first : (before : Before) (run : Run) (items : List Item) (log : List Entry) → Keeps before run items log → has_event items ≡ false → IsUnused run.storage.accounts
unused_first before run items log kept first =
    subst (λ (s : StorageState). IsUnused s.accounts) (sym (kept-storage before run items log kept first)) (storage_in-unused items)

pub storage_unused : (run : Run) (max : ℕ) (fails : List ℕ) → MayTake run (item.Storage max fails) → IsUnused run.storage.accounts
storage_unused run max fails may = unused_first may.1.0 run may.1.1 may.1.2 may.1.3 (storage_first may.1.1 max fails may.1.4.stands)

pub dir_unused : (run : Run) (path : List ℕ) → MayTake run (item.Dir path) → IsUnused run.storage.accounts
dir_unused run path may = unused_first may.1.0 run may.1.1 may.1.2 may.1.3 (dir_first may.1.1 path may.1.4.stands)

pub file_unused : (run : Run) (bytes path : List ℕ) → MayTake run (item.File bytes path) → IsUnused run.storage.accounts
file_unused run bytes path may = unused_first may.1.0 run may.1.1 may.1.2 may.1.3 (file_first may.1.1 bytes path may.1.4.stands)

-- a directory that comes is not refused
pub dir_taken : (run : Run) (path : List ℕ) → MayTake run (item.Dir path) → directory_refusal run.storage.inner.files path ≡ None
dir_taken run path may =
    let items = may.1.1 in
    let stands = may.1.4.stands in
    free_is may.1.0 run items may.1.2 path may.1.3 (dir_first items path stands) (and_parts (not (has_event items)) (is_free items path) stands).1

-- a file that comes is not refused
pub file_taken : (run : Run) (bytes path : List ℕ) → MayTake run (item.File bytes path) → file_refusal run.storage.inner.files run.storage.inner.max_file path (length bytes) ≡ None
file_taken run bytes path may =
    let items = may.1.1 in
    let kept = may.1.3 in
    let stands = may.1.4.stands in
    let first = file_first items bytes path stands in
    let fits = (and_parts (not (has_event items)) (is_free items path && leb (length bytes) (storage_in items).inner.max_file) stands).1 in
    let parts = and_parts (is_free items path) (leb (length bytes) (storage_in items).inner.max_file) fits in
    file_refusal-none run.storage.inner.files run.storage.inner.max_file path (length bytes)
    (free_is may.1.0 run items may.1.2 path kept first parts.0)
    (ap (λ (s : StorageState). leb (length bytes) s.inner.max_file) (kept-storage may.1.0 run items may.1.2 kept first) ∙ parts.1)

-- what is not refused and does not fail is stopped by want of memory alone
pub not_refused : (refusal : Option ErrorKind) (e : StoreError) → refusal ≡ None → Refuses refusal e → e ≢ store.Failed → e ≡ store.OutOfMemory
not_refused refusal (store.Kind k) none refused no_fault = absurd cc
not_refused refusal store.Failed none refused no_fault = absurd (no_fault refl)
not_refused refusal store.OutOfMemory none refused no_fault = refl

-- ---- links

-- a link that was made is a new one
pub new_link-is : (l : LinkState) (chunk : ℕ) (fails : List (ℕ × LinkFault)) (bytes : List ℕ) →
    l.left ≡ bytes →
    l.sent ≡ [] →
    l.closed ≡ false →
    l.last_fault ≡ None →
    l.chunk ≡ chunk →
    l.calls.made ≡ 0 →
    l.calls.faults ≡ 0 →
    l.calls.failing ≡ fails →
    l ≡ new_link chunk fails bytes
new_link-is l chunk fails bytes left sent closed last_fault moved made faults failing = λ i. record {
  left = left i;
  sent = sent i;
  closed = closed i;
  last_fault = last_fault i;
  chunk = moved i;
  calls = record { made = made i; faults = faults i; failing = failing i };
}
