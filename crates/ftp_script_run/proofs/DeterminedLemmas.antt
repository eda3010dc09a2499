-- A run over a storage and a link in memory that nothing stopped has one outcome.
use Rattle.std.proofs.Common.{◌≡◌, inl, inr, Bool, true, false, cond, ℕ, ◌+◌, ◌-◌, ◌^◌, ◌<◌, List, [], ◌∷◌, length, take, Option, Some, None, refl, sym, ap, subst, ◌∙◌, arith}
use Rattle.std.specs.Prelude.{IfSome, MatchOption, nat_lt}
use Rattle.std.specs.Option.{option_map, option_map_or}
use Rattle.std.specs.Str.{bytes_eq}
use Rattle.std.proofs.lemmas.List.{take_all}
use Rattle.std.proofs.lemmas.Option.{same_Some}
use Rattle.ftp_base.specs.declared.command.DataChanCmd.{DataChanCmd}
use Rattle.ftp_base.specs.declared.command.DataChanCmd.TheVariants as command
use Rattle.ftp_base.specs.declared.error_kind.ErrorKind.{ErrorKind}
use Rattle.ftp_base.specs.declared.error_kind.ErrorKind.TheVariants as kind
use Rattle.ftp_base.specs.Memory.{LinkState}
use Rattle.ftp_base.specs.MemoryStorage.{memory_rule, if_within, if_file, if_directory, file_refusal, append_refusal as refused_append}
use Rattle.ftp_base.specs.Storage.{Item, Directory, File, Files, Rule, once_begun, Metadata, ReadAt, Begin, Append, meaning_of, item, contents, root, parent, with_file, old_bytes, put}
use Rattle.ftp_base.proofs.Files.{get-insert_same}
use Rattle.ftp_transfer.specs.declared.job.Completion.{Completion}
use Rattle.ftp_transfer.specs.declared.job.Completion.TheVariants as result
use Rattle.ftp_transfer.specs.declared.job.Job.{Job}
use Rattle.ftp_transfer.specs.declared.job.Outcome.{Outcome}
use Rattle.ftp_transfer.specs.Ran.{StorageFailed, StoresAs, Refuses, first_refusal, ByDone, IsSentWhole, IsDone, due_of}
use Rattle.ftp_transfer.specs.Run.{RefusedBy, IfRefused, RefusedFirst, RefusesStore, IsStopped, Stores, append_place, read_place}
use Rattle.ftp_transfer.specs.Transfer.{suits, is_store}
use Rattle.ftp_transfer.proofs.RunLemmas.{HasRisen-more}
use Rattle.ftp_audit.specs.Book.{Book}
use Rattle.ftp_audit.specs.Quota.{quota_rule}
use Rattle.ftp_audit.proofs.Sized.{appends-sized}
use Rattle.ftp_script_run.specs.SetUp.{StorageState}
use Rattle.ftp_script_run.specs.Legal.{memory_views}
use Rattle.ftp_script_run.specs.Determined.{told_in_memory, RunsTo, SettledRunsAreDetermined}

-- what is refused is not taken
not_both : (o : Option ErrorKind) (k : ErrorKind) → o ≡ None → o ≡ Some k → ⊥
not_both o k none some = cc (sym none ∙ some)

-- ---- what comes of a command

-- the result of a command that is done
abbrev good : DataChanCmd → Completion
good (command.Retr x) = result.Sent
good (command.Stor x) = result.Written
good (command.Appe x) = result.Written
good (command.List o x) = result.Listed
good (command.Nlst x) = result.Listed
good (command.Mlsd x) = result.Listed

good-sent : (c : DataChanCmd) → suits result.Sent c ≡ true → result.Sent ≡ good c
good-sent (command.Retr x) s = refl
good-sent (command.Stor x) s = absurd cc
good-sent (command.Appe x) s = absurd cc
good-sent (command.List o x) s = absurd cc
good-sent (command.Nlst x) s = absurd cc
good-sent (command.Mlsd x) s = absurd cc

good-written : (c : DataChanCmd) → suits result.Written c ≡ true → result.Written ≡ good c
good-written (command.Retr x) s = absurd cc
good-written (command.Stor x) s = refl
good-written (command.Appe x) s = refl
good-written (command.List o x) s = absurd cc
good-written (command.Nlst x) s = absurd cc
good-written (command.Mlsd x) s = absurd cc

good-listed : (c : DataChanCmd) → suits result.Listed c ≡ true → result.Listed ≡ good c
good-listed (command.Retr x) s = absurd cc
good-listed (command.Stor x) s = absurd cc
good-listed (command.Appe x) s = absurd cc
good-listed (command.List o x) s = refl
good-listed (command.Nlst x) s = refl
good-listed (command.Mlsd x) s = refl

good-of : (c : DataChanCmd) (r : Completion) → IsDone r → suits r c ≡ true → r ≡ good c
good-of c result.Sent d s = good-sent c s
good-of c result.Written d s = good-written c s
good-of c result.Listed d s = good-listed c s
good-of c result.WriteFailed d s = absurd d
good-of c (result.Refused k) d s = absurd d
good-of c result.OutOfMemory d s = absurd d

-- how many bytes a whole transfer moves
abbrev count_of : DataChanCmd → Job → Files → List ℕ → ℕ
count_of (command.Stor x) job files input = length input
count_of (command.Appe x) job files input = length input
count_of c job files input = length (due_of c files job.path job.offset)

-- where an APPE begins
abbrev place_of : Job → Rule → Files → Option ℕ
place_of job rule files = append_place (rule [] files (Metadata job.user job.path)) (length (old_bytes files job.path))

-- the files with the input put at a place
abbrev with_input : Job → Files → ℕ → List ℕ → Files
with_input job files place input = with_file files job.path (put (old_bytes files job.path) place input)

-- the files that a whole transfer leaves
abbrev files_after : DataChanCmd → Job → Rule → Files → List ℕ → Files
files_after (command.Stor x) job rule files input = with_input job files job.offset input
files_after (command.Appe x) job rule files input = option_map_or (λ place. with_input job files place input) (place_of job rule files) files
files_after c job rule files input = files

-- what a run tells, from files and an input, of calls that are refused by the files as they stand later
record Run (c : DataChanCmd) (job : Job) (rule : Rule) (files : Files) (input : List ℕ) (new : Option Files) (later : Option (List ℕ)) (rose : Type 0) (outcome : Outcome) : Type 0 where
  fresh : job.done ≡ 0
  held : rose → ⊥
  memory : outcome.result ≡ result.OutOfMemory → ⊥
  exceeded : outcome.result ≡ result.Refused kind.ExceededStorageAllocationError → ⊥
  count : outcome.bytes < 2 ^ 64 - 1
  fits : suits outcome.result c ≡ true
  fault : outcome.fault ≡ None
  cause : IfRefused (RefusedBy rose (λ k. Refuses c job rule files new (Some input) later outcome.bytes k) outcome.bytes) outcome.result
  whole : IsSentWhole outcome.result → outcome.bytes ≡ length (due_of c files job.path job.offset)
  kept : is_store c ≡ false → new ≡ Some files
  stored : StoresAs c job files (rule [] files) new input outcome.bytes outcome.result outcome.fault
  written : outcome.result ≡ result.Written → outcome.bytes ≡ length input
  refused : IfSome (first_refusal c job files (rule [] files)) (λ k. RefusedFirst rose k outcome.bytes outcome.result × (new ≡ Some files) × (later ≡ Some input))

-- the outcome of such a run and the files that it leaves, by how the first call is refused
abbrev EndsSo : DataChanCmd → Job → Rule → Files → List ℕ → Option Files → Outcome → Option ErrorKind → Type 0
EndsSo c job rule files input new outcome None =
    (outcome ≡ record { result = good c; bytes = count_of c job files input; fault = None }) × (new ≡ Some (files_after c job rule files input))
EndsSo c job rule files input new outcome (Some k) = (outcome ≡ record { result = result.Refused k; bytes = 0; fault = None }) × (new ≡ Some files)

outcome-is : (outcome : Outcome) (r : Completion) (n : ℕ) → outcome.result ≡ r → outcome.bytes ≡ n → outcome.fault ≡ None → outcome ≡ record { result = r; bytes = n; fault = None }
outcome-is outcome r n result bytes fault = λ i. record { result = result i; bytes = bytes i; fault = fault i }

-- ---- a first call that is refused

refused-result : (rose : Type 0) (m : ℕ) (k : ErrorKind) (r : Completion) → (rose → ⊥) → (r ≡ result.OutOfMemory → ⊥) → RefusedFirst rose k m r → r ≡ result.Refused k
refused-result rose m k r held memory (zero, inl e) = e
refused-result rose m k r held memory (zero, inr (inl e)) = absurd (memory e)
refused-result rose m k r held memory (zero, inr (inr x)) = absurd (held x.0)

refused-ends : (c : DataChanCmd) (job : Job) (rule : Rule) (files : Files) (input : List ℕ) (new : Option Files) (later : Option (List ℕ)) (rose : Type 0) (outcome : Outcome) (k : ErrorKind) →
    Run c job rule files input new later rose outcome →
    first_refusal c job files (rule [] files) ≡ Some k →
    EndsSo c job rule files input new outcome (Some k)
refused-ends c job rule files input new later rose outcome k r is =
    let told : RefusedFirst rose k outcome.bytes outcome.result × (new ≡ Some files) × (later ≡ Some input) =
    subst (λ (o : Option ErrorKind). IfSome o (λ j. RefusedFirst rose j outcome.bytes outcome.result × (new ≡ Some files) × (later ≡ Some input))) is r.refused in (
      outcome-is outcome (result.Refused k) 0 (refused-result rose outcome.bytes k outcome.result r.held r.memory told.0) told.0.0 r.fault,
      told.1,
    )

-- ---- one that is not refused

-- the only refusal for a size
within-kind : (len max : ℕ) (k : ErrorKind) → if_within len max ≡ Some k → k ≡ kind.ExceededStorageAllocationError
within-kind len max k e = by (nat_lt max len) e where
  by : (b : Bool) → cond b (Some kind.ExceededStorageAllocationError) None ≡ Some k → k ≡ kind.ExceededStorageAllocationError
  by true h = cc
  by false h = absurd cc

-- a file that can be begun is not the root
begun-other : (files : Files) (max : ℕ) (path : List ℕ) (start : ℕ) → file_refusal files max path start ≡ None → bytes_eq path root ≡ false
begun-other files max path start none = by (bytes_eq path root) refl where
  by : (b : Bool) → bytes_eq path root ≡ b → bytes_eq path root ≡ false
  by false e = e
  by true e = absurd (never (item files (parent path)) (if_within start max) (rw e at none)) where
    never : (dir : Option Item) (size : Option ErrorKind) → if_directory dir kind.PermanentDirectoryNotAvailable (if_file (Some Directory) size) ≡ None → ⊥
    never (Some Directory) size h = absurd cc
    never (Some (File bytes)) size h = absurd cc
    never None size h = absurd cc

-- a file that was put is found
put_found : (files : Files) (path bytes : List ℕ) → bytes_eq path root ≡ false → contents (with_file files path bytes) path ≡ Some bytes
put_found files path bytes other = rw (other, get-insert_same files path (File bytes)) refl

-- a read is refused alike at each place
abbrev ReadsAlike : Rule → Type 0
ReadsAlike rule =
    (files : Files) (user path : List ℕ) (near far : ℕ) → rule [] files (ReadAt user path near) ≡ rule [] files (ReadAt user path far)

-- behind a begin that is not refused the user's appends to the file are refused for their size alone
abbrev AppendsForSize : Rule → Type 0
AppendsForSize rule =
    (files : Files) (user path bytes piece : List ℕ) (place : ℕ) (k : ErrorKind) →
    rule [] files (Begin user path place) ≡ None →
    rule ((user, path) ∷ []) (with_file files path bytes) (Append user path piece) ≡ Some k →
    k ≡ kind.ExceededStorageAllocationError

-- where the first call is not refused, nothing is but a size
abbrev IsSized : Rule → Type 0
IsSized rule = ReadsAlike rule × AppendsForSize rule

-- a storage in memory has no other refusal there
memory-appends : (max : ℕ) → AppendsForSize (memory_rule max)
memory-appends max files user path bytes piece place k none refused =
    let there : contents (with_file files path bytes) path ≡ Some bytes = put_found files path bytes (begun-other files max path place none) in
    let over : refused_append (Some bytes) max (length piece) ≡ Some k =
    subst (λ (o : Option (List ℕ)). refused_append o max (length piece) ≡ Some k) there refused in
    within-kind (length bytes + length piece) max k over

-- nor has one with budgets
stored-appends : (book : Option Book) (max : ℕ) → AppendsForSize (quota_rule book (memory_rule max))
stored-appends None max files user path bytes piece place k none refused = memory-appends max files user path bytes piece place k none refused
stored-appends (Some book) max files user path bytes piece place k none refused =
    elim (appends-sized book (memory_rule max) files (with_file files path bytes) user path place piece k none refused) [
      | inl size ↦ size
      | inr inner ↦ memory-appends max files user path bytes piece place k inner.0 inner.1
    ]

stored-reads : (book : Option Book) (max : ℕ) → ReadsAlike (quota_rule book (memory_rule max))
stored-reads None max files user path near far = refl
stored-reads (Some book) max files user path near far = refl

stored-sized : (book : Option Book) (max : ℕ) → IsSized (quota_rule book (memory_rule max))
stored-sized book max = (stored-reads book max, stored-appends book max)

-- what refuses a store that was begun refuses it for its size
store-cause : (job : Job) (rule : Rule) (place m : ℕ) (files : Files) (input : List ℕ) (new : Option Files) (later : Option (List ℕ)) (k : ErrorKind) →
    IsSized rule →
    rule [] files (Begin job.user job.path place) ≡ None →
    RefusesStore rule job.user files new job.path place (Some input) later m k →
    k ≡ kind.ExceededStorageAllocationError
store-cause job rule place m files input new later k sized none (inl (zero, refused)) = absurd (not_both _ k none refused)
store-cause job rule place m files input new later k sized none (inr (stored, (piece, some, short, front, refused))) =
    let bytes : List ℕ = put (old_bytes files job.path) place (take m input) in
    let here : rule ((job.user, job.path) ∷ []) (with_file files job.path bytes) (Append job.user job.path piece) ≡ Some k =
    subst (λ (o : Option Files). meaning_of (once_begun (job.user, job.path) rule) o (Append job.user job.path piece) ≡ Some k) stored refused in
    sized.1 files job.user job.path bytes piece place k none here

-- an APPE of which no first call is refused begins somewhere
appe-place : (met : Option ErrorKind) (len : ℕ) (begin : ℕ → Option ErrorKind) (found : Option ℕ) →
    append_place met len ≡ found →
    option_map_or begin found met ≡ None →
    (place : ℕ) × (append_place met len ≡ Some place) × (begin place ≡ None)
appe-place met len begin (Some place) is none = (place, is, none)
appe-place None len begin None is none = absurd cc
appe-place (Some k) len begin None is none = absurd cc

listing-cause : (o : Option ErrorKind) (f : ErrorKind → ErrorKind) (k : ErrorKind) → option_map f o ≡ None → o ≡ Some k → ⊥
listing-cause None f k none some = cc
listing-cause (Some j) f k none some = cc

-- what is refused where no piece came before
at-first : (done : ℕ) (first later : Type 0) → done ≡ 0 → ByDone done first later → first
at-first done first later fresh (inl h) = h.1
at-first done first later fresh (inr h) = absurd (omega (arith, fresh, h.0))

-- where the first call is not refused, a refusal is for a size
cause-is : (c : DataChanCmd) (job : Job) (rule : Rule) (m : ℕ) (files : Files) (input : List ℕ) (new : Option Files) (later : Option (List ℕ)) (k : ErrorKind) →
    IsSized rule →
    job.done ≡ 0 →
    first_refusal c job files (rule [] files) ≡ None →
    Refuses c job rule files new (Some input) later m k →
    k ≡ kind.ExceededStorageAllocationError
cause-is (command.Retr x) job rule m files input new later k sized fresh none refused =
    absurd (not_both (rule [] files (ReadAt job.user job.path (read_place job.offset job.done))) k none
    (sized.0 files job.user job.path (read_place job.offset job.done) (read_place job.offset (job.done + m)) ∙ refused))
cause-is (command.Stor x) job rule m files input new later k sized fresh none refused =
    store-cause job rule job.offset m files input new later k sized (rw fresh at none) (at-first job.done _ _ fresh refused)
cause-is (command.Appe x) job rule m files input new later k sized fresh none' refused' =
    let none = rw fresh at none' in
    let refused = at-first job.done _ _ fresh refused' in
    let met : Option ErrorKind = rule [] files (Metadata job.user job.path) in
    let at = appe-place met (length (old_bytes files job.path)) (λ place. rule [] files (Begin job.user job.path place)) (append_place met (length (old_bytes files job.path))) refl none in
    let here : RefusesStore rule job.user files new job.path at.0 (Some input) later m k =
    subst (λ (o : Option ℕ). MatchOption o ((m ≡ 0) × (met ≡ Some k)) (λ place. RefusesStore rule job.user files new job.path place (Some input) later m k)) at.1 refused in
    store-cause job rule at.0 m files input new later k sized at.2 here
cause-is (command.List o x) job rule m files input new later k sized fresh none refused = absurd (listing-cause _ _ refused.0 none refused.1)
cause-is (command.Nlst x) job rule m files input new later k sized fresh none refused = absurd (listing-cause _ _ refused.0 none refused.1)
cause-is (command.Mlsd x) job rule m files input new later k sized fresh none refused = absurd (listing-cause _ _ refused.0 none refused.1)

-- what nothing refused, and nothing stopped, is done
settled-done : (rose : Type 0) (refuses : ErrorKind → Type 0) (m : ℕ) (r : Completion) →
    (rose → ⊥) → m < 2 ^ 64 - 1 → ((k : ErrorKind) → r ≡ result.Refused k → refuses k → ⊥) → (r ≡ result.OutOfMemory → ⊥) →
    IfRefused (RefusedBy rose refuses m) r → IsDone r
settled-done rose refuses m (result.Refused k) held below none memory (inl (is, inl h)) = absurd (held h)
settled-done rose refuses m (result.Refused k) held below none memory (inl (is, inr full)) = absurd (omega (arith, full, below))
settled-done rose refuses m (result.Refused k) held below none memory (inr h) = absurd (none k refl h)
settled-done rose refuses m result.WriteFailed held below none memory h = absurd h
settled-done rose refuses m result.Sent held below none memory h = tt
settled-done rose refuses m result.Written held below none memory h = tt
settled-done rose refuses m result.Listed held below none memory h = tt
settled-done rose refuses m result.OutOfMemory held below none memory h = absurd (memory refl)

-- ---- what a whole transfer moves and leaves

done-count : (c : DataChanCmd) (job : Job) (rule : Rule) (files : Files) (input : List ℕ) (new : Option Files) (later : Option (List ℕ)) (rose : Type 0) (outcome : Outcome) →
    Run c job rule files input new later rose outcome → outcome.result ≡ good c → outcome.bytes ≡ count_of c job files input
done-count (command.Stor x) job rule files input new later rose outcome r is = r.written is
done-count (command.Appe x) job rule files input new later rose outcome r is = r.written is
done-count (command.Retr x) job rule files input new later rose outcome r is = r.whole (subst IsSentWhole (sym is) tt)
done-count (command.List o x) job rule files input new later rose outcome r is = r.whole (subst IsSentWhole (sym is) tt)
done-count (command.Nlst x) job rule files input new later rose outcome r is = r.whole (subst IsSentWhole (sym is) tt)
done-count (command.Mlsd x) job rule files input new later rose outcome r is = r.whole (subst IsSentWhole (sym is) tt)

-- a whole input was stored
stored-whole : (job : Job) (files : Files) (new : Option Files) (place : ℕ) (input : List ℕ) (outcome : Outcome) →
    Stores files new job.path place input outcome.bytes outcome.result outcome.fault → outcome.result ≡ result.Written → outcome.bytes ≡ length input → new ≡ Some (with_input job files place input)
stored-whole job files new place input outcome (within, inl stored) is whole =
    stored ∙ ap (λ (bytes : List ℕ). Some (with_input job files place bytes)) (take_all outcome.bytes input (omega arith))
stored-whole job files new place input outcome (within, inr idle) is whole = absurd (subst IsStopped is idle.1.2)

done-files : (c : DataChanCmd) (job : Job) (rule : Rule) (files : Files) (input : List ℕ) (new : Option Files) (later : Option (List ℕ)) (rose : Type 0) (outcome : Outcome) →
    Run c job rule files input new later rose outcome →
    first_refusal c job files (rule [] files) ≡ None →
    outcome.result ≡ good c →
    new ≡ Some (files_after c job rule files input)
done-files (command.Stor x) job rule files input new later rose outcome r none is = stored-whole job files new job.offset input outcome r.stored is (r.written is)
done-files (command.Appe x) job rule files input new later rose outcome r none is =
    let met : Option ErrorKind = rule [] files (Metadata job.user job.path) in
    let at = appe-place met (length (old_bytes files job.path)) (λ place. rule [] files (Begin job.user job.path place)) (append_place met (length (old_bytes files job.path))) refl (rw r.fresh at none) in
    let stored : Stores files new job.path at.0 input outcome.bytes outcome.result outcome.fault =
    subst (λ (o : Option ℕ). MatchOption o ((new ≡ Some files) × ((outcome.bytes ≡ 0) × (outcome.fault ≡ None) × IsStopped outcome.result)) (λ place. Stores files new job.path place input outcome.bytes outcome.result outcome.fault)) at.1 r.stored in
    stored-whole job files new at.0 input outcome stored is (r.written is)
    ∙ ap (λ (o : Option ℕ). Some (option_map_or (λ place. with_input job files place input) o files)) (sym at.1)
done-files (command.Retr x) job rule files input new later rose outcome r none is = r.kept refl
done-files (command.List o x) job rule files input new later rose outcome r none is = r.kept refl
done-files (command.Nlst x) job rule files input new later rose outcome r none is = r.kept refl
done-files (command.Mlsd x) job rule files input new later rose outcome r none is = r.kept refl

done-ends : (c : DataChanCmd) (job : Job) (rule : Rule) (files : Files) (input : List ℕ) (new : Option Files) (later : Option (List ℕ)) (rose : Type 0) (outcome : Outcome) →
    Run c job rule files input new later rose outcome →
    IsSized rule →
    first_refusal c job files (rule [] files) ≡ None →
    EndsSo c job rule files input new outcome None
done-ends c job rule files input new later rose outcome r sized none =
    let done : IsDone outcome.result =
    settled-done rose (λ k. Refuses c job rule files new (Some input) later outcome.bytes k) outcome.bytes outcome.result r.held r.count
    (λ k is refused. r.exceeded (is ∙ ap result.Refused (cause-is c job rule outcome.bytes files input new later k sized r.fresh none refused)))
    r.memory r.cause in
    let is : outcome.result ≡ good c = good-of c outcome.result done r.fits in (
      outcome-is outcome (good c) (count_of c job files input) is (done-count c job rule files input new later rose outcome r is) r.fault,
      done-files c job rule files input new later rose outcome r none is,
    )

-- ---- a run over memory

run-of : (job : Job) (storage later : StorageState) (link after : LinkState) (outcome : Outcome) →
    job.done ≡ 0 →
    RunsTo job storage link later after outcome →
    Run job.command job (memory_views.rule storage) storage.inner.files link.left (Some later.inner.files) (Some after.left) (StorageFailed (told_in_memory storage link) (told_in_memory later after)) outcome
run-of job storage later link after outcome fresh to =
    let moved : outcome.bytes - job.done ≡ outcome.bytes = omega (arith, fresh) in
    let total : job.done + outcome.bytes ≡ outcome.bytes = omega (arith, fresh) in
    let place : job.offset + job.done ≡ job.offset = omega (arith, fresh) in
    let moves = rw moved at to.ran.moves in
    elim moves.cause [
      | inl failed ↦ absurd (to.settled.link (HasRisen-more link.calls.faults to.ran.faults after.calls.faults to.ran.not_after failed.1.0))
      | inr held ↦ record {
        fresh = fresh;
        held = λ failed. to.settled.storage failed.0;
        memory = to.settled.memory;
        exceeded = to.settled.exceeded;
        count = to.settled.count;
        fits = to.fits;
        fault = held.0.0;
        cause = rw total at held.1;
        whole = λ sent. rw place at (moves.whole sent);
        kept = λ no. (moves.kept no).0;
        stored = moves.stored fresh;
        written = λ is. (moves.written is).0;
        refused = moves.refused;
      }
    ]

pub settled-determined : SettledRunsAreDetermined
settled-determined job storage left right link near far first second fresh one other =
    by (first_refusal job.command job storage.inner.files (memory_views.rule storage [] storage.inner.files)) refl where
      x : Run job.command job (memory_views.rule storage) storage.inner.files link.left (Some left.inner.files) (Some near.left) (StorageFailed (told_in_memory storage link) (told_in_memory left near)) first
      x = run-of job storage left link near first fresh one

      y : Run job.command job (memory_views.rule storage) storage.inner.files link.left (Some right.inner.files) (Some far.left) (StorageFailed (told_in_memory storage link) (told_in_memory right far)) second
      y = run-of job storage right link far second fresh other

      by : (found : Option ErrorKind) → first_refusal job.command job storage.inner.files (memory_views.rule storage [] storage.inner.files) ≡ found → (first ≡ second) × (left.inner.files ≡ right.inner.files)
      by None e =
          let a = done-ends job.command job (memory_views.rule storage) storage.inner.files link.left (Some left.inner.files) (Some near.left) (StorageFailed (told_in_memory storage link) (told_in_memory left near)) first x (stored-sized storage.accounts storage.inner.max_file) e in
          let b = done-ends job.command job (memory_views.rule storage) storage.inner.files link.left (Some right.inner.files) (Some far.left) (StorageFailed (told_in_memory storage link) (told_in_memory right far)) second y (stored-sized storage.accounts storage.inner.max_file) e in
          (a.0 ∙ sym b.0, same_Some _ _ (a.1 ∙ sym b.1))
      by (Some k) e =
          let a = refused-ends job.command job (memory_views.rule storage) storage.inner.files link.left (Some left.inner.files) (Some near.left) (StorageFailed (told_in_memory storage link) (told_in_memory left near)) first k x e in
          let b = refused-ends job.command job (memory_views.rule storage) storage.inner.files link.left (Some right.inner.files) (Some far.left) (StorageFailed (told_in_memory storage link) (told_in_memory right far)) second k y e in
          (a.0 ∙ sym b.0, same_Some _ _ (a.1 ∙ sym b.1))
