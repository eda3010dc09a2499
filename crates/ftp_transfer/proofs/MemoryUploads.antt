-- Uploads to a storage in memory.
use Rattle.std.proofs.Common.{◌≡◌, inl, inr, true, false, ℕ, ◌+◌, ◌-◌, ◌≤◌, List, length, length-drop, length-take, length-take-le, take, drop, replicate, Option, Some, None, refl, ap, ◌∙◌, arith}
use Rattle.std.specs.Prelude.{◌⊎◌}
use Rattle.std.specs.Str.{bytes_eq}
use Rattle.std.proofs.lemmas.Bool.{le-ltb}
use Rattle.std.proofs.lemmas.List.{length-append, length-replicate}
use Rattle.ftp_base.specs.declared.command.DataChanCmd.TheVariants as command
use Rattle.ftp_base.specs.declared.error_kind.ErrorKind.TheVariants as kind
use Rattle.ftp_base.specs.Storage.{Item, Directory, File, Files, item, contents, root, parent, with_file, old_bytes, cut, put}
use Rattle.ftp_base.specs.MemoryStorage.{memory_rule, if_within, if_file, if_directory}
use Rattle.ftp_base.proofs.Files.{get-insert_same}
use Rattle.ftp_transfer.specs.declared.job.Completion.{Completion}
use Rattle.ftp_transfer.specs.declared.job.Completion.TheVariants as result
use Rattle.ftp_transfer.specs.Run.{TakesStore}
use Rattle.ftp_transfer.specs.Ran.{Takes, IsDone}
use Rattle.ftp_transfer.specs.Transfer.{suits}
use Rattle.ftp_transfer.specs.Uploads.{UploadsAreWritten}
use Rattle.ftp_transfer.proofs.CleanLemmas.{clean-done}

-- so many bytes are not too many
fits : (max n : ℕ) → n ≤ max → if_within n max ≡ None
fits max n le = rw (le-ltb max n le) refl

-- a file can be begun where its directory is, and where it is no directory itself
begins : (dir here : Option Item) (max n : ℕ) → dir ≡ Some Directory → if_file here None ≡ None → n ≤ max →
    if_directory dir kind.PermanentDirectoryNotAvailable (if_file here (if_within n max)) ≡ None
begins dir here max n there free le = rw (there, fits max n le) free

-- a file that was put is found
found : (files : Files) (path bytes : List ℕ) → bytes_eq path root ≡ false → contents (with_file files path bytes) path ≡ Some bytes
found files path bytes other = rw (other, get-insert_same files path (File bytes)) refl

length-cut : (had : List ℕ) (place : ℕ) → length (cut had place) ≡ place
length-cut had place =
    omega (arith, length-append (take place had) (replicate (place - length had) 0), length-replicate {A = ℕ} (place - length had) 0, length-take place had)

-- how long a file is of which a front was put at a place
length-put : (had : List ℕ) (place : ℕ) (new : List ℕ) → length (put had place new) ≡ place + length new
length-put had place new =
    omega (arith, length-append (cut had place) new, length-cut had place)

-- an upload of at most so many bytes, to a directory that is there, is refused by no storage in memory
pub memory_takes : (max : ℕ) (files : Files) (user path : List ℕ) (place : ℕ) (l : List ℕ) →
    bytes_eq path root ≡ false → item files (parent path) ≡ Some Directory → if_file (item files path) None ≡ None → place + length l ≤ max →
    TakesStore (memory_rule max) user path files place l
memory_takes max files user path place l other there free within =
    record {
      begin = begins (item files (parent path)) (item files path) max place there free (omega (arith, within));
      appends = λ m n some short le.
          let long : length (put (old_bytes files path) place (take m l)) ≡ place + m = length-put _ _ _ ∙ ap (λ (k : ℕ). place + k) (length-take-le m l (omega (arith, le))) in
          let piece : length (take n (drop m l)) ≡ n = length-take-le n (drop m l) (omega (arith, le, length-drop m l)) in
          rw (found files path (put (old_bytes files path) place (take m l)) other)
          (fits max (length (put (old_bytes files path) place (take m l)) + length (take n (drop m l))) (omega (arith, long, piece, within, le)));
    }

-- a STOR that is done, unless memory runs out, is written or memory ran out
written : (r : Completion) (arg : List ℕ) → suits r (command.Stor arg) ≡ true → ((r ≡ result.OutOfMemory → ⊥) → IsDone r) →
    (r ≡ result.Written) ⊎ (r ≡ result.OutOfMemory)
written result.Sent arg fits done = cc fits
written result.Written arg fits done = inl refl
written result.Listed arg fits done = cc fits
written result.WriteFailed arg fits done = cc fits
written (result.Refused k) arg fits done = absurd (done (λ e. cc e))
written result.OutOfMemory arg fits done = inr refl

-- a STOR that has room is written, or memory ran out
pub memory_upload : UploadsAreWritten
memory_upload job argument max files input old new outcome stor fresh told rule gives room storage link suited ran =
    let takes : Takes job.command job old.rule files old.left = rw (stor, rule, gives) (inl (fresh, memory_takes max files job.user job.path job.offset input room.other room.there room.free room.within)) in
    let stored = rw (told, gives, stor) at (ran.moves.stored fresh) in
    written outcome.result argument (rw stor at suited) (λ memory.
    clean-done job old new outcome ran
    (record {
      unrefused = rw told (inl takes);
      storage = storage;
      link = link;
      memory = memory;
      count = omega (arith, ran.counted, fresh, stored.0, room.countable);
    }))
