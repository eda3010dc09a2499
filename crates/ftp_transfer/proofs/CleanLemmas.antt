-- Runs that nothing refused and nothing stopped.
use Rattle.std.proofs.Common.{◌≡◌, inl, inr, false, ℕ, ◌+◌, ◌-◌, ◌^◌, ◌<◌, ◌≤◌, List, [], length, length-drop, take, Option, Some, None, refl, sym, ◌∙◌, arith}
use Rattle.std.specs.Prelude.{◌⊎◌, IfSome, IsSomeAnd, MatchOption}
use Rattle.ftp_base.specs.declared.command.DataChanCmd.{DataChanCmd}
use Rattle.ftp_base.specs.declared.command.DataChanCmd.TheVariants as command
use Rattle.ftp_base.specs.declared.error_kind.ErrorKind.{ErrorKind}
use Rattle.ftp_base.specs.Storage.{Files, Rule, once_begun, Metadata, Append, old_bytes, with_file, put}
use Rattle.ftp_transfer.specs.declared.job.Job.{Job}
use Rattle.ftp_transfer.specs.declared.job.Outcome.{Outcome}
use Rattle.ftp_transfer.specs.declared.job.Completion.{Completion}
use Rattle.ftp_transfer.specs.declared.job.Completion.TheVariants as result
use Rattle.ftp_transfer.specs.Run.{RefusedBy, IfRefused, RefusesStore, RefusesAppe, RefusesMore, TakesStore, TakesAppe, TakesMore, append_place}
use Rattle.ftp_transfer.specs.Ran.{Told, Ran, ByDone, Refuses, Takes, EndsUnrefused, IsClean, IsDone, due_of}
use Rattle.ftp_transfer.specs.Transfer.{is_store}
use Rattle.ftp_transfer.proofs.RunLemmas.{HasRisen-more}

-- what is refused is not taken
not_both : (o : Option ErrorKind) (k : ErrorKind) → o ≡ None → o ≡ Some k → ⊥
not_both o k none some = cc (sym none ∙ some)

-- a store of the whole input is refused nowhere
takes-store : (rule : Rule) (user : List ℕ) (f : Files) (new : Option Files) (path : List ℕ) (place : ℕ) (l : List ℕ) (later : Option (List ℕ)) (m : ℕ) (k : ErrorKind) →
    TakesStore rule user path f place l → RefusesStore rule user f new path place (Some l) later m k → ⊥
takes-store rule user f new path place l later m k takes (inl (zero, refused)) = not_both _ k takes.begin refused
takes-store rule user f new path place l later m k takes (inr (stored, (piece, some, short, (front, is), refused))) =
    let within : m + length piece ≤ length l = omega (arith, front.0, length-drop m l, some) in
    let next = takes.appends m (length piece) some short within in
    let here : once_begun (user, path) rule [] (with_file f path (put (old_bytes f path) place (take m l))) (Append user path piece) ≡ Some k = rw stored at refused in
    not_both _ k (rw (sym is) at next) here

-- the same of an APPE, by where it begins
takes-appe : (rule : Rule) (user : List ℕ) (f : Files) (new : Option Files) (path l : List ℕ) (later : Option (List ℕ)) (m : ℕ) (k : ErrorKind) (place : Option ℕ) →
    MatchOption place ⊥ (λ place. TakesStore rule user path f place l) →
    MatchOption place ((m ≡ 0) × (rule [] f (Metadata user path) ≡ Some k)) (λ place. RefusesStore rule user f new path place (Some l) later m k) → ⊥
takes-appe rule user f new path l later m k None takes refused = takes
takes-appe rule user f new path l later m k (Some place) takes refused = takes-store rule user f new path place l later m k takes refused

-- a listing that is not refused is not refused
takes-listing : (o : Option ErrorKind) (P : ErrorKind → Type 0) → o ≡ None → ((refusal : ErrorKind) × (o ≡ Some refusal) × P refusal) → ⊥
takes-listing o P none (refusal, some, is) = not_both o refusal none some

-- no append to a file that was begun before is refused
takes-more : (rule : Rule) (user : List ℕ) (f : Files) (new : Option Files) (path l : List ℕ) (later : Option (List ℕ)) (m : ℕ) (k : ErrorKind) →
    TakesMore rule user path f l → RefusesMore rule user f new path (Some l) later m k → ⊥
takes-more rule user f None path l later m k takes (grown, (piece, some, short, (front, is), refused)) = cc
takes-more rule user f (Some now) path l later m k takes (grown, (piece, some, short, (front, is), refused)) =
    let within : m + length piece ≤ length l = omega (arith, front.0, length-drop m l, some) in
    let next = takes m (length piece) now grown some short within in
    not_both _ k (rw (sym is) at next) refused

-- by whether a piece came before
by-done : (done : ℕ) (p q p' q' : Type 0) → (p → p' → ⊥) → (q → q' → ⊥) → ByDone done p q → ByDone done p' q' → ⊥
by-done done p q p' q' first later (inl (zero, h)) (inl (also, h')) = first h h'
by-done done p q p' q' first later (inl (zero, h)) (inr (some, h')) = omega (arith, zero, some)
by-done done p q p' q' first later (inr (some, h)) (inl (zero, h')) = omega (arith, zero, some)
by-done done p q p' q' first later (inr (some, h)) (inr (also, h')) = later h h'

-- a store of the input, where it is told
if-told : (input : Option (List ℕ)) (P Q : List ℕ → Type 0) → ((l : List ℕ) → input ≡ Some l → P l → Q l → ⊥) → IsSomeAnd input P → ((l : List ℕ) → input ≡ Some l → Q l) → ⊥
if-told None P Q both takes refused = takes
if-told (Some l) P Q both takes refused = both l refl takes (refused l refl)

-- a transfer of which no call is refused ends unrefused
takes-unrefused : (c : DataChanCmd) (job : Job) (rule : Rule) (f : Files) (new : Option Files) (input later : Option (List ℕ)) (m : ℕ) (k : ErrorKind) →
    (is_store c ≡ false → m ≤ length (due_of c f job.path (job.offset + job.done))) →
    Takes c job rule f input → Refuses c job rule f new input later m k → ⊥
takes-unrefused (command.Retr x) job rule f new input later m k within takes refused = not_both _ k (takes m (within refl)) refused
takes-unrefused (command.Stor x) job rule f new input later m k within takes refused =
    by-done job.done _ _ _ _
    (λ h h'. if-told input (TakesStore rule job.user job.path f job.offset) (λ l. RefusesStore rule job.user f new job.path job.offset (Some l) later m k)
    (λ l is h h'. takes-store rule job.user f new job.path job.offset l later m k h h') h (λ l is. rw is at h'))
    (λ h h'. if-told input (TakesMore rule job.user job.path f) (λ l. RefusesMore rule job.user f new job.path (Some l) later m k)
    (λ l is h h'. takes-more rule job.user f new job.path l later m k h h') h (λ l is. rw is at h'))
    takes refused
takes-unrefused (command.Appe x) job rule f new input later m k within takes refused =
    by-done job.done _ _ _ _
    (λ h h'. if-told input (TakesAppe rule job.user job.path f) (λ l. RefusesAppe rule job.user f new job.path (Some l) later m k)
    (λ l is h h'. takes-appe rule job.user f new job.path l later m k (append_place (rule [] f (Metadata job.user job.path)) (length (old_bytes f job.path))) h h') h (λ l is. rw is at h'))
    (λ h h'. if-told input (TakesMore rule job.user job.path f) (λ l. RefusesMore rule job.user f new job.path (Some l) later m k)
    (λ l is h h'. takes-more rule job.user f new job.path l later m k h h') h (λ l is. rw is at h'))
    takes refused
takes-unrefused (command.List x y) job rule f new input later m k within takes refused = takes-listing _ _ takes refused
takes-unrefused (command.Nlst x) job rule f new input later m k within takes refused = takes-listing _ _ takes refused
takes-unrefused (command.Mlsd x) job rule f new input later m k within takes refused = takes-listing _ _ takes refused

-- what was refused for no cause was not refused
unrefused-done : (rose : Type 0) (refuses : ErrorKind → Type 0) (m : ℕ) (r : Completion) →
    (rose → ⊥) → m < 2 ^ 64 - 1 → ((k : ErrorKind) → refuses k → ⊥) → (r ≡ result.OutOfMemory → ⊥) →
    IfRefused (RefusedBy rose refuses m) r → IsDone r
unrefused-done rose refuses m (result.Refused k) held below none memory (inl (is, inl h)) = absurd (held h)
unrefused-done rose refuses m (result.Refused k) held below none memory (inl (is, inr full)) = absurd (omega (arith, full, below))
unrefused-done rose refuses m (result.Refused k) held below none memory (inr h) = absurd (none k h)
unrefused-done rose refuses m result.WriteFailed held below none memory h = absurd h
unrefused-done rose refuses m result.Sent held below none memory h = tt
unrefused-done rose refuses m result.Written held below none memory h = tt
unrefused-done rose refuses m result.Listed held below none memory h = tt
unrefused-done rose refuses m result.OutOfMemory held below none memory h = absurd (memory refl)

-- no call was refused where a clean run ended
clean-unrefused : (job : Job) (f : Files) (old new : Told) (outcome : Outcome) →
    (is_store job.command ≡ false → (outcome.bytes - job.done) ≤ length (due_of job.command f job.path (job.offset + job.done))) →
    (Takes job.command job old.rule f old.left ⊎ EndsUnrefused job f old new (outcome.bytes - job.done)) → EndsUnrefused job f old new (outcome.bytes - job.done)
clean-unrefused job f old new outcome within (inl takes) k refused =
    takes-unrefused job.command job old.rule f new.files old.left new.left (outcome.bytes - job.done) k within takes refused
clean-unrefused job f old new outcome within (inr h) k refused = h k refused

-- the same, where the files are told
told-unrefused : (job : Job) (files : Option Files) (old new : Told) (outcome : Outcome) →
    (is_store job.command ≡ false → IfSome files (λ f. (outcome.bytes - job.done) ≤ length (due_of job.command f job.path (job.offset + job.done)))) →
    IsSomeAnd files (λ f. Takes job.command job old.rule f old.left ⊎ EndsUnrefused job f old new (outcome.bytes - job.done)) →
    (k : ErrorKind) → IfSome files (λ f. Refuses job.command job old.rule f new.files old.left new.left (outcome.bytes - job.done) k) → ⊥
told-unrefused job None old new outcome within clean k refused = clean
told-unrefused job (Some f) old new outcome within clean k refused = clean-unrefused job f old new outcome within clean k refused

-- a clean run did what it was asked for
pub clean-done : (job : Job) (old new : Told) (outcome : Outcome) → Ran job old new outcome → IsClean job old new outcome → IsDone outcome.result
clean-done job old new outcome ran clean =
    elim ran.moves.cause [
      | inl failed ↦ absurd (clean.link (HasRisen-more old.link_faults ran.faults new.link_faults ran.not_after failed.1.0) (rw failed.2 at failed.3))
      | inr held ↦
          unrefused-done _ _ (job.done + (outcome.bytes - job.done)) outcome.result (λ failed. clean.storage failed.0) (omega (arith, ran.counted, clean.count))
          (told-unrefused job old.files old new outcome ran.moves.within clean.unrefused)
          clean.memory
          held.1
    ]
