-- Runs that go on from where a piece ended.
use Rattle.std.proofs.Common.{◌≡◌, inl, inr, true, false, ℕ, ◌+◌, ◌-◌, ◌<◌, ◌≤◌, List, [], ◌++◌, length, length-drop, take, drop, Option, Some, None, refl, sym, ap, subst, ◌∙◌, arith}
use Rattle.std.specs.Prelude.{◌⊎◌, IsSome, IfSome, MatchOption}
use Rattle.std.specs.Option.{option_map, option_map_or}
use Rattle.std.proofs.Math.Seq.{take-nil}
use Rattle.std.proofs.lemmas.Bool.{cases_lt}
use Rattle.std.proofs.lemmas.List.{append-nil}
use Rattle.std.proofs.lemmas.Option.{IfSome_then}
use Rattle.ftp_base.specs.declared.command.DataChanCmd.{DataChanCmd}
use Rattle.ftp_base.specs.declared.command.DataChanCmd.TheVariants as command
use Rattle.ftp_base.specs.declared.error_kind.ErrorKind.{ErrorKind}
use Rattle.ftp_base.specs.declared.fault.LinkFault.{LinkFault}
use Rattle.ftp_base.specs.Calls.{AllWell}
use Rattle.ftp_base.specs.Outside.{Writes}
use Rattle.ftp_base.specs.Storage.{Files, Rule, once_begun, Meaning, meaning_of, Metadata, Begin, ReadAt, get, with_file, old_bytes, cut}
use Rattle.ftp_base.proofs.CallsMade.{AllWell-more, LinkMet-more, StorageMet-more}
use Rattle.ftp_transfer.specs.declared.job.Job.{Job}
use Rattle.ftp_transfer.specs.declared.job.Completion.{Completion}
use Rattle.ftp_transfer.specs.declared.job.Completion.TheVariants as result
use Rattle.ftp_transfer.specs.Run.{SendsFront, GrowsFront, TakesFront, RefusesAppend, RefusesMore, RefusesStore, RefusesAppe, RefusedLast, IsStored, Stores, append_place, read_place}
use Rattle.ftp_transfer.specs.Ran.{Told, Moves, Went, begun_by, appends_by, StorageFailed, ByDone, Refuses, StoresAs, first_refusal, IsSentWhole, due_of}
use Rattle.ftp_transfer.specs.Transfer.{is_store, is_listing, suits}
use Rattle.ftp_transfer.proofs.RunLemmas.{HasRisen_later, Caused_later, SendsFront-file, StorageWent-more, get-get, EndsRefused_later}
use Rattle.ftp_transfer.proofs.StoreLemmas.{GrowsFront-told, TakesFront-told, grown_again}
use Rattle.ftp_transfer.proofs.BegunLemmas.{begun_by-later, stays-rule, moved-rule, IfSome_any}

-- counts of faults that did not fall
pub record Counted (old new : Told) : Type 0 where
  pub storage : old.storage_faults ≤ new.storage_faults
  pub link : old.link_faults ≤ new.link_faults

-- the job of what comes behind so many bytes
abbrev pub behind : Job → ℕ → Job
behind job b = record job { done = job.done + b }

-- a part of a run that went on met no fault of its link
held : (job : Job) (old new : Told) (m : ℕ) → Went job old new m → new.sending.last_fault ≡ old.sending.last_fault
held job old new m went =
    elim went.moves.cause [
      | inl failed ↦ cc failed.3
      | inr h ↦ h.0.1
    ]

-- no call of its storage failed
well : (job : Job) (old new : Told) (m : ℕ) → Went job old new m → AllWell (λ (call : ℕ). call) old.storage_calls new.storage_calls
well job old new m went =
    elim went.moves.storage_well [
      | inl h ↦ h
      | inr h ↦ cc h.0
    ]

both : {A : Type 0} (P Q : A → Type 0) (o : Option A) → IfSome o P → IfSome o Q → IfSome o (λ x. P x × Q x)
both P Q None p q = tt
both P Q (Some x) p q = (p, q)

-- what sends nothing writes nothing
pub sends-nothing : (files : Option Files) (old new : Option (List ℕ)) (n : ℕ) → new ≡ old → IfSome files (λ f. Writes old new (take n []))
sends-nothing None old new n same = tt
sends-nothing (Some f) None new n same = tt
sends-nothing (Some f) (Some written) new n same = rw take-nil (same ∙ ap Some (sym (append-nil written)))

-- what is sent of a file in two runs is sent
sent-file : (c : DataChanCmd) (path : List ℕ) (offset done b m : ℕ) (files files' : Option Files) (x y z : Option (List ℕ)) →
    is_listing c ≡ false → (is_store c ≡ false → files' ≡ files) → (is_store c ≡ true → z ≡ x) →
    (is_store c ≡ false → IfSome files (λ f. b ≤ length (due_of c f path (offset + done)))) →
    IfSome files (λ f. Writes x y (take b (due_of c f path (offset + done)))) →
    (is_store c ≡ false → IfSome files' (λ f. m ≤ length (due_of c f path (offset + (done + b))))) →
    IfSome files' (λ f. Writes y z (take m (due_of c f path (offset + (done + b))))) →
    (is_store c ≡ false → IfSome files (λ f. b + m ≤ length (due_of c f path (offset + done))))
    × IfSome files (λ f. Writes x z (take (b + m) (due_of c f path (offset + done))))
sent-file (command.Retr p) path offset done b m None files' x y z l same silent w1 s1 w2 s2 = ((λ e. tt), tt)
sent-file (command.Retr p) path offset done b m (Some f) files' x y z l same silent w1 s1 w2 s2 =
    let place : offset + (done + b) ≡ (offset + done) + b = omega arith in
    let first : SendsFront (get (old_bytes f path) (offset + done)) b x y = (w1 refl, s1) in
    let le : m ≤ length (get (old_bytes f path) ((offset + done) + b)) = rw (same refl, place) at (w2 refl) in
    let wrote : Writes y z (take m (get (old_bytes f path) ((offset + done) + b))) = rw (same refl, place) at s2 in
    let all : SendsFront (get (old_bytes f path) (offset + done)) (b + m) x z =
    SendsFront-file (Some f) path (offset + done) b m x y z first (le, wrote) in
    ((λ e. all.0), all.1)
sent-file (command.Stor p) path offset done b m files files' x y z l same silent w1 s1 w2 s2 =
    ((λ e. cc e), sends-nothing files x z (b + m) (silent refl))
sent-file (command.Appe p) path offset done b m files files' x y z l same silent w1 s1 w2 s2 =
    ((λ e. cc e), sends-nothing files x z (b + m) (silent refl))
sent-file c path offset done b m files files' x y z l same silent w1 s1 w2 s2 = cc l

-- what is sent whole in the second run is sent whole
sent-whole : (c : DataChanCmd) (r : Completion) (path : List ℕ) (offset done b m : ℕ) (files files' : Option Files) →
    is_listing c ≡ false → suits r c ≡ true → (is_store c ≡ false → files' ≡ files) →
    (is_store c ≡ false → IfSome files (λ f. b ≤ length (due_of c f path (offset + done)))) →
    (IsSentWhole r → IfSome files' (λ f. m ≡ length (due_of c f path (offset + (done + b))))) →
    IsSentWhole r → IfSome files (λ f. b + m ≡ length (due_of c f path (offset + done)))
sent-whole (command.Retr p) r path offset done b m None files' l fits same w whole sent = tt
sent-whole (command.Retr p) r path offset done b m (Some f) files' l fits same w whole sent =
    let place : offset + (done + b) ≡ (offset + done) + b = omega arith in
    let rest : m ≡ length (get (old_bytes f path) ((offset + done) + b)) = rw (same refl, place) at (whole sent) in
    let le = w refl in
    omega (arith, rest, le, ap length (get-get (old_bytes f path) (offset + done) b), length-drop b (get (old_bytes f path) (offset + done)))
sent-whole (command.Stor p) result.Sent path offset done b m files files' l fits same w whole sent = cc fits
sent-whole (command.Stor p) result.Listed path offset done b m files files' l fits same w whole sent = cc fits
sent-whole (command.Stor p) r path offset done b m files files' l fits same w whole sent = absurd sent
sent-whole (command.Appe p) result.Sent path offset done b m files files' l fits same w whole sent = cc fits
sent-whole (command.Appe p) result.Listed path offset done b m files files' l fits same w whole sent = cc fits
sent-whole (command.Appe p) r path offset done b m files files' l fits same w whole sent = absurd sent
sent-whole c r path offset done b m files files' l fits same w whole sent = cc l

-- a file that was begun and grew in a first run, and grew in a second one
put-more : (f : Files) (mid new : Option Files) (path : List ℕ) (place : ℕ) (l : List ℕ) (b m : ℕ) →
    0 < b → Stores f mid path place l b result.OutOfMemory None → IfSome mid (λ g. GrowsFront g new path (drop b l) m) →
    IsStored f new path place l (b + m)
put-more f mid new path place l b m some (le, inl stored) next =
    let later : GrowsFront (with_file f path (cut (old_bytes f path) place ++ take b l)) new path (drop b l) m = rw stored at next in
    grown_again f new path l (cut (old_bytes f path) place) b m later
put-more f mid new path place l b m some (le, inr (same, (none, fault, stopped))) next = absurd (omega (arith, some, none))

-- how many bytes of the input were stored
within-more : (f : Files) (mid new : Option Files) (path : List ℕ) (place : ℕ) (l : List ℕ) (b m : ℕ) →
    0 < b → Stores f mid path place l b result.OutOfMemory None → IfSome mid (λ g. GrowsFront g new path (drop b l) m) → b + m ≤ length l
within-more f mid new path place l b m some (le, inl stored) next =
    let later : GrowsFront (with_file f path (cut (old_bytes f path) place ++ take b l)) new path (drop b l) m = rw stored at next in
    omega (arith, le, later.0, length-drop b l)
within-more f mid new path place l b m some (le, inr (same, (none, fault, stopped))) next = absurd (omega (arith, some, none))

stores-more : (f : Files) (mid new : Option Files) (path : List ℕ) (place : ℕ) (l : List ℕ) (b m : ℕ) (r : Completion) (fault : Option LinkFault) →
    0 < b → Stores f mid path place l b result.OutOfMemory None → IfSome mid (λ g. GrowsFront g new path (drop b l) m) →
    Stores f new path place l (b + m) r fault
stores-more f mid new path place l b m r fault some first next =
    (within-more f mid new path place l b m some first next, inl (put-more f mid new path place l b m some first next))

-- the same of an APPE; its metadata were not refused, or no byte moved
appends-more : (f : Files) (mid new : Option Files) (path : List ℕ) (start : Option ℕ) (l : List ℕ) (b m : ℕ) (r : Completion) (fault : Option LinkFault) (none none' : Type 0) →
    0 < b → (none → b ≡ 0) →
    MatchOption start none (λ place. Stores f mid path place l b result.OutOfMemory None) →
    IfSome mid (λ g. GrowsFront g new path (drop b l) m) →
    MatchOption start none' (λ place. Stores f new path place l (b + m) r fault)
appends-more f mid new path None l b m r fault none none' some halt first next = absurd (omega (arith, some, halt first))
appends-more f mid new path (Some place) l b m r fault none none' some halt first next = stores-more f mid new path place l b m r fault some first next

-- what was taken is told
next-left : (left left' : Option (List ℕ)) (l : List ℕ) (b : ℕ) (P : List ℕ → Type 0) → left ≡ Some l → IfSome left (λ l. TakesFront l left' b) →
    IfSome left' P → P (drop b l)
next-left left left' l b P is taken h =
    let front : TakesFront l left' b = rw is at taken in
    rw front.1 at h

-- what was stored in two runs is stored
stored-more : (c : DataChanCmd) (job : Job) (f : Files) (meaning : Meaning) (mid new : Option Files) (l : List ℕ) (left' : Option (List ℕ)) (b m : ℕ) (r : Completion) (fault : Option LinkFault) →
    0 < b → is_listing c ≡ false → (is_store c ≡ false → new ≡ mid) → (is_store c ≡ true → left' ≡ Some (drop b l)) →
    StoresAs c job f meaning mid l b result.OutOfMemory None →
    (is_store c ≡ true → IfSome mid (λ g. IfSome left' (λ l. GrowsFront g new job.path l m))) →
    StoresAs c job f meaning new l (b + m) r fault
stored-more (command.Retr p) job f meaning mid new l left' b m r fault some goes same taken first next = same refl ∙ first
stored-more (command.Stor p) job f meaning mid new l left' b m r fault some goes same taken first next =
    stores-more f mid new job.path job.offset l b m r fault some first (IfSome_then mid (next refl) (λ g h. rw (taken refl) at h))
stored-more (command.Appe p) job f meaning mid new l left' b m r fault some goes same taken first next =
    appends-more f mid new job.path (append_place (meaning (Metadata job.user job.path)) (length (old_bytes f job.path))) l b m r fault _ _ some (λ h. h.1.0) first
    (IfSome_then mid (next refl) (λ g h. rw (taken refl) at h))
stored-more c job f meaning mid new l left' b m r fault some goes same taken first next = cc goes

-- where files and link are told
stored-told : (job : Job) (files : Option Files) (rule : Rule) (mid new : Option Files) (left left' : Option (List ℕ)) (b m : ℕ) (r : Completion) (fault : Option LinkFault) →
    0 < b → is_listing job.command ≡ false → (is_store job.command ≡ false → new ≡ mid) → (is_store job.command ≡ true → IfSome left (λ l. TakesFront l left' b)) →
    IfSome files (λ f. IfSome left (λ l. StoresAs job.command job f (rule [] f) mid l b result.OutOfMemory None)) →
    (is_store job.command ≡ true → IfSome mid (λ g. IfSome left' (λ l. GrowsFront g new job.path l m))) →
    IfSome files (λ f. IfSome left (λ l. StoresAs job.command job f (rule [] f) new l (b + m) r fault))
stored-told job None rule mid new left left' b m r fault some goes same taken first next = tt
stored-told job (Some f) rule mid new None left' b m r fault some goes same taken first next = tt
stored-told job (Some f) rule mid new (Some l) left' b m r fault some goes same taken first next =
    stored-more job.command job f (rule [] f) mid new l left' b m r fault some goes same (λ e. (taken e).1) first next

-- what was refused behind a first piece is refused in the whole run
more-refused : (f : Files) (rule : Rule) (user path : List ℕ) (mid new : Option Files) (left left' later : Option (List ℕ)) (b m : ℕ) (k : ErrorKind) →
    IfSome left (λ l. TakesFront l left' b) → IfSome mid (λ g. RefusesMore rule user g new path left' later m k) → IsSome mid →
    RefusesAppend (meaning_of rule new) user path (option_map (drop (b + m)) left) later k
more-refused f rule user path None new left left' later b m k taken refused told = cc
more-refused f rule user path (Some g) new None left' later b m k taken (grown, (piece, some, short, front, is)) told = (piece, some, short, tt, is)
more-refused f rule user path (Some g) new (Some l) left' later b m k taken refused told =
    let after : RefusesAppend (meaning_of rule new) user path (Some (drop m (drop b l))) later k = rw taken.1 at refused.1 in
    let rest : drop (b + m) l ≡ drop m (drop b l) = get-get l b m in
    rw rest after

-- by whether a piece came before
is-later : (done : ℕ) (p q : Type 0) → 0 < done → ByDone done p q → q
is-later done p q some (inl (zero, h)) = absurd (omega (arith, some, zero))
is-later done p q some (inr (later, h)) = h

-- the same where the file was begun in the first piece
begun-refused : (f : Files) (rule : Rule) (user path : List ℕ) (place : ℕ) (mid new : Option Files) (left left' later : Option (List ℕ)) (b m : ℕ) (k : ErrorKind) →
    0 < b → IfSome left (λ l. TakesFront l left' b) → IsSome mid →
    IfSome left (λ l. Stores f mid path place l b result.OutOfMemory None) →
    IfSome mid (λ g. RefusesMore (once_begun (user, path) rule) user g new path left' later m k) →
    RefusesStore rule user f new path place left later (b + m) k
begun-refused f rule user path place mid new None left' later b m k some taken told first next =
    inr (tt, more-refused f (once_begun (user, path) rule) user path mid new None left' later b m k taken next told)
begun-refused f rule user path place mid new (Some l) left' later b m k some taken told first next =
    inr (
      put-more f mid new path place l b m some first (IfSome_then mid next (λ g h. rw taken.1 at h.0)),
      more-refused f (once_begun (user, path) rule) user path mid new (Some l) left' later b m k taken next told,
    )

-- the same of an APPE
appe-refused : (f : Files) (rule : Rule) (user path : List ℕ) (start : Option ℕ) (mid new : Option Files) (left left' later : Option (List ℕ)) (b m : ℕ) (k : ErrorKind) (none none' : Type 0) →
    0 < b → IfSome left (λ l. TakesFront l left' b) → IsSome mid → (start ≡ None → ⊥) →
    IfSome left (λ l. MatchOption start none (λ place. Stores f mid path place l b result.OutOfMemory None)) →
    IfSome mid (λ g. RefusesMore (once_begun (user, path) rule) user g new path left' later m k) →
    MatchOption start none' (λ place. RefusesStore rule user f new path place left later (b + m) k)
appe-refused f rule user path None mid new left left' later b m k none none' some taken told begun first next = absurd (begun refl)
appe-refused f rule user path (Some place) mid new left left' later b m k none none' some taken told begun first next =
    begun-refused f rule user path place mid new left left' later b m k some taken told first next

-- the metadata of an APPE that moved a byte were not refused
meta-refused : (o : Option ErrorKind) (len : ℕ) (begin : ℕ → Option ErrorKind) (start : Option ℕ) → append_place o len ≡ start →
    start ≡ None → IfSome (option_map_or begin start o) (λ k. ⊥) → ⊥
meta-refused None len begin start is none refused = cc (is ∙ none)
meta-refused (Some k) len begin start is none refused = rw none at refused

-- where a piece came before the first run, the rule is as it was
later-refuses : (job : Job) (rule rule' : Rule) (mid new : Option Files) (left' later : Option (List ℕ)) (m : ℕ) (k : ErrorKind) →
    0 < job.done → rule' ≡ appends_by job rule → IfSome mid (λ g. RefusesMore rule' job.user g new job.path left' later m k) →
    IfSome mid (λ g. RefusesMore rule job.user g new job.path left' later m k)
later-refuses job rule rule' mid new left' later m k begun owned refused =
    subst (λ (x : Rule). IfSome mid (λ g. RefusesMore x job.user g new job.path left' later m k)) (owned ∙ begun_by-later job.done (job.user, job.path) rule begun) refused

-- and else it is the one once the file was begun
first-refuses : (job : Job) (rule rule' : Rule) (mid new : Option Files) (left' later : Option (List ℕ)) (m : ℕ) (k : ErrorKind) →
    job.done ≡ 0 → rule' ≡ appends_by job rule → IfSome mid (λ g. RefusesMore rule' job.user g new job.path left' later m k) →
    IfSome mid (λ g. RefusesMore (once_begun (job.user, job.path) rule) job.user g new job.path left' later m k)
first-refuses job rule rule' mid new left' later m k zero owned refused =
    subst (λ (x : Rule). IfSome mid (λ g. RefusesMore x job.user g new job.path left' later m k)) (owned ∙ ap (λ (n : ℕ). begun_by n (job.user, job.path) rule) zero) refused

-- what is refused behind a piece of a store, by whether a piece came before that one
store-more : (First : Type 0) (Again : Files → Type 0) (job : Job) (rule rule' : Rule) (f : Files) (mid new : Option Files) (left left' later : Option (List ℕ)) (b m : ℕ) (k : ErrorKind) →
    0 < b → rule' ≡ appends_by job rule → IfSome left (λ l. TakesFront l left' b) → IsSome mid →
    (0 < job.done → IfSome left (λ l. GrowsFront f mid job.path l b)) →
    IfSome mid (λ g. ByDone (job.done + b) (Again g) (RefusesMore rule' job.user g new job.path left' later m k)) →
    (job.done ≡ 0 → IfSome mid (λ g. RefusesMore (once_begun (job.user, job.path) rule) job.user g new job.path left' later m k) → First) →
    ByDone job.done First (RefusesMore rule job.user f new job.path left later (b + m) k)
store-more First Again job rule rule' f mid new left left' later b m k some owned taken told grown next fresh =
    let more = IfSome_then mid next (λ g h. is-later (job.done + b) _ _ (omega (arith, some)) h) in
    elim (cases_lt 0 job.done) [
      | inl begun ↦
          let again = later-refuses job rule rule' mid new left' later m k begun owned more in
          inr (begun, (GrowsFront-told (Some f) mid new job.path left left' b m (grown begun) taken (IfSome_then mid again (λ g h. h.0)), more-refused f rule job.user job.path mid new left left' later b m k taken again told))
      | inr none ↦
          let zero : job.done ≡ 0 = omega (arith, none) in
          inl (zero, fresh zero (first-refuses job rule rule' mid new left' later m k zero owned more))
    ]

-- what the second run refuses is refused in the whole run
refused-more : (c : DataChanCmd) (job : Job) (rule rule' : Rule) (f : Files) (mid new : Option Files) (left left' later : Option (List ℕ)) (b m : ℕ) (k : ErrorKind) →
    0 < b → is_listing c ≡ false → (is_store c ≡ false → rule' ≡ rule) → (is_store c ≡ true → rule' ≡ appends_by job rule) →
    (is_store c ≡ false → mid ≡ Some f) → (is_store c ≡ true → IfSome left (λ l. TakesFront l left' b)) → IsSome mid →
    (job.done ≡ 0 → IfSome left (λ l. StoresAs c job f (rule [] f) mid l b result.OutOfMemory None)) →
    (0 < job.done → is_store c ≡ true → IfSome left (λ l. GrowsFront f mid job.path l b)) →
    IfSome (first_refusal c job f (rule [] f)) (λ k. ⊥) →
    IfSome mid (λ g. Refuses c (behind job b) rule' g new left' later m k) →
    Refuses c job rule f new left later (b + m) k
refused-more (command.Retr p) job rule rule' f mid new left left' later b m k some goes kept owned same taken told stored grown first next =
    let here : rule [] f (ReadAt job.user job.path (read_place job.offset ((job.done + b) + m))) ≡ Some k = rw (same refl, kept refl) at next in
    let place : job.done + (b + m) ≡ (job.done + b) + m = omega arith in
    rw place here
refused-more (command.Stor p) job rule rule' f mid new left left' later b m k some goes kept owned same taken told stored grown first next =
    store-more _ (λ g. RefusesStore rule' job.user g new job.path job.offset left' later m k) job rule rule' f mid new left left' later b m k some (owned refl) (taken refl) told (λ begun. grown begun refl) next
    (λ zero more. begun-refused f rule job.user job.path job.offset mid new left left' later b m k some (taken refl) told (stored zero) more)
refused-more (command.Appe p) job rule rule' f mid new left left' later b m k some goes kept owned same taken told stored grown first next =
    store-more _ (λ g. RefusesAppe rule' job.user g new job.path left' later m k) job rule rule' f mid new left left' later b m k some (owned refl) (taken refl) told (λ begun. grown begun refl) next
    (λ zero more.
    let unrefused = rw zero at first in
    appe-refused f rule job.user job.path (append_place (rule [] f (Metadata job.user job.path)) (length (old_bytes f job.path))) mid new left left' later b m k _ _ some (taken refl) told
    (λ none. meta-refused (rule [] f (Metadata job.user job.path)) (length (old_bytes f job.path)) (λ place. rule [] f (Begin job.user job.path place)) _ refl none unrefused)
    (stored zero) more)
refused-more c job rule rule' f mid new left left' later b m k some goes kept owned same taken told stored grown first next = cc goes

-- where the files are told
refused-told : (job : Job) (rule rule' : Rule) (files mid new : Option Files) (left left' later : Option (List ℕ)) (b m : ℕ) (k : ErrorKind) →
    0 < b → is_listing job.command ≡ false → (is_store job.command ≡ false → rule' ≡ rule) → (is_store job.command ≡ true → rule' ≡ appends_by job rule) →
    (is_store job.command ≡ false → mid ≡ files) → (is_store job.command ≡ true → IfSome left (λ l. TakesFront l left' b)) → (IsSome files → IsSome mid) →
    (job.done ≡ 0 → IfSome files (λ f. IfSome left (λ l. StoresAs job.command job f (rule [] f) mid l b result.OutOfMemory None))) →
    (0 < job.done → is_store job.command ≡ true → IfSome files (λ f. IfSome left (λ l. GrowsFront f mid job.path l b))) →
    IfSome files (λ f. IfSome (first_refusal job.command job f (rule [] f)) (λ k. ⊥)) →
    IfSome mid (λ g. Refuses job.command (behind job b) rule' g new left' later m k) →
    IfSome files (λ f. Refuses job.command job rule f new left later (b + m) k)
refused-told job rule rule' None mid new left left' later b m k some goes kept owned same taken told stored grown first next = tt
refused-told job rule rule' (Some f) mid new left left' later b m k some goes kept owned same taken told stored grown first next =
    refused-more job.command job rule rule' f mid new left left' later b m k some goes kept owned same taken (told refl) stored grown first next

-- where all of the rest was taken, all was
TakesFront-all : (l rest later : Option (List ℕ)) (b m : ℕ) → IfSome l (λ l. TakesFront l rest b) → IfSome rest (λ l. (m ≡ length l) × (later ≡ Some [])) →
    IfSome l (λ l. (b + m ≡ length l) × (later ≡ Some []))
TakesFront-all None rest later b m taken end = tt
TakesFront-all (Some l) rest later b m taken end =
    let done : (m ≡ length (drop b l)) × (later ≡ Some []) = rw taken.1 at end in
    (omega (arith, done.0, taken.0, length-drop b l), done.1)

-- a result that only a store has is that of a store
stores-written : (c : DataChanCmd) (r : Completion) → suits r c ≡ true → r ≡ result.Written → is_store c ≡ true
stores-written c r fits is = rw is at fits

-- a RETR is no store
retrieves : (c : DataChanCmd) (r : Completion) → suits r c ≡ true → r ≡ result.Sent → is_store c ≡ false
retrieves (command.Stor p) r fits is = cc (rw is at fits)
retrieves (command.Appe p) r fits is = cc (rw is at fits)
retrieves c r fits is = refl

-- the rest of what was left after a first run is the rest of all
last-more : (rose rose' : Type 0) (meaning : Meaning) (user path : List ℕ) (left left' later : Option (List ℕ)) (b m : ℕ) (r : Completion) → (rose → rose') →
    IfSome left (λ l. TakesFront l left' b) → RefusedLast rose meaning user path (option_map (drop m) left') later r →
    RefusedLast rose' meaning user path (option_map (drop (b + m)) left) later r
last-more rose rose' meaning user path None left' later b m r rises taken last piece rest k some is stays refused = cc
last-more rose rose' meaning user path (Some l) left' later b m r rises taken last piece rest k some is stays refused =
    let here : option_map (drop m) left' ≡ Some (piece ++ rest) = rw taken.1 (ap Some (sym (get-get l b m)) ∙ is) in
    EndsRefused_later rose rose' k r rises (last piece rest k some here stays refused)

-- what the first part leaves and what the second leaves is what the whole run leaves
pub goes-on : (job : Job) (old mid new : Told) (b m : ℕ) (r : Completion) (fault : Option LinkFault) → Counted old mid → Counted mid new →
    suits r job.command ≡ true → Went job old mid b → Moves (behind job b) mid new m r fault → Moves job old new (b + m) r fault
goes-on job old mid new b m r fault counts counts' fits first next =
    let same_files : is_store job.command ≡ false → mid.files ≡ old.files = λ e. (first.moves.kept e).0 in
    let storage : StorageFailed mid new → StorageFailed old new =
    λ rose. (HasRisen_later _ _ _ counts.storage counts'.storage rose.0, StorageMet-more _ _ _ (well job old mid b first) rose.1) in
    let sum : (job.done + b) + m ≡ job.done + (b + m) = omega arith in
    let later : begun_by (job.done + b) (job.user, job.path) mid.rule ≡ mid.rule = begun_by-later (job.done + b) (job.user, job.path) mid.rule (omega (arith, first.some)) in
    let rule : is_store job.command ≡ true → new.rule ≡ appends_by job old.rule =
    λ e. stays-rule (job.done + b) (job.user, job.path) mid.rule new.rule _ (omega (arith, first.some)) (next.owned e) ∙ moved-rule job old mid b first e in
    let unrefused = IfSome_then old.files first.moves.refused (λ f h. IfSome_then (first_refusal job.command job f (old.rule [] f)) h (λ k refused. absurd (omega (arith, first.some, refused.0.0)))) in
    let sends = sent-file job.command job.path job.offset job.done b m old.files mid.files old.sending.sent mid.sending.sent new.sending.sent first.goes_on same_files
    (λ e. next.silent e ∙ first.moves.silent e) first.moves.within first.moves.sent next.within next.sent in
    record {
      rule = λ e. next.rule e ∙ first.moves.rule e;
      owned = λ e. inl (rule e);
      begun = λ e held memory. IfSome_any old.files _ (λ f none. rule e);
      sent = sends.1;
      within = sends.0;
      whole = sent-whole job.command r job.path job.offset job.done b m old.files mid.files first.goes_on fits same_files first.moves.within next.whole;
      silent = λ e. next.silent e ∙ first.moves.silent e;
      kept = λ e. ((next.kept e).0 ∙ (first.moves.kept e).0, (next.kept e).1 ∙ (first.moves.kept e).1);
      stored = λ zero.
          stored-told job old.files old.rule mid.files new.files old.left mid.left b m r fault first.some first.goes_on (λ e. (next.kept e).0) first.taken (first.moves.stored zero)
          (next.grown (omega (arith, first.some)));
      grown = λ begun e. GrowsFront-told old.files mid.files new.files job.path old.left mid.left b m (first.moves.grown begun e) (first.taken e) (next.grown (omega (arith, first.some)) e);
      written = λ e. TakesFront-all old.left mid.left new.left b m (first.taken (stores-written job.command r fits e)) (next.written e);
      countable = λ done. omega (arith, next.countable done);
      cause = rw (sym sum)
          (Caused_later _ _ _ _ _ _ _ old.sending.last_fault new.sending.last_fault _ r fault
          (λ rose. (HasRisen_later _ _ _ counts.link counts'.link rose.0, LinkMet-more _ _ _ _ (first.moves.link_well refl) rose.1))
          storage
          (λ k refused. refused-told job old.rule mid.rule old.files mid.files new.files old.left mid.left new.left b m k first.some first.goes_on first.moves.rule (moved-rule job old mid b first) same_files first.taken first.told first.moves.stored first.moves.grown unrefused
          refused)
          (rw (held job old mid b first) at next.cause));
      refused = IfSome_then old.files unrefused (λ f h. IfSome_then (first_refusal job.command job f (old.rule [] f)) h (λ k no. absurd no));
      unrefused = λ e. rw (first.moves.rule (retrieves job.command r fits e), same_files (retrieves job.command r fits e), sum) at (next.unrefused e);
      refused_last = λ e told.
          last-more (StorageFailed mid new) (StorageFailed old new) (meaning_of (appends_by job old.rule) new.files) job.user job.path old.left mid.left new.left b m r storage (first.taken e)
          (subst (λ (x : Rule). RefusedLast (StorageFailed mid new) (meaning_of x new.files) job.user job.path (option_map (drop m) mid.left) new.left r) (later ∙ moved-rule job old mid b first e) (next.refused_last e (first.told told)));
      link_well = λ none. AllWell-more (λ (call : ℕ × LinkFault). call.0) _ _ _ (first.moves.link_well refl) (next.link_well none);
      storage_well = StorageWent-more _ _ _ _ (well job old mid b first) next.storage_well;
    }

-- a part that went on, and then another one, went on
pub went-more : (job : Job) (old mid new : Told) (b m : ℕ) → Counted old mid → Counted mid new →
    Went job old mid b → Went (behind job b) mid new m → Went job old new (b + m)
went-more job old mid new b m counts counts' first next =
    record {
      some = omega (arith, first.some);
      in_range = omega (arith, next.in_range);
      goes_on = first.goes_on;
      moves = goes-on job old mid new b m result.OutOfMemory None counts counts' refl first next.moves;
      taken = λ e. TakesFront-told old.left mid.left new.left b m (first.taken e) (next.taken e);
      told = λ told. next.told (first.told told);
      closed = next.closed ∙ first.closed;
    }

-- ---- behind all that went on so far

-- how a job has come to where it is
abbrev pub HasMoved : Job → Job → Told → Told → Type 0
HasMoved job next old mid = ((next ≡ job) × (mid ≡ old)) ⊎ Went job old mid (next.done - job.done)

-- the same job, but for what moved, is that behind these bytes
behind-done : (job next : Job) → job.done ≤ next.done → next ≡ record job { done = next.done } → next ≡ behind job (next.done - job.done)
behind-done job next more same =
    let total : next.done ≡ job.done + (next.done - job.done) = omega (arith, more) in
    same ∙ ap (λ (n : ℕ). record job { done = n }) total

-- a run that ends behind what moved up to here
pub moves-behind : (job next : Job) (old mid new : Told) (m : ℕ) (r : Completion) (fault : Option LinkFault) → Counted old mid → Counted mid new →
    job.done ≤ next.done → next ≡ record job { done = next.done } → suits r job.command ≡ true →
    HasMoved job next old mid → Moves next mid new m r fault →
    Moves job old new ((next.done + m) - job.done) r fault
moves-behind job next old mid new m r fault counts counts' more same fits (inl (is, at_start)) moves =
    let sum : (next.done + m) - job.done ≡ m = omega (arith, ap (λ (j : Job). j.done) is) in
    rw sum (rw (is, at_start) at moves)
moves-behind job next old mid new m r fault counts counts' more same fits (inr went) moves =
    let sum : (next.done + m) - job.done ≡ (next.done - job.done) + m = omega (arith, more) in
    rw sum (goes-on job old mid new (next.done - job.done) m r fault counts counts' fits went (rw (behind-done job next more same) at moves))

-- a part that went on behind what moved up to here
pub went-behind : (job next : Job) (old mid new : Told) (m : ℕ) → Counted old mid → Counted mid new →
    job.done ≤ next.done → next ≡ record job { done = next.done } →
    HasMoved job next old mid → Went next mid new m →
    Went job old new ((next.done + m) - job.done)
went-behind job next old mid new m counts counts' more same (inl (is, at_start)) went =
    let sum : (next.done + m) - job.done ≡ m = omega (arith, ap (λ (j : Job). j.done) is) in
    rw sum (rw (is, at_start) at went)
went-behind job next old mid new m counts counts' more same (inr first) went =
    let sum : (next.done + m) - job.done ≡ (next.done - job.done) + m = omega (arith, more) in
    rw sum (went-more job old mid new (next.done - job.done) m counts counts' first (rw (behind-done job next more same) at went))
