-- A file that grows piece by piece.
use Rattle.std.proofs.Common.{◌≡◌, inl, inr, ℕ, ◌+◌, ◌<◌, ◌≤◌, List, [], ◌++◌, length, length-drop, take, drop, Option, Some, None, refl, sym, ap, ◌∙◌, append_assoc, arith}
use Rattle.std.specs.Prelude.{IsSome, IfSome, IsSomeAnd, MatchOption, Result, Ok, Err, IfOk, MatchResult, unwrap_or}
use Rattle.std.specs.Option.{option_map, option_and_then}
use Rattle.std.proofs.lemmas.List.{drop-drop, append-nil, length-append}
use Rattle.std.proofs.lemmas.Option.{IfSome_then}
use Rattle.ftp_base.specs.declared.error_kind.ErrorKind.{ErrorKind}
use Rattle.ftp_base.specs.declared.error_kind.ErrorKind.TheVariants as kind
use Rattle.ftp_base.specs.declared.storage.Meta.{Meta}
use Rattle.ftp_base.specs.declared.storage.StoreError.{StoreError}
use Rattle.ftp_base.specs.declared.storage.StoreError.TheVariants.{Kind, Failed, OutOfMemory}
use Rattle.ftp_base.specs.Storage.{Item, Directory, File, Files, Call, Meaning, Rule, once_begun, meaning_of, Answers, Metadata, Begin, item, bytes_of, contents, with_file, old_bytes, cut, meta_of, Begins, Refuses}
use Rattle.ftp_base.proofs.Files.{with_file-with_file, contents-with_file}
use Rattle.ftp_base.specs.declared.fault.LinkFault.{LinkFault}
use Rattle.ftp_transfer.specs.declared.job.Completion.{Completion}
use Rattle.ftp_transfer.specs.declared.job.Completion.TheVariants as result
use Rattle.ftp_transfer.specs.Run.{IsStopped, RefusedLast, RefusesAppend, RefusesStore, GrowsFront, TakesFront, Stores, append_place, append_refusal}
use Rattle.ftp_transfer.specs.Turn.{start_after, completion_of}
use Rattle.ftp_transfer.proofs.Pieces.{take-plus}
use Rattle.ftp_transfer.proofs.RunLemmas.{EndsRefused_later}

-- what is there and has a property
pub value_with : {A : Type 0} (P : A → Type 0) (o : Option A) → IsSomeAnd o P → (x : A) × (o ≡ Some x) × P x
value_with P None h = absurd h
value_with P (Some x) h = (x, refl, h)

-- the file of a path, which grew, grows more
pub grown_again : (f : Files) (fn : Option Files) (path l had : List ℕ) (m n : ℕ) →
    GrowsFront (with_file f path (had ++ take m l)) fn path (drop m l) n → fn ≡ Some (with_file f path (had ++ take (m + n) l))
grown_again f fn path l had m n (le, inl (none, same)) =
    let e : m + n ≡ m = omega arith in
    same ∙ ap (λ (k : ℕ). Some (with_file f path (had ++ take k l))) (sym e)
grown_again f fn path l had m n (le, inr more) =
    let next = value_with (λ x. fn ≡ Some (with_file (with_file f path (had ++ take m l)) path (x ++ take n (drop m l)))) (contents (with_file f path (had ++ take m l)) path) more in
    let e = contents-with_file f path (had ++ take m l) next.0 next.1 in
    next.2
    ∙ ap Some
    (with_file-with_file f path (had ++ take m l) (next.0 ++ take n (drop m l))
    ∙ ap (with_file f path)
    (ap (λ (x : List ℕ). x ++ take n (drop m l)) e
    ∙ append_assoc had (take m l) (take n (drop m l))
    ∙ ap (λ (x : List ℕ). had ++ x) (sym (take-plus m n l))))

-- the next bytes of the input were put behind the first
GrowsFront-more : (f : Files) (fs fn : Option Files) (path l : List ℕ) (m n : ℕ) →
    GrowsFront f fs path l m → IfSome fs (λ g. GrowsFront g fn path (drop m l) n) → GrowsFront f fn path l (m + n)
GrowsFront-more f fs fn path l m n (le, inl (none, same)) next =
    let later : GrowsFront f fn path (drop m l) n = rw same at next in
    let e : m + n ≡ n = omega arith in
    rw e (rw none at later)
GrowsFront-more f fs fn path l m n (le, inr grown) next =
    let found = value_with (λ had. fs ≡ Some (with_file f path (had ++ take m l))) (contents f path) grown in
    let later : GrowsFront (with_file f path (found.0 ++ take m l)) fn path (drop m l) n = rw found.2 at next in
    (omega (arith, later.0, length-drop m l), inr (rw found.1 (grown_again f fn path l found.0 m n later)))

-- the next bytes of the input were taken after the first
pub TakesFront-told : (l rest later : Option (List ℕ)) (m n : ℕ) →
    IfSome l (λ l. TakesFront l rest m) → IfSome rest (λ l. TakesFront l later n) → IfSome l (λ l. TakesFront l later (m + n))
TakesFront-told None rest later m n first next = tt
TakesFront-told (Some l) rest later m n (le, taken) next =
    let again : TakesFront (drop m l) later n = rw taken at next in
    (omega (arith, again.0, length-drop m l), again.1 ∙ ap Some (drop-drop n m l))

-- nothing is left where all was taken
pub TakesFront-whole : (l rest later : Option (List ℕ)) (m : ℕ) →
    IfSome l (λ l. TakesFront l rest m) → IfSome rest (λ l. (l ≡ []) × (later ≡ Some [])) → IfSome l (λ l. (m ≡ length l) × (later ≡ Some []))
TakesFront-whole None rest later m first end = tt
TakesFront-whole (Some l) rest later m (le, taken) end =
    let done : (drop m l ≡ []) × (later ≡ Some []) = rw taken at end in
    (omega (arith, length-drop m l, ap length done.0), done.1)

-- the same, where storage and link tell what they hold
pub GrowsFront-told : (f fs fn : Option Files) (path : List ℕ) (l rest : Option (List ℕ)) (m n : ℕ) →
    IfSome f (λ f. IfSome l (λ l. GrowsFront f fs path l m)) →
    IfSome l (λ l. TakesFront l rest m) →
    IfSome fs (λ f. IfSome rest (λ l. GrowsFront f fn path l n)) →
    IfSome f (λ f. IfSome l (λ l. GrowsFront f fn path l (m + n)))
GrowsFront-told None fs fn path l rest m n first taken next = tt
GrowsFront-told (Some f) fs fn path None rest m n first taken next = tt
GrowsFront-told (Some f) fs fn path (Some l) rest m n first taken next = GrowsFront-more f fs fn path l m n first (rw taken.1 at next)

-- what was put behind a begun file stands there
put_begun : (f : Files) (fn : Option Files) (path had l : List ℕ) (m : ℕ) →
    GrowsFront (with_file f path had) fn path l m → fn ≡ Some (with_file f path (had ++ take m l))
put_begun f fn path had l m (le, inl (none, same)) = same ∙ ap (λ (x : List ℕ). Some (with_file f path x)) (sym (ap (λ (k : ℕ). had ++ take k l) none ∙ append-nil had))
put_begun f fn path had l m (le, inr grown) =
    let next = value_with (λ x. fn ≡ Some (with_file (with_file f path had) path (x ++ take m l))) (contents (with_file f path had) path) grown in
    next.2
    ∙ ap Some
    (with_file-with_file f path had (next.0 ++ take m l)
    ∙ ap (λ (x : List ℕ). with_file f path (x ++ take m l)) (contents-with_file f path had next.0 next.1))

-- a file that was begun and grew is stored
pub Stores-begun : (f fs fn : Option Files) (path : List ℕ) (place : ℕ) (l : Option (List ℕ)) (m : ℕ) (r : Completion) (fault : Option LinkFault) →
    Begins f fs path place → IfSome l (λ l. m ≤ length l) → IfSome fs (λ g. IfSome l (λ l. GrowsFront g fn path l m)) → IfSome f (λ f. IfSome l (λ l. Stores f fn path place l m r fault))
Stores-begun None fs fn path place l m r fault begun within grown = tt
Stores-begun (Some f) fs fn path place None m r fault begun within grown = tt
Stores-begun (Some f) fs fn path place (Some l) m r fault begun within grown =
    (within, inl (put_begun f fn path (cut (old_bytes f path) place) l m (rw begun at grown)))

-- an append that is refused by the rule once the file was begun is refused to the file as it then is
pub Stores-refused : (f fs fn : Option Files) (rule : Rule) (user path : List ℕ) (place : ℕ) (l later : Option (List ℕ)) (m : ℕ) (k : ErrorKind) →
    Begins f fs path place →
    IfSome fs (λ g. IfSome l (λ l. GrowsFront g fn path l m)) →
    (IsSome fs → RefusesAppend (meaning_of (once_begun (user, path) rule) fn) user path (option_map (drop m) l) later k) →
    IfSome f (λ f. RefusesStore rule user f fn path place l later m k)
Stores-refused None fs fn rule user path place l later m k begun grown refused = tt
Stores-refused (Some f) fs fn rule user path place None later m k begun grown refused = inr (tt, refused (rw begun refl))
Stores-refused (Some f) fs fn rule user path place (Some l) later m k begun grown refused =
    inr (put_begun f fn path (cut (old_bytes f path) place) l m (rw begun at grown), refused (rw begun refl))

length_of : (o : Option Item) (meta : Meta) → IsSomeAnd o (λ i. meta ≡ meta_of i) → meta.len ≡ length (unwrap_or (option_and_then bytes_of o) [])
length_of None meta h = absurd h
length_of (Some Directory) meta h = ap (λ (m : Meta). m.len) h
length_of (Some (File bytes)) meta h = ap (λ (m : Meta). m.len) h

-- an APPE begins at its place
pub append_place-start : (f : Files) (path : List ℕ) (refusal : Option ErrorKind) (r : Result Meta StoreError) (n : ℕ) →
    MatchResult r (λ _. refusal ≡ None) (Refuses refusal) → IfOk r (λ meta. IsSomeAnd (item f path) (λ i. meta ≡ meta_of i)) →
    start_after r ≡ Ok n → append_place refusal (length (old_bytes f path)) ≡ Some n
append_place-start f path refusal (Ok meta) n answer found e =
    let long = length_of (item f path) meta found in
    let same : meta.len ≡ n = cc in
    rw answer (ap Some (sym long ∙ same))
append_place-start f path refusal (Err (Kind kind.PermanentFileNotAvailable)) n answer found e =
    let zero : 0 ≡ n = cc in
    rw answer (ap Some zero)
append_place-start f path refusal (Err (Kind k)) n answer found e = cc
append_place-start f path refusal (Err Failed) n answer found e = cc
append_place-start f path refusal (Err OutOfMemory) n answer found e = cc

-- the first call of an APPE after metadata is refused as it would be alone
pub append_refusal-begin : (told : Option Files) (rule : Rule) (user path : List ℕ) (n : ℕ) (P Q : Files → ErrorKind → Type 0) →
    ((f : Files) (k : ErrorKind) → P f k → Q f k) →
    ((f : Files) → told ≡ Some f → append_place (rule [] f (Metadata user path)) (length (old_bytes f path)) ≡ Some n) →
    IfSome told (λ f. IfSome (rule [] f (Begin user path n)) (P f)) →
    IfSome told (λ f. IfSome (append_refusal (rule [] f) user path (length (old_bytes f path))) (Q f))
append_refusal-begin None rule user path n P Q turn place h = tt
append_refusal-begin (Some f) rule user path n P Q turn place h =
    rw (place f refl) (IfSome_then (rule [] f (Begin user path n)) h (turn f))

-- a list has no more elements than itself
not_longer : (piece left : List ℕ) → 0 < length piece → piece ++ left ≡ left → ⊥
not_longer piece left some same = omega (arith, some, ap length same, length-append piece left)

-- where nothing was taken, no piece was refused
pub RefusedLast-none : (rose : Type 0) (meaning : Meaning) (user path : List ℕ) (rest later : Option (List ℕ)) (r : Completion) →
    later ≡ rest → RefusedLast rose meaning user path rest later r
RefusedLast-none rose meaning user path rest later r same piece left k some taken stays refused =
    let e : piece ++ left ≡ left = cc in
    absurd (not_longer piece left some e)

-- a refusal of the last piece is the result of the whole run, where the rest is what was left after the first pieces
pub RefusedLast-told : (rose rose' : Type 0) (meaning : Meaning) (user path : List ℕ) (l rest later : Option (List ℕ)) (m : ℕ) (r : Completion) →
    (rose → rose') → IfSome l (λ l. TakesFront l rest m) → RefusedLast rose meaning user path rest later r → RefusedLast rose' meaning user path (option_map (drop m) l) later r
RefusedLast-told rose rose' meaning user path None rest later m r rises taken last piece left k some is stays refused = cc
RefusedLast-told rose rose' meaning user path (Some l) rest later m r rises taken last piece left k some is stays refused =
    EndsRefused_later rose rose' k r rises (last piece left k some (taken.1 ∙ is) stays refused)

-- the same where more may have failed
pub RefusedLast_later : (rose rose' : Type 0) (meaning : Meaning) (user path : List ℕ) (rest later : Option (List ℕ)) (r : Completion) →
    (rose → rose') → RefusedLast rose meaning user path rest later r → RefusedLast rose' meaning user path rest later r
RefusedLast_later rose rose' meaning user path rest later r rises last piece left k some is stays refused =
    EndsRefused_later rose rose' k r rises (last piece left k some is stays refused)

-- a piece that is refused of what was left is refused of the rest of all
pub RefusesAppend-told : (meaning : Meaning) (user path : List ℕ) (l rest later : Option (List ℕ)) (m : ℕ) (k : ErrorKind) →
    IfSome l (λ l. TakesFront l rest m) → RefusesAppend meaning user path rest later k → RefusesAppend meaning user path (option_map (drop m) l) later k
RefusesAppend-told meaning user path None rest later m k taken (piece, some, short, front, refused) = (piece, some, short, tt, refused)
RefusesAppend-told meaning user path (Some l) rest later m k taken refused = rw taken.1 at refused

-- what an APPE refuses where it begins
pub RefusesAppe-at : (told : Option Files) (rule : Rule) (user path : List ℕ) (n : ℕ) (none : Files → Type 0) (P : Files → ℕ → Type 0) →
    ((f : Files) → told ≡ Some f → append_place (rule [] f (Metadata user path)) (length (old_bytes f path)) ≡ Some n) →
    IfSome told (λ f. P f n) →
    IfSome told (λ f. MatchOption (append_place (rule [] f (Metadata user path)) (length (old_bytes f path))) (none f) (P f))
RefusesAppe-at None rule user path n none P place h = tt
RefusesAppe-at (Some f) rule user path n none P place h = rw (place f refl) h

-- where no byte moved, the rest is all
pub drop-nothing : (o : Option (List ℕ)) → o ≡ option_map (drop 0) o
drop-nothing None = refl
drop-nothing (Some l) = refl

-- a file that was begun is told
pub Begins-told : (old new : Option Files) (path : List ℕ) (start : ℕ) → Begins old new path start → IsSome old → IsSome new
Begins-told None new path start begun told = cc
Begins-told (Some f) new path start begun told = rw begun refl

-- what a storage stops is stopped
pub stops : (e : StoreError) → IsStopped (completion_of e)
stops (Kind k) = tt
stops Failed = tt
stops OutOfMemory = tt

-- a begin that failed was refused, or failed, or found no memory
pub begins-else : {A : Type 0} (files : Option Files) (rule : Rule) (call : Call) (r : Result A StoreError) (e : StoreError) (rose P : Type 0) →
    r ≡ Err e → Answers files (meaning_of rule files call) r → (r ≡ Err Failed → rose) → (rose → ⊥) → (completion_of e ≡ result.OutOfMemory → ⊥) →
    IfSome files (λ f. rule [] f call ≡ None → P)
begins-else None rule call r e rose P is answers fails held memory = tt
begins-else (Some f) rule call r (Kind k) rose P is answers fails held memory =
    λ none. let refused : rule [] f call ≡ Some k = rw is at (answers refl) in cc (sym none ∙ refused)
begins-else (Some f) rule call r Failed rose P is answers fails held memory = absurd (held (fails is))
begins-else (Some f) rule call r OutOfMemory rose P is answers fails held memory = absurd (memory refl)

-- an APPE that goes on after its metadata begins where it would begin alone
pub append-begins : (told : Option Files) (rule : Rule) (user path : List ℕ) (n : ℕ) (P : Type 0) →
    ((f : Files) → told ≡ Some f → append_place (rule [] f (Metadata user path)) (length (old_bytes f path)) ≡ Some n) →
    IfSome told (λ f. rule [] f (Begin user path n) ≡ None → P) →
    IfSome told (λ f. append_refusal (rule [] f) user path (length (old_bytes f path)) ≡ None → P)
append-begins None rule user path n P place h = tt
append-begins (Some f) rule user path n P place h = rw (place f refl) h

-- an APPE whose metadata led nowhere was refused, or they failed, or found no memory
pub append-else : (files : Option Files) (rule : Rule) (user path : List ℕ) (r : Result Meta StoreError) (c : Completion) (rose P : Type 0) →
    start_after r ≡ Err c → Answers files (meaning_of rule files (Metadata user path)) r → (r ≡ Err Failed → rose) → (rose → ⊥) → (c ≡ result.OutOfMemory → ⊥) →
    IfSome files (λ f. append_refusal (rule [] f) user path (length (old_bytes f path)) ≡ None → P)
append-else None rule user path r c rose P on answers fails held memory = tt
append-else (Some f) rule user path (Ok meta) c rose P on answers fails held memory = cc on
append-else (Some f) rule user path (Err (Kind kind.PermanentFileNotAvailable)) c rose P on answers fails held memory = cc on
append-else (Some f) rule user path (Err (Kind k)) c rose P on answers fails held memory = λ none. cc (rw (answers refl) at none)
append-else (Some f) rule user path (Err Failed) c rose P on answers fails held memory = absurd (held (fails refl))
append-else (Some f) rule user path (Err OutOfMemory) c rose P on answers fails held memory =
    let is : c ≡ result.OutOfMemory = cc in
    absurd (memory is)

-- metadata that led nowhere stopped the transfer
pub stops-after : (r : Result Meta StoreError) (c : Completion) → start_after r ≡ Err c → IsStopped c
stops-after (Ok meta) c on = cc on
stops-after (Err (Kind kind.PermanentFileNotAvailable)) c on = cc on
stops-after (Err (Kind k)) c on = let is : result.Refused k ≡ c = cc in rw (sym is) tt
stops-after (Err Failed) c on = let is : result.Refused kind.LocalError ≡ c = cc in rw (sym is) tt
stops-after (Err OutOfMemory) c on = let is : result.OutOfMemory ≡ c = cc in rw (sym is) tt
