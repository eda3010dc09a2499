-- Runs that go on from where a part of them ended.
use Rattle.std.proofs.Common.{◌≡◌, inl, inr, ℕ, ◌+◌, ◌≤◌, List, length-drop, drop, Option, Some, None, sym, ◌∙◌, arith}
use Rattle.std.specs.Prelude.{IfSome}
use Rattle.std.proofs.lemmas.List.{drop-drop}
use Rattle.ftp_base.specs.declared.error_kind.ErrorKind.{ErrorKind}
use Rattle.ftp_base.specs.declared.fault.LinkFault.{LinkFault}
use Rattle.ftp_base.specs.Calls.{Calls, AllWell}
use Rattle.ftp_base.specs.Kept.{CountsOn}
use Rattle.ftp_base.specs.Outside.{HasRisen}
use Rattle.ftp_base.proofs.CallsMade.{AllWell-more, LinkMet-more, StorageMet-more}
use Rattle.ftp_base.specs.Storage.{Files, get, old_bytes}
use Rattle.ftp_transfer.specs.declared.job.Completion.{Completion}
use Rattle.ftp_transfer.specs.declared.job.Completion.TheVariants as result
use Rattle.ftp_transfer.specs.Run.{StorageRose, LinkRose, StorageWent, SendsFront, RefusedBy, IfRefused, Caused, EndsRefused, RefusedFirst}
use Rattle.ftp_transfer.proofs.Pieces.{Writes-more}

-- a count that rose later rose
pub HasRisen_later : (a b c : ℕ) → a ≤ b → b ≤ c → HasRisen b c → HasRisen a c
HasRisen_later a b c le le' rose = grind arith

-- a count that rose and does not fall rose
pub HasRisen-more : (a b c : ℕ) → b ≤ c → HasRisen a b → HasRisen a c
HasRisen-more a b c le rose = grind arith

-- a storage that failed after calls that went well failed in the longer run
pub StorageRose_later : {S : Type 0} {faults fault_limit : S → ℕ} {a b c : S} (x y z : Option (Calls ℕ)) →
    CountsOn faults fault_limit a b → CountsOn faults fault_limit b c → AllWell (λ (call : ℕ). call) x y →
    StorageRose (faults b) (faults c) y z → StorageRose (faults a) (faults c) x z
StorageRose_later x y z first next well rose = (HasRisen_later _ _ _ first.count next.count rose.0, StorageMet-more x y z well rose.1)

-- how the calls of a storage went after others that went well
pub StorageWent-more : (a b c : Option (Calls ℕ)) (r : Completion) → AllWell (λ (call : ℕ). call) a b → StorageWent b c r → StorageWent a c r
StorageWent-more a b c r first (inl well) = inl (AllWell-more (λ (call : ℕ). call) a b c first well)
StorageWent-more a b c r first (inr (is, met)) = inr (is, StorageMet-more a b c first met)

-- a link that failed after calls that went well failed in the longer run
pub LinkRose_later : {L : Type 0} {faults fault_limit : L → ℕ} {a b c : L} (x y z : Option (Calls (ℕ × LinkFault))) (last : Option LinkFault) →
    CountsOn faults fault_limit a b → CountsOn faults fault_limit b c → AllWell (λ (call : ℕ × LinkFault). call.0) x y →
    LinkRose (faults b) (faults c) y z last → LinkRose (faults a) (faults c) x z last
LinkRose_later x y z last first next well rose = (HasRisen_later _ _ _ first.count next.count rose.0, LinkMet-more x y z last well rose.1)

-- the next bytes of a text were sent after the first
pub SendsFront-more : (text : List ℕ) (m n : ℕ) (a b c : Option (List ℕ)) →
    SendsFront text m a b → SendsFront (drop m text) n b c → SendsFront text (m + n) a c
SendsFront-more text m n a b c first next =
    (omega (arith, length-drop m text), Writes-more a b c m n text first.1 next.1)

-- the bytes from a place on, and of these from another on
pub get-get : (bytes : List ℕ) (i j : ℕ) → get bytes (i + j) ≡ drop j (get bytes i)
get-get bytes i j = sym (drop-drop j i bytes)

-- the same of a file, where the storage tells it
pub SendsFront-file : (told : Option Files) (path : List ℕ) (offset m n : ℕ) (a b c : Option (List ℕ)) →
    IfSome told (λ f. SendsFront (get (old_bytes f path) offset) m a b) →
    IfSome told (λ f. SendsFront (get (old_bytes f path) (offset + m)) n b c) →
    IfSome told (λ f. SendsFront (get (old_bytes f path) offset) (m + n) a c)
SendsFront-file None path offset m n a b c first next = tt
SendsFront-file (Some f) path offset m n a b c first next =
    SendsFront-more (get (old_bytes f path) offset) m n a b c first (rw get-get at next)

-- a refusal has its cause in the longer run too
RefusedBy_later : (s s' : Type 0) (r r' : ErrorKind → Type 0) (m : ℕ) (k : ErrorKind) → (s → s') → ((x : ErrorKind) → r x → r' x) →
    RefusedBy s r m k → RefusedBy s' r' m k
RefusedBy_later s s' r r' m k rose refuses (inl (e, inl h)) = inl (e, inl (rose h))
RefusedBy_later s s' r r' m k rose refuses (inl (e, inr h)) = inl (e, inr h)
RefusedBy_later s s' r r' m k rose refuses (inr h) = inr (refuses k h)

-- what is refused is refused for more causes too
IfRefused_later : (p q : ErrorKind → Type 0) (c : Completion) →
    ((k : ErrorKind) → p k → q k) → IfRefused p c → IfRefused q c
IfRefused_later p q (result.Refused k) more h = more k h
IfRefused_later p q c more h = h

-- an end has its cause in the longer run too
pub Caused_later : (failure : Completion) (l l' s s' : Type 0) (r r' : ErrorKind → Type 0)
    (before last : Option LinkFault) (m : ℕ) (c : Completion) (f : Option LinkFault) →
    (l → l') → (s → s') → ((x : ErrorKind) → r x → r' x) →
    Caused failure l before last s r m c f → Caused failure l' before last s' r' m c f
Caused_later failure l l' s s' r r' before last m c f rose rose' refuses (inl (is, h, e, met)) = inl (is, rose h, e, met)
Caused_later failure l l' s s' r r' before last m c f rose rose' refuses (inr (held, h)) =
    inr (
      held,
      IfRefused_later (RefusedBy s r m) (RefusedBy s' r' m) c (λ k. RefusedBy_later s s' r r' m k rose' refuses) h,
    )

-- a refusal of the first call is the result of the longer run too
pub RefusedFirst_later : (o : Option ErrorKind) (s s' : Type 0) (m m' : ℕ) (r : Completion) → (s → s') → m' ≡ m →
    IfSome o (λ k. RefusedFirst s k m r) → IfSome o (λ k. RefusedFirst s' k m' r)
RefusedFirst_later None s s' m m' r rose same h = tt
RefusedFirst_later (Some k) s s' m m' r rose same (zero, inl h) = (same ∙ zero, inl h)
RefusedFirst_later (Some k) s s' m m' r rose same (zero, inr (inl h)) = (same ∙ zero, inr (inl h))
RefusedFirst_later (Some k) s s' m m' r rose same (zero, inr (inr (h, e))) = (same ∙ zero, inr (inr (rose h, e)))

-- a refusal of the first call is the result where more may have failed
pub RefusedFirst_more : (s s' : Type 0) (k : ErrorKind) (m : ℕ) (r : Completion) → (s → s') → RefusedFirst s k m r → RefusedFirst s' k m r
RefusedFirst_more s s' k m r rose (zero, inl h) = (zero, inl h)
RefusedFirst_more s s' k m r rose (zero, inr (inl h)) = (zero, inr (inl h))
RefusedFirst_more s s' k m r rose (zero, inr (inr (h, e))) = (zero, inr (inr (rose h, e)))

-- a refusal is the result where more may have failed
pub EndsRefused_later : (s s' : Type 0) (k : ErrorKind) (r : Completion) → (s → s') → EndsRefused s k r → EndsRefused s' k r
EndsRefused_later s s' k r rose (inl h) = inl h
EndsRefused_later s s' k r rose (inr (inl h)) = inr (inl h)
EndsRefused_later s s' k r rose (inr (inr (h, e))) = inr (inr (rose h, e))
