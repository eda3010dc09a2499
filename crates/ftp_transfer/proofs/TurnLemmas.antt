-- Turns that ended a transfer, or did not.
use Rattle.std.proofs.Common.{◌≡◌, inl, inr, ℕ, List, drop, Option, Some, None, refl}
use Rattle.std.specs.Prelude.{IsSome, IsNone, IfSome}
use Rattle.std.specs.Option.{option_map}
use Rattle.ftp_base.specs.declared.error_kind.ErrorKind.{ErrorKind}
use Rattle.ftp_base.specs.declared.fault.LinkFault.{LinkFault}
use Rattle.ftp_base.specs.Calls.{Calls, AllWell}
use Rattle.ftp_base.specs.Storage.{Meaning}
use Rattle.ftp_transfer.specs.declared.job.Completion.{Completion}
use Rattle.ftp_transfer.specs.declared.turn.End.{End}
use Rattle.ftp_transfer.specs.Run.{Caused, RefusesAppend, RefusedLast, StorageWent}
use Rattle.ftp_transfer.specs.Turn.{result_of, fault_of}
use Rattle.ftp_transfer.proofs.RunLemmas.{Caused_later}

-- a turn has its cause where its end has
pub Caused-turn : (failure : Completion) (link rose : Type 0) (refuses refuses' : ErrorKind → Type 0) (before last : Option LinkFault) (m : ℕ) (end : Option End) →
    IfSome end (λ e. Caused failure link before last rose refuses m e.result e.fault) →
    (IsNone end → last ≡ before) → (IsSome end → (k : ErrorKind) → refuses k → refuses' k) →
    Caused failure link before last rose refuses' m (result_of end) (fault_of end)
Caused-turn failure link rose refuses refuses' before last m None caused same turn = inr ((refl, same refl), tt)
Caused-turn failure link rose refuses refuses' before last m (Some e) caused same turn =
    Caused_later _ _ _ _ _ _ _ _ _ _ e.result e.fault (λ h. h) (λ h. h) (turn refl) caused

-- what a turn did not store is refused where its end says so
pub RefusedLast-turn : (rose : Type 0) (meaning : Meaning) (user path : List ℕ) (rest later : Option (List ℕ)) (m : ℕ) (end : Option End) →
    (IsSome end → m ≡ 0) → IfSome end (λ e. RefusedLast rose meaning user path rest later e.result) →
    RefusedLast rose meaning user path (option_map (drop m) rest) later (result_of end)
RefusedLast-turn rose meaning user path rest later m None none last piece left k some is stays refused = inr (inl refl)
RefusedLast-turn rose meaning user path None later m (Some e) none last piece left k some is stays refused = cc
RefusedLast-turn rose meaning user path (Some l) later m (Some e) none last piece left k some is stays refused =
    last piece left k some (rw (none refl) at is) stays refused

-- where no byte was stored, what is refused is refused of all that was left
pub RefusesAppend-turn : (meaning : Meaning) (user path : List ℕ) (rest later : Option (List ℕ)) (m : ℕ) (k : ErrorKind) → m ≡ 0 →
    RefusesAppend meaning user path rest later k → RefusesAppend meaning user path (option_map (drop m) rest) later k
RefusesAppend-turn meaning user path None later m k none refused = refused
RefusesAppend-turn meaning user path (Some l) later m k none refused = rw none refused

-- how the calls of a storage went in a turn
pub StorageWent-turn : (old new : Option (Calls ℕ)) (end : Option End) → (IsNone end → AllWell (λ (call : ℕ). call) old new) →
    IfSome end (λ e. StorageWent old new e.result) → StorageWent old new (result_of end)
StorageWent-turn old new None well held = inl (well refl)
StorageWent-turn old new (Some e) well held = held

-- how the calls of a link went in a turn
pub LinkWell-turn : (P : Type 0) (end : Option End) → (IsNone end → P) → IfSome end (λ e. e.fault ≡ None → P) → fault_of end ≡ None → P
LinkWell-turn P None well held none = well refl
LinkWell-turn P (Some e) well held none = held none
