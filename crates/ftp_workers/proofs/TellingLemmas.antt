-- What is true of a turn is true of what is told of it.
use Rattle.std.proofs.Common.{◌≡◌, sym, subst, refl}
use Rattle.std.specs.Prelude.{Result, Ok, Err, IfOk, OnOk, IsErrOf}
use Rattle.ftp_hub.specs.declared.prepare.PrepareError.{PrepareError as AppendError}
use Rattle.ftp_shared.specs.declared.desk.Told.{Told}
use Rattle.ftp_shared.specs.declared.receipt.Turn.{Turn}
use Rattle.ftp_workers.specs.Telling.{telling_of, IsTelling}

pub if_ok-told : (turn : Result Turn AppendError) (told : Result Told AppendError) (P : Turn → Type 0) (Q : Told → Type 0) →
    IsTelling turn told → ((t : Turn) → P t → Q (telling_of t)) → IfOk turn P → IfOk told Q
if_ok-told (Ok t) told P Q is f h = subst (λ (x : Result Told AppendError). IfOk x Q) (sym is) (f t h)
if_ok-told (Err e) told P Q is f h = subst (λ (x : Result Told AppendError). IfOk x Q) (sym is) tt

pub err_of-told : (turn : Result Turn AppendError) (told : Result Told AppendError) (e : AppendError) →
    IsTelling turn told → IsErrOf told e → IsErrOf turn e
err_of-told (Ok t) told e is same = absurd (cc (is, same))
err_of-told (Err x) told e is same = subst (λ (y : AppendError). IsErrOf {T = Turn} (Err x) y) (err-same x e (sym is) same) refl where
  err-same : (x e : AppendError) → Err x ≡ told → told ≡ Err e → x ≡ e
  err-same x e a b = cc (a, b)

-- what an assumption gives of a turn is given under it
pub on_ok-given : (turn : Result Turn AppendError) (A P : Type 0) → (A → OnOk turn P) → OnOk turn (A → P)
on_ok-given (Ok t) A P h = h
on_ok-given (Err e) A P h = tt
