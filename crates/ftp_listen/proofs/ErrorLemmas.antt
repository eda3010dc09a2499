-- The same error in results of other values.
use Rattle.std.proofs.Common.{◌≡◌, ap}
use Rattle.std.specs.Prelude.{◌↔◌, Result, Err, IsErrOf}

elsewhere : {T U E : Type 0} (e x : E) → IsErrOf {T = T} (Err e) x → IsErrOf {T = U} (Err e) x
elsewhere e x is = let same : e ≡ x = cc is in ap Err same

-- an error is this one, where something holds, whatever value there is in its place
pub IsErrOf-elsewhere : {T U E P : Type 0} (e x : E) → (IsErrOf {T = T} (Err e) x ↔ P) → (IsErrOf {T = U} (Err e) x ↔ P)
IsErrOf-elsewhere e x when = (λ is. when.0 (elsewhere e x is), λ holds. elsewhere e x (when.1 holds))
