-- What is written in two parts.
use Rattle.std.proofs.Common.{◌≡◌, ◌∙◌, ap, ℕ, List, ◌++◌, append_assoc}
use Rattle.std.specs.Prelude.{Result, OnOk}
use Rattle.std.proofs.lemmas.Result.{on_ok_weaker}

-- behind a part that was written the next one is
pub put-more : (out first next : List ℕ) {mid new : List ℕ} → mid ≡ out ++ first → new ≡ mid ++ next → new ≡ out ++ (first ++ next)
put-more out first next put more = more ∙ ap (λ (text : List ℕ). text ++ next) put ∙ append_assoc out first next

-- so it is where that may fail
pub put-next : {T E : Type 0} (r : Result T E) (out first next new : List ℕ) {mid : List ℕ} → mid ≡ out ++ first → OnOk r (new ≡ mid ++ next) → OnOk r (new ≡ out ++ (first ++ next))
put-next r out first next new put on = on_ok_weaker r (λ e. put-more out first next put e) on
