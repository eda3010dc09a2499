-- What holds of a value, where there is one.
use Rattle.std.proofs.Common.{Result, Ok, Err}
use Rattle.std.specs.Prelude.{IfOk}

-- by another fact of it
pub by_fact : {A E : Type 0} (r : Result A E) (P Q : A → Type 0) → IfOk r P → ((x : A) → P x → Q x) → IfOk r Q
by_fact (Ok x) P Q p step = step x p
by_fact (Err e) P Q p step = tt

-- by two facts of it
pub by_both : {A E : Type 0} (r : Result A E) (P Q R : A → Type 0) → IfOk r P → IfOk r Q → ((x : A) → P x → Q x → R x) → IfOk r R
by_both (Ok x) P Q R p q step = step x p q
by_both (Err e) P Q R p q step = tt
