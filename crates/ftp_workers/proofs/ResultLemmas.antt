-- What follows from what is said of a result.
use Rattle.std.specs.Prelude.{Result, Ok, Err, IfOk, IfSome, OnOk, OnErr}
use Rattle.std.specs.Result.{result_ok}

-- what is true is true at an error
pub on_err-all : {T E P : Type 0} (r : Result T E) → P → OnErr r P
on_err-all (Ok x) p = tt
on_err-all (Err e) p = p

-- and at a value
pub on_ok-all : {T E P : Type 0} (r : Result T E) → P → OnOk r P
on_ok-all (Ok x) p = p
on_ok-all (Err e) p = tt

-- what is true of a success is true of the value that is left of it
pub if_ok-some : {T E : Type 0} (P : T → Type 0) (r : Result T E) → IfOk r P → IfSome (result_ok r) P
if_ok-some P (Ok x) h = h
if_ok-some P (Err e) h = tt
