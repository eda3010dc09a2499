-- What follows from what is said of a result.
use Rattle.std.proofs.Common.{◌≡◌, ◌≢◌, ℕ, ◌-◌, ◌^◌, ◌≤◌, ◌⊎◌, Bool, true, false, Option, Some, None, refl, arith, inl, inr}
use Rattle.std.specs.Prelude.{IfSome, IfNone, Result, Ok, Err, IfOk}
use Rattle.std.proofs.lemmas.Bool.{cases_lt}
use Rattle.ftp_base.specs.Outside.{HasRisen}

pub if_none-then : {T P Q : Type 0} (o : Option T) → (P → Q) → IfNone o P → IfNone o Q
if_none-then None f p = f p
if_none-then (Some x) f p = tt

pub if_some-then : {T : Type 0} {P Q : T → Type 0} (o : Option T) → ((x : T) → P x → Q x) → IfSome o P → IfSome o Q
if_some-then None f p = tt
if_some-then (Some x) f p = f x p

pub if_ok-then : {T E : Type 0} {P Q : T → Type 0} (r : Result T E) → ((x : T) → P x → Q x) → IfOk r P → IfOk r Q
if_ok-then (Ok x) f p = f x p
if_ok-then (Err e) f p = tt

-- a control that waited cannot be read at any time
pub waits_so : {T : Type 0} (b : Bool) (r x : T) → r ≡ x → (b ≡ true → r ≢ x) → b ≡ false
waits_so true r x is h = absurd (h refl is)
waits_so false r x is h = refl

-- a count rose in the first of two calls, or in the second
pub risen-either : {P : Type 0} (a b c d : ℕ) → (P → HasRisen b c) → P ⊎ HasRisen c d → a ≤ b → b ≤ c → c ≤ d → HasRisen a d
risen-either a b c d f (inl p) ab bc cd = λ lt.
    elim (cases_lt b (2 ^ 64 - 1)) [
      | inl less ↦ omega (arith, f p less)
      | inr ge ↦ omega arith
    ]
risen-either a b c d f (inr h) ab bc cd = λ lt.
    elim (cases_lt c (2 ^ 64 - 1)) [
      | inl less ↦ omega (arith, h less)
      | inr ge ↦ omega arith
    ]

-- the first of two calls said so, or the second
pub said-either : {P Q : Type 0} → (P → Q) → P ⊎ Q → Q
said-either f (inl p) = f p
said-either f (inr q) = q
