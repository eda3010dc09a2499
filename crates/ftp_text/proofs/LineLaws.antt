-- What a function that reads lines returns, where each line is read as what it spells.
use Rattle.std.proofs.Common.{◌≡◌, ℕ, List, Option, Some, sym, ap, subst, ◌∙◌}
use Rattle.std.specs.Prelude.{Result, Ok, Err, IfOk, IsErrOf}
use Rattle.std.proofs.lemmas.Option.{none-some}
use Rattle.ftp_text.specs.declared.fault.LineFault.{LineFault}
use Rattle.ftp_text.specs.declared.fault.LineFault.TheVariants as fault
use Rattle.ftp_text.specs.Reading.{Gives}
use Rattle.ftp_text.proofs.Exact.{some_is}

-- what is read of a line has this line, and what has a line is read of it
pub record ReadsLines {V : Type 0} (HasLine : List ℕ → V → Type 0) (read : List ℕ → Option V) : Type 0 where
  pub takes : (line : List ℕ) (x : V) → read line ≡ Some x → HasLine line x
  pub again : (line : List ℕ) (x : V) → HasLine line x → read line ≡ Some x

is_found : {V : Type 0} {HasLine : List ℕ → V → Type 0} {read : List ℕ → Option V} → ReadsLines HasLine read →
    (line : List ℕ) (r : Result V LineFault) → Gives (λ x. x) r (read line) → IfOk r (λ x. HasLine line x)
is_found reads line (Ok x) given = reads.takes line x given
is_found reads line (Err f) given = tt

is_bad : {V : Type 0} {HasLine : List ℕ → V → Type 0} {read : List ℕ → Option V} → ReadsLines HasLine read →
    (line : List ℕ) (r : Result V LineFault) → Gives (λ x. x) r (read line) → IsErrOf r fault.Bad → (x : V) → HasLine line x → ⊥
is_bad reads line (Ok y) given h x has = cc
is_bad reads line (Err fault.Memory) given h x has = cc
is_bad reads line (Err fault.Bad) given h x has = none-some x (sym given ∙ reads.again line x has)

is_only : {V : Type 0} {HasLine : List ℕ → V → Type 0} {read : List ℕ → Option V} → ReadsLines HasLine read →
    (line : List ℕ) (r : Result V LineFault) → Gives (λ x. x) r (read line) → (x : V) → HasLine line x → Gives (λ x. x) r (Some x)
is_only reads line r given x has = subst (λ f. Gives (λ y. y) r f) (reads.again line x has) given

-- what is returned of a line has this line, and what has the line is returned
pub record Returns {V : Type 0} (HasLine : List ℕ → V → Type 0) (line : List ℕ) (r : Result V LineFault) : Type 0 where
  pub found : IfOk r (λ x. HasLine line x)
  pub bad : IsErrOf r fault.Bad → (x : V) → HasLine line x → ⊥
  pub only : (x : V) → HasLine line x → Gives (λ y. y) r (Some x)

pub returned : {V : Type 0} {HasLine : List ℕ → V → Type 0} {read : List ℕ → Option V} → ReadsLines HasLine read →
    (line : List ℕ) (r : Result V LineFault) → Gives (λ x. x) r (read line) → Returns HasLine line r
returned reads line r given = record { found = is_found reads line r given; bad = is_bad reads line r given; only = is_only reads line r given }

-- no line has two values
pub is_one : {V : Type 0} {HasLine : List ℕ → V → Type 0} {read : List ℕ → Option V} → ReadsLines HasLine read →
    (line : List ℕ) (x y : V) → HasLine line x → HasLine line y → x ≡ y
is_one reads line x y p q = some_is x y (sym (reads.again line x p) ∙ reads.again line y q)

-- the same of values that are spelled
pub spelled_lines : {V : Type 0} {spell : V → List ℕ} {Fits : V → Type 0} {read : List ℕ → Option V} →
    ((line : List ℕ) (x : V) → read line ≡ Some x → (spell x ≡ line) × Fits x) →
    ((x : V) → Fits x → read (spell x) ≡ Some x) →
    ReadsLines (λ line x. (spell x ≡ line) × Fits x) read
spelled_lines {V} {spell} {Fits} {read} takes again = record {
  takes = takes;
  again = λ line x has. ap read (sym has.0) ∙ again x has.1;
}
