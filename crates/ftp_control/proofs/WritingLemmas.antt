-- Writing piece by piece, and one text behind another.
use Rattle.std.proofs.Common.{◌≡◌, ℕ, ◌+◌, List, [], ◌++◌, length, take, Option, Some, None, refl, sym, ap, subst, ◌∙◌, append_assoc, arith}
use Rattle.std.specs.Prelude.{IfSome, Result, Ok, Err, OnOk, OnErr}
use Rattle.std.proofs.lemmas.List.{append-nil, length-append, take-append-le, take_at}
use Rattle.std.proofs.Math.Seq.{take-append-add}
use Rattle.ftp_base.specs.Outside.{Writes}
use Rattle.ftp_control.specs.Writing.{WritesFront}

-- all of the bytes but the rest were written at the end
pub record WritesAllBut (rest written : List ℕ) (later : Option (List ℕ)) (bytes : List ℕ) : Type 0 where
  pub done : List ℕ
  pub whole : done ++ rest ≡ bytes
  pub appended : later ≡ Some (written ++ done)

abbrev pub SoFar : Option (List ℕ) → Option (List ℕ) → List ℕ → List ℕ → Type 0
SoFar old now bytes rest = IfSome old (λ w. WritesAllBut rest w now bytes)

-- where a call fails, what was written stays
pub so_far_front : (old now later : Option (List ℕ)) (bytes rest : List ℕ) →
    SoFar old now bytes rest →
    later ≡ now →
    WritesFront old later bytes
so_far_front None now later bytes rest h e = tt
so_far_front (Some w) now later bytes rest h e =
    let front : take (length h.done) bytes ≡ h.done = ap (take (length h.done)) (sym h.whole) ∙ take_at h.done rest (length h.done) refl in (
      length h.done,
      omega (arith, ap length h.whole, length-append h.done rest),
      e ∙ h.appended ∙ ap (λ (x : List ℕ). Some (w ++ x)) (sym front),
    )

-- ---- one text behind another

-- nothing was written
pub writes-nil : (old : Option (List ℕ)) → Writes old old []
writes-nil None = tt
writes-nil (Some w) = ap Some (sym (append-nil w))

-- one text and then another
pub writes-more : (old now new : Option (List ℕ)) (a b : List ℕ) → Writes old now a → Writes now new b → Writes old new (a ++ b)
writes-more None now new a b first second = tt
writes-more (Some w) now new a b first second =
    let given = subst (λ (o : Option (List ℕ)). IfSome o (λ v. new ≡ Some (v ++ b))) first second in
    given ∙ ap Some (append_assoc w a b)

-- one text and then a part of another
pub front-more : (old now new : Option (List ℕ)) (a b : List ℕ) → Writes old now a → WritesFront now new b → WritesFront old new (a ++ b)
front-more None now new a b first second = tt
front-more (Some w) now new a b first second =
    let given = subst (λ (o : Option (List ℕ)). WritesFront o new b) first second in (
      length a + given.0,
      omega (arith, given.1, length-append a b),
      given.2 ∙ ap Some (append_assoc w a (take given.0 b) ∙ ap (λ (x : List ℕ). w ++ x) (sym (take-append-add a b given.0))),
    )

-- a part of a text is a part of a longer one
pub front-longer : (old new : Option (List ℕ)) (a b : List ℕ) → WritesFront old new a → WritesFront old new (a ++ b)
front-longer None new a b h = tt
front-longer (Some w) new a b h = (
  h.0,
  omega (arith, h.1, length-append a b),
  h.2 ∙ ap (λ (x : List ℕ). Some (w ++ x)) (sym (take-append-le h.0 a b h.1)),
)

-- nothing of a text was written
pub front-none : (s : Option (List ℕ)) (a : List ℕ) → WritesFront s s a
front-none None a = tt
front-none (Some w) a = (0, omega arith, ap Some (sym (append-nil w)))

-- a whole text is a part of a longer one
pub front-whole : (old new : Option (List ℕ)) (a b : List ℕ) → Writes old new a → WritesFront old new (a ++ b)
front-whole None new a b h = tt
front-whole (Some w) new a b h = (
  length a,
  omega (arith, length-append a b),
  h ∙ ap (λ (x : List ℕ). Some (w ++ x)) (sym (take_at a b (length a) refl)),
)

-- a whole text is a part of itself
pub front-all : (old new : Option (List ℕ)) (a : List ℕ) → Writes old new a → WritesFront old new a
front-all old new a h = subst (WritesFront old new) (append-nil a) (front-whole old new a [] h)

-- ---- what follows from what is said of a result

-- what holds holds of an error
pub on_err : {T E P : Type 0} (r : Result T E) → P → OnErr r P
on_err (Ok x) p = tt
on_err (Err e) p = p

pub on_ok-then : {T E P Q : Type 0} (r : Result T E) → OnOk r P → (P → Q) → OnOk r Q
on_ok-then (Ok x) p f = f p
on_ok-then (Err e) p f = tt

pub on_err-then : {T E P Q : Type 0} (r : Result T E) → OnErr r P → (P → Q) → OnErr r Q
on_err-then (Ok x) p f = tt
on_err-then (Err e) p f = f p
