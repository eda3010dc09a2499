-- What is made of what is read, where it can be made, is read exactly.
use Rattle.std.proofs.Common.{◌≡◌, ℕ, List, ◌++◌, Option, Some, refl, ap, subst, ◌∙◌}
use Rattle.ftp_text.specs.Reading.{◌>>=◌}
use Rattle.ftp_text.proofs.Exact.{IsExact, bind_ok, some_is}
use Rattle.ftp_text.specs.StateLineReading.{checked}

pub checked_exact : {A B : Type 0} {s : A → List ℕ} {F : A → Type 0} {W : List ℕ → Type 0} {r : List ℕ → Option (A × List ℕ)} → IsExact s F W r →
    (of : A → Option B) (back : B → A) (t : B → List ℕ) (G : B → Type 0) →
    ((x : A) (y : B) → F x → of x ≡ Some y → (s x ≡ t y) × G y) → ((y : B) → G y → F (back y) × (of (back y) ≡ Some y) × (t y ≡ s (back y))) →
    IsExact t G W (checked of r)
checked_exact {A} {B} {s} {F} {W} {r} a of back t G forth there = record {
  takes = λ bytes y e.
      let first = bind_ok (r bytes) (λ u. of u.0 >>= λ v. Some (v, u.1)) y e in
      let second = bind_ok (of first.0.0) (λ v. Some (v, first.0.1)) y first.2 in
      let ta = a.takes bytes first.0 first.1 in
      let f = forth first.0.0 second.0 ta.1 second.1 in
      let whole : B × List ℕ = (second.0, first.0.1) in
      subst (λ (z : B × List ℕ). (bytes ≡ t z.0 ++ z.1) × G z.0) (some_is whole y second.2)
      (ta.0 ∙ ap (λ (x : List ℕ). x ++ first.0.1) f.0, f.1);
  again = λ y rest fits follows.
      let b = there y fits in
      ap (λ (x : List ℕ). checked of r (x ++ rest)) b.2 ∙ rw (a.again (back y) rest b.0 follows, b.1) refl;
}
