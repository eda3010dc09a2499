-- Where a derived equality calls two values equal, they are one.
--   Exact E      E does so
--   by_exact     the equality of an enum, from those of its variants' fields
--   exact0 ..    the equality of so many fields
--   exacts       these and what stands below, as one set for the search
use Rattle.std.proofs.Common.{◌≡◌, refl, sym, ap, Bool, true, false, ◌&&◌, List, [], ◌∷◌, Option, Some, None, Result, Ok, Err, arith}
use Rattle.std.proofs.lemmas.Bool.Decides.{nat_tests}
use Rattle.std.specs.Cmp.Lexicographic.{pointwise}
use Rattle.std.specs.Option.{option_eq}
use Rattle.std.specs.Result.{result_eq}
use Rattle.std.specs.contracts.prelude.BoolPartialEq.TheImpl as truth
use mathlib.Core.Bool.{true≢false}
use mathlib.Core.Logic.{inl, inr}
use lib.Dec.{eqb}
use denote.Struct.Field.{Field}
use denote.Enum.Bare.{Bare, sameb, same_true}
use denote.Enum.Compared.{Each, by}
use denote.Enum.Declared.{Choice, Record, declared, values_one}

-- values that it calls equal are one
pub record Exact {K : Type 0} (E : K → K → Bool) : Type 0 where
  pub same : (x y : K) → E x y ≡ true → x ≡ y

-- the equality of each variant's fields is exact
abbrev pub Exacts : (Fss : List (List Field)) → Each Bool Fss → Type 0
Exacts [] es = Unit {0}
Exacts (Fs ∷ Fss) es = Exact es.0 × Exacts Fss es.1

-- those of a variant, and those of the others
infixr 5 ◌⨾◌
abbrev pub ◌⨾◌ : {A B : Type 0} → A → B → A × B
one ⨾ others = (one, others)

-- so is that of the choices among them
choices_exact : (Fss : List (List Field)) (es : Each Bool Fss) → Exacts Fss es → (c d : Choice Fss) → by false false Fss es c d ≡ true → c ≡ d
choices_exact [] es all c d h = absurd c
choices_exact (Fs ∷ Fss) es all (inl x) (inl y) h = ap inl (all.0.same x y h)
choices_exact (Fs ∷ Fss) es all (inl x) (inr y) h = absurd (true≢false (sym h))
choices_exact (Fs ∷ Fss) es all (inr x) (inl y) h = absurd (true≢false (sym h))
choices_exact (Fs ∷ Fss) es all (inr x) (inr y) h = ap inr (choices_exact Fss es.1 all.1 x y h)

-- and that of an enum
pub by_exact : (N : Record) (es : Each Bool N.parts) → Exacts N.parts es → Exact (λ x y. by false false N.parts es (N.as_values x) (N.as_values y))
by_exact N es all = record { same = λ x y h. values_one N x y (choices_exact N.parts es all (N.as_values x) (N.as_values y) h) }

-- an enum without fields
pub exact-bare : (N : Record) → Bare N.parts → Exact (sameb (declared N))
exact-bare N none = record { same = λ x y h. same_true (declared N) none x y h }

-- both are true
pub both : (a b : Bool) → (a && b) ≡ true → (a ≡ true) × (b ≡ true)
both true true h = (refl, refl)
both true false h = absurd (true≢false (sym h))
both false b h = absurd (true≢false (sym h))

-- no field
pub exact0 : Exact {K = Unit {0}} (λ x y. true)
exact0 = record { same = λ x y h. refl }

-- one field, and so on
module _ {A : Type 0} {E : A → A → Bool} where
  pub exact1 : Exact E → Exact {K = A × Unit {0}} (λ x y. E x.0 y.0)
  exact1 e = record { same = λ x y h i. (e.same x.0 y.0 h i, tt) }

  module _ {B : Type 0} {F : B → B → Bool} where
    pub exact2 : Exact E → Exact F → Exact {K = A × (B × Unit {0})} (λ x y. E x.0 y.0 && F x.1.0 y.1.0)
    exact2 e f = record {
      same = λ x y h.
          let p = both (E x.0 y.0) (F x.1.0 y.1.0) h in
          λ i. (e.same x.0 y.0 p.0 i, (f.same x.1.0 y.1.0 p.1 i, tt));
    }

    module _ {C : Type 0} {G : C → C → Bool} where
      pub exact3 : Exact E → Exact F → Exact G → Exact {K = A × (B × (C × Unit {0}))} (λ x y. E x.0 y.0 && (F x.1.0 y.1.0 && G x.1.1.0 y.1.1.0))
      exact3 e f g = record {
        same = λ x y h.
            let p = both (E x.0 y.0) (F x.1.0 y.1.0 && G x.1.1.0 y.1.1.0) h in
            let q = both (F x.1.0 y.1.0) (G x.1.1.0 y.1.1.0) p.1 in
            λ i. (e.same x.0 y.0 p.0 i, (f.same x.1.0 y.1.0 q.0 i, (g.same x.1.1.0 y.1.1.0 q.1 i, tt)));
      }

      module _ {D : Type 0} {H : D → D → Bool} where
        pub exact4 : Exact E → Exact F → Exact G → Exact H → Exact {K = A × (B × (C × (D × Unit {0})))} (λ x y. E x.0 y.0 && (F x.1.0 y.1.0 && (G x.1.1.0 y.1.1.0 && H x.1.1.1.0 y.1.1.1.0)))
        exact4 e f g h = record {
          same = λ x y k.
              let p = both (E x.0 y.0) (F x.1.0 y.1.0 && (G x.1.1.0 y.1.1.0 && H x.1.1.1.0 y.1.1.1.0)) k in
              let q = both (F x.1.0 y.1.0) (G x.1.1.0 y.1.1.0 && H x.1.1.1.0 y.1.1.1.0) p.1 in
              let r = both (G x.1.1.0 y.1.1.0) (H x.1.1.1.0 y.1.1.1.0) q.1 in
              λ i. (e.same x.0 y.0 p.0 i, (f.same x.1.0 y.1.0 q.0 i, (g.same x.1.1.0 y.1.1.0 r.0 i, (h.same x.1.1.1.0 y.1.1.1.0 r.1 i, tt))));
        }

-- numbers
pub exact-number : Exact eqb
exact-number = record { same = λ x y h. grind (arith, nat_tests) }

-- truth values
pub exact-truth : Exact truth.ghosts.eq
exact-truth = record { same = go }
  where
    go : (x y : Bool) → truth.ghosts.eq x y ≡ true → x ≡ y
    go true true h = refl
    go true false h = absurd (true≢false (sym h))
    go false true h = absurd (true≢false (sym h))
    go false false h = refl

-- lists
pub exact-list : {A : Type 0} {E : A → A → Bool} → Exact E → Exact (pointwise E)
exact-list {A} {E} e = record { same = go }
  where
    go : (xs ys : List A) → pointwise E xs ys ≡ true → xs ≡ ys
    go [] [] h = refl
    go [] (y ∷ ys) h = absurd (true≢false (sym h))
    go (x ∷ xs) [] h = absurd (true≢false (sym h))
    go (x ∷ xs) (y ∷ ys) h = let p = both (E x y) (pointwise E xs ys) h in λ i. e.same x y p.0 i ∷ go xs ys p.1 i

-- a value or none
pub exact-option : {A : Type 0} {E : A → A → Bool} → Exact E → Exact (option_eq E)
exact-option {A} {E} e = record { same = go }
  where
    go : (x y : Option A) → option_eq E x y ≡ true → x ≡ y
    go None None h = refl
    go None (Some y) h = absurd (true≢false (sym h))
    go (Some x) None h = absurd (true≢false (sym h))
    go (Some x) (Some y) h = ap Some (e.same x y h)

-- a value or an error
pub exact-result : {A B : Type 0} {E : A → A → Bool} {F : B → B → Bool} → Exact E → Exact F → Exact (result_eq E F)
exact-result {A} {B} {E} {F} e f = record { same = go }
  where
    go : (x y : Result A B) → result_eq E F x y ≡ true → x ≡ y
    go (Ok x) (Ok y) h = ap Ok (e.same x y h)
    go (Ok x) (Err y) h = absurd (true≢false (sym h))
    go (Err x) (Ok y) h = absurd (true≢false (sym h))
    go (Err x) (Err y) h = ap Err (f.same x y h)

pub ruleset exacts = (exact0, exact1, exact2, exact3, exact4, exact-number, exact-truth, exact-list, exact-option, exact-result)
