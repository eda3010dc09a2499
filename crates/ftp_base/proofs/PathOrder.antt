-- The order of paths: what lies under a directory stands together.
use Rattle.std.proofs.Common.{◌≡◌, ℕ, suc, ◌<◌, false, List, [], ◌∷◌, ◌++◌, length, drop, ap, sym, refl, ◌∙◌, arith, ap₂}
use Rattle.std.specs.declared.cmp.Ordering.{Ordering}
use Rattle.std.specs.declared.cmp.Ordering.TheVariants.{Less, Equal, Greater}
use Rattle.std.specs.Ordering.{nat_cmp, is_gt, ordering_then, ordering_reverse}
use Rattle.std.specs.Cmp.{nat_cmp_total, tied_itself}
use Rattle.std.specs.Cmp.Lexicographic.{slice_cmp}
use Rattle.std.specs.FinMap as map
use Rattle.std.proofs.lemmas.Cmp.{ranked}

-- paths in byte order
abbrev pub path_cmp : List ℕ → List ℕ → Ordering
path_cmp = slice_cmp nat_cmp

-- the first path comes no later
abbrev pub UpTo : List ℕ → List ℕ → Type 0
UpTo a b = is_gt (path_cmp a b) ≡ false

-- a path comes no later than what begins with it
pub up_to-append : (b r : List ℕ) → UpTo b (b ++ r)
up_to-append [] [] = refl
up_to-append [] (y ∷ r) = refl
up_to-append (x ∷ b) r = rw (tied_itself nat_cmp_total x) (up_to-append b r)

same_number : (x y : ℕ) → nat_cmp x y ≡ Equal → x ≡ y
same_number x y e = map.nat_cmp-IsAntisymmetric x y e

turn : (x y : ℕ) (r : Ordering) → nat_cmp x y ≡ r → nat_cmp y x ≡ ordering_reverse r
turn x y r e = nat_cmp_total.antisymm y x ∙ ap ordering_reverse e

-- what comes between a path and one that begins with it begins with it
pub between : (b p r : List ℕ) → UpTo b p → UpTo p (b ++ r) → p ≡ b ++ drop (length b) p
between [] p r low high = refl
between (x ∷ b) [] r low high = cc
between (x ∷ b) (y ∷ p) r low high =
    elim (nat_cmp x y) as (λ o. nat_cmp x y ≡ o → is_gt (ordering_then o (path_cmp b p)) ≡ false → y ∷ p ≡ x ∷ b ++ drop (length b) p) [
      | Less ↦ λ e l.
          let no : is_gt (ordering_then Greater (path_cmp p (b ++ r))) ≡ false = rw (turn x y Less e) at high in
          cc
      | Equal ↦ λ e l.
          let h : is_gt (ordering_then Equal (path_cmp p (b ++ r))) ≡ false = rw (turn x y Equal e) at high in
          ap₂ (λ (n : ℕ) (t : List ℕ). n ∷ t) (sym (same_number x y e)) (between b p r l h)
      | Greater ↦ λ e l. cc
    ] refl low

-- what is under a path comes before the path with the byte behind `/`
pub under-less : (b r : List ℕ) → path_cmp (b ++ 47 ∷ r) (b ++ 48 ∷ []) ≡ Less
under-less [] r = refl
under-less (x ∷ b) r = rw (tied_itself nat_cmp_total x) (under-less b r)

only_slash : (y : ℕ) (r q : List ℕ) → is_gt (ordering_then (nat_cmp 47 y) (path_cmp r q)) ≡ false →
    ordering_then (nat_cmp y 48) (path_cmp q []) ≡ Less → y ≡ 47
only_slash y r q low high =
    elim (nat_cmp 47 y) as (λ o. nat_cmp 47 y ≡ o → is_gt (ordering_then o (path_cmp r q)) ≡ false → y ≡ 47) [
      | Less ↦ λ e l.
          let more : 47 < y = ranked 47 y Less (sym e) in
          elim (nat_cmp y 48) as (λ o. nat_cmp y 48 ≡ o → ordering_then o (path_cmp q []) ≡ Less → y ≡ 47) [
            | Less ↦ λ f h. let less : y < 48 = ranked y 48 Less (sym f) in absurd (omega arith)
            | Equal ↦ λ f h. absurd (none_before q h)
            | Greater ↦ λ f h. cc
          ] refl high
      | Equal ↦ λ e l. sym (same_number 47 y e)
      | Greater ↦ λ e l. cc
    ] refl low
  where
    none_before : (q : List ℕ) → path_cmp q [] ≡ Less → ⊥
    none_before [] e = cc
    none_before (x ∷ q) e = cc

-- what comes between something under a path and the path with the byte behind `/` is under it
pub under : (b r q : List ℕ) → UpTo (b ++ 47 ∷ r) q → path_cmp q (b ++ 48 ∷ []) ≡ Less → q ≡ b ++ 47 ∷ drop (suc (length b)) q
under [] r [] low high = cc
under [] r (y ∷ q) low high = ap (λ (n : ℕ). n ∷ q) (only_slash y r q low high)
under (x ∷ b) r [] low high = cc
under (x ∷ b) r (y ∷ q) low high =
    elim (nat_cmp x y) as (λ o. nat_cmp x y ≡ o → is_gt (ordering_then o (path_cmp (b ++ 47 ∷ r) q)) ≡ false → y ∷ q ≡ x ∷ b ++ 47 ∷ drop (suc (length b)) q) [
      | Less ↦ λ e l.
          let no : ordering_then Greater (path_cmp q (b ++ 48 ∷ [])) ≡ Less = rw (turn x y Less e) at high in
          cc
      | Equal ↦ λ e l.
          let h : ordering_then Equal (path_cmp q (b ++ 48 ∷ [])) ≡ Less = rw (turn x y Equal e) at high in
          ap₂ (λ (n : ℕ) (t : List ℕ). n ∷ t) (sym (same_number x y e)) (under b r q l h)
      | Greater ↦ λ e l. cc
    ] refl low

-- the path with a byte 0 is later
pub next-less : (p : List ℕ) → path_cmp p (p ++ 0 ∷ []) ≡ Less
next-less [] = refl
next-less (x ∷ p) = rw (tied_itself nat_cmp_total x) (next-less p)

-- and no path comes between
pub next-next : (p q : List ℕ) → path_cmp p q ≡ Less → path_cmp q (p ++ 0 ∷ []) ≡ Less → ⊥
next-next [] [] low high = cc
next-next [] (y ∷ q) low high =
    elim (nat_cmp y 0) as (λ o. nat_cmp y 0 ≡ o → ordering_then o (path_cmp q []) ≡ Less → ⊥) [
      | Less ↦ λ e h. let less : y < 0 = ranked y 0 Less (sym e) in absurd (omega arith)
      | Equal ↦ λ e h. elim q as (λ q. path_cmp q [] ≡ Less → ⊥) [ [] ↦ λ h. cc | z ∷ q ↦ λ h. cc ] h
      | Greater ↦ λ e h. cc
    ] refl high
next-next (x ∷ p) [] low high = cc
next-next (x ∷ p) (y ∷ q) low high =
    elim (nat_cmp x y) as (λ o. nat_cmp x y ≡ o → ordering_then o (path_cmp p q) ≡ Less → ⊥) [
      | Less ↦ λ e l.
          let no : ordering_then Greater (path_cmp q (p ++ 0 ∷ [])) ≡ Less = rw (turn x y Less e) at high in
          cc
      | Equal ↦ λ e l.
          let h : ordering_then Equal (path_cmp q (p ++ 0 ∷ [])) ≡ Less = rw (turn x y Equal e) at high in
          next-next p q l h
      | Greater ↦ λ e l. cc
    ] refl low
