-- Maps by names, with a value put at a name or taken from it.
use Rattle.std.proofs.Common.{◌≡◌, ◌≢◌, ℕ, Bool, true, false, cond, List, Option, Some, None, refl, sym, ap, ◌∙◌}
use Rattle.std.specs.Prelude.{IsSome}
use Rattle.std.specs.FinMap as map
use Rattle.std.specs.Ordering.{nat_cmp, eq_by_cmp}
use Rattle.std.specs.Cmp.Lexicographic.{slice_cmp, nat_list_cmp_total}
use Rattle.ftp_base.proofs.Files.{paths_apart}
use Rattle.ftp_audit.specs.Names.{ByName}
use Rattle.ftp_audit.proofs.ByName.{tied, itself}

last_wins : {A : Type 0} (b : Bool) (x y z : A) → cond b x (cond b y z) ≡ cond b x z
last_wins true x y z = refl
last_wins false x y z = refl

not_tied : {A : Type 0} (b : Bool) (x y : A) → (b ≡ true → ⊥) → cond b x y ≡ y
not_tied true x y apart = absurd (apart refl)
not_tied false x y apart = refl

-- nothing is not something
pub never_some : {X : Type 0} (o : Option X) → o ≡ None → IsSome o → ⊥
never_some None is there = cc
never_some (Some x) is there = cc

module _ {X : Type 0} (m : ByName X) (name : List ℕ) where
  -- what was put at a name stands there
  pub get-insert-same : (x : X) → map.get (map.insert m name x) name ≡ Some x
  get-insert-same x =
      map.get-insert nat_list_cmp_total m name x name ∙ ap (λ (b : Bool). cond b (Some x) (map.get m name)) (itself name)

  -- what stands at other names stays
  pub get-insert-other : (x : X) (q : List ℕ) → q ≢ name → map.get (map.insert m name x) q ≡ map.get m q
  get-insert-other x q other =
      map.get-insert nat_list_cmp_total m name x q ∙ not_tied (eq_by_cmp (slice_cmp nat_cmp) q name) _ _ (λ e. other (tied q name e))

  -- what was put last stands
  pub insert-insert : (x y : X) → map.insert (map.insert m name x) name y ≡ map.insert m name y
  insert-insert x y =
      map.same_map nat_list_cmp_total paths_apart _ _ (λ q.
      map.get-insert nat_list_cmp_total (map.insert m name x) name y q
      ∙ ap (cond (eq_by_cmp (slice_cmp nat_cmp) q name) (Some y)) (map.get-insert nat_list_cmp_total m name x q)
      ∙ last_wins (eq_by_cmp (slice_cmp nat_cmp) q name) (Some y) (Some x) (map.get m q)
      ∙ sym (map.get-insert nat_list_cmp_total m name y q))

  -- what was put at a new name and taken out again changed nothing
  pub remove-insert : (x : X) → map.get m name ≡ None → map.remove (map.insert m name x) name ≡ m
  remove-insert x none =
      map.same_map nat_list_cmp_total paths_apart _ _ (λ q.
      map.get-remove nat_list_cmp_total (map.insert m name x) name q
      ∙ ap (cond (eq_by_cmp (slice_cmp nat_cmp) q name) None) (map.get-insert nat_list_cmp_total m name x q)
      ∙ elim (eq_by_cmp (slice_cmp nat_cmp) q name) as (λ b. eq_by_cmp (slice_cmp nat_cmp) q name ≡ b → cond b None (cond b (Some x) (map.get m q)) ≡ map.get m q) [
        | true ↦ λ same. rw (tied q name same) (sym none)
        | false ↦ λ apart. refl
      ] refl)

  -- nothing stands where it was taken out
  pub get-remove-same : map.get (map.remove m name) name ≡ None
  get-remove-same =
      map.get-remove nat_list_cmp_total m name name ∙ ap (λ (b : Bool). cond b None (map.get m name)) (itself name)

  -- what was taken out and put back changed nothing
  pub insert-remove : (x : X) → map.get m name ≡ Some x → map.insert (map.remove m name) name x ≡ m
  insert-remove x there =
      map.same_map nat_list_cmp_total paths_apart _ _ (λ q.
      map.get-insert nat_list_cmp_total (map.remove m name) name x q
      ∙ ap (cond (eq_by_cmp (slice_cmp nat_cmp) q name) (Some x)) (map.get-remove nat_list_cmp_total m name q)
      ∙ elim (eq_by_cmp (slice_cmp nat_cmp) q name) as (λ b. eq_by_cmp (slice_cmp nat_cmp) q name ≡ b → cond b (Some x) (cond b None (map.get m q)) ≡ map.get m q) [
        | true ↦ λ same. rw (tied q name same) (sym there)
        | false ↦ λ apart. refl
      ] refl)

  -- where nothing stood nothing changes
  pub remove_none : map.get m name ≡ None → map.remove m name ≡ m
  remove_none none =
      map.same_map nat_list_cmp_total paths_apart _ _ (λ q.
      map.get-remove nat_list_cmp_total m name q
      ∙ elim (eq_by_cmp (slice_cmp nat_cmp) q name) as (λ b. eq_by_cmp (slice_cmp nat_cmp) q name ≡ b → cond b None (map.get m q) ≡ map.get m q) [
        | true ↦ λ same. rw (tied q name same) (sym none)
        | false ↦ λ apart. refl
      ] refl)
