-- What is looked up by a name among entries whose keys are vectors.
use Rattle.std.proofs.Common.{◌≡◌, ◌∙◌, ℕ, Bool, true, false, true≢false, cond, List, [], ◌∷◌, map, Vec, Global, Option, Some, None, refl, sym, ap}
use Rattle.std.specs.Map.{lookup}
use Rattle.std.specs.BTreeMap.{insert_entry, is_at}
use Rattle.std.specs.declared.cmp.Ordering.{Ordering}
use Rattle.std.specs.declared.cmp.Ordering.TheVariants.{Less, Equal, Greater}
use Rattle.std.specs.Ordering.{nat_cmp, is_eq}
use Rattle.std.specs.Cmp.Lexicographic.{slice_cmp}
use Rattle.std.specs.Str.{bytes_eq}
use Rattle.std.proofs.lemmas.Slice.Eq.{bytes_eq-Decides}
use Rattle.std.proofs.lemmas.Map.Text.{is_eq-slice_cmp}
use Rattle.ftp_base.proofs.Sorted.{shadows, swaps}

module _ {V : Type 0} where
  -- entries under their names
  abbrev pub named : List (Vec ℕ Global × V) → List (List ℕ × V)
  named entries = map (λ e. (e.0.items, e.1)) entries

  -- what is looked up by bytes is what is looked up by their order
  pub lookup-named : (entries : List (Vec ℕ Global × V)) (name : List ℕ) →
      lookup (bytes_eq name) (named entries) ≡ lookup (is_at (λ key. slice_cmp nat_cmp name key.items)) entries
  lookup-named [] name = refl
  lookup-named (e ∷ entries) name =
      ap (λ (b : Bool). cond b (Some e.1) (lookup (bytes_eq name) (named entries))) (sym (is_eq-slice_cmp name e.0.items))
      ∙ ap (cond (is_eq (slice_cmp nat_cmp name e.0.items)) (Some e.1)) (lookup-named entries name)

  -- under a name stands what is put there, and under each other name what stood there
  pub lookup-insert : (entries : List (Vec ℕ Global × V)) (key : Vec ℕ Global) (v : V) (name : List ℕ) →
      lookup (bytes_eq name) (named (insert_entry (λ x y. slice_cmp nat_cmp x.items y.items) entries key v)) ≡ cond (bytes_eq name key.items) (Some v) (lookup (bytes_eq name) (named entries))
  lookup-insert [] key v name = refl
  lookup-insert (e ∷ entries) key v name = go (slice_cmp nat_cmp key.items e.0.items) refl (lookup-insert entries key v name)
    where
      rest : Option V
      rest = lookup (bytes_eq name) (named entries)

      go :
          (r : Ordering) → slice_cmp nat_cmp key.items e.0.items ≡ r →
          lookup (bytes_eq name) (named (insert_entry (λ x y. slice_cmp nat_cmp x.items y.items) entries key v)) ≡ cond (bytes_eq name key.items) (Some v) rest →
          lookup (bytes_eq name) (named (insert_entry (λ x y. slice_cmp nat_cmp x.items y.items) (e ∷ entries) key v)) ≡ cond (bytes_eq name key.items) (Some v) (lookup (bytes_eq name) (named (e ∷ entries)))
      go Less x more = rw x refl
      go Equal x more =
          let equal : key.items ≡ e.0.items = (bytes_eq-Decides key.items e.0.items).0 (sym (is_eq-slice_cmp key.items e.0.items) ∙ ap is_eq x) in
          let same : bytes_eq name e.0.items ≡ bytes_eq name key.items = ap (bytes_eq name) (sym equal) in
          rw (x, same) (shadows (bytes_eq name key.items) (Some v) (Some e.1) rest)
      go Greater x more =
          let apart : bytes_eq key.items e.0.items ≡ false = sym (is_eq-slice_cmp key.items e.0.items) ∙ ap is_eq x in
          rw x
          (ap (cond (bytes_eq name e.0.items) (Some e.1)) more
          ∙ swaps (bytes_eq name e.0.items) (bytes_eq name key.items) (Some e.1) (Some v) rest
          (λ there here.
          let same : key.items ≡ e.0.items = sym ((bytes_eq-Decides name key.items).0 here) ∙ (bytes_eq-Decides name e.0.items).0 there in
          true≢false (sym ((bytes_eq-Decides key.items e.0.items).1 same) ∙ apart)))
