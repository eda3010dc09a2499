-- What stands in the first row of a table that passes.
use Rattle.std.proofs.Common.{◌≡◌, ◌∙◌, Bool, true, false, cond, List, [], ◌∷◌, Option, Some, None, option_map, Bor, refl, ap}
use Rattle.std.specs.Prelude.{find, IsSomeAnd}
use Rattle.std.specs.Map.{lookup}
use Rattle.std.specs.Option.{MatchOption}

module _ {K V : Type 0} (test : K → Bool) where
  -- the value of the first row whose key passes is what is looked up
  pub option_map-find : (rows : List (K × V)) → option_map (λ row. row.1) (find (λ row. test row.0) rows) ≡ lookup test rows
  option_map-find [] = refl
  option_map-find (row ∷ rows) = by (test row.0) (option_map-find rows)
    where
      by :
          (b : Bool) → option_map (λ row. row.1) (find (λ row. test row.0) rows) ≡ lookup test rows →
          option_map (λ row. row.1) (cond b (Some row) (find (λ row. test row.0) rows)) ≡ cond b (Some row.1) (lookup test rows)
      by true more = refl
      by false more = more

  -- so is the value of the row that a search lends
  pub value-lent :
      (rows : List (K × V)) (lent : Option (Bor (K × V))) (value : Option V) (P : Bor (K × V) → V → Type 0) →
      option_map (λ row. row.now) lent ≡ find (λ row. test row.0) rows →
      MatchOption lent (value ≡ None) (λ row. IsSomeAnd value (P row)) →
      ((row : Bor (K × V)) (v : V) → P row v → v ≡ row.now.1) →
      value ≡ lookup test rows
  value-lent rows None value P found is told = is ∙ ap (option_map (λ row. row.1)) found ∙ option_map-find rows
  value-lent rows (Some row) None P found is told = absurd is
  value-lent rows (Some row) (Some v) P found is told =
      ap Some (told row v is) ∙ ap (option_map (λ row. row.1)) found ∙ option_map-find rows
