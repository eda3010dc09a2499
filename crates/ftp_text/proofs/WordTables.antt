-- Tables of words: the word of a value, and the value of a word in a table that was made of others.
use Rattle.std.proofs.Common.{◌≡◌, ◌∙◌, Bool, true, false, cond, ℕ, List, [], ◌∷◌, ◌++◌, Option, Some, None, option_map, map, Bor, refl, sym, ap}
use Rattle.std.specs.Prelude.{find}
use Rattle.std.specs.Map.{lookup}
use Rattle.std.specs.Option.{option_map_or, option_or}
use Rattle.std.specs.Str.{bytes_eq}
use Rattle.ftp_text.specs.Reading.{find_word}

module _ {V : Type 0} (test : V → Bool) where
  -- a row of a table as plain values
  abbrev plain : Bor (List ℕ) × V → List ℕ × V
  plain row = (row.0.now, row.1)

  abbrev word_of : Option (Bor (List ℕ) × V) → List ℕ
  word_of row = option_map_or (λ (r : Bor (List ℕ) × V). r.0.now) row []

  abbrev pub lent_word : Option (Bor (Bor (List ℕ) × V)) → List ℕ
  lent_word row = option_map_or (λ (r : Bor (Bor (List ℕ) × V)). r.now.0.now) row []

  -- the word of the first row that passes, as a table of plain words has it
  word-plain : (rows : List (Bor (List ℕ) × V)) →
      word_of (find (λ row. test row.1) rows) ≡ option_map_or (λ (row : List ℕ × V). row.0) (find (λ row. test row.1) (map plain rows)) []
  word-plain [] = refl
  word-plain (row ∷ rows) = by (test row.1) (word-plain rows)
    where
      by : (b : Bool) →
          word_of (find (λ row. test row.1) rows) ≡ option_map_or (λ (row : List ℕ × V). row.0) (find (λ row. test row.1) (map plain rows)) [] →
          word_of (cond b (Some row) (find (λ row. test row.1) rows))
          ≡ option_map_or (λ (row : List ℕ × V). row.0) (cond b (Some (plain row)) (find (λ row. test row.1) (map plain rows))) []
      by true more = refl
      by false more = more

  -- so is that of the row that a search lends
  pub word-lent : (rows : List (Bor (List ℕ) × V)) (lent : Option (Bor (Bor (List ℕ) × V))) →
      option_map (λ row. row.now) lent ≡ find (λ row. test row.1) rows →
      lent_word lent ≡ option_map_or (λ (row : List ℕ × V). row.0) (find (λ row. test row.1) (map plain rows)) []
  word-lent rows None found = ap word_of found ∙ word-plain rows
  word-lent rows (Some row) found = ap word_of found ∙ word-plain rows

module _ {K V W : Type 0} (test : K → Bool) (f : V → W) where
  -- what is found where each value of a table is made into another
  pub lookup-made : (rows : List (K × V)) → lookup test (map (λ row. (row.0, f row.1)) rows) ≡ option_map f (lookup test rows)
  lookup-made [] = refl
  lookup-made (row ∷ rows) = by (test row.0) (lookup-made rows)
    where
      by : (b : Bool) →
          lookup test (map (λ row. (row.0, f row.1)) rows) ≡ option_map f (lookup test rows) →
          cond b (Some (f row.1)) (lookup test (map (λ row. (row.0, f row.1)) rows)) ≡ option_map f (cond b (Some row.1) (lookup test rows))
      by true more = refl
      by false more = more

-- a word is looked for in a table, and then in one that is made of another
pub find_word-then : {V W : Type 0} (text : W → List ℕ) (own : List W) (f : V → W) (others : List V) (w : List ℕ) →
    find_word text (own ++ map f others) w ≡ option_or (find_word text own w) (option_map f (find_word (λ v. text (f v)) others w))
find_word-then text [] f [] w = refl
find_word-then text [] f (v ∷ others) w = by (bytes_eq (text (f v)) w) (find_word-then text [] f others w)
  where
    by : (b : Bool) →
        find_word text (map f others) w ≡ option_map f (find_word (λ v. text (f v)) others w) →
        cond b (Some (f v)) (find_word text (map f others) w) ≡ option_map f (cond b (Some v) (find_word (λ v. text (f v)) others w))
    by true more = refl
    by false more = more
find_word-then text (u ∷ own) f others w = by (bytes_eq (text u) w) (find_word-then text own f others w)
  where
    by : (b : Bool) →
        find_word text (own ++ map f others) w ≡ option_or (find_word text own w) (option_map f (find_word (λ v. text (f v)) others w)) →
        cond b (Some u) (find_word text (own ++ map f others) w)
        ≡ option_or (cond b (Some u) (find_word text own w)) (option_map f (find_word (λ v. text (f v)) others w))
    by true h = refl
    by false h = h
