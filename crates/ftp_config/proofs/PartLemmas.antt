-- The parts of a hash and of a line, as they are counted.
use Rattle.std.proofs.Common.{◌≡◌, ◌∙◌, ℕ, List, [], ◌∷◌, length, map, get_or, Bor, Some, None, refl, sym, ap, arith}
use Rattle.std.specs.Prelude.{if◌then◌else◌}
use Rattle.std.specs.List.{slice_split}
use Rattle.std.specs.Option.{option_and_then}
use Rattle.std.proofs.lemmas.List.{length-map}
use Rattle.ftp_config.specs.Line.{is_byte, is_scheme, hash_with, hash_of_parts, hash_of, budget_size, user_with, user_of_fields, spelled_user}

-- the texts of parts
abbrev pub texts : List (Bor (List ℕ)) → List (List ℕ)
texts parts = map (λ p. p.now) parts

-- the text of the part at a place
abbrev pub text_at : List (Bor (List ℕ)) → ℕ → Bor (List ℕ) → List ℕ
text_at parts i d = (get_or parts i d).now

texts-four : (xs : List (Bor (List ℕ))) (d : Bor (List ℕ)) → length xs ≡ 4 → texts xs ≡ text_at xs 0 d ∷ text_at xs 1 d ∷ text_at xs 2 d ∷ text_at xs 3 d ∷ []
texts-four [] d n = absurd (omega arith)
texts-four (a ∷ []) d n = absurd (omega arith)
texts-four (a ∷ b ∷ []) d n = absurd (omega arith)
texts-four (a ∷ b ∷ c ∷ []) d n = absurd (omega arith)
texts-four (a ∷ b ∷ c ∷ e ∷ []) d n = refl
texts-four (a ∷ b ∷ c ∷ e ∷ f ∷ xs) d n = absurd (omega arith)

texts-five : (xs : List (Bor (List ℕ))) (d : Bor (List ℕ)) → length xs ≡ 5 → texts xs ≡ text_at xs 0 d ∷ text_at xs 1 d ∷ text_at xs 2 d ∷ text_at xs 3 d ∷ text_at xs 4 d ∷ []
texts-five [] d n = absurd (omega arith)
texts-five (a ∷ []) d n = absurd (omega arith)
texts-five (a ∷ b ∷ []) d n = absurd (omega arith)
texts-five (a ∷ b ∷ c ∷ []) d n = absurd (omega arith)
texts-five (a ∷ b ∷ c ∷ e ∷ []) d n = absurd (omega arith)
texts-five (a ∷ b ∷ c ∷ e ∷ f ∷ []) d n = refl
texts-five (a ∷ b ∷ c ∷ e ∷ f ∷ g ∷ xs) d n = absurd (omega arith)

-- five parts may be those of a hash
pub hash_of-five : (text : List ℕ) (xs : List (Bor (List ℕ))) (d : Bor (List ℕ)) → texts xs ≡ slice_split (is_byte 36) text → length xs ≡ 5 →
    hash_of text ≡ (if is_scheme (text_at xs 0 d) (text_at xs 1 d) then hash_with (text_at xs 2 d) (text_at xs 3 d) (text_at xs 4 d) else None)
unfolding hash_of_parts
hash_of-five text xs d same n = ap hash_of_parts (sym same ∙ texts-five xs d n)

other_parts : (parts : List (List ℕ)) → (length parts ≡ 5 → ⊥) → hash_of_parts parts ≡ None
unfolding hash_of_parts
other_parts [] n = refl
other_parts (a ∷ []) n = refl
other_parts (a ∷ b ∷ []) n = refl
other_parts (a ∷ b ∷ c ∷ []) n = refl
other_parts (a ∷ b ∷ c ∷ e ∷ []) n = refl
other_parts (a ∷ b ∷ c ∷ e ∷ f ∷ []) n = absurd (n refl)
other_parts (a ∷ b ∷ c ∷ e ∷ f ∷ g ∷ parts) n = refl

-- other parts are no hash's
pub hash_of-other : (text : List ℕ) (xs : List (Bor (List ℕ))) → texts xs ≡ slice_split (is_byte 36) text → (length xs ≡ 5 → ⊥) → hash_of text ≡ None
hash_of-other text xs same n = ap hash_of_parts (sym same) ∙ other_parts (texts xs) (λ e. n (sym (length-map xs (λ p. p.now)) ∙ e))

-- four fields have no budget
pub spelled_user-four : (line : List ℕ) (xs : List (Bor (List ℕ))) (d : Bor (List ℕ)) → texts xs ≡ slice_split (is_byte 58) line → length xs ≡ 4 →
    spelled_user line ≡ user_with (text_at xs 0 d) (text_at xs 1 d) (text_at xs 2 d) (text_at xs 3 d) None
unfolding user_of_fields
spelled_user-four line xs d same n = ap user_of_fields (sym same ∙ texts-four xs d n)

-- five fields have one
pub spelled_user-five : (line : List ℕ) (xs : List (Bor (List ℕ))) (d : Bor (List ℕ)) → texts xs ≡ slice_split (is_byte 58) line → length xs ≡ 5 →
    spelled_user line ≡ option_and_then (λ n. user_with (text_at xs 0 d) (text_at xs 1 d) (text_at xs 2 d) (text_at xs 3 d) (Some n)) (budget_size (text_at xs 4 d))
unfolding user_of_fields
spelled_user-five line xs d same n = ap user_of_fields (sym same ∙ texts-five xs d n)

other_fields : (fields : List (List ℕ)) → (length fields ≡ 4 → ⊥) → (length fields ≡ 5 → ⊥) → user_of_fields fields ≡ None
unfolding user_of_fields
other_fields [] m n = refl
other_fields (a ∷ []) m n = refl
other_fields (a ∷ b ∷ []) m n = refl
other_fields (a ∷ b ∷ c ∷ []) m n = refl
other_fields (a ∷ b ∷ c ∷ e ∷ []) m n = absurd (m refl)
other_fields (a ∷ b ∷ c ∷ e ∷ f ∷ []) m n = absurd (n refl)
other_fields (a ∷ b ∷ c ∷ e ∷ f ∷ g ∷ fields) m n = refl

-- other fields are no user's
pub spelled_user-other : (line : List ℕ) (xs : List (Bor (List ℕ))) → texts xs ≡ slice_split (is_byte 58) line → (length xs ≡ 4 → ⊥) → (length xs ≡ 5 → ⊥) → spelled_user line ≡ None
spelled_user-other line xs same m n =
    ap user_of_fields (sym same)
    ∙ other_fields (texts xs) (λ e. m (sym (length-map xs (λ p. p.now)) ∙ e)) (λ e. n (sym (length-map xs (λ p. p.now)) ∙ e))
