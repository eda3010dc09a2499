-- Answers on the ends of a name, a byte of the pattern after another.
use Rattle.std.proofs.Common.{◌≡◌, ◌≢◌, ◌∙◌, ℕ, zero, suc, ◌+◌, ◌-◌, ◌<◌, ◌≤◌, ◌==◌, ◌&&◌, ◌||◌, Bool, true, false, List, [], ◌∷◌, ◌++◌, length, get_or, drop, replicate, cond, refl, ap, sym, inl, inr, drop-cons, arith}
use Rattle.std.proofs.lemmas.Bool.Decides.{eqb_tells}
use Rattle.ftp_disk.specs.Patterns.{stands_for, matches, AreAnswers}

-- the pattern of no byte matches the empty name alone
pub AreAnswers-none : (name : List ℕ) (k : ℕ) → k < length name + 1 → get_or (replicate (length name) false ++ true ∷ []) k false ≡ matches [] (drop k name)
unfolding matches
AreAnswers-none [] zero lt = refl
AreAnswers-none [] (suc k) lt = absurd (omega arith)
AreAnswers-none (b ∷ name) zero lt = refl
AreAnswers-none (b ∷ name) (suc k) lt = AreAnswers-none name k (omega arith)

-- numbers that are not equal are told apart
ne-eqb : (a b : ℕ) → a ≢ b → (a == b) ≡ false
ne-eqb a b ne = elim (eqb_tells a b) [ inl h ↦ absurd (ne h.1) | inr h ↦ h.0 ]

-- what is behind a place of a pattern is its byte, and what is behind that
pub drop-before : (s : List ℕ) (i : ℕ) → 0 < i → i ≤ length s → drop (i - 1) s ≡ get_or s (i - 1) 0 ∷ drop i s
drop-before s i some within =
    let e : suc (i - 1) ≡ i = omega arith in
    drop-cons s (i - 1) 0 (omega arith) ∙ ap (λ k. get_or s (i - 1) 0 ∷ drop k s) e

-- a byte that is no `*` before a pattern
pub matches-one : (p : ℕ) (pattern name : List ℕ) (old new : ℕ → Bool) → p ≢ 42 →
    ((k : ℕ) → k < length name → new k ≡ (stands_for p (get_or name k 0) && old (k + 1))) → new (length name) ≡ false →
    ((k : ℕ) → k < length name + 1 → old k ≡ matches pattern (drop k name)) →
    (k : ℕ) → k < length name + 1 → new k ≡ matches (p ∷ pattern) (drop k name)
unfolding matches
matches-one p pattern [] old new other before end answers zero lt = end ∙ sym (ap (λ t. t && matches pattern []) (ne-eqb p 42 other))
matches-one p pattern [] old new other before end answers (suc k) lt = absurd (omega arith)
matches-one p pattern (b ∷ name) old new other before end answers zero lt =
    before 0 (omega arith)
    ∙ ap (λ t. stands_for p b && t) (answers 1 (omega arith))
    ∙ sym (ap (λ t. cond t (matches pattern (b ∷ name) || matches (p ∷ pattern) name) (stands_for p b && matches pattern name)) (ne-eqb p 42 other))
matches-one p pattern (b ∷ name) old new other before end answers (suc k) lt =
    matches-one p pattern name (λ i. old (suc i)) (λ i. new (suc i)) other
    (λ i h. let e : suc i + 1 ≡ suc (i + 1) = omega arith in before (suc i) (omega arith) ∙ ap (λ t. stands_for p (get_or name i 0) && old t) e)
    end
    (λ i h. answers (suc i) (omega arith))
    k (omega arith)

-- `*` before a pattern
pub matches-any : (pattern name : List ℕ) (old new : ℕ → Bool) →
    ((k : ℕ) → k < length name → new k ≡ (old k || new (k + 1))) → new (length name) ≡ old (length name) →
    ((k : ℕ) → k < length name + 1 → old k ≡ matches pattern (drop k name)) →
    (k : ℕ) → k < length name + 1 → new k ≡ matches (42 ∷ pattern) (drop k name)
unfolding matches
matches-any pattern [] old new before end answers zero lt = end ∙ answers 0 (omega arith)
matches-any pattern [] old new before end answers (suc k) lt = absurd (omega arith)
matches-any pattern (b ∷ name) old new before end answers zero lt =
    let rest : new 1 ≡ matches (42 ∷ pattern) name =
    matches-any pattern name (λ i. old (suc i)) (λ i. new (suc i))
    (λ i h. let e : suc i + 1 ≡ suc (i + 1) = omega arith in before (suc i) (omega arith) ∙ ap (λ t. old (suc i) || new t) e)
    end
    (λ i h. answers (suc i) (omega arith))
    0 (omega arith)
    in
    before 0 (omega arith) ∙ ap (λ t. t || new 1) (answers 0 (omega arith)) ∙ ap (λ t. matches pattern (b ∷ name) || t) rest
matches-any pattern (b ∷ name) old new before end answers (suc k) lt =
    matches-any pattern name (λ i. old (suc i)) (λ i. new (suc i))
    (λ i h. let e : suc i + 1 ≡ suc (i + 1) = omega arith in before (suc i) (omega arith) ∙ ap (λ t. old (suc i) || new t) e)
    end
    (λ i h. answers (suc i) (omega arith))
    k (omega arith)
