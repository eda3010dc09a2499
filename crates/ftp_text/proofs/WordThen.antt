-- A word, and what stands behind it, by the word: what is spelled so is read exactly.
use Rattle.std.proofs.Common.{◌≡◌, ◌≢◌, ℕ, Bool, true, false, List, [], ◌∷◌, ◌++◌, Option, Some, refl, sym, ap, ◌∙◌, append_assoc}
use Rattle.std.specs.List.{AllByRecursion}
use Rattle.std.specs.Str.{bytes_eq}
use Rattle.std.proofs.lemmas.Slice.Eq.{bytes_eq-Decides}
use Rattle.ftp_text.specs.Reading.{◌>>=◌, Reader, behind_text, find_word, word_value, by_word}
use Rattle.ftp_text.proofs.Exact.{Ends, IsNil, IsExact, behind_text_exact, bind_ok}

-- what stands behind each word is read exactly, and tells the word
pub record Behind {W V : Type 0} (text : W → List ℕ) (word_for : V → W) (spell : V → List ℕ) (Fits : V → Type 0) (read : W → Reader V) : Type 0 where
  pub takes : (w : W) (bytes : List ℕ) (x : V × List ℕ) → read w bytes ≡ Some x → (bytes ≡ spell x.0 ++ x.1) × (Fits x.0 × (text (word_for x.0) ≡ text w))
  pub again : (v : V) (rest : List ℕ) → Fits v → IsNil rest → read (word_for v) (spell v ++ rest) ≡ Some (v, rest)
  pub starts : (v : V) (rest : List ℕ) → Fits v → IsNil rest → Ends (spell v ++ rest)

-- a word of a table, and what stands behind it
pub word_then : {W V : Type 0} {text : W → List ℕ} (table : List W) {word_for : V → W} {spell : V → List ℕ} {Fits : V → Type 0} {read : W → Reader V} {Found : W → Type 0} →
    IsExact (λ (w : W). 32 ∷ text w) Found Ends (word_value text table) →
    ((v : V) → Fits v → Found (word_for v)) →
    Behind text word_for spell Fits read →
    IsExact (λ (v : V). 32 ∷ text (word_for v) ++ spell v) Fits IsNil (λ bytes. word_value text table bytes >>= λ w. read w.0 w.1)
word_then {W} {V} {text} table {word_for} {spell} {Fits} {read} {Found} words found behind = record {
  takes = λ bytes x e.
      let first = bind_ok (word_value text table bytes) (λ w. read w.0 w.1) x e in
      let word = words.takes bytes first.0 first.1 in
      let t = behind.takes first.0.0 first.0.1 x first.2 in
      let front : List ℕ = 32 ∷ text (word_for x.0) in (
        word.0
            ∙ ap (λ (w : List ℕ). (32 ∷ w) ++ first.0.1) (sym t.1.1)
            ∙ ap (λ (rest : List ℕ). front ++ rest) t.0
            ∙ sym (append_assoc front (spell x.0) x.1),
        t.1.0,
      );
  again = λ v rest fits follows.
      ap (λ (bytes : List ℕ). word_value text table bytes >>= λ w. read w.0 w.1) (append_assoc (32 ∷ text (word_for v)) (spell v) rest)
      ∙ rw (words.again (word_for v) (spell v ++ rest) (found v fits) (behind.starts v rest fits follows)) (behind.again v rest fits follows);
}

-- the same, spelled in another way
pub exact_spelled : {A : Type 0} {s t : A → List ℕ} {F : A → Type 0} {W : List ℕ → Type 0} {r : List ℕ → Option (A × List ℕ)} →
    IsExact s F W r →
    ((x : A) → F x → s x ≡ t x) →
    IsExact t F W r
exact_spelled {A} {s} {t} {F} {W} {r} a same = record {
  takes = λ bytes x e.
      let p = a.takes bytes x e in (p.0 ∙ ap (λ (u : List ℕ). u ++ x.1) (same x.0 p.1), p.1);
  again = λ x rest fits follows. ap (λ (u : List ℕ). r (u ++ rest)) (sym (same x fits)) ∙ a.again x rest fits follows;
}

-- behind a mark, and spelled in another way
pub marked_exact : {W V : Type 0} {text : W → List ℕ} (mark : List ℕ) (table : List W) {word_for : V → W} {spell whole : V → List ℕ} {Fits : V → Type 0} {read : W → Reader V} {Found : W → Type 0} →
    IsExact (λ (w : W). 32 ∷ text w) Found Ends (word_value text table) →
    ((v : V) → Fits v → Found (word_for v)) →
    Behind text word_for spell Fits read →
    ((v : V) → Fits v → mark ++ (32 ∷ text (word_for v) ++ spell v) ≡ whole v) →
    IsExact whole Fits IsNil (behind_text mark (λ bytes. word_value text table bytes >>= λ w. read w.0 w.1))
marked_exact mark table words found behind same = exact_spelled (behind_text_exact mark (word_then table words found behind)) same

differs : (p w : List ℕ) → w ≢ p → bytes_eq p w ≡ false
differs p w n = by (bytes_eq p w) (λ e. (bytes_eq-Decides p w).0 e) where
  by : (b : Bool) → (b ≡ true → p ≡ w) → b ≡ false
  by true f = absurd (n (sym (f refl)))
  by false f = refl

-- a word that is none of these is looked for behind them
find_word-past : {V : Type 0} (text : V → List ℕ) (others table : List V) (w : List ℕ) →
    AllByRecursion (λ v. w ≢ text v) others → find_word text (others ++ table) w ≡ find_word text table w
find_word-past text [] table w differ = refl
find_word-past text (v ∷ others) table w differ = rw (differs (text v) w differ.0) (find_word-past text others table w differ.1)

pub by_word-past : {V A : Type 0} (text : V → List ℕ) (others table : List V) (read : V → Reader A) (w bytes : List ℕ) →
    AllByRecursion (λ v. w ≢ text v) others → by_word text (others ++ table) read w bytes ≡ by_word text table read w bytes
by_word-past text others table read w bytes differ = rw (find_word-past text others table w differ) refl
