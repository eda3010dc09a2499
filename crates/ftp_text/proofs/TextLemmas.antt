-- The lines of a text.
use Rattle.std.proofs.Common.{◌≡◌, ℕ, zero, suc, ◌+◌, ◌-◌, ◌<◌, Bool, true, false, not, cond, eqb, List, [], ◌∷◌, ◌++◌, length, get_or, take, drop, map, Some, None, refl, sym, ap, ◌∙◌, append_assoc, arith}
use Rattle.std.specs.List.{AllByRecursion}
use Rattle.std.proofs.lemmas.List.{length-drop, take_all}
use Rattle.memchr.specs.Find.{IsFirstByte, is_byte}
use Rattle.ftp_text.specs.declared.state_line.StateLine.{StateLine}
use Rattle.ftp_text.specs.Spelling.{state_line, IsStateLine}
use Rattle.ftp_text.specs.StateText.{state_text, before_first, lines_in}
use Rattle.ftp_text.proofs.FieldFeeds.{is_line_byte, HasNone}
use Rattle.ftp_text.proofs.StateFeedLemmas.{line_none}

-- the bytes up to a line feed are the first line
pub lines-split : (bytes : List ℕ) (i : ℕ) → i < length bytes → ((k : ℕ) → k < i → eqb (get_or bytes k 0) 10 ≡ false) → eqb (get_or bytes i 0) 10 ≡ true →
    lines_in bytes ≡ take i bytes ∷ lines_in (drop (i + 1) bytes)
unfolding lines_in
lines-split [] i lt before found = absurd (omega arith)
lines-split (b ∷ bytes) zero lt before found = ap (λ t. cond t ([] ∷ lines_in bytes) (before_first b (lines_in bytes))) found
lines-split (b ∷ bytes) (suc i) lt before found =
    let next : suc i + 1 ≡ suc (i + 1) = omega arith in
    ap (λ t. cond t ([] ∷ lines_in bytes) (before_first b (lines_in bytes))) (before 0 (omega arith))
    ∙ ap (before_first b) (lines-split bytes i (omega (arith, lt)) (λ k h. before (suc k) (omega (arith, h))) found)
    ∙ ap (λ (n : ℕ). take (suc i) (b ∷ bytes) ∷ lines_in (drop n (b ∷ bytes))) (sym next)

-- without a line feed the bytes are the one line
pub lines-none : (bytes : List ℕ) → 0 < length bytes → ((k : ℕ) → k < length bytes → eqb (get_or bytes k 0) 10 ≡ false) → lines_in bytes ≡ bytes ∷ []
unfolding lines_in
lines-none [] some none = absurd (omega arith)
lines-none (b ∷ []) some none = ap (λ t. cond t ([] ∷ []) (before_first b [])) (none 0 (omega arith))
lines-none (b ∷ c ∷ bytes) some none =
    ap (λ t. cond t ([] ∷ lines_in (c ∷ bytes)) (before_first b (lines_in (c ∷ bytes)))) (none 0 (omega arith))
    ∙ ap (before_first b) (lines-none (c ∷ bytes) (omega arith) (λ k h. none (suc k) (omega (arith, h))))

no_feed : (b : ℕ) → is_line_byte b ≡ true → eqb b 10 ≡ false
no_feed b h = by (eqb b 10) h where
  by : (t : Bool) → not t ≡ true → t ≡ false
  by false e = refl
  by true e = absurd cc

-- a line before its line feed
pub lines-line : (line rest : List ℕ) → HasNone line → lines_in (line ++ 10 ∷ rest) ≡ line ∷ lines_in rest
unfolding lines_in
lines-line [] rest none = refl
lines-line (b ∷ line) rest none =
    ap (λ t. cond t ([] ∷ lines_in (line ++ 10 ∷ rest)) (before_first b (lines_in (line ++ 10 ∷ rest)))) (no_feed b none.0)
    ∙ ap (before_first b) (lines-line line rest none.1)

-- the lines of the text of lines
pub lines-text : (lines : List StateLine) → AllByRecursion IsStateLine lines → lines_in (state_text lines) ≡ map state_line lines
unfolding lines_in
lines-text [] fit = refl
lines-text (x ∷ lines) fit =
    ap lines_in (append_assoc (state_line x) (10 ∷ []) (state_text lines))
    ∙ lines-line (state_line x) (state_text lines) (line_none x fit.0)
    ∙ ap (λ (ls : List (List ℕ)). state_line x ∷ ls) (lines-text lines fit.1)

-- ---- a text that is cut at its first line feed

false_from_not : (b : Bool) → (b ≡ true → ⊥) → b ≡ false
false_from_not true h = absurd (h refl)
false_from_not false h = refl

pub cut-found : (bytes : List ℕ) (i : ℕ) → IsFirstByte (is_byte 10) bytes (Some i) → lines_in bytes ≡ take i bytes ∷ lines_in (take (length bytes - (i + 1)) (drop (i + 1) bytes))
cut-found bytes i first =
    lines-split bytes i first.0.high (λ k lt. false_from_not (eqb (get_or bytes k 0) 10) (first.0.before k (omega arith) lt)) first.1
    ∙ ap (λ (rest : List ℕ). take i bytes ∷ lines_in rest) (sym (take_all (length bytes - (i + 1)) (drop (i + 1) bytes) (omega (arith, length-drop (i + 1) bytes))))

pub cut-none : (bytes : List ℕ) → 0 < length bytes → IsFirstByte (is_byte 10) bytes None → lines_in bytes ≡ bytes ∷ lines_in []
unfolding lines_in
cut-none bytes some nowhere = lines-none bytes some (λ k lt. false_from_not (eqb (get_or bytes k 0) 10) (nowhere k (omega arith) lt))
