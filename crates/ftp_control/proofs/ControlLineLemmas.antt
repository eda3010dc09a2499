-- Lines of a control connection in a buffer.
use Rattle.std.proofs.Common.{◌≡◌, ℕ, suc, Bool, true, false, cond, not, ◌∷◌, ◌+◌, ◌-◌, ◌<◌, ◌≤◌, List, [], ◌++◌, length, take, drop, refl, sym, ap, subst, ◌∙◌, arith, inl, inr}
use Rattle.std.specs.List.{position_or_len}
use Rattle.std.proofs.lemmas.Bool.{cases_lt}
use Rattle.std.proofs.lemmas.List.{take-append-drop, drop-take, length-take, length-drop, length-append, length-take-le, drop-append-le, take-append-le, take_all, take-take, drop-drop}
use Rattle.ftp_control.specs.Lines.{is_line_feed}
use Rattle.ftp_control.proofs.LineLemmas.{length-bytes_in, pos_found, pos_none}
use Rattle.ftp_control.specs.declared.control_line.Held.{Held}
use Rattle.ftp_control.specs.ControlLine.{IsLine, IsLong, IsHeld, held_in}

-- a place is within the text, or at its end
pub position_or_len-le : (xs : List ℕ) → position_or_len is_line_feed xs ≤ length xs
position_or_len-le [] = omega arith
position_or_len-le (x ∷ xs) = step (not (is_line_feed x)) (position_or_len is_line_feed xs) (length xs) (position_or_len-le xs) where
  step : (b : Bool) (n m : ℕ) → n ≤ m → cond b (1 + n) 0 ≤ suc m
  step true n m le = omega arith
  step false n m le = omega arith

-- the first line feed of a text is that of its front, where it stands there
pub pos_front : (xs ys : List ℕ) (i : ℕ) → position_or_len is_line_feed (xs ++ ys) ≡ i → i < length xs → position_or_len is_line_feed xs ≡ i
pos_front xs ys i e lt =
    elim (cases_lt (position_or_len is_line_feed xs) (length xs)) [
      | inl less ↦ sym (pos_found xs ys (position_or_len is_line_feed xs) refl less) ∙ e
      | inr ge ↦
          let whole : position_or_len is_line_feed xs ≡ length xs = omega (arith, position_or_len-le xs) in
          absurd (omega (arith, pos_none xs ys whole, e))
    ]

-- a line feed that was found in what is held ends a line, and the line and what is held behind it are what was held
pub found_line : (buffer : List ℕ) (start end i : ℕ) → start ≤ end → end ≤ length buffer →
    position_or_len is_line_feed (take (end - start) (drop start buffer)) ≡ i → i < length (take (end - start) (drop start buffer)) → i < 8192 →
    IsLine (take (start + (i + 1) - start) (drop start buffer))
    × (take (start + (i + 1) - start) (drop start buffer) ++ take (end - (start + (i + 1))) (drop (start + (i + 1)) buffer) ≡ take (end - start) (drop start buffer))
found_line buffer start end i le within pos lt short =
    let H = take (end - start) (drop start buffer) in
    let len : length H ≡ end - start = length-bytes_in buffer start end le within in
    let line : take (start + (i + 1) - start) (drop start buffer) ≡ take (i + 1) H =
    let n : start + (i + 1) - start ≡ i + 1 = omega arith in
    ap (λ (m : ℕ). take m (drop start buffer)) n ∙ sym (take-take (i + 1) (end - start) (drop start buffer) (omega (arith, len))) in
    let held : take (end - (start + (i + 1))) (drop (start + (i + 1)) buffer) ≡ drop (i + 1) H =
    let m : i + 1 + (end - (start + (i + 1))) ≡ end - start = omega (arith, len) in
    ap (take (end - (start + (i + 1)))) (sym (drop-drop (i + 1) start buffer))
    ∙ sym (drop-take (i + 1) (end - (start + (i + 1))) (drop start buffer))
    ∙ ap (λ (n : ℕ). drop (i + 1) (take n (drop start buffer))) m in
    let whole : take (start + (i + 1) - start) (drop start buffer) ++ take (end - (start + (i + 1))) (drop (start + (i + 1)) buffer) ≡ H =
    ap (λ (x : List ℕ). x ++ take (end - (start + (i + 1))) (drop (start + (i + 1)) buffer)) line
    ∙ ap (λ (x : List ℕ). take (i + 1) H ++ x) held ∙ take-append-drop (i + 1) H in
    let size : length (take (i + 1) H) ≡ i + 1 = length-take-le (i + 1) H (omega arith) in
    let at : position_or_len is_line_feed (take (i + 1) H) ≡ i =
    pos_front (take (i + 1) H) (drop (i + 1) H) i (ap (position_or_len is_line_feed) (take-append-drop (i + 1) H) ∙ pos) (omega (arith, size)) in (
      subst IsLine (sym line) (omega (arith, at, size), omega (arith, size)),
      whole,
    )

-- a line feed that was found behind as many bytes as a line may have
pub found_long : (held : List ℕ) (i : ℕ) → position_or_len is_line_feed held ≡ i → i < length held → 8192 ≤ i → IsLong held
found_long held i pos lt long = omega (arith, length-take (position_or_len is_line_feed held + 1) held, pos)

-- no line feed among more bytes than a line may have
pub full_long : (held : List ℕ) → position_or_len is_line_feed held ≡ length held → length held ≡ 8193 → IsLong held
full_long held none len = omega (arith, length-take (position_or_len is_line_feed held + 1) held, none, len)

-- a line that is too long stays so, whatever comes behind
pub long-append : (held more : List ℕ) → IsLong held → IsLong (held ++ more)
long-append held more long =
    elim (cases_lt (position_or_len is_line_feed held) (length held)) [
      | inl less ↦
          let p = pos_found held more (position_or_len is_line_feed held) refl less in
          omega (
            arith,
            long,
            p,
            length-take (position_or_len is_line_feed held + 1) held,
            length-take (position_or_len is_line_feed (held ++ more) + 1) (held ++ more),
            length-append held more,
          )
      | inr ge ↦
          let p = pos_none held more (omega (arith, position_or_len-le held)) in
          omega (
            arith,
            long,
            p,
            length-take (position_or_len is_line_feed held + 1) held,
            length-take (position_or_len is_line_feed (held ++ more) + 1) (held ++ more),
            length-append held more,
          )
    ]

-- a part of a buffer stays where the buffer becomes longer
kept_longer : (xs ys : List ℕ) (start end : ℕ) → start ≤ end → end ≤ length xs → take (end - start) (drop start (xs ++ ys)) ≡ take (end - start) (drop start xs)
kept_longer xs ys start end le within =
    ap (take (end - start)) (drop-append-le start xs ys (omega arith))
    ∙ take-append-le (end - start) (drop start xs) ys (omega (arith, length-drop start xs))

-- what is held stays where the buffer is widened
pub widened : (old new more : List ℕ) (n : ℕ) (held : Held) → IsHeld old held → length old ≤ n → new ≡ take n old ++ more →
    IsHeld new held × (held_in new held ≡ held_in old held)
widened old new more n held h fits is =
    let longer : new ≡ old ++ more = is ∙ ap (λ (x : List ℕ). x ++ more) (take_all n old fits) in
    let same : held_in new held ≡ held_in old held =
    ap (λ (x : List ℕ). held_in x held) longer ∙ kept_longer old more held.span.start held.span.end h.0.0 h.0.1 in (
      (
        (h.0.0, omega (arith, h.0.1, ap length longer, length-append old more)),
        h.1,
        omega (arith, h.2, ap (position_or_len is_line_feed) same),
      ),
      same,
    )
