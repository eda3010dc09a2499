-- A text is that of a printed log in one way, and then no line of it is bad.
use Rattle.std.proofs.Common.{◌≡◌, ℕ, ◌+◌, ◌<◌, ◌≤◌, inl, inr, true, List, [], ◌∷◌, ◌++◌, length, take, refl, sym, ap, subst, ◌∙◌, append_assoc, arith}
use Rattle.std.specs.List.{position_or_len, AllByRecursion}
use Rattle.std.proofs.lemmas.Grind.{flat_map-append}
use Rattle.std.proofs.lemmas.List.{append-nil, length-append, take_at}
use Rattle.ftp_control.specs.Lines.{is_line_feed, first_line}
use Rattle.ftp_text.proofs.Exact.{run_length}
use Rattle.ftp_text.specs.Printing.{line}
use Rattle.ftp_text.specs.declared.line.LogLine.{LogLine}
use Rattle.ftp_text.specs.LogLines.{log_line, IsLogLine}
use Rattle.ftp_text.specs.LogText.{lines_of, text_of, IsLog, IsFront, ComesNext, IsPrinted, IsFirstBad, HasFirstBad}
use Rattle.ftp_text.proofs.LineLemmas.{log_line-injective}
use Rattle.ftp_text.proofs.FieldFeeds.{HasNone, is_line_byte}
use Rattle.ftp_text.proofs.FeedLemmas.{line_none}
use Rattle.ftp_text.proofs.PlaceLemmas.{lines-text}
use Rattle.ftp_text.proofs.Lists.{all-parts}

-- ---- the first line of a text

-- texts up to their first line feeds
cut-once : (u v a b : List ℕ) → HasNone u → HasNone v → u ++ 10 ∷ a ≡ v ++ 10 ∷ b → (u ≡ v) × (a ≡ b)
cut-once [] [] a b p q e = (refl, cc)
cut-once [] (c ∷ v) a b p q e = let same : 10 ≡ c = cc in let no : is_line_byte 10 ≡ true = ap is_line_byte same ∙ q.0 in absurd cc
cut-once (c ∷ u) [] a b p q e = let same : c ≡ 10 = cc in let no : is_line_byte 10 ≡ true = ap is_line_byte (sym same) ∙ p.0 in absurd cc
cut-once (c ∷ u) (d ∷ v) a b p q e =
    let head : c ≡ d = cc in
    let tail : u ++ 10 ∷ a ≡ v ++ 10 ∷ b = cc in
    let rest = cut-once u v a b p.1 q.1 tail in
    ((λ i. head i ∷ rest.0 i), rest.1)

pub text-cons : (x : LogLine) (lines : List LogLine) → text_of (x ∷ lines) ≡ log_line x ++ 10 ∷ text_of lines
text-cons x lines = append_assoc (log_line x) (10 ∷ []) (text_of lines)

-- the lines before a rest are the first of all lines
pub record GoesOn (before : List LogLine) (rest : List ℕ) (lines : List LogLine) : Type 0 where
  pub more : List LogLine
  pub lines_are : lines ≡ before ++ more
  pub rest_is : rest ≡ text_of more

pub goes-on : (before lines : List LogLine) (rest : List ℕ) → AllByRecursion IsLogLine before → AllByRecursion IsLogLine lines → text_of before ++ rest ≡ text_of lines → GoesOn before rest lines
goes-on [] lines rest f g e = record { more = lines; lines_are = refl; rest_is = e }
goes-on (x ∷ before) [] rest f g e =
    absurd (omega (arith, ap length e, length-append (text_of (x ∷ before)) rest, ap length (text-cons x before), length-append (log_line x) (10 ∷ text_of before)))
goes-on (x ∷ before) (y ∷ lines) rest f g e =
    let left : text_of (x ∷ before) ++ rest ≡ log_line x ++ 10 ∷ (text_of before ++ rest) =
    ap (λ (t : List ℕ). t ++ rest) (text-cons x before) ∙ append_assoc (log_line x) (10 ∷ text_of before) rest in
    let cut = cut-once (log_line x) (log_line y) (text_of before ++ rest) (text_of lines) (line_none x f.0) (line_none y g.0) (sym left ∙ e ∙ text-cons y lines) in
    let same : x ≡ y = log_line-injective x y f.0 g.0 cut.0 in
    let on = goes-on before lines rest f.1 g.1 cut.1 in
    record {
      more = on.more;
      lines_are = (λ i. sym same i ∷ on.lines_are i);
      rest_is = on.rest_is;
    }

-- ---- the lines of a printed log

-- what is known of the lines before a place and the bytes behind it, of all lines of a log
front-fits : (before : List LogLine) → IsFront before → AllByRecursion IsLogLine before
front-fits before front = (all-parts IsLogLine before front.0 front.1.2.fits).0

-- the first line of these bytes is that of x
pub first-is : (x : LogLine) (tail bytes : List ℕ) → IsLogLine x → bytes ≡ log_line x ++ 10 ∷ tail →
    (position_or_len is_line_feed bytes ≡ length (log_line x)) × (log_line x ≡ first_line bytes) × (length bytes ≡ length (log_line x) + 1 + length tail)
first-is x tail bytes fits whole =
    let at : position_or_len is_line_feed bytes ≡ length (log_line x) =
    ap (position_or_len is_line_feed) whole ∙ run_length is_line_byte (log_line x) (10 ∷ tail) (line_none x fits) refl in (
      at,
      sym (ap (λ (n : ℕ). take n bytes) at ∙ ap (take (length (log_line x))) whole ∙ take_at (log_line x) (10 ∷ tail) (length (log_line x)) refl),
      omega (arith, ap length whole, length-append (log_line x) (10 ∷ tail)),
    )

-- a line of a printed log may stand there
comes : (before : List LogLine) (x : LogLine) (more : List LogLine) (rest tail all : List ℕ) →
    IsLogLine x →
    IsFront (before ++ x ∷ more) →
    rest ≡ log_line x ++ 10 ∷ tail →
    length (text_of before) + (length (log_line x) + 1) ≤ 67108864 →
    ComesNext before rest x
comes before x more rest tail all fits front e small =
    let first = first-is x tail rest fits e in
    record {
      ends = omega (arith, first.0, first.2);
      spelled = first.1;
      front = (more ++ front.0, subst IsLog (regroup before more front.0) front.1);
      small = omega (arith, small, ap length first.1);
    } where
      regroup : (before more after : List LogLine) → (before ++ x ∷ more) ++ after ≡ (before ++ x ∷ []) ++ (more ++ after)
      regroup before more after = append_assoc before (x ∷ more) after ∙ sym (append_assoc before (x ∷ []) (more ++ after))

pub printed_good : (bytes : List ℕ) (k : ℕ) → IsPrinted bytes → HasFirstBad k bytes → ⊥
printed_good bytes k printed bad =
    let lines = lines_of printed.0 printed.1 in
    let print = printed.2 in
    let before = bad.0 in
    let rest = bad.1 in
    let first = bad.3 in
    let whole : text_of before ++ rest ≡ text_of lines = bad.2 ∙ print.spelled ∙ sym (lines-text printed.0 printed.1) in
    let on = goes-on before lines rest (front-fits before first.front) print.fits whole in
    let log : IsLog (before ++ on.more) = (printed.0, printed.1, record { same = sym on.lines_are; fits = subst (AllByRecursion IsLogLine) on.lines_are print.fits }) in
    elim first.bad [
      | inl next ↦ some before rest on.more log on.rest_is bad.2 print.small next.0 next.1
      | inr end ↦ none before rest on.more log on.rest_is end.0 end.1
    ] where
      some : (before : List LogLine) (rest : List ℕ) (more : List LogLine) → IsLog (before ++ more) → rest ≡ text_of more → text_of before ++ rest ≡ bytes → length bytes ≤ 67108864 →
          0 < length rest → ((x : LogLine) → ComesNext before rest x → ⊥) → ⊥
      some before rest [] log e whole small there never = absurd (omega (arith, ap length e))
      some before rest (x ∷ more) log e whole small there never =
          never x
          (comes before x more rest (text_of more) bytes (all-parts IsLogLine before (x ∷ more) log.2.fits).1.0 ([], subst IsLog (sym (append-nil (before ++ x ∷ more))) log) (e ∙ text-cons x more)
          (omega (arith, small, ap length whole, length-append (text_of before) rest, ap length (e ∙ text-cons x more), length-append (log_line x) (10 ∷ text_of more))))

      none : (before : List LogLine) (rest : List ℕ) (more : List LogLine) → IsLog (before ++ more) → rest ≡ text_of more → rest ≡ [] → (IsLog before → ⊥) → ⊥
      none before rest [] log e empty never = never (subst IsLog (append-nil before) log)
      none before rest (x ∷ more) log e empty never =
          absurd (omega (arith, ap length (sym e ∙ empty), ap length (text-cons x more), length-append (log_line x) (10 ∷ text_of more)))

-- ---- one first bad line

-- two ways to cut a text into lines and a rest
data Cuts (b : List LogLine) (r : List ℕ) (c : List LogLine) (s : List ℕ) : Type 0 where
  same : b ≡ c → r ≡ s → Cuts b r c s
  shorter : (x : LogLine) (more : List LogLine) → c ≡ b ++ x ∷ more → r ≡ text_of (x ∷ more) ++ s → Cuts b r c s
  longer : (x : LogLine) (more : List LogLine) → b ≡ c ++ x ∷ more → s ≡ text_of (x ∷ more) ++ r → Cuts b r c s

cuts : (b c : List LogLine) (r s : List ℕ) → AllByRecursion IsLogLine b → AllByRecursion IsLogLine c → text_of b ++ r ≡ text_of c ++ s → Cuts b r c s
cuts [] [] r s f g e = same refl e
cuts [] (y ∷ c) r s f g e = shorter y c refl e
cuts (x ∷ b) [] r s f g e = longer x b refl (sym e)
cuts (x ∷ b) (y ∷ c) r s f g e = further (cuts b c r s f.1 g.1 cut.1) where
  left : (z : LogLine) (d : List LogLine) (t : List ℕ) → text_of (z ∷ d) ++ t ≡ log_line z ++ 10 ∷ (text_of d ++ t)
  left z d t = ap (λ (u : List ℕ). u ++ t) (text-cons z d) ∙ append_assoc (log_line z) (10 ∷ text_of d) t

  cut : (log_line x ≡ log_line y) × (text_of b ++ r ≡ text_of c ++ s)
  cut = cut-once (log_line x) (log_line y) (text_of b ++ r) (text_of c ++ s) (line_none x f.0) (line_none y g.0) (sym (left x b r) ∙ e ∙ left y c s)

  heads : x ≡ y
  heads = log_line-injective x y f.0 g.0 cut.0

  further : Cuts b r c s → Cuts (x ∷ b) r (y ∷ c) s
  further (same p q) = same (λ i. heads i ∷ p i) q
  further (shorter z more p q) = shorter z more (λ i. sym heads i ∷ p i) q
  further (longer z more p q) = longer z more (λ i. heads i ∷ p i) q

-- no further line can be read behind a first bad line
no-further : (k : ℕ) (b c : List LogLine) (r s : List ℕ) (x : LogLine) (more : List LogLine) → IsFirstBad k b r → IsFront c → length (text_of c) ≤ 67108864 → c ≡ b ++ x ∷ more → r ≡ text_of (x ∷ more) ++ s → ⊥
no-further k b c r s x more bad front small c_is r_is =
    let fits = subst (AllByRecursion IsLogLine) c_is (front-fits c front) in
    let whole : r ≡ log_line x ++ 10 ∷ (text_of more ++ s) = r_is ∙ ap (λ (t : List ℕ). t ++ s) (text-cons x more) ∙ append_assoc (log_line x) (10 ∷ text_of more) s in
    let size : length (text_of b) + (length (log_line x) + 1) ≤ 67108864 = omega (arith, small, ap (λ (l : List LogLine). length (text_of l)) c_is, ap length (flat_map-append (λ (y : LogLine). line (log_line y)) b (x ∷ more)), length-append (text_of b) (text_of (x ∷ more)), ap length (text-cons x more), length-append (log_line x) (10 ∷ text_of more)) in
    elim bad.bad [
      | inl next ↦ next.1 x (comes b x more r (text_of more ++ s) [] (all-parts IsLogLine b (x ∷ more) fits).1.0 (subst IsFront c_is front) whole size)
      | inr end ↦ absurd (omega (arith, ap length (sym whole ∙ end.0), length-append (log_line x) (10 ∷ (text_of more ++ s))))
    ]

pub one_bad : (bytes : List ℕ) (k l : ℕ) → HasFirstBad k bytes → HasFirstBad l bytes → l ≡ k
one_bad bytes k l p q = at (cuts p.0 q.0 p.1 q.1 (front-fits p.0 p.3.front) (front-fits q.0 q.3.front) (p.2 ∙ sym q.2)) where
  at : Cuts p.0 p.1 q.0 q.1 → l ≡ k
  at (shorter x more c_is r_is) = absurd (no-further k p.0 q.0 p.1 q.1 x more p.3 q.3.front q.3.small c_is r_is)
  at (longer x more b_is s_is) = absurd (no-further l q.0 p.0 q.1 p.1 x more q.3 p.3.front p.3.small b_is s_is)
  at (same b_is r_is) =
      elim p.3.bad [
        | inl n ↦
            elim q.3.bad [
              | inl m ↦ omega (arith, n.2, m.2, ap length b_is)
              | inr m ↦ absurd (omega (arith, n.0, ap length (r_is ∙ m.0)))
            ]
        | inr n ↦
            elim q.3.bad [
              | inl m ↦ absurd (omega (arith, m.0, ap length (sym r_is ∙ n.0)))
              | inr m ↦ omega (arith, n.2, m.2, ap length b_is)
            ]
      ]
