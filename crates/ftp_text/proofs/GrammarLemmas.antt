-- Lines in order, one by one.
use Rattle.std.proofs.Common.{◌≡◌, ℕ, zero, suc, ◌+◌, ◌-◌, ◌<◌, ◌≤◌, true, false, List, [], ◌∷◌, ◌++◌, length, take, drop, map, Some, refl, sym, ap, subst, ◌∙◌, append_assoc, arith}
use Rattle.std.specs.Prelude.{slice_get}
use Rattle.std.specs.List.{AllByRecursion}
use Rattle.std.proofs.lemmas.List.{append-nil, map-append, nil_from_length, take-append-drop}
use Rattle.ftp_hub.specs.declared.state.HubState.{HubState}
use Rattle.ftp_text.specs.declared.state_line.StateLine.{StateLine}
use Rattle.ftp_text.specs.Spelling.{state_line, IsStateLine}
use Rattle.ftp_text.specs.Grammar.{follows, IsChain, AreInLineOrder, may_stand_behind, no_state, with_line, with_lines, AreStateLines}
use Rattle.ftp_hub.specs.declared.state.StateError.{StateError}
use Rattle.ftp_hub.specs.declared.state.StateError.TheVariants as state_error
use Rattle.ftp_text.specs.StateText.{state_text, lines_in, IsSpelledBy, IsFirstBadStateLine, IsOfText}
use Rattle.ftp_text.proofs.LineLaws.{is_one}
use Rattle.ftp_text.proofs.StateLineLemmas.{reads_lines}
use Rattle.ftp_text.proofs.TextLemmas.{lines-text}
use Rattle.ftp_text.proofs.Lists.{all-append, all-parts}

-- ---- order

-- no line, or lines in order
abbrev pub Begun : List StateLine → Type 0
Begun [] = Unit {0}
Begun (line ∷ lines) = AreInLineOrder (line ∷ lines)

chain-more : (before : StateLine) (lines : List StateLine) (x : StateLine) → IsChain before lines → may_stand_behind (before ∷ lines) x ≡ true → IsChain before (lines ++ x ∷ [])
chain-more before [] x c h = (h, tt)
chain-more before (l ∷ lines) x c h = (c.0, chain-more l lines x c.1 h)

-- a line that may stand behind lines in order is in order with them
pub order-more : (lines : List StateLine) (x : StateLine) → Begun lines → may_stand_behind lines x ≡ true → AreInLineOrder (lines ++ x ∷ [])
order-more [] x c h = (h, tt)
order-more (l ∷ lines) x c h = (c.0, chain-more l lines x c.1 h)

chain-last : (before : StateLine) (lines : List StateLine) (x : StateLine) → IsChain before (lines ++ x ∷ []) → may_stand_behind (before ∷ lines) x ≡ true
chain-last before [] x c = c.0
chain-last before (l ∷ lines) x c = chain-last l lines x c.1

-- the last of lines in order may stand behind the others
pub order-last : (lines : List StateLine) (x : StateLine) → AreInLineOrder (lines ++ x ∷ []) → may_stand_behind lines x ≡ true
order-last [] x c = c.0
order-last (l ∷ lines) x c = chain-last l lines x c.1

chain-front : (before : StateLine) (lines more : List StateLine) → IsChain before (lines ++ more) → IsChain before lines
chain-front before [] more c = tt
chain-front before (l ∷ lines) more c = (c.0, chain-front l lines more c.1)

-- the first of lines in order are in order
pub order-front : (lines more : List StateLine) → Begun (lines ++ more) → Begun lines
order-front [] more c = tt
order-front (l ∷ lines) more c = (c.0, chain-front l lines more c.1)

pub begun-order : (lines : List StateLine) → AreInLineOrder lines → Begun lines
begun-order [] c = tt
begun-order (l ∷ lines) c = c

order-begun : (lines : List StateLine) → Begun lines → 0 < length lines → AreInLineOrder lines
order-begun [] c some = absurd (omega arith)
order-begun (l ∷ lines) c some = c

-- what stands last
pub last-stands : (lines : List StateLine) (before x : StateLine) → Some before ≡ slice_get lines (length lines - 1) → may_stand_behind lines x ≡ follows before x
last-stands [] before x e = absurd cc
last-stands (l ∷ []) before x e = let same : l ≡ before = cc in ap (λ (y : StateLine). follows y x) same
last-stands (l ∷ m ∷ lines) before x e =
    let next : length (l ∷ m ∷ lines) - 1 ≡ suc (length (m ∷ lines) - 1) = omega arith in
    last-stands (m ∷ lines) before x (e ∙ ap (slice_get (l ∷ m ∷ lines)) next)

-- ---- spelled lines

-- texts of lines, of which the last is known
pub record IsLast (lines : List StateLine) (texts : List (List ℕ)) (text : List ℕ) : Type 0 where
  pub front : List StateLine
  pub last : StateLine
  pub whole : lines ≡ front ++ last ∷ []
  pub texts_are : map state_line front ≡ texts
  pub text_is : state_line last ≡ text

pub last-text : (lines : List StateLine) (texts : List (List ℕ)) (text : List ℕ) → map state_line lines ≡ texts ++ text ∷ [] → IsLast lines texts text
last-text [] [] text e = absurd cc
last-text [] (t ∷ texts) text e = absurd cc
last-text (l ∷ []) [] text e = record { front = []; last = l; whole = refl; texts_are = refl; text_is = cc }
last-text (l ∷ m ∷ lines) [] text e = absurd cc
last-text (l ∷ lines) (t ∷ texts) text e =
    let others : map state_line lines ≡ texts ++ text ∷ [] = cc in
    let first : state_line l ≡ t = cc in
    let r = last-text lines texts text others in
    record {
      front = l ∷ r.front;
      last = r.last;
      whole = ap (λ (ls : List StateLine). l ∷ ls) r.whole;
      texts_are = cc (first, r.texts_are);
      text_is = r.text_is;
    }

-- no two lists of lines are spelled alike
pub lines-injective : (a b : List StateLine) → AllByRecursion IsStateLine a → AllByRecursion IsStateLine b → map state_line a ≡ map state_line b → a ≡ b
lines-injective [] [] p q e = refl
lines-injective [] (y ∷ b) p q e = absurd cc
lines-injective (x ∷ a) [] p q e = absurd cc
lines-injective (x ∷ a) (y ∷ b) p q e =
    let first : state_line x ≡ state_line y = cc in
    let others : map state_line a ≡ map state_line b = cc in
    let same : x ≡ y = is_one reads_lines (state_line x) x y (refl, p.0) (sym first, q.0) in
    let rest : a ≡ b = lines-injective a b p.1 q.1 others in
    cc (same, rest)

-- ---- what lines say

pub said-more : (x : HubState) (lines : List StateLine) (l : StateLine) → with_lines x (lines ++ l ∷ []) ≡ with_line (with_lines x lines) l
said-more x [] l = refl
said-more x (m ∷ lines) l = said-more (with_line x m) lines l

-- lines in order are those of what they say
pub lines-said : (lines : List StateLine) → AreInLineOrder lines → AllByRecursion IsStateLine lines → AreStateLines (with_lines no_state lines) lines
lines-said lines order fit = record { in_order = order; fit = fit; say = refl }

-- ---- the first bad line

-- how far a text is read
pub record IsReadTo (text rest : List ℕ) (lines : List StateLine) : Type 0 where
  pub begun : Begun lines
  pub fit : AllByRecursion IsStateLine lines
  pub texts : map state_line lines ++ lines_in rest ≡ lines_in text

take-map : (j : ℕ) (lines : List StateLine) → take j (map state_line lines) ≡ map state_line (take j lines)
take-map zero lines = refl
take-map (suc j) [] = refl
take-map (suc j) (l ∷ lines) = ap (λ (ts : List (List ℕ)). state_line l ∷ ts) (take-map j lines)

take-front : (j : ℕ) (a b : List (List ℕ)) → j ≤ length a → take j (a ++ b) ≡ take j a
take-front zero a b le = refl
take-front (suc j) [] b le = absurd (omega arith)
take-front (suc j) (x ∷ a) b le = ap (λ (ts : List (List ℕ)). x ∷ ts) (take-front j a b (omega (arith, le)))

take-more : (a : List (List ℕ)) (x : List ℕ) (b : List (List ℕ)) → take (length a + 1) (a ++ x ∷ b) ≡ a ++ x ∷ []
take-more [] x b = refl
take-more (y ∷ a) x b =
    let next : length (y ∷ a) + 1 ≡ suc (length a + 1) = omega arith in
    ap (λ (n : ℕ). take n (y ∷ a ++ x ∷ b)) next ∙ ap (λ (ts : List (List ℕ)). y ∷ ts) (take-more a x b)

length-map : (lines : List StateLine) → length (map state_line lines) ≡ length lines
length-map [] = refl
length-map (l ∷ lines) = omega (arith, length-map lines)

some-taken : (j : ℕ) (lines : List StateLine) → 0 < j → 0 < length lines → 0 < length (take j lines)
some-taken zero lines p q = absurd (omega (arith, p))
some-taken (suc j) [] p q = absurd (omega (arith, q))
some-taken (suc j) (l ∷ lines) p q = omega arith

-- the lines before are those of a state
good-front : (text rest : List ℕ) (lines : List StateLine) (j : ℕ) → IsReadTo text rest lines → 0 < j → j ≤ length lines →
    (x : HubState) × IsSpelledBy (take j (lines_in text)) x
good-front text rest lines j read some le =
    let whole : take j lines ++ drop j lines ≡ lines = take-append-drop j lines in
    let begun : Begun (take j lines) = order-front (take j lines) (drop j lines) (subst Begun (sym whole) read.begun) in
    let order : AreInLineOrder (take j lines) = order-begun (take j lines) begun (some-taken j lines some (omega (arith, some, le))) in
    let fit = (all-parts IsStateLine (take j lines) (drop j lines) (subst (AllByRecursion IsStateLine) (sym whole) read.fit)).0 in
    let texts : map state_line (take j lines) ≡ take j (lines_in text) =
    sym (take-map j lines) ∙ sym (take-front j (map state_line lines) (lines_in rest) (omega (arith, le, length-map lines))) ∙ ap (take j) read.texts in
    (with_lines no_state (take j lines), (take j lines, lines-said (take j lines) order fit, texts))

-- behind the lines that were read no line that may stand there is spelled so
pub first-bad : (text rest line : List ℕ) (behind : List (List ℕ)) (lines : List StateLine) (k : ℕ) → IsReadTo text rest lines → lines_in rest ≡ line ∷ behind → k ≡ length lines + 1 →
    ((x : StateLine) → IsStateLine x → state_line x ≡ line → may_stand_behind lines x ≡ false) →
    IsFirstBadStateLine k (lines_in text)
first-bad text rest line behind lines k read next count none = record {
  counts = omega (arith, count);
  bad = λ x spelled.
      let texts : map state_line lines ++ line ∷ behind ≡ lines_in text = ap (λ (ts : List (List ℕ)). map state_line lines ++ ts) (sym next) ∙ read.texts in
      let taken : take k (lines_in text) ≡ map state_line lines ++ line ∷ [] =
      ap (λ (n : ℕ). take n (lines_in text)) (count ∙ omega (arith, length-map lines))
      ∙ ap (take (length (map state_line lines) + 1)) (sym texts)
      ∙ take-more (map state_line lines) line behind in
      let is : IsLast spelled.0 (map state_line lines) line = last-text spelled.0 (map state_line lines) line (spelled.2 ∙ taken) in
      let fit = all-parts IsStateLine is.front (is.last ∷ []) (subst (AllByRecursion IsStateLine) is.whole spelled.1.fit) in
      let same : is.front ≡ lines = lines-injective is.front lines fit.0 read.fit is.texts_are in
      let stands : may_stand_behind is.front is.last ≡ true = order-last is.front is.last (subst AreInLineOrder is.whole spelled.1.in_order) in
      let stands_here : may_stand_behind lines is.last ≡ true = ap (λ (ls : List StateLine). may_stand_behind ls is.last) (sym same) ∙ stands in
      absurd (cc (stands_here, none is.last fit.1.0 is.text_is));
  good = λ j some lt. good-front text rest lines j read some (omega (arith, lt, count));
}

-- of no line no state is made
pub none-bad : (text : List ℕ) → lines_in text ≡ [] → IsFirstBadStateLine 1 (lines_in text)
none-bad text none = record {
  counts = omega arith;
  bad = λ x spelled.
      let nothing : take 1 (lines_in text) ≡ [] = ap (take 1) none in
      absurd (empty spelled.0 (spelled.2 ∙ nothing) spelled.1.in_order);
  good = λ j some lt. absurd (omega (arith, some, lt));
}
  where
    empty : (lines : List StateLine) → map state_line lines ≡ [] → AreInLineOrder lines → ⊥
    empty [] e order = order
    empty (l ∷ lines) e order = absurd cc

-- a line more was read
pub read-more : (text rest behind line : List ℕ) (lines new : List StateLine) (x : StateLine) → IsReadTo text rest lines → lines_in rest ≡ line ∷ lines_in behind →
    state_line x ≡ line → IsStateLine x → may_stand_behind lines x ≡ true → new ≡ lines ++ x ∷ [] → IsReadTo text behind new
read-more text rest behind line lines new x read next spelled fits stands is = subst (IsReadTo text behind) (sym is) (record {
  begun = begun-order (lines ++ x ∷ []) (order-more lines x read.begun stands);
  fit = all-append IsStateLine lines (x ∷ []) read.fit (fits, tt);
  texts =
      ap (λ (ts : List (List ℕ)). ts ++ lines_in behind) (map-append state_line lines (x ∷ []))
      ∙ append_assoc (map state_line lines) (state_line x ∷ []) (lines_in behind)
      ∙ ap (λ (t : List ℕ). map state_line lines ++ t ∷ lines_in behind) spelled
      ∙ ap (λ (ts : List (List ℕ)). map state_line lines ++ ts) (sym next)
      ∙ read.texts;
})

-- ---- the end of a text

-- at the end the lines that were read are those of the text
pub whole-read : (text rest : List ℕ) (lines : List StateLine) → IsReadTo text rest lines → rest ≡ [] → map state_line lines ≡ lines_in text
unfolding lines_in
whole-read text rest lines read none =
    sym (append-nil (map state_line lines)) ∙ ap (λ (t : List ℕ). map state_line lines ++ lines_in t) (sym none) ∙ read.texts

-- a text without lines
pub nothing-read : (text rest : List ℕ) (lines : List StateLine) → IsReadTo text rest lines → rest ≡ [] → length lines ≡ 0 → lines_in text ≡ []
nothing-read text rest lines read none count =
    sym (whole-read text rest lines read none) ∙ ap (map state_line) (nil_from_length lines count)

-- the text of a state is refused for want of memory alone
pub refused-for-memory : (text : List ℕ) (x : HubState) (lines : List StateLine) (e : StateError) → AreStateLines x lines → text ≡ state_text lines → IsOfText e →
    ((k : ℕ) → e ≡ state_error.BadLine k → IsFirstBadStateLine k (lines_in text)) →
    e ≡ state_error.OutOfMemory
refused-for-memory text x lines (state_error.BadLine k) is same of bad =
    let first : IsFirstBadStateLine k (lines_in text) = bad k refl in
    let texts : lines_in text ≡ map state_line lines = ap lines_in same ∙ lines-text lines is.fit in
    let whole : take k lines ++ drop k lines ≡ lines = take-append-drop k lines in
    let begun : Begun (take k lines) = order-front (take k lines) (drop k lines) (subst Begun (sym whole) (begun-order lines is.in_order)) in
    let order : AreInLineOrder (take k lines) = order-begun (take k lines) begun (some-taken k lines first.counts (some-lines lines is.in_order)) in
    let fit = (all-parts IsStateLine (take k lines) (drop k lines) (subst (AllByRecursion IsStateLine) (sym whole) is.fit)).0 in
    absurd (first.bad (with_lines no_state (take k lines)) (take k lines, lines-said (take k lines) order fit, sym (take-map k lines) ∙ ap (take k) (sym texts)))
  where
    some-lines : (ls : List StateLine) → AreInLineOrder ls → 0 < length ls
    some-lines [] o = absurd o
    some-lines (l ∷ ls) o = omega arith
refused-for-memory text x lines state_error.OutOfMemory is same of bad = refl
refused-for-memory text x lines _ is same of bad = absurd of

-- lines that are spelled as those of a state say the state
pub said-again : (text : List ℕ) (x y : HubState) (read lines : List StateLine) → AreStateLines x lines → text ≡ state_text lines →
    AllByRecursion IsStateLine read → map state_line read ≡ lines_in text → y ≡ with_lines no_state read → y ≡ x
said-again text x y read lines is same fit texts says =
    let equal : read ≡ lines = lines-injective read lines fit is.fit (texts ∙ ap lines_in same ∙ lines-text lines is.fit) in
    says ∙ ap (with_lines no_state) equal ∙ is.say
