-- How what stands before a script is read.
use Rattle.std.proofs.Common.{◌≡◌, ℕ, zero, suc, ◌+◌, ◌-◌, ◌<◌, ◌≤◌, Bool, true, false, not, cond, eqb, List, [], ◌∷◌, ◌++◌, length, take, drop, Option, Some, None, refl, sym, ap, subst, ◌∙◌, append_assoc, append-nil, arith}
use Rattle.std.specs.Prelude.{IfNone, IfSome, slice_range}
use Rattle.std.specs.List.{AllByRecursion, position_or_len, prefix_len}
use Rattle.std.proofs.lemmas.List.Concat.{flat_map-append}
use Rattle.std.proofs.lemmas.List.{take-append-le, drop-append-le, drop-drop, drop-take, take-append-drop, take_all, length-append}
use Rattle.std.proofs.lemmas.Bool.Decides.{nat_tests}
use Rattle.memchr.specs.Find.{IsFirstByte, is_byte}
use Rattle.std.proofs.Math.Seq.{take-append-add, drop-append-add, take-length}
use Rattle.ftp_base.specs.Outside.{ReadsFront}
use Rattle.ftp_control.specs.Lines.{is_line_feed, first_line, behind_line, HasNoFeed, Rest}
use Rattle.ftp_control.proofs.LineLemmas.{length-bytes_in, line_feed_found, line_feed_none, pos_found, pos_none}
use Rattle.ftp_options.specs.declared.host.PassiveHost.{PassiveHost}
use Rattle.ftp_options.specs.declared.lockout.FailedLoginsPolicy.{FailedLoginsPolicy}
use Rattle.ftp_options.specs.declared.options.ActivePassiveMode.{ActivePassiveMode}
use Rattle.ftp_options.specs.declared.options.ListenerMode.{ListenerMode}
use Rattle.ftp_text.specs.declared.setup.Item.{Item}
use Rattle.ftp_text.specs.declared.setup.Item.TheVariants as item
use Rattle.ftp_text.specs.Setup.{IsItem, IsItemOf}
use Rattle.ftp_text.proofs.Exact.{Pass}
use Rattle.ftp_text.specs.StateText.{lines_in}
use Rattle.ftp_text.proofs.FieldFeeds.{HasNone, is_line_byte}
use Rattle.ftp_text.proofs.Lists.{all-append, all-parts}
use Rattle.ftp_text.proofs.TextLemmas.{lines-line}
use Rattle.ftp_script_run.specs.declared.head.Head.{Head}
use Rattle.ftp_script_run.specs.Resumed.{AreOfOptions, AreOptionsLines, FindsHead, HasLines, IsOptionsLine, KeepsLines, ReadsHead, ReadsLine, bar, sets_options, with_feeds}

-- ---- a line

-- a search from the front
whole-range : (held : List ℕ) → slice_range held 0 (length held) ≡ held
whole-range held = take_all (length held - 0) held (omega arith)

pub feed-found : (held : List ℕ) (i : ℕ) → IsFirstByte (is_byte 10) held (Some i) → (i < length held) × (position_or_len is_line_feed held ≡ i)
feed-found held i searched =
    let found = line_feed_found held 0 i (omega arith) (omega arith) (subst (λ (x : List ℕ). IsFirstByte (is_byte 10) x (Some i)) (sym (whole-range held)) searched) in (
      omega (arith, found.0),
      found.1 ∙ omega arith,
    )

pub feed-none : (held : List ℕ) → IsFirstByte (is_byte 10) held None → HasNoFeed held
feed-none held searched = line_feed_none held 0 (omega arith) (omega arith) (subst (λ (x : List ℕ). IsFirstByte (is_byte 10) x None) (sym (whole-range held)) searched)

-- the line feed is among what is held
pub line-ends : (bytes line grown buffer : List ℕ) (start end k : ℕ) (left : Option (List ℕ)) →
    start ≤ end →
    end ≤ length buffer →
    HasNoFeed line →
    position_or_len is_line_feed (take (end - start) (drop start buffer)) ≡ k →
    k < length (take (end - start) (drop start buffer)) →
    Rest (line ++ take (end - start) (drop start buffer)) left bytes →
    grown ≡ line ++ take k (take (end - start) (drop start buffer)) →
    ReadsLine true bytes grown (take (end - (start + (k + 1))) (drop (start + (k + 1)) buffer)) left
line-ends bytes line grown buffer start end k None le within none pos lt rest grows = absurd rest
line-ends bytes line grown buffer start end k (Some l) le within none pos lt rest grows =
    let H = take (end - start) (drop start buffer) in
    let len : length H ≡ end - start = length-bytes_in buffer start end le within in
    let all : line ++ (H ++ l) ≡ bytes = sym (append_assoc line H l) ∙ rest in
    let p : position_or_len is_line_feed bytes ≡ length line + k =
    ap (position_or_len is_line_feed) (sym all) ∙ pos_none line (H ++ l) none ∙ ap (λ (n : ℕ). length line + n) (pos_found H l k pos lt) in
    let front : first_line bytes ≡ line ++ take k H =
    ap (λ (n : ℕ). take n bytes) p ∙ ap (take (length line + k)) (sym all) ∙ take-append-add line (H ++ l) k
    ∙ ap (λ (x : List ℕ). line ++ x) (take-append-le k H l (omega arith)) in
    let far : length line + k + 1 ≡ length line + (k + 1) = omega arith in
    let behind : behind_line bytes ≡ drop (k + 1) H ++ l =
    ap (λ (n : ℕ). drop (n + 1) bytes) p ∙ ap (λ (n : ℕ). drop n bytes) far ∙ ap (drop (length line + (k + 1))) (sym all)
    ∙ drop-append-add line (H ++ l) (k + 1)
    ∙ drop-append-le (k + 1) H l (omega arith) in
    let held : take (end - (start + (k + 1))) (drop (start + (k + 1)) buffer) ≡ drop (k + 1) H =
    let m : k + 1 + (end - (start + (k + 1))) ≡ end - start = omega (arith, len) in
    ap (take (end - (start + (k + 1)))) (sym (drop-drop (k + 1) start buffer))
    ∙ sym (drop-take (k + 1) (end - (start + (k + 1))) (drop start buffer))
    ∙ ap (λ (n : ℕ). drop (k + 1) (take n (drop start buffer))) m in (
      omega (arith, ap length (sym all), length-append line (H ++ l), length-append H l, lt),
      grows ∙ sym front,
      ap (λ (x : List ℕ). x ++ l) held ∙ sym behind,
    )

-- no line feed is among what is held, and the source gives more
pub line-no_feed : (line held grown : List ℕ) → HasNoFeed line → HasNoFeed held → grown ≡ line ++ held → HasNoFeed grown
line-no_feed line held grown none more grows =
    ap (position_or_len is_line_feed) grows ∙ pos_none line held none ∙ ap (λ (n : ℕ). length line + n) more
    ∙ sym (length-append line held)
    ∙ sym (ap length grows)

pub line-on : (bytes line held grown out : List ℕ) (n : ℕ) (left later : Option (List ℕ)) →
    Rest (line ++ held) left bytes →
    grown ≡ line ++ held →
    IfSome left (λ l. ReadsFront l later n out) →
    Rest (grown ++ take (n - 0) (drop 0 out)) later bytes
line-on bytes line held grown out n None later rest grows read = absurd rest
line-on bytes line held grown out n (Some l) later rest grows read =
    let same : n - 0 ≡ n = omega arith in
    subst (λ (o : Option (List ℕ)). Rest (grown ++ take (n - 0) (drop 0 out)) o bytes) (sym read.rest)
    (append_assoc grown (take (n - 0) (drop 0 out)) (drop n l)
    ∙ ap (λ (m : ℕ). grown ++ (take m out ++ drop n l)) same
    ∙ ap (λ (x : List ℕ). grown ++ (x ++ drop n l)) read.front
    ∙ ap (λ (x : List ℕ). grown ++ x) (take-append-drop n l)
    ∙ ap (λ (x : List ℕ). x ++ l) grows
    ∙ rest)

-- the source is at its end
pub line-last : (bytes line held grown out : List ℕ) (empty : Bool) (n count : ℕ) (left later : Option (List ℕ)) →
    HasNoFeed grown →
    Rest (line ++ held) left bytes →
    grown ≡ line ++ held →
    IfSome left (λ l. ReadsFront l later n out) →
    0 < length out →
    n ≡ 0 →
    empty ≡ eqb count 0 →
    count ≡ length grown →
    ReadsLine (not empty) bytes grown (take (n - 0) (drop 0 out)) later
line-last bytes line held grown out empty n count None later none rest grows read room at is len = absurd rest
line-last bytes line held grown out empty n count (Some l) later none rest grows read room at is len =
    let nil : l ≡ [] = read.end room at in
    let all : grown ≡ bytes = grows ∙ sym (append-nil (line ++ held)) ∙ ap (λ (x : List ℕ). (line ++ held) ++ x) (sym nil) ∙ rest in
    let nothing : later ≡ Some [] = read.rest ∙ ap Some (ap (drop n) nil ∙ drop-none n) in
    let kept : take (n - 0) (drop 0 out) ≡ [] =
    let zero_is : n - 0 ≡ 0 = omega arith in ap (λ (m : ℕ). take m out) zero_is in
    subst (λ (h : List ℕ). ReadsLine (not empty) bytes grown h later) (sym kept)
    (by empty (λ (no : empty ≡ false). grind (arith, nat_tests)) (λ (yes : empty ≡ true). nil_of grown (grind (arith, nat_tests))) all nothing) where
      nil_of : (w : List ℕ) → length w ≡ 0 → w ≡ []
      nil_of [] e = refl
      nil_of (b ∷ w) e = absurd (omega arith)

      drop-none : (n : ℕ) → drop {A = ℕ} n [] ≡ []
      drop-none zero = refl
      drop-none (suc n) = refl

      past : (w : List ℕ) → drop (length w + 1) w ≡ []
      past w = ap (drop (length w + 1)) (sym (append-nil w)) ∙ drop-append-add w [] 1

      by : (b : Bool) → (b ≡ false → 0 < length grown) → (b ≡ true → grown ≡ []) → grown ≡ bytes → later ≡ Some [] → ReadsLine (not b) bytes grown [] later
      by false some none_is all nothing =
          let p : position_or_len is_line_feed bytes ≡ length grown = ap (position_or_len is_line_feed) (sym all) ∙ none in (
            omega (arith, some refl, ap length all),
            sym (ap (λ (k : ℕ). take k bytes) p ∙ ap (take (length grown)) (sym all) ∙ take-length grown),
            subst (λ (o : Option (List ℕ)). Rest [] o (behind_line bytes)) (sym nothing)
                (sym (ap (λ (k : ℕ). drop (k + 1) bytes) p ∙ ap (drop (length grown + 1)) (sym all) ∙ past grown)),
          )
      by true some none_is all nothing = (sym all ∙ none_is refl, refl, nothing)

-- ---- lines at the front

-- up to the first byte that fails all pass
front-passes : (test : ℕ → Bool) (bytes : List ℕ) → Pass test (take (prefix_len test bytes) bytes)
front-passes test [] = tt
front-passes test (b ∷ bytes) = by (test b) refl (front-passes test bytes) where
  by : (passes : Bool) → test b ≡ passes → Pass test (take (prefix_len test bytes) bytes) → Pass test (take (cond passes (1 + prefix_len test bytes) 0) (b ∷ bytes))
  by true e more =
      let next : 1 + prefix_len test bytes ≡ suc (prefix_len test bytes) = omega arith in
      subst (λ (n : ℕ). Pass test (take n (b ∷ bytes))) (sym next) (e, more)
  by false e more = tt

-- a first line has no line feed
pub first-none : (bytes : List ℕ) → HasNone (first_line bytes)
first-none bytes = front-passes is_line_byte bytes

-- lines at the front have none
lines-none : (lines : List (List ℕ)) (rest bytes : List ℕ) → HasLines lines rest bytes → AllByRecursion HasNone lines
lines-none [] rest bytes is = tt
lines-none (line ∷ lines) rest bytes is = (subst HasNone is.1 (first-none bytes), lines-none lines rest (behind_line bytes) is.2)

-- one line more stands at the front
lines-more : (lines : List (List ℕ)) (rest bytes line : List ℕ) → HasLines lines rest bytes → 0 < length rest → line ≡ first_line rest → HasLines (lines ++ line ∷ []) (behind_line rest) bytes
lines-more [] rest bytes line is some first = subst (λ (b : List ℕ). HasLines (line ∷ []) (behind_line rest) b) (sym is) (some, sym first, refl)
lines-more (l ∷ lines) rest bytes line is some first = (is.0, is.1, lines-more lines rest (behind_line bytes) line is.2 some first)

-- the lines of a text of lines
feeds-lines : (texts : List (List ℕ)) → AllByRecursion HasNone texts → lines_in (with_feeds texts) ≡ texts
unfolding lines_in
feeds-lines [] none = refl
feeds-lines (line ∷ texts) none =
    ap lines_in (append_assoc line (10 ∷ []) (with_feeds texts))
    ∙ lines-line line (with_feeds texts) none.0
    ∙ ap (λ (ts : List (List ℕ)). line ∷ ts) (feeds-lines texts none.1)

-- one line more
feeds-more : (texts : List (List ℕ)) (line : List ℕ) → with_feeds (texts ++ line ∷ []) ≡ with_feeds texts ++ (line ++ 10 ∷ [])
feeds-more texts line =
    flat_map-append (λ (l : List ℕ). l ++ 10 ∷ []) texts (line ∷ [])
    ∙ ap (λ (x : List ℕ). with_feeds texts ++ x) (append-nil (line ++ 10 ∷ []))

-- ---- what stands before a script

-- what follows is that of the options line, whatever stands behind
options-more : (first lines more : List (List ℕ)) (options : Option Item) → 0 < length lines → AreOptionsLines first options lines → AreOptionsLines first options (lines ++ more)
options-more [] [] more None some are = absurd (omega arith)
options-more [] (line ∷ lines) more None some are = are
options-more [] lines more (Some i) some are = absurd are
options-more (line ∷ []) lines more (Some i) some are = are
options-more (line ∷ []) lines more None some are = absurd are
options-more (line ∷ next ∷ first) lines more options some are = absurd are

-- nothing is there
pub head-empty : (bytes line held : List ℕ) (left : Option (List ℕ)) → ReadsLine false bytes line held left → ReadsHead bytes None [] false line held left
head-empty bytes line held left read = record {
  first = [];
  rest = [];
  lines = read.0;
  options_are = tt;
  none = tt;
  count = refl;
  behind = (refl, read.2);
}

-- the first line is none of options
pub head-bare : (bytes line held : List ℕ) (left : Option (List ℕ)) → ReadsLine true bytes line held left → ((i : Item) → IsOptionsLine line i → ⊥) → ReadsHead bytes None [] true line held left
head-bare bytes line held left read none = record {
  first = [];
  rest = behind_line bytes;
  lines = (read.0, sym read.1, refl);
  options_are = none;
  none = tt;
  count = refl;
  behind = read.2;
}

-- the first line is one of options
pub head-options : (bytes line held next out : List ℕ) (left later : Option (List ℕ)) (there : Bool) (i : Item) →
    ReadsLine true bytes line held left →
    IsOptionsLine line i →
    IfSome left (λ l. ReadsLine there (held ++ l) next out later) →
    ReadsHead bytes (Some i) [] there next out later
head-options bytes line held next out None later there i read is more = absurd read.2
head-options bytes line held next out (Some l) later true i read is more = record {
  first = line ∷ [];
  rest = behind_line (held ++ l);
  lines = (read.0, sym read.1, subst (λ (b : List ℕ). HasLines (next ∷ []) (behind_line (held ++ l)) b) read.2 (more.0, sym more.1, refl));
  options_are = is;
  none = tt;
  count = refl;
  behind = more.2;
}
head-options bytes line held next out (Some l) later false i read is more = record {
  first = line ∷ [];
  rest = [];
  lines = (read.0, sym read.1, sym read.2 ∙ more.0);
  options_are = is;
  none = tt;
  count = refl;
  behind = (refl, more.2);
}

-- the line that is looked at is one of the state, and the next was read
pub head-more : (bytes line held next out : List ℕ) (options : Option Item) (texts : List (List ℕ)) (left later : Option (List ℕ)) (there : Bool) →
    ReadsHead bytes options texts true line held left →
    (line ≡ bar → ⊥) →
    IfSome left (λ l. ReadsLine there (held ++ l) next out later) →
    ReadsHead bytes options (texts ++ line ∷ []) there next out later
head-more bytes line held next out options texts None later there read other more = absurd read.behind
head-more bytes line held next out options texts (Some l) later true read other more = record {
  first = read.first;
  rest = behind_line read.rest;
  lines =
      subst (λ (ls : List (List ℕ)). HasLines ls (behind_line read.rest) bytes) (append_assoc read.first (texts ++ line ∷ []) (next ∷ []))
      (lines-more (read.first ++ (texts ++ line ∷ [])) read.rest bytes next read.lines
      (subst (λ (b : List ℕ). 0 < length b) read.behind more.0) (more.1 ∙ ap first_line read.behind));
  options_are = options-more read.first (texts ++ line ∷ []) (next ∷ []) options (omega (arith, length-append texts (line ∷ []))) read.options_are;
  none = all-append (λ (l : List ℕ). l ≡ bar → ⊥) texts (line ∷ []) read.none (other, tt);
  count = read.count;
  behind = subst (λ (b : List ℕ). Rest out later (behind_line b)) read.behind more.2;
}
head-more bytes line held next out options texts (Some l) later false read other more = record {
  first = read.first;
  rest = read.rest;
  lines = subst (λ (ls : List (List ℕ)). HasLines (read.first ++ ls) read.rest bytes) (sym (append-nil (texts ++ line ∷ []))) read.lines;
  options_are = subst (λ (ls : List (List ℕ)). AreOptionsLines read.first options ls) (sym (append-nil (texts ++ line ∷ []))) read.options_are;
  none = all-append (λ (l : List ℕ). l ≡ bar → ⊥) texts (line ∷ []) read.none (other, tt);
  count = read.count;
  behind = (sym read.behind ∙ more.0, more.2);
}

-- and it is kept
pub keeps-more : (old new : Head) (bytes line held : List ℕ) (texts : List (List ℕ)) (left : Option (List ℕ)) →
    ReadsHead bytes old.options texts true line held left →
    new.text.items ≡ old.text.items ++ (line ++ 10 ∷ []) →
    new.lines ≡ old.lines + 1 →
    KeepsLines old texts →
    KeepsLines new (texts ++ line ∷ [])
keeps-more old new bytes line held texts left read text lines kept =
    let whole : new.text.items ≡ with_feeds (texts ++ line ∷ []) =
    text ∙ ap (λ (t : List ℕ). t ++ (line ++ 10 ∷ [])) kept.text ∙ sym (feeds-more texts line) in
    record {
      text = whole;
      lines = ap lines_in whole ∙ feeds-lines (texts ++ line ∷ []) (all-parts HasNone read.first (texts ++ line ∷ []) (lines-none (read.first ++ (texts ++ line ∷ [])) read.rest bytes read.lines)).1;
      count = lines ∙ omega (arith, kept.count, length-append texts (line ∷ []));
    }

-- nothing is kept yet
pub keeps-nothing : (head : Head) → head.text.items ≡ [] → head.lines ≡ 0 → KeepsLines head []
unfolding lines_in
keeps-nothing head text lines = record { text = text; lines = ap lines_in text; count = lines }

-- the line of two hyphens came
pub head-closed : (head : Head) (bytes line held : List ℕ) (texts : List (List ℕ)) (left : Option (List ℕ)) →
    ReadsHead bytes head.options texts true line held left →
    line ≡ bar →
    KeepsLines head texts →
    FindsHead true head texts bytes held left
head-closed head bytes line held texts left read same kept = (
  read.rest,
  record {
    first = read.first;
    lines = subst (λ (l : List ℕ). HasLines (read.first ++ (texts ++ l ∷ [])) read.rest bytes) same read.lines;
    options_are = subst (λ (l : List ℕ). AreOptionsLines read.first head.options (texts ++ l ∷ [])) same read.options_are;
    none = read.none;
    count = omega (arith, read.count, kept.count);
  },
  read.behind,
)

-- the source is at its end
pub head-open : (head : Head) (bytes line held : List ℕ) (texts : List (List ℕ)) (left : Option (List ℕ)) →
    ReadsHead bytes head.options texts false line held left →
    KeepsLines head texts →
    FindsHead false head texts bytes held left
head-open head bytes line held texts left read kept = (
  record {
    first = read.first;
    lines =
        subst (λ (r : List ℕ). HasLines (read.first ++ texts) r bytes) read.behind.0
        (subst (λ (ls : List (List ℕ)). HasLines (read.first ++ ls) read.rest bytes) (append-nil texts) read.lines);
    options_are = subst (λ (ls : List (List ℕ)). AreOptionsLines read.first head.options ls) (append-nil texts) read.options_are;
    none = read.none;
    count = omega (arith, read.count, kept.count);
  },
  read.behind.1,
)

-- what is kept stays where the lines do
pub keeps-same : (old new : Head) (texts : List (List ℕ)) → new.text.items ≡ old.text.items → new.lines ≡ old.lines → KeepsLines old texts → KeepsLines new texts
keeps-same old new texts text lines kept = record { text = text ∙ kept.text; lines = ap lines_in text ∙ kept.lines; count = lines ∙ kept.count }

-- ---- an options line

-- an item that was read of a line, and sets options
pub options-found : (line : List ℕ) (i : Item) (found : Option Item) → IsItemOf line i → length line ≤ 65536 → IfSome found (λ j. (j ≡ i) × (sets_options j ≡ true)) → IfSome found (λ j. IsOptionsLine line j)
options-found line i None is short told = tt
options-found line i (Some j) is short told = record { spelled = subst (IsItemOf line) (sym told.0) is; sets = told.1; short = short }

-- what sets options is an options line
pub by-options : (P : Item → Type 0) →
    ((mode : ListenerMode) (lo hi : ℕ) (host : PassiveHost) (active : ActivePassiveMode) (idle : ℕ) (lockout : Option FailedLoginsPolicy) (restart : Bool) → P (item.Options mode lo hi host active idle lockout restart)) →
    (i : Item) → sets_options i ≡ true → P i
by-options P each (item.Options mode lo hi host active idle lockout restart) sets = each mode lo hi host active idle lockout restart
by-options P each item.Skip sets = absurd cc
by-options P each (item.Storage max fails) sets = absurd cc
by-options P each (item.Dir path) sets = absurd cc
by-options P each (item.File bytes path) sets = absurd cc
by-options P each (item.Quota default) sets = absurd cc
by-options P each (item.Budget bytes user) sets = absurd cc
by-options P each (item.Link n chunk fails bytes) sets = absurd cc
by-options P each (item.Event e) sets = absurd cc

lawful-options : (line : List ℕ) (i : Item) → sets_options i ≡ true → IsItemOf line i → IsItem i
lawful-options line = by-options (λ i. IsItemOf line i → IsItem i) (λ mode lo hi host active idle lockout restart is. is.1)

pub options-lawful : (line : List ℕ) (i : Item) (found : Option Item) → IsItemOf line i → IfSome found (λ j. (j ≡ i) × (sets_options j ≡ true)) → AreOfOptions found
options-lawful line i None is told = tt
options-lawful line i (Some j) is told = (lawful-options line j told.1 (subst (IsItemOf line) (sym told.0) is), told.1)

-- none that sets options
pub options-none : (line : List ℕ) (i : Item) (found : Option Item) → ((j : Item) → IsItemOf line j → i ≡ j) → IfNone found (sets_options i ≡ false) → IfNone found ((j : Item) → IsOptionsLine line j → ⊥)
options-none line i None only none = λ j is.
    (let sets : sets_options i ≡ true = ap sets_options (only j is.spelled) ∙ is.sets in absurd cc)
options-none line i (Some j) only none = tt
