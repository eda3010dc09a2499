-- A script as a function of its bytes, and that it is the only one.
use Rattle.std.proofs.Common.{◌≡◌, ℕ, zero, suc, ◌+◌, ◌≤◌, Bool, true, false, cond, ◌&&◌, leb, List, [], ◌∷◌, ◌++◌, length, Option, Some, None, refl, sym, ap, subst, ◌∙◌, arith}
use Rattle.std.specs.Prelude.{nat_le, if◌then◌else◌}
use Rattle.std.specs.List.{position_or_len}
use Rattle.std.proofs.lemmas.Bool.{le-leb, leb-true, and_parts}
use Rattle.std.proofs.lemmas.List.{length-drop, append-nil, append_assoc}
use Rattle.ftp_control.specs.Lines.{is_line_feed, first_line, behind_line}
use Rattle.ftp_text.specs.Reading.{◌>>=◌}
use Rattle.ftp_text.specs.declared.setup.Item.{Item}
use Rattle.ftp_text.specs.SetupReading.{item_of}
use Rattle.ftp_text.proofs.SetupLemmas.{item_takes, item_again}
use Rattle.ftp_script_run.specs.Laws.{LineHasOneItem, BytesAreOneScript}
use Rattle.ftp_script_run.specs.Script.{may_stand, ComesNext, line_size, Continues, IsScriptOf}

-- the item of a line behind these items, where the source has given so many bytes up to the line's end
abbrev pub line_item : List Item → ℕ → List ℕ → Option Item
line_item before taken line =
    if nat_le (length line) 65536 && nat_le taken 16777216 then (item_of line >>= λ i. if may_stand before i then Some i else None)
    else None

-- these items and what comes of a further one; without it, the number of the bad line, counted from 1
abbrev pub goes_on : List Item → Option Item → (Item → List Item × Option ℕ) → List Item × Option ℕ
goes_on before None others = (before, Some (length before + 1))
goes_on before (Some i) others = others i

-- the script whose lines so far gave these items, in so many bytes, and whose other lines are at most n and in these bytes
unfoldable pub script_from : ℕ → List Item → ℕ → List ℕ → List Item × Option ℕ
script_from zero before taken bytes = (before, None)
script_from (suc n) before taken [] = (before, None)
script_from (suc n) before taken (c ∷ bytes) =
    let more = taken + line_size (c ∷ bytes) in
    goes_on before (line_item before more (first_line (c ∷ bytes))) (λ i. script_from n (before ++ i ∷ []) more (behind_line (c ∷ bytes)))

-- the items of the lines before the first bad one, skipped lines included, and its number
abbrev pub script_of : List ℕ → List Item × Option ℕ
script_of bytes = script_from (length bytes) [] 0 bytes

-- ---- one line

-- a line is read as its item
line_item-is : (before : List Item) (taken : ℕ) (line : List ℕ) (i : Item) → ComesNext before taken line i → line_item before taken line ≡ Some i
line_item-is before taken line i next =
    let read : item_of line ≡ Some i = item_again line i next.spelled in
    rw (le-leb (length line) 65536 next.short, le-leb taken 16777216 next.small, read, next.stands) refl

-- what an item that was read tells of its line
record Tells (before : List Item) (line : List ℕ) (b : Bool) (i : Item) : Type 0 where
  fits : b ≡ true
  read : item_of line ≡ Some i
  stands : may_stand before i ≡ true

tells : (before : List Item) (line : List ℕ) (fits : Bool) (found : Option Item) (i : Item) →
    item_of line ≡ found →
    cond fits (found >>= λ j. cond (may_stand before j) (Some j) None) None ≡ Some i →
    Tells before line fits i
tells before line false found i read e = absurd cc
tells before line true None i read e = absurd cc
tells before line true (Some j) i read e = chosen (may_stand before j) refl e where
  chosen : (b : Bool) → may_stand before j ≡ b → cond b (Some j) None ≡ Some i → Tells before line true i
  chosen false p h = absurd cc
  chosen true p h = let same : j ≡ i = cc in record { fits = refl; read = read ∙ ap Some same; stands = ap (may_stand before) (sym same) ∙ p }

-- and an item that was read is the line's
line_item-next : (before : List Item) (taken : ℕ) (line : List ℕ) (i : Item) → line_item before taken line ≡ Some i → ComesNext before taken line i
line_item-next before taken line i e =
    let told = tells before line (leb (length line) 65536 && leb taken 16777216) (item_of line) i refl e in
    let parts = and_parts (leb (length line) 65536) (leb taken 16777216) told.fits in
    record {
      spelled = item_takes line i told.read;
      stands = told.stands;
      short = leb-true (length line) 65536 parts.0;
      small = leb-true taken 16777216 parts.1;
    }

pub one_item : LineHasOneItem
one_item line i j p q = let first = item_again line i p in let second = item_again line j q in let same : Some i ≡ Some j = sym first ∙ second in cc

-- ---- all lines

-- what was read, and that it is there
record Reads (n : ℕ) (before : List Item) (taken : ℕ) (bytes : List ℕ) : Type 0 where
  items : List Item
  bad : Option ℕ
  is : script_from n before taken bytes ≡ (before ++ items, bad)
  goes : Continues before taken bytes items bad

script_from-line : (n : ℕ) (before : List Item) (taken c : ℕ) (bytes : List ℕ) →
    script_from (suc n) before taken (c ∷ bytes)
    ≡ goes_on before (line_item before (taken + line_size (c ∷ bytes)) (first_line (c ∷ bytes))) (λ i. script_from n (before ++ i ∷ []) (taken + line_size (c ∷ bytes)) (behind_line (c ∷ bytes)))
unfolding script_from
script_from-line n before taken c bytes = refl

reads-end : (n : ℕ) (before : List Item) (taken : ℕ) → Reads n before taken []
unfolding script_from
reads-end zero before taken = record { items = []; bad = None; is = ap (λ (x : List Item). (x, None)) (sym (append-nil before)); goes = refl }
reads-end (suc n) before taken = record { items = []; bad = None; is = ap (λ (x : List Item). (x, None)) (sym (append-nil before)); goes = refl }

reads : (n : ℕ) (before : List Item) (taken : ℕ) (bytes : List ℕ) → length bytes ≤ n → Reads n before taken bytes
reads n before taken [] le = reads-end n before taken
reads zero before taken (c ∷ bytes) le = absurd (omega arith)
reads (suc n) before taken (c ∷ bytes) le =
    let shorter : length (behind_line (c ∷ bytes)) ≤ n = omega (arith, length-drop (position_or_len is_line_feed (c ∷ bytes) + 1) (c ∷ bytes)) in
    by (λ i. reads n (before ++ i ∷ []) more (behind_line (c ∷ bytes)) shorter) (line_item before more line) refl where
      more : ℕ
      more = taken + line_size (c ∷ bytes)

      line : List ℕ
      line = first_line (c ∷ bytes)

      others : Item → List Item × Option ℕ
      others i = script_from n (before ++ i ∷ []) more (behind_line (c ∷ bytes))

      by : ((i : Item) → Reads n (before ++ i ∷ []) more (behind_line (c ∷ bytes))) → (found : Option Item) → line_item before more line ≡ found → Reads (suc n) before taken (c ∷ bytes)
      by goes None e = record {
        items = [];
        bad = Some (length before + 1);
        is =
            script_from-line n before taken c bytes ∙ ap (λ (o : Option Item). goes_on before o others) e
            ∙ ap (λ (x : List Item). (x, Some (length before + 1))) (sym (append-nil before));
        goes = (omega arith, λ i next. (let is = line_item-is before more line i next in absurd cc), refl);
      }
      by goes (Some i) e =
          let on = goes i in
          record {
            items = i ∷ on.items;
            bad = on.bad;
            is =
                script_from-line n before taken c bytes ∙ ap (λ (o : Option Item). goes_on before o others) e ∙ on.is
                ∙ ap (λ (x : List Item). (x, on.bad)) (append_assoc before (i ∷ []) on.items);
            goes = (omega arith, line_item-next before more line i e, on.goes);
          }

-- the bytes are the script that is read of them
pub script_read : {bytes : List ℕ} {items : List Item} {bad : Option ℕ} → script_of bytes ≡ (items, bad) → IsScriptOf bytes items bad
script_read {bytes} {items} {bad} e =
    let found = reads (length bytes) [] 0 bytes (omega arith) in
    record { lines = subst (λ (x : List Item × Option ℕ). Continues [] 0 bytes x.0 x.1) (sym found.is ∙ e) found.goes }

-- bytes go on in one way
continues-once : (before items others : List Item) (taken : ℕ) (bytes : List ℕ) (bad worse : Option ℕ) →
    Continues before taken bytes items bad →
    Continues before taken bytes others worse →
    (others ≡ items) × (worse ≡ bad)
continues-once before [] [] taken bytes None None h g = (refl, refl)
continues-once before [] [] taken bytes None (Some k) h g = absurd (omega (arith, ap length h, g.0))
continues-once before [] [] taken bytes (Some k) None h g = absurd (omega (arith, ap length g, h.0))
continues-once before [] [] taken bytes (Some k) (Some l) h g = (refl, ap Some (g.2 ∙ sym h.2))
continues-once before [] (j ∷ others) taken bytes None worse h g = absurd (omega (arith, ap length h, g.0))
continues-once before [] (j ∷ others) taken bytes (Some k) worse h g = absurd (h.1 j g.1)
continues-once before (i ∷ items) [] taken bytes bad None h g = absurd (omega (arith, ap length g, h.0))
continues-once before (i ∷ items) [] taken bytes bad (Some l) h g = absurd (g.1 i h.1)
continues-once before (i ∷ items) (j ∷ others) taken bytes bad worse h g =
    let more = taken + line_size bytes in
    let same : j ≡ i = one_item (first_line bytes) j i g.1.spelled h.1.spelled in
    let on = continues-once (before ++ i ∷ []) items others more (behind_line bytes) bad worse h.2
    (subst (λ (x : Item). Continues (before ++ x ∷ []) more (behind_line bytes) others worse) same g.2) in (
      ap (λ (x : Item). x ∷ others) same ∙ ap (λ (x : List Item). i ∷ x) on.0,
      on.1,
    )

-- a script is one in one way
pub script-once : (bytes : List ℕ) (items others : List Item) (bad worse : Option ℕ) →
    IsScriptOf bytes items bad →
    IsScriptOf bytes others worse →
    (others ≡ items) × (worse ≡ bad)
script-once bytes items others bad worse h g = continues-once [] items others 0 bytes bad worse h.lines g.lines

pub one_script : BytesAreOneScript
one_script bytes =
    let found = reads (length bytes) [] 0 bytes (omega arith) in
    let is : IsScriptOf bytes found.items found.bad = record { lines = found.goes } in
    (found.items, found.bad, is, λ others worse h. script-once bytes found.items others found.bad worse is h)
