-- Each line of a state is read exactly.
use Rattle.std.proofs.Common.{◌≡◌, ℕ, Bool, cond, eqb, List, [], ◌∷◌, ◌++◌, length, take, drop, Option, Some, None, refl, sym, ap, subst, ◌∙◌}
use Rattle.std.specs.Prelude.{Result}
use Rattle.std.specs.List.{position_or_len}
use Rattle.std.proofs.lemmas.Bool.{eqb-true, leb-true, le-leb}
use Rattle.std.proofs.lemmas.Option.{cond_some}
use Rattle.std.proofs.lemmas.List.{append-nil, nil_from_length}
use Rattle.ftp_text.specs.declared.fault.LineFault.{LineFault}
use Rattle.ftp_text.specs.Reading.{◌>>=◌, Gives, is_space, last_value, word_at, word_value, by_word}
use Rattle.ftp_text.proofs.Exact.{Ends, IsNil, bind_ok, made_takes, made_again}
use Rattle.ftp_text.specs.declared.state_line.StateLine.{StateLine}
use Rattle.ftp_text.specs.declared.state_line.StateLine.TheVariants as says
use Rattle.ftp_text.specs.LineWords.{LineWord}
use Rattle.ftp_text.specs.LineWords as word
use Rattle.ftp_text.specs.Spelling.{line_word_text, line_fields, line_word_of, state_line, IsStateLine}
use Rattle.ftp_text.specs.StateLineReading.{checkpoint_at, used_at, slot_at, line_words, line_behind, line_word_at, line_at, state_line_of}
use Rattle.ftp_text.proofs.LineLaws.{ReadsLines, spelled_lines}
use Rattle.ftp_text.proofs.CellLemmas.{line_word_is}
use Rattle.ftp_text.proofs.RowLemmas.{checkpoint_is, used_is, SlotFields, slot_is, record_is, session_is, queued_is, job_is}

-- ---- lines, by their words

abbrev Is : LineWord → StateLine → Type 0
Is w x = (line_word_of x ≡ w) × IsStateLine x

-- what is read behind a word is what a line of the word spells there
behind_takes : (w : LineWord) (bytes : List ℕ) (y : StateLine × List ℕ) → line_behind w bytes ≡ Some y → (bytes ≡ line_fields y.0 ++ y.1) × Is w y.0
unfolding checkpoint_at used_at slot_at
behind_takes word.Checkpoint bytes y e = made_takes checkpoint_is (λ x. says.Checkpoint x.0 x.1) line_fields (Is word.Checkpoint) [] (λ x. refl) (λ x f. (refl, f.0)) bytes y e
behind_takes word.Used bytes y e =
    made_takes used_is (λ x. says.Used (record { lo = x.0; hi = x.1 })) line_fields (Is word.Used) [] (λ x. refl) (λ x f. (refl, (f.0.0, f.0.1, leb-true x.0 x.1 f.1))) bytes y e
behind_takes word.Record bytes y e = made_takes record_is says.Record line_fields (Is word.Record) [] (λ x. refl) (λ x f. (refl, f)) bytes y e
behind_takes word.Session bytes y e = made_takes session_is says.Session line_fields (Is word.Session) [] (λ x. refl) (λ x f. (refl, f)) bytes y e
behind_takes word.Slot bytes y e =
    made_takes slot_is (λ x. says.Slot (record { session = x.0; at = x.1.0; what = x.1.1 })) line_fields (Is word.Slot) [] (λ x. refl) (λ x f. (refl, (f.0, f.1.0, f.1.1))) bytes y e
behind_takes word.Queued bytes y e = made_takes queued_is says.Queued line_fields (Is word.Queued) [] (λ x. refl) (λ x f. (refl, f)) bytes y e
behind_takes word.Job bytes y e = made_takes job_is says.Job line_fields (Is word.Job) [] (λ x. refl) (λ x f. (refl, f)) bytes y e

-- what a line spells behind its word is read as the line
behind_again : (x : StateLine) (rest : List ℕ) → IsStateLine x → IsNil rest → line_behind (line_word_of x) (line_fields x ++ rest) ≡ Some (x, rest)
unfolding checkpoint_at used_at slot_at
behind_again (says.Checkpoint events stopped) rest fits follows =
    let x : ℕ × Bool = (events, stopped) in made_again checkpoint_is (λ y. says.Checkpoint y.0 y.1) x rest (fits, tt) follows
behind_again (says.Used i) rest fits follows =
    let x : ℕ × ℕ = (i.lo, i.hi) in
    made_again used_is (λ y. says.Used (record { lo = y.0; hi = y.1 })) x rest ((fits.0, fits.1), le-leb i.lo i.hi fits.2) follows
behind_again (says.Record r) rest fits follows = made_again record_is says.Record r rest fits follows
behind_again (says.Session s) rest fits follows = made_again session_is says.Session s rest fits follows
behind_again (says.Slot l) rest fits follows =
    let x : SlotFields = (l.session, (l.at, l.what)) in
    made_again slot_is (λ y. says.Slot (record { session = y.0; at = y.1.0; what = y.1.1 })) x rest (fits.0, (fits.1, fits.2)) follows
behind_again (says.Queued q) rest fits follows = made_again queued_is says.Queued q rest fits follows
behind_again (says.Job j) rest fits follows = made_again job_is says.Job j rest fits follows

-- behind a word a space comes first
fields_start : (x : StateLine) → Ends (line_fields x)
fields_start (says.Checkpoint events stopped) = refl
fields_start (says.Used i) = refl
fields_start (says.Record r) = refl
fields_start (says.Session s) = refl
fields_start (says.Slot l) = refl
fields_start (says.Queued q) = refl
fields_start (says.Job j) = refl

-- ---- whole lines

tail : (a b : List ℕ) → 32 ∷ a ≡ 32 ∷ b → a ≡ b
tail a b e = cc

-- what is read is spelled by the whole line
pub line_takes : (line : List ℕ) (x : StateLine) → state_line_of line ≡ Some x → (state_line x ≡ line) × IsStateLine x
unfolding state_line_of
line_takes line x e =
    let b = bind_ok (line_at line) (λ y. cond (eqb (length y.1) 0) (Some y.0) None) x e in
    let a = bind_ok (line_word_at line) (λ w. line_behind w.0 w.1) b.0 b.1 in
    let c = cond_some (eqb (length b.0.1) 0) b.0.0 x b.2 in
    let w = line_word_is.takes (32 ∷ line) a.0 a.1 in
    let t = behind_takes a.0.0 a.0.1 b.0 a.2 in
    let nothing : b.0.1 ≡ [] = nil_from_length b.0.1 (eqb-true (length b.0.1) 0 c.0) in
    let fields : a.0.1 ≡ line_fields b.0.0 = t.0 ∙ ap (λ (rest : List ℕ). line_fields b.0.0 ++ rest) nothing ∙ append-nil (line_fields b.0.0) in
    subst (λ (y : StateLine). (state_line y ≡ line) × IsStateLine y) c.1 (
      ap (λ (w : LineWord). line_word_text w ++ line_fields b.0.0) t.1.0
          ∙ ap (λ (f : List ℕ). line_word_text a.0.0 ++ f) (sym fields)
          ∙ sym (tail line (line_word_text a.0.0 ++ a.0.1) w.0),
      t.1.1,
    )

-- what is spelled is read
pub line_again : (x : StateLine) → IsStateLine x → state_line_of (state_line x) ≡ Some x
unfolding state_line_of
line_again x fits =
    let read : line_behind (line_word_of x) (line_fields x) ≡ Some (x, []) = ap (line_behind (line_word_of x)) (sym (append-nil (line_fields x))) ∙ behind_again x [] fits tt in
    rw (line_word_is.again (line_word_of x) (line_fields x) tt (fields_start x), read) refl

-- a line says what the word at its front and the bytes behind that say
pub line_says : (line w rest : List ℕ) → w ≡ take (position_or_len is_space line) line → rest ≡ drop (position_or_len is_space line) line →
    (x : StateLine) (more : List ℕ) → by_word line_word_text line_words line_behind w rest ≡ Some (x, more) →
    (r : Result StateLine LineFault) → Gives (λ y. y) r (last_value x more) → Gives (λ y. y) r (state_line_of line)
unfolding state_line_of word_value word_at
line_says line w rest front behind x more e r given =
    let read : line_at line ≡ Some (x, more) =
    subst (λ (bytes : List ℕ). by_word line_word_text line_words line_behind (take (position_or_len is_space line) line) bytes ≡ Some (x, more)) behind
    (subst (λ (v : List ℕ). by_word line_word_text line_words line_behind v rest ≡ Some (x, more)) front e) in
    subst (λ (f : Option (StateLine × List ℕ)). Gives (λ (y : StateLine). y) r (f >>= λ y. last_value y.0 y.1)) (sym read) given

pub reads_lines : ReadsLines (λ line x. (state_line x ≡ line) × IsStateLine x) state_line_of
reads_lines = spelled_lines line_takes line_again
