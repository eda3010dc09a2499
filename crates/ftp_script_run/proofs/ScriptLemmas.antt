-- A script line by line.
use Rattle.std.proofs.Common.{◌≡◌, ℕ, ◌+◌, ◌<◌, ◌≤◌, List, [], ◌∷◌, ◌++◌, length, Option, Some, None, refl, sym, ap, subst, ◌∙◌, arith, take, drop, get_or, ◌⊎◌, inl, inr, eqb-true, append_assoc}
use Rattle.std.specs.Prelude.{IfSome, Ok}
use Rattle.std.specs.List.{position_or_len}
use Rattle.std.proofs.lemmas.List.{length-drop, length-take, length-take-le, length-append, append-nil, take-append-drop, take-append-le, take-take, take_more, take_all, drop_all, drop_at, get_or-take}
use Rattle.std.proofs.lemmas.List.Sums.{fails_before_first, passes_at_first, position_or_len_is}
use Rattle.std.proofs.lemmas.Bool.{cases_lt}
use Rattle.ftp_control.specs.Lines.{Rest, TakesAtMost, is_line_feed, first_line, behind_line, bytes_in, IsWithin, HasNoFeed, IsNext}
use Rattle.ftp_control.proofs.LineLemmas.{pos_found, length-bytes_in}
use Rattle.ftp_control.specs.declared.lines.Span.{Span}
use Rattle.ftp_text.specs.declared.setup.Item.{Item}
use Rattle.ftp_script_run.specs.declared.text_script.ScriptReader.{ScriptReader}
use Rattle.ftp_script_run.specs.Script.{ComesNext, line_size, Continues, IsScriptOf}
use Rattle.ftp_script_run.specs.Admission.{Remembers}
use Rattle.ftp_script_run.specs.ScriptReader.{AreWhole, GoesOn, HasRead, ReadsAhead, StopsBehind}

-- the same script, of the same bytes
script-moved : (bytes all : List ℕ) (items more : List Item) (bad : Option ℕ) → bytes ≡ all → items ≡ more → IsScriptOf bytes items bad → IsScriptOf all more bad
script-moved bytes all items more bad e f h = subst (λ (x : List Item). IsScriptOf all x bad) f (subst (λ (x : List ℕ). IsScriptOf x items bad) e h)

-- a line of its item, and what stands behind
continues-item : (before items : List Item) (taken more : ℕ) (bytes : List ℕ) (i : Item) (bad : Option ℕ) →
    0 < length bytes →
    taken + line_size bytes ≡ more →
    ComesNext before more (first_line bytes) i →
    Continues (before ++ i ∷ []) more (behind_line bytes) items bad →
    Continues before taken bytes (i ∷ items) bad
continues-item before items taken more bytes i bad some count next on = (
  some,
  subst (λ (n : ℕ). ComesNext before n (first_line bytes) i) (sym count) next,
  subst (λ (n : ℕ). Continues (before ++ i ∷ []) n (behind_line bytes) items bad) (sym count) on,
)

-- a bad line
continues-bad : (before : List Item) (taken more k : ℕ) (bytes : List ℕ) →
    0 < length bytes →
    taken + line_size bytes ≡ more →
    ((i : Item) → ComesNext before more (first_line bytes) i → ⊥) →
    k ≡ length before + 1 →
    Continues before taken bytes [] (Some k)
continues-bad before taken more k bytes some count bad number = (
  some,
  λ i next. bad i (subst (λ (n : ℕ). ComesNext before n (first_line bytes) i) count next),
  number,
)

-- what holds of what is held and left holds of these bytes
with_rest : (held : List ℕ) (left : Option (List ℕ)) (bytes : List ℕ) (P : List ℕ → Type 0) → Rest held left bytes → IfSome left (λ l. P (held ++ l)) → P bytes
with_rest held None bytes P rest h = absurd rest
with_rest held (Some l) bytes P rest h = subst P rest h

-- ---- the first line, which ends in a line feed, in front of other bytes

-- the first line and its line feed
abbrev line_of : List ℕ → List ℕ
line_of bytes = take (position_or_len is_line_feed bytes + 1) bytes

length-line_of : (bytes : List ℕ) → position_or_len is_line_feed bytes < length bytes → length (line_of bytes) ≡ position_or_len is_line_feed bytes + 1
length-line_of bytes lt = length-take-le (position_or_len is_line_feed bytes + 1) bytes (omega arith)

-- the line is the first line of itself
position-line_of : (bytes : List ℕ) → position_or_len is_line_feed bytes < length bytes → position_or_len is_line_feed (line_of bytes) ≡ position_or_len is_line_feed bytes
position-line_of bytes lt =
    let at = position_or_len is_line_feed bytes in
    position_or_len_is is_line_feed (line_of bytes) at 0 (omega (arith, length-line_of bytes lt))
    (λ k less. ap is_line_feed (get_or-take (at + 1) bytes k 0 (omega arith)) ∙ fails_before_first is_line_feed bytes k 0 less)
    (λ inside. ap is_line_feed (get_or-take (at + 1) bytes at 0 (omega arith)) ∙ passes_at_first is_line_feed bytes 0 lt)

-- what follows a line does not change where it ends
position-line_of-more : (bytes more : List ℕ) → position_or_len is_line_feed bytes < length bytes → position_or_len is_line_feed (line_of bytes ++ more) ≡ position_or_len is_line_feed bytes
position-line_of-more bytes more lt = pos_found (line_of bytes) more (position_or_len is_line_feed bytes) (position-line_of bytes lt) (omega (arith, length-line_of bytes lt))

first_line-more : (bytes more : List ℕ) → position_or_len is_line_feed bytes < length bytes → first_line (line_of bytes ++ more) ≡ first_line bytes
first_line-more bytes more lt =
    let at = position_or_len is_line_feed bytes in
    ap (λ (n : ℕ). take n (line_of bytes ++ more)) (position-line_of-more bytes more lt)
    ∙ take-append-le at (line_of bytes) more (omega (arith, length-line_of bytes lt))
    ∙ take-take at (at + 1) bytes (omega arith)

behind_line-more : (bytes more : List ℕ) → position_or_len is_line_feed bytes < length bytes → behind_line (line_of bytes ++ more) ≡ more
behind_line-more bytes more lt =
    let at = position_or_len is_line_feed bytes in
    ap (λ (n : ℕ). drop (n + 1) (line_of bytes ++ more)) (position-line_of-more bytes more lt)
    ∙ drop_at (line_of bytes) more (at + 1) (length-line_of bytes lt)

-- the line is its bytes and a line feed
line_of-ends : (bytes : List ℕ) → position_or_len is_line_feed bytes < length bytes → line_of bytes ≡ first_line bytes ++ 10 ∷ []
line_of-ends bytes lt =
    let at = position_or_len is_line_feed bytes in
    take_more bytes at 0 lt
    ∙ ap (λ (c : ℕ). take at bytes ++ c ∷ []) (eqb-true (get_or bytes at 0) 10 (passes_at_first is_line_feed bytes 0 lt))

-- a line of its item, in front of other bytes
continues-line_of : (before items : List Item) (taken more : ℕ) (bytes others : List ℕ) (i : Item) (bad : Option ℕ) →
    position_or_len is_line_feed bytes < length bytes →
    taken + line_size bytes ≡ more →
    ComesNext before more (first_line bytes) i →
    Continues (before ++ i ∷ []) more others items bad →
    Continues before taken (line_of bytes ++ others) (i ∷ items) bad
continues-line_of before items taken more bytes others i bad lt count next on =
    let behind : behind_line (line_of bytes ++ others) ≡ others = behind_line-more bytes others lt in
    let size : line_size (line_of bytes ++ others) ≡ line_size bytes =
    omega (arith, ap length behind, length-append (line_of bytes) others, length-line_of bytes lt, length-drop (position_or_len is_line_feed bytes + 1) bytes) in
    continues-item before items taken more (line_of bytes ++ others) i bad
    (omega (arith, length-append (line_of bytes) others, length-line_of bytes lt))
    (ap (λ (n : ℕ). taken + n) size ∙ count)
    (subst (λ (line : List ℕ). ComesNext before more line i) (sym (first_line-more bytes others lt)) next)
    (subst (λ (x : List ℕ). Continues (before ++ i ∷ []) more x items bad) (sym behind) on)

-- ---- the steps of the reader

-- before the first line
pub start_told : (reader : ScriptReader) (buffer bytes : List ℕ) (left : Option (List ℕ)) →
    reader.number ≡ 0 →
    reader.taken ≡ 0 →
    Rest (bytes_in buffer reader.held) left bytes →
    Remembers reader.admission [] →
    HasRead [] bytes reader buffer left
start_told reader buffer bytes left number taken rest known = record {
  number = number;
  known = known;
  read = [];
  bytes = bytes;
  all_is = refl;
  rest = rest;
  whole = inl (inl refl);
  items = record { lines = refl };
  same = at_once bytes;
  open_end = inl at_once;
} where
  at_once : (more : List ℕ) → GoesOn [] reader.taken more more
  at_once more items bad on = record { lines = subst (λ (n : ℕ). Continues [] n more items bad) taken on }

pub end_told : (before : List Item) (all : List ℕ) (reader : ScriptReader) (buffer held : List ℕ) (left later : Option (List ℕ)) →
    HasRead before all reader buffer left →
    IfSome left (λ l. (bytes_in buffer reader.held ++ l ≡ []) × (held ≡ []) × (later ≡ Some [])) →
    IsScriptOf all before None × (later ≡ Some [])
end_told before all reader buffer held left later h told =
    let none : (h.bytes ≡ []) × (held ≡ []) × (later ≡ Some []) = with_rest (bytes_in buffer reader.held) left h.bytes (λ b. (b ≡ []) × (held ≡ []) × (later ≡ Some [])) h.rest told in (
      script-moved all all (before ++ []) before None refl (append-nil before) (h.same [] None none.0),
      none.2,
    )

-- whatever is answered, no more than a buffer is taken behind the lines
pub ahead_told : {before : List Item} {all : List ℕ} {reader : ScriptReader} {buffer : List ℕ} {left later : Option (List ℕ)} →
    HasRead before all reader buffer left →
    IfSome left (λ l. TakesAtMost 65537 (bytes_in buffer reader.held ++ l) later) →
    ReadsAhead before all later
ahead_told {reader} {buffer} {left} {later} h told =
    let gone : TakesAtMost 65537 h.bytes later = with_rest (bytes_in buffer reader.held) left h.bytes (λ b. TakesAtMost 65537 b later) h.rest told in
    record {
      read = h.read;
      ahead = gone.taken;
      rest = gone.rest;
      all_is = ap (λ (b : List ℕ). h.read ++ b) gone.bytes_are ∙ h.all_is;
      left_is = gone.left_is;
      whole = subst (AreWhole h.read) (sym gone.bytes_are) h.whole;
      items = h.items;
      buffer = gone.at_most;
    }

-- between two lines the buffer holds all that was taken behind them
pub between_told : (before : List Item) (all : List ℕ) (reader : ScriptReader) (buffer : List ℕ) (left : Option (List ℕ)) →
    length buffer ≡ 65537 →
    IsWithin buffer reader.held →
    HasRead before all reader buffer left →
    ReadsAhead before all left
between_told before all reader buffer None len within h = absurd h.rest
between_told before all reader buffer (Some l) len within h = record {
  read = h.read;
  ahead = bytes_in buffer reader.held;
  rest = l;
  all_is = ap (λ (b : List ℕ). h.read ++ b) h.rest ∙ h.all_is;
  left_is = refl;
  whole = subst (AreWhole h.read) (sym h.rest) h.whole;
  items = h.items;
  buffer = omega (arith, length-bytes_in buffer reader.held.start reader.held.end within.0 within.1);
}

-- a fault takes nothing
pub fault_told : (before : List Item) (all : List ℕ) (reader : ScriptReader) (buffer held : List ℕ) (left later : Option (List ℕ)) →
    length held ≤ 65537 →
    HasRead before all reader buffer left →
    IfSome left (λ l. Rest held later (bytes_in buffer reader.held ++ l) × HasNoFeed held) →
    StopsBehind before all later
fault_told before all reader buffer held left None short h told =
    absurd (with_rest (bytes_in buffer reader.held) left h.bytes (λ b. Rest held None b × HasNoFeed held) h.rest told).0
fault_told before all reader buffer held left (Some l) short h told =
    let stopped : (held ++ l ≡ h.bytes) × HasNoFeed held = with_rest (bytes_in buffer reader.held) left h.bytes (λ b. Rest held (Some l) b × HasNoFeed held) h.rest told in
    record {
      reads = record {
        read = h.read;
        ahead = held;
        rest = l;
        all_is = ap (λ (b : List ℕ). h.read ++ b) stopped.0 ∙ h.all_is;
        left_is = refl;
        whole = subst (AreWhole h.read) (sym stopped.0) h.whole;
        items = h.items;
        buffer = short;
      };
      no_feed = stopped.1;
    }

-- the script of what was read, whose next line is bad
bad_next : (before : List Item) (all bytes : List ℕ) (taken more k : ℕ) →
    GoesOn before taken bytes all →
    0 < length bytes →
    taken + line_size bytes ≡ more →
    ((i : Item) → ComesNext before more (first_line bytes) i → ⊥) →
    k ≡ length before + 1 →
    IsScriptOf all before (Some k)
bad_next before all bytes taken more k goes_on some count bad number =
    script-moved all all (before ++ []) before (Some k) refl (append-nil before) (goes_on [] (Some k) (continues-bad before taken more k bytes some count bad number))

pub long_told : (before : List Item) (all : List ℕ) (reader : ScriptReader) (buffer : List ℕ) (left : Option (List ℕ)) (k : ℕ) →
    HasRead before all reader buffer left →
    IfSome left (λ l. 65536 < length (first_line (bytes_in buffer reader.held ++ l))) →
    k ≡ reader.number + 1 →
    IsScriptOf all before (Some k)
long_told before all reader buffer left k h told count =
    let long : 65536 < length (first_line h.bytes) = with_rest (bytes_in buffer reader.held) left h.bytes (λ b. 65536 < length (first_line b)) h.rest told in
    bad_next before all h.bytes reader.taken (reader.taken + line_size h.bytes) k h.same
    (omega (arith, long, length-take (position_or_len is_line_feed h.bytes) h.bytes))
    refl
    (λ i next. absurd (omega (arith, long, next.short)))
    (omega (arith, h.number, count))

abbrev Found : List ℕ → Span → List ℕ → List ℕ → Option (List ℕ) → Type 0
Found bytes line buffer held left = IsNext 65536 bytes (Ok (Some line)) buffer held left

pub bad_told : (before : List Item) (all : List ℕ) (reader : ScriptReader) (buffer : List ℕ) (left : Option (List ℕ)) (line : Span) (now held : List ℕ) (later : Option (List ℕ)) (size more k : ℕ) →
    HasRead before all reader buffer left →
    IfSome left (λ l. IsNext 65536 (bytes_in buffer reader.held ++ l) (Ok (Some line)) now held later) →
    IfSome left (λ l. size + length (behind_line (bytes_in buffer reader.held ++ l)) ≡ length (bytes_in buffer reader.held ++ l)) →
    more ≡ reader.taken + size →
    ((i : Item) → ComesNext before more (bytes_in now line) i → ⊥) →
    k ≡ reader.number + 1 →
    IsScriptOf all before (Some k)
bad_told before all reader buffer left line now held later size more k h told taken sum bad count =
    let found : Found h.bytes line now held later = with_rest (bytes_in buffer reader.held) left h.bytes (λ b. Found b line now held later) h.rest told in
    let sized : size + length (behind_line h.bytes) ≡ length h.bytes = with_rest (bytes_in buffer reader.held) left h.bytes (λ b. size + length (behind_line b) ≡ length b) h.rest taken in
    bad_next before all h.bytes reader.taken more k h.same found.0
    (omega (arith, sized, sum))
    (λ i next. bad i (subst (λ (x : List ℕ). ComesNext before more x i) (sym found.1) next))
    (omega (arith, h.number, count))

-- what was read, and a further line
record Further (before : List Item) (read bytes : List ℕ) (more : ℕ) (i : Item) : Type 0 where
  whole : AreWhole (read ++ line_of bytes) (behind_line bytes)
  items : IsScriptOf (read ++ line_of bytes) (before ++ i ∷ []) None
  open_end : ((others : List ℕ) → GoesOn (before ++ i ∷ []) more others ((read ++ line_of bytes) ++ others)) ⊎ (behind_line bytes ≡ [])

-- where the line has its line feed, or is the last
further : (before : List Item) (read bytes : List ℕ) (taken more : ℕ) (i : Item) →
    ((others : List ℕ) → GoesOn before taken others (read ++ others)) →
    0 < length bytes →
    taken + line_size bytes ≡ more →
    ComesNext before more (first_line bytes) i →
    Further before read bytes more i
further before read bytes taken more i goes_on some count next =
    let at = position_or_len is_line_feed bytes in
    elim (cases_lt at (length bytes)) [
      | inl lt ↦
          let opens : (others : List ℕ) → GoesOn (before ++ i ∷ []) more others ((read ++ line_of bytes) ++ others) =
          λ others items bad on.
          script-moved (read ++ (line_of bytes ++ others)) ((read ++ line_of bytes) ++ others) (before ++ i ∷ items) ((before ++ i ∷ []) ++ items) bad
          (sym (append_assoc read (line_of bytes) others)) (sym (append_assoc before (i ∷ []) items))
          (goes_on (line_of bytes ++ others) (i ∷ items) bad (continues-line_of before items taken more bytes others i bad lt count next on)) in
          record {
            whole = inl (inr (read ++ first_line bytes, ap (λ (l : List ℕ). read ++ l) (line_of-ends bytes lt) ∙ sym (append_assoc read (first_line bytes) (10 ∷ []))));
            items =
                script-moved ((read ++ line_of bytes) ++ []) (read ++ line_of bytes) ((before ++ i ∷ []) ++ []) (before ++ i ∷ []) None
                (append-nil (read ++ line_of bytes)) (append-nil (before ++ i ∷ [])) (opens [] [] None refl);
            open_end = inl opens;
          }
      | inr ge ↦
          let none : behind_line bytes ≡ [] = drop_all (at + 1) bytes (omega arith) in
          let line : line_of bytes ≡ bytes = take_all (at + 1) bytes (omega arith) in
          record {
            whole = inr none;
            items =
                script-moved (read ++ bytes) (read ++ line_of bytes) (before ++ i ∷ []) (before ++ i ∷ []) None (ap (λ (l : List ℕ). read ++ l) (sym line)) refl
                (goes_on bytes (i ∷ []) None (continues-item before [] taken more bytes i None some count next none));
            open_end = inr none;
          }
    ]

-- with bytes left the script is open
opened : (before : List Item) (read bytes : List ℕ) (taken : ℕ) →
    ((more : List ℕ) → GoesOn before taken more (read ++ more)) ⊎ (bytes ≡ []) →
    0 < length bytes →
    (more : List ℕ) → GoesOn before taken more (read ++ more)
opened before read bytes taken (inl goes_on) some = goes_on
opened before read bytes taken (inr none) some = absurd (omega (arith, ap length none, some))

pub more_told : (before : List Item) (all : List ℕ) (reader new : ScriptReader) (buffer : List ℕ) (left : Option (List ℕ)) (line : Span) (now : List ℕ) (later : Option (List ℕ)) (size : ℕ) (i : Item) →
    HasRead before all reader buffer left →
    IfSome left (λ l. IsNext 65536 (bytes_in buffer reader.held ++ l) (Ok (Some line)) now (bytes_in now new.held) later) →
    IfSome left (λ l. size + length (behind_line (bytes_in buffer reader.held ++ l)) ≡ length (bytes_in buffer reader.held ++ l)) →
    new.taken ≡ reader.taken + size →
    new.number ≡ reader.number + 1 →
    ComesNext before new.taken (bytes_in now line) i × Remembers new.admission (before ++ i ∷ []) →
    HasRead (before ++ i ∷ []) all new now later
more_told before all reader new buffer left line now later size i h told taken sum count good =
    let found : Found h.bytes line now (bytes_in now new.held) later = with_rest (bytes_in buffer reader.held) left h.bytes (λ b. Found b line now (bytes_in now new.held) later) h.rest told in
    let sized : size + length (behind_line h.bytes) ≡ length h.bytes = with_rest (bytes_in buffer reader.held) left h.bytes (λ b. size + length (behind_line b) ≡ length b) h.rest taken in
    let sums : reader.taken + line_size h.bytes ≡ new.taken = omega (arith, sized, sum) in
    let next : ComesNext before new.taken (first_line h.bytes) i = subst (λ (x : List ℕ). ComesNext before new.taken x i) found.1 good.0 in
    let on = further before h.read h.bytes reader.taken new.taken i (opened before h.read h.bytes reader.taken h.open_end found.0) found.0 sums next in
    record {
      number = omega (arith, h.number, count, length-append before (i ∷ []));
      known = good.1;
      read = h.read ++ line_of h.bytes;
      bytes = behind_line h.bytes;
      all_is =
          append_assoc h.read (line_of h.bytes) (behind_line h.bytes)
          ∙ ap (λ (b : List ℕ). h.read ++ b) (take-append-drop (position_or_len is_line_feed h.bytes + 1) h.bytes)
          ∙ h.all_is;
      rest = found.3;
      whole = on.whole;
      items = on.items;
      same =
          λ items bad goes.
          script-moved all all (before ++ i ∷ items) ((before ++ i ∷ []) ++ items) bad refl (sym (append_assoc before (i ∷ []) items))
          (h.same (i ∷ items) bad (continues-item before items reader.taken new.taken h.bytes i bad found.0 sums next goes));
      open_end = on.open_end;
    }
