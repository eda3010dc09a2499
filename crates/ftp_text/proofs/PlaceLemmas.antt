-- The lines of a printed log, read one by one: which may follow, and what they make.
use Rattle.std.proofs.Common.{◌≡◌, ℕ, zero, suc, ◌+◌, ◌-◌, ◌<◌, ◌≤◌, inl, inr, Bool, true, false, List, [], ◌∷◌, ◌++◌, length, get_or, take, drop, map, Option, Some, None, refl, sym, ap, subst, ◌∙◌, append_assoc, arith, eqb-true}
use Rattle.std.specs.List.{flat_map, position_or_len, AllByRecursion}
use Rattle.std.proofs.lemmas.Grind.{flat_map-append}
use Rattle.std.proofs.lemmas.List.{append-nil, length-append, length-drop, map-append, take_all}
use Rattle.std.proofs.lemmas.List.Sums.{passes_at_first, position_or_len_is}
use Rattle.memchr.specs.Find.{IsFirstByte, is_byte}
use Rattle.ftp_events.specs.declared.action.Action.{Action}
use Rattle.ftp_events.specs.declared.decision.Decision.{Decision}
use Rattle.ftp_events.specs.declared.decision.Decision.TheVariants as decision
use Rattle.ftp_events.specs.declared.entry.Entry.{Entry}
use Rattle.ftp_events.specs.declared.event.Answer.{Answer}
use Rattle.ftp_events.specs.declared.event.Answer.TheVariants as answer
use Rattle.ftp_events.specs.declared.event.HubEvent.{HubEvent}
use Rattle.ftp_control.specs.Lines.{is_line_feed, first_line, behind_line}
use Rattle.ftp_text.specs.Reading.{◌>>=◌}
use Rattle.ftp_text.proofs.Exact.{some_is}
use Rattle.ftp_text.specs.declared.setup.Item.{Item}
use Rattle.ftp_text.specs.Printing.{line, answer_line, action_line, entry_lines, print}
use Rattle.ftp_text.specs.declared.line.LogLine.{LogLine}
use Rattle.ftp_text.specs.declared.line.LogLine.TheVariants as says
use Rattle.ftp_text.specs.declared.place.Place.{Place}
use Rattle.ftp_text.specs.declared.place.Stage.{Stage}
use Rattle.ftp_text.specs.declared.place.Stage.TheVariants as stage
use Rattle.ftp_text.specs.LogLines.{log_line, IsAnswer, IsLogLine}
use Rattle.ftp_text.specs.LogText.{answers, says_of, opening, lines_of, text_of, options_line, IsLog, IsFront, line_size, ComesNext, IsPrinted, IsFirstBad, HasFirstBad}
use Rattle.ftp_text.specs.Place.{stage_after, is_whole, stage_behind, IsAt, Reached, HasRead}
use Rattle.ftp_text.proofs.LineLemmas.{log_line-injective}
use Rattle.ftp_text.proofs.Lists.{all-append, all-parts}

-- ---- lists

flat-map : {A B C : Type 0} (f : B → List C) (g : A → B) (xs : List A) → flat_map f (map g xs) ≡ flat_map (λ x. f (g x)) xs
flat-map {A} {B} {C} f g [] = refl
flat-map {A} {B} {C} f g (x ∷ xs) = ap (λ (z : List C). f (g x) ++ z) (flat-map f g xs)

-- ---- the lines and the print

answers-text : (a : Answer) (more : List LogLine) → text_of (answers a ++ more) ≡ answer_line a ++ text_of more
answers-text answer.None more = refl
answers-text (answer.Header h) more = refl
answers-text (answer.Done o) more = refl
answers-text (answer.Moved n) more = refl

regroup : (a b c d : List ℕ) → a ++ (b ++ (c ++ d)) ≡ a ++ b ++ c ++ d
regroup a b c d = simp append_assoc

says_of-text : (e : Entry) → text_of (says_of e) ≡ entry_lines e
says_of-text e =
    ap (λ (t : List ℕ). line (log_line (says.Event e.event)) ++ t)
    (answers-text e.answer (says.Decision e.decision ∷ map says.Action e.actions)
    ∙ ap (λ (t : List ℕ). answer_line e.answer ++ (line (log_line (says.Decision e.decision)) ++ t)) (flat-map (λ x. line (log_line x)) says.Action e.actions))
    ∙ regroup (line (log_line (says.Event e.event))) (answer_line e.answer) (line (log_line (says.Decision e.decision))) (flat_map action_line e.actions)

entries-text : (log : List Entry) → text_of (flat_map says_of log) ≡ print log
entries-text [] = refl
entries-text (e ∷ log) =
    flat_map-append (λ x. line (log_line x)) (says_of e) (flat_map says_of log)
    ∙ ap (λ (t : List ℕ). t ++ text_of (flat_map says_of log)) (says_of-text e)
    ∙ ap (λ (t : List ℕ). entry_lines e ++ t) (entries-text log)

-- the text of a printed log's lines is its print
pub lines-text : (options : Option Item) (log : List Entry) → text_of (lines_of options log) ≡ options_line options ++ print log
lines-text None log = entries-text log
lines-text (Some i) log = ap (λ (t : List ℕ). line (log_line (says.Options i)) ++ t) (entries-text log)

-- ---- stages

bind-bind : {A B C : Type 0} (o : Option A) (f : A → Option C) (g : A → Option B) (h : B → Option C) → ((x : A) → f x ≡ (g x >>= h)) → (o >>= f) ≡ ((o >>= g) >>= h)
bind-bind None f g h p = refl
bind-bind (Some x) f g h p = p x

stage_behind-append : (s : Stage) (xs ys : List LogLine) → stage_behind s (xs ++ ys) ≡ (stage_behind s xs >>= λ t. stage_behind t ys)
stage_behind-append s [] ys = refl
stage_behind-append s (x ∷ xs) ys =
    bind-bind (stage_after s x) (λ t. stage_behind t (xs ++ ys)) (λ t. stage_behind t xs) (λ t. stage_behind t ys) (λ t. stage_behind-append t xs ys)

stage_behind-actions : (actions : List Action) → stage_behind stage.Decided (map says.Action actions) ≡ Some stage.Decided
stage_behind-actions [] = refl
stage_behind-actions (a ∷ actions) = stage_behind-actions actions

behind-happened : (a : Answer) (d : Decision) (actions : List Action) → stage_behind stage.Happened (answers a ++ says.Decision d ∷ map says.Action actions) ≡ Some stage.Decided
behind-happened answer.None d actions = stage_behind-actions actions
behind-happened (answer.Header h) d actions = stage_behind-actions actions
behind-happened (answer.Done o) d actions = stage_behind-actions actions
behind-happened (answer.Moved n) d actions = stage_behind-actions actions

-- an entry may stand wherever a log can end
behind-entry : (s : Stage) (e : Entry) → is_whole s ≡ true → stage_behind s (says_of e) ≡ Some stage.Decided
behind-entry stage.Start e whole = behind-happened e.answer e.decision e.actions
behind-entry stage.Opened e whole = behind-happened e.answer e.decision e.actions
behind-entry stage.Happened e whole = absurd cc
behind-entry stage.Answered e whole = absurd cc
behind-entry stage.Decided e whole = behind-happened e.answer e.decision e.actions

-- lines lead to a stage where a log can end
abbrev Ends : Stage → List LogLine → Type 0
Ends s lines = (t : Stage) × (stage_behind s lines ≡ Some t) × (is_whole t ≡ true)

behind-entries : (s : Stage) (log : List Entry) → is_whole s ≡ true → Ends s (flat_map says_of log)
behind-entries s [] whole = (s, refl, whole)
behind-entries s (e ∷ log) whole =
    let rest = behind-entries stage.Decided log refl in (
      rest.0,
      stage_behind-append s (says_of e) (flat_map says_of log)
          ∙ ap (λ (o : Option Stage). o >>= λ t. stage_behind t (flat_map says_of log)) (behind-entry s e whole)
          ∙ rest.1,
      rest.2,
    )

behind-lines : (options : Option Item) (log : List Entry) → Ends stage.Start (lines_of options log)
behind-lines None log = behind-entries stage.Start log refl
behind-lines (Some i) log = behind-entries stage.Opened log refl

behind-log : (lines : List LogLine) → IsLog lines → Ends stage.Start lines
behind-log lines log = subst (Ends stage.Start) (sym log.2.same) (behind-lines log.0 log.1)

-- ---- what was reached

-- one line more
behind-one : (s : Stage) (before : List LogLine) (x : LogLine) → stage_behind stage.Start before ≡ Some s → stage_behind stage.Start (before ++ x ∷ []) ≡ (stage_after s x >>= λ t. Some t)
behind-one s before x stands =
    stage_behind-append stage.Start before (x ∷ []) ∙ ap (λ (o : Option Stage). o >>= λ t. stage_behind t (x ∷ [])) stands

-- no printed log begins with a line where none may stand
pub refused : (s : Stage) (before : List LogLine) (x : LogLine) → Reached s before → stage_after s x ≡ None → IsFront (before ++ x ∷ []) → ⊥
refused s before x reached none front =
    let ends = behind-log ((before ++ x ∷ []) ++ front.0) front.1 in
    let stuck : stage_behind stage.Start ((before ++ x ∷ []) ++ front.0) ≡ None =
    stage_behind-append stage.Start (before ++ x ∷ []) front.0
    ∙ ap (λ (o : Option Stage). o >>= λ t. stage_behind t front.0) (behind-one s before x reached.stands ∙ ap (λ (o : Option Stage). o >>= λ t. Some t) none) in
    absurd (cc (ends.1, stuck))

-- a log cannot end in the middle of an entry
pub unfinished : (s : Stage) (before : List LogLine) → Reached s before → is_whole s ≡ false → IsLog before → ⊥
unfinished s before reached half log =
    let ends = behind-log before log in
    let same : s ≡ ends.0 = some_is s ends.0 (sym reached.stands ∙ ends.1) in
    absurd (cc (half, ap is_whole same, ends.2))

-- the stage behind a line that was read
pub stage-between : (s t : Stage) (before : List LogLine) (x : LogLine) → Reached s before → Reached t (before ++ x ∷ []) → stage_after s x ≡ Some t
stage-between s t before x reached later = through (stage_after s x) (sym (behind-one s before x reached.stands) ∙ later.stands) where
  through : (o : Option Stage) → (o >>= λ u. Some u) ≡ Some t → o ≡ Some t
  through None e = absurd cc
  through (Some u) e = e

-- what the lines make with one more
record Grown (t : Stage) (x : LogLine) (options : Option Item) (log : List Entry) (half : List LogLine) : Type 0 where
  options_now : Option Item
  log_now : List Entry
  open_now : List LogLine
  parts : (lines_of options log ++ half) ++ x ∷ [] ≡ lines_of options_now log_now ++ open_now
  is_at : IsAt t options_now log_now open_now

-- an event opens an entry
opens : (e : HubEvent) (options : Option Item) (log : List Entry) (half : List LogLine) → half ≡ [] → Grown stage.Happened (says.Event e) options log half
opens e options log half none = record {
  options_now = options;
  log_now = log;
  open_now = says.Event e ∷ [];
  parts = ap (λ (o : List LogLine). (lines_of options log ++ o) ++ says.Event e ∷ []) none ∙ ap (λ (o : List LogLine). o ++ says.Event e ∷ []) (append-nil (lines_of options log));
  is_at = (e, refl);
}

-- a further entry
lines_of-more : (options : Option Item) (log : List Entry) (e : Entry) → lines_of options (log ++ e ∷ []) ++ [] ≡ lines_of options log ++ says_of e
lines_of-more options log e =
    append-nil (lines_of options (log ++ e ∷ []))
    ∙ ap (λ (l : List LogLine). opening options ++ l) (flat_map-append says_of log (e ∷ []) ∙ ap (λ (l : List LogLine). flat_map says_of log ++ l) (append-nil (says_of e)))
    ∙ sym (append_assoc (opening options) (flat_map says_of log) (says_of e))

answers-some : (a : Answer) → IsAnswer a → answers a ≡ says.Answer a ∷ []
answers-some answer.None fits = absurd fits
answers-some (answer.Header h) fits = refl
answers-some (answer.Done o) fits = refl
answers-some (answer.Moved n) fits = refl

abbrev entry_of : HubEvent → Answer → Decision → Entry
entry_of e a d = record { event = e; answer = a; decision = d; actions = [] }

-- a decision makes the half entry whole
decides : (en : Entry) (d : Decision) (options : Option Item) (log : List Entry) (half : List LogLine) → half ++ says.Decision d ∷ [] ≡ says_of en → Grown stage.Decided (says.Decision d) options log half
decides en d options log half whole = record {
  options_now = options;
  log_now = log ++ en ∷ [];
  open_now = [];
  parts =
      append_assoc (lines_of options log) half (says.Decision d ∷ [])
      ∙ ap (λ (l : List LogLine). lines_of options log ++ l) whole
      ∙ sym (lines_of-more options log en);
  is_at = (log, en, refl, refl);
}

abbrev with_action : Entry → Action → Entry
with_action e a = record { event = e.event; answer = e.answer; decision = e.decision; actions = e.actions ++ a ∷ [] }

says_of-action : (e : Entry) (a : Action) → says_of e ++ says.Action a ∷ [] ≡ says_of (with_action e a)
says_of-action e a =
    ap (λ (l : List LogLine). says.Event e.event ∷ l)
    (append_assoc (answers e.answer) (says.Decision e.decision ∷ map says.Action e.actions) (says.Action a ∷ [])
    ∙ ap (λ (l : List LogLine). answers e.answer ++ says.Decision e.decision ∷ l) (sym (map-append says.Action e.actions (a ∷ []))))

-- an action is one more of the last entry
does : (a : Action) (options : Option Item) (older log : List Entry) (last : Entry) (half : List LogLine) → log ≡ older ++ last ∷ [] → half ≡ [] → Grown stage.Decided (says.Action a) options log half
does a options older log last half whole none = record {
  options_now = options;
  log_now = older ++ with_action last a ∷ [];
  open_now = [];
  parts =
      ap (λ (o : List LogLine). (lines_of options log ++ o) ++ says.Action a ∷ []) none
      ∙ ap (λ (l : List Entry). (lines_of options l ++ []) ++ says.Action a ∷ []) whole
      ∙ ap (λ (l : List LogLine). l ++ says.Action a ∷ []) (lines_of-more options older last)
      ∙ append_assoc (lines_of options older) (says_of last) (says.Action a ∷ [])
      ∙ ap (λ (l : List LogLine). lines_of options older ++ l) (says_of-action last a)
      ∙ sym (lines_of-more options older (with_action last a));
  is_at = (older, with_action last a, refl, refl);
}

-- the options come first
starts : (i : Item) (options : Option Item) (log : List Entry) (half : List LogLine) → IsAt stage.Start options log half → Grown stage.Opened (says.Options i) options log half
starts i options log half is_at = record {
  options_now = Some i;
  log_now = [];
  open_now = [];
  parts =
      ap (λ (o : List LogLine). (lines_of options log ++ o) ++ says.Options i ∷ []) is_at.2
      ∙ ap (λ (l : List Entry). (lines_of options l ++ []) ++ says.Options i ∷ []) is_at.1
      ∙ ap (λ (p : Option Item). (lines_of p [] ++ []) ++ says.Options i ∷ []) is_at.0;
  is_at = refl;
}

grown : (s t : Stage) (x : LogLine) (options : Option Item) (log : List Entry) (half : List LogLine) → IsLogLine x → IsAt s options log half → stage_after s x ≡ Some t → Grown t x options log half
grown stage.Start t (says.Options i) options log half fits is_at e =
    subst (λ (u : Stage). Grown u (says.Options i) options log half) (some_is stage.Opened t e) (starts i options log half is_at)
grown stage.Start t (says.Event d) options log half fits is_at e =
    subst (λ (u : Stage). Grown u (says.Event d) options log half) (some_is stage.Happened t e) (opens d options log half is_at.2)
grown stage.Opened t (says.Event d) options log half fits is_at e =
    subst (λ (u : Stage). Grown u (says.Event d) options log half) (some_is stage.Happened t e) (opens d options log half is_at)
grown stage.Decided t (says.Event d) options log half fits is_at e =
    subst (λ (u : Stage). Grown u (says.Event d) options log half) (some_is stage.Happened t e) (opens d options log half is_at.3)
grown stage.Happened t (says.Answer a) options log half fits is_at e =
    subst (λ (u : Stage). Grown u (says.Answer a) options log half) (some_is stage.Answered t e)
    (record {
      options_now = options;
      log_now = log;
      open_now = says.Event is_at.0 ∷ says.Answer a ∷ [];
      parts =
          append_assoc (lines_of options log) half (says.Answer a ∷ [])
          ∙ ap (λ (o : List LogLine). lines_of options log ++ (o ++ says.Answer a ∷ [])) is_at.1;
      is_at = (is_at.0, a, fits, refl);
    })
grown stage.Happened t (says.Decision d) options log half fits is_at e =
    subst (λ (u : Stage). Grown u (says.Decision d) options log half) (some_is stage.Decided t e)
    (decides (entry_of is_at.0 answer.None d) d options log half (ap (λ (o : List LogLine). o ++ says.Decision d ∷ []) is_at.1))
grown stage.Answered t (says.Decision d) options log half fits is_at e =
    subst (λ (u : Stage). Grown u (says.Decision d) options log half) (some_is stage.Decided t e)
    (decides (entry_of is_at.0 is_at.1 d) d options log half
    (ap (λ (o : List LogLine). o ++ says.Decision d ∷ []) is_at.3
    ∙ ap (λ (o : List LogLine). says.Event is_at.0 ∷ o ++ says.Decision d ∷ []) (sym (answers-some is_at.1 is_at.2))))
grown stage.Decided t (says.Action a) options log half fits is_at e =
    subst (λ (u : Stage). Grown u (says.Action a) options log half) (some_is stage.Decided t e) (does a options is_at.0 log is_at.1 half is_at.2 is_at.3)
grown s t x options log half fits is_at e = absurd cc

-- a line that may stand there was read
pub reached-more : (s t : Stage) (before : List LogLine) (x : LogLine) → Reached s before → IsLogLine x → stage_after s x ≡ Some t → Reached t (before ++ x ∷ [])
reached-more s t before x reached fits e =
    let g = grown s t x reached.options reached.log reached.open_lines fits reached.is_at e in
    record {
      fits = all-append IsLogLine before (x ∷ []) reached.fits (fits, tt);
      stands = behind-one s before x reached.stands ∙ ap (λ (o : Option Stage). o >>= λ u. Some u) e;
      options = g.options_now;
      log = g.log_now;
      open_lines = g.open_now;
      parts = ap (λ (l : List LogLine). l ++ x ∷ []) reached.parts ∙ g.parts;
      is_at = g.is_at;
    }

none-half : (s : Stage) (options : Option Item) (log : List Entry) (half : List LogLine) → is_whole s ≡ true → IsAt s options log half → half ≡ []
none-half stage.Start options log half whole is_at = is_at.2
none-half stage.Opened options log half whole is_at = is_at
none-half stage.Happened options log half whole is_at = absurd cc
none-half stage.Answered options log half whole is_at = absurd cc
none-half stage.Decided options log half whole is_at = is_at.3

-- where a log can end, the lines are those of a log
pub reached-log : (s : Stage) (before : List LogLine) → Reached s before → is_whole s ≡ true → IsLog before
reached-log s before reached whole = (
  reached.options,
  reached.log,
  record {
    same =
        reached.parts
        ∙ ap (λ (o : List LogLine). lines_of reached.options reached.log ++ o) (none-half s reached.options reached.log reached.open_lines whole reached.is_at)
        ∙ append-nil (lines_of reached.options reached.log);
    fits = reached.fits;
  },
)

front-log : (before : List LogLine) → IsLog before → IsFront before
front-log before log = ([], subst IsLog (sym (append-nil before)) log)

-- some decision makes an half entry whole
abbrev some_decision : LogLine
some_decision = says.Decision decision.Opened

front-more : (s : Stage) (before : List LogLine) → Reached s before → stage_after s some_decision ≡ Some stage.Decided → IsFront before
front-more s before reached e =
    (some_decision ∷ [], reached-log stage.Decided (before ++ some_decision ∷ []) (reached-more s stage.Decided before some_decision reached tt e) refl)

-- what was read is the front of a printed log
pub reached-front : (s : Stage) (before : List LogLine) → Reached s before → IsFront before
reached-front stage.Start before reached = front-log before (reached-log stage.Start before reached refl)
reached-front stage.Opened before reached = front-log before (reached-log stage.Opened before reached refl)
reached-front stage.Happened before reached = front-more stage.Happened before reached refl
reached-front stage.Answered before reached = front-more stage.Answered before reached refl
reached-front stage.Decided before reached = front-log before (reached-log stage.Decided before reached refl)

-- ---- a line of the text

false_from_not : (b : Bool) → (b ≡ true → ⊥) → b ≡ false
false_from_not true h = absurd (h refl)
false_from_not false h = refl

-- what a search for a line feed finds
pub feed_found : (bytes : List ℕ) (i : ℕ) → IsFirstByte (is_byte 10) bytes (Some i) → (i < length bytes) × (position_or_len is_line_feed bytes ≡ i)
feed_found bytes i first = (
  first.0.high,
  position_or_len_is is_line_feed bytes i 0 (omega (arith, first.0.high))
      (λ k lt. false_from_not (is_line_feed (get_or bytes k 0)) (first.0.before k (omega arith) lt)) (λ lt. first.1),
)

pub feed_none : (bytes : List ℕ) → IsFirstByte (is_byte 10) bytes None → position_or_len is_line_feed bytes ≡ length bytes
feed_none bytes nowhere =
    position_or_len_is is_line_feed bytes (length bytes) 0 (omega arith)
    (λ k lt. false_from_not (is_line_feed (get_or bytes k 0)) (nowhere k (omega arith) lt)) (λ lt. absurd (omega arith))

-- the parts of a text on both sides of a line feed that was found
pub cut_told : (bytes : List ℕ) (i : ℕ) → IsFirstByte (is_byte 10) bytes (Some i) →
    (position_or_len is_line_feed bytes < length bytes) × (take i bytes ≡ first_line bytes) × (take (length bytes - (i + 1)) (drop (i + 1) bytes) ≡ behind_line bytes)
cut_told bytes i first =
    let f = feed_found bytes i first in (
      omega (arith, f.0, f.1),
      ap (λ (n : ℕ). take n bytes) (sym f.1),
      take_all (length bytes - (i + 1)) (drop (i + 1) bytes) (omega (arith, length-drop (i + 1) bytes)) ∙ ap (λ (n : ℕ). drop (n + 1) bytes) (sym f.1),
    )

-- a text with a line feed is its first line, the line feed, and what is behind
cut_at : (bytes : List ℕ) → position_or_len is_line_feed bytes < length bytes → first_line bytes ++ 10 ∷ behind_line bytes ≡ bytes
cut_at bytes lt = cut bytes (position_or_len is_line_feed bytes) lt (passes_at_first is_line_feed bytes 0 lt) where
  cut : (bytes : List ℕ) (i : ℕ) → i < length bytes → is_line_feed (get_or bytes i 0) ≡ true → take i bytes ++ 10 ∷ drop (i + 1) bytes ≡ bytes
  cut [] i lt e = absurd (omega arith)
  cut (b ∷ bytes) zero lt e = ap (λ (c : ℕ). c ∷ bytes) (sym (eqb-true b 10 e))
  cut (b ∷ bytes) (suc i) lt e =
      let next : suc i + 1 ≡ suc (i + 1) = omega arith in
      ap (λ (n : ℕ). b ∷ (take i bytes ++ 10 ∷ drop n (b ∷ bytes))) next ∙ ap (λ (t : List ℕ). b ∷ t) (cut bytes i (omega arith) e)

text_of-one : (before : List LogLine) (x : LogLine) → text_of (before ++ x ∷ []) ≡ text_of before ++ line (log_line x)
text_of-one before x = flat_map-append (λ y. line (log_line y)) before (x ∷ []) ∙ ap (λ (t : List ℕ). text_of before ++ t) (append-nil (line (log_line x)))

pub start_told : (all : List ℕ) (place : Place) → place.stage ≡ stage.Start → place.lines ≡ 0 → place.taken ≡ 0 → HasRead [] all all place
start_told all place start lines taken = record {
  lines = lines;
  taken = taken;
  small = omega arith;
  reached = subst (λ (s : Stage). Reached s []) (sym start) (record { fits = tt; stands = refl; options = None; log = []; open_lines = []; parts = refl; is_at = (refl, refl, refl) });
  all_is = refl;
}

pub line_told : (before : List LogLine) (all bytes : List ℕ) (place later : Place) (x : LogLine) →
    HasRead before all bytes place →
    position_or_len is_line_feed bytes < length bytes →
    log_line x ≡ first_line bytes →
    IsLogLine x →
    stage_after place.stage x ≡ Some later.stage →
    later.lines ≡ place.lines + 1 →
    later.taken ≡ place.taken + line_size bytes →
    later.taken ≤ 67108864 →
    ComesNext before bytes x × HasRead (before ++ x ∷ []) all (behind_line bytes) later
line_told before all bytes place later x read feed spelled fits e lines taken small =
    let reached = reached-more place.stage later.stage before x read.reached fits e in
    let one = text_of-one before x in
    let size : length (text_of (before ++ x ∷ [])) ≡ length (text_of before) + line_size bytes =
    omega (arith, ap length one, length-append (text_of before) (line (log_line x)), length-append (log_line x) (10 ∷ []), ap length spelled) in (
      record {
        ends = feed;
        spelled = spelled;
        front = reached-front later.stage (before ++ x ∷ []) reached;
        small = omega (arith, read.taken, taken, small);
      },
      record {
        lines = omega (arith, read.lines, lines, length-append before (x ∷ []));
        taken = omega (arith, read.taken, taken, size);
        small = small;
        reached = reached;
        all_is =
            ap (λ (t : List ℕ). t ++ behind_line bytes) one
            ∙ append_assoc (text_of before) (line (log_line x)) (behind_line bytes)
            ∙ ap (λ (t : List ℕ). text_of before ++ t) (append_assoc (log_line x) (10 ∷ []) (behind_line bytes) ∙ ap (λ (t : List ℕ). t ++ 10 ∷ behind_line bytes) spelled ∙ cut_at bytes feed)
            ∙ read.all_is;
      },
    )

-- what comes next fits its type
pub comes-fits : (before : List LogLine) (bytes : List ℕ) (x : LogLine) → ComesNext before bytes x → IsLogLine x
comes-fits before bytes x next =
    let all = subst (AllByRecursion IsLogLine) (append_assoc before (x ∷ []) next.front.0) next.front.1.2.fits in
    (all-parts IsLogLine before (x ∷ next.front.0) all).1.0

abbrev pub IsBad : List LogLine → List ℕ → Type 0
IsBad before bytes = (x : LogLine) → ComesNext before bytes x → ⊥

pub bad_unended : (before : List LogLine) (bytes : List ℕ) → position_or_len is_line_feed bytes ≡ length bytes → IsBad before bytes
bad_unended before bytes none x next = absurd (omega (arith, none, next.ends))

pub bad_long : (before : List LogLine) (all bytes : List ℕ) (place : Place) → HasRead before all bytes place → 67108864 < place.taken + line_size bytes → IsBad before bytes
bad_long before all bytes place read long x next = absurd (omega (arith, read.taken, long, next.small))

pub bad_unread : (before : List LogLine) (bytes : List ℕ) → ((x : LogLine) → IsLogLine x → log_line x ≡ first_line bytes → ⊥) → IsBad before bytes
bad_unread before bytes none x next = none x (comes-fits before bytes x next) next.spelled

pub bad_place : (before : List LogLine) (all bytes : List ℕ) (place : Place) (x : LogLine) → HasRead before all bytes place → log_line x ≡ first_line bytes → IsLogLine x → stage_after place.stage x ≡ None → IsBad before bytes
bad_place before all bytes place x read spelled fits none y next =
    let same : y ≡ x = log_line-injective y x (comes-fits before bytes y next) fits (next.spelled ∙ sym spelled) in
    refused place.stage before x read.reached none (subst (λ (z : LogLine). IsFront (before ++ z ∷ [])) same next.front)

pub bad_told : (before : List LogLine) (all bytes : List ℕ) (place : Place) (k : ℕ) → HasRead before all bytes place → 0 < length bytes → IsBad before bytes → k ≡ place.lines + 1 → IsFirstBad k before bytes
bad_told before all bytes place k read some bad count = record {
  front = reached-front place.stage before read.reached;
  small = omega (arith, read.taken, read.small);
  bad = inl (some, bad, omega (arith, count, read.lines));
}

pub whole_told : (before : List LogLine) (all : List ℕ) (place : Place) → HasRead before all [] place → is_whole place.stage ≡ true → IsLog before × (text_of before ≡ all)
whole_told before all place read whole = (reached-log place.stage before read.reached whole, sym (append-nil (text_of before)) ∙ read.all_is)

pub open_told : (before : List LogLine) (all : List ℕ) (place : Place) → HasRead before all [] place → is_whole place.stage ≡ false → IsFirstBad place.lines before []
open_told before all place read half = record {
  front = reached-front place.stage before read.reached;
  small = omega (arith, read.taken, read.small);
  bad = inr (refl, unfinished place.stage before read.reached half, read.lines);
}

-- the text of a log's lines is its print
pub printed_told : (before : List LogLine) (all : List ℕ) (place : Place) → HasRead before all [] place → IsLog before × (text_of before ≡ all) → IsPrinted all
printed_told before all place read told =
    let log = told.0 in
    let same = log.2.same in (
      log.0,
      log.1,
      record {
        spelled = sym told.1 ∙ ap text_of same ∙ lines-text log.0 log.1;
        fits = subst (AllByRecursion IsLogLine) same log.2.fits;
        small = omega (arith, ap length told.1, read.taken, read.small);
      },
    )

pub first_bad : (k : ℕ) (before : List LogLine) (all rest : List ℕ) (place : Place) → HasRead before all rest place → IsFirstBad k before rest → HasFirstBad k all
first_bad k before all rest place read bad = (before, rest, read.all_is, bad)
