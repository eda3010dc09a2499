-- A text has at most one verdict.
use Rattle.std.proofs.Common.{◌≡◌, ℕ, ◌+◌, ◌<◌, ◌≤◌, ◌⊎◌, inl, inr, List, [], ◌∷◌, ◌++◌, length, map, reverse, Option, refl, sym, ap, subst, ◌∙◌, append_assoc, arith}
use Rattle.std.specs.List.{flat_map, AllByRecursion}
use Rattle.std.specs.Prelude.{Result, Ok, Err, IfOk}
use Rattle.std.proofs.lemmas.Bool.{cases_lt}
use Rattle.std.proofs.lemmas.Grind.{flat_map-append}
use Rattle.std.proofs.lemmas.List.{append-nil, append_cancel_left, length-append, length-reverse, map-append, reverse-append}
use Rattle.ftp_options.specs.declared.options.Options.{Options}
use Rattle.ftp_events.specs.declared.action.Action.{Action}
use Rattle.ftp_events.specs.declared.decision.Decision.{Decision}
use Rattle.ftp_events.specs.declared.entry.Entry.{Entry}
use Rattle.ftp_text.specs.declared.setup.Item.{Item}
use Rattle.ftp_text.specs.Printing.{line}
use Rattle.ftp_text.specs.declared.line.LogLine.{LogLine}
use Rattle.ftp_text.specs.declared.line.LogLine.TheVariants as says
use Rattle.ftp_text.specs.LogLines.{log_line, IsLogLine}
use Rattle.ftp_text.specs.LogText.{says_of, opening, lines_of, text_of, IsLog, IsFront, ComesNext, IsFirstBad}
use Rattle.ftp_text.specs.Settings.{settings_in}
use Rattle.ftp_text.proofs.PrintedLemmas.{first-is, one_bad, text-cons}
use Rattle.ftp_text.proofs.SettingsLemmas.{options-once}
use Rattle.ftp_check_log.specs.declared.verdict.Verdict.{Verdict}
use Rattle.ftp_check_log.specs.declared.verdict.Verdict.TheVariants as verdict
use Rattle.ftp_check_log.specs.Verdicts.{IsDueLog, AreLinesOf, head_of, HasOtherDecision, Strays, GoesAstray, HasOtherActions, HasBadText, TellsOfText, IsOnlyVerdict}
use Rattle.ftp_check_log.proofs.CheckLemmas.{lines_of-newest}
use Rattle.ftp_check_log.proofs.OnlyLemmas.{AreNext, are-next, SameOpening, right-only}
use Rattle.ftp_check_log.proofs.PartLemmas.{GoesOnAs, goes-on-as, no-text, NoAction, IsWhole, Part, together, first_on, second_on, part, whole-part, same-start-half, same-start}

-- ---- where lines are not as they are due

-- no further line makes this right
abbrev NeverOn : Entry → Decision → List LogLine → Type 0
NeverOn next d last = (more : List LogLine) → IsWhole next d (last ++ more) → ⊥

-- the text ends here
record Ends (next : Entry) (d : Decision) (last lines : List LogLine) (rest : List ℕ) : Type 0 where
  rest_is : rest ≡ []
  log : IsLog lines
  short : IsWhole next d last → ⊥

-- behind so many due entries an event is decided so, and that or what comes then is not as it is due
record Halts (n : ℕ) (next : Entry) (d : Decision) (lines : List LogLine) (rest : List ℕ) : Type 0 where
  line : Option Item
  log : List Entry
  due : IsDueLog line (next ∷ log)
  count : n ≡ length log
  last : List LogLine
  parts : lines ≡ lines_of line (reverse log) ++ (head_of next ++ says.Decision d ∷ last)
  never : NeverOn next d last ⊎ Ends next d last lines rest

halts-decided : (n : ℕ) (due : Decision) (lines : List LogLine) (rest : List ℕ) → (w : HasOtherDecision n due lines) → Halts n w.next w.other lines rest
halts-decided n due lines rest w = record {
  line = w.line;
  log = w.log;
  due = w.is_due;
  count = w.count;
  last = [];
  parts = w.parts;
  never = inl (λ more whole. w.differs (whole.decision ∙ sym w.due_is));
}

strays-never : (missing : List Action) (x : LogLine) (more behind : List LogLine) → NoAction behind → x ∷ more ≡ map says.Action missing ++ behind → Strays missing x → ⊥
strays-never [] (says.Action a) more behind none e strays = subst NoAction (sym e) none
strays-never (b ∷ missing) (says.Action a) more behind none e strays = let same : b ≡ a = cc in strays missing (λ i. same i ∷ missing)
strays-never [] (says.Event d) more behind none e strays = strays refl
strays-never (b ∷ missing) (says.Event d) more behind none e strays = absurd cc
strays-never missing (says.Options i) more behind none e strays = strays
strays-never missing (says.Answer a) more behind none e strays = strays
strays-never missing (says.Decision d) more behind none e strays = strays

none-missing : (missing : List Action) (behind : List LogLine) → [] ≡ map says.Action missing ++ behind → missing ≡ []
none-missing [] behind e = refl
none-missing (a ∷ missing) behind e = absurd cc

-- behind the actions that were done come the missing ones
behind-done : (next : Entry) (done missing : List Action) (last : List LogLine) (behind : List LogLine) → next.actions ≡ done ++ missing → map says.Action done ++ last ≡ map says.Action next.actions ++ behind →
    last ≡ map says.Action missing ++ behind
behind-done next done missing last behind actions e =
    append_cancel_left (map says.Action done) last (map says.Action missing ++ behind)
    (e
    ∙ ap (λ (l : List Action). map says.Action l ++ behind) actions
    ∙ ap (λ (l : List LogLine). l ++ behind) (map-append says.Action done missing)
    ∙ append_assoc (map says.Action done) (map says.Action missing) behind)

never-acted : (next : Entry) (done missing : List Action) (last lines : List LogLine) (rest : List ℕ) →
    next.actions ≡ done ++ missing →
    GoesAstray missing last rest →
    (last ≡ [] → IsLog lines) →
    NeverOn next next.decision (map says.Action done ++ last) ⊎ Ends next next.decision (map says.Action done ++ last) lines rest
never-acted next done missing [] lines rest actions astray log =
    inr (record {
      rest_is = astray.1;
      log = log refl;
      short = λ whole. astray.0 (none-missing missing whole.behind (behind-done next done missing [] whole.behind actions whole.actions));
    })
never-acted next done missing (x ∷ []) lines rest actions astray log =
    inl (λ more whole.
    strays-never missing x more whole.behind whole.none
    (behind-done next done missing (x ∷ more) whole.behind actions (sym (append_assoc (map says.Action done) (x ∷ []) more) ∙ whole.actions)) astray)
never-acted next done missing (x ∷ y ∷ last) lines rest actions astray log = absurd astray

halts-acted : (n : ℕ) (lines : List LogLine) (rest bytes : List ℕ) → AreLinesOf lines rest bytes → (w : HasOtherActions n lines rest) → Halts n w.next w.next.decision lines rest
halts-acted n lines rest bytes are w = record {
  line = w.line;
  log = w.log;
  due = w.is_due;
  count = w.count;
  last = map says.Action w.done ++ w.last;
  parts =
      w.parts
      ∙ append_assoc (lines_of w.line (reverse w.log)) (head_of w.next ++ says.Decision w.next.decision ∷ map says.Action w.done) w.last
      ∙ ap (λ (l : List LogLine). lines_of w.line (reverse w.log) ++ l) (append_assoc (head_of w.next) (says.Decision w.next.decision ∷ map says.Action w.done) w.last);
  never = never-acted w.next w.done w.missing w.last lines rest w.actions w.astray log;
} where
  short : Entry
  short = record { event = w.next.event; answer = w.next.answer; decision = w.next.decision; actions = w.done }

  log : w.last ≡ [] → IsLog lines
  log none = (
    w.line,
    reverse (short ∷ w.log),
    record {
      same =
          w.parts
          ∙ ap (λ (l : List LogLine). (lines_of w.line (reverse w.log) ++ (head_of w.next ++ says.Decision w.next.decision ∷ map says.Action w.done)) ++ l) none
          ∙ append-nil (lines_of w.line (reverse w.log) ++ (head_of w.next ++ says.Decision w.next.decision ∷ map says.Action w.done))
          ∙ sym (lines_of-newest w.line w.log short);
      fits = are.fits;
    },
  )

-- ---- two such places

record SameHalt (n m : ℕ) (a b : Entry) (d e : Decision) : Type 0 where
  count : n ≡ m
  next : a ≡ b
  decision : d ≡ e

never-on : (next : Entry) (d : Decision) (last lines more : List LogLine) (rest behind : List ℕ) →
    NeverOn next d last ⊎ Ends next d last lines rest →
    IsWhole next d (last ++ more) →
    rest ≡ text_of more ++ behind →
    ⊥
never-on next d last lines more rest behind (inl never) whole r = never more whole
never-on next d last lines more rest behind (inr ends) whole r =
    let nothing : more ≡ [] = no-text more behind (sym r ∙ ends.rest_is) in
    ends.short (subst (IsWhole next d) (ap (λ (l : List LogLine). last ++ l) nothing ∙ append-nil last) whole)

-- the lines and more, from the opening on
extended : (line : Option Item) (log : List Entry) (a : Entry) (d : Decision) (last more lines : List LogLine) → lines ≡ lines_of line (reverse log) ++ (head_of a ++ says.Decision d ∷ last) →
    lines ++ more ≡ opening line ++ (flat_map says_of (reverse log) ++ (head_of a ++ says.Decision d ∷ (last ++ more)))
extended line log a d last more lines parts =
    ap (λ (l : List LogLine). l ++ more) parts
    ∙ append_assoc (lines_of line (reverse log)) (head_of a ++ says.Decision d ∷ last) more
    ∙ append_assoc (opening line) (flat_map says_of (reverse log)) ((head_of a ++ says.Decision d ∷ last) ++ more)
    ∙ ap (λ (l : List LogLine). opening line ++ (flat_map says_of (reverse log) ++ l)) (append_assoc (head_of a) (says.Decision d ∷ last) more)

due-next : (line : Option Item) (log : List Entry) (a : Entry) → (due : IsDueLog line (a ∷ log)) → AreNext due.options [] (reverse log ++ a ∷ [])
due-next line log a due = subst (AreNext due.options []) (reverse-append (a ∷ []) log) (are-next due.options (a ∷ log) due.right due.acted)

two-halts : (n m : ℕ) (a b : Entry) (d e : Decision) (lines others : List LogLine) (rest behind : List ℕ) → Halts n a d lines rest → Halts m b e others behind → GoesOnAs lines rest others behind → SameHalt n m a b d e
two-halts n m a b d e lines others rest behind h k on =
    let whole : opening h.line ++ (flat_map says_of (reverse h.log) ++ (head_of a ++ says.Decision d ∷ (h.last ++ on.more))) ≡ opening k.line ++ (flat_map says_of (reverse k.log) ++ (head_of b ++ says.Decision e ∷ k.last)) =
    sym (extended h.line h.log a d h.last on.more lines h.parts)
    ∙ sym on.lines_are
    ∙ k.parts
    ∙ append_assoc (opening k.line) (flat_map says_of (reverse k.log)) (head_of b ++ says.Decision e ∷ k.last) in
    let start = same-start h.line k.line (reverse h.log) (reverse k.log) a b (says.Decision d ∷ (h.last ++ on.more)) (says.Decision e ∷ k.last) whole in
    let options : h.due.options ≡ k.due.options = options-once h.due.options k.due.options (h.due.set ∙ ap settings_in start.line ∙ sym k.due.set) in
    let mine : AreNext k.due.options [] (reverse h.log ++ a ∷ []) = subst (λ (o : Options). AreNext o [] (reverse h.log ++ a ∷ [])) options (due-next h.line h.log a h.due) in
    at (part k.due.options [] (reverse h.log) (reverse k.log) a b d e (h.last ++ on.more) k.last mine (due-next k.line k.log b k.due) start.rest) where
      at : Part (length (reverse h.log)) (length (reverse k.log)) a b d e (h.last ++ on.more) k.last → SameHalt n m a b d e
      at (together c p q) = record { count = omega (arith, h.count, k.count, c, length-reverse h.log, length-reverse k.log); next = p; decision = q }
      at (first_on w) = absurd (never-on a d h.last lines on.more rest behind h.never w on.rest_is)
      at (second_on w) = absurd (never-on b e k.last others [] behind behind k.never (subst (IsWhole b e) (sym (append-nil k.last)) w) refl)

-- a verdict that names such a place
record Halting (v : Verdict) (lines : List LogLine) (rest : List ℕ) : Type 0 where
  count : ℕ
  next : Entry
  decision : Decision
  halts : Halts count next decision lines rest
  verdict_is :
      ((v ≡ verdict.Decided count next.decision) × (decision ≡ next.decision → ⊥))
      ⊎ ((v ≡ verdict.Acted count) × (decision ≡ next.decision))

halting-decided : (n : ℕ) (due : Decision) (lines : List LogLine) (rest : List ℕ) → HasOtherDecision n due lines → Halting (verdict.Decided n due) lines rest
halting-decided n due lines rest w = record {
  count = n;
  next = w.next;
  decision = w.other;
  halts = halts-decided n due lines rest w;
  verdict_is = inl (ap (λ (d : Decision). verdict.Decided n d) w.due_is, λ same. w.differs (same ∙ sym w.due_is));
}

halting-acted : (n : ℕ) (lines : List LogLine) (rest bytes : List ℕ) → AreLinesOf lines rest bytes → HasOtherActions n lines rest → Halting (verdict.Acted n) lines rest
halting-acted n lines rest bytes are w = record {
  count = n;
  next = w.next;
  decision = w.next.decision;
  halts = halts-acted n lines rest bytes are w;
  verdict_is = inr (refl, refl);
}

same-verdict : (v w : Verdict) (lines others : List LogLine) (rest behind : List ℕ) → (h : Halting v lines rest) (k : Halting w others behind) → SameHalt h.count k.count h.next k.next h.decision k.decision → w ≡ v
same-verdict v w lines others rest behind h k s = elim h.verdict_is [
  | inl p ↦
      elim k.verdict_is [
        | inl q ↦
            q.0
            ∙ ap (λ (c : ℕ). verdict.Decided c k.next.decision) (sym s.count)
            ∙ ap (λ (x : Entry). verdict.Decided h.count x.decision) (sym s.next)
            ∙ sym p.0
        | inr q ↦ absurd (p.1 (s.decision ∙ q.1 ∙ ap (λ (x : Entry). x.decision) (sym s.next)))
      ]
  | inr p ↦
      elim k.verdict_is [
        | inl q ↦ absurd (q.1 (sym s.decision ∙ p.1 ∙ ap (λ (x : Entry). x.decision) s.next))
        | inr q ↦ q.0 ∙ ap (λ (c : ℕ). verdict.Acted c) (sym s.count) ∙ sym p.0
      ]
]

two-halting : (v w : Verdict) (lines others : List LogLine) (rest behind bytes : List ℕ) →
    AreLinesOf lines rest bytes →
    AreLinesOf others behind bytes →
    Halting v lines rest →
    Halting w others behind →
    w ≡ v
two-halting v w lines others rest behind bytes p q h k = elim (cases_lt (length (text_of others)) (length (text_of lines))) [
  | inl lt ↦
      sym
      (same-verdict w v others lines behind rest k h
      (two-halts k.count h.count k.next h.next k.decision h.decision others lines behind rest k.halts h.halts (goes-on-as others lines behind rest bytes q p (omega (arith, lt)))))
  | inr le ↦
      same-verdict v w lines others rest behind h k
      (two-halts h.count k.count h.next k.next h.decision k.decision lines others rest behind h.halts k.halts (goes-on-as lines others rest behind bytes p q le))
]

-- ---- a bad line and such a place

fits-there : (before : List LogLine) (x : LogLine) (more : List LogLine) → AllByRecursion IsLogLine (before ++ x ∷ more) → IsLogLine x
fits-there [] x more fits = fits.0
fits-there (y ∷ before) x more fits = fits-there before x more fits.1

-- a line that can be read is not bad
read-on : (k : ℕ) (before lines more : List LogLine) (x : LogLine) (rest behind bytes : List ℕ) →
    IsFirstBad k before behind →
    AreLinesOf lines rest bytes →
    lines ≡ before ++ x ∷ more →
    behind ≡ text_of (x ∷ more) ++ rest →
    ⊥
read-on k before lines more x rest behind bytes bad are lines_are rest_is =
    let fits : IsLogLine x = fits-there before x more (subst (AllByRecursion IsLogLine) lines_are are.fits) in
    let front : IsFront (before ++ x ∷ more) = subst IsFront lines_are are.front in
    let whole : behind ≡ log_line x ++ 10 ∷ (text_of more ++ rest) = rest_is ∙ ap (λ (t : List ℕ). t ++ rest) (text-cons x more) ∙ append_assoc (log_line x) (10 ∷ text_of more) rest in
    let first = first-is x (text_of more ++ rest) behind fits whole in
    let size : length (text_of before) + (length (log_line x) + 1) ≤ 67108864 =
    omega (arith, are.small, ap (λ (l : List LogLine). length (text_of l)) lines_are, ap length (flat_map-append (λ (y : LogLine). line (log_line y)) before (x ∷ more)), length-append (text_of before) (text_of (x ∷ more)), ap length (text-cons x more), length-append (log_line x) (10 ∷ text_of more)) in
    let next : ComesNext before behind x =
    record {
      ends = omega (arith, first.0, first.2);
      spelled = first.1;
      front = (more ++ front.0, subst IsLog (append_assoc before (x ∷ more) front.0 ∙ sym (append_assoc before (x ∷ []) (more ++ front.0))) front.1);
      small = omega (arith, size, ap length first.1);
    } in
    elim bad.bad [
      | inl there ↦ there.1 x next
      | inr end ↦ absurd (omega (arith, ap length end.0, first.2))
    ]

-- the first bad line is not before such a place
bad-before : (k : ℕ) (v : Verdict) (before lines : List LogLine) (rest behind bytes : List ℕ) →
    IsFirstBad k before behind →
    AreLinesOf lines rest bytes →
    length (text_of before) < length (text_of lines) →
    (more : List LogLine) →
    lines ≡ before ++ more →
    behind ≡ text_of more ++ rest →
    ⊥
bad-before k v before lines rest behind bytes bad are lt [] lines_are rest_is =
    absurd (omega (arith, lt, ap (λ (l : List LogLine). length (text_of l)) (lines_are ∙ append-nil before)))
bad-before k v before lines rest behind bytes bad are lt (x ∷ more) lines_are rest_is = read-on k before lines more x rest behind bytes bad are lines_are rest_is

-- nor behind it
bad-behind : (k n : ℕ) (a : Entry) (d : Decision) (before lines : List LogLine) (rest behind : List ℕ) →
    HasBadText k before behind →
    Halts n a d lines rest →
    GoesOnAs lines rest before behind →
    ⊥
bad-behind k n a d before lines rest behind bad h on = elim h.never [
  | inl never ↦ never (on.more ++ missing) whole
  | inr ends ↦
      elim bad.bad.bad [
        | inl there ↦ absurd (omega (arith, there.0, ap length (sym on.rest_is ∙ ends.rest_is), length-append (text_of on.more) behind))
        | inr end ↦
            end.1
            (subst IsLog
            (sym (on.lines_are ∙ ap (λ (l : List LogLine). lines ++ l) (no-text on.more behind (sym on.rest_is ∙ ends.rest_is)) ∙ append-nil lines))
            ends.log)
      ]
] where
  missing : List LogLine
  missing = map says.Action bad.due.missing

  start : SameOpening h.line bad.due.line (flat_map says_of (reverse h.log) ++ (head_of a ++ says.Decision d ∷ (h.last ++ (on.more ++ missing)))) (flat_map says_of (reverse bad.due.log) ++ bad.due.undecided)
  start =
      same-start-half h.line bad.due.line (reverse h.log) (reverse bad.due.log) a (says.Decision d ∷ (h.last ++ (on.more ++ missing))) bad.due.undecided bad.due.half
      (sym (extended h.line h.log a d h.last (on.more ++ missing) lines h.parts)
      ∙ sym (append_assoc lines on.more missing)
      ∙ ap (λ (l : List LogLine). l ++ missing) (sym on.lines_are)
      ∙ bad.due.parts
      ∙ append_assoc (opening bad.due.line) (flat_map says_of (reverse bad.due.log)) bad.due.undecided)

  options : h.due.options ≡ bad.due.due.options
  options = options-once h.due.options bad.due.due.options (h.due.set ∙ ap settings_in start.line ∙ sym bad.due.due.set)

  whole : IsWhole a d (h.last ++ (on.more ++ missing))
  whole =
      whole-part bad.due.due.options [] (reverse h.log) (reverse bad.due.log) a d (h.last ++ (on.more ++ missing)) bad.due.undecided
      (subst (λ (o : Options). AreNext o [] (reverse h.log ++ a ∷ [])) options (due-next h.line h.log a h.due))
      (are-next bad.due.due.options bad.due.log bad.due.due.right bad.due.due.acted) bad.due.half start.rest

bad-halting : (k : ℕ) (v : Verdict) (before lines : List LogLine) (rest behind bytes : List ℕ) →
    AreLinesOf before behind bytes →
    HasBadText k before behind →
    AreLinesOf lines rest bytes →
    Halting v lines rest →
    ⊥
bad-halting k v before lines rest behind bytes p bad q h = elim (cases_lt (length (text_of before)) (length (text_of lines))) [
  | inl lt ↦
      let on = goes-on-as before lines behind rest bytes p q (omega (arith, lt)) in
      bad-before k v before lines rest behind bytes bad.bad q lt on.more on.lines_are on.rest_is
  | inr le ↦ bad-behind k h.count h.next h.decision before lines rest behind bad h.halts (goes-on-as lines before rest behind bytes q p le)
]

-- ---- the one verdict

-- a text has no two verdicts
pub one-verdict : (v w : Verdict) (bytes : List ℕ) → TellsOfText v bytes → TellsOfText w bytes → w ≡ v
one-verdict (verdict.Right n) w bytes p q = right-only w n bytes p q
one-verdict (verdict.Decided n d) (verdict.Right m) bytes p q = sym (right-only (verdict.Decided n d) m bytes q p)
one-verdict (verdict.Decided n d) (verdict.Decided m e) bytes p q =
    two-halting (verdict.Decided n d) (verdict.Decided m e) p.0 q.0 p.1 q.1 bytes p.2 q.2 (halting-decided n d p.0 p.1 p.3) (halting-decided m e q.0 q.1 q.3)
one-verdict (verdict.Decided n d) (verdict.Acted m) bytes p q =
    two-halting (verdict.Decided n d) (verdict.Acted m) p.0 q.0 p.1 q.1 bytes p.2 q.2 (halting-decided n d p.0 p.1 p.3) (halting-acted m q.0 q.1 bytes q.2 q.3)
one-verdict (verdict.Decided n d) (verdict.BadText k) bytes p q =
    absurd (bad-halting k (verdict.Decided n d) q.0 p.0 p.1 q.1 bytes q.2 q.3 p.2 (halting-decided n d p.0 p.1 p.3))
one-verdict (verdict.Acted n) (verdict.Right m) bytes p q = sym (right-only (verdict.Acted n) m bytes q p)
one-verdict (verdict.Acted n) (verdict.Decided m e) bytes p q =
    two-halting (verdict.Acted n) (verdict.Decided m e) p.0 q.0 p.1 q.1 bytes p.2 q.2 (halting-acted n p.0 p.1 bytes p.2 p.3) (halting-decided m e q.0 q.1 q.3)
one-verdict (verdict.Acted n) (verdict.Acted m) bytes p q =
    two-halting (verdict.Acted n) (verdict.Acted m) p.0 q.0 p.1 q.1 bytes p.2 q.2 (halting-acted n p.0 p.1 bytes p.2 p.3) (halting-acted m q.0 q.1 bytes q.2 q.3)
one-verdict (verdict.Acted n) (verdict.BadText k) bytes p q =
    absurd (bad-halting k (verdict.Acted n) q.0 p.0 p.1 q.1 bytes q.2 q.3 p.2 (halting-acted n p.0 p.1 bytes p.2 p.3))
one-verdict (verdict.BadText k) (verdict.Right m) bytes p q = sym (right-only (verdict.BadText k) m bytes q p)
one-verdict (verdict.BadText k) (verdict.Decided m e) bytes p q =
    absurd (bad-halting k (verdict.Decided m e) p.0 q.0 q.1 p.1 bytes p.2 p.3 q.2 (halting-decided m e q.0 q.1 q.3))
one-verdict (verdict.BadText k) (verdict.Acted m) bytes p q =
    absurd (bad-halting k (verdict.Acted m) p.0 q.0 q.1 p.1 bytes p.2 p.3 q.2 (halting-acted m q.0 q.1 bytes q.2 q.3))
one-verdict (verdict.BadText k) (verdict.BadText l) bytes p q =
    ap (λ (j : ℕ). verdict.BadText j) (one_bad bytes k l (p.0, p.1, p.2.text, p.3.bad) (q.0, q.1, q.2.text, q.3.bad))

-- where a verdict is answered that is so of a text
pub only-answered : {E : Type 0} (r : Result Verdict E) (bytes : List ℕ) → IfOk r (λ v. TellsOfText v bytes) → IfOk r (λ v. IsOnlyVerdict v bytes)
only-answered (Ok v) bytes tells = λ w told. one-verdict v w bytes tells told
only-answered (Err e) bytes tells = tt
