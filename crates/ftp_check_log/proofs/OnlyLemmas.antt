-- A text that is the print of a right and acted log has no other verdict.
use Rattle.std.proofs.Common.{◌≡◌, ℕ, ◌+◌, List, [], ◌∷◌, ◌++◌, length, map, reverse, Option, Some, None, refl, sym, ap, subst, ◌∙◌, append_assoc, arith}
use Rattle.std.specs.List.{flat_map}
use Rattle.std.specs.Prelude.{Result, Ok, Err, IfOk}
use Rattle.std.proofs.lemmas.List.{append-nil, append_cancel_left, length-append, length-reverse, map-append, reverse-append, reverse-reverse}
use Rattle.ftp_options.specs.declared.options.Options.{Options}
use Rattle.ftp_events.specs.declared.action.Action.{Action}
use Rattle.ftp_events.specs.declared.decision.Decision.{Decision}
use Rattle.ftp_events.specs.declared.entry.Entry.{Entry}
use Rattle.ftp_events.specs.declared.event.Answer.{Answer}
use Rattle.ftp_events.specs.declared.event.Answer.TheVariants as answer
use Rattle.ftp_events.specs.Decide.{decide}
use Rattle.ftp_events.specs.Acts.{acts}
use Rattle.ftp_events.specs.Right.{IsRight, IsActed}
use Rattle.ftp_text.specs.declared.setup.Item.{Item}
use Rattle.ftp_text.specs.declared.line.LogLine.{LogLine}
use Rattle.ftp_text.specs.declared.line.LogLine.TheVariants as says
use Rattle.ftp_text.specs.LogLines.{log_line}
use Rattle.ftp_text.specs.LogText.{answers, says_of, opening, lines_of, text_of, IsPrintOf}
use Rattle.ftp_text.specs.Settings.{settings_in}
use Rattle.ftp_text.proofs.PlaceLemmas.{lines-text}
use Rattle.ftp_text.proofs.SettingsLemmas.{options-once}
use Rattle.ftp_text.proofs.PrintedLemmas.{printed_good, goes-on, text-cons}
use Rattle.ftp_check_log.specs.declared.verdict.Verdict.{Verdict}
use Rattle.ftp_check_log.specs.declared.verdict.Verdict.TheVariants as verdict
use Rattle.ftp_check_log.specs.Verdicts.{IsDueLog, IsRightText, AreLinesOf, head_of, GoesAstray, TellsOfText}

-- ---- what is due, from the oldest entry on

-- an entry is due behind a log
pub record IsNext (o : Options) (past : List Entry) (e : Entry) : Type 0 where
  pub decision : e.decision ≡ decide o past e.event e.answer
  pub actions : e.actions ≡ acts o past e

-- each entry is due behind those before it
abbrev pub AreNext : Options → List Entry → List Entry → Type 0
AreNext o past [] = Unit {0}
AreNext o past (e ∷ log) = IsNext o past e × AreNext o (e ∷ past) log

next-more : (o : Options) (past log : List Entry) (e : Entry) → AreNext o past log → IsNext o (reverse log ++ past) e → AreNext o past (log ++ e ∷ [])
next-more o past [] e f g = (g, tt)
next-more o past (d ∷ log) e f g =
    let order : reverse (d ∷ log) ++ past ≡ reverse log ++ (d ∷ past) =
    ap (λ (l : List Entry). l ++ past) (reverse-append (d ∷ []) log) ∙ append_assoc (reverse log) (d ∷ []) past in
    (f.0, next-more o (d ∷ past) log e f.1 (subst (λ (l : List Entry). IsNext o l e) order g))

pub are-next : (o : Options) (log : List Entry) → IsRight o log → IsActed o log → AreNext o [] (reverse log)
are-next o [] right acted = tt
are-next o (e ∷ log) right acted =
    let order : reverse (reverse log) ++ [] ≡ log = append-nil (reverse (reverse log)) ∙ reverse-reverse log in
    subst (AreNext o []) (sym (reverse-append (e ∷ []) log))
    (next-more o [] (reverse log) e (are-next o log right.0 acted.0)
    (subst (λ (l : List Entry). IsNext o l e) (sym order) (record { decision = right.1; actions = acted.1 })))

-- ---- lines of entries

-- the answer and the decision that lines begin with
pub record SameAnswer (a b : Answer) (d e : Decision) (u v : List LogLine) : Type 0 where
  pub answer : a ≡ b
  pub decision : d ≡ e
  pub rest : u ≡ v

same-answer : (a b : Answer) (d e : Decision) (u v : List LogLine) → answers a ++ says.Decision d ∷ u ≡ answers b ++ says.Decision e ∷ v → SameAnswer a b d e u v
same-answer answer.None answer.None d e u v h = record { answer = refl; decision = cc; rest = cc }
same-answer answer.None (answer.Header x) d e u v h = absurd cc
same-answer answer.None (answer.Done x) d e u v h = absurd cc
same-answer answer.None (answer.Moved x) d e u v h = absurd cc
same-answer (answer.Header x) answer.None d e u v h = absurd cc
same-answer (answer.Done x) answer.None d e u v h = absurd cc
same-answer (answer.Moved x) answer.None d e u v h = absurd cc
same-answer (answer.Header x) (answer.Header y) d e u v h = record { answer = cc; decision = cc; rest = cc }
same-answer (answer.Header x) (answer.Done y) d e u v h = absurd cc
same-answer (answer.Header x) (answer.Moved y) d e u v h = absurd cc
same-answer (answer.Done x) (answer.Header y) d e u v h = absurd cc
same-answer (answer.Done x) (answer.Done y) d e u v h = record { answer = cc; decision = cc; rest = cc }
same-answer (answer.Done x) (answer.Moved y) d e u v h = absurd cc
same-answer (answer.Moved x) (answer.Header y) d e u v h = absurd cc
same-answer (answer.Moved x) (answer.Done y) d e u v h = absurd cc
same-answer (answer.Moved x) (answer.Moved y) d e u v h = record { answer = cc; decision = cc; rest = cc }

-- the event, the answer and the decision that lines begin with
pub record SameHead (a b : Entry) (d e : Decision) (u v : List LogLine) : Type 0 where
  pub event : a.event ≡ b.event
  pub answer : a.answer ≡ b.answer
  pub decision : d ≡ e
  pub rest : u ≡ v

pub same-head : (a b : Entry) (d e : Decision) (u v : List LogLine) → head_of a ++ says.Decision d ∷ u ≡ head_of b ++ says.Decision e ∷ v → SameHead a b d e u v
same-head a b d e u v h =
    let event : a.event ≡ b.event = cc in
    let more : answers a.answer ++ says.Decision d ∷ u ≡ answers b.answer ++ says.Decision e ∷ v = cc in
    let s = same-answer a.answer b.answer d e u v more in
    record { event = event; answer = s.answer; decision = s.decision; rest = s.rest }

-- what is done because of an entry does not depend on what it tells of that
acts-bare : (o : Options) (past : List Entry) (e : Entry) → acts o past e ≡ acts o past (record { event = e.event; answer = e.answer; decision = e.decision; actions = [] })
unfolding acts
acts-bare o past e = refl

-- two due entries with the same event and answer are the same
pub same-entry : (o : Options) (past : List Entry) (a b : Entry) → IsNext o past a → IsNext o past b → a.event ≡ b.event → a.answer ≡ b.answer → a ≡ b
same-entry o past a b f g event answered =
    let decision : a.decision ≡ b.decision = f.decision ∙ (λ i. decide o past (event i) (answered i)) ∙ sym g.decision in
    let done : acts o past a ≡ acts o past b =
    acts-bare o past a ∙ (λ i. acts o past (record { event = event i; answer = answered i; decision = decision i; actions = [] })) ∙ sym (acts-bare o past b) in
    let actions : a.actions ≡ b.actions = f.actions ∙ done ∙ sym g.actions in
    λ i. record { event = event i; answer = answered i; decision = decision i; actions = actions i }

-- the lines of an entry and more
pub entry-lines : (e : Entry) (more : List LogLine) → says_of e ++ more ≡ head_of e ++ says.Decision e.decision ∷ (map says.Action e.actions ++ more)
entry-lines e more = append_assoc (head_of e) (says.Decision e.decision ∷ map says.Action e.actions) more

-- where the lines of due entries begin with those of others and the head of a next one, that is the next of them
record Follows (next : Entry) (d : Decision) (u : List LogLine) : Type 0 where
  later : List Entry
  decision : d ≡ next.decision
  rest : u ≡ map says.Action next.actions ++ flat_map says_of later

follows : (o : Options) (past log all : List Entry) (next : Entry) (d : Decision) (u : List LogLine) →
    AreNext o past (log ++ next ∷ []) →
    AreNext o past all →
    flat_map says_of log ++ (head_of next ++ says.Decision d ∷ u) ≡ flat_map says_of all →
    Follows next d u
follows o past [] [] next d u f g e = absurd cc
follows o past [] (b ∷ all) next d u f g e =
    let s = same-head next b d b.decision u (map says.Action b.actions ++ flat_map says_of all) (e ∙ entry-lines b (flat_map says_of all)) in
    let same : next ≡ b = same-entry o past next b f.0 g.0 s.event s.answer in
    record {
      later = all;
      decision = s.decision ∙ ap (λ (x : Entry). x.decision) (sym same);
      rest = s.rest ∙ ap (λ (x : Entry). map says.Action x.actions ++ flat_map says_of all) (sym same);
    }
follows o past (a ∷ log) [] next d u f g e = absurd cc
follows o past (a ∷ log) (b ∷ all) next d u f g e =
    let front = flat_map says_of log ++ (head_of next ++ says.Decision d ∷ u) in
    let whole : says_of a ++ front ≡ says_of b ++ flat_map says_of all = sym (append_assoc (says_of a) (flat_map says_of log) (head_of next ++ says.Decision d ∷ u)) ∙ e in
    let s = same-head a b a.decision b.decision (map says.Action a.actions ++ front) (map says.Action b.actions ++ flat_map says_of all)
    (sym (entry-lines a front) ∙ whole ∙ entry-lines b (flat_map says_of all)) in
    let same : a ≡ b = same-entry o past a b f.0 g.0 s.event s.answer in
    let rest : front ≡ flat_map says_of all = append_cancel_left (says_of a) front (flat_map says_of all) (whole ∙ ap (λ (x : Entry). says_of x ++ flat_map says_of all) (sym same)) in
    follows o (a ∷ past) log all next d u f.1 (subst (λ (x : Entry). AreNext o (x ∷ past) all) (sym same) g.1) rest

-- ---- the options line

-- no entry begins with an options line
no-options : (i : Item) (more : List LogLine) (log : List Entry) → flat_map says_of log ≡ says.Options i ∷ more → ⊥
no-options i more [] e = cc
no-options i more (a ∷ log) e = cc

pub some-front : (log : List Entry) (next : Entry) (v : List LogLine) (i : Item) (more : List LogLine) → flat_map says_of log ++ (head_of next ++ v) ≡ says.Options i ∷ more → ⊥
some-front [] next v i more e = cc
some-front (a ∷ log) next v i more e = cc

-- the same options line, and the same behind it
pub record SameOpening (p q : Option Item) (u v : List LogLine) : Type 0 where
  pub line : p ≡ q
  pub rest : u ≡ v

same-opening : (p q : Option Item) (log all : List Entry) (next : Entry) (v : List LogLine) → opening p ++ (flat_map says_of log ++ (head_of next ++ v)) ≡ opening q ++ flat_map says_of all →
    SameOpening p q (flat_map says_of log ++ (head_of next ++ v)) (flat_map says_of all)
same-opening None None log all next v e = record { line = refl; rest = e }
same-opening None (Some j) log all next v e = absurd (some-front log next v j (flat_map says_of all) e)
same-opening (Some i) None log all next v e = absurd (no-options i (flat_map says_of log ++ (head_of next ++ v)) all (sym e))
same-opening (Some i) (Some j) log all next v e = record { line = cc; rest = cc }

-- ---- verdicts

-- the lines of another verdict go on as those of the printed log
record GoesRight (next : Entry) (d : Decision) (u : List LogLine) (rest : List ℕ) : Type 0 where
  decision : d ≡ next.decision
  later : List Entry
  more : List LogLine
  goes : u ++ more ≡ map says.Action next.actions ++ flat_map says_of later
  rest_is : rest ≡ text_of more

print-text : (bytes : List ℕ) (line : Option Item) (log : List Entry) → IsPrintOf bytes line log → text_of (lines_of line log) ≡ bytes
print-text bytes line log print = lines-text line log ∙ sym print.spelled

goes-right : (n : ℕ) (bytes rest : List ℕ) (lines : List LogLine) (line : Option Item) (log : List Entry) (next : Entry) (d : Decision) (u : List LogLine) →
    IsRightText n bytes →
    AreLinesOf lines rest bytes →
    IsDueLog line (next ∷ log) →
    lines ≡ lines_of line (reverse log) ++ (head_of next ++ says.Decision d ∷ u) →
    GoesRight next d u rest
goes-right n bytes rest lines line log next d u right are due parts =
    let all = reverse right.log in
    let on = goes-on lines (lines_of right.line all) rest are.fits right.print.fits (are.text ∙ sym (print-text bytes right.line all right.print)) in
    let tail : List LogLine = head_of next ++ says.Decision d ∷ (u ++ on.more) in
    let whole : opening line ++ (flat_map says_of (reverse log) ++ tail) ≡ opening right.line ++ flat_map says_of all =
    sym
    (on.lines_are
    ∙ ap (λ (l : List LogLine). l ++ on.more) parts
    ∙ append_assoc (lines_of line (reverse log)) (head_of next ++ says.Decision d ∷ u) on.more
    ∙ append_assoc (opening line) (flat_map says_of (reverse log)) ((head_of next ++ says.Decision d ∷ u) ++ on.more)
    ∙ ap (λ (l : List LogLine). opening line ++ (flat_map says_of (reverse log) ++ l)) (append_assoc (head_of next) (says.Decision d ∷ u) on.more)) in
    let open_is = same-opening line right.line (reverse log) all next (says.Decision d ∷ (u ++ on.more)) whole in
    let options : due.options ≡ right.due.options = options-once due.options right.due.options (due.set ∙ ap settings_in open_is.line ∙ sym right.due.set) in
    let mine : AreNext right.due.options [] (reverse log ++ next ∷ []) =
    subst (λ (o : Options). AreNext o [] (reverse log ++ next ∷ [])) options
    (subst (AreNext due.options []) (reverse-append (next ∷ []) log) (are-next due.options (next ∷ log) due.right due.acted)) in
    let f = follows right.due.options [] (reverse log) all next d (u ++ on.more) mine (are-next right.due.options right.log right.due.right right.due.acted) open_is.rest in
    record { decision = f.decision; later = f.later; more = on.more; goes = f.rest; rest_is = on.rest_is }

no-more : (more : List LogLine) → [] ≡ text_of more → more ≡ []
no-more [] e = refl
no-more (x ∷ more) e = absurd (omega (arith, ap length (e ∙ text-cons x more), length-append (log_line x) (10 ∷ text_of more)))

-- what is missing does not go astray where the lines go on as they are due
not-astray : (missing : List Action) (last more : List LogLine) (rest : List ℕ) (later : List Entry) → last ++ more ≡ map says.Action missing ++ flat_map says_of later → rest ≡ text_of more → GoesAstray missing last rest → ⊥
not-astray [] [] more rest later e is astray = astray.0 refl
not-astray (a ∷ missing) [] more rest later e is astray = let none = no-more more (sym astray.1 ∙ is) in absurd (cc (none, e))
not-astray [] (says.Action a ∷ []) more rest [] e is astray = absurd cc
not-astray [] (says.Action a ∷ []) more rest (b ∷ later) e is astray = absurd cc
not-astray (b ∷ missing) (says.Action a ∷ []) more rest later e is astray = let same : b ≡ a = cc in astray missing (λ i. same i ∷ missing)
not-astray [] (says.Event d ∷ []) more rest later e is astray = astray refl
not-astray (b ∷ missing) (says.Event d ∷ []) more rest later e is astray = absurd cc
not-astray missing (says.Options i ∷ []) more rest later e is astray = astray
not-astray missing (says.Answer a ∷ []) more rest later e is astray = astray
not-astray missing (says.Decision d ∷ []) more rest later e is astray = astray
not-astray missing (x ∷ y ∷ last) more rest later e is astray = astray

-- ---- how many entries

-- how many entries the lines decide
abbrev pub decides_one : LogLine → ℕ
decides_one (says.Decision d) = 1
decides_one _ = 0

abbrev pub decided : List LogLine → ℕ
decided [] = 0
decided (x ∷ lines) = decides_one x + decided lines

pub decided-append : (xs ys : List LogLine) → decided (xs ++ ys) ≡ decided xs + decided ys
decided-append [] ys = omega arith
decided-append (x ∷ xs) ys = omega (arith, decided-append xs ys)

decided-actions : (actions : List Action) → decided (map says.Action actions) ≡ 0
decided-actions [] = refl
decided-actions (a ∷ actions) = omega (arith, decided-actions actions)

pub decided-answers : (a : Answer) → decided (answers a) ≡ 0
decided-answers answer.None = refl
decided-answers (answer.Header h) = omega arith
decided-answers (answer.Done o) = omega arith
decided-answers (answer.Moved n) = omega arith

decided-entry : (e : Entry) → decided (says_of e) ≡ 1
decided-entry e =
    omega (arith, decided-append (answers e.answer) (says.Decision e.decision ∷ map says.Action e.actions), decided-answers e.answer, decided-actions e.actions)

decided-entries : (log : List Entry) → decided (flat_map says_of log) ≡ length log
decided-entries [] = refl
decided-entries (e ∷ log) = omega (arith, decided-append (says_of e) (flat_map says_of log), decided-entry e, decided-entries log)

decided-lines : (line : Option Item) (log : List Entry) → decided (lines_of line log) ≡ length log
decided-lines None log = decided-entries log
decided-lines (Some i) log = omega (arith, decided-entries log)

-- ---- the one verdict of a right text

right-once : (n m : ℕ) (bytes : List ℕ) → IsRightText n bytes → IsRightText m bytes → m ≡ n
right-once n m bytes r q =
    let mine = lines_of q.line (reverse q.log) in
    let all = lines_of r.line (reverse r.log) in
    let on = goes-on mine all [] q.print.fits r.print.fits (append-nil (text_of mine) ∙ print-text bytes q.line (reverse q.log) q.print ∙ sym (print-text bytes r.line (reverse r.log) r.print)) in
    let same : all ≡ mine = on.lines_are ∙ ap (λ (l : List LogLine). mine ++ l) (no-more on.more on.rest_is) ∙ append-nil mine in
    omega (arith, r.count, q.count, ap decided same, decided-lines r.line (reverse r.log), decided-lines q.line (reverse q.log), length-reverse r.log, length-reverse q.log)

pub right-only : (v : Verdict) (n : ℕ) (bytes : List ℕ) → IsRightText n bytes → TellsOfText v bytes → v ≡ verdict.Right n
right-only (verdict.Right m) n bytes right tells = ap (λ (k : ℕ). verdict.Right k) (right-once n m bytes right tells)
right-only (verdict.BadText k) n bytes right tells =
    absurd (printed_good bytes k (right.line, reverse right.log, right.print) (tells.0, tells.1, tells.2.text, tells.3.bad))
right-only (verdict.Decided m due) n bytes right tells =
    let wrong = tells.3 in
    let goes = goes-right n bytes tells.1 tells.0 wrong.line wrong.log wrong.next wrong.other [] right tells.2 wrong.is_due wrong.parts in
    absurd (wrong.differs (goes.decision ∙ sym wrong.due_is))
right-only (verdict.Acted m) n bytes right tells =
    let wrong = tells.3 in
    let u : List LogLine = map says.Action wrong.done ++ wrong.last in
    let parts : tells.0 ≡ lines_of wrong.line (reverse wrong.log) ++ (head_of wrong.next ++ says.Decision wrong.next.decision ∷ u) =
    wrong.parts
    ∙ append_assoc (lines_of wrong.line (reverse wrong.log)) (head_of wrong.next ++ says.Decision wrong.next.decision ∷ map says.Action wrong.done) wrong.last
    ∙ ap (λ (l : List LogLine). lines_of wrong.line (reverse wrong.log) ++ l) (append_assoc (head_of wrong.next) (says.Decision wrong.next.decision ∷ map says.Action wrong.done) wrong.last) in
    let goes = goes-right n bytes tells.1 tells.0 wrong.line wrong.log wrong.next wrong.next.decision u right tells.2 wrong.is_due parts in
    let due : map says.Action wrong.next.actions ++ flat_map says_of goes.later ≡ map says.Action wrong.done ++ (map says.Action wrong.missing ++ flat_map says_of goes.later) =
    ap (λ (l : List Action). map says.Action l ++ flat_map says_of goes.later) wrong.actions
    ∙ ap (λ (l : List LogLine). l ++ flat_map says_of goes.later) (map-append says.Action wrong.done wrong.missing)
    ∙ append_assoc (map says.Action wrong.done) (map says.Action wrong.missing) (flat_map says_of goes.later) in
    let rest : wrong.last ++ goes.more ≡ map says.Action wrong.missing ++ flat_map says_of goes.later =
    append_cancel_left (map says.Action wrong.done) (wrong.last ++ goes.more) (map says.Action wrong.missing ++ flat_map says_of goes.later) (sym (append_assoc (map says.Action wrong.done) wrong.last goes.more) ∙ goes.goes ∙ due) in
    absurd (not-astray wrong.missing wrong.last goes.more tells.1 goes.later rest goes.rest_is wrong.astray)

-- where a verdict is answered of a right text
pub right-answered : {E : Type 0} (r : Result Verdict E) (bytes : List ℕ) (n : ℕ) → IfOk r (λ v. TellsOfText v bytes) → IsRightText n bytes → IfOk r (λ v. v ≡ verdict.Right n)
right-answered (Ok v) bytes n tells right = right-only v n bytes right tells
right-answered (Err e) bytes n tells right = tt
