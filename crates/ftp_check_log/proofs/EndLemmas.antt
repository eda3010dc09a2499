-- What a check of a printed log comes to, where it ends.
use Rattle.std.proofs.Common.{◌≡◌, ◌⊎◌, ℕ, ◌-◌, ◌<◌, ◌≤◌, inl, inr, Bool, true, false, List, [], ◌∷◌, ◌++◌, length, take, drop, map, reverse, Some, None, refl, sym, ap, subst, ◌∙◌, arith}
use Rattle.std.specs.List.{AllByRecursion}
use Rattle.std.specs.Prelude.{Result, Ok, IfOk}
use Rattle.std.proofs.lemmas.List.{append-nil, take-append-drop}
use Rattle.ftp_options.specs.Builder.{settings_of}
use Rattle.ftp_events.specs.declared.action.Action.{Action}
use Rattle.ftp_events.specs.declared.entry.Entry.{Entry}
use Rattle.ftp_events.specs.declared.event.Answer.{Answer}
use Rattle.ftp_events.specs.declared.event.Answer.TheVariants as answer
use Rattle.ftp_events.specs.declared.event.HubEvent.{HubEvent}
use Rattle.ftp_events.specs.Right.{IsRight}
use Rattle.ftp_hub.specs.Stands.{Stands, options_of, count_of}
use Rattle.ftp_text.proofs.Exact.{some_is}
use Rattle.ftp_text.specs.declared.line.LogLine.{LogLine}
use Rattle.ftp_text.specs.declared.line.LogLine.TheVariants as says
use Rattle.ftp_text.specs.declared.place.Place.{Place}
use Rattle.ftp_text.specs.declared.place.Stage.{Stage}
use Rattle.ftp_text.specs.declared.place.Stage.TheVariants as stage
use Rattle.ftp_text.specs.LogLines.{IsLogLine}
use Rattle.ftp_text.specs.LogText.{answers, lines_of, text_of, IsLog, ComesNext, IsFirstBad}
use Rattle.ftp_text.specs.Place.{is_whole, HasRead}
use Rattle.ftp_text.specs.Settings.{settings_in}
use Rattle.ftp_text.proofs.PlaceLemmas.{lines-text, comes-fits, stage-between, unfinished, reached-front}
use Rattle.ftp_check_log.specs.declared.checker.Checker.{Checker}
use Rattle.ftp_check_log.specs.declared.verdict.Verdict.{Verdict}
use Rattle.ftp_check_log.specs.declared.verdict.Verdict.TheVariants as verdict
use Rattle.ftp_check_log.specs.Verdicts.{AreLinesOf, HasOtherActions, AreDue, TellsOfLines, TellsOfText}
use Rattle.ftp_check_log.specs.Checks.{Holds, Checks, Takes, TellsBy, KeepsRight}
use Rattle.ftp_check_log.proofs.CheckLemmas.{goes-on, so_far, so_far-all, so_far-more, answers-some, due-of, whole-lines, astray, some-missing}

-- ---- the whole text

-- another place, and all else as it was
pub holds-place : (s : Stage) (c : Checker) (lines : List LogLine) (place : Place) → Holds s c lines → Holds s (record c { place = place }) lines
holds-place s c lines place holds = goes-on s s s c (record c { place = place }) lines lines holds refl refl refl refl holds.shape

no-room : (c : Checker) → c.due ≡ [] → length c.due ≤ c.came
no-room c none = omega (arith, ap length none)

-- lines are due of which these actions are missing, and these lines are not decided yet
due-so : (s : Stage) (c : Checker) (lines : List LogLine) (holds : Holds s c lines) (missing : List Action) (undecided : List LogLine) →
    lines ++ map says.Action missing ≡ lines_of holds.line (reverse holds.log) ++ undecided →
    (undecided ≡ []) ⊎ ((e : HubEvent) × (a : Answer) × (undecided ≡ says.Event e ∷ answers a)) → AreDue lines
due-so s c lines holds missing undecided parts half = record {
  line = holds.line;
  log = holds.log;
  due = due-of holds.line c.hub holds.log holds.set holds.stands;
  missing = missing;
  undecided = undecided;
  parts = parts;
  half = half;
}

whole-due : (s : Stage) (c : Checker) (lines : List LogLine) → is_whole s ≡ true → length c.due ≤ c.came → Holds s c lines → AreDue lines
whole-due s c lines whole came holds =
    due-so s c lines holds [] []
    (append-nil lines ∙ whole-lines s holds.line holds.log c lines whole came holds.shape ∙ sym (append-nil (lines_of holds.line (reverse holds.log))))
    (inl refl)

-- as far as they go, the lines are due
pub holds-due : (s : Stage) (c : Checker) (lines : List LogLine) → Holds s c lines → AreDue lines
holds-due stage.Start c lines holds = whole-due stage.Start c lines refl (no-room c holds.shape.2) holds
holds-due stage.Opened c lines holds = whole-due stage.Opened c lines refl (no-room c holds.shape.1) holds
holds-due stage.Happened c lines holds =
    due-so stage.Happened c lines holds [] (says.Event holds.shape.0 ∷ []) (append-nil lines ∙ holds.shape.4) (inr (holds.shape.0, answer.None, refl))
holds-due stage.Answered c lines holds =
    due-so stage.Answered c lines holds [] (says.Event holds.shape.0 ∷ says.Answer c.answer ∷ []) (append-nil lines ∙ holds.shape.4)
    (inr (holds.shape.0, c.answer, ap (λ (l : List LogLine). says.Event holds.shape.0 ∷ l) (sym (answers-some c.answer holds.shape.2))))
holds-due stage.Decided c lines holds =
    let older = holds.shape.0 in
    let last = holds.shape.1 in
    due-so stage.Decided c lines holds (drop c.came c.due) []
    (ap (λ (l : List LogLine). l ++ map says.Action (drop c.came c.due)) holds.shape.5
    ∙ so_far-more holds.line older last (take c.came c.due) (drop c.came c.due)
    ∙ ap (λ (l : List Action). so_far holds.line older last l) (take-append-drop c.came c.due ∙ holds.shape.3)
    ∙ so_far-all holds.line older last
    ∙ ap (λ (l : List Entry). lines_of holds.line (reverse l)) (sym holds.shape.2)
    ∙ sym (append-nil (lines_of holds.line (reverse holds.log))))
    (inl refl)

read-lines : (lines : List LogLine) (all rest : List ℕ) (place : Place) → HasRead lines all rest place → AreLinesOf lines rest all
read-lines lines all rest place read = record {
  fits = read.reached.fits;
  front = reached-front place.stage lines read.reached;
  small = omega (arith, read.taken, read.small);
  text = read.all_is;
}

-- what a verdict says of the lines it says of the text
pub told-of : (v : Verdict) (lines : List LogLine) (all rest : List ℕ) (place : Place) → HasRead lines all rest place → TellsOfLines v lines rest → TellsOfText v all
told-of (verdict.Right n) lines all rest place read tells = absurd tells
told-of (verdict.Decided n due) lines all rest place read tells = (lines, rest, read-lines lines all rest place read, tells)
told-of (verdict.Acted n) lines all rest place read tells = (lines, rest, read-lines lines all rest place read, tells)
told-of (verdict.BadText k) lines all rest place read tells = (lines, rest, read-lines lines all rest place read, tells)

-- and so by the checker that comes to it
pub told-by : (v : Verdict) (c : Checker) (lines : List LogLine) (all rest : List ℕ) (place : Place) → HasRead lines all rest place → TellsOfLines v lines rest → TellsBy v c all
told-by (verdict.Right n) c lines all rest place read tells = absurd tells
told-by (verdict.Decided n due) c lines all rest place read tells = told-of (verdict.Decided n due) lines all rest place read tells
told-by (verdict.Acted n) c lines all rest place read tells = told-of (verdict.Acted n) lines all rest place read tells
told-by (verdict.BadText k) c lines all rest place read tells = told-of (verdict.BadText k) lines all rest place read tells

-- what a checker comes to is so of the text
pub told-text : (v : Verdict) (c : Checker) (bytes : List ℕ) → TellsBy v c bytes → TellsOfText v bytes
told-text (verdict.Right n) c bytes so = record {
  line = so.line;
  log = so.log;
  due = record { options = options_of c.hub; set = so.set; right = so.right; acted = so.acted };
  print = so.print;
  count = so.count;
}
told-text (verdict.Decided n due) c bytes so = so
told-text (verdict.Acted n) c bytes so = so
told-text (verdict.BadText k) c bytes so = so

-- the log that was kept is right
pub told-kept : (v : Verdict) (c : Checker) (bytes : List ℕ) → TellsBy v c bytes → KeepsRight v c
told-kept (verdict.Right n) c bytes so = λ on. subst (λ (l : List Entry). IsRight (options_of c.hub) l) (sym (so.kept on)) so.right
told-kept (verdict.Decided n due) c bytes so = tt
told-kept (verdict.Acted n) c bytes so = tt
told-kept (verdict.BadText k) c bytes so = tt

pub bad-told : (c : Checker) (lines : List LogLine) (all rest : List ℕ) (k : ℕ) → Checks c lines all rest → IsFirstBad k lines rest → TellsOfText (verdict.BadText k) all
bad-told c lines all rest k checks bad =
    told-of (verdict.BadText k) lines all rest c.place checks.read (record { bad = bad; due = holds-due c.place.stage c lines checks.holds })

missing-at : (s : Stage) (c : Checker) (lines : List LogLine) → c.came < length c.due → Holds s c lines → HasOtherActions (count_of c.hub - 1) lines []
missing-at stage.Start c lines lt holds = absurd (omega (arith, lt, ap length holds.shape.2))
missing-at stage.Opened c lines lt holds = absurd (omega (arith, lt, ap length holds.shape.1))
missing-at stage.Happened c lines lt holds = absurd (omega (arith, lt, ap length holds.shape.3))
missing-at stage.Answered c lines lt holds = absurd (omega (arith, lt, ap length holds.shape.3))
missing-at stage.Decided c lines lt holds =
    subst (λ (l : List LogLine). HasOtherActions (count_of c.hub - 1) l []) (append-nil lines) (astray c lines [] [] holds (some-missing c lt, refl))

-- the text ends where actions are missing
pub missing-told : (c : Checker) (lines : List LogLine) (all : List ℕ) → c.came < length c.due → Checks c lines all [] → TellsOfText (verdict.Acted (count_of c.hub - 1)) all
missing-told c lines all lt checks =
    told-of (verdict.Acted (count_of c.hub - 1)) lines all [] c.place checks.read (missing-at c.place.stage c lines lt checks.holds)

whole-stage : {L : Type 0} (b : Bool) → (b ≡ false → L → ⊥) → L → b ≡ true
whole-stage true never log = refl
whole-stage false never log = absurd (never refl log)

-- the text ends where none is missing
pub right-told : (c : Checker) (lines : List LogLine) (all : List ℕ) → IsLog lines → length c.due ≤ c.came → Checks c lines all [] → TellsBy (verdict.Right (count_of c.hub)) c all
right-told c lines all log came checks =
    let h = checks.holds in
    let whole : is_whole c.place.stage ≡ true = whole-stage (is_whole c.place.stage) (unfinished c.place.stage lines checks.read.reached) log in
    let same : lines ≡ lines_of h.line (reverse h.log) = whole-lines c.place.stage h.line h.log c lines whole came h.shape in
    let text : text_of lines ≡ all = sym (append-nil (text_of lines)) ∙ checks.read.all_is in
    record {
      line = h.line;
      log = h.log;
      set = h.set;
      right = h.stands.right;
      acted = h.stands.acted;
      print = record {
        spelled = sym text ∙ ap text_of same ∙ lines-text h.line (reverse h.log);
        fits = subst (AllByRecursion IsLogLine) same checks.read.reached.fits;
        small = omega (arith, ap length text, checks.read.taken, checks.read.small);
      };
      count = h.count;
      kept = h.kept;
    }

-- ---- the loop

pub start-checks : (c : Checker) (all : List ℕ) →
    HasRead [] all all c.place →
    settings_of (options_of c.hub) ≡ settings_in None →
    Stands c.hub [] →
    count_of c.hub ≡ 0 →
    c.due ≡ [] →
    c.log.entries ≡ [] →
    Checks c [] all all
start-checks c all read set stands count due none = record {
  read = read;
  holds = subst (λ (s : Stage). Holds s c []) (some_is stage.Start c.place.stage read.reached.stands)
      (record { line = None; log = []; set = set; stands = stands; count = count; shape = (refl, refl, due, refl); kept = λ on. none });
}

-- a line was read
abbrev pub IsReadAs : List LogLine → List ℕ → List ℕ → List ℕ → LogLine → Place → Type 0
IsReadAs lines all rest behind x place = ComesNext lines rest x × HasRead (lines ++ x ∷ []) all behind place

-- a line that is as it is due
pub next-checks : (old new : Checker) (place : Place) (lines : List LogLine) (all rest behind : List ℕ) (x : LogLine) →
    Checks old lines all rest →
    IsReadAs lines all rest behind x place →
    Takes x None (record old { place = place }) new →
    new.place ≡ place →
    Checks new (lines ++ x ∷ []) all behind
next-checks old new place lines all rest behind x checks read takes same = record {
  read = subst (HasRead (lines ++ x ∷ []) all behind) (sym same) read.1;
  holds = subst (λ (p : Place). Holds p.stage new (lines ++ x ∷ [])) (sym same)
      (takes old.place.stage place.stage lines (comes-fits lines rest x read.0) (stage-between old.place.stage place.stage lines x checks.read.reached read.1.reached)
      (holds-place old.place.stage old lines place checks.holds));
}

-- a line that is not
pub ended-told : (old new : Checker) (place : Place) (lines : List LogLine) (all rest behind : List ℕ) (x : LogLine) (v : Verdict) →
    Checks old lines all rest →
    IsReadAs lines all rest behind x place →
    Takes x (Some v) (record old { place = place }) new →
    TellsOfText v all
ended-told old new place lines all rest behind x v checks read takes =
    told-of v (lines ++ x ∷ []) all behind place read.1
    (takes old.place.stage place.stage lines behind (comes-fits lines rest x read.0) (stage-between old.place.stage place.stage lines x checks.read.reached read.1.reached)
    (holds-place old.place.stage old lines place checks.holds))

-- what is said of a value that is answered is so of the one that was
pub at-value : {A E : Type 0} (r : Result A E) (x : A) (P : A → Type 0) → IfOk r P → r ≡ Ok x → P x
at-value {A} {E} r x P told is = subst (λ (q : Result A E). IfOk q P) is told
