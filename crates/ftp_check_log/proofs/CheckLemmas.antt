-- A check of a printed log, line by line.
use Rattle.std.proofs.Common.{◌≡◌, ℕ, zero, suc, ◌+◌, ◌-◌, ◌<◌, ◌≤◌, true, List, [], ◌∷◌, ◌++◌, length, take, drop, map, reverse, Option, Some, None, refl, sym, ap, subst, ◌∙◌, append_assoc, arith}
use Rattle.std.specs.List.{flat_map}
use Rattle.std.specs.Prelude.{slice_get, Result, Ok, Err, IfOk}
use Rattle.std.proofs.lemmas.Grind.{flat_map-append}
use Rattle.std.proofs.lemmas.List.{append-nil, length-drop, map-append, reverse-append, take_all, take-append-drop}
use Rattle.ftp_options.specs.Builder.{settings_of}
use Rattle.ftp_events.specs.declared.action.Action.{Action}
use Rattle.ftp_events.specs.declared.decision.Decision.{Decision}
use Rattle.ftp_events.specs.declared.entry.Entry.{Entry}
use Rattle.ftp_events.specs.declared.event.Answer.{Answer}
use Rattle.ftp_events.specs.declared.event.Answer.TheVariants as answer
use Rattle.ftp_events.specs.declared.event.HubEvent.{HubEvent}
use Rattle.ftp_events.specs.Log.{LogState}
use Rattle.ftp_hub.specs.declared.hub.Hub.{Hub}
use Rattle.ftp_hub.specs.Stands.{Stands, SameAnswers, options_of, count_of}
use Rattle.ftp_hub.proofs.Refusals.{stands-same}
use Rattle.ftp_text.proofs.Exact.{some_is}
use Rattle.ftp_text.specs.declared.setup.Item.{Item}
use Rattle.ftp_text.specs.declared.line.LogLine.{LogLine}
use Rattle.ftp_text.specs.declared.line.LogLine.TheVariants as says
use Rattle.ftp_text.specs.declared.place.Stage.{Stage}
use Rattle.ftp_text.specs.declared.place.Stage.TheVariants as stage
use Rattle.ftp_text.specs.LogLines.{IsAnswer, IsLogLine}
use Rattle.ftp_text.specs.LogText.{answers, says_of, opening, lines_of}
use Rattle.ftp_text.specs.Place.{stage_after, is_whole}
use Rattle.ftp_text.specs.Settings.{settings_in}
use Rattle.ftp_check_log.specs.declared.checker.Checker.{Checker}
use Rattle.ftp_check_log.specs.declared.verdict.Verdict.{Verdict}
use Rattle.ftp_check_log.specs.declared.verdict.Verdict.TheVariants as verdict
use Rattle.ftp_check_log.specs.Verdicts.{IsDueLog, head_of, GoesAstray, HasOtherActions, TellsOfLines}
use Rattle.ftp_check_log.specs.Checks.{LinesAt, Holds, Takes}

-- ---- lines

-- the lines of a log with one more entry, the newest
pub lines_of-newest : (line : Option Item) (log : List Entry) (e : Entry) → lines_of line (reverse (e ∷ log)) ≡ lines_of line (reverse log) ++ says_of e
lines_of-newest line log e =
    ap (λ (l : List Entry). lines_of line l) (reverse-append (e ∷ []) log)
    ∙ ap (λ (l : List LogLine). opening line ++ l)
    (flat_map-append says_of (reverse log) (e ∷ []) ∙ ap (λ (l : List LogLine). flat_map says_of (reverse log) ++ l) (append-nil (says_of e)))
    ∙ sym (append_assoc (opening line) (flat_map says_of (reverse log)) (says_of e))

-- the lines of a last entry of which so many actions came
abbrev pub so_far : Option Item → List Entry → Entry → List Action → List LogLine
so_far line older last came = lines_of line (reverse older) ++ (head_of last ++ says.Decision last.decision ∷ map says.Action came)

pub so_far-all : (line : Option Item) (older : List Entry) (last : Entry) → so_far line older last last.actions ≡ lines_of line (reverse (last ∷ older))
so_far-all line older last = sym (lines_of-newest line older last)

pub so_far-more : (line : Option Item) (older : List Entry) (last : Entry) (came more : List Action) → so_far line older last came ++ map says.Action more ≡ so_far line older last (came ++ more)
so_far-more line older last came more =
    append_assoc (lines_of line (reverse older)) (head_of last ++ says.Decision last.decision ∷ map says.Action came) (map says.Action more)
    ∙ ap (λ (l : List LogLine). lines_of line (reverse older) ++ l)
    (append_assoc (head_of last) (says.Decision last.decision ∷ map says.Action came) (map says.Action more)
    ∙ ap (λ (l : List LogLine). head_of last ++ says.Decision last.decision ∷ l) (sym (map-append says.Action came more)))

pub answers-some : (a : Answer) → IsAnswer a → answers a ≡ says.Answer a ∷ []
answers-some answer.None fits = absurd fits
answers-some (answer.Header h) fits = refl
answers-some (answer.Done o) fits = refl
answers-some (answer.Moved n) fits = refl

-- ---- what is due

-- what a hub stands for is due
pub due-of : (line : Option Item) (hub : Hub) (log : List Entry) → settings_of (options_of hub) ≡ settings_in line → Stands hub log → IsDueLog line log
due-of line hub log set stands = record { options = options_of hub; set = set; right = stands.right; acted = stands.acted }

due-log : (line : Option Item) (log other : List Entry) → log ≡ other → IsDueLog line log → IsDueLog line other
due-log line log other same due = subst (IsDueLog line) same due

-- ---- the actions of the last entry

drop-none : (xs : List Action) (i : ℕ) → length xs ≤ i → drop i xs ≡ []
drop-none [] i le = none i where
  none : (i : ℕ) → drop {A = Action} i [] ≡ []
  none zero = refl
  none (suc i) = refl
drop-none (x ∷ xs) zero le = absurd (omega arith)
drop-none (x ∷ xs) (suc i) le = drop-none xs i (omega arith)

-- the action at a place, and those behind it
get-drop : (xs : List Action) (i : ℕ) (a : Action) (more : List Action) → drop i xs ≡ a ∷ more → slice_get xs i ≡ Some a
get-drop [] i a more e = absurd (omega (arith, ap length (sym (drop-none [] i (omega arith)) ∙ e)))
get-drop (x ∷ xs) zero a more e = cc
get-drop (x ∷ xs) (suc i) a more e = get-drop xs i a more e

take-one : (xs : List Action) (i : ℕ) (a : Action) → slice_get xs i ≡ Some a → (take (i + 1) xs ≡ take i xs ++ a ∷ []) × (i + 1 ≤ length xs)
take-one [] i a e = absurd (none i e) where
  none : (i : ℕ) → slice_get {X = Action} [] i ≡ Some a → ⊥
  none i e = cc
take-one (x ∷ xs) zero a e = let same : x ≡ a = cc in (ap (λ (y : Action). y ∷ []) same, omega arith)
take-one (x ∷ xs) (suc i) a e =
    let t = take-one xs i a e in
    let next : suc i + 1 ≡ suc (i + 1) = omega arith in
    (ap (λ (n : ℕ). take n (x ∷ xs)) next ∙ ap (λ (l : List Action). x ∷ l) t.0, omega (arith, t.1))

-- ---- steps

-- the log that is kept stays as it was
kept-same : (old new : Checker) (log : List Entry) → new.keeps ≡ old.keeps → new.log ≡ old.log → (old.keeps ≡ true → old.log.entries ≡ log) → new.keeps ≡ true → new.log.entries ≡ log
kept-same old new log keeps same kept on = ap (λ (l : LogState). l.entries) same ∙ kept (sym keeps ∙ on)

-- where the hub and the log that is kept stay, all that changes is the lines at the stage
pub goes-on : (s u t : Stage) (old new : Checker) (before lines : List LogLine) (holds : Holds s old before) →
    new.hub ≡ old.hub → new.keeps ≡ old.keeps → new.log ≡ old.log → Some u ≡ Some t →
    LinesAt u holds.line holds.log new.event new.answer new.due new.came lines → Holds t new lines
goes-on s u t old new before lines holds hub keeps log e shape =
    subst (λ (w : Stage). Holds w new lines) (some_is u t e)
    (record {
      line = holds.line;
      log = holds.log;
      set = ap (λ (h : Hub). settings_of (options_of h)) hub ∙ holds.set;
      stands = subst (λ (h : Hub). Stands h holds.log) (sym hub) holds.stands;
      count = ap count_of hub ∙ holds.count;
      shape = shape;
      kept = kept-same old new holds.log keeps log holds.kept;
    })

-- the options make the hub anew
pub takes-options : (old : Checker) (i : Item) (hub : Hub) →
    settings_of (options_of hub) ≡ settings_in (Some i) →
    Stands hub [] →
    count_of hub ≡ 0 →
    Takes (says.Options i) None old (record old { hub = hub })
takes-options old i hub set stands count s t lines fits e holds = at s e holds where
  at : (s : Stage) → stage_after s (says.Options i) ≡ Some t → Holds s old lines → Holds t (record old { hub = hub }) (lines ++ says.Options i ∷ [])
  at stage.Start e holds =
      subst (λ (u : Stage). Holds u (record old { hub = hub }) (lines ++ says.Options i ∷ [])) (some_is stage.Opened t e)
      (record {
        line = Some i;
        log = [];
        set = set;
        stands = stands;
        count = count;
        shape = (refl, holds.shape.2, ap (λ (l : List LogLine). l ++ says.Options i ∷ []) holds.shape.3);
        kept = λ on. holds.kept on ∙ holds.shape.1;
      })
  at stage.Opened e holds = absurd cc
  at stage.Happened e holds = absurd cc
  at stage.Answered e holds = absurd cc
  at stage.Decided e holds = absurd cc

-- where no action is missing, the lines are those of the log
pub whole-lines : (s : Stage) (line : Option Item) (log : List Entry) (c : Checker) (lines : List LogLine) → is_whole s ≡ true → length c.due ≤ c.came → LinesAt s line log c.event c.answer c.due c.came lines →
    lines ≡ lines_of line (reverse log)
whole-lines stage.Start line log c lines whole came shape = shape.3 ∙ sym (ap (λ (l : Option Item). lines_of l []) shape.0) ∙ ap (λ (l : List Entry). lines_of line (reverse l)) (sym shape.1)
whole-lines stage.Opened line log c lines whole came shape = shape.2 ∙ ap (λ (l : List Entry). lines_of line (reverse l)) (sym shape.0)
whole-lines stage.Happened line log c lines whole came shape = absurd cc
whole-lines stage.Answered line log c lines whole came shape = absurd cc
whole-lines stage.Decided line log c lines whole came shape =
    shape.5
    ∙ ap (λ (l : List Action). so_far line shape.0 shape.1 l) (take_all c.came c.due came ∙ shape.3)
    ∙ so_far-all line shape.0 shape.1
    ∙ ap (λ (l : List Entry). lines_of line (reverse l)) (sym shape.2)

-- an event, where no action is missing
pub takes-event : (old new : Checker) (d : HubEvent) →
    length old.due ≤ old.came →
    new.hub ≡ old.hub →
    new.event ≡ Some d →
    new.answer ≡ answer.None →
    new.due ≡ [] →
    new.keeps ≡ old.keeps →
    new.log ≡ old.log →
    Takes (says.Event d) None old new
takes-event old new d came hub event none due keeps log s t lines fits e holds = at s e holds where
  opens : (s : Stage) → is_whole s ≡ true → Some stage.Happened ≡ Some t → Holds s old lines → Holds t new (lines ++ says.Event d ∷ [])
  opens s whole e holds =
      goes-on s stage.Happened t old new lines (lines ++ says.Event d ∷ []) holds hub keeps log e
      (d, event, none, due, ap (λ (l : List LogLine). l ++ says.Event d ∷ []) (whole-lines s holds.line holds.log old lines whole came holds.shape))

  at : (s : Stage) → stage_after s (says.Event d) ≡ Some t → Holds s old lines → Holds t new (lines ++ says.Event d ∷ [])
  at stage.Start e holds = opens stage.Start refl e holds
  at stage.Opened e holds = opens stage.Opened refl e holds
  at stage.Happened e holds = absurd cc
  at stage.Answered e holds = absurd cc
  at stage.Decided e holds = opens stage.Decided refl e holds

-- an answer is kept
pub takes-answer : (old : Checker) (a : Answer) → Takes (says.Answer a) None old (record old { answer = a })
takes-answer old a s t lines fits e holds = at s e holds where
  at : (s : Stage) → stage_after s (says.Answer a) ≡ Some t → Holds s old lines → Holds t (record old { answer = a }) (lines ++ says.Answer a ∷ [])
  at stage.Start e holds = absurd cc
  at stage.Opened e holds = absurd cc
  at stage.Happened e holds =
      goes-on stage.Happened stage.Answered t old (record old { answer = a }) lines (lines ++ says.Answer a ∷ []) holds refl refl refl e (
        holds.shape.0,
        holds.shape.1,
        fits,
        holds.shape.3,
        ap (λ (l : List LogLine). l ++ says.Answer a ∷ []) holds.shape.4
            ∙ append_assoc (lines_of holds.line (reverse holds.log)) (says.Event holds.shape.0 ∷ []) (says.Answer a ∷ []),
      )
  at stage.Answered e holds = absurd cc
  at stage.Decided e holds = absurd cc

-- the event that is not decided yet, and its answer, are these lines
undecided : (s : Stage) (c : Checker) (lines : List LogLine) (d : HubEvent) → c.event ≡ Some d → (t : Stage) (x : Decision) → stage_after s (says.Decision x) ≡ Some t → (holds : Holds s c lines) →
    lines ≡ lines_of holds.line (reverse holds.log) ++ says.Event d ∷ answers c.answer
undecided stage.Start c lines d event t x e holds = absurd cc
undecided stage.Opened c lines d event t x e holds = absurd cc
undecided stage.Happened c lines d event t x e holds =
    let same : holds.shape.0 ≡ d = some_is holds.shape.0 d (sym holds.shape.1 ∙ event) in
    holds.shape.4
    ∙ ap (λ (z : HubEvent). lines_of holds.line (reverse holds.log) ++ says.Event z ∷ []) same
    ∙ ap (λ (a : Answer). lines_of holds.line (reverse holds.log) ++ says.Event d ∷ answers a) (sym holds.shape.2)
undecided stage.Answered c lines d event t x e holds =
    let same : holds.shape.0 ≡ d = some_is holds.shape.0 d (sym holds.shape.1 ∙ event) in
    holds.shape.4
    ∙ ap (λ (z : HubEvent). lines_of holds.line (reverse holds.log) ++ says.Event z ∷ says.Answer c.answer ∷ []) same
    ∙ ap (λ (l : List LogLine). lines_of holds.line (reverse holds.log) ++ says.Event d ∷ l) (sym (answers-some c.answer holds.shape.2))
undecided stage.Decided c lines d event t x e holds = absurd cc

-- the stage behind a decision
decided-stage : (s t : Stage) (x : Decision) → stage_after s (says.Decision x) ≡ Some t → t ≡ stage.Decided
decided-stage stage.Start t x e = absurd cc
decided-stage stage.Opened t x e = absurd cc
decided-stage stage.Happened t x e = sym (some_is stage.Decided t e)
decided-stage stage.Answered t x e = sym (some_is stage.Decided t e)
decided-stage stage.Decided t x e = absurd cc

-- the lines of an event and its answer are the head of the entry that decides it
head-is : (en : Entry) (d : HubEvent) (a : Answer) → en.event ≡ d → en.answer ≡ a → says.Event d ∷ answers a ≡ head_of en
head-is en d a event answered = λ i. says.Event (sym event i) ∷ answers (sym answered i)

-- an entry was decided as its line says
pub takes-decision : (old new : Checker) (x : Decision) (d : HubEvent) (en : Entry) →
    old.event ≡ Some d →
    en.event ≡ d →
    en.answer ≡ old.answer →
    en.decision ≡ x →
    options_of new.hub ≡ options_of old.hub →
    count_of new.hub ≡ count_of old.hub + 1 →
    ((log : List Entry) → Stands old.hub log → Stands new.hub (en ∷ log)) →
    new.due ≡ en.actions →
    new.came ≡ 0 →
    new.keeps ≡ old.keeps →
    (old.keeps ≡ true → new.log.entries ≡ en ∷ old.log.entries) →
    Takes (says.Decision x) None old new
takes-decision old new x d en event of answered decided options count stands due came keeps added s t lines fits e holds =
    let at = undecided s old lines d event t x e holds in
    let start : List LogLine = lines_of holds.line (reverse holds.log) in
    subst (λ (u : Stage). Holds u new (lines ++ says.Decision x ∷ [])) (sym (decided-stage s t x e))
    (record {
      line = holds.line;
      log = en ∷ holds.log;
      set = ap settings_of options ∙ holds.set;
      stands = stands holds.log holds.stands;
      count = omega (arith, count, holds.count);
      shape = (
        holds.log,
        en,
        refl,
        due,
        omega (arith, came),
        ap (λ (l : List LogLine). l ++ says.Decision x ∷ []) at
            ∙ append_assoc start (says.Event d ∷ answers old.answer) (says.Decision x ∷ [])
            ∙ (λ i. start ++ (head-is en d old.answer of answered i ++ says.Decision (sym decided i) ∷ []))
            ∙ ap (λ (n : ℕ). so_far holds.line holds.log en (take n new.due)) (sym came),
      );
      kept = λ on. let was = sym keeps ∙ on in added was ∙ ap (λ (l : List Entry). en ∷ l) (holds.kept was);
    })

-- a hub that answers as before
holds-same : (s : Stage) (c : Checker) (hub : Hub) (lines : List LogLine) → SameAnswers c.hub hub → Holds s c lines → Holds s (record c { hub = hub }) lines
holds-same s c hub lines same holds = record {
  line = holds.line;
  log = holds.log;
  set = ap settings_of same.head.options ∙ holds.set;
  stands = stands-same c.hub hub holds.log same holds.stands;
  count = same.head.count ∙ holds.count;
  shape = holds.shape;
  kept = holds.kept;
}

takes-same : (x : LogLine) (ended : Option Verdict) (c new : Checker) (hub : Hub) → SameAnswers c.hub hub → Takes x ended (record c { hub = hub }) new → Takes x ended c new
takes-same x None c new hub same takes = λ s t lines fits e holds. takes s t lines fits e (holds-same s c hub lines same holds)
takes-same x (Some v) c new hub same takes = λ s t lines rest fits e holds. takes s t lines rest fits e (holds-same s c hub lines same holds)

-- an event was decided by a hub that was made ready for it
takes-ready : (x : LogLine) (ended : Option Verdict) (c new : Checker) (hub : Hub) (d : HubEvent) → SameAnswers c.hub hub → Takes x ended (record c { hub = hub; event = Some d }) new →
    Takes x ended (record c { event = Some d }) new
takes-ready x ended c new hub d same takes = takes-same x ended (record c { event = Some d }) new hub same takes

pub takes-made_ready : {E : Type 0} (r : Result (Option Verdict) E) (x : LogLine) (c new : Checker) (hub : Hub) (d : HubEvent) → SameAnswers c.hub hub →
    IfOk r (λ ended. Takes x ended (record c { hub = hub; event = Some d }) new) →
    IfOk r (λ ended. Takes x ended (record c { event = Some d }) new)
takes-made_ready (Ok ended) x c new hub d same takes = takes-ready x ended c new hub d same takes
takes-made_ready (Err e) x c new hub d same takes = tt

-- the event was taken out
pub takes-again : {E : Type 0} (r : Result (Option Verdict) E) (x : LogLine) (c new : Checker) (d : HubEvent) → c.event ≡ Some d → IfOk r (λ ended. Takes x ended (record c { event = Some d }) new) →
    IfOk r (λ ended. Takes x ended c new)
takes-again r x c new d event takes = subst (λ (o : Option HubEvent). IfOk r (λ ended. Takes x ended (record c { event = o }) new)) (sym event) takes

-- no decision comes where nothing happened
pub takes-nothing : (old new : Checker) (x : Decision) → old.event ≡ None → Takes (says.Decision x) None old new
takes-nothing old new x none s t lines fits e holds = at s e holds where
  at : (s : Stage) → stage_after s (says.Decision x) ≡ Some t → Holds s old lines → Holds t new (lines ++ says.Decision x ∷ [])
  at stage.Start e holds = absurd cc
  at stage.Opened e holds = absurd cc
  at stage.Happened e holds = let is = holds.shape.1 in absurd (cc (none, is))
  at stage.Answered e holds = let is = holds.shape.1 in absurd (cc (none, is))
  at stage.Decided e holds = absurd cc

-- an entry was decided in another way than its line says
pub tells-decision : (old : Checker) (hub : Hub) (x : Decision) (d : HubEvent) (en : Entry) →
    old.event ≡ Some d →
    en.event ≡ d →
    en.answer ≡ old.answer →
    (en.decision ≡ x → ⊥) →
    options_of hub ≡ options_of old.hub →
    ((log : List Entry) → Stands old.hub log → Stands hub (en ∷ log)) →
    (s t : Stage) (lines : List LogLine) (rest : List ℕ) → IsLogLine (says.Decision x) → stage_after s (says.Decision x) ≡ Some t → Holds s old lines →
    TellsOfLines (verdict.Decided (count_of old.hub) en.decision) (lines ++ says.Decision x ∷ []) rest
tells-decision old hub x d en event of answered differs options stands s t lines rest fits e holds =
    let at = undecided s old lines d event t x e holds in
    let start : List LogLine = lines_of holds.line (reverse holds.log) in
    record {
      line = holds.line;
      log = holds.log;
      next = en;
      is_due = due-of holds.line hub (en ∷ holds.log) (ap settings_of options ∙ holds.set) (stands holds.log holds.stands);
      count = holds.count;
      due_is = refl;
      other = x;
      differs = λ same. differs (sym same);
      parts =
          ap (λ (l : List LogLine). l ++ says.Decision x ∷ []) at
          ∙ append_assoc start (says.Event d ∷ answers old.answer) (says.Decision x ∷ [])
          ∙ ap (λ (l : List LogLine). start ++ (l ++ says.Decision x ∷ [])) (head-is en d old.answer of answered);
    }

-- the number of entries that was told is the hub's
pub told-count : (x : LogLine) (n : ℕ) (due : Decision) (old new : Checker) → n ≡ count_of old.hub → Takes x (Some (verdict.Decided (count_of old.hub) due)) old new → Takes x (Some (verdict.Decided n due)) old new
told-count x n due old new count takes = subst (λ (m : ℕ). Takes x (Some (verdict.Decided m due)) old new) (sym count) takes

-- an action came that is due
pub takes-action : (old : Checker) (a : Action) (came : ℕ) → slice_get old.due old.came ≡ Some a → came ≡ old.came + 1 → Takes (says.Action a) None old (record old { came = came })
takes-action old a came found next s t lines fits e holds = at s e holds where
  at : (s : Stage) → stage_after s (says.Action a) ≡ Some t → Holds s old lines → Holds t (record old { came = came }) (lines ++ says.Action a ∷ [])
  at stage.Start e holds = absurd cc
  at stage.Opened e holds = absurd cc
  at stage.Happened e holds = absurd cc
  at stage.Answered e holds = absurd cc
  at stage.Decided e holds =
      let older = holds.shape.0 in
      let last = holds.shape.1 in
      let one = take-one old.due old.came a found in
      goes-on stage.Decided stage.Decided t old (record old { came = came }) lines (lines ++ says.Action a ∷ []) holds refl refl refl e (
        older,
        last,
        holds.shape.2,
        holds.shape.3,
        omega (arith, next, one.1),
        ap (λ (l : List LogLine). l ++ says.Action a ∷ []) holds.shape.5
            ∙ so_far-more holds.line older last (take old.came old.due) (a ∷ [])
            ∙ ap (λ (l : List Action). so_far holds.line older last l) (sym one.0)
            ∙ ap (λ (n : ℕ). so_far holds.line older last (take n old.due)) (sym next),
      )

-- where the last entry has other actions
pub astray : (c : Checker) (lines last : List LogLine) (rest : List ℕ) → Holds stage.Decided c lines → GoesAstray (drop c.came c.due) last rest → HasOtherActions (count_of c.hub - 1) (lines ++ last) rest
astray c lines last rest holds strays =
    let older = holds.shape.0 in
    let newest = holds.shape.1 in
    record {
      line = holds.line;
      log = older;
      next = newest;
      is_due = due-log holds.line holds.log (newest ∷ older) holds.shape.2 (due-of holds.line c.hub holds.log holds.set holds.stands);
      count = omega (arith, holds.count, ap length holds.shape.2);
      done = take c.came c.due;
      missing = drop c.came c.due;
      actions = sym holds.shape.3 ∙ sym (take-append-drop c.came c.due);
      last = last;
      astray = strays;
      parts = ap (λ (l : List LogLine). l ++ last) holds.shape.5;
    }

-- actions are missing
pub some-missing : (c : Checker) → c.came < length c.due → drop c.came c.due ≡ [] → ⊥
some-missing c lt none = absurd (omega (arith, lt, length-drop c.came c.due, ap length none))

-- an event where an action is missing
pub tells-event : (c : Checker) (d : HubEvent) → c.came < length c.due →
    (s t : Stage) (lines : List LogLine) (rest : List ℕ) → IsLogLine (says.Event d) → stage_after s (says.Event d) ≡ Some t → Holds s c lines →
    TellsOfLines (verdict.Acted (count_of c.hub - 1)) (lines ++ says.Event d ∷ []) rest
tells-event c d lt stage.Start t lines rest fits e holds = absurd (omega (arith, lt, ap length holds.shape.2))
tells-event c d lt stage.Opened t lines rest fits e holds = absurd (omega (arith, lt, ap length holds.shape.1))
tells-event c d lt stage.Happened t lines rest fits e holds = absurd cc
tells-event c d lt stage.Answered t lines rest fits e holds = absurd cc
tells-event c d lt stage.Decided t lines rest fits e holds = astray c lines (says.Event d ∷ []) rest holds (some-missing c lt)

-- another action than the due one, or one too many
pub tells-action : (c : Checker) (a : Action) → (slice_get c.due c.came ≡ Some a → ⊥) →
    (s t : Stage) (lines : List LogLine) (rest : List ℕ) → IsLogLine (says.Action a) → stage_after s (says.Action a) ≡ Some t → Holds s c lines →
    TellsOfLines (verdict.Acted (count_of c.hub - 1)) (lines ++ says.Action a ∷ []) rest
tells-action c a other stage.Start t lines rest fits e holds = absurd cc
tells-action c a other stage.Opened t lines rest fits e holds = absurd cc
tells-action c a other stage.Happened t lines rest fits e holds = absurd cc
tells-action c a other stage.Answered t lines rest fits e holds = absurd cc
tells-action c a other stage.Decided t lines rest fits e holds =
    astray c lines (says.Action a ∷ []) rest holds (λ more same. other (get-drop c.due c.came a more same))
