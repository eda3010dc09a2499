-- Each line of a printed log is read exactly.
use Rattle.std.proofs.Common.{◌≡◌, ℕ, Bool, true, false, cond, List, ◌++◌, Some, None, refl, sym, ap, subst, ◌∙◌}
use Rattle.std.specs.Prelude.{codes}
use Rattle.std.proofs.lemmas.Option.{cond_some}
use Rattle.ftp_events.specs.declared.action.Action.{Action}
use Rattle.ftp_events.specs.declared.action.Action.TheVariants as action
use Rattle.ftp_events.specs.declared.event.Answer.{Answer}
use Rattle.ftp_events.specs.declared.event.Answer.TheVariants as answer
use Rattle.ftp_text.specs.Reading.{◌>>=◌, begins, literal_at, all_of}
use Rattle.ftp_text.proofs.Exact.{bind_ok, some_is, literal_takes, all_of-takes, all_of-again}
use Rattle.ftp_text.specs.declared.setup.Item.{Item}
use Rattle.ftp_text.specs.declared.setup.Item.TheVariants as item
use Rattle.ftp_text.specs.EventReading.{event_of}
use Rattle.ftp_text.specs.Printing.{action_fields}
use Rattle.ftp_text.specs.Setup.{item_line, IsItem, IsItemOf}
use Rattle.ftp_text.specs.SetupReading.{item_of}
use Rattle.ftp_text.proofs.LineLaws.{ReadsLines, is_one, spelled_lines}
use Rattle.ftp_text.proofs.EventLemmas.{event_takes, event_again}
use Rattle.ftp_text.proofs.SetupLemmas.{item_takes, item_again}
use Rattle.ftp_text.specs.declared.line.LogLine.{LogLine}
use Rattle.ftp_text.specs.declared.line.LogLine.TheVariants as says
use Rattle.ftp_text.specs.LogLines.{answer_text, log_line, is_options, IsAnswer, IsLogLine}
use Rattle.ftp_text.specs.AnswerReading.{answer_at}
use Rattle.ftp_text.specs.DecisionReading.{decision_at}
use Rattle.ftp_text.specs.ActionReading.{action_at}
use Rattle.ftp_text.specs.LineReading.{options_of, event_in, answer_in, decision_in, action_in, log_line_of}
use Rattle.ftp_text.proofs.AnswerLemmas.{answer_is}
use Rattle.ftp_text.proofs.DecisionLemmas.{decision_is}
use Rattle.ftp_text.proofs.ActionLemmas.{action_is}

-- what was read has this line
abbrev IsOf : List ℕ → LogLine → Type 0
IsOf line x = (log_line x ≡ line) × IsLogLine x

-- ---- what is read is spelled

options-spelled : (line : List ℕ) (i : Item) → is_options i ≡ true → IsItemOf line i → IsOf line (says.Options i)
options-spelled line (item.Options mode lo hi host active idle lockout restart) is of = (of.0, (is, of.1))
options-spelled line _ is of = absurd cc

options_takes : (line : List ℕ) (x : LogLine) → options_of line ≡ Some x → IsOf line x
options_takes line x e =
    let a = bind_ok (item_of line) (λ i. cond (is_options i) (Some (says.Options i)) None) x e in
    let p = cond_some (is_options a.0) (says.Options a.0) x a.2 in
    subst (IsOf line) p.1 (options-spelled line a.0 p.0 (item_takes line a.0 a.1))

event_in-takes : (line : List ℕ) (x : LogLine) → event_in line ≡ Some x → IsOf line x
event_in-takes line x e =
    let a = bind_ok (literal_at (codes "> ") line) (λ rest. event_of rest >>= λ d. Some (says.Event d)) x e in
    let b = bind_ok (event_of a.0) (λ d. Some (says.Event d)) x a.2 in
    let t = event_takes a.0 b.0 b.1 in
    subst (IsOf line) (some_is (says.Event b.0) x b.2)
    (ap (λ (rest : List ℕ). codes "> " ++ rest) t.0 ∙ sym (literal_takes (codes "> ") line a.0 a.1), t.1)

answer_in-takes : (line : List ℕ) (x : LogLine) → answer_in line ≡ Some x → IsOf line x
answer_in-takes line x e =
    let a = bind_ok (all_of answer_at line) (λ y. Some (says.Answer y)) x e in
    subst (IsOf line) (some_is (says.Answer a.0) x a.2) (all_of-takes answer_is line a.0 a.1)

decision_in-takes : (line : List ℕ) (x : LogLine) → decision_in line ≡ Some x → IsOf line x
decision_in-takes line x e =
    let a = bind_ok (all_of decision_at line) (λ y. Some (says.Decision y)) x e in
    subst (IsOf line) (some_is (says.Decision a.0) x a.2) (all_of-takes decision_is line a.0 a.1)

action_in-takes : (line : List ℕ) (x : LogLine) → action_in line ≡ Some x → IsOf line x
action_in-takes line x e =
    let a = bind_ok (all_of action_at line) (λ y. Some (says.Action y)) x e in
    subst (IsOf line) (some_is (says.Action a.0) x a.2) (all_of-takes action_is line a.0 a.1)

line_cases : (o e a d : Bool) (line : List ℕ) (x : LogLine) →
    cond o (options_of line) (cond e (event_in line) (cond a (answer_in line) (cond d (decision_in line) (action_in line)))) ≡ Some x →
    IsOf line x
line_cases true e a d line x found = options_takes line x found
line_cases false true a d line x found = event_in-takes line x found
line_cases false false true d line x found = answer_in-takes line x found
line_cases false false false true line x found = decision_in-takes line x found
line_cases false false false false line x found = action_in-takes line x found

pub log_line_takes : (line : List ℕ) (x : LogLine) → log_line_of line ≡ Some x → (log_line x ≡ line) × IsLogLine x
unfolding log_line_of
log_line_takes line x e = line_cases (begins 111 line) (begins 62 line) (begins 63 line) (begins 61 line) line x e

-- ---- what is spelled is read

options_again : (i : Item) → is_options i ≡ true → IsItem i → log_line_of (item_line i) ≡ Some (says.Options i)
unfolding log_line_of
options_again (item.Options mode lo hi host active idle lockout restart) is fits =
    let i : Item = item.Options mode lo hi host active idle lockout restart in
    rw (item_again (item_line i) i (refl, fits)) refl
options_again _ is fits = absurd cc

answer_in-again : (a : Answer) → IsAnswer a → log_line_of (answer_text a) ≡ Some (says.Answer a)
unfolding log_line_of
answer_in-again answer.None fits = absurd fits
answer_in-again (answer.Header h) fits = ap (λ r. r >>= λ y. Some (says.Answer y)) (all_of-again answer_is (answer.Header h) fits tt)
answer_in-again (answer.Done o) fits = ap (λ r. r >>= λ y. Some (says.Answer y)) (all_of-again answer_is (answer.Done o) fits tt)
answer_in-again (answer.Moved n) fits = ap (λ r. r >>= λ y. Some (says.Answer y)) (all_of-again answer_is (answer.Moved n) fits tt)

-- an action begins with its mark
action_line-read : (a : Action) → log_line_of (action_fields a) ≡ action_in (action_fields a)
unfolding log_line_of
action_line-read (action.Completed t delivered) = refl
action_line-read (action.Cancelled t) = refl
action_line-read (action.Close n) = refl
action_line-read (action.Notify s meta what) = refl
action_line-read (action.Reply s delay r) = refl
action_line-read (action.Start t n) = refl

pub log_line_again : (x : LogLine) → IsLogLine x → log_line_of (log_line x) ≡ Some x
unfolding log_line_of
log_line_again (says.Options i) fits = options_again i fits.0 fits.1
log_line_again (says.Event e) fits = ap (λ r. r >>= λ d. Some (says.Event d)) (event_again e fits)
log_line_again (says.Answer a) fits = answer_in-again a fits
log_line_again (says.Decision d) fits = ap (λ r. r >>= λ y. Some (says.Decision y)) (all_of-again decision_is d fits tt)
log_line_again (says.Action a) fits =
    action_line-read a ∙ ap (λ r. r >>= λ y. Some (says.Action y)) (all_of-again action_is a fits tt)

pub reads_lines : ReadsLines (λ line x. (log_line x ≡ line) × IsLogLine x) log_line_of
reads_lines = spelled_lines log_line_takes log_line_again

-- no two lines are spelled alike
pub log_line-injective : (x y : LogLine) → IsLogLine x → IsLogLine y → log_line x ≡ log_line y → x ≡ y
log_line-injective x y p q same = is_one reads_lines (log_line x) x y (refl, p) (sym same, q)
