-- What a script goes on from: a state, of which the lines before the script tell.
use Rattle.std.proofs.Common.{◌≡◌, ◌⊎◌, inl, inr, ℕ, ◌+◌, ◌<◌, ◌≤◌, Bool, true, false, List, [], ◌∷◌, length, Option, None, refl, sym, subst, ◌∙◌, arith}
use Rattle.std.specs.Prelude.{◌==◌, Ok, Err, if◌then◌else◌}
use Rattle.std.proofs.lemmas.Bool.{cases_lt}
use Rattle.std.proofs.lemmas.List.{take_all}
use Rattle.ftp_control.specs.Lines.{Rest}
use Rattle.ftp_options.specs.declared.options.Options.{Options}
use Rattle.ftp_hub.specs.declared.state.HubState.{HubState}
use Rattle.ftp_hub.specs.declared.state.StateError.{StateError}
use Rattle.ftp_hub.specs.declared.state.StateError.TheVariants.{OutOfMemory}
use Rattle.ftp_hub.specs.Refused.{HasCause, IsFirstRefusal}
use Rattle.ftp_text.specs.declared.setup.Item.{Item}
use Rattle.ftp_text.specs.Setup.{IsItem}
use Rattle.ftp_text.specs.StateText.{IsFirstBadStateLine, IsSpelledBy, before_first, lines_in}
use Rattle.ftp_script_run.specs.declared.head.Head.{Head}
use Rattle.ftp_script_run.specs.declared.run.Run.{Run}
use Rattle.ftp_script_run.specs.declared.text_script.ScriptError.TheVariants as error
use Rattle.ftp_script_run.specs.Items.{event_in}
use Rattle.ftp_script_run.specs.Legal.{start_of}
use Rattle.ftp_script_run.specs.Resumed.{AreOptionsOf, Finds, FindsHead, HasStateLines, IsBadHead, IsHead, IsOpenHead, KeepsLines, bar_place, sets_options}
use Rattle.ftp_script_run.specs.Resuming.{IsBegunAt, GivesState}
use Rattle.ftp_script_run.specs.Runs.{Keeps, MayCome, MayTake, outside}
use Rattle.ftp_script_run.proofs.HeadLemmas.{by-options}

-- ---- how far a bad line can be

-- a line more at the most for a byte
one-more : (b : ℕ) (texts : List (List ℕ)) (n : ℕ) → length texts ≤ n → length (before_first b texts) ≤ n + 1
one-more b [] n le = omega arith
one-more b (line ∷ texts) n le = omega arith

few-lines : (bytes : List ℕ) → length (lines_in bytes) ≤ length bytes
unfolding lines_in
few-lines [] = omega arith
few-lines (b ∷ bytes) = by (b == 10) (few-lines bytes) where
  by : (feed : Bool) → length (lines_in bytes) ≤ length bytes → length (if feed then [] ∷ lines_in bytes else before_first b (lines_in bytes)) ≤ length (b ∷ bytes)
  by true more = omega (arith, more)
  by false more = omega (arith, one-more b (lines_in bytes) (length bytes) more)

-- the first bad line is one of them, or the one behind the last
pub near-bad : (k : ℕ) (bytes : List ℕ) → IsFirstBadStateLine k (lines_in bytes) → k ≤ length bytes + 1
near-bad k bytes first = by (cases_lt (length bytes + 1) k) where
  by : (length bytes + 1 < k) ⊎ (k ≤ length bytes + 1) → k ≤ length bytes + 1
  by (inr le) = le
  by (inl far) =
      let few = few-lines bytes in
      let good = first.good (length bytes + 1) (omega arith) far in
      let all = take_all (length bytes + 1) (lines_in bytes) (omega (arith, few)) ∙ sym (take_all k (lines_in bytes) (omega (arith, few))) in
      absurd (first.bad good.0 (subst (λ (texts : List (List ℕ)). IsSpelledBy texts good.0) all good.1))

-- ---- the options

-- an options line may come first
pub options-first : (run : Run) (i : Item) → sets_options i ≡ true → Keeps None run [] [] → MayCome None run [] i
options-first run i sets kept = by-options (λ i. MayCome None run [] i) (λ mode lo hi host active idle lockout restart. record { stands = refl; goes_on = tt }) i sets

pub options-come : (run : Run) (i : Item) → IsItem i → sets_options i ≡ true → Keeps None run [] [] → MayTake run i
options-come run i is sets kept = (is, (None, [], [], kept, options-first run i sets kept))

-- it is no event
pub options-quiet : (i : Item) → sets_options i ≡ true → event_in i ≡ None
options-quiet = by-options (λ i. event_in i ≡ None) (λ mode lo hi host active idle lockout restart. refl)

-- it sets up no storage and no link
pub options-start : (run : Run) (i : Item) → sets_options i ≡ true → Keeps None run (i ∷ []) [] → outside run ≡ start_of []
options-start run = by-options (λ i. Keeps None run (i ∷ []) [] → outside run ≡ start_of []) (λ mode lo hi host active idle lockout restart kept. kept.start refl)

-- ---- the state

-- with the line of two hyphens
closed : (b : Bool) (head : Head) (texts : List (List ℕ)) (bytes held : List ℕ) (left : Option (List ℕ)) → b ≡ true → FindsHead b head texts bytes held left → FindsHead true head texts bytes held left
closed b head texts bytes held left is found = subst (λ (c : Bool). FindsHead c head texts bytes held left) is found

-- the lines of the state, whether that line came or not
state-lines : (b : Bool) (head : Head) (texts : List (List ℕ)) (bytes held : List ℕ) (left : Option (List ℕ)) → FindsHead b head texts bytes held left → HasStateLines bytes head.options texts (bar_place head)
state-lines true head texts bytes held left found = inl (found.0, found.1)
state-lines false head texts bytes held left found = inr found.0

-- a state that is not refused
pub begun-at : (bytes held : List ℕ) (left : Option (List ℕ)) (head : Head) (o : Options) (x : HubState) (before : ℕ) →
    Finds head bytes held left →
    ((texts : List (List ℕ)) → KeepsLines head texts → GivesState head texts (Ok x)) →
    AreOptionsOf head.options o →
    ((e : StateError) → HasCause o x e → ⊥) →
    before ≡ bar_place head →
    (rest : List ℕ) × Rest held left rest × IsBegunAt bytes rest before o x
begun-at bytes held left head o x before found tells set passed place =
    let told = tells found.0 found.1 in
    let whole = closed head.is_closed head found.0 bytes held left told.1 found.2 in (
      whole.0,
      whole.2,
      record {
        line = head.options;
        texts = found.0;
        head = subst (IsHead bytes head.options found.0 whole.0) (sym place) whole.1;
        spelled = told.0;
        set = set;
        passed = passed;
      },
    )

-- a line that no state has there, or the one that is missing
pub bad-lines : (k : ℕ) (bytes held : List ℕ) (left : Option (List ℕ)) (head : Head) →
    Finds head bytes held left →
    ((texts : List (List ℕ)) → KeepsLines head texts → GivesState head texts (Err (error.BadLine k))) →
    IsBadHead k bytes
bad-lines k bytes held left head found tells = by (tells found.0 found.1) where
  open-head : (b : Bool) → b ≡ false → FindsHead b head found.0 bytes held left → IsOpenHead bytes head.options found.0 (bar_place head)
  open-head b is finds =
      let opened = subst (λ (c : Bool). FindsHead c head found.0 bytes held left) is finds in opened.0

  by : GivesState head found.0 (Err (error.BadLine k)) → IsBadHead k bytes
  by (inl bad) = inl (head.options, found.0, bar_place head, bad.0, state-lines head.is_closed head found.0 bytes held left found.2, bad.1, bad.2)
  by (inr missing) = inr (inr (
    head.options,
    found.0,
    missing.0,
    subst (IsOpenHead bytes head.options found.0) (sym missing.3) (open-head head.is_closed missing.2 found.2),
    missing.1,
  ))

-- a state that the options refuse
pub bad-state : (k : ℕ) (bytes held : List ℕ) (left : Option (List ℕ)) (head : Head) (o : Options) (x : HubState) (e : StateError) →
    Finds head bytes held left →
    ((texts : List (List ℕ)) → KeepsLines head texts → GivesState head texts (Ok x)) →
    AreOptionsOf head.options o →
    HasCause o x e →
    k ≡ bar_place head →
    IsBadHead k bytes
bad-state k bytes held left head o x e found tells set cause place =
    let told = tells found.0 found.1 in
    let whole = closed head.is_closed head found.0 bytes held left told.1 found.2 in
    inr (inl (
      head.options,
      found.0,
      whole.0,
      x,
      o,
      e,
      subst (IsHead bytes head.options found.0 whole.0) (sym place) whole.1,
      told.0,
      set,
      cause,
    ))

-- what refuses a state, where memory does not run out
pub refused-cause : (o : Options) (x : HubState) (e : StateError) → (e ≡ OutOfMemory → ⊥) → (e ≡ OutOfMemory) ⊎ IsFirstRefusal o x e → HasCause o x e
refused-cause o x e other (inl memory) = absurd (other memory)
refused-cause o x e other (inr refusal) = refusal.cause
