-- The text of a state, and the first line of a text that no state has.
use Rattle.std.specs.Prelude.{◌≡◌, ℕ, ◌<◌, ◌==◌, List, [], ◌∷◌, ◌++◌, take, map as each, Result, Ok, Err, if◌then◌else◌}
use Rattle.std.specs.List.{flat_map}
use Rattle.ftp_hub.specs.declared.state.HubState.{HubState}
use Rattle.ftp_hub.specs.declared.state.StateError.{StateError}
use Rattle.ftp_hub.specs.declared.state.StateError.TheVariants as state_error
use Rattle.ftp_text.specs.declared.state_line.StateLine.{StateLine}
use Rattle.ftp_text.specs.Spelling.{state_line}
use Rattle.ftp_text.specs.Grammar.{AreStateLines}

-- a line and its line feed
abbrev pub with_feed : StateLine → List ℕ
with_feed l = state_line l ++ 10 ∷ []

-- the lines as a text, each with its line feed
abbrev pub state_text : List StateLine → List ℕ
state_text lines = flat_map with_feed lines

-- the byte before all of the first line
abbrev pub before_first : ℕ → List (List ℕ) → List (List ℕ)
before_first b [] = (b ∷ []) ∷ []
before_first b (line ∷ lines) = (b ∷ line) ∷ lines

-- the lines of a text: each ends in a line feed, which the last may lack
unfoldable pub lines_in : List ℕ → List (List ℕ)
lines_in [] = []
lines_in (b ∷ bytes) = if b == 10 then [] ∷ lines_in bytes else before_first b (lines_in bytes)

-- these lines, as they are spelled, are those of the state
abbrev pub IsSpelledBy : List (List ℕ) → HubState → Type 0
IsSpelledBy texts x = (lines : List StateLine) × AreStateLines x lines × (each state_line lines ≡ texts)

-- line k is the first bad one: up to it the lines are those of no state, and up to each line before it they are those of one
pub record IsFirstBadStateLine (k : ℕ) (texts : List (List ℕ)) : Type 0 where
  pub counts : 0 < k
  pub bad : (x : HubState) → IsSpelledBy (take k texts) x → ⊥
  pub good : (j : ℕ) → 0 < j → j < k → (x : HubState) × IsSpelledBy (take j texts) x

-- what is read is the state, unless memory runs out
abbrev pub IsStateRead : HubState → Result HubState StateError → Type 0
IsStateRead x (Ok read) = read ≡ x
IsStateRead x (Err e) = e ≡ state_error.OutOfMemory

-- a text is refused for a line, or for want of memory
abbrev pub IsOfText : StateError → Type 0
IsOfText (state_error.BadLine k) = Unit {0}
IsOfText state_error.OutOfMemory = Unit {0}
IsOfText _ = ⊥
