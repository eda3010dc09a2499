-- What the edge of the system tells: moments, random words, names, ports and connections.
--   Feed       what the calls will give, where that is told
--   Meaning    which answers a call may give
--   next_x     what the next call gives, by the list of its answers
--   behind_x   the lists after a call that took its answer
use Rattle.std.specs.Prelude.{◌≡◌, ℕ, ◌-◌, ◌+◌, ◌^◌, ◌<◌, ◌≤◌, Bool, true, false, List, [], ◌∷◌, drop, min, slice_index, Option, Some, None, IfSome}
use Rattle.ftp_base.specs.declared.net.SocketAddr.{SocketAddr}

-- what is still to come, in the order of the calls; behind the end of a list comes 0, none or false
pub record Feed : Type 0 where
  pub moments : List ℕ
  pub words : List ℕ
  pub lookups : List (Option ℕ)
  pub ports : List (Option ℕ)
  pub connects : List Bool

-- which answers may come: the address of a name, the port that is bound in a range, and whether a connection is made
-- to an address under a number
pub record Meaning : Type 0 where
  pub names : List ℕ → Option ℕ → Bool
  pub ports : ℕ → ℕ → Option ℕ → Bool
  pub connects : SocketAddr → ℕ → Bool → Bool

-- every answer may come
abbrev pub any_answer : Meaning
any_answer = record { names = λ name answer. true; ports = λ lo hi answer. true; connects = λ to number answer. true }

-- an edge as callers see it: its lists, where they are told, the answers that may come, how many calls failed, and how
-- many milliseconds were paused
pub record EdgeView : Type 0 where
  pub feed : Option Feed
  pub meaning : Meaning
  pub faults : ℕ
  pub paused : ℕ

-- an edge in memory: its lists, how many calls failed, and how many milliseconds were paused
pub record EdgeState : Type 0 where
  pub feed : Feed
  pub faults : ℕ
  pub paused : ℕ

-- an edge in memory as other callers see it: it tells its lists, and every answer may come
abbrev pub edge_view : EdgeState → EdgeView
edge_view e = record { feed = Some e.feed; meaning = any_answer; faults = e.faults; paused = e.paused }

-- the next number of a list
abbrev pub next_number : List ℕ → ℕ
next_number numbers = slice_index numbers 0

-- the next answer of a list
abbrev pub next_answer : List (Option ℕ) → Option ℕ
next_answer [] = None
next_answer (answer ∷ answers) = answer

-- whether the next connection of a list is made
abbrev pub next_connect : List Bool → Bool
next_connect [] = false
next_connect (made ∷ connects) = made

-- one moment is taken
abbrev pub behind_moment : Feed → Feed
behind_moment f = record f { moments = drop 1 f.moments }

-- one word is taken
abbrev pub behind_word : Feed → Feed
behind_word f = record f { words = drop 1 f.words }

-- one lookup is taken
abbrev pub behind_lookup : Feed → Feed
behind_lookup f = record f { lookups = drop 1 f.lookups }

-- one port is taken
abbrev pub behind_port : Feed → Feed
behind_port f = record f { ports = drop 1 f.ports }

-- one connection is taken
abbrev pub behind_connect : Feed → Feed
behind_connect f = record f { connects = drop 1 f.connects }

-- a call that takes something from the lists: they are then as said, and the answers that may come stay
pub record Takes (after : Feed → Feed) (old new : EdgeView) : Type 0 where
  pub feed : IfSome old.feed (λ f. new.feed ≡ Some (after f))
  pub meaning : new.meaning ≡ old.meaning
  pub count : old.faults ≤ new.faults

-- a count of milliseconds after a pause; at its last value it stands still
abbrev pub after_pause : ℕ → ℕ → ℕ
after_pause millis paused = min (paused + millis) (2 ^ 64 - 1)

-- n answers failed; a count that stands at its last value sets no bound
abbrev pub IsCounted : ℕ → ℕ → ℕ → Type 0
IsCounted n old new = new < 2 ^ 64 - 1 → old + n ≤ new
