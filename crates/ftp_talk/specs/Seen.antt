-- What the edge and the storage said, turn by turn.
use Rattle.std.specs.Prelude.{◌≡◌, ℕ, ◌+◌, ◌%◌, ◌^◌, ⊤, is_some, List, [], ◌∷◌, Option, Some, None, IfSome}
use Rattle.ftp_base.specs.declared.error_kind.ErrorKind.TheVariants.{LocalError}
use Rattle.ftp_base.specs.Edge.{Feed, EdgeView, IsCounted, next_number, next_answer, next_connect, behind_moment, behind_word, behind_lookup, behind_port, behind_connect}
use Rattle.ftp_events.specs.declared.entry.Entry.{Entry}
use Rattle.ftp_events.specs.declared.event.EventKind.{EventKind}
use Rattle.ftp_events.specs.declared.event.EventKind.TheVariants as kind
use Rattle.ftp_talk.specs.Ground.{Turn, Ground, history}
use Rattle.ftp_talk.specs.Commands.{asked_name, asked_range, asked_target}

-- the lists behind an answer, where it was asked for
abbrev pub behind_asked : {Q : Type 0} → Option Q → (Feed → Feed) → Feed → Feed
behind_asked None after f = f
behind_asked (Some q) after f = after f

-- an answer that was asked for is this one
abbrev pub IsAsked : {Q A : Type 0} → Option Q → A → A → Type 0
IsAsked None said next = ⊤
IsAsked (Some q) said next = said ≡ next

-- an answer that was asked for is missing
abbrev pub missing : {Q A : Type 0} → Option Q → Option A → ℕ
missing None said = 0
missing (Some q) None = 1
missing (Some q) (Some x) = 0

-- what an event takes from the lists, besides its moment: a PASV and a STOU take a word
abbrev pub behind_kind : Ground → List Entry → EventKind → Feed → Feed
behind_kind g h (kind.Pasv s word lookup bound) f =
    behind_asked (asked_range g h) behind_port (behind_asked (asked_name g h) behind_lookup (behind_word f))
behind_kind g h (kind.Port s text number) f = behind_asked (asked_target g h text) behind_connect f
behind_kind g h (kind.Stou s word) f = behind_word f
behind_kind g h _ f = f

-- words, lookups, ports and connections are the next ones
abbrev pub IsDrawn : Ground → List Entry → EventKind → Feed → Type 0
IsDrawn g h (kind.Pasv s word lookup bound) f =
    (word ≡ next_number f.words % 2 ^ 16) × IsAsked (asked_name g h) lookup (next_answer f.lookups) × IsAsked (asked_range g h) bound (next_answer f.ports)
IsDrawn g h (kind.Port s text number) f = IsAsked (asked_target g h text) (is_some number) (next_connect f.connects)
IsDrawn g h (kind.Stou s word) f = word ≡ next_number f.words
IsDrawn g h _ f = ⊤

-- how many answers that were asked for are missing
abbrev pub missing_in : Ground → List Entry → EventKind → ℕ
missing_in g h (kind.Pasv s word lookup bound) = missing (asked_name g h) lookup + missing (asked_range g h) bound
missing_in g h (kind.Port s text number) = missing (asked_target g h text) number
missing_in g h _ = 0

-- how often the storage failed
abbrev pub failed_in : EventKind → ℕ
failed_in (kind.Cwd s path (Some LocalError)) = 1
failed_in _ = 0

-- the lists behind turns: each entry took a moment besides
abbrev pub feed_after : Ground → Feed → List Turn → Feed
feed_after g f [] = f
feed_after g f (t ∷ ts) = behind_moment (behind_kind g (history g ts) t.entry.event.kind (feed_after g f ts))

-- an entry took the next items of the lists
abbrev pub IsFed : Ground → List Entry → Entry → Feed → Type 0
IsFed g h e f = (e.event.at ≡ next_number f.moments) × IsDrawn g h e.event.kind f

-- each turn took the next items of the lists
abbrev pub AreFed : Ground → Feed → List Turn → Type 0
AreFed g f [] = ⊤
AreFed g f (t ∷ ts) = AreFed g f ts × IsFed g (history g ts) t.entry (feed_after g f ts)

-- how many answers of the edge are missing
abbrev pub all_missing : Ground → List Turn → ℕ
all_missing g [] = 0
all_missing g (t ∷ ts) = all_missing g ts + missing_in g (history g ts) t.entry.event.kind

-- how often the storage failed
abbrev pub all_failed : List Turn → ℕ
all_failed [] = 0
all_failed (t ∷ ts) = all_failed ts + failed_in t.entry.event.kind

-- moments, words and answers are those that the edge gave, and as many calls failed as are missing, at least
pub record IsSeen (g : Ground) (ts : List Turn) (now : EdgeView) (failed : ℕ) : Type 0 where
  pub fed : IfSome g.start.edge.feed (λ f. AreFed g f ts)
  pub edge : IsCounted (all_missing g ts) g.start.edge.faults now.faults
  pub storage : IsCounted (all_failed ts) g.start.desk.faults failed
