-- What contracts see of a switchboard: its range, who holds which key, and the room for new holds.
use Rattle.std.specs.Prelude.{◌≡◌, ℕ, Bool, false, ◌+◌, ◌-◌, ◌/◌, ◌<◌, ◌==◌, ◌&&◌, ◌≢◌, nat_eq, List, Option, unwrap_or, Some, None, if◌then◌else◌, refl}
use Rattle.std.specs.Option.{option_and_then}
use Rattle.std.specs.Coded.{Coded, code_by, coded×, coded_ℕ, coded_list}
use Rattle.std.specs.BTreeSet.{BTreeSet, contains}
use Rattle.std.specs.FinMap as finmap
use Rattle.std.specs.Map.{lookup}
use Rattle.std.specs.Ordering.{nat_cmp, ordering_then}
use Rattle.std.specs.declared.cmp.Ordering.{Ordering}
use Rattle.ftp_switchboard.specs.declared.key.SwitchboardKey.{SwitchboardKey}

-- by source, and then by port
abbrev pub key_cmp : SwitchboardKey → SwitchboardKey → Ordering
key_cmp k l = ordering_then (nat_cmp k.source l.source) (nat_cmp k.port l.port)

-- the sessions that hold the keys
abbrev pub Held : Type 0
Held = finmap.FinMap key_cmp ℕ

-- how many more holds take no memory, of each source that has some, and how many sources that have none can have one
pub record Room : Type 0 where
  pub rows : List (ℕ × ℕ)
  pub new : ℕ

-- the range, what is held, and the room for new holds
pub record Board : Type 0 where
  pub lo : ℕ
  pub hi : ℕ
  pub held : Held
  pub room : Room

-- the key of a source and a port
abbrev pub key : ℕ → ℕ → SwitchboardKey
key a p = record { source = a; port = p }

-- how many words of 64 bits have a bit for each port of a range: its n ports by 64, rounded up
abbrev pub words_for : ℕ → ℕ → ℕ
words_for lo hi = let n = (hi - lo) + 1 in (n + 63) / 64

-- the session that holds the port for the source
abbrev pub holder_at : Board → ℕ → ℕ → Option ℕ
holder_at board a p = finmap.get board.held (key a p)

-- the session that holds the port for the source; where there is no source, nobody does
abbrev pub holder_for : Board → Option ℕ → ℕ → Option ℕ
holder_for board source p = option_and_then (λ a. holder_at board a p) source

-- how many more holds of the source take no memory
abbrev pub places_for : Room → ℕ → ℕ
places_for room source = unwrap_or (lookup (nat_eq source) room.rows) room.new

-- the next hold for the source takes no memory
abbrev pub HasRoom : Board → ℕ → Type 0
HasRoom board source = 0 < places_for board.room source

-- room that was there is there still
abbrev pub KeepsRoom : Board → Board → Type 0
KeepsRoom old new = (source : ℕ) → HasRoom old source → HasRoom new source

-- room that was there for other sources is there still
abbrev pub KeepsOtherRoom : ℕ → Board → Board → Type 0
KeepsOtherRoom source old new = (other : ℕ) → other ≢ source → HasRoom old other → HasRoom new other

-- the range stays
pub record SameRange (old new : Board) : Type 0 where
  pub lo : new.lo ≡ old.lo
  pub hi : new.hi ≡ old.hi

-- the range and the holds stay
pub record SameHolds (old new : Board) : Type 0 where
  pub lo : new.lo ≡ old.lo
  pub hi : new.hi ≡ old.hi
  pub held : new.held ≡ old.held

-- whether the port for the source a is the port q for the source b
abbrev pub is_key : ℕ → ℕ → ℕ → ℕ → Bool
is_key a p b q = (a == b) && (p == q)

-- whether the holder is this session
abbrev pub is_of : ℕ → Option ℕ → Bool
is_of session None = false
is_of session (Some s) = s == session

-- what is held once the session has given up the key, where it holds it
abbrev pub released : Held → SwitchboardKey → ℕ → Held
released held k session = if is_of session (finmap.get held k) then finmap.remove held k else held

-- what is held once the session has given up its present port for the source, if it has one
abbrev pub present_released : Held → ℕ → Option ℕ → ℕ → Held
present_released held source None session = held
present_released held source (Some port) session = released held (key source port) session

-- the holder of a key that was this holder's, once the session has given up its present port
abbrev pub still_holder : ℕ → Option ℕ → ℕ → ℕ → ℕ → Option ℕ → Option ℕ
still_holder source None session a p holder = holder
still_holder source (Some port) session a p holder = if is_key a p source port && is_of session holder then None else holder

-- the holder that is left once only live sessions hold
abbrev pub holder_among : BTreeSet ℕ → Option ℕ → Option ℕ
holder_among live None = None
holder_among live (Some session) = if contains nat_cmp live session then Some session else None

-- a key is stored as its two numbers
abbrev pub key_code : Coded SwitchboardKey
key_code =
    code_by (ℕ × ℕ) (coded× coded_ℕ coded_ℕ) (λ k. (k.source, k.port))
    (λ p. record { source = p.0; port = p.1 })
    (λ _. refl)

-- room is stored as its two fields
abbrev pub room_code : Coded Room
room_code =
    code_by (List (ℕ × ℕ) × ℕ) (coded× (coded_list (coded× coded_ℕ coded_ℕ)) coded_ℕ) (λ r. (r.rows, r.new))
    (λ p. record { rows = p.0; new = p.1 })
    (λ _. refl)

-- a board is stored as its four fields
abbrev pub board_code : Coded Board
board_code =
    code_by ((ℕ × ℕ) × (Held × Room))
    (coded× (coded× coded_ℕ coded_ℕ) (coded× (finmap.code key_code coded_ℕ) room_code))
    (λ b. ((b.lo, b.hi), (b.held, b.room)))
    (λ p. record { lo = p.0.0; hi = p.0.1; held = p.1.0; room = p.1.1 })
    (λ _. refl)
