-- Why an entry was decided as it was: what the entries before it did with its port.
--
-- A log is read here with the oldest entry first, and places in it count from 0.
use Rattle.std.specs.Prelude.{◌≡◌, ℕ, ◌+◌, ◌-◌, ◌<◌, ⊤, Bool, true, false, not, List, length, take, reverse, slice_get, ◌++◌, codes, decimal, Option, Some, None, is_some, if◌then◌else◌}
use Rattle.std.specs.List.{flat_map}
use Rattle.std.specs.Option.{option_and_then, option_map, option_map_or}
use Rattle.ftp_base.specs.declared.net.IpAddr.{IpAddr}
use Rattle.ftp_options.specs.declared.options.Options.{Options}
use Rattle.ftp_events.specs.declared.decision.Decision.{Decision}
use Rattle.ftp_events.specs.declared.decision.Decision.TheVariants.{Attached, Turned, Full}
use Rattle.ftp_events.specs.declared.entry.Entry.{Entry}
use Rattle.ftp_events.specs.declared.event.EventKind.{EventKind}
use Rattle.ftp_events.specs.Board.{Target, target, gives_hold, holder}
use Rattle.ftp_events.specs.Headline.{from_one_peer}
use Rattle.ftp_events.specs.Log.{is_refusal, is_stopped, named_session, past_of}
use Rattle.ftp_events.specs.Opening.{opener}
use Rattle.ftp_events.specs.Words.{◌⇒◌∣◌}
use Rattle.ftp_text.specs.Fields.{number, optional}
use Rattle.ftp_check_log.specs.declared.evidence.Evidence.{Evidence}
use Rattle.ftp_check_log.specs.declared.evidence.Evidence.TheVariants.{HeldBy, FreeSince, FullBy, Plain}

-- the entries before place k that were not refused, the newest first
abbrev pub past_at : List Entry → ℕ → List Entry
past_at log k = past_of (reverse (take k log))

-- who holds the port for the client before place k
abbrev pub holder_before : Options → List Entry → ℕ → IpAddr → ℕ → Option ℕ
holder_before o log k a p = holder o (past_at log k) a p

-- the entry at place g grants the port to a session of the client
abbrev pub Grants : Options → List Entry → IpAddr → ℕ → ℕ → Type 0
Grants o log a p g =
    (e : Entry) × (slice_get log g ≡ Some e) × (is_refusal e.decision ≡ false) × (gives_hold o (past_at log g) e a p ≡ true)

-- the entry at place r releases the port: it has a holder before the entry, and nobody holds it after
abbrev pub Releases : Options → List Entry → IpAddr → ℕ → ℕ → Type 0
Releases o log a p r = (s : ℕ) × (holder_before o log r a p ≡ Some s) × (holder_before o log (r + 1) a p ≡ None)

-- entry g granted the port, and no entry after it and before k released it
pub record IsHeldBy (o : Options) (log : List Entry) (k : ℕ) (a : IpAddr) (p g : ℕ) : Type 0 where
  pub before : g < k
  pub grants : Grants o log a p g
  pub stays : (r : ℕ) → g < r → r < k → Releases o log a p r → ⊥

-- entry r released the port, and no later entry before k granted it; with none there, no entry before k granted it
abbrev pub IsFreeSince : Options → List Entry → ℕ → IpAddr → ℕ → Option ℕ → Type 0
IsFreeSince o log k a p None = (g : ℕ) → g < k → Grants o log a p g → ⊥
IsFreeSince o log k a p (Some r) = (r < k) × Releases o log a p r × ((g : ℕ) → r < g → g < k → Grants o log a p g → ⊥)

-- each port of the range is held by the entry at its place among these
pub record IsFullBy (o : Options) (log : List Entry) (k : ℕ) (a : IpAddr) (places : List ℕ) : Type 0 where
  pub count : length places ≡ (o.hi - o.lo) + 1
  pub held : (i g : ℕ) → slice_get places i ≡ Some g → IsHeldBy o log k a (o.lo + i) g

-- what a decision rests on: that a port is held, or free, or that all ports of a client are held; or on no port
pub data Matter : Type 0 where
  HoldOf : Target → Matter
  FreedomOf : Target → Matter
  RangeOf : IpAddr → Matter
  NoPort : Matter

-- of a port of a client: that it is held before place k, or that it is free
abbrev pub port_matter : Options → List Entry → ℕ → Target → Matter
port_matter o log k t = if is_some (holder_before o log k t.client t.port) then HoldOf t else FreedomOf t

-- somebody holds what a data connection comes for, and came from another peer
abbrev pub is_foreign : Options → List Entry → EventKind → Target → Bool
is_foreign o past k t = option_map_or (λ s. not (from_one_peer o past k s)) (holder o past t.client t.port) false

-- a data connection is turned away as it is foreign to the holder, or as nobody holds the port; after a stop, for no port's sake
abbrev pub turned_matter : Options → List Entry → EventKind → Target → Matter
turned_matter o past k t =
    is_stopped past ⇒ NoPort
    ∣ is_foreign o past k t ⇒ HoldOf t
    ∣ FreedomOf t

-- the client of the session that an event names
abbrev pub named_client : List Entry → EventKind → Option IpAddr
named_client past k = option_map (λ opening. opening.client) (option_and_then (opener past) (named_session k))

-- what the decision on an entry rests on, after the entries before it
abbrev pub matter_of : Options → List Entry → Entry → Decision → Matter
matter_of o past e (Attached s) = option_map_or (λ t. HoldOf t) (target o e.event.kind e.answer) NoPort
matter_of o past e Turned = option_map_or (turned_matter o past e.event.kind) (target o e.event.kind e.answer) NoPort
matter_of o past e Full = option_map_or (λ a. RangeOf a) (named_client past e.event.kind) NoPort
matter_of o past e _ = NoPort

-- evidence on what a decision rests on
abbrev pub TellsOf : Options → List Entry → ℕ → Matter → Evidence → Type 0
TellsOf o log k (HoldOf t) (HeldBy g) = IsHeldBy o log k t.client t.port g
TellsOf o log k (FreedomOf t) (FreeSince r) = IsFreeSince o log k t.client t.port r
TellsOf o log k (RangeOf a) (FullBy places) = IsFullBy o log k a places.items
TellsOf o log k NoPort Plain = ⊤
TellsOf o log k m _ = ⊥

-- evidence for the entry at place k
abbrev pub IsEvidence : Options → List Entry → ℕ → Evidence → Type 0
IsEvidence o log k x = (e : Entry) × (slice_get log k ≡ Some e) × TellsOf o log k (matter_of o (past_at log k) e e.decision) x

-- two pieces of evidence name the same places
abbrev pub SameEvidence : Evidence → Evidence → Type 0
SameEvidence (HeldBy g) (HeldBy h) = g ≡ h
SameEvidence (FreeSince r) (FreeSince q) = r ≡ q
SameEvidence (FullBy places) (FullBy others) = places.items ≡ others.items
SameEvidence Plain Plain = ⊤
SameEvidence x y = ⊥

-- every evidence for the entry names the same places
abbrev pub IsOnlyEvidence : Options → List Entry → ℕ → Evidence → Type 0
IsOnlyEvidence o log k x = (y : Evidence) → IsEvidence o log k y → SameEvidence y x

-- evidence as it is printed, without its line feed
abbrev pub evidence_text : Evidence → List ℕ
evidence_text (HeldBy g) = codes "held" ++ number g
evidence_text (FreeSince r) = codes "free" ++ optional decimal r
evidence_text (FullBy places) = codes "full" ++ flat_map number places.items
evidence_text Plain = codes "plain"
