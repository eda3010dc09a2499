-- What a desk tells.
--   DeskView    a desk as callers see it
--   Vouched     what is vouched for of an entry, where the journal is not told
--   Appends     how a journal that is told grows, and the outboxes with it
--   MaySay      what may be said of a path
use Rattle.std.specs.Prelude.{◌≡◌, ℕ, ◌+◌, ◌≤◌, ◌⊎◌, ◌%◌, ◌^◌, ⊤, Bool, true, false, max, List, [], ◌∷◌, Option, Some, None, IfSome, MatchOption, if◌then◌else◌}
use Rattle.std.specs.Option.{option_map_or}
use Rattle.ftp_base.specs.declared.error_kind.ErrorKind.{ErrorKind}
use Rattle.ftp_base.specs.declared.error_kind.ErrorKind.TheVariants.{LocalError, PermanentDirectoryNotAvailable}
use Rattle.ftp_base.specs.declared.reply.Reply.{Reply}
use Rattle.ftp_base.specs.Storage.{Files, Item, Directory, item}
use Rattle.ftp_options.specs.declared.options.Options.{Options}
use Rattle.ftp_events.specs.declared.entry.Entry.{Entry}
use Rattle.ftp_events.specs.declared.decision.Decision.TheVariants.{Opened}
use Rattle.ftp_events.specs.Log.{new_number, past_of}
use Rattle.ftp_events.specs.Right.{IsRight, IsActed, next_entry, replies}
use Rattle.ftp_shared.specs.Outbox.{IsRest, own_session, outbox_after}

-- a desk as callers see it: the options of its logs, the map of its storage, how often that failed, how many events were not
-- taken, the journal with the newest entry first, the replies to each session that were not handed out,
-- and how many steps were made with its share; map, journal and share where it tells them
pub record DeskView : Type 0 where
  pub options : Options
  pub files : Option Files
  pub faults : ℕ
  pub refused : ℕ
  pub journal : Option (List Entry)
  pub outbox : ℕ → List (ℕ × Reply)
  pub share : Option ℕ

-- a count that is told rose by n at least
abbrev pub RisesBy : ℕ → Option ℕ → Option ℕ → Type 0
RisesBy n None new = ⊤
RisesBy n (Some old) new = (m : ℕ) × (new ≡ Some m) × (old + n ≤ m)

-- nothing was appended and nothing was handed out; the storage may have failed
pub record SameDesk (old new : DeskView) : Type 0 where
  pub options : new.options ≡ old.options
  pub files : new.files ≡ old.files
  pub count : old.faults ≤ new.faults
  pub refused : old.refused ≤ new.refused
  pub journal : new.journal ≡ old.journal
  pub outbox : (s : ℕ) → new.outbox s ≡ old.outbox s
  pub share : RisesBy 0 old.share new.share

-- the entry is the next one of a right and acted log, and the replies that are handed out before it are the last that this
-- log sends to the session that the event names; without such a session there are none
pub record Vouched (o : Options) (handed : List (ℕ × Reply)) (e : Entry) : Type 0 where
  pub past : List Entry
  pub right : IsRight o past
  pub acted : IsActed o past
  pub due : e ≡ next_entry o past e.event e.answer
  pub earlier : MatchOption (own_session e.event.kind) (handed ≡ []) (λ s. IsRest handed (replies past s))

-- there is such a log
abbrev pub IsVouched : Options → List (ℕ × Reply) → Entry → Type 0
IsVouched o handed e = ∥ Vouched o handed e ∥₁

-- the journal, which is right and acted, grew by its next entry; the session that the event names was handed its outbox,
-- and the other outboxes grew by the replies of the entry; a session that was opened just now has an empty one
pub record Appends (J : List Entry) (old new : DeskView) (handed : List (ℕ × Reply)) (e : Entry) : Type 0 where
  pub right : ∥ IsRight old.options J × IsActed old.options J ∥₁
  pub due : e ≡ next_entry old.options J e.event e.answer
  pub journal : new.journal ≡ Some (e ∷ J)
  pub earlier : handed ≡ option_map_or old.outbox (own_session e.event.kind) []
  pub outbox : (s : ℕ) → new.outbox s ≡ outbox_after (own_session e.event.kind) e old.outbox s
  pub fresh : (s : ℕ) → new_number e.event.kind e.decision ≡ Some s → e.decision ≡ Opened → new.outbox s ≡ []

-- the larger of two numbers, of which either may be missing
abbrev pub larger : Option ℕ → Option ℕ → Option ℕ
larger None n = n
larger (Some m) None = Some m
larger (Some m) (Some n) = Some (max m n)

-- the greatest number that entries carry as new
abbrev pub greatest : List Entry → Option ℕ
greatest [] = None
greatest (e ∷ past) = larger (new_number e.event.kind e.decision) (greatest past)

-- the number behind the greatest of a journal; 0 where there is none, and behind the last of all
abbrev pub drawn_after : List Entry → ℕ
drawn_after J = option_map_or (λ n. (n + 1) % 2 ^ 64) (greatest (past_of J)) 0

-- a directory stands here
abbrev pub is_directory : Option Item → Bool
is_directory (Some Directory) = true
is_directory _ = false

-- why a path is no directory, where the storage does not fail
abbrev pub refusal_at : Files → List ℕ → Option ErrorKind
refusal_at files path = if is_directory (item files path) then None else Some PermanentDirectoryNotAvailable

-- what may be said of a path: that the storage failed, or whether a directory stands there
abbrev pub MaySay : Option Files → List ℕ → Option ErrorKind → Type 0
MaySay files path refusal =
    (refusal ≡ Some LocalError)
    ⊎ (((refusal ≡ None) ⊎ (refusal ≡ Some PermanentDirectoryNotAvailable)) × IfSome files (λ f. refusal ≡ refusal_at f path))
