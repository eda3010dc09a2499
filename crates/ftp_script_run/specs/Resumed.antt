-- What a script prints that goes on from the state of a hub.
--
-- What is read is an options line or none, the text of a state, a line of two hyphens, and a script. Nothing is skipped before
-- the line of two hyphens, and the lines of a state may be of any length. The log of the script stands behind every log that has
-- the state: it is the rest of a whole log, without its first part.
use Rattle.std.specs.Prelude.{◌≡◌, ◌⊎◌, ℕ, ◌+◌, ◌-◌, ◌^◌, ◌<◌, ◌≤◌, ◌&&◌, nat_lt, Bool, true, false, List, [], ◌∷◌, ◌++◌, length, codes, map as each, reverse, Option, Some, None, option_to_list}
use Rattle.std.specs.List.{AllByRecursion, flat_map, list_all}
use Rattle.ftp_base.specs.LinkTable.{Numbered}
use Rattle.ftp_base.specs.Memory.{LinkState}
use Rattle.ftp_base.specs.Outside.{Writes}
use Rattle.ftp_options.specs.declared.options.Options.{Options}
use Rattle.ftp_options.specs.Builder.{settings_of}
use Rattle.ftp_events.specs.declared.entry.Entry.{Entry}
use Rattle.ftp_events.specs.Leads.{Outside, Leads}
use Rattle.ftp_events.specs.Right.{IsActed, IsRight}
use Rattle.ftp_control.specs.Lines.{Rest, behind_line, first_line}
use Rattle.ftp_control.specs.Writing.{WritesFront}
use Rattle.ftp_hub.specs.declared.state.HubState.{HubState}
use Rattle.ftp_hub.specs.declared.state.JobLine.{JobLine}
use Rattle.ftp_hub.specs.declared.state.SlotKind.{SlotKind}
use Rattle.ftp_hub.specs.declared.state.SlotKind.TheVariants as kept
use Rattle.ftp_hub.specs.declared.state.SlotLine.{SlotLine}
use Rattle.ftp_hub.specs.declared.state.StateError.{StateError}
use Rattle.ftp_hub.specs.Refused.{HasCause}
use Rattle.ftp_hub.specs.State.{IsState}
use Rattle.ftp_text.specs.StateText.{IsFirstBadStateLine, IsSpelledBy, lines_in}
use Rattle.ftp_text.specs.declared.setup.Item.{Item}
use Rattle.ftp_text.specs.declared.setup.Item.TheVariants as item
use Rattle.ftp_text.specs.Setup.{IsItem, IsItemOf}
use Rattle.ftp_script_run.specs.declared.head.Head.{Head}
use Rattle.ftp_script_run.specs.Script.{IsScriptOf, has_link}
use Rattle.ftp_script_run.specs.ScriptReader.{AreWhole}
use Rattle.ftp_script_run.specs.SetUp.{StorageState}
use Rattle.ftp_script_run.specs.Items.{events_in, options_in}
use Rattle.ftp_script_run.specs.Left.{end_lines}
use Rattle.ftp_script_run.specs.Legal.{FailsAsListed, memory_views, start_of}
use Rattle.ftp_script_run.specs.Outcome.{bad_line, log_lines}

-- ---- what stands before the script

-- these are the lines at the front of the bytes, and the rest stands behind them; the last line of all may lack its line feed
abbrev pub HasLines : List (List ℕ) → List ℕ → List ℕ → Type 0
HasLines [] rest bytes = bytes ≡ rest
HasLines (line ∷ lines) rest bytes = (0 < length bytes) × (first_line bytes ≡ line) × HasLines lines rest (behind_line bytes)

-- the item is that of an options line
abbrev pub sets_options : Item → Bool
sets_options (item.Options mode lo hi host active idle lockout restart) = true
sets_options _ = false

-- the line is that of these options
pub record IsOptionsLine (line : List ℕ) (i : Item) : Type 0 where
  pub spelled : IsItemOf line i
  pub sets : sets_options i ≡ true
  pub short : length line ≤ 65536

-- where there is an item, it is a lawful one of an options line
abbrev pub AreOfOptions : Option Item → Type 0
AreOfOptions None = Unit {0}
AreOfOptions (Some i) = IsItem i × (sets_options i ≡ true)

-- an options line, or none where the line behind it is none
abbrev pub AreOptionsLines : List (List ℕ) → Option Item → List (List ℕ) → Type 0
AreOptionsLines [] None [] = Unit {0}
AreOptionsLines [] None (line ∷ lines) = (i : Item) → IsOptionsLine line i → ⊥
AreOptionsLines (line ∷ []) (Some i) lines = IsOptionsLine line i
AreOptionsLines _ _ lines = ⊥

-- the line between a state and a script
abbrev pub bar : List ℕ
bar = codes "--"

-- none of the lines is one of two hyphens
abbrev pub HaveNoBar : List (List ℕ) → Type 0
HaveNoBar lines = AllByRecursion (λ (line : List ℕ). line ≡ bar → ⊥) lines

-- the bytes are an options line or none, these lines, a line of two hyphens, and the rest, behind so many lines
pub record IsHead (bytes : List ℕ) (options : Option Item) (texts : List (List ℕ)) (rest : List ℕ) (before : ℕ) : Type 0 where
  pub first : List (List ℕ)
  pub lines : HasLines (first ++ (texts ++ bar ∷ [])) rest bytes
  pub options_are : AreOptionsLines first options (texts ++ bar ∷ [])
  pub none : HaveNoBar texts
  pub count : before ≡ length first + length texts + 1

-- the bytes are an options line or none, and these lines, of which none is one of two hyphens; the line behind them would be line k
pub record IsOpenHead (bytes : List ℕ) (options : Option Item) (texts : List (List ℕ)) (k : ℕ) : Type 0 where
  pub first : List (List ℕ)
  pub lines : HasLines (first ++ texts) [] bytes
  pub options_are : AreOptionsLines first options texts
  pub none : HaveNoBar texts
  pub count : k ≡ length first + length texts + 1

-- these are the lines behind an options line or none, up to the line of two hyphens, or to the end; that is line k, or would be
abbrev pub HasStateLines : List ℕ → Option Item → List (List ℕ) → ℕ → Type 0
HasStateLines bytes options texts k = ((rest : List ℕ) × IsHead bytes options texts rest k) ⊎ IsOpenHead bytes options texts k

-- options with the settings of the line, or the builder's
abbrev pub AreOptionsOf : Option Item → Options → Type 0
AreOptionsOf options o = settings_of o ≡ options_in (option_to_list options)

-- line k is the first bad one, before the script: the first that is none of a state, the line of two hyphens behind a state that is
-- refused under the options, or the one that is missing
abbrev pub IsBadHead : ℕ → List ℕ → Type 0
IsBadHead k bytes =
    ((options : Option Item) × (texts : List (List ℕ)) × (end j : ℕ) × HasStateLines bytes options texts end × IsFirstBadStateLine j texts × (k ≡ length (option_to_list options) + j))
    ⊎ (((options : Option Item) × (texts : List (List ℕ)) × (rest : List ℕ) × (x : HubState) × (o : Options) × (e : StateError)
    × IsHead bytes options texts rest k × IsSpelledBy texts x × AreOptionsOf options o × HasCause o x e)
    ⊎ ((options : Option Item) × (texts : List (List ℕ)) × (x : HubState) × IsOpenHead bytes options texts k × IsSpelledBy texts x))

-- ---- reading it

-- the lines, each with its line feed
abbrev pub with_feeds : List (List ℕ) → List ℕ
with_feeds texts = flat_map (λ (line : List ℕ). line ++ 10 ∷ []) texts

-- the number of the line of two hyphens, or of the one that is missing
abbrev pub bar_place : Head → ℕ
bar_place head = length (option_to_list head.options) + head.lines + 1

-- what was found: with the line of two hyphens all that is held and left is the rest; without it nothing is left
abbrev pub FindsHead : Bool → Head → List (List ℕ) → List ℕ → List ℕ → Option (List ℕ) → Type 0
FindsHead true head texts bytes held left = (rest : List ℕ) × IsHead bytes head.options texts rest (bar_place head) × Rest held left rest
FindsHead false head texts bytes held left = IsOpenHead bytes head.options texts (bar_place head) × (left ≡ Some [])

-- the lines of the state, as they are kept
pub record KeepsLines (head : Head) (texts : List (List ℕ)) : Type 0 where
  pub text : head.text.items ≡ with_feeds texts
  pub lines : lines_in head.text.items ≡ texts
  pub count : head.lines ≡ length texts

-- lines of a state were found and kept
abbrev pub Finds : Head → List ℕ → List ℕ → Option (List ℕ) → Type 0
Finds head bytes held left = (texts : List (List ℕ)) × KeepsLines head texts × FindsHead head.is_closed head texts bytes held left

-- a line was read: it is the first, and the rest is behind it; or there is none
abbrev pub ReadsLine : Bool → List ℕ → List ℕ → List ℕ → Option (List ℕ) → Type 0
ReadsLine true bytes line held left = (0 < length bytes) × (line ≡ first_line bytes) × Rest held left (behind_line bytes)
ReadsLine false bytes line held left = (bytes ≡ []) × (held ≡ []) × (left ≡ Some [])

-- the line in view, where there is one
abbrev pub in_view : Bool → List ℕ → List (List ℕ)
in_view true line = line ∷ []
in_view false line = []

-- the rest is held and left; without a line in view nothing is left
abbrev pub IsBehind : Bool → List ℕ → List ℕ → Option (List ℕ) → Type 0
IsBehind true rest held left = Rest held left rest
IsBehind false rest held left = (rest ≡ []) × (left ≡ Some [])

-- the bytes are an options line or none, these lines of a state, the line in view, where there is one, and what stands behind
pub record ReadsHead (bytes : List ℕ) (options : Option Item) (texts : List (List ℕ)) (there : Bool) (line held : List ℕ) (left : Option (List ℕ)) : Type 0 where
  pub first : List (List ℕ)
  pub rest : List ℕ
  pub lines : HasLines (first ++ (texts ++ in_view there line)) rest bytes
  pub options_are : AreOptionsLines first options (texts ++ in_view there line)
  pub none : HaveNoBar texts
  pub count : length first ≡ length (option_to_list options)
  pub behind : IsBehind there rest held left

-- ---- the script

-- the link that a slot has
abbrev pub link_kept : SlotKind → Option ℕ
link_kept (kept.Waits port) = None
link_kept (kept.HasLink number) = Some number

-- the links that slots and jobs of a state name
abbrev pub links_named : HubState → List ℕ
links_named x = flat_map (λ (l : SlotLine). option_to_list (link_kept l.what)) x.slots ++ each (λ (j : JobLine). j.job.number) x.jobs

-- whether an item may come behind these where a script goes on from the state: no options, and an event behind the links that the
-- state names, and before the count of events is at its end
abbrev pub may_go_on : HubState → List Item → Item → Bool
may_go_on x before (item.Options mode lo hi host active idle lockout restart) = false
may_go_on x before (item.Event e) =
    list_all (λ n. has_link n before) (links_named x) && nat_lt (x.events + length (events_in before)) (2 ^ 64 - 1)
may_go_on x before _ = true

-- each of these items may come behind the others
abbrev pub AllGoOn : HubState → List Item → List Item → Type 0
AllGoOn x before [] = Unit {0}
AllGoOn x before (i ∷ items) = (may_go_on x before i ≡ true) × AllGoOn x (before ++ i ∷ []) items

-- behind the lines of these items stands one that a script may have, but none that goes on from the state
pub record IsNoMore (x : HubState) (bytes : List ℕ) (items : List Item) (k : ℕ) : Type 0 where
  pub next : Item
  pub read : List ℕ
  pub rest : List ℕ
  pub all_is : read ++ rest ≡ bytes
  pub whole : AreWhole read rest
  pub script : IsScriptOf read (items ++ next ∷ []) None
  pub stops : may_go_on x items next ≡ false
  pub place : k ≡ length items + 1

-- the items are those of the lines of a script that goes on from the state, up to the first bad line, where there is one
abbrev pub IsResumedScript : HubState → List ℕ → List Item → Option ℕ → Type 0
IsResumedScript x bytes items None = AllGoOn x [] items × IsScriptOf bytes items None
IsResumedScript x bytes items (Some k) = AllGoOn x [] items × (IsScriptOf bytes items (Some k) ⊎ IsNoMore x bytes items k)

-- ---- its log

-- the log is right and acted, and has the state
pub record HasState (o : Options) (front : List Entry) (x : HubState) : Type 0 where
  pub right : IsRight o front
  pub acted : IsActed o front
  pub state : IsState o front x

-- behind the front each decision and each action is due, and each header was read and each job was run, at its end, from old to new, of
-- which no more calls failed than were listed to come
pub record IsDueBehind (o : Options) (front log : List Entry) (old new : Outside StorageState LinkState) : Type 0 where
  pub right : IsRight o (log ++ front)
  pub acted : IsActed o (log ++ front)
  pub led : Leads memory_views o front log old new
  pub listed : FailsAsListed old new

-- the entries are those of the script's events, in their order; behind every log that has the state all that they say is due, and
-- leaves these links and this storage
pub record IsLegalBehind (o : Options) (x : HubState) (items : List Item) (log : List Entry) (links : Numbered LinkState) (storage : StorageState) : Type 0 where
  pub events : each (λ (e : Entry). e.event) (reverse log) ≡ events_in items
  pub due : (front : List Entry) → HasState o front x → IsDueBehind o front log (start_of items) (record { storage = storage; links = links })

-- ---- how it ends

-- a state was read, which its options do not refuse, and a script behind it
pub record Resumes (bytes : List ℕ) (bad : Option ℕ) : Type 0 where
  pub line : Option Item
  pub texts : List (List ℕ)
  pub rest : List ℕ
  pub before : ℕ
  pub head : IsHead bytes line texts rest before
  pub state : HubState
  pub spelled : IsSpelledBy texts state
  pub options : Options
  pub set : AreOptionsOf line options
  pub passed : (e : StateError) → HasCause options state e → ⊥
  pub items : List Item
  pub log : List Entry
  pub script : IsResumedScript state rest items bad
  pub links : Numbered LinkState
  pub storage : StorageState
  pub legal : IsLegalBehind options state items log links storage

-- all bytes are read; the log of the script was written, and the lines on the links and files that it leaves
pub record IsResumed (bytes : List ℕ) (left old new : Option (List ℕ)) : Type 0 where
  pub resumes : Resumes bytes None
  pub end : left ≡ Some []
  pub written : Writes old new (log_lines resumes.log ++ end_lines resumes.links resumes.storage)

-- line k is the first bad one, behind the state; the log of the lines before it was written, and the line that names it
pub record IsResumedTo (k : ℕ) (bytes : List ℕ) (old new : Option (List ℕ)) : Type 0 where
  pub place : ℕ
  pub resumes : Resumes bytes (Some place)
  pub counted : k ≡ resumes.before + place
  pub written : Writes old new (log_lines resumes.log ++ bad_line k)

-- line k is the first bad one, before the script or in it
abbrev pub HasBadResumedLine : ℕ → List ℕ → Option (List ℕ) → Option (List ℕ) → Type 0
HasBadResumedLine k bytes old new = (IsBadHead k bytes × Writes old new (bad_line k)) ⊎ IsResumedTo k bytes old new

-- what is written behind the log of the lines that were read, with more bytes behind them: the line that names the bad line, or with
-- no more the lines on the links and files that they leave
abbrev pub behind_resumed : Option ℕ → ℕ → Numbered LinkState → StorageState → List ℕ → List ℕ
behind_resumed (Some k) before links storage more = bad_line (before + k)
behind_resumed None before links storage [] = end_lines links storage
behind_resumed None before links storage (c ∷ more) = []

-- a part from the front of the whole output was written, as lines from the front tell it
pub record ResumesPart (bytes : List ℕ) (old new : Option (List ℕ)) : Type 0 where
  pub read : List ℕ
  pub more : List ℕ
  pub all_is : read ++ more ≡ bytes
  pub whole : AreWhole read more
  pub bad : Option ℕ
  pub resumes : Resumes read bad
  pub written : WritesFront old new (log_lines resumes.log ++ behind_resumed bad resumes.before resumes.links resumes.storage more)
