-- What one more item changes of what the items ask for.
use Rattle.std.proofs.Common.{◌≡◌, ℕ, Bool, true, false, cond, ◌||◌, List, [], ◌∷◌, ◌++◌, Option, Some, None, is_some, refl, ap, ◌∙◌, nat_eq}
use Rattle.std.specs.List.{list_any}
use Rattle.std.specs.Prelude.{filter_map, fold}
use Rattle.std.specs.Ordering.{nat_cmp, eq_by_cmp}
use Rattle.std.specs.Cmp.{nat_cmp_total, unsigned_tied}
use Rattle.std.specs.FinMap as map
use Rattle.std.specs.FinMap.{nat_cmp-IsAntisymmetric, from_entries_push, get-from_entries}
use Rattle.std.proofs.lemmas.List.{append-nil}
use Rattle.std.proofs.lemmas.List.Elements.{filter_map-append}
use Rattle.std.proofs.lemmas.List.Sums.{fold-append}
use Rattle.ftp_base.specs.declared.fault.LinkFault.{LinkFault}
use Rattle.ftp_base.specs.Memory.{LinkState}
use Rattle.ftp_options.specs.Builder.{defaults}
use Rattle.ftp_text.specs.declared.setup.Item.{Item}
use Rattle.ftp_text.specs.declared.setup.Item.TheVariants as item
use Rattle.ftp_audit.specs.Book.{Book}
use Rattle.ftp_audit.specs.Quota.{with_budget, IsUnused}
use Rattle.ftp_script_run.specs.Script.{says, has_link}
use Rattle.ftp_script_run.specs.Items.{event_in, events_in, options_in, new_link, link_in, links_in}
use Rattle.ftp_script_run.specs.SetUp.{StorageState, has_event, new_storage, unlimited, set_up, storage_in}

-- ---- events

pub events_in-append : (items more : List Item) → events_in (items ++ more) ≡ events_in items ++ events_in more
events_in-append items more = filter_map-append event_in items more

-- ---- options

-- an item that sets none
pub options_in-other : (items : List Item) (i : Item) → options_in (i ∷ []) ≡ defaults → options_in (items ++ i ∷ []) ≡ options_in items
options_in-other [] i none = none
options_in-other (item.Skip ∷ items) i none = options_in-other items i none
options_in-other (item.Options mode lo hi host active idle lockout restart ∷ items) i none = refl
options_in-other (item.Storage max fails ∷ items) i none = options_in-other items i none
options_in-other (item.Dir path ∷ items) i none = options_in-other items i none
options_in-other (item.File bytes path ∷ items) i none = options_in-other items i none
options_in-other (item.Quota default ∷ items) i none = options_in-other items i none
options_in-other (item.Budget bytes user ∷ items) i none = options_in-other items i none
options_in-other (item.Link n chunk fails bytes ∷ items) i none = options_in-other items i none
options_in-other (item.Event e ∷ items) i none = options_in-other items i none

-- what is set and what happened, where nothing was said
pub record IsUnsaid (items : List Item) : Type 0 where
  pub no_event : has_event items ≡ false
  pub first : (more : List Item) → options_in (items ++ more) ≡ options_in more

-- where nothing was said, no options are set, and nothing happened
pub unsaid : (items : List Item) → list_any says items ≡ false → IsUnsaid items
unsaid [] h = record { no_event = refl; first = λ more. refl }
unsaid (item.Skip ∷ items) h = let behind = unsaid items h in record { no_event = behind.no_event; first = behind.first }
unsaid (item.Options mode lo hi host active idle lockout restart ∷ items) h = cc
unsaid (item.Storage max fails ∷ items) h = cc
unsaid (item.Dir path ∷ items) h = cc
unsaid (item.File bytes path ∷ items) h = cc
unsaid (item.Quota default ∷ items) h = cc
unsaid (item.Budget bytes user ∷ items) h = cc
unsaid (item.Link n chunk fails bytes ∷ items) h = cc
unsaid (item.Event e ∷ items) h = cc

-- ---- links

abbrev Entries : Type 0
Entries = List (ℕ × LinkState)

abbrev link_entries : List Item → Entries
link_entries items = filter_map link_in items

found : ℕ → Entries → Option LinkState
found n entries = map.find nat_cmp n entries

-- a number is found where its link is among the items
has_link-found : (n : ℕ) (items : List Item) → is_some (map.find nat_cmp n (link_entries items)) ≡ has_link n items
has_link-found n [] = refl
has_link-found n (item.Skip ∷ items) = has_link-found n items
has_link-found n (item.Options mode lo hi host active idle lockout restart ∷ items) = has_link-found n items
has_link-found n (item.Storage max fails ∷ items) = has_link-found n items
has_link-found n (item.Dir path ∷ items) = has_link-found n items
has_link-found n (item.File bytes path ∷ items) = has_link-found n items
has_link-found n (item.Quota default ∷ items) = has_link-found n items
has_link-found n (item.Budget bytes user ∷ items) = has_link-found n items
has_link-found n (item.Link m chunk fails bytes ∷ items) =
    some_cond (eq_by_cmp nat_cmp n m) (new_link chunk fails bytes) (map.find nat_cmp n (link_entries items))
    ∙ ap (λ (b : Bool). b || is_some (map.find nat_cmp n (link_entries items))) (unsigned_tied n m)
    ∙ ap (λ (b : Bool). nat_eq n m || b) (has_link-found n items) where
      some_cond : (b : Bool) (l : LinkState) (o : Option LinkState) → is_some (cond b (Some l) o) ≡ (b || is_some o)
      some_cond true l o = refl
      some_cond false l o = refl
has_link-found n (item.Event e ∷ items) = has_link-found n items

get-links_in : (items : List Item) (n : ℕ) → map.get (links_in items) n ≡ map.find nat_cmp n (link_entries items)
get-links_in items n = get-from_entries nat_cmp_total (link_entries items) n

pub is_some-links_in : (items : List Item) (n : ℕ) → is_some (map.get (links_in items) n) ≡ has_link n items
is_some-links_in items n = ap is_some (get-links_in items n) ∙ has_link-found n items

no_value : {X : Type 0} (o : Option X) → is_some o ≡ false → o ≡ None
no_value None h = refl
no_value (Some x) h = absurd cc

-- an item that is no link
pub links_in-other : (items : List Item) (i : Item) → link_in i ≡ None → links_in (items ++ i ∷ []) ≡ links_in items
links_in-other items i none =
    ap map.from_entries
    (filter_map-append link_in items (i ∷ []) ∙ ap (λ (es : Entries). link_entries items ++ es) (nothing (link_in i) none) ∙ append-nil (link_entries items)) where
      nothing : (o : Option (ℕ × LinkState)) → o ≡ None → filter_map (λ (u : Item). o) (i ∷ []) ≡ []
      nothing None e = refl
      nothing (Some x) e = absurd cc

-- a link with a new number
pub links_in-link : (items : List Item) (n chunk : ℕ) (fails : List (ℕ × LinkFault)) (bytes : List ℕ) →
    has_link n items ≡ false →
    links_in (items ++ item.Link n chunk fails bytes ∷ []) ≡ map.insert (links_in items) n (new_link chunk fails bytes)
links_in-link items n chunk fails bytes new =
    ap map.from_entries (filter_map-append link_in items (item.Link n chunk fails bytes ∷ []))
    ∙ from_entries_push nat_cmp_total nat_cmp-IsAntisymmetric (link_entries items) n (new_link chunk fails bytes) (no_value (map.find nat_cmp n (link_entries items)) (has_link-found n items ∙ new))

-- ---- the storage

-- one more item changes the storage as it says
pub storage_in-more : (items : List Item) (i : Item) → storage_in (items ++ i ∷ []) ≡ set_up (storage_in items) i
storage_in-more items i = fold-append set_up (unlimited (new_storage 16777216 [])) items (i ∷ [])

-- what is set up of budgets gives nobody a file
unused-more : (storage : StorageState) (i : Item) → IsUnused storage.accounts → IsUnused (set_up storage i).accounts
unused-more storage item.Skip unused = unused
unused-more storage (item.Options mode lo hi host active idle lockout restart) unused = unused
unused-more storage (item.Storage max fails) unused = unused
unused-more storage (item.Dir path) unused = unused
unused-more storage (item.File bytes path) unused = unused
unused-more storage (item.Quota default) unused = refl
unused-more storage (item.Budget bytes user) unused = stays storage.accounts unused where
  stays : (book : Option Book) → IsUnused book → IsUnused (with_budget book user bytes)
  stays None unused = tt
  stays (Some book) unused = unused
unused-more storage (item.Link n chunk fails bytes) unused = unused
unused-more storage (item.Event e) unused = unused

unused-all : (storage : StorageState) (items : List Item) → IsUnused storage.accounts → IsUnused (fold set_up storage items).accounts
unused-all storage [] unused = unused
unused-all storage (i ∷ items) unused = unused-all (set_up storage i) items (unused-more storage i unused)

-- nobody owns a file of the storage that items set up
pub storage_in-unused : (items : List Item) → IsUnused (storage_in items).accounts
storage_in-unused items = unused-all (unlimited (new_storage 16777216 [])) items tt
