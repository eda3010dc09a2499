-- A run, and one more item.
use Rattle.std.specs.List.{list_any}
use Rattle.std.proofs.Common.{◌≡◌, ◌⊎◌, inl, inr, ℕ, ◌+◌, length, Bool, true, false, ◌||◌, List, [], ◌∷◌, ◌++◌, Option, Some, None, is_some, nat_eq, refl, sym, ap, subst, ◌∙◌, ◌≤◌, arith}
use Rattle.std.specs.FinMap as map
use Rattle.std.proofs.lemmas.List.{append-nil}
use Rattle.std.proofs.lemmas.List.Folds.{list_any-append}
use Rattle.std.proofs.lemmas.Bool.{eqb-true, not-true}
use Rattle.ftp_base.proofs.LinkTableLemmas.{get-insert-same}
use Rattle.ftp_base.specs.declared.fault.LinkFault.{LinkFault}
use Rattle.ftp_base.specs.LinkTable.{Numbered}
use Rattle.ftp_base.specs.Memory.{LinkState, link_fault_limit}
use Rattle.ftp_options.specs.declared.options.Options.{Options}
use Rattle.ftp_options.specs.declared.host.PassiveHost.{PassiveHost}
use Rattle.ftp_options.specs.declared.lockout.FailedLoginsPolicy.{FailedLoginsPolicy}
use Rattle.ftp_options.specs.declared.options.ActivePassiveMode.{ActivePassiveMode}
use Rattle.ftp_options.specs.declared.options.ListenerMode.{ListenerMode}
use Rattle.ftp_options.specs.Builder.{defaults, settings_of}
use Rattle.ftp_events.specs.declared.entry.Entry.{Entry}
use Rattle.ftp_events.specs.declared.event.HubEvent.{HubEvent}
use Rattle.ftp_events.specs.Right.{IsActed, IsRight}
use Rattle.ftp_events.specs.Leads.{Outside, HasLinks, Leads}
use Rattle.ftp_events.specs.Log.{past_of}
use Rattle.ftp_hub.specs.declared.hub.Hub.{Hub}
use Rattle.ftp_hub.specs.Runs.{is_linked}
use Rattle.ftp_hub.specs.Stands.{Stands, count_of, options_of}
use Rattle.ftp_hub.proofs.Links.{insert-linked}
use Rattle.ftp_text.specs.declared.setup.Item.{Item}
use Rattle.ftp_text.specs.declared.setup.Item.TheVariants as item
use Rattle.ftp_hub.specs.declared.state.HubState.{HubState}
use Rattle.ftp_script_run.specs.Script.{is_link, says, has_link, may_stand}
use Rattle.ftp_script_run.specs.SetUp.{StorageState, has_event, is_event, set_up, storage_in}
use Rattle.ftp_script_run.specs.declared.run.Run.{Run}
use Rattle.ftp_script_run.specs.Items.{events_in, options_in, new_link, link_in, links_in}
use Rattle.ftp_script_run.specs.Legal.{memory_views, start_of, FailsAsListed, IsLegal}
use Rattle.ftp_script_run.specs.Resumed.{HasState, IsLegalBehind}
use Rattle.ftp_script_run.specs.Runs.{Before, AreOptions, events_before, outside, HasRun, Keeps, MayGoOn}
use Rattle.ftp_script_run.proofs.ItemLemmas.{events_in-append, options_in-other, IsUnsaid, unsaid, is_some-links_in, links_in-other, links_in-link, storage_in-more}
use Rattle.ftp_script_run.proofs.LegalLemmas.{events-other, no-entry, no_events}
use Rattle.ftp_script_run.proofs.LeadsLemmas.{with_link, leads-framed, LimitsFall, leads-limits}

-- ---- what is kept

-- without an entry no connection is asked for
pub no_links : (o : Options) (links : Numbered LinkState) → HasLinks o (past_of []) links
no_links o links = record { slots = λ s n x. cc; jobs = λ s job x. cc }

-- the hub of a script that begins anew
pub anew : (run : Run) (items : List Item) (log : List Entry) → Keeps None run items log → HasRun run.hub [] items log (outside run)
anew run items log kept = kept.hub [] refl

-- it stands for the log
pub stands-anew : (run : Run) (items : List Item) (log : List Entry) → Keeps None run items log → Stands run.hub log
stands-anew run items log kept = subst (Stands run.hub) (append-nil log) (anew run items log kept).stands

pub kept-storage : (before : Before) (run : Run) (items : List Item) (log : List Entry) → Keeps before run items log → has_event items ≡ false → run.storage ≡ storage_in items
kept-storage before run items log kept none = ap (λ (x : Outside StorageState LinkState). x.storage) (kept.start none)

-- until an event comes the links are those of the items
pub kept-numbers : (before : Before) (run : Run) (items : List Item) (log : List Entry) (n : ℕ) → Keeps before run items log → has_event items ≡ false → is_linked run.links n ≡ has_link n items
kept-numbers before run items log n kept none = ap (λ (x : Outside StorageState LinkState). is_linked x.links n) (kept.start none) ∙ is_some-links_in items n

-- no more calls failed than the items list
pub kept-listed : (hub : Hub) (front : List Entry) (items : List Item) (log : List Entry) (now : Outside StorageState LinkState) → HasRun hub front items log now → FailsAsListed (start_of items) now
kept-listed hub front items log now h = record {
  storage = omega (arith, falls.storage);
  links = λ n before after was there.
      (let found = falls.links n after there in
      let same : found.0 ≡ before = cc in
      let limit = subst (λ (x : LinkState). link_fault_limit after.calls ≤ link_fault_limit x.calls) same found.2.limit in
      omega (arith, limit));
} where
  falls : LimitsFall memory_views (start_of items) now
  falls = leads-limits memory_views (options_of hub) front log (start_of items) now h.led

abbrev pub kept-legal : (run : Run) (items : List Item) (log : List Entry) → Keeps None run items log → IsLegal items log run.links run.storage
kept-legal run items log kept = record {
  events = kept.events;
  due = record {
    options = options_of run.hub;
    set = kept.options;
    right = (stands-anew run items log kept).right;
    acted = (stands-anew run items log kept).acted;
    led = (anew run items log kept).led;
  };
  listed = kept-listed run.hub [] items log (outside run) (anew run items log kept);
}

-- behind every log that may have come before
pub legal-behind : (o : Options) (x : HubState) (run : Run) (items : List Item) (log : List Entry) → Keeps (Some (o, x)) run items log → IsLegalBehind o x items log run.links run.storage
legal-behind o x run items log kept = record {
  events = kept.events;
  due = λ front has.
      (let h = kept.hub front has in
      record {
        right = subst (λ (p : Options). IsRight p (log ++ front)) kept.options h.stands.right;
        acted = subst (λ (p : Options). IsActed p (log ++ front)) kept.options h.stands.acted;
        led = subst (λ (p : Options). Leads memory_views p front log (start_of items) (outside run)) kept.options h.led;
        listed = kept-listed run.hub front items log (outside run) h;
      });
}

-- the text that is written next is not asked for
pub keeps-text : (before : Before) (old new : Run) (items : List Item) (log : List Entry) → new.hub ≡ old.hub → outside new ≡ outside old → Keeps before old items log → Keeps before new items log
keeps-text before old new items log hub same kept = record {
  events = kept.events;
  options = subst (λ (h : Hub). AreOptions before items (options_of h)) (sym hub) kept.options;
  count = ap count_of hub ∙ kept.count;
  start = λ none. same ∙ kept.start none;
  links = λ n has. subst (λ (x : Outside StorageState LinkState). is_linked x.links n ≡ true) (sym same) (kept.links n has);
  hub = λ front may. subst (λ (h : Hub). HasRun h front items log (outside new)) (sym hub) (subst (HasRun old.hub front items log) (sym same) (kept.hub front may));
}

-- ---- one more item that is no event

either : (a b : Bool) → (a || b) ≡ true → (a ≡ true) ⊎ (b ≡ true)
either true b e = inl refl
either false b e = inr e

neither : (a b : Bool) → (a || b) ≡ false → a ≡ false
neither true b e = absurd cc
neither false b e = refl

-- where no event is among more items, none is among the first
none-before : (items more : List Item) → has_event (items ++ more) ≡ false → has_event items ≡ false
none-before items more none = neither (has_event items) (has_event more) (sym (list_any-append is_event items more) ∙ none)

-- a link of more items is one of the first, or of the others
pub link-either : (n : ℕ) (items more : List Item) → has_link n (items ++ more) ≡ true → (has_link n items ≡ true) ⊎ (has_link n more ≡ true)
link-either n items more has = either (has_link n items) (has_link n more) (sym (list_any-append (is_link n) items more) ∙ has)

-- the options stay where no others are set
pub options-stay : (before : Before) (items more : List Item) (o : Options) → options_in more ≡ options_in items → AreOptions before items o → AreOptions before more o
options-stay None items more o same are = are ∙ sym same
options-stay (Some b) items more o same are = are

-- what one more item, no event, changes at the start is changed now
record Moves (items more : List Item) (log : List Entry) (old new : Outside StorageState LinkState) : Type 0 where
  linked : (n : ℕ) → is_linked old.links n ≡ true → is_linked new.links n ≡ true
  led : (o : Options) (front : List Entry) → Leads memory_views o front log (start_of items) old → Leads memory_views o front log (start_of more) new

linked-still : (o : Options) (log : List Entry) (past : List Entry) (old new : Numbered LinkState) → ((n : ℕ) → is_linked old n ≡ true → is_linked new n ≡ true) →
    (log ≡ []) ⊎ HasLinks o past old → (log ≡ []) ⊎ HasLinks o past new
linked-still o log past old new more (inl none) = inl none
linked-still o log past old new more (inr has) = inr (record {
  slots = λ s n x. more n (has.slots s n x);
  jobs = λ s r x. more r.job.number (has.jobs s r x);
})

hub-moves : (hub : Hub) (front : List Entry) (items more : List Item) (log : List Entry) (old new : Outside StorageState LinkState) →
    Moves items more log old new →
    HasRun hub front items log old →
    HasRun hub front more log new
hub-moves hub front items more log old new moves h = record {
  stands = h.stands;
  has_links = linked-still (options_of hub) log (past_of (log ++ front)) old.links new.links moves.linked h.has_links;
  led = moves.led (options_of hub) front h.led;
}

-- an item that is no event and sets no options
keeps-other : (before : Before) (old new : Run) (items : List Item) (log : List Entry) (i : Item) →
    events_in (i ∷ []) ≡ [] →
    options_in (i ∷ []) ≡ defaults →
    new.hub ≡ old.hub →
    (outside old ≡ start_of items → outside new ≡ start_of (items ++ i ∷ [])) →
    ((n : ℕ) → has_link n (i ∷ []) ≡ true → is_linked new.links n ≡ true) →
    Moves items (items ++ i ∷ []) log (outside old) (outside new) →
    Keeps before old items log →
    Keeps before new (items ++ i ∷ []) log
keeps-other before old new items log i no_event none hub start link moves kept = record {
  events = events-other items log i no_event kept.events;
  options =
      subst (λ (h : Hub). AreOptions before more (options_of h)) (sym hub)
      (options-stay before items more (options_of old.hub) (options_in-other items i none) kept.options);
  count = ap count_of hub ∙ kept.count ∙ ap (λ (es : List HubEvent). events_before before + length es) (sym (events_in-append items (i ∷ []) ∙ ap (λ (es : List HubEvent). events_in items ++ es) no_event ∙ append-nil (events_in items)));
  start = λ quiet. start (kept.start (none-before items (i ∷ []) quiet));
  links = λ n has. by n (link-either n items (i ∷ []) has);
  hub = λ front may.
      subst (λ (h : Hub). HasRun h front more log (outside new)) (sym hub)
      (hub-moves old.hub front items more log (outside old) (outside new) moves (kept.hub front may));
} where
  more : List Item
  more = items ++ i ∷ []

  by : (n : ℕ) → (has_link n items ≡ true) ⊎ (has_link n (i ∷ []) ≡ true) → is_linked new.links n ≡ true
  by n (inl has) = moves.linked n (kept.links n has)
  by n (inr has) = link n has

-- what an item that is no link sets up
pub start-more : (items : List Item) (i : Item) → link_in i ≡ None → start_of (items ++ i ∷ []) ≡ record { storage = set_up (storage_in items) i; links = links_in items }
start-more items i no_link = λ k. record { storage = storage_in-more items i k; links = links_in-other items i no_link k }

-- where nothing more is set up, nothing changes
stays : (items more : List Item) (log : List Entry) (now : Outside StorageState LinkState) → start_of more ≡ start_of items → Moves items more log now now
stays items more log now same = record {
  linked = λ n has. has;
  led = λ o front led. subst (λ (start : Outside StorageState LinkState). Leads memory_views o front log start now) (sym same) led;
}

pub keeps-skip : (before : Before) (run : Run) (items : List Item) (log : List Entry) → Keeps before run items log → Keeps before run (items ++ item.Skip ∷ []) log
keeps-skip before run items log kept =
    let same = start-more items item.Skip refl in
    keeps-other before run run items log item.Skip refl refl refl (λ was. was ∙ sym same) (λ n has. absurd cc) (stays items (items ++ item.Skip ∷ []) log (outside run) same) kept

-- an item that sets up the storage, before all events
pub keeps-stored : (before : Before) (old new : Run) (items : List Item) (log : List Entry) (i : Item) →
    events_in (i ∷ []) ≡ [] →
    options_in (i ∷ []) ≡ defaults →
    link_in i ≡ None →
    ((n : ℕ) → has_link n (i ∷ []) ≡ false) →
    has_event items ≡ false →
    new.hub ≡ old.hub →
    new.links ≡ old.links →
    new.storage ≡ set_up old.storage i →
    Keeps before old items log →
    Keeps before new (items ++ i ∷ []) log
keeps-stored before old new items log i no_event none no_link no_number first hub links storage kept =
    keeps-other before old new items log i no_event none hub now
    (λ n has. let never = no_number n in absurd cc)
    (record {
      linked = λ n has. subst (λ (l : Numbered LinkState). is_linked l n ≡ true) (sym links) has;
      led = λ o front led. subst (λ (entries : List Entry). Leads memory_views o front entries (start_of (items ++ i ∷ [])) (outside new)) (sym empty) (now (kept.start first));
    })
    kept where
      empty : log ≡ []
      empty = no-entry items log kept.events first

      now : outside old ≡ start_of items → outside new ≡ start_of (items ++ i ∷ [])
      now was =
          (λ k. record { storage = storage k; links = links k })
          ∙ ap (λ (x : Outside StorageState LinkState). record { storage = set_up x.storage i; links = x.links }) was
          ∙ sym (start-more items i no_link)

-- a link that was put has its number
linked-at : (n m : ℕ) (links : Numbered LinkState) (link : LinkState) → (nat_eq n m || false) ≡ true → is_linked (map.insert links m link) n ≡ true
linked-at n m links link has = put-found n m links link (eqb-true n m (or-false (nat_eq n m) has)) where
  or-false : (b : Bool) → (b || false) ≡ true → b ≡ true
  or-false true e = refl
  or-false false e = absurd cc

  put-found : (n m : ℕ) (links : Numbered LinkState) (link : LinkState) → n ≡ m → is_linked (map.insert links m link) n ≡ true
  put-found n m links link same = ap (λ (q : ℕ). is_linked (map.insert links m link) q) same ∙ ap is_some (get-insert-same links m link)

pub keeps-link : (before : Before) (old new : Run) (items : List Item) (log : List Entry) (n chunk : ℕ) (fails : List (ℕ × LinkFault)) (bytes : List ℕ) →
    new.hub ≡ old.hub →
    new.links ≡ map.insert old.links n (new_link chunk fails bytes) →
    new.storage ≡ old.storage →
    may_stand items (item.Link n chunk fails bytes) ≡ true →
    Keeps before old items log →
    Keeps before new (items ++ item.Link n chunk fails bytes ∷ []) log
keeps-link before old new items log n chunk fails bytes hub put storage stands kept =
    keeps-other before old new items log (item.Link n chunk fails bytes) refl refl hub
    (λ was. now ∙ ap framed was ∙ sym start)
    (λ q has. subst (λ (l : Numbered LinkState). is_linked l q ≡ true) (sym put) (linked-at q n old.links link has))
    (record {
      linked = λ q has. subst (λ (l : Numbered LinkState). is_linked l q ≡ true) (sym put) (insert-linked old.links n q link has);
      led = λ o front led.
          subst (Leads memory_views o front log (start_of more)) (sym now)
          (subst (λ (x : Outside StorageState LinkState). Leads memory_views o front log x (framed (outside old))) (sym start)
          (leads-framed memory_views o front log (start_of items) (outside old) n link (is_some-links_in items n ∙ unused) led));
    })
    kept where
      link : LinkState
      link = new_link chunk fails bytes

      more : List Item
      more = items ++ item.Link n chunk fails bytes ∷ []

      framed : Outside StorageState LinkState → Outside StorageState LinkState
      framed x = with_link x n link

      unused : has_link n items ≡ false
      unused = not-true (has_link n items) stands

      now : outside new ≡ framed (outside old)
      now = λ k. record { storage = storage k; links = put k }

      start : start_of more ≡ framed (start_of items)
      start = λ k. record { storage = storage_in-more items (item.Link n chunk fails bytes) k; links = links_in-link items n chunk fails bytes unused k }

-- the options: the hub is made anew
pub keeps-options : (old new : Run) (items : List Item) (log : List Entry) (i : Item) →
    events_in (i ∷ []) ≡ [] →
    link_in i ≡ None →
    ((n : ℕ) → has_link n (i ∷ []) ≡ false) →
    set_up (storage_in items) i ≡ storage_in items →
    list_any says items ≡ false →
    settings_of (options_of new.hub) ≡ options_in (i ∷ []) →
    Stands new.hub [] →
    count_of new.hub ≡ 0 →
    outside new ≡ outside old →
    Keeps None old items log →
    Keeps None new (items ++ i ∷ []) log
keeps-options old new items log i no_event no_link no_number no_set_up first set stands count same kept =
    record {
      events = events-other items log i no_event kept.events;
      options = set ∙ sym (none.first (i ∷ []));
      count =
          count
          ∙ ap (λ (es : List HubEvent). 0 + length es) (sym (events_in-append items (i ∷ []) ∙ (λ k. no_events items none.no_event k ++ no_event k)));
      start = λ quiet. now;
      links = λ n has. by n (link-either n items (i ∷ []) has);
      hub = λ front is.
          subst (λ (f : List Entry). HasRun new.hub f more log (outside new)) (sym is)
          (subst (λ (entries : List Entry). HasRun new.hub [] more entries (outside new)) (sym empty)
          (record { stands = stands; has_links = inl refl; led = now }));
    } where
      more : List Item
      more = items ++ i ∷ []

      none : IsUnsaid items
      none = unsaid items first

      empty : log ≡ []
      empty = no-entry items log kept.events none.no_event

      start : start_of more ≡ start_of items
      start = start-more items i no_link ∙ (λ k. record { storage = no_set_up k; links = links_in items })

      now : outside new ≡ start_of more
      now = same ∙ kept.start none.no_event ∙ sym start

      by : (n : ℕ) → (has_link n items ≡ true) ⊎ (has_link n (i ∷ []) ≡ true) → is_linked new.links n ≡ true
      by n (inl has) = subst (λ (x : Outside StorageState LinkState). is_linked x.links n ≡ true) (sym same) (kept.links n has)
      by n (inr has) = let never = no_number n in absurd cc

-- where a script goes on no options come
pub keeps-options-at : (before : Before) (old new : Run) (items : List Item) (log : List Entry) (mode : ListenerMode) (lo hi : ℕ) (host : PassiveHost) (active : ActivePassiveMode) (idle : ℕ) (lockout : Option FailedLoginsPolicy) (restart : Bool) →
    (Keeps None old items log → Keeps None new (items ++ item.Options mode lo hi host active idle lockout restart ∷ []) log) →
    MayGoOn before old (item.Options mode lo hi host active idle lockout restart) →
    Keeps before old items log →
    Keeps before new (items ++ item.Options mode lo hi host active idle lockout restart ∷ []) log
keeps-options-at None old new items log mode lo hi host active idle lockout restart keeps goes_on kept = keeps kept
keeps-options-at (Some b) old new items log mode lo hi host active idle lockout restart keeps goes_on kept = absurd goes_on

-- ---- a run to which nothing came

pub keeps-none : (run : Run) → settings_of (options_of run.hub) ≡ defaults → Stands run.hub [] → count_of run.hub ≡ 0 → outside run ≡ start_of [] → Keeps None run [] []
keeps-none run set stands count same = record {
  events = refl;
  options = set;
  count = count;
  start = λ quiet. same;
  links = λ n has. absurd cc;
  hub = λ front is. subst (λ (f : List Entry). HasRun run.hub f [] [] (outside run)) (sym is) (record { stands = stands; has_links = inl refl; led = same });
}

-- a run that begins anew goes on from a state under its options
pub keeps-state : (o : Options) (x : HubState) (old new : Run) →
    options_of new.hub ≡ o →
    ((front : List Entry) → HasState o front x → Stands new.hub front) →
    count_of new.hub ≡ x.events →
    outside new ≡ outside old →
    outside old ≡ start_of [] →
    Keeps (Some (o, x)) new [] []
keeps-state o x old new options stands count same start = record {
  events = refl;
  options = options;
  count = omega (arith, count);
  start = λ none. same ∙ start;
  links = λ n has. absurd cc;
  hub = λ front has. record { stands = stands front has; has_links = inl refl; led = same ∙ start };
}
