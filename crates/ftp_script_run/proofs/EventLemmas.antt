-- A run, and one more event.
use Rattle.std.proofs.Common.{◌≡◌, ◌⊎◌, inl, inr, ℕ, ◌+◌, length, Bool, true, false, ◌||◌, List, [], ◌∷◌, ◌++◌, Option, Some, None, refl, sym, ap, subst, ◌∙◌, arith}
use Rattle.std.specs.Prelude.{IsTrue}
use Rattle.std.specs.Option.{option_map_or}
use Rattle.std.proofs.lemmas.List.{length-append}
use Rattle.std.proofs.lemmas.List.Folds.{list_any-append}
use Rattle.ftp_base.specs.Memory.{LinkState}
use Rattle.ftp_options.specs.declared.options.Options.{Options}
use Rattle.ftp_events.specs.declared.entry.Entry.{Entry}
use Rattle.ftp_events.specs.declared.event.HubEvent.{HubEvent}
use Rattle.ftp_events.specs.Covers.{is_covered, link_number}
use Rattle.ftp_events.specs.Leads.{Outside, HasLinks, LeadsOne, Leads}
use Rattle.ftp_events.specs.Log.{past_of}
use Rattle.ftp_hub.specs.Runs.{has_link_of, is_linked, job_due}
use Rattle.ftp_hub.specs.Stands.{Stands, count_of, options_of}
use Rattle.ftp_hub.proofs.Links.{has_link_of-due, has_links-under, links-more}
use Rattle.ftp_text.specs.declared.setup.Item.{Item}
use Rattle.ftp_text.specs.declared.setup.Item.TheVariants as item
use Rattle.ftp_script_run.specs.Script.{has_link, may_stand}
use Rattle.ftp_script_run.specs.SetUp.{StorageState, has_event, is_event}
use Rattle.ftp_script_run.specs.declared.run.Run.{Run}
use Rattle.ftp_script_run.specs.Items.{events_in}
use Rattle.ftp_script_run.specs.Legal.{memory_views, start_of}
use Rattle.ftp_script_run.specs.Runs.{Before, MayPrecede, AreOptions, outside, Keeps, MayCome, MayGoOn, MayTake}
use Rattle.ftp_script_run.proofs.ItemLemmas.{events_in-append, options_in-other}
use Rattle.ftp_script_run.proofs.LegalLemmas.{events-more}
use Rattle.ftp_script_run.proofs.RunLemmas.{link-either, no_links, options-stay, start-more}

-- what is covered by fewer links is covered by more
covered-more : (p q : ℕ → Bool) (number : Option ℕ) → ((n : ℕ) → p n ≡ true → q n ≡ true) → option_map_or p number true ≡ true → option_map_or q number true ≡ true
covered-more p q None more h = refl
covered-more p q (Some n) more h = more n h

covered-in : (before : Before) (run : Run) (items : List Item) (log : List Entry) (event : HubEvent) → Keeps before run items log → may_stand items (item.Event event) ≡ true → is_covered (is_linked run.links) event.kind ≡ true
covered-in before run items log event kept stands = covered-more (λ n. has_link n items) (is_linked run.links) (link_number event.kind) kept.links stands

-- the connection that comes with an event is in the table
pub covered : (run : Run) (event : HubEvent) → MayTake run (item.Event event) → IsTrue (is_covered (is_linked run.links) event.kind)
covered run event may = covered-in may.1.0 run may.1.1 may.1.2 event may.1.3 may.1.4.stands

-- at an event slots and jobs have their links
linked-at-event : (before : Before) (run : Run) (items : List Item) (log front : List Entry) (event : HubEvent) (k : Keeps before run items log) → MayGoOn before run (item.Event event) →
    MayPrecede before front → HasLinks (options_of run.hub) (past_of (log ++ front)) run.links
linked-at-event None run items log front event kept goes_on is = by log (kept.hub front is).has_links where
  by : (entries : List Entry) → (entries ≡ []) ⊎ HasLinks (options_of run.hub) (past_of (entries ++ front)) run.links → HasLinks (options_of run.hub) (past_of (entries ++ front)) run.links
  by entries (inr has) = has
  by entries (inl none) =
      subst (λ (es : List Entry). HasLinks (options_of run.hub) (past_of (es ++ front)) run.links) (sym none)
      (subst (λ (f : List Entry). HasLinks (options_of run.hub) (past_of f) run.links) (sym is) (no_links (options_of run.hub) run.links))
linked-at-event (Some b) run items log front event kept goes_on is = by log (kept.hub front is).has_links where
  by : (entries : List Entry) → (entries ≡ []) ⊎ HasLinks (options_of run.hub) (past_of (entries ++ front)) run.links → HasLinks (options_of run.hub) (past_of (entries ++ front)) run.links
  by entries (inr has) = has
  by entries (inl none) =
      subst (λ (es : List Entry). HasLinks (options_of run.hub) (past_of (es ++ front)) run.links) (sym none)
      (subst (λ (o : Options). HasLinks o (past_of front) run.links) (sym kept.options) (goes_on front is))

pub keeps-event : (before : Before) (old new : Run) (items : List Item) (log : List Entry) (event : HubEvent) (e : Entry) →
    options_of new.hub ≡ options_of old.hub →
    e.event ≡ event →
    ((log : List Entry) → Stands old.hub log → Stands new.hub (e ∷ log)) →
    ((log : List Entry) → Stands old.hub log →
    has_link_of old.links (job_due (options_of old.hub) (past_of log) event.kind) ≡ true →
    LeadsOne memory_views (options_of old.hub) (past_of log) e (outside old) (outside new)) →
    ((n : ℕ) → is_linked old.links n ≡ true → is_linked new.links n ≡ true) →
    count_of new.hub ≡ count_of old.hub + 1 →
    MayCome before old items (item.Event event) →
    Keeps before old items log →
    Keeps before new (items ++ item.Event event ∷ []) (e ∷ log)
keeps-event before old new items log event e same of_event stands leads linked count may kept =
    record {
      events = events-more items log event e of_event kept.events;
      options =
          subst (AreOptions before more) (sym same)
          (options-stay before items more (options_of old.hub) (options_in-other items (item.Event event) refl) kept.options);
      count =
          (let more_events : length (events_in more) ≡ length (events_in items) + 1 = ap length (events_in-append items (item.Event event ∷ [])) ∙ length-append (events_in items) (event ∷ []) in
          omega (arith, count, kept.count, more_events));
      start = λ quiet. absurd (event-said quiet);
      links = λ n has. by n (link-either n items (item.Event event ∷ []) has);
      hub = λ front is.
          (let h = kept.hub front is in
          let has = linked-at-event before old items log front event kept may.goes_on is in
          record {
            stands = stands (log ++ front) h.stands;
            has_links = inr (
                links-more (options_of new.hub) e (log ++ front) old.links new.links (stands (log ++ front) h.stands).right
                (has_links-under _ _ (past_of (log ++ front)) old.links (sym same) has)
                (subst (λ (x : HubEvent). is_covered (is_linked old.links) x.kind ≡ true) (sym of_event) (covered-in before old items log event kept may.stands))
                linked);
            led =
                subst (λ (o : Options). Leads memory_views o front (e ∷ log) (start_of more) (outside new)) (sym same)
                (subst (λ (start : Outside StorageState LinkState). Leads memory_views (options_of old.hub) front (e ∷ log) start (outside new))
                (sym (start-more items (item.Event event) refl)) (
                  outside old,
                  h.led,
                  leads (log ++ front) h.stands (has_link_of-due (options_of old.hub) (past_of (log ++ front)) event.kind old.links has),
                ));
          });
    } where
      more : List Item
      more = items ++ item.Event event ∷ []

      event-said : has_event more ≡ false → ⊥
      event-said quiet =
          let parts : (has_event items || true) ≡ false = sym (list_any-append is_event items (item.Event event ∷ [])) ∙ quiet in
          or-true (has_event items) parts where
            or-true : (b : Bool) → (b || true) ≡ false → ⊥
            or-true true e = cc
            or-true false e = cc

      by : (n : ℕ) → (has_link n items ≡ true) ⊎ (has_link n (item.Event event ∷ []) ≡ true) → is_linked new.links n ≡ true
      by n (inl has) = linked n (kept.links n has)
      by n (inr has) = absurd cc
