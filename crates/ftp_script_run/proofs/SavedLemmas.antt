-- A script that goes on from the text of a state.
use Rattle.std.proofs.Common.{◌≡◌, ℕ, List, [], ◌∷◌, ◌++◌, map as each, reverse, Option, sym, ap, subst, ◌∙◌, append-nil}
use Rattle.std.specs.Prelude.{option_to_list}
use Rattle.std.proofs.lemmas.List.{map-append, reverse-append}
use Rattle.ftp_base.specs.LinkTable.{Numbered}
use Rattle.ftp_base.specs.Memory.{LinkState}
use Rattle.ftp_options.specs.declared.options.Options.{Options}
use Rattle.ftp_options.specs.Builder.{settings_of}
use Rattle.ftp_events.specs.declared.entry.Entry.{Entry}
use Rattle.ftp_events.specs.Leads.{Leads, LeadsOne, Outside, Views}
use Rattle.ftp_events.specs.Log.{past_of}
use Rattle.ftp_events.specs.Right.{IsActed, IsRight}
use Rattle.ftp_hub.specs.declared.state.HubState.{HubState}
use Rattle.ftp_hub.proofs.Lawful.{logs-pass}
use Rattle.ftp_text.proofs.SettingsLemmas.{options-once}
use Rattle.ftp_text.specs.Grammar.{no_state, with_lines}
use Rattle.ftp_text.specs.Spelling.{state_line}
use Rattle.ftp_text.specs.StateText.{IsSpelledBy, lines_in}
use Rattle.ftp_text.proofs.GrammarLemmas.{lines-injective}
use Rattle.ftp_text.proofs.TextLemmas.{lines-text}
use Rattle.ftp_text.specs.declared.setup.Item.{Item}
use Rattle.ftp_script_run.specs.SetUp.{StorageState}
use Rattle.ftp_script_run.specs.Items.{options_in}
use Rattle.ftp_script_run.specs.Legal.{IsLegal, memory_views, start_of}
use Rattle.ftp_script_run.specs.Outcome.{IsStateText}
use Rattle.ftp_script_run.specs.Resumed.{HasState, IsDueBehind, Resumes}
use Rattle.ftp_script_run.specs.Saved.{IsOneLog, IsReadAgain}

pub read-again : (o : Options) (log : List Entry) (text : List ℕ) → IsRight o log → IsActed o log → IsStateText o log text → IsReadAgain o log text
read-again o log text right acted t = record {
  state = t.state;
  has = record { right = right; acted = acted; state = t.of_log };
  read = (t.lines, t.has, sym texts);
  only = λ x spelled. same x spelled;
  passes = λ e cause. logs-pass o log t.state e right acted t.of_log t.made cause;
} where
  texts : lines_in text ≡ each state_line t.lines
  texts = ap lines_in t.text_is ∙ lines-text t.lines t.has.fit

  same : (x : HubState) → IsSpelledBy (lines_in text) x → x ≡ t.state
  same x spelled =
      let lines : spelled.0 ≡ t.lines = lines-injective spelled.0 t.lines spelled.1.fit t.has.fit (spelled.2 ∙ texts) in
      sym spelled.1.say ∙ ap (with_lines no_state) lines ∙ t.has.say

pub goes-on : (o : Options) (front : List Entry) (text bytes : List ℕ) (bad : Option ℕ) (r : Resumes bytes bad) →
    IsRight o front →
    IsActed o front →
    IsStateText o front text →
    r.texts ≡ lines_in text →
    options_in (option_to_list r.line) ≡ settings_of o →
    IsDueBehind o front r.log (start_of r.items) (record { storage = r.storage; links = r.links })
goes-on o front text bytes bad r right acted t texts set =
    subst (λ (p : Options). IsDueBehind p front r.log (start_of r.items) (record { storage = r.storage; links = r.links })) options
    (r.legal.due front (subst (λ (p : Options). HasState p front r.state) (sym options) (subst (HasState o front) (sym state) again.has))) where
      again : IsReadAgain o front text
      again = read-again o front text right acted t

      options : r.options ≡ o
      options = options-once r.options o (r.set ∙ set)

      state : r.state ≡ again.state
      state = again.only r.state (subst (λ (ts : List (List ℕ)). IsSpelledBy ts r.state) texts r.spelled)

-- ---- both in a row

leads-row : {S L : Type 0} (v : Views S L) (o : Options) (log newer : List Entry) (old between new : Outside S L) → Leads v o [] log old between → Leads v o log newer between new → Leads v o [] (newer ++ log) old new
leads-row v o log [] old between new first second = subst (λ (x : Outside _ _). Leads v o [] log old x) (sym second) first
leads-row {S} {L} v o log (e ∷ newer) old between new first second =
    let x : (mid : Outside S L) × Leads v o log newer between mid × LeadsOne v o (past_of (newer ++ log)) e mid new = second in (
      x.0,
      leads-row v o log newer old between x.0 first x.1,
      subst (λ (entries : List Entry). LeadsOne v o (past_of entries) e x.0 new) (sym (append-nil (newer ++ log))) x.2,
    )

pub one-log : (items : List Item) (log : List Entry) (links : Numbered LinkState) (storage : StorageState) (l : IsLegal items log links storage) (text bytes : List ℕ) (bad : Option ℕ) (r : Resumes bytes bad) →
    IsStateText l.due.options log text →
    r.texts ≡ lines_in text →
    options_in (option_to_list r.line) ≡ options_in items →
    start_of r.items ≡ record { storage = storage; links = links } →
    IsOneLog items r.items log r.log r.links r.storage
one-log items log links storage l text bytes bad r t texts set left = record {
  events =
      ap (each (λ (e : Entry). e.event)) (reverse-append r.log log)
      ∙ map-append (λ (e : Entry). e.event) (reverse log) (reverse r.log)
      ∙ (λ i. l.events i ++ r.legal.events i);
  due = record {
    options = l.due.options;
    set = l.due.set;
    right = due.right;
    acted = due.acted;
    led =
        leads-row memory_views l.due.options log r.log (start_of items) (record { storage = storage; links = links }) (record { storage = r.storage; links = r.links }) l.due.led
        (subst (λ (x : Outside StorageState LinkState). Leads memory_views l.due.options log r.log x (record { storage = r.storage; links = r.links })) left due.led);
  };
} where
  due : IsDueBehind l.due.options log r.log (start_of r.items) (record { storage = r.storage; links = r.links })
  due = goes-on l.due.options log text bytes bad r l.due.right l.due.acted t texts (set ∙ sym l.due.set)
