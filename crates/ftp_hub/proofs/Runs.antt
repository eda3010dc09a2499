-- One more event of a run, and the headline of a whole run.
use Rattle.std.proofs.Common.{◌≡◌, refl, sym, ap, ◌∙◌, subst, ℕ, ◌+◌, ◌<◌, ◌≤◌, append-nil, take_all, List, [], ◌∷◌, ◌++◌, map, reverse, take, get_or, length, append_assoc}
use Rattle.std.proofs.lemmas.List.{reverse-append, take_more, map-append}
use Rattle.ftp_hub.proofs.Common.{Entry, Hub, HubEvent, IsActed, IsRight, Options, Stands, options_of, past_of}
use Rattle.ftp_events.specs.Leads.{Views, Outside, LeadsOne, Leads}
use Rattle.ftp_events.specs.Headline.{IsServed, AllServed}
use Rattle.ftp_laws.proofs.HeadlineLemmas.{all-served}
use Rattle.ftp_hub.specs.Headline.{IsFresh, Headline}
use Rattle.ftp_hub.specs.Runs.{GoesOn, LeadsOn}

-- an entry of the event after the log goes on by it
pub goes-on-one : (old new : List Entry) (e : Entry) (event : HubEvent) → new ≡ e ∷ old → e.event ≡ event → GoesOn old new (event ∷ [])
goes-on-one old new e event is given = record { newer = e ∷ []; log_is = is; in_order = ap (λ x. x ∷ []) given }

-- it goes on by the events so far, and then by the next
pub goes-on-more :
    (first old new : List Entry) (events : List HubEvent) (i : ℕ) (item : HubEvent) →
    GoesOn first old (take i events) → GoesOn old new (item ∷ []) → i < length events → item ≡ get_or events i item →
    GoesOn first new (take (i + 1) events)
goes-on-more first old new events i item before next within read =
    record {
      newer = next.newer ++ before.newer;
      log_is = next.log_is ∙ ap (λ log. next.newer ++ log) before.log_is ∙ sym (append_assoc next.newer before.newer first);
      in_order =
          ap (map (λ (e : Entry). e.event)) (reverse-append next.newer before.newer)
          ∙ map-append (λ (e : Entry). e.event) (reverse before.newer) (reverse next.newer)
          ∙ ap (λ es. es ++ map (λ (e : Entry). e.event) (reverse next.newer)) before.in_order
          ∙ ap (λ es. take i events ++ es) (next.in_order ∙ ap (λ x. x ∷ []) read)
          ∙ sym (take_more events i item within);
    }

-- every entry of a log that is served is served
served-at : (o : Options) (log after before : List Entry) (e : Entry) → AllServed o log → log ≡ after ++ e ∷ before → IsServed o (past_of before) e
served-at o log after before e all is = go after (subst (AllServed o) is all)
  where
    go : (after : List Entry) → AllServed o (after ++ e ∷ before) → IsServed o (past_of before) e
    go [] all = all.1
    go (x ∷ after) all = go after all.0

-- the log of a whole run on a fresh hub is as the headline says
pub headline-fresh :
    (old new : Hub) (events : List HubEvent) (done : ℕ) (before log : List Entry) →
    IsFresh old → before ≡ [] → options_of new ≡ options_of old → (Stands old before → Stands new log) →
    GoesOn before log (take done events) → length events ≤ done → Headline (options_of old) events log
headline-fresh old new events done before log fresh empty same stands goes all =
    let o = options_of old in
    let stood : Stands new log = stands (subst (Stands old) (sym empty) fresh.unused) in
    let right = subst (λ (o : Options). IsRight o log) same stood.right in
    let acted = subst (λ (o : Options). IsActed o log) same stood.acted in
    let served = all-served o log fresh.shares right acted in
    record {
      exactly_the_events =
          ap (λ es. map (λ (e : Entry). e.event) (reverse es)) (goes.log_is ∙ ap (λ es. goes.newer ++ es) empty ∙ append-nil goes.newer)
          ∙ goes.in_order
          ∙ take_all done events all;
      every_connection = λ after before e t is to unbarred. (served-at o log after before e served is).connections t to unbarred;
      every_refusal = λ after before e is barred. (served-at o log after before e served is).refusals barred;
      every_stop = λ after before e is stopped comes unbarred. (served-at o log after before e served is).after_stop stopped comes unbarred;
      every_grant = λ after before e s word lookup bound v is kind known admitted. (served-at o log after before e served is).grants s word lookup bound v kind known admitted;
    }

-- what newer entries did, and those after them, all together did
leads-append : {S L : Type 0} (v : Views S L) (o : Options) (log first second : List Entry) (a b c : Outside S L) → Leads v o log first a b → Leads v o (first ++ log) second b c → Leads v o log (second ++ first) a c
leads-append v o log first [] a b c led more = subst (Leads v o log first a) (sym more) led
leads-append {S} {L} v o log first (e ∷ second) a b c led more =
    let x : (between : Outside S L) × Leads v o (first ++ log) second b between × LeadsOne v o (past_of (second ++ (first ++ log))) e between c = more in
    (x.0, leads-append v o log first second a b x.0 led x.1, subst (λ (l : List Entry). LeadsOne v o (past_of l) e x.0 c) (sym (append_assoc second first log)) x.2)

-- a log leads on by one entry
pub leads-one : {S L : Type 0} (v : Views S L) (o : Options) (old new : List Entry) (e : Entry) (a b : Outside S L) → new ≡ e ∷ old → LeadsOne v o (past_of old) e a b → LeadsOn v o old new a b
leads-one v o old new e a b is one = record { newer = e ∷ []; log_is = is; led = (a, refl, one) }

-- or by some and then by others
pub leads-on : {S L : Type 0} (v : Views S L) (o : Options) (old mid new : List Entry) (a b c : Outside S L) → LeadsOn v o old mid a b → LeadsOn v o mid new b c → LeadsOn v o old new a c
leads-on v o old mid new a b c first second =
    record {
      newer = second.newer ++ first.newer;
      log_is = second.log_is ∙ ap (λ log. second.newer ++ log) first.log_is ∙ sym (append_assoc second.newer first.newer old);
      led = leads-append v o old first.newer second.newer a b c first.led (subst (λ (log : List Entry). Leads v o log second.newer b c) first.log_is second.led);
    }

-- what an entry did to storage and links by options, it did by equal ones
pub leads-one-under :
    {S L : Type 0} (v : Views S L) (old new : Options) (past : List Entry) (e : Entry) (before after : Outside S L) →
    old ≡ new → LeadsOne v old past e before after → LeadsOne v new past e before after
leads-one-under v old new past e before after same led = subst (λ (o : Options). LeadsOne v o past e before after) same led

-- under the same options
pub leads-under : {S L : Type 0} (v : Views S L) (o same : Options) (old new : List Entry) (a b : Outside S L) → o ≡ same → LeadsOn v o old new a b → LeadsOn v same old new a b
leads-under v o same old new a b e led = subst (λ (x : Options). LeadsOn v x old new a b) e led
