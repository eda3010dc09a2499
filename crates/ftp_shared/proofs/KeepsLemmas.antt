-- What is true under the lock stays true over a step.
use Rattle.std.proofs.Common.{◌≡◌, refl, sym, ap, ◌∙◌, subst, ℕ, ◌+◌, ◌≤◌, Bool, true, false, cond, List, [], ◌∷◌, ◌++◌, length, drop, append-nil, append_assoc, Option, Some, None, arith}
use Rattle.std.proofs.lemmas.List.{drop_all}
use Rattle.std.specs.Prelude.{MatchOption}
use Rattle.std.specs.Coded.{Coded-set, coded_bool, coded_option}
use Rattle.std.specs.Option.{option_map_or}
use Rattle.ftp_base.specs.declared.reply.Reply.{Reply}
use Rattle.ftp_options.specs.declared.options.Options.{Options}
use Rattle.ftp_events.specs.declared.action.Action.{Action}
use Rattle.ftp_events.specs.declared.entry.Entry.{Entry}
use Rattle.ftp_options.specs.contracts.options.Options.{the_row as options_row}
use Rattle.ftp_events.specs.contracts.entry.Entry.{the_row as entry_row}
use Rattle.ftp_transfer.specs.contracts.job.Job.{the_row as job_row}
use Rattle.ftp_transfer.specs.declared.job.Job.{Job}
use Rattle.ftp_events.specs.declared.event.Answer.{Answer}
use Rattle.ftp_events.specs.declared.event.HubEvent.{HubEvent}
use Rattle.ftp_events.specs.Right.{IsRight, IsActed, next_entry, replies}
use Rattle.ftp_events.specs.Words.{is_number}
use Rattle.ftp_hub.specs.declared.hub.Hub.{Hub}
use Rattle.ftp_hub.specs.Stands.{Stands, count_of, options_of}
use Rattle.ftp_shared.specs.declared.outbox.Outbox.{Outbox}
use Rattle.ftp_shared.specs.declared.receipt.Turn.{Turn}
use Rattle.ftp_shared.specs.Outbox.{IsRest, newest, outbox_after, outbox_in, replies_in, sorted}
use Rattle.ftp_shared.specs.Keeps.{KeepsLog}
use Rattle.ftp_shared.specs.Next.{NextTurn}

-- nothing is left of a list behind its end
drop-past : (actions : List Action) (n : ℕ) → length actions ≤ n → drop n actions ≡ []
drop-past actions n h = drop_all n actions h

-- no replies
abbrev nothing : List (ℕ × Reply)
nothing = []

-- either way there is nothing
cond-nil : (b : Bool) → cond b nothing nothing ≡ nothing
cond-nil true = refl
cond-nil false = refl

-- where the newest entry is sorted in, an outbox is what was sorted in
pub outbox-sorted : (box : Outbox) (actions : List Action) (s : ℕ) → length actions ≤ box.next → outbox_in box actions s ≡ sorted box s
outbox-sorted box actions s h =
    ap (λ rest. sorted box s ++ cond (is_number box.told s) [] (replies_in rest s)) (drop-past actions box.next h)
    ∙ ap (λ rest. sorted box s ++ rest) (cond-nil (is_number box.told s))
    ∙ append-nil (sorted box s)

-- what a step makes of the outboxes
pub outbox-step :
    (box new : Outbox) (actions : List Action) (e : Entry) (own : Option ℕ) (s : ℕ) →
    length actions ≤ box.next →
    sorted new s ≡ cond (is_number own s) [] (sorted box s) →
    new.next ≡ 0 → new.told ≡ own →
    outbox_in new e.actions s ≡ outbox_after own e (outbox_in box actions) s
outbox-step box new actions e own s all kept next told =
    ap (λ xs. xs ++ cond (is_number new.told s) [] (replies_in (drop new.next e.actions) s)) kept
    ∙ ap (λ t. cond (is_number own s) [] (sorted box s) ++ cond (is_number t s) [] (replies_in (drop new.next e.actions) s)) told
    ∙ ap (λ n. cond (is_number own s) [] (sorted box s) ++ cond (is_number own s) [] (replies_in (drop n e.actions) s)) next
    ∙ go (is_number own s)
    ∙ ap (λ xs. cond (is_number own s) [] (xs ++ replies_in e.actions s)) (sym (outbox-sorted box actions s all))
  where
    go : (b : Bool) → cond b [] (sorted box s) ++ cond b [] (replies_in e.actions s) ≡ cond b [] (sorted box s ++ replies_in e.actions s)
    go true = refl
    go false = refl

-- an outbox is the last of the replies, also after a step
pub rest-step : (old all more : List (ℕ × Reply)) (b : Bool) → IsRest old all → IsRest (cond b [] (old ++ more)) (all ++ more)
rest-step old all more true h = (all ++ more, sym (append-nil (all ++ more)))
rest-step old all more false h = (h.0, ap (λ xs. xs ++ more) h.1 ∙ append_assoc h.0 old more)

-- a step keeps what is true under the lock
pub kept-step :
    (o : Options) (hub new : Hub) (log : List Entry) (actions : List Action) (e : Entry) (box after : Outbox) (own : Option ℕ) →
    KeepsLog o hub log actions box →
    Stands new (e ∷ log) → options_of new ≡ options_of hub → count_of new ≡ count_of hub + 1 →
    length actions ≤ box.next →
    ((s : ℕ) → sorted after s ≡ cond (is_number own s) [] (sorted box s)) →
    after.next ≡ 0 → after.told ≡ own →
    KeepsLog o new (e ∷ log) e.actions after
kept-step o hub new log actions e box after own k stands options count all kept next told =
    record {
      options = options ∙ k.options;
      stands = stands;
      events = omega (arith, count, k.events);
      rests = λ s.
          subst (λ xs. IsRest xs (replies (e ∷ log) s)) (sym (outbox-step box after actions e own s all (kept s) next told))
          (rest-step (outbox_in box actions s) (replies log s) (replies_in e.actions s) (is_number own s) (k.rests s));
    }

-- memory that is taken keeps it too
pub kept-ready :
    {o : Options} {hub new : Hub} {log : List Entry} {actions : List Action} {box after : Outbox} →
    KeepsLog o hub log actions box →
    Stands new log → options_of new ≡ options_of hub → count_of new ≡ count_of hub →
    ((s : ℕ) → outbox_in after actions s ≡ outbox_in box actions s) →
    KeepsLog o new log actions after
kept-ready {log = log} k stands options count same =
    record {
      options = options ∙ k.options;
      stands = stands;
      events = count ∙ k.events;
      rests = λ s. subst (λ xs. IsRest xs (replies log s)) (sym (same s)) (k.rests s);
    }

-- a hub to which nothing has happened keeps it
pub kept-new :
    (o : Options) (hub : Hub) (box : Outbox) →
    Stands hub [] → options_of hub ≡ o → count_of hub ≡ 0 →
    ((s : ℕ) → outbox_in box [] s ≡ []) → KeepsLog o hub [] [] box
kept-new o hub box stands options count none =
    record { options = options; stands = stands; events = count; rests = λ s. ([], sym (none s)) }

-- options are equal in one way at most
pub options-set : (x y : Options) → IsProp (x ≡ y)
options-set x y = Coded-set options_row.coded x y

-- so are two truth values
pub truth-set : (x y : Bool) → IsProp (x ≡ y)
truth-set x y = Coded-set coded_bool x y

-- two entries
pub entry-set : (x y : Entry) → IsProp (x ≡ y)
entry-set x y = Coded-set entry_row.coded x y

-- and so are two jobs
pub job-set : (x y : Option Job) → IsProp (x ≡ y)
job-set x y = Coded-set (coded_option job_row.coded) x y

-- the log for which a hub stands is right under the options
pub right-under : (o : Options) (hub : Hub) (log : List Entry) → options_of hub ≡ o → Stands hub log → IsRight o log
right-under o hub log options st = subst (λ (o : Options). IsRight o log) options st.right

-- and acted
pub acted-under : (o : Options) (hub : Hub) (log : List Entry) → options_of hub ≡ o → Stands hub log → IsActed o log
acted-under o hub log options st = subst (λ (o : Options). IsActed o log) options st.acted

-- the entry that is told is the next one of it
pub told-next :
    (o : Options) (hub : Hub) (log : List Entry) (event : HubEvent) (answer : Answer) (kept told : Entry) →
    options_of hub ≡ o → Stands hub log →
    ((log : List Entry) → Stands hub log → kept ≡ next_entry (options_of hub) log event answer) →
    told ≡ kept →
    told ≡ next_entry o log event answer
told-next o hub log event answer kept told options st due same =
    same ∙ due log st ∙ ap (λ (o : Options). next_entry o log event answer) options

-- so a turn is that of the next entry, and what is handed out before it is the last of the replies
pub turn-next :
    (o : Options) (hub : Hub) (log : List Entry) (actions : List Action) (box : Outbox) (event : HubEvent) (answer : Answer) (kept : Entry) (own : Option ℕ) (turn : Turn) →
    KeepsLog o hub log actions box →
    length actions ≤ box.next →
    ((log : List Entry) → Stands hub log → kept ≡ next_entry (options_of hub) log event answer) →
    turn.submitted.receipt.entry ≡ kept →
    turn.submitted.receipt.place ≡ length log →
    turn.earlier ≡ option_map_or (sorted box) own [] →
    NextTurn o turn own event answer
turn-next o hub log actions box event answer kept own turn k all due same place handed =
    record {
      next = record {
        journal = log;
        right = right-under o hub log k.options k.stands;
        acted = acted-under o hub log k.options k.stands;
        place = place;
        entry = told-next o hub log event answer kept turn.submitted.receipt.entry k.options k.stands due same;
      };
      earlier = rest own handed;
    }
  where
    rest : (own : Option ℕ) → turn.earlier ≡ option_map_or (sorted box) own [] → MatchOption own (turn.earlier ≡ []) (λ s. IsRest turn.earlier (replies log s))
    rest None is = is
    rest (Some s) is = subst (λ xs. IsRest xs (replies log s)) (sym (is ∙ sym (outbox-sorted box actions s all))) (k.rests s)

-- it is the whole outbox
pub turn-whole :
    (own : Option ℕ) (earlier : List (ℕ × Reply)) (box before : Outbox) (actions : List Action) →
    earlier ≡ option_map_or (sorted box) own [] →
    length actions ≤ box.next →
    ((s : ℕ) → outbox_in box actions s ≡ outbox_in before actions s) →
    earlier ≡ option_map_or (outbox_in before actions) own []
turn-whole None earlier box before actions is all same = is
turn-whole (Some s) earlier box before actions is all same = is ∙ sym (outbox-sorted box actions s all) ∙ same s
