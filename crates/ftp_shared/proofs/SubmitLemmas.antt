-- What an append makes of what the desk tells.
use Rattle.std.proofs.Common.{◌≡◌, sym, ◌∙◌, ap, subst, ℕ, List, [], ◌∷◌, Option, Some}
use Rattle.std.proofs.Math.Logic.{∥∥₁_elim, ∥∥₁_map}
use Rattle.std.specs.Coded.{Coded-set, coded×, coded_ℕ, coded_list}
use Rattle.std.specs.Option.{option_map_or}
use Rattle.ftp_base.specs.contracts.reply.Reply.{the_row as reply_row}
use Rattle.ftp_base.specs.declared.reply.Reply.{Reply}
use Rattle.ftp_base.specs.Storage.{Files}
use Rattle.ftp_options.specs.declared.options.Options.{Options}
use Rattle.ftp_events.specs.declared.decision.Decision.{Decision}
use Rattle.ftp_events.specs.declared.decision.Decision.TheVariants.{Opened}
use Rattle.ftp_events.specs.declared.entry.Entry.{Entry}
use Rattle.ftp_events.specs.declared.event.Answer.{Answer}
use Rattle.ftp_events.specs.declared.event.HubEvent.{HubEvent}
use Rattle.ftp_events.specs.Log.{new_number}
use Rattle.ftp_events.specs.Decide.{decide}
use Rattle.ftp_events.specs.Right.{next_entry}
use Rattle.ftp_hub.specs.declared.hub.Hub.{Hub}
use Rattle.ftp_shared.specs.declared.outbox.Outbox.{Outbox}
use Rattle.ftp_shared.specs.Keeps.{Keeps}
use Rattle.ftp_shared.specs.Outbox.{outbox_after, outbox_of, own_session}
use Rattle.ftp_shared.specs.Desk.{Appends, DeskView}
use Rattle.ftp_shared.proofs.TurnLemmas.{own-due}
use Rattle.ftp_shared.proofs.FreshLemmas.{fresh-empty}
use Rattle.ftp_shared.proofs.KeepsLemmas.{acted-under, right-under}

-- lists of replies are equal in one way at most
replies-set : (x y : List (ℕ × Reply)) → IsProp (x ≡ y)
replies-set x y = Coded-set (coded_list (coded× coded_ℕ reply_row.coded)) x y

-- a turn of the locked hub appends to a journal that is told
pub turn-appends :
    (o : Options) (hub : Hub) (J : List Entry) (box : Outbox) (event : HubEvent) (answer : Answer) (e : Entry) (earlier : List (ℕ × Reply)) (files : Option Files) (faults refused : ℕ) (share : Option ℕ) (new : DeskView) →
    ∥ Keeps o hub J box ∥₁ →
    e ≡ next_entry o J event answer →
    new.journal ≡ Some (e ∷ J) →
    earlier ≡ option_map_or (outbox_of box J) (own_session event.kind) [] →
    ((s : ℕ) → new.outbox s ≡ outbox_after (own_session event.kind) e (outbox_of box J) s) →
    Appends J (record { options = o; files = files; faults = faults; refused = refused; journal = Some J; outbox = outbox_of box J; share = share }) new earlier e
turn-appends o hub J box event answer e earlier files faults refused share new kept due journal handed boxes =
    let told : e.event ≡ event = ap (λ (x : Entry). x.event) due in
    record {
      right = ∥∥₁_map kept (λ k. (right-under o hub J k.options k.stands, acted-under o hub J k.options k.stands));
      due = own-due o J event answer e due;
      journal = journal;
      earlier = subst (λ (v : HubEvent). earlier ≡ option_map_or (outbox_of box J) (own_session v.kind) []) (sym told) handed;
      outbox = λ s. subst (λ (v : HubEvent). new.outbox s ≡ outbox_after (own_session v.kind) e (outbox_of box J) s) (sym told) (boxes s);
      fresh = λ s number opened.
          let decided : decide o J event answer ≡ Opened = sym (ap (λ (x : Entry). x.decision) due) ∙ opened in
          let carried : new_number event.kind Opened ≡ Some s =
          subst (λ (d : Decision). new_number event.kind d ≡ Some s) opened (subst (λ (v : HubEvent). new_number v.kind e.decision ≡ Some s) told number)
          in
          boxes s
          ∙ ∥∥₁_elim kept (replies-set (outbox_after (own_session event.kind) e (outbox_of box J) s) [])
          (λ k.
          ap (λ (x : Entry). outbox_after (own_session event.kind) x (outbox_of box J) s) due
          ∙ fresh-empty o hub J box event answer s k decided carried);
    }
