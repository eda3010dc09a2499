-- A session that was opened just now was sent nothing.
use Rattle.std.proofs.Common.{◌≡◌, refl, sym, ◌∙◌, ap, ℕ, Bool, true, false, not, ◌||◌, cond, List, [], ◌∷◌, ◌++◌, Some}
use Rattle.std.proofs.lemmas.Bool.{or_parts}
use Rattle.ftp_base.specs.declared.reply.Reply.{Reply}
use Rattle.ftp_events.specs.declared.decision.Decision.TheVariants as decision
use Rattle.ftp_events.specs.declared.event.HubEvent.{HubEvent}
use Rattle.ftp_events.specs.Right.{next_entry, replies}
use Rattle.ftp_hub.specs.declared.hub.Hub.{Hub}
use Rattle.ftp_laws.specs.Replies.{was_opened}
use Rattle.ftp_laws.proofs.Common.{Answer, Decision, Entry, EventKind, Options, acts, acts_of, decide, due, is_number, is_refusal, is_used, new_number, opened_number, opens, past_of, refused_link, subject, subject_acts}
use Rattle.ftp_laws.proofs.DecisionLemmas.{new-unused}
use Rattle.ftp_laws.proofs.PortLemmas.{opened-subject}
use Rattle.ftp_laws.proofs.ReplyLemmas.{unopened-unreplied}
use Rattle.ftp_shared.specs.declared.outbox.Outbox.{Outbox}
use Rattle.ftp_shared.specs.Keeps.{Keeps}
use Rattle.ftp_shared.specs.Outbox.{IsRest, outbox_after, outbox_of, own_session, replies_in}
use Rattle.ftp_shared.proofs.KeepsLemmas.{acted-under, right-under}

-- a number that no counting entry carries was not opened
unused-unopened : (J : List Entry) (s : ℕ) → is_used (past_of J) s ≡ false → was_opened s J ≡ false
unused-unopened [] s h = refl
unused-unopened (e ∷ J) s h = go (is_refusal e.decision) refl h (unused-unopened J s)
  where
    refused : (k : EventKind) (d : Decision) → is_refusal d ≡ true → is_number (opened_number k d) s ≡ false
    refused k decision.Opened x = cc
    refused k d x = refl

    other : (k : EventKind) (d : Decision) → is_number (new_number k d) s ≡ false → is_number (opened_number k d) s ≡ false
    other k decision.Opened x = x
    other k d x = refl

    go :
        (b : Bool) → is_refusal e.decision ≡ b →
        is_used (cond (not b) (e ∷ past_of J) (past_of J)) s ≡ false →
        (is_used (past_of J) s ≡ false → was_opened s J ≡ false) →
        (opens e s || was_opened s J) ≡ false
    go true x y before = rw (refused e.event.kind e.decision x) (before y)
    go false x y before =
        let parts = or_parts (is_number (new_number e.event.kind e.decision) s) (is_used (past_of J) s) y in
        rw (other e.event.kind e.decision parts.0) (before parts.1)

-- nothing is done because of an entry that opens a session
opened-silent :
    (o : Options) (past : List Entry) (e : Entry) →
    e.decision ≡ decision.Opened →
    due o past e.event.at e.event.kind e.answer ≡ decision.Opened →
    acts_of o past e ≡ []
opened-silent o past e d h =
    ap (λ b. cond b [] (subject_acts o past e (subject o past e))) (ap is_refusal d)
    ∙ ap (subject_acts o past e) (opened-subject o past e d h)
    ∙ ap (refused_link e.event.kind) d

-- nor is it where the next entry does
next-silent :
    (o : Options) (J : List Entry) (event : HubEvent) (answer : Answer) →
    decide o J event answer ≡ decision.Opened →
    (next_entry o J event answer).actions ≡ []
unfolding decide acts
next-silent o J event answer h =
    opened-silent o (past_of J) (record { event = event; answer = answer; decision = decide o J event answer; actions = [] }) h h

-- the number that it carries was not used
next-unused :
    (o : Options) (J : List Entry) (event : HubEvent) (answer : Answer) (s : ℕ) →
    decide o J event answer ≡ decision.Opened →
    new_number event.kind decision.Opened ≡ Some s →
    is_used (past_of J) s ≡ false
unfolding decide
next-unused o J event answer s h n = new-unused o (past_of J) event.at event.kind answer decision.Opened s h refl n

-- what is the last of nothing is nothing
rest-nothing : (xs all : List (ℕ × Reply)) → IsRest xs all → all ≡ [] → xs ≡ []
rest-nothing xs all rest none = go rest.0 (sym none ∙ rest.1)
  where
    go : (first : List (ℕ × Reply)) → [] ≡ first ++ xs → xs ≡ []
    go [] h = sym h
    go (x ∷ first) h = cc

-- so the outbox of the session that it opens is empty
pub fresh-empty :
    (o : Options) (hub : Hub) (J : List Entry) (box : Outbox) (event : HubEvent) (answer : Answer) (s : ℕ) →
    Keeps o hub J box →
    decide o J event answer ≡ decision.Opened →
    new_number event.kind decision.Opened ≡ Some s →
    outbox_after (own_session event.kind) (next_entry o J event answer) (outbox_of box J) s ≡ []
fresh-empty o hub J box event answer s k h n = go (is_number (own_session event.kind) s)
  where
    unreplied : replies J s ≡ []
    unreplied =
        unopened-unreplied o J s (right-under o hub J k.options k.stands) (acted-under o hub J k.options k.stands)
        (unused-unopened J s (next-unused o J event answer s h n))

    waiting : outbox_of box J s ≡ []
    waiting = rest-nothing (outbox_of box J s) (replies J s) (k.rests s) unreplied

    go :
        (b : Bool) →
        cond b [] (outbox_of box J s ++ replies_in (next_entry o J event answer).actions s) ≡ []
    go true = refl
    go false =
        ap (λ xs. xs ++ replies_in (next_entry o J event answer).actions s) waiting
        ∙ ap (λ xs. replies_in xs s) (next-silent o J event answer h)
