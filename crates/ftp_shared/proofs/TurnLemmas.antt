-- What is known of a turn under the lock, once it is free.
use Rattle.std.proofs.Common.{◌≡◌, sym, ap, subst, List, []}
use Rattle.std.proofs.Math.Logic.{∥∥₁_elim, ∥∥₁_map}
use Rattle.std.specs.Coded.{Coded-set}
use Rattle.std.specs.Prelude.{MatchOption}
use Rattle.ftp_options.specs.declared.options.Options.{Options}
use Rattle.ftp_events.specs.contracts.event.Answer.{the_row as answer_row}
use Rattle.ftp_events.specs.contracts.event.HubEvent.{the_row as event_row}
use Rattle.ftp_events.specs.declared.entry.Entry.{Entry}
use Rattle.ftp_events.specs.declared.event.Answer.{Answer}
use Rattle.ftp_events.specs.declared.event.HubEvent.{HubEvent}
use Rattle.ftp_events.specs.Right.{next_entry, replies}
use Rattle.ftp_shared.specs.declared.receipt.Receipt.{Receipt}
use Rattle.ftp_shared.specs.declared.receipt.Turn.{Turn}
use Rattle.ftp_shared.specs.Next.{IsNextAt, IsTurnAt}
use Rattle.ftp_shared.specs.Outbox.{IsRest, own_session}
use Rattle.ftp_shared.specs.Desk.{IsVouched}

-- an entry that is due for an event and its answer is due for its own
pub own-due :
    (o : Options) (J : List Entry) (event : HubEvent) (answer : Answer) (e : Entry) →
    e ≡ next_entry o J event answer →
    e ≡ next_entry o J e.event e.answer
own-due o J event answer e due =
    subst (λ (a : Answer). e ≡ next_entry o J e.event a) (sym (ap (λ (x : Entry). x.answer) due))
    (subst (λ (v : HubEvent). e ≡ next_entry o J v answer) (sym (ap (λ (x : Entry). x.event) due)) due)

-- the entry that a receipt tells has the event that was handed in
pub event-told : (o : Options) (r : Receipt) (event : HubEvent) (answer : Answer) → IsNextAt o r event answer → r.entry.event ≡ event
event-told o r event answer next =
    ∥∥₁_elim next (Coded-set event_row.coded r.entry.event event) (λ n. ap (λ (e : Entry). e.event) n.entry)

-- and the answer
pub answer-told : (o : Options) (r : Receipt) (event : HubEvent) (answer : Answer) → IsNextAt o r event answer → r.entry.answer ≡ answer
answer-told o r event answer next =
    ∥∥₁_elim next (Coded-set answer_row.coded r.entry.answer answer) (λ n. ap (λ (e : Entry). e.answer) n.entry)

-- so does that of a turn
pub turn-event : (o : Options) (t : Turn) (event : HubEvent) (answer : Answer) → IsTurnAt o t event answer → t.submitted.receipt.entry.event ≡ event
turn-event o t event answer h = event-told o t.submitted.receipt event answer (∥∥₁_map h (λ n. n.next))

pub turn-answer : (o : Options) (t : Turn) (event : HubEvent) (answer : Answer) → IsTurnAt o t event answer → t.submitted.receipt.entry.answer ≡ answer
turn-answer o t event answer h = answer-told o t.submitted.receipt event answer (∥∥₁_map h (λ n. n.next))

-- it is vouched for
pub turn-vouched :
    (o : Options) (t : Turn) (event : HubEvent) (answer : Answer) →
    IsTurnAt o t event answer →
    IsVouched o t.earlier t.submitted.receipt.entry
turn-vouched o t event answer h =
    ∥∥₁_map h (λ n.
    let e : Entry = t.submitted.receipt.entry in
    let due : e ≡ next_entry o n.next.journal event answer = n.next.entry in
    record {
      past = n.next.journal;
      right = n.next.right;
      acted = n.next.acted;
      due = own-due o n.next.journal event answer e due;
      earlier = subst (λ (v : HubEvent). MatchOption (own_session v.kind) (t.earlier ≡ []) (λ s. IsRest t.earlier (replies n.next.journal s))) (sym (ap (λ (x : Entry). x.event) due)) n.earlier;
    })
