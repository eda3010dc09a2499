-- A table by tickets, as it is read and written.
use Rattle.std.proofs.Common.{◌≡◌, refl, ◌∙◌, ap, ap₂, subst, ℕ, Bool, true, false, ◌&&◌, cond, Some, eq-eqb, eqb-true}
use Rattle.std.specs.Prelude.{◌==◌, IsSome}
use Rattle.std.specs.Cmp.{IsEquivalence}
use Rattle.std.specs.Map.{lookup, set_value}
use Rattle.std.specs.Option.{option_map}
use Rattle.std.proofs.lemmas.Bool.{and_parts}
use Rattle.std.proofs.lemmas.Map.{lookup-set_value}
use Rattle.ftp_transfer.specs.declared.job.Ticket.{Ticket}
use Rattle.ftp_events.specs.Transfer.{same_ticket}
use Rattle.ftp_laws.proofs.TableLemmas.{eq-comm}
use Rattle.ftp_laws.proofs.TicketLemmas.{same_ticket-equal}
use Rattle.ftp_audit.specs.declared.request.Request.{Request}
use Rattle.ftp_audit.specs.Tickets.{Requests, request_at, same_pair}

-- the test on keys is one of equality
pub pair_equiv : IsEquivalence same_pair
pair_equiv =
    record {
      refl = λ x. rw (eq-eqb x.0 x.0 refl, eq-eqb x.1 x.1 refl) refl;
      symm = λ x y. ap₂ (λ (a b : Bool). a && b) (eq-comm x.0 y.0) (eq-comm x.1 y.1);
      congr = λ x y z h.
          let parts = and_parts (x.0 == y.0) (x.1 == y.1) h in
          ap₂ (λ (a b : Bool). a && b) (ap (λ (n : ℕ). n == z.0) (eqb-true x.0 y.0 parts.0)) (ap (λ (n : ℕ). n == z.1) (eqb-true x.1 y.1 parts.1));
    }

-- a transfer that is changed in the table, and no other
pub request-changed :
    (table new : Requests) (t : Ticket) (had now : Request) (f : Request → Request) →
    Some had ≡ request_at table t → now ≡ f had →
    new.entries ≡ set_value (same_pair (t.session, t.nr)) table.entries now →
    (q : Ticket) → request_at new q ≡ cond (same_ticket t q) (option_map f (request_at table q)) (request_at table q)
request-changed table new t had now f found is written q =
    ap (lookup (same_pair (q.session, q.nr))) written
    ∙ (lookup-set_value pair_equiv (same_pair (t.session, t.nr)) (λ x y e. pair_equiv.congr (t.session, t.nr) x y e) (q.session, q.nr) now table.entries there
    ∙ go (same_ticket t q) refl)
  where
    there : IsSome (lookup (same_pair (t.session, t.nr)) table.entries)
    there = subst IsSome found refl

    go : (b : Bool) → same_ticket t q ≡ b → cond b (Some now) (request_at table q) ≡ cond b (option_map f (request_at table q)) (request_at table q)
    go true x =
        let same : t ≡ q = same_ticket-equal t q x in
        ap Some is ∙ (ap (option_map f) found ∙ ap (λ (u : Ticket). option_map f (request_at table u)) same)
    go false x = refl
