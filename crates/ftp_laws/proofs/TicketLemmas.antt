-- When two tickets are the same.
use Rattle.std.proofs.Common.{◌≡◌, refl, ap₂, ℕ, true, false, eqb-true, eq-eqb}
use Rattle.std.specs.Prelude.{◌==◌}
use Rattle.std.proofs.lemmas.Bool.{and_parts}
use Rattle.ftp_events.specs.Transfer.{same_ticket}
use Rattle.ftp_laws.proofs.Common.{Ticket}

-- tickets that are the same are equal
pub same_ticket-equal : (a b : Ticket) → same_ticket a b ≡ true → a ≡ b
same_ticket-equal a b h =
    let parts = and_parts (a.session == b.session) (a.nr == b.nr) h in
    ap₂ (λ (s n : ℕ). record { session = s; nr = n }) (eqb-true a.session b.session parts.0) (eqb-true a.nr b.nr parts.1)

-- a ticket is the same as itself
pub same_ticket-refl : (t : Ticket) → same_ticket t t ≡ true
same_ticket-refl t = rw (eq-eqb t.session t.session refl, eq-eqb t.nr t.nr refl) refl

-- tickets of two sessions are not the same
pub same_ticket-other : (a b : Ticket) → (a.session == b.session) ≡ false → same_ticket a b ≡ false
same_ticket-other a b h = rw h refl
