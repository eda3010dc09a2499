-- Who holds a port, both ways, and when a hold ends.
use Rattle.std.proofs.Common.{◌≡◌, refl, sym, ◌∙◌, ap, ap₂, subst, ℕ, Bool, true, false, true≢false, ◌&&◌, List, ◌∷◌, Option, Some, None, eqb-true, eq-eqb, inl, inr}
use Rattle.std.specs.Prelude.{◌≢◌, ◌⊎◌, ◌==◌}
use Rattle.std.specs.Option.{option_map_or}
use Rattle.std.proofs.lemmas.Option.{same_Some}
use Rattle.std.proofs.lemmas.Bool.{and_parts}
use Rattle.ftp_events.specs.declared.decision.Decision.TheVariants as decision
use Rattle.ftp_events.specs.declared.decision.SlotMove.TheVariants.{Empties, Awaits, Connects}
use Rattle.ftp_events.specs.Classes.{is_stop}
use Rattle.ftp_events.specs.declared.session.Slot.TheVariants.{Empty, Waits, Linked}
use Rattle.ftp_events.specs.Slot.{waiting_port}
use Rattle.ftp_laws.proofs.Common.{SlotMove, slot_move, gives_up, is_ending, Decision, IpAddr, same_ip, Options, is_legacy, Entry, Session, Slot, is_number, named_session, is_refusal, past_of, Target, target, is_client, gives_hold, comes_to, ends_hold, gives_up_hold, holder, due, decide, IsRight}
use Rattle.ftp_laws.proofs.SubjectLemmas.{ends-plain, named-ends}
use Rattle.ftp_laws.proofs.StopLemmas.{holder-stopped}
use Rattle.ftp_laws.specs.Holds.{WaitsOn, ComesTo, GrantsAnother, TakesConnection, DropsSlot, EndsSession, EndsHold}
use Rattle.ftp_laws.proofs.ClassLemmas.{awaits-is, connects-is, empties-is, ending-gives_up, stop-is}
use Rattle.ftp_laws.proofs.QuestionLemmas.{counting-counts}
use Rattle.ftp_laws.proofs.HoldLemmas.{WaitsFor, holder-waits, same_ip-equal, same_ip-refl, number-is}
use Rattle.ftp_laws.proofs.PortLemmas.{named-target, held-ungranted, client-known}
use Rattle.ftp_laws.proofs.Cases.{by_test}

-- the slot that waits for a port
pub slot-waits : (slot : Slot) (p : ℕ) → waiting_port slot ≡ Some p → slot ≡ Waits p
slot-waits (Waits port) p h = ap Waits (same_Some _ _ h)
slot-waits Empty p h = cc
slot-waits (Linked number) p h = cc

-- waiting, said both ways
pub waits-on :
    (o : Options) (past : List Entry) (s : ℕ) (a : IpAddr) (p : ℕ) →
    WaitsFor o past s a p → WaitsOn o past s a p
waits-on o past s a p w = (w.view, w.known, same_ip-equal _ _ w.client, slot-waits w.view.slot p w.port)

pub on-waits :
    (o : Options) (past : List Entry) (s : ℕ) (a : IpAddr) (p : ℕ) →
    WaitsOn o past s a p → WaitsFor o past s a p
on-waits o past s a p w =
    record { view = w.0; known = w.1; client = subst (λ (b : IpAddr). same_ip w.0.opening.client b ≡ true) w.2 (same_ip-refl w.0.opening.client); port = ap waiting_port w.3 }

-- a session holds one port at most
pub holds-one :
    (o : Options) (log : List Entry) (a b : IpAddr) (p q s : ℕ) →
    is_legacy o.mode ≡ false → IsRight o log →
    holder o (past_of log) a p ≡ Some s →
    holder o (past_of log) b q ≡ Some s → (a ≡ b) × (p ≡ q)
holds-one o log a b p q s m r x y =
    let v : WaitsFor o (past_of log) s a p = holder-waits o log m r a p s x in
    let w : WaitsFor o (past_of log) s b q = holder-waits o log m r b q s y in
    let same : v.view ≡ w.view = same_Some _ _ (sym v.known ∙ w.known) in (
      sym (same_ip-equal _ _ v.client) ∙ (ap (λ (u : Session). u.opening.client) same ∙ same_ip-equal _ _ w.client),
      same_Some _ _ (sym v.port ∙ (ap (λ (u : Session). waiting_port u.slot) same ∙ w.port)),
    )

-- a data connection to a key, in words
pub comes-in-words :
    (o : Options) (e : Entry) (a : IpAddr) (p : ℕ) →
    comes_to o e a p ≡ true → ComesTo o e a p
comes-in-words o e a p h = go (target o e.event.kind e.answer) refl h
  where
    go :
        (t : Option Target) → target o e.event.kind e.answer ≡ t →
        option_map_or (λ t. same_ip t.client a && (t.port == p)) t false ≡ true →
        ComesTo o e a p
    go None x h = cc
    go (Some t) x h =
        let parts = and_parts (same_ip t.client a) (t.port == p) h in
        x ∙ ap₂ (λ c q. Some (record { client = c; port = q })) (same_ip-equal _ _ parts.0) (eqb-true t.port p parts.1)

-- a decision that gives a hold up, in words
pub ends-in-words :
    (o : Options) (past : List Entry) (e : Entry) (a : IpAddr) (p s : ℕ) →
    is_legacy o.mode ≡ false →
    e.decision ≡ due o past e.event.at e.event.kind e.answer →
    gives_hold o past e a p ≡ false →
    WaitsFor o past s a p →
    named_session e.event.kind ≡ Some s →
    gives_up_hold e.decision ≡ true →
    GrantsAnother e s p ⊎ (TakesConnection e s ⊎ (DropsSlot e s ⊎ EndsSession e s))
ends-in-words o past e a p s m fit ungranted w n g = by_move (slot_move e.decision) refl g
  where
    client : is_client past (Some s) a ≡ true
    client = client-known o past s w.view a w.known ∙ w.client

    dropped : ((e.decision ≡ decision.Aborted) ⊎ (e.decision ≡ decision.Aborting)) ⊎ (is_ending e.decision ≡ true) → DropsSlot e s ⊎ EndsSession e s
    dropped (inl x) = inl (n, x)
    dropped (inr x) = inr (n, x)

    by_move :
        (x : SlotMove) → slot_move e.decision ≡ x →
        gives_up x ≡ true →
        GrantsAnother e s p ⊎ (TakesConnection e s ⊎ (DropsSlot e s ⊎ EndsSession e s))
    by_move (Awaits q) x h = inl (q, other, awaits-is e.decision q x, n)
      where
        other : q ≢ p
        other same =
            let gives : gives_hold o past e a p ≡ true = rw (m, awaits-is e.decision q x, n, client, same, eq-eqb p p refl) refl in
            true≢false (sym gives ∙ ungranted)
    by_move Connects x h = inr (inl (n, connects-is e.decision x))
    by_move Empties x h = inr (inr (dropped (empties-is e.decision x)))
    by_move d x h = cc

-- a hold stays, or ends for one of the reasons
pub holds-end-step :
    (o : Options) (past : List Entry) (e : Entry) (a : IpAddr) (p s : ℕ) →
    is_legacy o.mode ≡ false →
    e.decision ≡ due o past e.event.at e.event.kind e.answer →
    WaitsFor o past s a p → holder o past a p ≡ Some s →
    (holder o (e ∷ past) a p ≡ Some s) ⊎ ((holder o (e ∷ past) a p ≡ None) × EndsHold o e s a p)
holds-end-step o past e a p s m fit w held = by_arrival (comes_to o e a p) refl
  where
    ungranted : gives_hold o past e a p ≡ false
    ungranted = held-ungranted o past e a p s fit held

    by_end :
        comes_to o e a p ≡ false → (b : Bool) →
        ends_hold e s ≡ b →
        (holder o (e ∷ past) a p ≡ Some s) ⊎ ((holder o (e ∷ past) a p ≡ None) × EndsHold o e s a p)
    by_end c false x = inl (rw (ungranted, c, held, x) refl)
    by_end c true x =
        inr (rw (ungranted, c, held, x) refl, by_test (is_stop e.decision) (λ n. inl (stop-is e.decision n)) (λ n. inr (named n)))
      where
        named : is_stop e.decision ≡ false → ComesTo o e a p ⊎ (GrantsAnother e s p ⊎ (TakesConnection e s ⊎ (DropsSlot e s ⊎ EndsSession e s)))
        named n =
            let parts = and_parts (is_number (named_session e.event.kind) s) (gives_up_hold e.decision) (sym (ends-plain e s n) ∙ x) in
            inr (ends-in-words o past e a p s m fit ungranted w (number-is _ s parts.0) parts.1)

    by_arrival :
        (b : Bool) → comes_to o e a p ≡ b →
        (holder o (e ∷ past) a p ≡ Some s) ⊎ ((holder o (e ∷ past) a p ≡ None) × EndsHold o e s a p)
    by_arrival true c = inr (rw (ungranted, c) refl, inr (inl (comes-in-words o e a p c)))
    by_arrival false c = by_end c (ends_hold e s) refl

-- a hold stays in every right log, or ends for one of the reasons
pub holds-end :
    (o : Options) (log : List Entry) (e : Entry) (a : IpAddr) (p s : ℕ) →
    is_legacy o.mode ≡ false → IsRight o (e ∷ log) →
    holder o (past_of log) a p ≡ Some s →
    (holder o (past_of (e ∷ log)) a p ≡ Some s) ⊎ ((holder o (past_of (e ∷ log)) a p ≡ None) × EndsHold o e s a p)
unfolding decide
holds-end o log e a p s m r held = go (is_refusal e.decision) refl
  where
    go :
        (b : Bool) → is_refusal e.decision ≡ b →
        (holder o (past_of (e ∷ log)) a p ≡ Some s) ⊎ ((holder o (past_of (e ∷ log)) a p ≡ None) × EndsHold o e s a p)
    go true x = inl (rw x held)
    go false x =
        subst (λ (l : List Entry). (holder o l a p ≡ Some s) ⊎ ((holder o l a p ≡ None) × EndsHold o e s a p)) (sym (counting-counts e log x))
        (holds-end-step o (past_of log) e a p s m r.1 (holder-waits o log m r.0 a p s held) held)

-- an ABOR gives up the hold, whether a transfer runs or not
abor-gives_up : (d : Decision) → (d ≡ decision.Aborted) ⊎ (d ≡ decision.Aborting) → gives_up_hold d ≡ true
abor-gives_up d (inl x) = ap gives_up_hold x
abor-gives_up d (inr x) = ap gives_up_hold x

-- after each of the reasons the port is free
pub each-ends :
    (o : Options) (past : List Entry) (e : Entry) (a : IpAddr) (p s : ℕ) →
    gives_hold o past e a p ≡ false →
    holder o past a p ≡ Some s → EndsHold o e s a p →
    holder o (e ∷ past) a p ≡ None
each-ends o past e a p s g held (inl x) = holder-stopped o past e a p (ap is_stop x)
each-ends o past e a p s g held (inr (inl x)) = rw (g, x, same_ip-refl a, eq-eqb p p refl) refl
each-ends o past e a p s g held (inr (inr (inl x))) = rw (g, named-target o e.event.kind e.answer s x.3, held, named-ends e s x.3 (ap gives_up_hold x.2)) refl
each-ends o past e a p s g held (inr (inr (inr (inl x)))) = rw (g, named-target o e.event.kind e.answer s x.0, held, named-ends e s x.0 (ap gives_up_hold x.1)) refl
each-ends o past e a p s g held (inr (inr (inr (inr (inl x))))) = rw (g, named-target o e.event.kind e.answer s x.0, held, named-ends e s x.0 (abor-gives_up e.decision x.1)) refl
each-ends o past e a p s g held (inr (inr (inr (inr (inr x))))) = rw (g, named-target o e.event.kind e.answer s x.0, held, named-ends e s x.0 (ending-gives_up e.decision x.1)) refl

-- so it is in every right log, where the entry is not refused
pub holds-ended :
    (o : Options) (log : List Entry) (e : Entry) (a : IpAddr) (p s : ℕ) →
    IsRight o (e ∷ log) →
    holder o (past_of log) a p ≡ Some s → EndsHold o e s a p →
    is_refusal e.decision ≡ false →
    holder o (past_of (e ∷ log)) a p ≡ None
unfolding decide
holds-ended o log e a p s r held x counts =
    rw (counting-counts e log counts) (each-ends o (past_of log) e a p s (held-ungranted o (past_of log) e a p s r.1 held) held x)
