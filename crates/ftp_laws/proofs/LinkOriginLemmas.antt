-- A transfer starts on a link that was brought to its session.
use Rattle.std.proofs.Common.{◌≡◌, refl, sym, ◌∙◌, ap, subst, ℕ, ◌≤◌, Bool, true, false, true≢false, List, [], ◌∷◌, Option, Some, None, arith, eqb-true, eq-eqb, inl, inr}
use Rattle.std.specs.Prelude.{◌⊎◌, ◌==◌, count_by, is_some}
use Rattle.std.specs.List.{list_any}
use Rattle.std.specs.Option.{option_or}
use Rattle.std.proofs.lemmas.Bool.{and_parts, or_right}
use Rattle.std.proofs.lemmas.List.Sums.{sum_by-cons}
use Rattle.ftp_events.specs.declared.action.Action.TheVariants as action
use Rattle.ftp_events.specs.declared.decision.Decision.TheVariants as decision
use Rattle.ftp_events.specs.History.{Nobody, One, All}
use Rattle.ftp_events.specs.Classes.{is_stop}
use Rattle.ftp_laws.proofs.Common.{Subject, slot_move, Options, Running, Action, Decision, Entry, Answer, EventKind, is_number, is_refusal, past_of, named_session, new_number, Target, target, holder, holder_of_target, subject, concerns, history, queued_in, lane, due, decide, acts, start_acts, IsRight, IsActed}
use Rattle.ftp_laws.proofs.SubjectLemmas.{one-own, concerns-plain}
use Rattle.ftp_laws.proofs.PartLemmas.{count-stop-idle}
use Rattle.ftp_laws.specs.Jobs.{starts_there, attaches_to, brings_link, has_brought}
use Rattle.ftp_laws.proofs.EntryLemmas.{past-more}
use Rattle.ftp_laws.proofs.ServiceLemmas.{AttachedOrTurned, attached-comes, connection-goes}
use Rattle.ftp_laws.proofs.PortLemmas.{target-unnamed}
use Rattle.ftp_laws.proofs.DecisionLemmas.{IsLive, IsAccepted, attached_session, connected-live}
use Rattle.ftp_laws.proofs.LaneLemmas.{ended-empty, named-concern}
use Rattle.ftp_laws.proofs.CountLemmas.{IsOnStarts, started_in, count-starts, count-nobody}
use Rattle.ftp_laws.proofs.LinkLemmas.{is_attached, Brings, started-brings, link_of, WasOrComes, link-after}
use Rattle.ftp_laws.proofs.BalanceLemmas.{one}
use Rattle.ftp_laws.proofs.CancellationLemmas.{any-counted}
use Rattle.ftp_laws.proofs.JobLemmas.{starting-history, started_in-owned}
use Rattle.ftp_laws.proofs.Cases.{by_option}

-- the test on starts of a session on a link is one on starts
starts_there-on-starts : (s n : ℕ) → IsOnStarts (starts_there s n)
starts_there-on-starts s n =
    record { plain = λ q. record { closes = λ m. refl; notifies = λ meta what. refl; replies = λ delay r. refl }; completed = λ t b. refl; cancelled = λ t. refl }

-- an entry is about the session that its connection is attached to
attached-subject :
    (o : Options) (past : List Entry) (at : ℕ) (k : EventKind) (answer : Answer) (q : ℕ) →
    due o past at k answer ≡ decision.Attached q →
    option_or (named_session k) (holder_of_target o past k answer) ≡ Some q
attached-subject o past at k answer q h =
    go (attached-comes o past at k answer q h)
  where
    goes :
        (t : Target) → AttachedOrTurned o past (due o past at k answer) t.client t.port →
        holder o past t.client t.port ≡ Some q
    goes t (inl x) = x.2 ∙ ap attached_session (sym x.1 ∙ h)
    goes t (inr x) = let z : decision.Turned ≡ decision.Attached q = sym x ∙ h in cc

    go :
        (is_some (target o k answer) ≡ true) ⊎ IsAccepted o past k q →
        option_or (named_session k) (holder_of_target o past k answer) ≡ Some q
    go (inr x) = rw x.named refl
    go (inl x) =
        by_option (target o k answer) (λ none. absurd (true≢false (sym x ∙ ap is_some none)))
        (λ t w.
        rw (target-unnamed o k answer t w, w)
        (goes t (connection-goes o past at k answer (due o past at k answer) t refl (ap is_refusal h) w)))

-- so a connection that is attached is attached to the session that the entry concerns, and one that is taken is taken for it
attached-own :
    (o : Options) (past : List Entry) (e : Entry) (s : ℕ) →
    e.decision ≡ due o past e.event.at e.event.kind e.answer →
    concerns o past e s ≡ true →
    is_attached e.decision ≡ true →
    attaches_to s e.event.kind e.decision ≡ true
attached-own o past e s fit c a = go e.decision refl a
  where
    go :
        (d : Decision) → e.decision ≡ d → is_attached d ≡ true →
        attaches_to s e.event.kind d ≡ true
    go decision.PortOk x h =
        let alive : IsLive o past e.event.kind = (connected-live o past e.event.at e.event.kind e.answer (sym fit ∙ x)).alive in
        rw alive.named (eq-eqb alive.number s (named-concern o past e alive.number s fit alive.named c))
    go (decision.Attached q) x h =
        sym (ap (λ m. is_number m s) (attached-subject o past e.event.at e.event.kind e.answer q (sym fit ∙ x))) ∙ (sym (concerns-plain o past e s (ap is_stop x)) ∙ c)
    go d x h = cc

-- an entry that attaches link n brings it to the session that it concerns
attached-brings :
    (o : Options) (past : List Entry) (e : Entry) (s n : ℕ) →
    e.decision ≡ due o past e.event.at e.event.kind e.answer →
    concerns o past e s ≡ true →
    (is_attached e.decision ≡ true) × (new_number e.event.kind e.decision ≡ Some n) →
    brings_link s n e ≡ true
attached-brings o past e s n fit c x = rw (attached-own o past e s fit c x.0, x.1, eq-eqb n n refl) refl

-- the link that a session's slot has was brought to it
link-brought :
    (o : Options) (log : List Entry) (s n : ℕ) → IsRight o log →
    link_of o (past_of log) s ≡ Some n →
    has_brought s n log ≡ true
unfolding decide
link-brought o [] s n r h = cc
link-brought o (e ∷ log) s n r h =
    past-more (λ p. link_of o p s ≡ Some n → has_brought s n (e ∷ log) ≡ true) e log
    (λ x. or_right (brings_link s n e) (has_brought s n log) (link-brought o log s n r.0 x))
    (λ counts x. by_entry (λ y. link-brought o log s n r.0 y) (link-after o (past_of log) e s n x)) h
  where
    by_entry :
        (link_of o (past_of log) s ≡ Some n → has_brought s n log ≡ true) →
        WasOrComes o (past_of log) e s n →
        has_brought s n (e ∷ log) ≡ true
    by_entry ih (inl x) = or_right (brings_link s n e) (has_brought s n log) (ih x)
    by_entry ih (inr x) = rw (attached-brings o (past_of log) e s n r.1 x.0 x.1) refl

-- in every right and acted log a transfer starts on a link that was brought to its session
pub starts-on-own :
    (o : Options) (log : List Entry) (e : Entry) (s n : ℕ) →
    IsRight o (e ∷ log) → IsActed o (e ∷ log) →
    list_any (starts_there s n) e.actions ≡ true →
    has_brought s n (e ∷ log) ≡ true
unfolding decide acts
starts-on-own o log e s n r a h = by_refusal (is_refusal e.decision) refl
  where
    past : List Entry
    past = past_of log

    counted : 1 ≤ count_by (starts_there s n) e.actions
    counted = any-counted (starts_there s n) e.actions h

    by_link :
        concerns o past e s ≡ true →
        Brings (slot_move e.decision) (new_number e.event.kind e.decision) (lane (history o past s)).slot n →
        has_brought s n (e ∷ log) ≡ true
    by_link c (inl x) = or_right (brings_link s n e) (has_brought s n log) (link-brought o log s n r.0 x)
    by_link c (inr x) = rw (attached-brings o past e s n r.1 c x) refl

    by_test :
        (q : ℕ) (j : Running) → concerns o past e q ≡ true →
        started_in o past e q ≡ Some j →
        (b : Bool) → starts_there s n (action.Start j.job.ticket j.job.number) ≡ b →
        1 ≤ one b → has_brought s n (e ∷ log) ≡ true
    by_test q j c x false y z = absurd (omega (arith, z))
    by_test q j c x true y z =
        let parts = and_parts (j.job.ticket.session == s) (j.job.number == n) y in
        let own : q ≡ s = sym (started_in-owned o log e q j r.0 r.1 c x) ∙ eqb-true j.job.ticket.session s parts.0 in
        let link : j.job.number ≡ n = eqb-true j.job.number n parts.1 in
        let about : concerns o past e s ≡ true = subst (λ (m : ℕ). concerns o past e m ≡ true) own c in
        let brings =
        started-brings (slot_move e.decision) (new_number e.event.kind e.decision) (queued_in (history o past q) e) (lane (history o past q)) j
        (sym (starting-history o past e q (ended-empty o log q r.0)) ∙ x) in
        by_link about
        (subst (λ (m : ℕ). Brings (slot_move e.decision) (new_number e.event.kind e.decision) (lane (history o past m)).slot n) own
        (subst (λ (m : ℕ). Brings (slot_move e.decision) (new_number e.event.kind e.decision) (lane (history o past q)).slot m) link brings))

    by_job :
        (q : ℕ) → concerns o past e q ≡ true →
        (j : Option Running) → started_in o past e q ≡ j →
        1 ≤ count_by (starts_there s n) (start_acts j) →
        has_brought s n (e ∷ log) ≡ true
    by_job q c None x y = absurd (omega (arith, y))
    by_job q c (Some j) x y =
        by_test q j c x (starts_there s n (action.Start j.job.ticket j.job.number)) refl
        (omega (arith, y, sum_by-cons (λ z. one (starts_there s n z)) (action.Start j.job.ticket j.job.number) []))

    by_subject :
        is_refusal e.decision ≡ false → (q : Subject) →
        subject o past e ≡ q →
        has_brought s n (e ∷ log) ≡ true
    by_subject counts All about =
        let on : IsOnStarts (starts_there s n) = starts_there-on-starts s n in
        absurd (omega (arith, counted, count-stop-idle o past e counts a.1 (starts_there s n) on.plain on.cancelled about))
    by_subject counts Nobody about = absurd (omega (arith, counted, count-nobody (starts_there s n) o past e (λ m. refl) a.1 about))
    by_subject counts (One q) about =
        by_job q (one-own o past e q about) (started_in o past e q) refl
        (omega (arith, counted, count-starts (starts_there s n) o past e q (starts_there-on-starts s n) counts a.1 about))

    by_refusal : (b : Bool) → is_refusal e.decision ≡ b → has_brought s n (e ∷ log) ≡ true
    by_refusal false x = by_subject x (subject o past e) refl
    by_refusal true x =
        let none : e.actions ≡ [] = a.1 ∙ rw x refl in
        let z : false ≡ true = sym (ap (λ (xs : List Action). list_any (starts_there s n) xs) none) ∙ h in
        cc
