-- What an entry leaves of the restart offset.
use Rattle.std.proofs.Common.{◌≡◌, refl, sym, ◌∙◌, ap, ℕ, Bool, true, false, cond, List, ◌∷◌, Some, None, inl, inr}
use Rattle.std.specs.Prelude.{◌⊎◌, unwrap_or}
use Rattle.std.specs.Bool.{then_some}
use Rattle.std.proofs.lemmas.Option.{same_Some}
use Rattle.ftp_transfer.specs.declared.job.Outcome.{Outcome}
use Rattle.ftp_events.specs.declared.decision.Decision.TheVariants.{Finished, RestOk}
use Rattle.ftp_events.specs.declared.event.Answer.TheVariants.{Done}
use Rattle.ftp_events.specs.declared.event.EventKind.TheVariants.{Rest}
use Rattle.ftp_events.specs.Place.{offset_by}
use Rattle.ftp_events.specs.Transfer.{moves_file}
use Rattle.ftp_laws.proofs.Common.{Options, Ticket, Decision, Entry, Answer, EventKind, Session, past_of, is_refusal, job_ticket, named_session, decide, concerns, opens, IsRight, lives_on, session, running_job}
use Rattle.ftp_laws.proofs.SubjectLemmas.{named-concerns}
use Rattle.ftp_laws.specs.Offsets.{TakesRest, EndsWell}
use Rattle.ftp_laws.proofs.QuestionLemmas.{counting-refused, counting-counts, session-own, session-other, session_by}
use Rattle.ftp_laws.proofs.HoldLemmas.{live-unopened}
use Rattle.ftp_laws.proofs.LaneLemmas.{named-concern}
use Rattle.ftp_laws.proofs.BalanceLemmas.{IsEnd, ended-known}
use Rattle.ftp_laws.proofs.Cases.{job-named}

-- a value that is there in one case
pub or-some : (b : Bool) (x y : ℕ) → unwrap_or (then_some b x) y ≡ cond b x y
or-some true x y = refl
or-some false x y = refl

-- after a transfer of a file that succeeded no offset is left, and after any other the one that was
pub ends-offset :
    (o : Options) (log : List Entry) (e : Entry) (ticket : Ticket) (outcome : Outcome) (v : Session) →
    job_ticket e.event.kind ≡ Some ticket → e.answer ≡ Done outcome →
    e.decision ≡ Finished →
    session o (past_of log) ticket.session ≡ Some v →
    (w : Session) × (session o (past_of (e ∷ log)) ticket.session ≡ Some w) × (w.offset ≡ cond (moves_file outcome.result) 0 v.offset)
ends-offset o log e ticket outcome v k a d known = (after, stands, rw (a, d) (or-some (moves_file outcome.result) 0 v.offset))
  where
    s : ℕ
    s = ticket.session

    after : Session
    after = session_by s e (running_job o (past_of log) s) v

    counts : is_refusal e.decision ≡ false
    counts = rw d refl

    unopened : opens e s ≡ false
    unopened = rw d refl

    about : concerns o (past_of log) e s ≡ true
    about = named-concerns o (past_of log) e s (job-named e.event.kind ticket k)

    lives : lives_on e.decision ≡ true
    lives = rw d refl

    stands : session o (past_of (e ∷ log)) s ≡ Some after
    stands =
        ap (λ (l : List Entry). session o l s) (counting-counts e log counts) ∙
        (session-own o (past_of log) e s v known unopened about ∙ rw lives refl)

-- an entry sets no offset, or takes a REST, or ends a transfer of a file that succeeded
abbrev pub OffsetCases : Decision → EventKind → Answer → Type 0
OffsetCases d k answer =
    (offset_by d k answer ≡ None)
    ⊎ (((q : ℕ) × (n : ℕ) × (k ≡ Rest q n) × (d ≡ RestOk))
    ⊎ ((outcome : Outcome) × (answer ≡ Done outcome) × (d ≡ Finished) × (moves_file outcome.result ≡ true)))

-- one of the three is so
pub offset_by-cases : (d : Decision) (k : EventKind) (answer : Answer) → OffsetCases d k answer
offset_by-cases RestOk (Rest q n) answer = inr (inl (q, n, refl, refl))
offset_by-cases Finished k (Done outcome) = go (moves_file outcome.result) refl
  where
    go : (b : Bool) → moves_file outcome.result ≡ b → OffsetCases Finished k (Done outcome)
    go true x = inr (inr (outcome, refl, refl, x))
    go false x = inl (rw x refl)
offset_by-cases d k answer = inl refl

-- a session that is there in one case is the one of that case
pub some-cond : (b : Bool) (u w : Session) → cond b (Some u) None ≡ Some w → u ≡ w
some-cond true u w e = same_Some _ _ e
some-cond false u w e = cc

-- the offset of a session that stays live is the one that it had, but for a REST or the end of a transfer of a file that succeeded
pub offset-lasts :
    (o : Options) (log : List Entry) (e : Entry) (s : ℕ) (v w : Session) →
    IsRight o (e ∷ log) →
    session o (past_of log) s ≡ Some v →
    session o (past_of (e ∷ log)) s ≡ Some w →
    (w.offset ≡ v.offset) ⊎ (TakesRest e s ⊎ EndsWell e s)
unfolding decide
offset-lasts o log e s v w r known after = by_refusal (is_refusal e.decision) refl
  where
    past : List Entry
    past = past_of log

    same : Some v ≡ Some w → w.offset ≡ v.offset
    same x = ap (λ (u : Session). u.offset) (sym (same_Some _ _ x))

    by_case :
        concerns o (past_of log) e s ≡ true →
        session_by s e (running_job o (past_of log) s) v ≡ w →
        OffsetCases e.decision e.event.kind e.answer →
        (w.offset ≡ v.offset) ⊎ (TakesRest e s ⊎ EndsWell e s)
    by_case c x (inl none) = inl (ap (λ (u : Session). u.offset) (sym x) ∙ rw none refl)
    by_case c x (inr (inl i)) =
        let own : i.0 ≡ s = named-concern o past e i.0 s r.1 (ap named_session i.2) c in
        inr (inl (i.1, i.2 ∙ ap (λ q. Rest q i.1) own, i.3))
    by_case c x (inr (inr i)) =
        let end : IsEnd o past e.event.kind = ended-known o past e.event.at e.event.kind e.answer Finished (sym r.1 ∙ i.2) refl in
        let named : named_session e.event.kind ≡ Some end.ticket.session = job-named e.event.kind end.ticket end.kind_is in
        let own : end.ticket.session ≡ s = named-concern o past e end.ticket.session s r.1 named c in
        inr (inr (i.0, named ∙ ap Some own, i.1, i.2, i.3))

    by_concern :
        session o (e ∷ past_of log) s ≡ Some w →
        opens e s ≡ false → (b : Bool) →
        concerns o (past_of log) e s ≡ b →
        (w.offset ≡ v.offset) ⊎ (TakesRest e s ⊎ EndsWell e s)
    by_concern x n false c = inl (same (sym known ∙ (sym (session-other o past e s n c) ∙ x)))
    by_concern x n true c =
        let next : session_by s e (running_job o past s) v ≡ w = some-cond (lives_on e.decision) _ w (sym (session-own o past e s v known n c) ∙ x) in
        by_case c next (offset_by-cases e.decision e.event.kind e.answer)

    by_refusal :
        (b : Bool) → is_refusal e.decision ≡ b →
        (w.offset ≡ v.offset) ⊎ (TakesRest e s ⊎ EndsWell e s)
    by_refusal true x = inl (same (sym known ∙ (ap (λ (l : List Entry). session o l s) (sym (counting-refused e log x)) ∙ after)))
    by_refusal false x =
        by_concern (ap (λ (l : List Entry). session o l s) (sym (counting-counts e log x)) ∙ after) (live-unopened o past e s v r.1 known) (concerns o past e s) refl
