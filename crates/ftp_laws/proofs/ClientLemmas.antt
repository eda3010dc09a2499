-- A client's part of the log decides and does on the client's events what the whole log does.
use Rattle.std.proofs.Common.{◌≡◌, refl, sym, ◌∙◌, ap, subst, ℕ, Bool, true, false, cond, ◌||◌, List, [], ◌∷◌, ◌++◌, Option, Some, None, arith}
use Rattle.std.specs.Prelude.{◌≢◌, Contains}
use Rattle.std.specs.Option.{option_map_or, option_or}
use Rattle.std.proofs.lemmas.List.Elements.{Contains-append_left, Contains-append_right}
use Rattle.ftp_events.specs.declared.event.EventKind.TheVariants as kind
use Rattle.ftp_events.specs.LoginRows.{auth_row}
use Rattle.ftp_events.specs.CommandRows.{own_failures}
use Rattle.ftp_events.specs.Lockout.{failures}
use Rattle.ftp_events.specs.Isolation.{is_own, is_common, numbers_in, own_numbers, IsApart, locks_by_address}
use Rattle.ftp_events.specs.Log.{is_stopped}
use Rattle.ftp_events.specs.History.{One}
use Rattle.ftp_laws.proofs.Common.{IpAddr, same_ip, Options, is_legacy, Entry, EventKind, Opening, Session, Target, past_of, is_used, named_session, target, holder, holder_of_target, subject, session, due, decide, acts, acts_of, IsRight, IsActed, client_log}
use Rattle.ftp_laws.specs.Alone.{IsActedButStops}
use Rattle.ftp_laws.proofs.SubjectLemmas.{one-meant, all-stop}
use Rattle.ftp_laws.proofs.StopLemmas.{stop-kind}
use Rattle.ftp_laws.proofs.QuestionLemmas.{session-told}
use Rattle.ftp_laws.proofs.HoldLemmas.{same_ip-equal, ComesFor, comes-for, names-itself}
use Rattle.ftp_laws.proofs.ReadLemmas.{HeldAlike, ReadsAlike, due-same, acts-same}
use Rattle.ftp_laws.proofs.IsolationLemmas.{Alike, alike, is_of, is_kept, kept-name, kept-target, kept-comes, sessions-alike, jobs-alike, holder-of, stopped-alike}
use Rattle.ftp_laws.proofs.NumberLemmas.{used-alike, foreign-stays}
use Rattle.ftp_laws.proofs.KeyLemmas.{failures-alike}
use Rattle.ftp_laws.proofs.Cases.{by_test}

-- a session of client a has that address
pub client-of :
    (o : Options) (P : List Entry) (s : ℕ) (a : IpAddr) (v : Session) →
    session o P s ≡ Some v → is_of P s a ≡ true →
    v.opening.client ≡ a
client-of o P s a v x w =
    same_ip-equal v.opening.client a (subst (λ (y : Option Opening). option_map_or (λ opening. same_ip opening.client a) y false ≡ true) (session-told o P s v x).opening w)

-- what an entry of client a reads is the same in both pasts, where its numbers and the failures of the client's keys are
pub reads-alike :
    (o : Options) (log K : List Entry) (e : Entry) (a : IpAddr) →
    is_legacy o.mode ≡ false → IsRight o log →
    is_kept (past_of log) e a ≡ true → Alike o (past_of log) K a →
    ((n : ℕ) → Contains (numbers_in e.event.kind) n → is_used K n ≡ is_used (past_of log) n) →
    is_stopped K ≡ is_stopped (past_of log) →
    ((v : Session) → v.opening.client ≡ a → own_failures o (failures o K) v ≡ own_failures o (failures o (past_of log)) v) →
    ReadsAlike o (past_of log) K e.event.at e.event.kind e.answer
reads-alike o log K e a m r kept l numbers stopped failed =
    record {
      numbers = numbers;
      sessions = λ s n. sessions-alike o P K a s l (named s n);
      stopped = stopped;
      jobs = λ s n. jobs-alike o P K a s l (named s n);
      targets = λ t x. held t (kept-target o P e a t kept x);
      holders = λ s v n x p. subst (λ (b : IpAddr). holder o K b p ≡ holder o P b p) (sym (client-of o P s a v x (named s n))) (l.holders p);
      passwords = λ s v said n x. ap (λ f. auth_row o.lockout e.event.at f said v.login) (failed v (client-of o P s a v x (named s n)));
    }
  where
    P : List Entry
    P = past_of log

    named : (s : ℕ) → named_session e.event.kind ≡ Some s → is_of P s a ≡ true
    named s y = kept-name P e a s kept y

    held : (t : Target) → t.client ≡ a → HeldAlike o P K t.client t.port
    held t same =
        subst (λ (b : IpAddr). HeldAlike o P K b t.port) (sym same)
        (record { holders = l.holders t.port; sessions = λ s h. sessions-alike o P K a s l (holder-of o log a t.port s m r h) })

-- the session that an entry of client a is about is one of client a
pub kept-subject :
    (o : Options) (log : List Entry) (e : Entry) (a : IpAddr) (s : ℕ) →
    is_legacy o.mode ≡ false → IsRight o log →
    is_kept (past_of log) e a ≡ true →
    subject o (past_of log) e ≡ One s →
    is_of (past_of log) s a ≡ true
kept-subject o log e a s m r kept about = by_name (named_session e.event.kind) refl (one-meant o (past_of log) e s about)
  where
    by_name :
        (n : Option ℕ) → named_session e.event.kind ≡ n →
        option_or n (holder_of_target o (past_of log) e.event.kind e.answer) ≡ Some s →
        is_of (past_of log) s a ≡ true
    by_name (Some x) n h = kept-name (past_of log) e a s kept (n ∙ h)
    by_name None n h =
        let comes : ComesFor o (past_of log) e.event.kind e.answer s = comes-for o (past_of log) e.event.kind e.answer s (target o e.event.kind e.answer) refl (names-itself _ s h) in
        subst (λ (b : IpAddr). is_of (past_of log) s b ≡ true) (kept-target o (past_of log) e a comes.to kept comes.target_is)
        (holder-of o log comes.to.client comes.to.port s m r comes.held)

-- the same is done in both pasts because of an entry of the client that is no Shutdown
pub acts-alike :
    (o : Options) (log K : List Entry) (e : Entry) (a : IpAddr) →
    is_legacy o.mode ≡ false → IsRight o log →
    e.decision ≡ due o (past_of log) e.event.at e.event.kind e.answer →
    is_kept (past_of log) e a ≡ true →
    Alike o (past_of log) K a →
    e.event.kind ≢ kind.Shutdown →
    acts_of o K e ≡ acts_of o (past_of log) e
acts-alike o log K e a m r fit kept l going =
    acts-same o (past_of log) K e (kept-comes o (past_of log) K e a kept l)
    (λ s x.
    let own : is_of (past_of log) s a ≡ true = kept-subject o log e a s m r kept x in
    (sessions-alike o (past_of log) K a s l own, jobs-alike o (past_of log) K a s l own))
    (λ about. absurd (going (stop-kind o (past_of log) e fit (all-stop o (past_of log) e about))))

-- what an entry of client a carried stays among the client's numbers
pub own-grows :
    (e : Entry) (log : List Entry) (a : IpAddr) (n : ℕ) →
    Contains (own_numbers log a) n →
    Contains (own_numbers (e ∷ log) a) n
own-grows e log a n h = go (is_own log e a)
  where
    go :
        (b : Bool) →
        Contains (cond b (numbers_in e.event.kind ++ own_numbers log a) (own_numbers log a)) n
    go true = Contains-append_right (numbers_in e.event.kind) (own_numbers log a) n h
    go false = h

-- a client that is apart was apart before
pub apart-before : (e : Entry) (log : List Entry) (a : IpAddr) → IsApart (e ∷ log) a → IsApart log a
apart-before e log a h n own foreign = h n (own-grows e log a n own) (foreign-stays e log a n foreign)

-- the numbers of an entry of the client are used in both pasts or in neither
pub numbers-alike :
    (e : Entry) (log : List Entry) (a : IpAddr) (n : ℕ) →
    IsApart (e ∷ log) a → is_own log e a ≡ true →
    Contains (numbers_in e.event.kind) n →
    is_used (past_of (client_log log a)) n ≡ is_used (past_of log) n
numbers-alike e log a n apart x c =
    let own : Contains (own_numbers (e ∷ log) a) n = rw x (Contains-append_left (numbers_in e.event.kind) (own_numbers log a) n c) in
    used-alike log a n (λ foreign. apart n own (foreign-stays e log a n foreign))

-- so are those of an entry that is of all clients, as it has none
pub kept-numbers :
    (e : Entry) (log : List Entry) (a : IpAddr) (n : ℕ) →
    IsApart (e ∷ log) a → is_kept (past_of log) e a ≡ true →
    Contains (numbers_in e.event.kind) n →
    is_used (past_of (client_log log a)) n ≡ is_used (past_of log) n
kept-numbers e log a n apart kept c =
    by_test (is_own log e a) (λ own. numbers-alike e log a n apart own c)
    (λ other. absurd (numberless e.event.kind (sym (ap (λ b. is_common e.event.kind || b) other ∙ or_false (is_common e.event.kind)) ∙ kept) c))
  where
    or_false : (b : Bool) → (b || false) ≡ b
    or_false true = refl
    or_false false = refl

    numberless : (k : EventKind) → is_common k ≡ true → ¬ Contains (numbers_in k) n
    numberless kind.Sweep x y = absurd (omega (arith, y.1))
    numberless kind.Scavenge x y = absurd (omega (arith, y.1))
    numberless kind.Shutdown x y = absurd (omega (arith, y.1))
    numberless k x y = cc

-- where there is no legacy listener, failed logins of one address lock no other, and nobody else brings in a number of client a,
-- the client's part of a right and acted log is right by itself, and acted but for what names every session
pub client-right :
    (o : Options) (log : List Entry) (a : IpAddr) →
    is_legacy o.mode ≡ false → locks_by_address o.lockout ≡ true →
    IsApart log a → IsRight o log → IsActed o log →
    IsRight o (client_log log a) × IsActedButStops o (client_log log a)
unfolding decide acts
client-right o [] a m locks apart r d = (tt, tt)
client-right o (e ∷ log) a m locks apart r d = go (is_kept (past_of log) e a) refl (client-right o log a m locks (apart-before e log a apart) r.0 d.0)
  where
    go :
        (b : Bool) → is_kept (past_of log) e a ≡ b →
        IsRight o (client_log log a) × IsActedButStops o (client_log log a) →
        IsRight o (client_log (e ∷ log) a) × IsActedButStops o (client_log (e ∷ log) a)
    go false x h = rw x h
    go true x h =
        let K : List Entry = past_of (client_log log a) in
        let tables : Alike o (past_of log) K a = alike o log a m r.0 in
        let reads : ReadsAlike o (past_of log) K e.event.at e.event.kind e.answer =
        reads-alike o log K e a m r.0 x tables (λ n c. kept-numbers e log a n apart x c) (stopped-alike o log a r.0) (λ v client. failures-alike o log a v m locks r.0 client) in
        rw x (
          (h.0, r.1 ∙ sym (due-same o (past_of log) K e.event.at e.event.kind e.answer reads)),
          (h.1, λ going. d.1 ∙ sym (acts-alike o log K e a m r.0 r.1 x tables going)),
        )
