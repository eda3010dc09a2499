-- What the log tells of a client's sessions and ports, the client's part of the log tells too.
use Rattle.std.proofs.Common.{◌≡◌, refl, sym, ◌∙◌, ap, subst, ℕ, Bool, true, false, true≢false, not, ◌&&◌, ◌||◌, cond, List, [], ◌∷◌, Option, Some, None, Ok}
use Rattle.std.specs.Prelude.{unwrap_or, ◌==◌}
use Rattle.std.specs.Bool.{then_some}
use Rattle.std.specs.Option.{option_map_or, option_and_then, option_map, option_or}
use Rattle.std.proofs.lemmas.Option.{same_Some}
use Rattle.std.proofs.lemmas.Bool.{or_parts}
use Rattle.ftp_options.specs.Modes.{is_control_port}
use Rattle.ftp_events.specs.declared.event.Answer.TheVariants.{Header}
use Rattle.ftp_events.specs.declared.event.EventKind.TheVariants as kind
use Rattle.ftp_events.specs.Classes.{is_stop}
use Rattle.ftp_events.specs.Log.{is_stopped}
use Rattle.ftp_events.specs.Isolation.{owner, is_common}
use Rattle.ftp_laws.proofs.Common.{IpAddr, same_ip, Options, is_legacy, Entry, EventKind, Answer, Opening, is_number, past_of, is_refusal, named_session, opening_by, opener, Target, target, is_client, gives_hold, granted_port, comes_to, ends_hold, holder, holder_of_target, concerns, opens, history, lane, session, running_job, due, decide, IsRight, client_log}
use Rattle.ftp_laws.proofs.SubjectLemmas.{concerns-plain, ends-plain}
use Rattle.ftp_laws.proofs.StopLemmas.{stop-kind}
use Rattle.ftp_laws.proofs.QuestionLemmas.{opener-other, session-told, history-other}
use Rattle.ftp_laws.proofs.HoldLemmas.{WaitsFor, holder-waits, same_ip-equal, same_ip-refl, number-is}
use Rattle.ftp_laws.proofs.TableLemmas.{and-zero, same-both}
use Rattle.ftp_laws.proofs.Cases.{by_test}

-- the session is one of client a
abbrev pub is_of : List Entry → ℕ → IpAddr → Bool
is_of past s a = is_client past (Some s) a

-- the two pasts tell the same of client a
pub record Alike (o : Options) (P K : List Entry) (a : IpAddr) : Type 0 where
  pub openers : (s : ℕ) → is_of P s a ≡ true → opener K s ≡ opener P s
  pub histories : (s : ℕ) → is_of P s a ≡ true → history o K s ≡ history o P s
  pub holders : (p : ℕ) → holder o K a p ≡ holder o P a p

-- so they tell the same of its sessions
pub sessions-alike :
    (o : Options) (P K : List Entry) (a : IpAddr) (s : ℕ) →
    Alike o P K a → is_of P s a ≡ true →
    session o K s ≡ session o P s
sessions-alike o P K a s l w = rw (l.openers s w, l.histories s w) refl

-- and of the jobs that run
pub jobs-alike :
    (o : Options) (P K : List Entry) (a : IpAddr) (s : ℕ) →
    Alike o P K a → is_of P s a ≡ true →
    running_job o K s ≡ running_job o P s
jobs-alike o P K a s l w = ap (λ h. (lane h).running) (l.histories s w)

-- the owner of what a session does is its client
pub owner-at :
    (past : List Entry) (a : IpAddr) (m s : ℕ) →
    Some m ≡ Some s →
    option_map_or (λ client. same_ip client a) (option_map (λ (opening : Opening). opening.client) (opener past m)) false ≡ is_of past s a
owner-at past a m s e = rw (same_Some m s e) (owned (opener past s))
  where
    owned :
        (x : Option Opening) →
        option_map_or (λ client. same_ip client a) (option_map (λ (opening : Opening). opening.client) x) false ≡ option_map_or (λ opening. same_ip opening.client a) x false
    owned None = refl
    owned (Some op) = refl

-- the owner of an event that names a session is the session's client
pub owner-named :
    (past : List Entry) (k : EventKind) (answer : Answer) (a : IpAddr) (s : ℕ) →
    named_session k ≡ Some s →
    option_map_or (λ client. same_ip client a) (owner past k answer) false ≡ is_of past s a
owner-named past (kind.Connect s raw local trace) w a n e = cc
owner-named past (kind.Proxied number raw trace) w a n e = cc
owner-named past (kind.DataIn number raw port) w a n e = cc
owner-named past kind.Sweep w a n e = cc
owner-named past kind.Scavenge w a n e = cc
owner-named past kind.Shutdown w a n e = cc
owner-named past k w a n e = owner-at past a _ n e

-- the owner of a data connection is the client that it comes from
pub owner-target :
    (o : Options) (past : List Entry) (k : EventKind) (answer : Answer) (t : Target) →
    target o k answer ≡ Some t →
    owner past k answer ≡ Some t.client
owner-target o past (kind.DataIn number raw port) w t e = ap Some (ap (λ (x : Target). x.client) (same_Some _ _ e))
owner-target o past (kind.Proxied number raw trace) (Header (Ok line)) t e = by_port (is_control_port o.mode line.destination.port) e
  where
    by_port :
        (c : Bool) →
        cond c None (Some (record { client = line.source.ip; port = line.destination.port })) ≡ Some t →
        Some line.source.ip ≡ Some t.client
    by_port true x = cc
    by_port false x = ap Some (ap (λ (y : Target). y.client) (same_Some _ _ x))
owner-target o past k w t e = cc

-- the owner of an event is client a
abbrev pub is_owned : List Entry → EventKind → Answer → IpAddr → Bool
is_owned P k answer a = option_map_or (λ client. same_ip client a) (owner P k answer) false

-- an entry of client a, or of all clients, after a past
abbrev pub is_kept : List Entry → Entry → IpAddr → Bool
is_kept P e a = is_common e.event.kind || is_owned P e.event.kind e.answer a

-- an entry of another client is not client a's
pub foreign-owner :
    (P : List Entry) (e : Entry) (a : IpAddr) →
    is_kept P e a ≡ false → is_owned P e.event.kind e.answer a ≡ false
foreign-owner P e a f = (or_parts (is_common e.event.kind) (is_owned P e.event.kind e.answer a) f).1

-- an entry that is kept, and is not of all clients, is client a's
kept-owner :
    (P : List Entry) (e : Entry) (a : IpAddr) →
    is_kept P e a ≡ true → is_common e.event.kind ≡ false →
    is_owned P e.event.kind e.answer a ≡ true
kept-owner P e a k c = sym (ap (λ b. b || is_owned P e.event.kind e.answer a) c) ∙ k

-- what names a session is not of all clients
named-own : (k : EventKind) (s : ℕ) → named_session k ≡ Some s → is_common k ≡ false
named-own kind.Sweep s n = cc
named-own kind.Scavenge s n = cc
named-own kind.Shutdown s n = cc
named-own k s n = refl

-- nor is a data connection
target-own : (o : Options) (k : EventKind) (answer : Answer) (t : Target) → target o k answer ≡ Some t → is_common k ≡ false
target-own o kind.Sweep answer t n = cc
target-own o kind.Scavenge answer t n = cc
target-own o kind.Shutdown answer t n = cc
target-own o k answer t n = refl

-- an entry of another client names no session of client a
pub foreign-name :
    (P : List Entry) (e : Entry) (a : IpAddr) (s : ℕ) →
    is_kept P e a ≡ false → is_of P s a ≡ true →
    is_number (named_session e.event.kind) s ≡ false
foreign-name P e a s f w = go (is_number (named_session e.event.kind) s) refl
  where
    go : (b : Bool) → is_number (named_session e.event.kind) s ≡ b → b ≡ false
    go false x = refl
    go true x = sym w ∙ (sym (owner-named P e.event.kind e.answer a s (number-is _ s x)) ∙ foreign-owner P e a f)

-- its target, if it has one, is not client a's
pub foreign-target :
    (o : Options) (P : List Entry) (e : Entry) (a : IpAddr) (t : Target) →
    is_kept P e a ≡ false →
    target o e.event.kind e.answer ≡ Some t →
    same_ip t.client a ≡ false
foreign-target o P e a t f x = subst (λ (y : Option IpAddr). option_map_or (λ client. same_ip client a) y false ≡ false) (owner-target o P e.event.kind e.answer t x) (foreign-owner P e a f)

-- the holder of a key of client b is a session of b
pub holder-of :
    (o : Options) (log : List Entry) (b : IpAddr) (p s : ℕ) →
    is_legacy o.mode ≡ false → IsRight o log →
    holder o (past_of log) b p ≡ Some s →
    is_of (past_of log) s b ≡ true
holder-of o log b p s m r h =
    let w : WaitsFor o (past_of log) s b p = holder-waits o log m r b p s h in
    subst (λ (x : Option Opening). option_map_or (λ opening. same_ip opening.client b) x false ≡ true) (sym (session-told o (past_of log) s w.view w.known).opening) w.client

-- a session is of one client
pub of-one :
    (P : List Entry) (s : ℕ) (a b : IpAddr) →
    is_of P s a ≡ true → is_of P s b ≡ true → b ≡ a
of-one P s a b x y = go (opener P s) x y
  where
    go :
        (op : Option Opening) →
        option_map_or (λ opening. same_ip opening.client a) op false ≡ true →
        option_map_or (λ opening. same_ip opening.client b) op false ≡ true →
        b ≡ a
    go None x y = absurd (true≢false (sym x))
    go (Some op) x y = sym (same_ip-equal _ _ y) ∙ same_ip-equal _ _ x

-- an entry of another client does not come for what a session of client a holds
pub foreign-comes :
    (o : Options) (log : List Entry) (e : Entry) (a : IpAddr) (s : ℕ) →
    is_legacy o.mode ≡ false → IsRight o log →
    is_kept (past_of log) e a ≡ false →
    is_of (past_of log) s a ≡ true →
    is_number (holder_of_target o (past_of log) e.event.kind e.answer) s ≡ false
foreign-comes o log e a s m r f w = go (target o e.event.kind e.answer) refl
  where
    by_holder :
        (t : Target) →
        target o e.event.kind e.answer ≡ Some t →
        (b : Bool) →
        is_number (holder o (past_of log) t.client t.port) s ≡ b →
        b ≡ false
    by_holder t x false y = refl
    by_holder t x true y =
        let mine : t.client ≡ a = of-one (past_of log) s a t.client w (holder-of o log t.client t.port s m r (number-is _ s y)) in
        sym (same_ip-refl a) ∙ subst (λ (b : IpAddr). same_ip b a ≡ false) mine (foreign-target o (past_of log) e a t f x)

    go :
        (t : Option Target) →
        target o e.event.kind e.answer ≡ t →
        is_number (option_and_then (λ t. holder o (past_of log) t.client t.port) t) s ≡ false
    go None x = refl
    go (Some t) x = by_holder t x (is_number (holder o (past_of log) t.client t.port) s) refl

-- a number that is neither of two
pub or-number-false :
    (a b : Option ℕ) (s : ℕ) → is_number a s ≡ false →
    is_number b s ≡ false →
    is_number (option_or a b) s ≡ false
or-number-false None b s x y = y
or-number-false (Some n) b s x y = x

-- an entry of another client is no stop
foreign-plain :
    (o : Options) (P : List Entry) (e : Entry) (a : IpAddr) →
    e.decision ≡ due o P e.event.at e.event.kind e.answer → is_kept P e a ≡ false →
    is_stop e.decision ≡ false
foreign-plain o P e a fit f =
    by_test (is_stop e.decision)
    (λ n.
    let common : is_common e.event.kind ≡ true = ap is_common (stop-kind o P e fit n) in
    absurd (true≢false (sym common ∙ (or_parts (is_common e.event.kind) (is_owned P e.event.kind e.answer a) f).0)))
    (λ n. n)

-- so an entry of another client concerns no session of client a
pub foreign-concerns :
    (o : Options) (log : List Entry) (e : Entry) (a : IpAddr) (s : ℕ) →
    is_legacy o.mode ≡ false → IsRight o log →
    e.decision ≡ due o (past_of log) e.event.at e.event.kind e.answer →
    is_kept (past_of log) e a ≡ false →
    is_of (past_of log) s a ≡ true →
    concerns o (past_of log) e s ≡ false
foreign-concerns o log e a s m r fit f w =
    concerns-plain o (past_of log) e s (foreign-plain o (past_of log) e a fit f) ∙
    or-number-false (named_session e.event.kind) (holder_of_target o (past_of log) e.event.kind e.answer) s (foreign-name (past_of log) e a s f w) (foreign-comes o log e a s m r f w)

-- whoever opens a session owns the entry
pub opening-owner :
    (P : List Entry) (k : EventKind) (answer : Answer) (op : Opening) →
    opening_by k answer ≡ Some op →
    owner P k answer ≡ Some op.client
opening-owner P (kind.Connect s raw local trace) w op e = ap (λ (x : Opening). Some x.client) (same_Some _ _ e)
opening-owner P (kind.Proxied number raw trace) (Header (Ok line)) op e = ap (λ (x : Opening). Some x.client) (same_Some _ _ e)
opening-owner P k w op e = cc

-- the session's client, where the newest entry does not open it
pub of-before :
    (P : List Entry) (e : Entry) (s : ℕ) (a : IpAddr) →
    opens e s ≡ false → is_of (e ∷ P) s a ≡ is_of P s a
of-before P e s a x = rw x refl

-- an entry of another client opens no session of client a
pub foreign-opens :
    (P : List Entry) (e : Entry) (a : IpAddr) (s : ℕ) →
    is_kept P e a ≡ false → is_of (e ∷ P) s a ≡ true →
    opens e s ≡ false
foreign-opens P e a s f w = go (opens e s) refl w
  where
    by_opening :
        (x : Option Opening) →
        opening_by e.event.kind e.answer ≡ x →
        option_map_or (λ opening. same_ip opening.client a) (unwrap_or (Some x) (opener P s)) false ≡ true →
        true ≡ false
    by_opening None x h = sym h
    by_opening (Some op) x h = sym h ∙ subst (λ (y : Option IpAddr). option_map_or (λ client. same_ip client a) y false ≡ false) (opening-owner P e.event.kind e.answer op x) (foreign-owner P e a f)

    go :
        (b : Bool) → opens e s ≡ b →
        option_map_or (λ opening. same_ip opening.client a) (unwrap_or (then_some b (opening_by e.event.kind e.answer)) (opener P s)) false ≡ true →
        b ≡ false
    go false x h = refl
    go true x h = by_opening (opening_by e.event.kind e.answer) refl h

-- the session that an entry of another client names is not of client a
pub foreign-client :
    (P : List Entry) (e : Entry) (a : IpAddr) →
    is_kept P e a ≡ false →
    is_client P (named_session e.event.kind) a ≡ false
foreign-client P e a f = go (named_session e.event.kind) refl
  where
    go : (n : Option ℕ) → named_session e.event.kind ≡ n → is_client P n a ≡ false
    go None x = refl
    go (Some s) x = sym (owner-named P e.event.kind e.answer a s x) ∙ foreign-owner P e a f

-- an entry of another client comes to no key of client a
pub foreign-arrival :
    (o : Options) (P : List Entry) (e : Entry) (a : IpAddr) (p : ℕ) →
    is_kept P e a ≡ false → comes_to o e a p ≡ false
foreign-arrival o P e a p f = go (target o e.event.kind e.answer) refl
  where
    go :
        (t : Option Target) →
        target o e.event.kind e.answer ≡ t →
        option_map_or (λ t. same_ip t.client a && (t.port == p)) t false ≡ false
    go None x = refl
    go (Some t) x = rw (foreign-target o P e a t f x) refl

-- it frees and gives no port of client a
pub foreign-holder :
    (o : Options) (log : List Entry) (e : Entry) (a : IpAddr) (p : ℕ) →
    is_legacy o.mode ≡ false → IsRight o log →
    e.decision ≡ due o (past_of log) e.event.at e.event.kind e.answer →
    is_kept (past_of log) e a ≡ false →
    holder o (e ∷ past_of log) a p ≡ holder o (past_of log) a p
foreign-holder o log e a p m r fit f = rw (gift, foreign-arrival o (past_of log) e a p f) (go (holder o (past_of log) a p) refl)
  where
    gift : gives_hold o (past_of log) e a p ≡ false
    gift = rw (foreign-client (past_of log) e a f, and-zero (is_number (granted_port e.decision) p), and-zero (not (is_legacy o.mode))) refl

    go :
        (h : Option ℕ) → holder o (past_of log) a p ≡ h →
        cond (option_map_or (ends_hold e) h false) None h ≡ h
    go None x = same-both (option_map_or (ends_hold e) None false) None
    go (Some h) x =
        let ends : ends_hold e h ≡ false = ends-plain e h (foreign-plain o (past_of log) e a fit f) ∙ rw (foreign-name (past_of log) e a h f (holder-of o log a p h m r x)) refl in
        ap (λ b. cond b None (Some h)) ends

-- an entry of another client leaves the two pasts alike
pub alike-foreign :
    (o : Options) (log K : List Entry) (e : Entry) (a : IpAddr) →
    is_legacy o.mode ≡ false → IsRight o log →
    e.decision ≡ due o (past_of log) e.event.at e.event.kind e.answer →
    is_kept (past_of log) e a ≡ false →
    Alike o (past_of log) K a →
    Alike o (e ∷ past_of log) K a
alike-foreign o log K e a m r fit f l =
    record {
      openers = λ s w. l.openers s (before s w) ∙ sym (opener-other (past_of log) e s (foreign-opens (past_of log) e a s f w));
      histories = λ s w. l.histories s (before s w) ∙ sym (history-other o (past_of log) e s (foreign-opens (past_of log) e a s f w) (foreign-concerns o log e a s m r fit f (before s w)));
      holders = λ p. l.holders p ∙ sym (foreign-holder o log e a p m r fit f);
    }
  where
    before : (s : ℕ) → is_of (e ∷ past_of log) s a ≡ true → is_of (past_of log) s a ≡ true
    before s w = sym (of-before (past_of log) e s a (foreign-opens (past_of log) e a s f w)) ∙ w

-- what an entry of client a names is a session of client a
pub kept-name :
    (P : List Entry) (e : Entry) (a : IpAddr) (s : ℕ) →
    is_kept P e a ≡ true →
    named_session e.event.kind ≡ Some s → is_of P s a ≡ true
kept-name P e a s k n = sym (owner-named P e.event.kind e.answer a s n) ∙ kept-owner P e a k (named-own e.event.kind s n)

-- what it comes for is a port of client a
pub kept-target :
    (o : Options) (P : List Entry) (e : Entry) (a : IpAddr) (t : Target) →
    is_kept P e a ≡ true →
    target o e.event.kind e.answer ≡ Some t → t.client ≡ a
kept-target o P e a t k x =
    same_ip-equal t.client a (subst (λ (y : Option IpAddr). option_map_or (λ client. same_ip client a) y false ≡ true) (owner-target o P e.event.kind e.answer t x) (kept-owner P e a k (target-own o e.event.kind e.answer t x)))

-- so both pasts have the same holder for it
pub kept-comes :
    (o : Options) (P K : List Entry) (e : Entry) (a : IpAddr) →
    is_kept P e a ≡ true → Alike o P K a →
    holder_of_target o K e.event.kind e.answer ≡ holder_of_target o P e.event.kind e.answer
kept-comes o P K e a k l = go (target o e.event.kind e.answer) refl
  where
    go :
        (t : Option Target) →
        target o e.event.kind e.answer ≡ t →
        option_and_then (λ t. holder o K t.client t.port) t ≡ option_and_then (λ t. holder o P t.client t.port) t
    go None x = refl
    go (Some t) x = rw (kept-target o P e a t k x) (l.holders t.port)

-- and say the same of the client of the session that it names
pub kept-client :
    (o : Options) (P K : List Entry) (e : Entry) (a : IpAddr) →
    is_kept P e a ≡ true → Alike o P K a →
    is_client K (named_session e.event.kind) a ≡ is_client P (named_session e.event.kind) a
kept-client o P K e a k l = go (named_session e.event.kind) refl
  where
    go : (n : Option ℕ) → named_session e.event.kind ≡ n → is_client K n a ≡ is_client P n a
    go None x = refl
    go (Some s) x = ap (λ op. option_map_or (λ opening. same_ip opening.client a) op false) (l.openers s (kept-name P e a s k x))

-- an entry of client a leaves the two pasts alike
pub alike-kept :
    (o : Options) (P K : List Entry) (e : Entry) (a : IpAddr) →
    is_kept P e a ≡ true → Alike o P K a →
    Alike o (e ∷ P) (e ∷ K) a
alike-kept o P K e a k l =
    record {
      openers = λ s w. by_opener s (opens e s) refl w;
      histories = λ s w. by_history s (opens e s) refl w;
      holders = λ p. rw (kept-client o P K e a k l, l.holders p) refl;
    }
  where
    by_opener :
        (s : ℕ) (b : Bool) → opens e s ≡ b →
        is_of (e ∷ P) s a ≡ true →
        opener (e ∷ K) s ≡ opener (e ∷ P) s
    by_opener s false x w = rw x (l.openers s (sym (of-before P e s a x) ∙ w))
    by_opener s true x w = rw x refl

    by_history :
        (s : ℕ) (b : Bool) → opens e s ≡ b →
        is_of (e ∷ P) s a ≡ true →
        history o (e ∷ K) s ≡ history o (e ∷ P) s
    by_history s true x w = rw x refl
    by_history s false x w = rw (x, kept-comes o P K e a k l, l.histories s (sym (of-before P e s a x) ∙ w)) refl

-- two empty pasts tell the same
pub alike-empty : (o : Options) (a : IpAddr) → Alike o [] [] a
alike-empty o a = record { openers = λ s w. refl; histories = λ s w. refl; holders = λ p. refl }

-- where there is no legacy listener, of every right log the client's part tells the same of the client's sessions and ports as the whole
pub alike :
    (o : Options) (log : List Entry) (a : IpAddr) →
    is_legacy o.mode ≡ false → IsRight o log →
    Alike o (past_of log) (past_of (client_log log a)) a
unfolding decide
alike o [] a m r = alike-empty o a
alike o (e ∷ log) a m r = by_refusal (is_refusal e.decision) refl (is_kept (past_of log) e a) refl (alike o log a m r.0)
  where
    by_refusal :
        (b : Bool) → is_refusal e.decision ≡ b →
        (c : Bool) → is_kept (past_of log) e a ≡ c →
        Alike o (past_of log) (past_of (client_log log a)) a →
        Alike o (past_of (e ∷ log)) (past_of (client_log (e ∷ log) a)) a
    by_refusal true x true y l = rw (y, x) l
    by_refusal true x false y l = rw (y, x) l
    by_refusal false x true y l = rw (y, x) (alike-kept o (past_of log) (past_of (client_log log a)) e a y l)
    by_refusal false x false y l = rw (y, x) (alike-foreign o log (past_of (client_log log a)) e a m r.0 r.1 y l)

-- a stop is in both or in neither
pub stopped-alike :
    (o : Options) (log : List Entry) (a : IpAddr) → IsRight o log →
    is_stopped (past_of (client_log log a)) ≡ is_stopped (past_of log)
unfolding decide
stopped-alike o [] a r = refl
stopped-alike o (e ∷ log) a r = by_refusal (is_refusal e.decision) refl (is_kept (past_of log) e a) refl (stopped-alike o log a r.0)
  where
    by_refusal :
        (b : Bool) → is_refusal e.decision ≡ b →
        (c : Bool) → is_kept (past_of log) e a ≡ c →
        is_stopped (past_of (client_log log a)) ≡ is_stopped (past_of log) →
        is_stopped (past_of (client_log (e ∷ log) a)) ≡ is_stopped (past_of (e ∷ log))
    by_refusal true x true y l = rw (y, x) l
    by_refusal true x false y l = rw (y, x) l
    by_refusal false x true y l = rw (y, x) (ap (λ b. is_stop e.decision || b) l)
    by_refusal false x false y l = rw (y, x, foreign-plain o (past_of log) e a r.1 y) l
