-- What an entry of a right and acted log makes of what is known of sessions.
use Rattle.std.proofs.Common.{◌≡◌, refl, sym, ◌∙◌, ap, subst, ℕ, Bool, true, false, true≢false, ◌||◌, cond, List, [], ◌∷◌, Option, Some, None, eqb-true, arith}
use Rattle.std.specs.Prelude.{◌==◌, not, ◌&&◌, Ok, Err}
use Rattle.std.specs.Option.{option_map, option_or}
use Rattle.std.proofs.lemmas.Bool.{or_parts}
use Rattle.ftp_base.specs.Net.{is_v6}
use Rattle.ftp_base.specs.declared.net.IpAddr.{IpAddr}
use Rattle.ftp_base.specs.declared.net.SocketAddr.{SocketAddr}
use Rattle.ftp_options.specs.declared.options.Options.{Options}
use Rattle.ftp_options.specs.Modes.{is_pooled, is_proxy, is_control_port}
use Rattle.ftp_events.specs.declared.decision.Decision.{Decision}
use Rattle.ftp_events.specs.declared.decision.Decision.TheVariants as decision
use Rattle.ftp_events.specs.declared.decision.Life.{Life}
use Rattle.ftp_events.specs.declared.decision.Life.TheVariants.{Goes, Opens, Ends}
use Rattle.ftp_events.specs.declared.entry.Entry.{Entry}
use Rattle.ftp_events.specs.declared.event.Answer.{Answer}
use Rattle.ftp_events.specs.declared.event.Answer.TheVariants.{Header}
use Rattle.ftp_events.specs.declared.event.EventKind.{EventKind}
use Rattle.ftp_events.specs.declared.event.EventKind.TheVariants as kind
use Rattle.ftp_events.specs.declared.session.Opening.{Opening}
use Rattle.ftp_events.specs.declared.session.Session.{Session}
use Rattle.ftp_events.specs.Acts.{acts, acts_of}
use Rattle.ftp_events.specs.Board.{holder, holder_of_target}
use Rattle.ftp_events.specs.Classes.{ends, life, is_stop}
use Rattle.ftp_events.specs.ConnectionRows.{arrival_row, header_row, holder_row}
use Rattle.ftp_events.specs.Decide.{decide, due}
use Rattle.ftp_events.specs.History.{Nobody, One, concerns, meant, opens, subject}
use Rattle.ftp_events.specs.Log.{is_refusal, is_stopped, is_used, named_session, new_number, past_of}
use Rattle.ftp_events.specs.Modes.{in_range}
use Rattle.ftp_events.specs.Opening.{opened_number, opening_by}
use Rattle.ftp_events.specs.Right.{IsRight, IsActed}
use Rattle.ftp_events.specs.Session.{lives_on, new_session, running_job, session}
use Rattle.ftp_events.specs.Words.{is_number}
use Rattle.ftp_laws.proofs.Cases.{by_option, by_part, by_test}
use Rattle.ftp_laws.proofs.ClassLemmas.{opened-is, opens-is}
use Rattle.ftp_laws.proofs.DecisionLemmas.{IsLive}
use Rattle.ftp_laws.proofs.EndingLemmas.{ending-live}
use Rattle.ftp_laws.proofs.PortLemmas.{opened-subject, session-before}
use Rattle.ftp_laws.proofs.QuestionLemmas.{counting-refused, counting-counts, session-opened, session-other, session-own, session_by}
use Rattle.ftp_laws.proofs.StopLemmas.{session-stopped}
use Rattle.ftp_laws.proofs.SubjectLemmas.{named-one, nobody-concerns, one-concerns, one-own}
use Rattle.ftp_laws.proofs.TableLemmas.{same-both}
use Rattle.ftp_audit.specs.declared.guest.Guest.{Guest}
use Rattle.ftp_audit.specs.Guests.{guest_after, guest_by, guest_by_life, guest_in, guest_of}

-- the decisions that change nothing of a name, a login or a directory
abbrev pub is_quiet : Decision → Bool
is_quiet decision.NeedPass = false
is_quiet decision.PassOut = false
is_quiet (decision.LoginFailed lock delay) = false
is_quiet decision.LoggedIn = false
is_quiet decision.Opened = false
is_quiet decision.CwdOk = false
is_quiet _ = true

-- they leave what is known
pub guest-quiet : (k : EventKind) (d : Decision) (g : Guest) → is_quiet d ≡ true → guest_after k d g ≡ g
guest-quiet k decision.NeedPass g h = cc
guest-quiet k decision.PassOut g h = cc
guest-quiet k (decision.LoginFailed lock delay) g h = cc
guest-quiet k decision.LoggedIn g h = cc
guest-quiet k decision.Opened g h = cc
guest-quiet k decision.CwdOk g h = cc
guest-quiet k d g h = refl

-- so of every session
pub guests-quiet : (k : EventKind) (d : Decision) (g : Option Guest) → is_quiet d ≡ true → option_map (guest_after k d) g ≡ g
guests-quiet k d None h = refl
guests-quiet k d (Some g) h = ap Some (guest-quiet k d g h)

-- an entry with such a decision, by which a life goes on, changes nothing
pub guest_by-quiet :
    (e : Entry) (s : ℕ) (g : Option Guest) → life e.decision ≡ Goes → is_quiet e.decision ≡ true →
    guest_by e s g ≡ g
guest_by-quiet e s g l h =
    ap (λ (x : Life). guest_by_life x e s g) l
    ∙ (ap (λ (x : Option Guest). cond (is_number (named_session e.event.kind) s) x g) (guests-quiet e.event.kind e.decision g h)
    ∙ same-both (is_number (named_session e.event.kind) s) g)

-- a refusal is such a decision
pub refusal-quiet : (d : Decision) → is_refusal d ≡ true → (life d ≡ Goes) × (is_quiet d ≡ true)
refusal-quiet decision.UnknownNumber h = (refl, refl)
refusal-quiet decision.UsedNumber h = (refl, refl)
refusal-quiet decision.Misplaced h = (refl, refl)
refusal-quiet decision.NotExpected h = (refl, refl)
refusal-quiet d h = cc

-- so is one on a connection, where a life goes on
abbrev GoesQuietly : Decision → Type 0
GoesQuietly d = life d ≡ Goes → is_quiet d ≡ true

quiet-choice : (b : Bool) (x y : Decision) → GoesQuietly x → GoesQuietly y → GoesQuietly (cond b x y)
quiet-choice true x y h j = h
quiet-choice false x y h j = j

quiet-new : (strange used stopped : Bool) (d : Decision) → GoesQuietly d → GoesQuietly (cond strange decision.Misplaced (cond used decision.UsedNumber (cond stopped decision.Turned d)))
quiet-new strange used stopped d h =
    quiet-choice strange decision.Misplaced _ (λ l. refl)
    (quiet-choice used decision.UsedNumber _ (λ l. refl)
    (quiet-choice stopped decision.Turned d (λ l. refl) h))

quiet-holder : (o : Options) (past : List Entry) (raw : SocketAddr) (s : Option ℕ) → GoesQuietly (holder_row o past raw s)
quiet-holder o past raw None = λ l. refl
quiet-holder o past raw (Some s) = quiet-choice _ (decision.Attached s) decision.Turned (λ l. refl) (λ l. refl)

quiet-arrival : (o : Options) (past : List Entry) (raw : SocketAddr) (client : IpAddr) (port : ℕ) → GoesQuietly (arrival_row o past raw client port)
quiet-arrival o past raw client port =
    quiet-choice (not (in_range o port)) decision.Turned _ (λ l. refl) (quiet-holder o past raw (holder o past client port))

quiet-header : (o : Options) (past : List Entry) (raw : SocketAddr) (answer : Answer) → GoesQuietly (header_row o past raw answer)
quiet-header o past raw (Header (Ok line)) =
    quiet-choice (is_v6 line.source.ip || is_v6 line.destination.ip) decision.NotExpected _ (λ l. refl)
    (quiet-choice (is_control_port o.mode line.destination.port) decision.Opened _ (λ l. cc)
    (quiet-arrival o past raw line.source.ip line.destination.port))
quiet-header o past raw (Header (Err fault)) = λ l. refl
quiet-header o past raw answer = λ l. refl

-- what is decided on an event that names no session
unnamed-quiet :
    (o : Options) (past : List Entry) (at : ℕ) (k : EventKind) (answer : Answer) →
    named_session k ≡ None → GoesQuietly (due o past at k answer)
unnamed-quiet o past at (kind.Connect s raw local trace) answer n =
    quiet-new (is_proxy o.mode || (is_pooled o.mode && (is_v6 raw.ip || is_v6 local.ip))) (is_used past s) (is_stopped past) decision.Opened (λ l. cc)
unnamed-quiet o past at (kind.Proxied number raw trace) answer n =
    quiet-new (not (is_proxy o.mode) || is_v6 raw.ip) (is_used past number) (is_stopped past) (header_row o past raw answer) (quiet-header o past raw answer)
unnamed-quiet o past at (kind.DataIn number raw port) answer n =
    quiet-new (not (is_pooled o.mode) || is_v6 raw.ip) (is_used past number) (is_stopped past) (arrival_row o past raw raw.ip port) (quiet-arrival o past raw raw.ip port)
unnamed-quiet o past at kind.Sweep answer n = λ l. refl
unnamed-quiet o past at kind.Scavenge answer n = λ l. refl
unnamed-quiet o past at kind.Shutdown answer n = λ l. cc
unnamed-quiet o past at k answer n = cc

-- what opens a session tells how it came, and its number
opening-is :
    (o : Options) (past : List Entry) (at : ℕ) (k : EventKind) (answer : Answer) →
    due o past at k answer ≡ decision.Opened →
    (s : ℕ) × (opening : Opening) × (opened_number k decision.Opened ≡ Some s) × (opening_by k answer ≡ Some opening)
opening-is o past at (kind.Connect s raw local trace) answer h = (s, record { raw = raw; local = local; client = raw.ip; trace = trace }, refl, refl)
opening-is o past at (kind.Proxied number raw trace) (Header (Ok line)) h =
    (number, record { raw = raw; local = line.destination; client = line.source.ip; trace = trace }, refl, refl)
opening-is o past at k answer h = absurd (none (due-other h))
  where
    none : ⊥ → ⊥
    none x = x

    due-other : due o past at k answer ≡ decision.Opened → ⊥
    due-other x = grind arith

-- what concerns a session and is no stop names it, or nobody
named-or-nobody :
    (o : Options) (past : List Entry) (e : Entry) (q : ℕ) →
    is_stop e.decision ≡ false → concerns o past e q ≡ true → is_number (named_session e.event.kind) q ≡ false →
    named_session e.event.kind ≡ None
named-or-nobody o past e q plain c n = go (named_session e.event.kind) refl
  where
    go : (x : Option ℕ) → named_session e.event.kind ≡ x → x ≡ None
    go None x = refl
    go (Some s) x =
        let mine : is_number (option_or (named_session e.event.kind) (holder_of_target o past e.event.kind e.answer)) q ≡ true = sym (ap (λ b. b || is_number (meant o past e) q) plain) ∙ c in
        let yes : (s == q) ≡ true = sym (ap (λ (y : Option ℕ). is_number (option_or y (holder_of_target o past e.event.kind e.answer)) q) x) ∙ mine in
        let no : (s == q) ≡ false = sym (ap (λ (y : Option ℕ). is_number y q) x) ∙ n in
        absurd (true≢false (sym yes ∙ no))

-- what does not concern a session does not name it
unconcerned-unnamed :
    (o : Options) (past : List Entry) (e : Entry) (q : ℕ) →
    concerns o past e q ≡ false → is_number (named_session e.event.kind) q ≡ false
unconcerned-unnamed o past e q c = go (named_session e.event.kind) refl
  where
    other : is_number (meant o past e) q ≡ false
    other = (or_parts (is_stop e.decision) (is_number (meant o past e) q) c).1

    go : (x : Option ℕ) → named_session e.event.kind ≡ x → is_number x q ≡ false
    go None x = refl
    go (Some s) x = sym (ap (λ (y : Option ℕ). is_number (option_or y (holder_of_target o past e.event.kind e.answer)) q) x) ∙ other

-- of an entry that counts and comes after a right log, with its actions
module _ (o : Options) (past : List Entry) (e : Entry) (fit : e.decision ≡ due o past e.event.at e.event.kind e.answer) where
  -- what is known of session q before it
  abbrev before : ℕ → Option Guest
  before q = option_map guest_of (session o past q)

  -- a session opens
  opened-guest :
      (q : ℕ) → life e.decision ≡ Opens → e.actions ≡ acts_of o past e → is_refusal e.decision ≡ false →
      option_map guest_of (session o (e ∷ past) q) ≡ guest_by_life Opens e q (before q)
  opened-guest q l acted counts =
      by_test (s == q)
      (λ x.
      let here : number_is_q ≡ true = ap (λ (n : Option ℕ). is_number n q) number ∙ x in
      let opens_it : session o (e ∷ past) q ≡ Some (new_session e.event.at opening) = subst (λ (r : ℕ). session o (e ∷ past) r ≡ Some (new_session e.event.at opening)) (eqb-true s q x) (session-opened o past e s opening (ap (opened_number e.event.kind) d ∙ known.2) d known.3 silent) in
      ap (option_map guest_of) opens_it ∙ rw (here, known.3) refl)
      (λ x.
      let elsewhere : number_is_q ≡ false = ap (λ (n : Option ℕ). is_number n q) number ∙ x in
      let not_opened : opens e q ≡ false = ap (λ (n : Option ℕ). is_number n q) (ap (opened_number e.event.kind) d ∙ known.2) ∙ x in
      ap (option_map guest_of) (session-other o past e q not_opened (nobody-concerns o past e q about)) ∙ rw elsewhere refl)
    where
      d : e.decision ≡ decision.Opened
      d = opens-is e.decision l

      known : (s : ℕ) × (opening : Opening) × (opened_number e.event.kind decision.Opened ≡ Some s) × (opening_by e.event.kind e.answer ≡ Some opening)
      known = opening-is o past e.event.at e.event.kind e.answer (sym fit ∙ d)

      s : ℕ
      s = known.0

      opening : Opening
      opening = known.1

      number_is_q : Bool
      number_is_q = is_number (new_number e.event.kind e.decision) q

      number : new_number e.event.kind e.decision ≡ Some s
      number = ap (new_number e.event.kind) d ∙ known.2

      about : subject o past e ≡ Nobody
      about = opened-subject o past e d (sym fit ∙ d)

      silent : e.actions ≡ []
      silent = acted ∙ rw (counts, about, d) refl

  -- a session ends, or all of them
  ended-guest :
      (q : ℕ) → life e.decision ≡ Ends →
      option_map guest_of (session o (e ∷ past) q) ≡ guest_by_life Ends e q (before q)
  ended-guest q l =
      by_test (is_stop e.decision)
      (λ stop. ap (option_map guest_of) (session-stopped o past e q stop) ∙ rw stop refl)
      (λ plain.
      let alive : IsLive o past e.event.kind = ending-live o past e.event.at e.event.kind e.answer (ap is_stop (sym fit) ∙ plain) (ap (λ d. ends (life d)) (sym fit) ∙ ap ends l) in
      let s : ℕ = alive.number in
      let about : subject o past e ≡ One s = named-one o past e s plain alive.named in
      let dies : lives_on e.decision ≡ false = rw l refl in
      by_test (s == q)
      (λ x.
      let here : s ≡ q = eqb-true s q x in
      let gone : session o (e ∷ past) s ≡ None = session-own o past e s alive.session_then alive.known (unopened s) (one-own o past e s about) ∙ rw dies refl in
      ap (option_map guest_of) (subst (λ (r : ℕ). session o (e ∷ past) r ≡ None) here gone) ∙ rw (plain, alive.named, x) refl)
      (λ x.
      ap (option_map guest_of) (session-other o past e q (unopened q) (one-concerns o past e s q about ∙ x)) ∙ rw (plain, alive.named, x) refl))
    where
      unopened : (r : ℕ) → opens e r ≡ false
      unopened r =
          by_test (opens e r)
          (λ n. let z : Opens ≡ Ends = sym (ap life (opened-is e.event.kind e.decision r n)) ∙ l in cc)
          (λ n. n)

  -- a session goes on
  gone-guest :
      (q : ℕ) → life e.decision ≡ Goes →
      option_map guest_of (session o (e ∷ past) q) ≡ guest_by_life Goes e q (before q)
  gone-guest q l =
      by_part o past e q
      (λ n. let z : Opens ≡ Goes = sym (ap life (opened-is e.event.kind e.decision q n)) ∙ l in cc)
      (λ n c.
      by_option (session o past q)
      (λ none.
      let still : session o (e ∷ past) q ≡ None =
      by_option (session o (e ∷ past) q) (λ y. y)
      (λ v y. let z : None ≡ Some (session-before o past e q v fit n c y).before = sym none ∙ (session-before o past e q v fit n c y).known in cc) in
      ap (option_map guest_of) still ∙ rw none (sym (same-both (is_number (named_session e.event.kind) q) None)))
      (λ v known.
      let after : session o (e ∷ past) q ≡ Some (session_by q e (running_job o past q) v) = session-own o past e q v known n c ∙ rw lives refl in
      ap (option_map guest_of) after ∙ rw known (told q v c)))
      (λ n c.
      let unnamed : is_number (named_session e.event.kind) q ≡ false = unconcerned-unnamed o past e q c in
      ap (option_map guest_of) (session-other o past e q n c) ∙ rw unnamed refl)
    where
      lives : lives_on e.decision ≡ true
      lives = rw l refl

      plain : is_stop e.decision ≡ false
      plain = go e.decision l
        where
          go : (d : Decision) → life d ≡ Goes → is_stop d ≡ false
          go decision.Stopped h = cc
          go d h = refl

      told :
          (q : ℕ) (v : Session) → concerns o past e q ≡ true →
          Some (guest_after e.event.kind e.decision (guest_of v))
          ≡ cond (is_number (named_session e.event.kind) q) (Some (guest_after e.event.kind e.decision (guest_of v))) (Some (guest_of v))
      told q v c =
          by_test (is_number (named_session e.event.kind) q)
          (λ x. rw x refl)
          (λ x.
          let nobody : named_session e.event.kind ≡ None = named-or-nobody o past e q plain c x in
          let quiet : is_quiet e.decision ≡ true = subst (λ (d : Decision). life d ≡ Goes → is_quiet d ≡ true) (sym fit) (unnamed-quiet o past e.event.at e.event.kind e.answer nobody) l in
          ap Some (guest-quiet e.event.kind e.decision (guest_of v) quiet) ∙ rw x refl)

-- after an entry of a right and acted log what is known of a session is what the log tells with it
pub guest_in-more :
    (o : Options) (log : List Entry) (e : Entry) (q : ℕ) →
    IsRight o (e ∷ log) → IsActed o (e ∷ log) →
    guest_in o (e ∷ log) q ≡ guest_by e q (guest_in o log q)
unfolding decide acts
guest_in-more o log e q r a =
    by_test (is_refusal e.decision)
    (λ x.
    let quiet = refusal-quiet e.decision x in
    ap (λ (past : List Entry). option_map guest_of (session o past q)) (counting-refused e log x)
    ∙ sym (guest_by-quiet e q (guest_in o log q) quiet.0 quiet.1))
    (λ x. ap (λ (past : List Entry). option_map guest_of (session o past q)) (counting-counts e log x) ∙ by_turn x (life e.decision) refl)
  where
    by_turn :
        is_refusal e.decision ≡ false → (l : Life) → life e.decision ≡ l →
        option_map guest_of (session o (e ∷ past_of log) q) ≡ guest_by_life l e q (guest_in o log q)
    by_turn x Opens l = opened-guest o (past_of log) e r.1 q l a.1 x
    by_turn x Ends l = ended-guest o (past_of log) e r.1 q l
    by_turn x Goes l = gone-guest o (past_of log) e r.1 q l
