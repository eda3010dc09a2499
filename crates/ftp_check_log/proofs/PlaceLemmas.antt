-- How what is held changes from place to place of a log.
use Rattle.std.proofs.Common.{◌≡◌, refl, sym, ◌∙◌, ap, ℕ, zero, suc, ◌+◌, ◌-◌, ◌<◌, ◌≤◌, Bool, true, false, true≢false, not, ◌&&◌, ◌||◌, cond, List, [], ◌∷◌, ◌++◌, length, take, reverse, Option, Some, None, arith, get_or}
use Rattle.std.specs.Prelude.{slice_get}
use Rattle.std.specs.Option.{option_map, option_map_or}
use Rattle.std.proofs.Math.Logic.{⊎_elim}
use Rattle.std.proofs.Math.Seq.{take-suc}
use Rattle.std.proofs.lemmas.Bool.{and_parts}
use Rattle.std.proofs.lemmas.List.{reverse-append, take_all}
use Rattle.std.proofs.lemmas.Option.{slice_get_within, get_or_from_slice_get, slice_get_cases}
use Rattle.ftp_base.specs.declared.net.IpAddr.{IpAddr}
use Rattle.ftp_events.specs.declared.decision.Decision.TheVariants as decision
use Rattle.ftp_events.specs.Classes.{is_stop}
use Rattle.ftp_events.specs.Log.{is_stopped}
use Rattle.ftp_laws.proofs.Common.{Options, is_legacy, Decision, Entry, Opening, is_number, named_session, past_of, is_refusal, granted_port, is_client, gives_hold, comes_to, ends_hold, holder, opener, opened_number, opening_by}
use Rattle.ftp_laws.proofs.QuestionLemmas.{counting-counts, counting-refused}
use Rattle.ftp_laws.proofs.ClassLemmas.{opened-is}
use Rattle.ftp_laws.proofs.Cases.{by_test, by_option}
use Rattle.ftp_check_log.specs.Evidence.{past_at, holder_before, Grants, Releases}

-- with one entry more, it is the newest of those that are taken
pub reversed-more :
    (log : List Entry) (k : ℕ) (e : Entry) →
    slice_get log k ≡ Some e →
    reverse (take (k + 1) log) ≡ e ∷ reverse (take k log)
reversed-more log k e at =
    let within : k < length log = slice_get_within log k e at in
    let taken : take (suc k) log ≡ take k log ++ (get_or log k e ∷ []) = take-suc log k e within in
    let next : k + 1 ≡ suc k = omega arith in
    ap (λ (n : ℕ). reverse (take n log)) next ∙ (ap reverse taken ∙ (reverse-append (take k log) (get_or log k e ∷ []) ∙ ap (λ (x : Entry). x ∷ reverse (take k log)) (get_or_from_slice_get log k e e at)))

-- an entry stands at each place of a log
pub entry-there : (log : List Entry) (k : ℕ) → k < length log → (e : Entry) × (slice_get log k ≡ Some e)
entry-there log k below = ⊎_elim (λ w. (w.0, w.2)) (λ w. absurd (omega (arith, w.0, below))) (slice_get_cases log k).1

-- an entry that counts comes to the past
pub past-counts :
    (log : List Entry) (k : ℕ) (e : Entry) →
    slice_get log k ≡ Some e → is_refusal e.decision ≡ false →
    past_at log (k + 1) ≡ e ∷ past_at log k
past-counts log k e at counts = ap past_of (reversed-more log k e at) ∙ counting-counts e (reverse (take k log)) counts

-- one that was refused does not
pub past-refused :
    (log : List Entry) (k : ℕ) (e : Entry) →
    slice_get log k ≡ Some e → is_refusal e.decision ≡ true →
    past_at log (k + 1) ≡ past_at log k
past-refused log k e at refused = ap past_of (reversed-more log k e at) ∙ counting-refused e (reverse (take k log)) refused

-- who holds a port after an entry that counts and does not grant it
pub holder-counts :
    (o : Options) (log : List Entry) (k : ℕ) (a : IpAddr) (p : ℕ) (e : Entry) →
    slice_get log k ≡ Some e → is_refusal e.decision ≡ false →
    gives_hold o (past_at log k) e a p ≡ false →
    holder_before o log (k + 1) a p ≡
    cond (comes_to o e a p) None (cond (option_map_or (ends_hold e) (holder_before o log k a p) false) None (holder_before o log k a p))
holder-counts o log k a p e at counts none = rw (past-counts log k e at counts, none) refl

-- nothing is granted by an entry that does not grant it
pub ungranted :
    (o : Options) (log : List Entry) (k : ℕ) (a : IpAddr) (p : ℕ) (e : Entry) →
    slice_get log k ≡ Some e → is_refusal e.decision ≡ false →
    (Grants o log a p k → ⊥) →
    gives_hold o (past_at log k) e a p ≡ false
ungranted o log k a p e at counts none =
    by_test (gives_hold o (past_at log k) e a p) (λ gives. absurd (none (e, at, counts, gives))) (λ x. x)

-- a hold stays behind an entry that neither grants the port nor ends the hold
pub hold-stays :
    (o : Options) (log : List Entry) (k : ℕ) (a : IpAddr) (p s : ℕ) (e : Entry) →
    slice_get log k ≡ Some e → (Grants o log a p k → ⊥) →
    (not (is_refusal e.decision) && (comes_to o e a p || ends_hold e s)) ≡ false →
    holder_before o log k a p ≡ Some s →
    holder_before o log (k + 1) a p ≡ Some s
hold-stays o log k a p s e at none stays held =
    by_test (is_refusal e.decision)
    (λ refused. ap (λ past. holder o past a p) (past-refused log k e at refused) ∙ held)
    (λ counts.
    let on : (comes_to o e a p || ends_hold e s) ≡ false = sym (rw counts refl) ∙ stays in
    go counts (comes_to o e a p) (ends_hold e s) refl refl on)
  where
    go :
        is_refusal e.decision ≡ false → (b c : Bool) →
        comes_to o e a p ≡ b → ends_hold e s ≡ c → (b || c) ≡ false →
        holder_before o log (k + 1) a p ≡ Some s
    go counts false false x y z = holder-counts o log k a p e at counts (ungranted o log k a p e at counts none) ∙ rw (x, held, y) refl
    go counts true c x y z = absurd (true≢false z)
    go counts false true x y z = absurd (true≢false z)

-- it is over behind one that ends it
pub hold-ends :
    (o : Options) (log : List Entry) (k : ℕ) (a : IpAddr) (p s : ℕ) (e : Entry) →
    slice_get log k ≡ Some e → (Grants o log a p k → ⊥) →
    (not (is_refusal e.decision) && (comes_to o e a p || ends_hold e s)) ≡ true →
    holder_before o log k a p ≡ Some s →
    holder_before o log (k + 1) a p ≡ None
hold-ends o log k a p s e at none ended held =
    let parts = and_parts (not (is_refusal e.decision)) (comes_to o e a p || ends_hold e s) ended in
    go (is_refusal e.decision) refl parts.0 (comes_to o e a p) (ends_hold e s) refl refl parts.1
  where
    go :
        (r : Bool) → is_refusal e.decision ≡ r → not r ≡ true → (b c : Bool) →
        comes_to o e a p ≡ b → ends_hold e s ≡ c → (b || c) ≡ true →
        holder_before o log (k + 1) a p ≡ None
    go true u n b c x y z = cc
    go false u n true c x y z = holder-counts o log k a p e at u (ungranted o log k a p e at u none) ∙ rw x refl
    go false u n false true x y z = holder-counts o log k a p e at u (ungranted o log k a p e at u none) ∙ rw (x, held, y) refl
    go false u n false false x y z = cc

-- beyond the end of a log nothing more is taken
beyond : (log : List Entry) (k : ℕ) → length log ≤ k → take (k + 1) log ≡ take k log
beyond log k h = take_all (k + 1) log (omega (arith, h)) ∙ sym (take_all k log h)

-- a port that nobody holds is free behind an entry that does not grant it
pub free-stays :
    (o : Options) (log : List Entry) (k : ℕ) (a : IpAddr) (p : ℕ) →
    (Grants o log a p k → ⊥) →
    holder_before o log k a p ≡ None →
    holder_before o log (k + 1) a p ≡ None
free-stays o log k a p none free =
    ⊎_elim
    (λ w.
    let at = w.2 in
    by_test (is_refusal w.0.decision)
    (λ refused. ap (λ past. holder o past a p) (past-refused log k w.0 at refused) ∙ free)
    (λ counts. holder-counts o log k a p w.0 at counts (ungranted o log k a p w.0 at counts none) ∙ rw free (nobody (comes_to o w.0 a p))))
    (λ w. ap (λ (l : List Entry). holder o (past_of (reverse l)) a p) (beyond log k w.0) ∙ free)
    (slice_get_cases log k).1
  where
    nobody : (b : Bool) → cond {A = Option ℕ} b None (cond false None None) ≡ None
    nobody true = refl
    nobody false = refl

-- so it is at every later place, where no entry between grants it
pub free-later :
    (o : Options) (log : List Entry) (a : IpAddr) (p i d : ℕ) →
    ((g : ℕ) → i ≤ g → g < i + d → Grants o log a p g → ⊥) →
    holder_before o log i a p ≡ None →
    holder_before o log (i + d) a p ≡ None
free-later o log a p i zero none free = ap (λ (n : ℕ). holder_before o log n a p) (omega arith) ∙ free
free-later o log a p i (suc d) none free =
    ap (λ (n : ℕ). holder_before o log n a p) (omega arith) ∙
    free-stays o log (i + d) a p (none (i + d) (omega arith) (omega arith)) (free-later o log a p i d (λ g x y. none g x (omega arith)) free)

-- the same between two places
pub free-until :
    (o : Options) (log : List Entry) (a : IpAddr) (p i k : ℕ) → i ≤ k →
    ((g : ℕ) → i ≤ g → g < k → Grants o log a p g → ⊥) →
    holder_before o log i a p ≡ None →
    holder_before o log k a p ≡ None
free-until o log a p i k within none free =
    ap (λ (n : ℕ). holder_before o log n a p) (omega arith) ∙ free-later o log a p i (k - i) (λ g x y. none g x (omega arith)) free

-- nobody holds a port that was never granted
pub free-first :
    (o : Options) (log : List Entry) (a : IpAddr) (p k : ℕ) →
    ((g : ℕ) → g < k → Grants o log a p g → ⊥) →
    holder_before o log k a p ≡ None
free-first o log a p k none = free-until o log a p 0 k (omega arith) (λ g x y. none g y) refl

-- a hold that no entry releases is one later, too
pub held-later :
    (o : Options) (log : List Entry) (a : IpAddr) (p i d s : ℕ) →
    ((r : ℕ) → i ≤ r → r < i + d → Releases o log a p r → ⊥) →
    holder_before o log i a p ≡ Some s →
    (t : ℕ) × (holder_before o log (i + d) a p ≡ Some t)
held-later o log a p i zero s stays held = (s, ap (λ (n : ℕ). holder_before o log n a p) (omega arith) ∙ held)
held-later o log a p i (suc d) s stays held =
    let before = held-later o log a p i d s (λ r x y. stays r x (omega arith)) held in
    by_option (holder_before o log (i + d + 1) a p)
    (λ free. absurd (stays (i + d) (omega arith) (omega arith) (before.0, before.1, free)))
    (λ t later. (t, ap (λ (n : ℕ). holder_before o log n a p) (omega arith) ∙ later))

-- the same between two places
pub held-until :
    (o : Options) (log : List Entry) (a : IpAddr) (p i k s : ℕ) → i ≤ k →
    ((r : ℕ) → i ≤ r → r < k → Releases o log a p r → ⊥) →
    holder_before o log i a p ≡ Some s →
    (t : ℕ) × (holder_before o log k a p ≡ Some t)
held-until o log a p i k s within stays held =
    let later = held-later o log a p i (k - i) s (λ r x y. stays r x (omega arith)) held in
    (later.0, ap (λ (n : ℕ). holder_before o log n a p) (omega arith) ∙ later.1)

-- behind a grant its session holds the port
pub grant-holds :
    (o : Options) (log : List Entry) (a : IpAddr) (p g : ℕ) (e : Entry) →
    slice_get log g ≡ Some e → is_refusal e.decision ≡ false →
    gives_hold o (past_at log g) e a p ≡ true →
    holder_before o log (g + 1) a p ≡ named_session e.event.kind
grant-holds o log a p g e at counts gives = rw (past-counts log g e at counts, gives) refl

-- a grant names a session
pub grant-names :
    (o : Options) (past : List Entry) (e : Entry) (a : IpAddr) (p : ℕ) →
    gives_hold o past e a p ≡ true →
    (s : ℕ) × (named_session e.event.kind ≡ Some s)
grant-names o past e a p gives =
    let grants : Bool = is_number (granted_port e.decision) p in
    let comes_from : Bool = is_client past (named_session e.event.kind) a in
    let parts = and_parts grants comes_from (and_parts (not (is_legacy o.mode)) (grants && comes_from) gives).1 in
    go (named_session e.event.kind) parts.1
  where
    go : (n : Option ℕ) → is_client past n a ≡ true → (s : ℕ) × (n ≡ Some s)
    go None h = cc
    go (Some s) h = (s, refl)

-- so somebody holds a port behind its grant
pub granted-held :
    (o : Options) (log : List Entry) (a : IpAddr) (p g : ℕ) →
    Grants o log a p g →
    (s : ℕ) × (holder_before o log (g + 1) a p ≡ Some s)
granted-held o log a p g grants =
    let named = grant-names o (past_at log g) grants.0 a p grants.3 in
    (named.0, grant-holds o log a p g grants.0 grants.1 grants.2 grants.3 ∙ named.1)

-- how a session came, as an entry tells it
abbrev pub client_told : Entry → Option IpAddr
client_told e = option_map (λ (x : Opening). x.client) (opening_by e.event.kind e.answer)

-- the client of a session, as its opening told it
abbrev pub client_known : List Entry → ℕ → Option IpAddr
client_known past s = option_map (λ (x : Opening). x.client) (opener past s)

-- an entry that opens a session is no refusal
opens-counts : (e : Entry) (s : ℕ) → is_number (opened_number e.event.kind e.decision) s ≡ true → is_refusal e.decision ≡ false
opens-counts e s h = ap is_refusal (opened-is e.event.kind e.decision s h)

-- the client of a session behind an entry: by its opening, or as it was before
pub client-more :
    (log : List Entry) (k : ℕ) (e : Entry) (s : ℕ) →
    slice_get log k ≡ Some e →
    client_known (past_at log (k + 1)) s ≡
    cond (is_number (opened_number e.event.kind e.decision) s) (client_told e) (client_known (past_at log k) s)
client-more log k e s at =
    by_test (is_number (opened_number e.event.kind e.decision) s)
    (λ opens.
    ap (λ past. client_known past s) (past-counts log k e at (opens-counts e s opens)) ∙ rw opens refl)
    (λ other.
    by_test (is_refusal e.decision)
    (λ refused. ap (λ past. client_known past s) (past-refused log k e at refused) ∙ rw other refl)
    (λ counts. ap (λ past. client_known past s) (past-counts log k e at counts) ∙ rw other refl))

-- a stop is no refusal
stop-counts : (e : Entry) → is_refusal e.decision ≡ true → is_stop e.decision ≡ false
stop-counts e refused = go e.decision refused
  where
    go : (d : Decision) → is_refusal d ≡ true → is_stop d ≡ false
    go decision.Stopped h = cc
    go d h = refl

-- whether a stop came, behind an entry
pub stopped-more :
    (log : List Entry) (k : ℕ) (e : Entry) →
    slice_get log k ≡ Some e →
    is_stopped (past_at log (k + 1)) ≡ (is_stop e.decision || is_stopped (past_at log k))
stopped-more log k e at =
    by_test (is_refusal e.decision)
    (λ refused. ap is_stopped (past-refused log k e at refused) ∙ rw (stop-counts e refused) refl)
    (λ counts. ap is_stopped (past-counts log k e at counts))
