-- The lists that lines in order say are in order: intervals do not touch, records rise by key, sessions, slots, transfers and
-- jobs by number, each slot is of a session, and each transfer of a slot.
use Rattle.std.proofs.Common.{◌≡◌, ℕ, zero, suc, ◌+◌, ◌<◌, ◌≤◌, ◌⊎◌, inl, inr, Bool, true, false, ◌&&◌, ◌||◌, not, eqb, List, [], ◌∷◌, length, map, Option, Some, None, refl, sym, ap, subst, ◌∙◌, arith}
use Rattle.std.specs.Prelude.{is_some, slice_index_or}
use Rattle.std.specs.List.{AllByRecursion, list_any}
use Rattle.std.proofs.lemmas.Bool.{eqb-true, ltb-true, and_parts}
use Rattle.std.specs.List.Sorted.{IsStrictlySortedBy}
use Rattle.std.specs.declared.cmp.Ordering.{Ordering}
use Rattle.std.specs.declared.cmp.Ordering.TheVariants.{Less, Equal, Greater}
use Rattle.ftp_base.specs.declared.net.IpAddr.{IpAddr}
use Rattle.ftp_options.specs.declared.lockout.FailedLoginsBlock.{FailedLoginsBlock}
use Rattle.ftp_options.specs.declared.lockout.FailedLoginsBlock.TheVariants.{UserAndIP, IP, User}
use Rattle.ftp_lockout.specs.declared.key.LoginKey.{LoginKey}
use Rattle.ftp_lockout.specs.Keys.{key_cmp}
use Rattle.ftp_lockout.proofs.Records.{keys_total}
use Rattle.ftp_switchboard.specs.declared.numbers.Interval.{Interval}
use Rattle.ftp_switchboard.specs.Used.{no_interval, lo_at, hi_at, IsApart}
use Rattle.ftp_laws.specs.Census.{IsAscending}
use Rattle.ftp_hub.specs.declared.state.HubState.{HubState}
use Rattle.ftp_hub.specs.declared.state.RecordLine.{RecordLine}
use Rattle.ftp_hub.specs.State.{line_of, record_key}
use Rattle.ftp_text.specs.declared.state_line.StateLine.{StateLine}
use Rattle.ftp_text.specs.declared.state_line.StateLine.TheVariants as says
use Rattle.ftp_text.specs.Spelling.{has_key, IsStateLine}
use Rattle.ftp_text.specs.Grammar.{follows, is_alike, is_less, precedes, IsChain, AreStateLines, no_state, with_line}
use Rattle.ftp_text.specs.ListOrder.{IsOfPolicy, AreListsInOrder}
use Rattle.ftp_text.proofs.KindLemmas.{Kind, Said, ascend, has-before, is_of, list_of, place_of, said_in, session_in, some-of}
use Rattle.ftp_text.proofs.KindLemmas as kind
use Rattle.ftp_text.proofs.WalkLemmas.{added, said-added, in_added}

-- ---- intervals

-- each has a number, and all that come after it are above it, and do not touch it
abbrev Apart : List Interval → Type 0
Apart [] = Unit {0}
Apart (i ∷ used) = (i.lo ≤ i.hi) × AllByRecursion (λ (j : Interval). i.hi + 1 < j.lo) used × Apart used

all-at : (P : Interval → Type 0) (used : List Interval) → AllByRecursion P used → (k : ℕ) → k < length used → P (slice_index_or used k no_interval)
all-at P [] all k lt = absurd (omega (arith, lt))
all-at P (i ∷ used) all zero lt = all.0
all-at P (i ∷ used) all (suc k) lt = all-at P used all.1 k (omega (arith, lt))

apart-each : (used : List Interval) → Apart used → (k : ℕ) → k < length used → lo_at used k ≤ hi_at used k
apart-each [] a k lt = absurd (omega (arith, lt))
apart-each (i ∷ used) a zero lt = a.0
apart-each (i ∷ used) a (suc k) lt = apart-each used a.2 k (omega (arith, lt))

apart-gaps : (used : List Interval) → Apart used → (j k : ℕ) → j < k → k < length used → hi_at used j + 1 < lo_at used k
apart-gaps [] a j k below lt = absurd (omega (arith, lt))
apart-gaps (i ∷ used) a j zero below lt = absurd (omega (arith, below))
apart-gaps (i ∷ used) a zero (suc k) below lt = all-at (λ (m : Interval). i.hi + 1 < m.lo) used a.1 k (omega (arith, lt))
apart-gaps (i ∷ used) a (suc j) (suc k) below lt = apart-gaps used a.2 j k (omega (arith, below)) (omega (arith, lt))

-- the numbers up to n were listed before the line
abbrev UpTo : ℕ → StateLine → Type 0
UpTo n (says.Checkpoint events stopped) = ⊥
UpTo n (says.Used i) = n ≤ i.hi
UpTo n _ = Unit {0}

-- the line begins behind number n, if it is an interval
abbrev Behind : ℕ → StateLine → Type 0
Behind n (says.Checkpoint events stopped) = ⊥
Behind n (says.Used i) = n + 1 < i.lo
Behind n _ = Unit {0}

used-step : (n : ℕ) (before l : StateLine) → follows before l ≡ true → UpTo n before → Behind n l
used-step n before (says.Checkpoint events stopped) h f = absurd cc
used-step n (says.Used b) (says.Used i) h f = omega (arith, ltb-true _ _ h, f)
used-step n (says.Checkpoint events stopped) l h f = absurd f
used-step n before (says.Used i) h f = absurd cc
used-step n before l h f = tt

used-next : (n : ℕ) (l : StateLine) → IsStateLine l → Behind n l → UpTo n l
used-next n (says.Checkpoint events stopped) fits f = absurd f
used-next n (says.Used i) fits f = omega (arith, fits.2, f)
used-next n _ fits f = tt

used-chain : (n : ℕ) (before : StateLine) (lines : List StateLine) → IsChain before lines → AllByRecursion IsStateLine lines → UpTo n before → AllByRecursion (Behind n) lines
used-chain n before [] c fit f = tt
used-chain n before (l ∷ lines) c fit f =
    let next = used-step n before l c.0 f in (next, used-chain n l lines c.1 fit.1 (used-next n l fit.0 next))

used-all : (n : ℕ) (lines : List StateLine) → AllByRecursion (Behind n) lines → AllByRecursion (λ (j : Interval). n + 1 < j.lo) (said_in kind.Used lines)
used-all n [] f = tt
used-all n (says.Used i ∷ lines) f = (f.0, used-all n lines f.1)
used-all n (l ∷ lines) f = used-all n lines f.1

used-apart : (before : StateLine) (lines : List StateLine) → IsChain before lines → AllByRecursion IsStateLine lines → Apart (said_in kind.Used lines)
used-apart before [] c fit = tt
used-apart before (says.Used i ∷ lines) c fit =
    (fit.0.2, used-all i.hi lines (used-chain i.hi (says.Used i) lines c.1 fit.1 (omega arith)), used-apart (says.Used i) lines c.1 fit.1)
used-apart before (l ∷ lines) c fit = used-apart l lines c.1 fit.1

-- the intervals do not touch
pub used-is-apart : (before : StateLine) (lines : List StateLine) → IsChain before lines → AllByRecursion IsStateLine lines → IsApart (said_in kind.Used lines)
used-is-apart before lines c fit =
    let a = used-apart before lines c fit in record { each = apart-each (said_in kind.Used lines) a; gaps = apart-gaps (said_in kind.Used lines) a }

-- ---- slots and transfers

-- a slot stands behind its session
slot-placed : (n : ℕ) (b l : StateLine) → follows b l ≡ true → is_of kind.Slot n l ≡ true → is_of kind.Session n b ≡ true
slot-placed n (says.Session b) (says.Slot l) h of = ap (λ m. eqb m n) (eqb-true b.session l.session h) ∙ of
slot-placed n b (says.Slot l) h of = absurd cc
slot-placed n b l h of = absurd cc

-- a transfer stands behind its slot
queued-placed : (n : ℕ) (b l : StateLine) → follows b l ≡ true → is_of kind.Queued n l ≡ true → is_of kind.Slot n b ≡ true
queued-placed n (says.Slot b) (says.Queued q) h of = ap (λ m. eqb m n) (eqb-true b.session q.session h) ∙ of
queued-placed n b (says.Queued q) h of = absurd cc
queued-placed n b l h of = absurd cc

-- ---- records

-- both have an address, or neither; both have a name, or neither
pub record IsAlikeTo (a b : RecordLine) : Type 0 where
  pub ip : is_some a.ip ≡ is_some b.ip
  pub user : is_some a.user ≡ is_some b.user

-- the second stands behind the first
record IsBehindRecord (a b : RecordLine) : Type 0 where
  alike : IsAlikeTo a b
  less : key_cmp (record_key a) (record_key b) ≡ Less

alike-is : (a b : Bool) → ((a && b) || not (a || b)) ≡ true → a ≡ b
alike-is true true e = refl
alike-is true false e = absurd cc
alike-is false true e = absurd cc
alike-is false false e = refl

less-is : (o : Ordering) → is_less o ≡ true → o ≡ Less
less-is Less e = refl
less-is Equal e = absurd cc
less-is Greater e = absurd cc

behind-is : (a b : RecordLine) → precedes a b ≡ true → IsBehindRecord a b
behind-is a b e =
    let p = and_parts (is_alike a.ip b.ip && is_alike a.user b.user) (is_less (key_cmp (record_key a) (record_key b))) e in
    let q = and_parts (is_alike a.ip b.ip) (is_alike a.user b.user) p.0 in
    record {
      alike = record { ip = alike-is (is_some a.ip) (is_some b.ip) q.0; user = alike-is (is_some a.user) (is_some b.user) q.1 };
      less = less-is (key_cmp (record_key a) (record_key b)) p.1;
    }

-- the line is that of the record, of one behind it, or of a later kind
abbrev IsFromRecord : RecordLine → StateLine → Type 0
IsFromRecord r (says.Checkpoint events stopped) = ⊥
IsFromRecord r (says.Used i) = ⊥
IsFromRecord r (says.Record b) = (r ≡ b) ⊎ IsBehindRecord r b
IsFromRecord r _ = Unit {0}

behind-both : (r b q : RecordLine) → (r ≡ b) ⊎ IsBehindRecord r b → IsBehindRecord b q → IsBehindRecord r q
behind-both r b q (inl same) next = subst (λ (x : RecordLine). IsBehindRecord x q) (sym same) next
behind-both r b q (inr f) next = record {
  alike = record { ip = f.alike.ip ∙ next.alike.ip; user = f.alike.user ∙ next.alike.user };
  less = keys_total.trans (record_key r) (record_key b) (record_key q) f.less next.less;
}

records-chain : (r : RecordLine) (before : StateLine) (lines : List StateLine) → IsChain before lines → IsFromRecord r before → AllByRecursion (IsBehindRecord r) (said_in kind.Record lines)
records-chain r before [] c f = tt
records-chain r (says.Checkpoint events stopped) (l ∷ lines) c f = absurd f
records-chain r (says.Used i) (l ∷ lines) c f = absurd f
records-chain r before (says.Checkpoint events stopped ∷ lines) c f = absurd (cc c.0)
records-chain r before (says.Used i ∷ lines) c f = absurd (cc c.0)
records-chain r (says.Record b) (says.Record q ∷ lines) c f =
    let next : IsBehindRecord r q = behind-both r b q f (behind-is b q c.0) in (next, records-chain r (says.Record q) lines c.1 (inr next))
records-chain r before (says.Record q ∷ lines) c f = absurd (cc c.0)
records-chain r before (l ∷ lines) c f = records-chain r l lines c.1 tt

records-keys : (r : RecordLine) (records : List RecordLine) → AllByRecursion (IsBehindRecord r) records → AllByRecursion (λ (k : LoginKey). key_cmp (record_key r) k ≡ Less) (map record_key records)
records-keys r [] f = tt
records-keys r (q ∷ records) f = (f.0.less, records-keys r records f.1)

pub records-sorted : (before : StateLine) (lines : List StateLine) → IsChain before lines → IsStrictlySortedBy key_cmp (map record_key (said_in kind.Record lines))
unfolding IsStrictlySortedBy
records-sorted before [] c = tt
records-sorted before (says.Record r ∷ lines) c =
    (records-keys r (said_in kind.Record lines) (records-chain r (says.Record r) lines c.1 (inl refl)), records-sorted (says.Record r) lines c.1)
records-sorted before (l ∷ lines) c = records-sorted l lines c.1

-- the policy under which there are keys of these
abbrev policy_of : Option IpAddr → Option (List ℕ) → FailedLoginsBlock
policy_of (Some ip) (Some user) = UserAndIP
policy_of (Some ip) None = IP
policy_of None user = User

of-policy : (a b : Option IpAddr) (u v : Option (List ℕ)) → is_some a ≡ is_some b → is_some u ≡ is_some v → (is_some a || is_some u) ≡ true → IsOfPolicy (policy_of a u) b v
of-policy (Some a) (Some b) (Some u) (Some v) e f h = (refl, refl)
of-policy (Some a) (Some b) None None e f h = (refl, refl)
of-policy None None (Some u) (Some v) e f h = (refl, refl)
of-policy None None None v e f h = absurd cc
of-policy (Some a) None u v e f h = absurd cc
of-policy None (Some b) u v e f h = absurd cc
of-policy a b (Some u) None e f h = absurd cc
of-policy a b None (Some v) e f h = absurd cc

records-of : (r : RecordLine) (records : List RecordLine) → has_key r ≡ true → AllByRecursion (IsBehindRecord r) records → AllByRecursion (λ (q : RecordLine). IsOfPolicy (policy_of r.ip r.user) q.ip q.user) records
records-of r [] h f = tt
records-of r (q ∷ records) h f = (of-policy r.ip q.ip r.user q.user f.0.alike.ip f.0.alike.user h, records-of r records h f.1)

pub records-policy : (before : StateLine) (lines : List StateLine) → IsChain before lines → AllByRecursion IsStateLine lines →
    (block : FailedLoginsBlock) × AllByRecursion (λ (q : RecordLine). IsOfPolicy block q.ip q.user) (said_in kind.Record lines)
records-policy before [] c fit = (User, tt)
records-policy before (says.Record r ∷ lines) c fit = (
  policy_of r.ip r.user,
  (of-policy r.ip r.ip r.user r.user refl refl fit.0.4, records-of r (said_in kind.Record lines) fit.0.4 (records-chain r (says.Record r) lines c.1 (inl refl))),
)
records-policy before (l ∷ lines) c fit = records-policy l lines c.1 fit.1

-- ---- the lists of a state

-- the lists are those of lines behind the first
pub record HasLists (x : HubState) : Type 0 where
  pub lines : List StateLine
  pub chain : IsChain (says.Checkpoint x.events x.stopped) lines
  pub fit : AllByRecursion IsStateLine lines
  pub lists : (k : Kind) → said_in k lines ≡ list_of k x

pub has-lists : (x : HubState) (lines : List StateLine) → AreStateLines x lines → HasLists x
has-lists x [] is = absurd is.in_order
has-lists x (says.Checkpoint events stopped ∷ lines) is =
    let start : HubState = with_line no_state (says.Checkpoint events stopped) in
    let same : added start lines ≡ x = sym (said-added start (says.Checkpoint events stopped) lines is.in_order.1) ∙ is.say in
    record {
      lines = lines;
      chain = subst (λ (y : HubState). IsChain (says.Checkpoint y.events y.stopped) lines) same is.in_order.1;
      fit = is.fit.1;
      lists = λ k. in_added events stopped lines k ∙ ap (list_of k) same;
    }
has-lists x (l ∷ lines) is = absurd (cc is.in_order.0)

-- a line of kind j is there where one of kind k is
has-line : (j k : Kind) (x : HubState) → HasLists x → (n : ℕ) →
    is_of j n (says.Checkpoint x.events x.stopped) ≡ false →
    ((b l : StateLine) → follows b l ≡ true → is_of k n l ≡ true → is_of j n b ≡ true) →
    is_some (line_of (session_in k) (list_of k x) n) ≡ true → is_some (line_of (session_in j) (list_of j x) n) ≡ true
has-line j k x h n none step some =
    let first : StateLine = says.Checkpoint x.events x.stopped in
    let there : list_any (is_of k n) h.lines ≡ true = sym (some-of k n h.lines) ∙ ap (λ (xs : List (Said k)). is_some (line_of (session_in k) xs n)) (h.lists k) ∙ some in
    ap (λ (xs : List (Said j)). is_some (line_of (session_in j) xs n)) (sym (h.lists j))
    ∙ some-of j n h.lines
    ∙ ap (λ (b : Bool). b || list_any (is_of j n) h.lines) (sym none)
    ∙ has-before j k n step first h.lines h.chain there

-- the lists of a state that has lines are in order
pub lists-in-order : (x : HubState) (lines : List StateLine) → AreStateLines x lines → AreListsInOrder x
lists-in-order x lines is =
    let h : HasLists x = has-lists x lines is in
    let first : StateLine = says.Checkpoint x.events x.stopped in
    let policy = records-policy first h.lines h.chain h.fit in
    let rising : (k : Kind) → 3 ≤ place_of k → IsAscending (map (session_in k) (list_of k x)) =
    λ k from. subst (λ (xs : List (Said k)). IsAscending (map (session_in k) xs)) (h.lists k) (ascend k from first h.lines h.chain) in
    record {
      used = subst IsApart (h.lists kind.Used) (used-is-apart first h.lines h.chain h.fit);
      policy = (policy.0, subst (AllByRecursion (λ (r : RecordLine). IsOfPolicy policy.0 r.ip r.user)) (h.lists kind.Record) policy.1);
      records = subst (λ (l : List RecordLine). IsStrictlySortedBy key_cmp (map record_key l)) (h.lists kind.Record) (records-sorted first h.lines h.chain);
      sessions = rising kind.Session (omega arith);
      slots = rising kind.Slot (omega arith);
      queued = rising kind.Queued (omega arith);
      live = λ n some. has-line kind.Session kind.Slot x h n refl (slot-placed n) some;
      placed = λ n some. has-line kind.Slot kind.Queued x h n refl (queued-placed n) some;
      jobs = rising kind.Job (omega arith);
    }
