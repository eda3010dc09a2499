-- Links under a log: their numbers stay, and one more of them changes nothing.
use Rattle.std.proofs.Common.{◌≡◌, ◌≢◌, ℕ, Bool, true, false, cond, List, [], ◌∷◌, ◌++◌, Option, Some, None, is_some, refl, sym, ap, subst, ◌∙◌, ◌≤◌, eqb-true, inl, inr, arith}
use Rattle.std.proofs.lemmas.List.{append-nil}
use Rattle.std.specs.Prelude.{◌⊎◌, MatchOption, IfSome, IsSomeAnd, Result, Err, IsErrOf}
use Rattle.std.specs.Ordering.{nat_cmp, eq_by_cmp}
use Rattle.std.specs.Cmp.{nat_cmp_total, unsigned_tied}
use Rattle.std.specs.FinMap as map
use Rattle.ftp_base.specs.declared.fault.LinkFault.{LinkFault}
use Rattle.ftp_base.specs.Calls.{Calls, AllWell}
use Rattle.ftp_base.specs.LinkTable.{Numbered}
use Rattle.ftp_base.specs.Memory.{LinkState, LinkMet, LinkFailed}
use Rattle.ftp_base.proofs.LinkTableLemmas.{get-insert-other, is_some-get-insert}
use Rattle.ftp_options.specs.declared.options.Options.{Options}
use Rattle.ftp_proxy.specs.declared.error.ProxyError.{ProxyError}
use Rattle.ftp_proxy.specs.declared.error.ProxyError.TheVariants.{ReadError}
use Rattle.ftp_proxy.specs.declared.error.ReadError.TheVariants.{Fault}
use Rattle.ftp_proxy.specs.declared.header.ProxyHeader.{ProxyHeader}
use Rattle.ftp_transfer.specs.declared.job.Job.{Job}
use Rattle.ftp_transfer.specs.declared.job.Outcome.{Outcome}
use Rattle.ftp_transfer.specs.Ran.{Told, Ran, Went}
use Rattle.ftp_events.specs.declared.entry.Entry.{Entry}
use Rattle.ftp_events.specs.declared.event.Answer.{Answer}
use Rattle.ftp_events.specs.declared.event.EventKind.{EventKind}
use Rattle.ftp_events.specs.declared.event.Answer.TheVariants.{Done}
use Rattle.ftp_events.specs.declared.event.EventKind.TheVariants.{End, Piece}
use Rattle.ftp_events.specs.Leads.{Views, Outside, told_by, header_to_read, job_to_move, job_to_run, MovesPiece, ReadsHeader, RunsJob, LeavesAll, LeadsOne, Leads}
use Rattle.ftp_events.specs.Log.{past_of}
use Rattle.ftp_text.specs.declared.setup.Item.{Item}
use Rattle.ftp_script_run.specs.SetUp.{StorageState}
use Rattle.ftp_hub.specs.Runs.{is_linked, job_due}
use Rattle.ftp_script_run.specs.Legal.{memory_views, start_of}

-- ---- what an entry did

-- what an entry did, by the header to be read, the job to be run and the one of which a piece is to be moved
abbrev Did : {S L : Type 0} → Views S L → Answer → Option ℕ → Option Job → Option Job → Outside S L → Outside S L → Type 0
Did v given header job part old new =
    MatchOption header
    (MatchOption job
    (MatchOption part (LeavesAll given old new) (λ job. MovesPiece v job given old new ⊎ RunsJob v job given old new))
    (λ job. RunsJob v job given old new))
    (λ number. ReadsHeader v number given old new)

-- what follows from each thing that an entry can do
pub one-of : {S L X : Type 0} (v : Views S L) (o : Options) (past : List Entry) (e : Entry) (old new : Outside S L) →
    (LeavesAll e.answer old new → X) →
    ((job : Job) → MovesPiece v job e.answer old new → X) →
    ((job : Job) → RunsJob v job e.answer old new → X) →
    ((number : ℕ) → ReadsHeader v number e.answer old new → X) →
    LeadsOne v o past e old new →
    X
one-of {S} {L} {X} v o past e old new idle move run read led =
    by (header_to_read o past e.event.kind) (job_to_run o past e.event.kind) (job_to_move o past e.event.kind) led where
      by : (header : Option ℕ) (job part : Option Job) → Did v e.answer header job part old new → X
      by None None None did = idle did
      by None None (Some job) (inl did) = move job did
      by None None (Some job) (inr did) = run job did
      by None (Some job) part did = run job did
      by (Some number) job part did = read number did

-- what ended a job ran it
ran-due : {S L : Type 0} (v : Views S L) (o : Options) (past : List Entry) (k : EventKind) (given : Answer) (old new : Outside S L) (job : Job) (outcome : Outcome) →
    job_due o past k ≡ Some job → given ≡ Done outcome →
    Did v given (header_to_read o past k) (job_to_run o past k) (job_to_move o past k) old new → RunsJob v job given old new
ran-due v o past (End ticket) given old new job outcome due is did = rw due at did
ran-due v o past (Piece ticket) given old new job outcome due is did = moved-or-ran (rw due at did) where
  moved-or-ran : MovesPiece v job given old new ⊎ RunsJob v job given old new → RunsJob v job given old new
  moved-or-ran (inl moved) = absurd (cc (sym moved.given_is ∙ is))
  moved-or-ran (inr ran) = ran
ran-due v o past k given old new job outcome due is did = absurd (cc due)

-- an entry that ended a job ran it
pub job-ran : {S L : Type 0} (v : Views S L) (o : Options) (past : List Entry) (e : Entry) (old new : Outside S L) (job : Job) (outcome : Outcome) →
    job_due o past e.event.kind ≡ Some job → e.answer ≡ Done outcome →
    LeadsOne v o past e old new → RunsJob v job e.answer old new
job-ran v o past e old new job outcome due is led = ran-due v o past e.event.kind e.answer old new job outcome due is led

-- ---- numbers

one-numbers : {S L : Type 0} (v : Views S L) (o : Options) (past : List Entry) (e : Entry) (old new : Outside S L) (n : ℕ) →
    LeadsOne v o past e old new →
    is_linked new.links n ≡ is_linked old.links n
one-numbers {S} {L} v o past e old new n led =
    one-of v o past e old new
    (λ idle. ap (λ (x : Outside S L). is_linked x.links n) idle.same)
    (λ job moved. put job.number moved.before moved.after moved.there moved.links)
    (λ job ran. put job.number ran.before ran.after ran.there ran.links)
    (λ number read. put number read.before read.after read.there read.links)
    led where
      put : (number : ℕ) (before after : L) →
          map.get old.links number ≡ Some before →
          new.links ≡ map.insert old.links number after →
          is_linked new.links n ≡ is_linked old.links n
      put number before after there links =
          ap (λ (links : Numbered L). is_linked links n) links ∙ is_some-get-insert old.links number after (ap is_some there) n

-- the same numbers have a link as before
pub leads-numbers : {S L : Type 0} (v : Views S L) (o : Options) (log newer : List Entry) (old new : Outside S L) (n : ℕ) →
    Leads v o log newer old new →
    is_linked new.links n ≡ is_linked old.links n
leads-numbers {S} {L} v o log [] old new n led = ap (λ (x : Outside S L). is_linked x.links n) led
leads-numbers {S} {L} v o log (e ∷ newer) old new n led =
    let x : (between : Outside S L) × Leads v o log newer old between × LeadsOne v o (past_of (newer ++ log)) e between new = led in
    one-numbers v o (past_of (newer ++ log)) e x.0 new n x.2 ∙ leads-numbers v o log newer old x.0 n x.1

-- ---- one more link

-- the outside with a link at a number
abbrev pub with_link : {S L : Type 0} → Outside S L → ℕ → L → Outside S L
with_link x n link = record { storage = x.storage; links = map.insert x.links n link }

swap : {A : Type 0} (b c : Bool) (x y z : A) → (b ≡ true → c ≡ true → ⊥) → cond b y (cond c x z) ≡ cond c x (cond b y z)
swap true true x y z apart = absurd (apart refl refl)
swap true false x y z apart = refl
swap false c x y z apart = refl

same_number : (q n : ℕ) → eq_by_cmp nat_cmp q n ≡ true → q ≡ n
same_number q n tied = eqb-true q n (sym (unsigned_tied q n) ∙ tied)

-- what is put at two numbers is there in either order
insert-commutes : {L : Type 0} (links : Numbered L) (m n : ℕ) (x y : L) → m ≢ n → map.insert (map.insert links m x) n y ≡ map.insert (map.insert links n y) m x
insert-commutes links m n x y other =
    map.same_map nat_cmp_total map.nat_cmp-IsAntisymmetric _ _ (λ q.
    map.get-insert nat_cmp_total (map.insert links m x) n y q
    ∙ ap (cond (eq_by_cmp nat_cmp q n) (Some y)) (map.get-insert nat_cmp_total links m x q)
    ∙ swap (eq_by_cmp nat_cmp q n) (eq_by_cmp nat_cmp q m) (Some x) (Some y) (map.get links q) (λ at_n at_m. other (sym (same_number q m at_m) ∙ same_number q n at_n))
    ∙ sym (ap (cond (eq_by_cmp nat_cmp q m) (Some x)) (map.get-insert nat_cmp_total links n y q))
    ∙ sym (map.get-insert nat_cmp_total (map.insert links n y) m x q))

-- a number that has no link is another than one that has
unlinked-other : {L : Type 0} (links : Numbered L) (m n : ℕ) (x : L) → map.get links m ≡ Some x → is_linked links n ≡ false → m ≢ n
unlinked-other {L} links m n x there unlinked = λ same.
    let linked : is_linked links n ≡ true = subst (λ (k : ℕ). is_linked links k ≡ true) same (ap is_some there) in
    absurd cc

one-framed : {S L : Type 0} (v : Views S L) (o : Options) (past : List Entry) (e : Entry) (old new : Outside S L) (n : ℕ) (link : L) →
    is_linked old.links n ≡ false →
    LeadsOne v o past e old new →
    LeadsOne v o past e (with_link old n link) (with_link new n link)
one-framed {S} {L} v o past e old new n link unlinked led =
    by (header_to_read o past e.event.kind) (job_to_run o past e.event.kind) (job_to_move o past e.event.kind) led where
      -- what was put at a number that has a link
      put : (number : ℕ) (after : L) → number ≢ n → new.links ≡ map.insert old.links number after → map.insert new.links n link ≡ map.insert (map.insert old.links n link) number after
      put number after other links =
          ap (λ (links : Numbered L). map.insert links n link) links ∙ insert-commutes old.links number n after link other

      run : (job : Job) → RunsJob v job e.answer old new → RunsJob v job e.answer (with_link old n link) (with_link new n link)
      run job ran =
          let other : job.number ≢ n = unlinked-other old.links job.number n ran.before ran.there unlinked in
          record {
            outcome = ran.outcome;
            before = ran.before;
            after = ran.after;
            given_is = ran.given_is;
            fits = ran.fits;
            there = get-insert-other old.links n link job.number other ∙ ran.there;
            links = put job.number ran.after other ran.links;
            ran = ran.ran;
            complete = ran.complete;
            storage_counts = ran.storage_counts;
            link_counts = ran.link_counts;
          }

      move : (job : Job) → MovesPiece v job e.answer old new → MovesPiece v job e.answer (with_link old n link) (with_link new n link)
      move job moved =
          let other : job.number ≢ n = unlinked-other old.links job.number n moved.before moved.there unlinked in
          record {
            bytes = moved.bytes;
            before = moved.before;
            after = moved.after;
            given_is = moved.given_is;
            fits = moved.fits;
            there = get-insert-other old.links n link job.number other ∙ moved.there;
            links = put job.number moved.after other moved.links;
            went = moved.went;
            storage_counts = moved.storage_counts;
            link_counts = moved.link_counts;
          }

      by : (header : Option ℕ) (job part : Option Job) →
          Did v e.answer header job part old new →
          Did v e.answer header job part (with_link old n link) (with_link new n link)
      by None None None idle = record { given_is = idle.given_is; same = ap (λ (x : Outside S L). with_link x n link) idle.same }
      by None None (Some job) (inl moved) = inl (move job moved)
      by None None (Some job) (inr ran) = inr (run job ran)
      by None (Some job) part ran = run job ran
      by (Some number) job part read =
          let other : number ≢ n = unlinked-other old.links number n read.before read.there unlinked in
          record {
            header = read.header;
            before = read.before;
            after = read.after;
            given_is = read.given_is;
            there = get-insert-other old.links n link number other ∙ read.there;
            links = put number read.after other read.links;
            storage = read.storage;
            line = read.line;
            taken = read.taken;
            unlisted = read.unlisted;
            as_listed = read.as_listed;
            last_fault = read.last_fault;
            fault_rose = read.fault_rose;
            only_reads = read.only_reads;
          }

-- a link at a number that had none is used by no entry
pub leads-framed : {S L : Type 0} (v : Views S L) (o : Options) (log newer : List Entry) (old new : Outside S L) (n : ℕ) (link : L) →
    is_linked old.links n ≡ false →
    Leads v o log newer old new →
    Leads v o log newer (with_link old n link) (with_link new n link)
leads-framed {S} {L} v o log [] old new n link unlinked led = ap (λ (x : Outside S L). with_link x n link) led
leads-framed {S} {L} v o log (e ∷ newer) old new n link unlinked led =
    let x : (between : Outside S L) × Leads v o log newer old between × LeadsOne v o (past_of (newer ++ log)) e between new = led in (
      with_link x.0 n link,
      leads-framed v o log newer old x.0 n link unlinked x.1,
      one-framed v o (past_of (newer ++ log)) e x.0 new n link (leads-numbers v o log newer old x.0 n x.1 ∙ unlinked) x.2,
    )

-- ---- limits of faults

-- the same calls are listed, and no fewer were made, where calls are told
abbrev pub ListStays : Option (Calls (ℕ × LinkFault)) → Option (Calls (ℕ × LinkFault)) → Type 0
ListStays old new = IfSome old (λ c. IsSomeAnd new (λ d. (d.failing ≡ c.failing) × (c.made ≤ d.made)))

-- a link's limit is no higher than before, and its list stays
pub record LinkFalls {S L : Type 0} (v : Views S L) (before after : L) : Type 0 where
  pub limit : v.link_limit after ≤ v.link_limit before
  pub list : ListStays (v.link_calls before) (v.link_calls after)

-- no limit is higher than before, and each link was there before
pub record LimitsFall {S L : Type 0} (v : Views S L) (old new : Outside S L) : Type 0 where
  pub storage : v.storage_limit new.storage ≤ v.storage_limit old.storage
  pub links :
      (n : ℕ) (after : L) → map.get new.links n ≡ Some after →
      (before : L) × (map.get old.links n ≡ Some before) × LinkFalls v before after

ListStays-same : (a : Option (Calls (ℕ × LinkFault))) → ListStays a a
ListStays-same None = tt
ListStays-same (Some c) = (refl, omega arith)

ListStays-more : (a b c : Option (Calls (ℕ × LinkFault))) → ListStays a b → ListStays b c → ListStays a c
ListStays-more None b c first next = tt
ListStays-more (Some x) None c first next = absurd first
ListStays-more (Some x) (Some y) None first next = absurd next
ListStays-more (Some x) (Some y) (Some z) first next = (next.0 ∙ first.0, omega (arith, first.1, next.1))

ListStays-well : (a b : Option (Calls (ℕ × LinkFault))) → AllWell (λ (call : ℕ × LinkFault). call.0) a b → ListStays a b
ListStays-well None b well = tt
ListStays-well (Some x) None well = absurd well
ListStays-well (Some x) (Some y) well = (well.failing, well.made)

ListStays-met : (a b : Option (Calls (ℕ × LinkFault))) (last : Option LinkFault) → LinkMet a b last → ListStays a b
ListStays-met None b last met = tt
ListStays-met (Some x) None last met = absurd met
ListStays-met (Some x) (Some y) None met = absurd met
ListStays-met (Some x) (Some y) (Some f) met = (met.failing, omega (arith, met.made))

ListStays-failed : (a b : Option (Calls (ℕ × LinkFault))) → LinkFailed a b → ListStays a b
ListStays-failed None b failed = tt
ListStays-failed (Some x) None failed = absurd failed
ListStays-failed (Some x) (Some y) failed = (failed.1.failing, omega (arith, failed.1.made))

-- a run of a job changes no list of calls
ListStays-ran : (job : Job) (old new : Told) (outcome : Outcome) → Ran job old new outcome → ListStays old.link_calls new.link_calls
ListStays-ran job old new outcome ran = ListStays-more old.link_calls ran.calls new.link_calls before close where
  before : ListStays old.link_calls ran.calls
  before = elim ran.moves.cause [
    | inl failed ↦ ListStays-met old.link_calls ran.calls new.sending.last_fault failed.1.1
    | inr held ↦ ListStays-well old.link_calls ran.calls (ran.moves.link_well held.0.0)
  ]

  close : ListStays ran.calls new.link_calls
  close = elim ran.closed [
    | inl well ↦ ListStays-well ran.calls new.link_calls well.1
    | inr failed ↦ ListStays-failed ran.calls new.link_calls failed.2
  ]

-- nor does a part of one
ListStays-went : (job : Job) (old new : Told) (m : ℕ) → Went job old new m → ListStays old.link_calls new.link_calls
ListStays-went job old new m went = ListStays-well old.link_calls new.link_calls (went.moves.link_well refl)

-- the reading of a header changes no list of calls
ListStays-read : {S L : Type 0} (v : Views S L) (number : ℕ) (given : Answer) (old new : Outside S L) (read : ReadsHeader v number given old new) →
    ListStays (v.link_calls read.before) (v.link_calls read.after)
ListStays-read v number given old new read = by read.header refl where
  before : Option (Calls (ℕ × LinkFault))
  before = v.link_calls read.before

  after : Option (Calls (ℕ × LinkFault))
  after = v.link_calls read.after

  well : (IsErrOf read.header (ReadError Fault) → ⊥) → ListStays before after
  well no_fault = ListStays-well before after (read.unlisted no_fault)

  by : (header : Result ProxyHeader ProxyError) → read.header ≡ header → ListStays before after
  by (Err (ReadError Fault)) is = ListStays-met before after (v.sending read.after).last_fault (read.as_listed is)
  by header is = well (λ fault. cc (sym is ∙ fault))

LinkFalls-same : {S L : Type 0} (v : Views S L) (l : L) → LinkFalls v l l
LinkFalls-same v l = record { limit = omega arith; list = ListStays-same (v.link_calls l) }

LimitsFall-same : {S L : Type 0} (v : Views S L) (x : Outside S L) → LimitsFall v x x
LimitsFall-same v x =
    record { storage = omega arith; links = λ n after there. (after, there, LinkFalls-same v after) }

-- a link that is found where one was put under its number, beside which it stands so
found-put : {L : Type 0} (R : L → L → Type 0) (same : (l : L) → R l l) (links : Numbered L) (k n : ℕ) (before put after : L) →
    map.get links k ≡ Some before →
    R before put →
    map.get (map.insert links k put) n ≡ Some after →
    (old : L) × (map.get links n ≡ Some old) × R old after
found-put {L} R stays links k n before put after was falls there = by (eq_by_cmp nat_cmp n k) refl
  where
    found : (here : Bool) → eq_by_cmp nat_cmp n k ≡ here → cond here (Some put) (map.get links n) ≡ Some after
    found here is =
        sym (ap (λ b. cond b (Some put) (map.get links n)) is)
        ∙ sym (map.get-insert nat_cmp_total links k put n)
        ∙ there

    by : (here : Bool) → eq_by_cmp nat_cmp n k ≡ here → (old : L) × (map.get links n ≡ Some old) × R old after
    by true is =
        let puts = found true is in
        let same : put ≡ after = cc in
        (before, ap (map.get links) (same_number n k is) ∙ was, subst (λ (x : L). R before x) same falls)
    by false is = (after, found false is, stays after)

LimitsFall-one : {S L : Type 0} (v : Views S L) (o : Options) (past : List Entry) (e : Entry) (old new : Outside S L) →
    LeadsOne v o past e old new →
    LimitsFall v old new
LimitsFall-one {S} {L} v o past e old new led =
    one-of v o past e old new
    (λ idle. subst (λ (x : Outside S L). LimitsFall v old x) (sym idle.same) (LimitsFall-same v old))
    (λ job moved.
    put job.number moved.before moved.after moved.there moved.links moved.storage_counts.limit
    (record { limit = moved.link_counts.limit; list = ListStays-went job (told_by v old.storage moved.before) (told_by v new.storage moved.after) moved.bytes moved.went }))
    (λ job ran.
    put job.number ran.before ran.after ran.there ran.links ran.storage_counts.limit
    (record { limit = ran.link_counts.limit; list = ListStays-ran job (told_by v old.storage ran.before) (told_by v new.storage ran.after) ran.outcome ran.ran }))
    (λ number read.
    put number read.before read.after read.there read.links
    (subst (λ (s : S). v.storage_limit s ≤ v.storage_limit old.storage) (sym read.storage) (omega arith))
    (record { limit = read.only_reads.counts.limit; list = ListStays-read v number e.answer old new read }))
    led where
      put : (number : ℕ) (before after : L) →
          map.get old.links number ≡ Some before →
          new.links ≡ map.insert old.links number after →
          v.storage_limit new.storage ≤ v.storage_limit old.storage →
          LinkFalls v before after →
          LimitsFall v old new
      put number before after was links storage falls = record {
        storage = storage;
        links = λ n later there.
            found-put (LinkFalls v) (LinkFalls-same v) old.links number n before after later was falls
            (ap (λ (links : Numbered L). map.get links n) (sym links) ∙ there);
      }

-- what a log does raises no limit of faults
pub leads-limits : {S L : Type 0} (v : Views S L) (o : Options) (log newer : List Entry) (old new : Outside S L) →
    Leads v o log newer old new →
    LimitsFall v old new
leads-limits {S} {L} v o log [] old new led = subst (λ (x : Outside S L). LimitsFall v old x) (sym led) (LimitsFall-same v old)
leads-limits {S} {L} v o log (e ∷ newer) old new led =
    let x : (between : Outside S L) × Leads v o log newer old between × LeadsOne v o (past_of (newer ++ log)) e between new = led in
    let first = leads-limits v o log newer old x.0 x.1 in
    let last = LimitsFall-one v o (past_of (newer ++ log)) e x.0 new x.2 in
    record {
      storage = omega arith;
      links = λ n after there.
          (let later = last.links n after there in
          let before = first.links n later.0 later.1 in (
            before.0,
            before.1,
            record {
              limit = omega (arith, before.2.limit, later.2.limit);
              list = ListStays-more (v.link_calls before.0) (v.link_calls later.0) (v.link_calls after) before.2.list later.2.list;
            },
          ));
    }

-- ---- one entry of a log

-- what led to an entry, and what the entry did
leads-split : {S L : Type 0} (v : Views S L) (o : Options) (log newer older : List Entry) (e : Entry) (old new : Outside S L) →
    Leads v o log (newer ++ e ∷ older) old new →
    (x y : Outside S L) × Leads v o log older old x × LeadsOne v o (past_of (older ++ log)) e x y
leads-split {S} {L} v o log [] older e old new led =
    let x : (between : Outside S L) × Leads v o log older old between × LeadsOne v o (past_of (older ++ log)) e between new = led in
    (x.0, new, x.1, x.2)
leads-split {S} {L} v o log (last ∷ newer) older e old new led =
    let x : (between : Outside S L) × Leads v o log (newer ++ e ∷ older) old between × LeadsOne v o (past_of ((newer ++ e ∷ older) ++ log)) last between new = led in
    leads-split v o log newer older e old x.0 x.1

-- what led to an entry of a script's log, and what the entry did
pub script-split : (o : Options) (items : List Item) (older newer : List Entry) (e : Entry) (end : Outside StorageState LinkState) →
    Leads memory_views o [] (newer ++ e ∷ older) (start_of items) end →
    (x y : Outside StorageState LinkState)
    × Leads memory_views o [] older (start_of items) x
    × LimitsFall memory_views (start_of items) x
    × LeadsOne memory_views o (past_of older) e x y
script-split o items older newer e end led =
    let x = leads-split memory_views o [] newer older e (start_of items) end led in
    let past : older ++ [] ≡ older = append-nil older in
    let one : LeadsOne memory_views o (past_of older) e x.0 x.1 = rw past at x.3 in
    (x.0, x.1, x.2, leads-limits memory_views o [] older (start_of items) x.0 x.2, one)
