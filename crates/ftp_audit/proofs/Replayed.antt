-- Calls that are replayed one after another.
use Rattle.std.proofs.Common.{◌≡◌, ◌⊎◌, inl, inr, ℕ, ◌+◌, ◌-◌, ◌^◌, ◌<◌, ◌≤◌, true, false, nat_lt, List, [], ◌∷◌, ◌++◌, length, take, get_or, length-append, append_assoc, take_all, Option, Some, None, Result, Ok, Err, refl, sym, ap, subst, ◌∙◌, arith}
use Rattle.std.proofs.lemmas.Bool.{ltb-true, ltb-false}
use Rattle.std.proofs.lemmas.List.{append-nil, take_more}
use Rattle.std.proofs.lemmas.List.Elements.{Contains-push_cases}
use Rattle.std.specs.Prelude.{Contains, IfSome, IsSomeAnd, IfOk, OnOk, OnErr, unwrap_or}
use Rattle.ftp_base.specs.Outside.{HasRisen}
use Rattle.ftp_base.specs.Storage.{BegunFile, Files, Rule, Call, Metadata, Listing, ReadAt, Begin, Append, Answers, Begins, Grows, once_begun, meaning_of, contents, old_bytes, with_file}
use Rattle.ftp_base.specs.MemoryStorage.{memory_rule}
use Rattle.ftp_base.specs.declared.storage.StoreError.{StoreError}
use Rattle.ftp_base.specs.declared.storage.StoreError.TheVariants as store
use Rattle.ftp_base.specs.declared.error_kind.ErrorKind.{ErrorKind}
use Rattle.ftp_audit.specs.declared.calls.QuotaCall.{QuotaCall}
use Rattle.ftp_audit.specs.declared.calls.QuotaCall.TheVariants as call
use Rattle.ftp_audit.specs.declared.calls.Verdict.{Verdict}
use Rattle.ftp_audit.specs.declared.calls.Verdict.TheVariants.{Done, Refused, Failed}
use Rattle.ftp_audit.specs.Book.{Book}
use Rattle.ftp_audit.specs.Quota.{refusal_of, after_call, budget_or}
use Rattle.ftp_audit.specs.Alone.{calls_of, verdicts_to, IsApart}
use Rattle.ftp_audit.proofs.Alone.{verdicts-alone}
use Rattle.ftp_audit.specs.Replay.{Kept, kept_at, kept_by, once_all, call_of, refusal_in, verdict_by, next, kept_after, verdicts, Tells, Answered, NoFault, MadeFirst, verdict_of}

-- what is kept after calls and others behind them
pub kept_after-append : (rule : Rule) (kept : Kept) (xs ys : List QuotaCall) → kept_after rule kept (xs ++ ys) ≡ kept_after rule (kept_after rule kept xs) ys
kept_after-append rule kept [] ys = refl
kept_after-append rule kept (c ∷ xs) ys = kept_after-append rule (next rule kept c) xs ys

-- what becomes of calls and of others behind them
pub verdicts-append : (rule : Rule) (kept : Kept) (xs ys : List QuotaCall) → verdicts rule kept (xs ++ ys) ≡ verdicts rule kept xs ++ verdicts rule (kept_after rule kept xs) ys
verdicts-append rule kept [] ys = refl
verdicts-append rule kept (c ∷ xs) ys = ap (λ (rest : List Verdict). verdict_by (refusal_in rule kept c) ∷ rest) (verdicts-append rule (next rule kept c) xs ys)

-- ---- faults
-- a fault that was counted on the way was counted in all
pub rose-then : (a b c : ℕ) → b ≤ c → HasRisen a b → HasRisen a c
rose-then a b c on rose small = let up = rose small in omega arith

pub rose-after : (a b c : ℕ) → a ≤ b → b ≤ c → HasRisen b c → HasRisen a c
rose-after a b c first on rose small =
    elim (nat_lt b (2 ^ 64 - 1)) as (λ r. nat_lt b (2 ^ 64 - 1) ≡ r → a < c) [
      | true ↦ λ e. let up = rose (ltb-true b (2 ^ 64 - 1) e) in omega arith
      | false ↦ λ e. let above = ltb-false b (2 ^ 64 - 1) e in omega arith
    ] refl

-- ---- calls over what was begun before
-- a call is refused by the rule once files were begun as it is where they are kept
refusal-from : (rule : Rule) (kept : Kept) (c : QuotaCall) → refusal_in (once_all kept.begun rule) (kept_at kept.book kept.files) c ≡ refusal_in rule kept c
refusal-from rule kept c = ap (λ (begun : List BegunFile). refusal_of kept.book (rule begun kept.files) (call_of c)) (append-nil kept.begun)

-- and what is told then is told there
tells-from : (rule : Rule) (kept : Kept) (c : QuotaCall) (r : Option ErrorKind) (files : Option Files) (book : Option Book) (now : Rule) →
    Tells (once_all kept.begun rule) files book now (kept_by r (kept_at kept.book kept.files) (call_of c)) → Tells rule files book now (kept_by r kept (call_of c))
tells-from rule kept c (Some k) files book now t = record { same_files = t.same_files; same_book = t.same_book; same_rule = t.same_rule }
tells-from rule kept (call.Begin user path start) None files book now t = record {
  same_files = t.same_files;
  same_book = t.same_book;
  same_rule = t.same_rule ∙ (λ i later. rule (sym (append_assoc kept.begun ((user, path) ∷ []) later) i));
}
tells-from rule kept (call.Append user path bytes) None files book now t = record { same_files = t.same_files; same_book = t.same_book; same_rule = t.same_rule }

answered-from : (rule : Rule) (kept : Kept) (c : QuotaCall) (files : Option Files) (book : Option Book) (now : Rule) (v : Verdict) →
    Answered (once_all kept.begun rule) (kept_at kept.book kept.files) c files book now v → Answered rule kept c files book now v
answered-from rule kept c files book now v answered = λ good.
    let told = answered good in (
      told.0 ∙ ap verdict_by (refusal-from rule kept c),
      tells-from rule kept c (refusal_in rule kept c) files book now
          (subst (λ (r : Option ErrorKind). Tells (once_all kept.begun rule) files book now (kept_by r (kept_at kept.book kept.files) (call_of c))) (refusal-from rule kept c) told.1),
    )

-- ---- one call
-- what a file holds, if there is one, is what it is made longer from
grown-old : (files : Files) (later : Option Files) (path bytes : List ℕ) → Grows (Some files) later path bytes → later ≡ Some (with_file files path (old_bytes files path ++ bytes))
grown-old files later path bytes = at (contents files path) where
  at : (o : Option (List ℕ)) → IsSomeAnd o (λ had. later ≡ Some (with_file files path (had ++ bytes))) → later ≡ Some (with_file files path (unwrap_or o [] ++ bytes))
  at None grown = absurd grown
  at (Some had) grown = grown

-- a call that went well was not refused, and what is told then is told of it
went-well : (rule : Rule) (kept : Kept) (c : QuotaCall) (files : Option Files) (book : Option Book) (now : Rule) → refusal_in rule kept c ≡ None →
    Tells rule files book now (kept_by None kept (call_of c)) → Answered rule kept c files book now Done
went-well rule kept c files book now none tells = λ good. (
  sym (ap verdict_by none),
  subst (λ (r : Option ErrorKind). Tells rule files book now (kept_by r kept (call_of c))) (sym none) tells,
)

-- one that was refused changed nothing
was-refused : (rule : Rule) (kept : Kept) (c : QuotaCall) (k : ErrorKind) (files : Option Files) (book : Option Book) (now : Rule) → refusal_in rule kept c ≡ Some k →
    Tells rule files book now kept → Answered rule kept c files book now (Refused k)
was-refused rule kept c k files book now some tells = λ good. (
  sym (ap verdict_by some),
  subst (λ (r : Option ErrorKind). Tells rule files book now (kept_by r kept (call_of c))) (sym some) tells,
)

-- an answer as it was given, to a call as it was made
pub told-as : {E : Type 0} (r s : Result Verdict E) (c d : QuotaCall) (told later : Option Files) (book new : Option Book) (rule now : Rule) → r ≡ s → c ≡ d →
    IfSome told (λ f. IfOk s (Answered rule (kept_at book f) c later new now)) → IfSome told (λ f. IfOk r (Answered rule (kept_at book f) d later new now))
told-as {E} r s c d told later book new rule now answer made so =
    subst (λ (q : QuotaCall). IfSome told (λ f. IfOk r (Answered rule (kept_at book f) q later new now))) made
    (subst (λ (v : Result Verdict E). IfSome told (λ f. IfOk v (Answered rule (kept_at book f) c later new now))) (sym answer) so)

-- what an answer to a begin tells
pub begin-told : (result : Result (Unit {0}) StoreError) (told later : Option Files) (book new : Option Book) (rule now : Rule) (user path : List ℕ) (start : ℕ) →
    Answers told (refusal_of book (meaning_of rule told) (Begin user path start)) result →
    OnOk result (Begins told later path start) → OnErr result (later ≡ told) →
    OnOk result (new ≡ after_call book (Begin user path start)) → OnErr result (new ≡ book) →
    OnOk result (now ≡ once_begun (user, path) rule) → OnErr result (now ≡ rule) →
    IfSome told (λ f. IfOk (verdict_of result) (Answered rule (kept_at book f) (call.Begin user path start) later new now))
begin-told result None later book new rule now user path start refused begun same owned kept moved stays = tt
begin-told (Ok x) (Some f) later book new rule now user path start refused begun same owned kept moved stays =
    went-well rule (kept_at book f) (call.Begin user path start) later new now (refused refl) (record { same_files = begun; same_book = owned; same_rule = moved })
begin-told (Err (store.Kind k)) (Some f) later book new rule now user path start refused begun same owned kept moved stays =
    was-refused rule (kept_at book f) (call.Begin user path start) k later new now (refused refl) (record { same_files = same; same_book = kept; same_rule = stays })
begin-told (Err store.Failed) (Some f) later book new rule now user path start refused begun same owned kept moved stays = λ good. absurd (good refl)
begin-told (Err store.OutOfMemory) (Some f) later book new rule now user path start refused begun same owned kept moved stays = tt

-- and one to an append
pub append-told : (result : Result (Unit {0}) StoreError) (told later : Option Files) (book new : Option Book) (rule now : Rule) (user path bytes : List ℕ) →
    Answers told (refusal_of book (meaning_of rule told) (Append user path bytes)) result →
    OnOk result (Grows told later path bytes) → OnErr result (later ≡ told) →
    OnOk result (new ≡ after_call book (Append user path bytes)) → OnErr result (new ≡ book) → now ≡ rule →
    IfSome told (λ f. IfOk (verdict_of result) (Answered rule (kept_at book f) (call.Append user path bytes) later new now))
append-told result None later book new rule now user path bytes refused grown same owned kept stays = tt
append-told (Ok x) (Some f) later book new rule now user path bytes refused grown same owned kept stays =
    went-well rule (kept_at book f) (call.Append user path bytes) later new now (refused refl)
    (record { same_files = grown-old f later path bytes grown; same_book = owned; same_rule = stays })
append-told (Err (store.Kind k)) (Some f) later book new rule now user path bytes refused grown same owned kept stays =
    was-refused rule (kept_at book f) (call.Append user path bytes) k later new now (refused refl) (record { same_files = same; same_book = kept; same_rule = stays })
append-told (Err store.Failed) (Some f) later book new rule now user path bytes refused grown same owned kept stays = λ good. absurd (good refl)
append-told (Err store.OutOfMemory) (Some f) later book new rule now user path bytes refused grown same owned kept stays = tt

-- ---- the calls so far
-- after i calls: what was found of each, what is kept where no fault was counted, and that a call failed only with a fault
pub record Replaying (rule now : Rule) (old new : Option Files) (before after : Option Book) (faults later : ℕ) (calls : List QuotaCall) (i : ℕ) (found : List Verdict) : Type 0 where
  pub counted : length found ≡ i
  pub told : IfSome old (λ f. NoFault faults later →
      Tells rule new after now (kept_after rule (kept_at before f) (take i calls)) × (found ≡ verdicts rule (kept_at before f) (take i calls)))
  pub failed : Contains found Failed → HasRisen faults later

none_contained : (v : Verdict) → Contains [] v → ⊥
none_contained v h = let never = h.1 in absurd (omega arith)

-- before the first call
pub replaying-none : (rule : Rule) (old : Option Files) (before : Option Book) (faults : ℕ) (calls : List QuotaCall) (found : List Verdict) → found ≡ [] → Replaying rule rule old old before before faults faults calls 0 found
replaying-none rule old before faults calls found none = record {
  counted = ap length none;
  told = start old refl;
  failed = λ h. absurd (none_contained Failed (subst (λ (vs : List Verdict). Contains vs Failed) none h));
} where
  start : (o : Option Files) → old ≡ o → IfSome o (λ f. NoFault faults faults →
      Tells rule old before rule (kept_after rule (kept_at before f) (take 0 calls)) × (found ≡ verdicts rule (kept_at before f) (take 0 calls)))
  start None is = tt
  start (Some f) is = λ well. (record { same_files = is; same_book = refl; same_rule = refl }, none)

-- after one more call
pub replaying-more : (rule now latest_rule : Rule) (old new newer : Option Files) (before after next_after : Option Book) (faults later latest : ℕ) (calls : List QuotaCall) (i : ℕ) (found : List Verdict) (c : QuotaCall) (v : Verdict) →
    Replaying rule now old new before after faults later calls i found → i < length calls → c ≡ get_or calls i c → faults ≤ later → later ≤ latest →
    IfSome new (λ f. Answered now (kept_at after f) c newer next_after latest_rule v) → (v ≡ Failed → HasRisen later latest) →
    Replaying rule latest_rule old newer before next_after faults latest calls (i + 1) (found ++ v ∷ [])
replaying-more rule now latest_rule old new newer before after next_after faults later latest calls i found c v r below item first on answered rose = record {
  counted = length-append found (v ∷ []) ∙ ap (λ n. n + 1) r.counted;
  told = step old r.told;
  failed = λ h. either (Contains-push_cases found v Failed h);
} where
  either : Contains found Failed ⊎ (v ≡ Failed) → HasRisen faults latest
  either (inl before_it) = rose-then faults later latest on (r.failed before_it)
  either (inr this) = rose-after faults later latest first on (rose this)

  taken : take (i + 1) calls ≡ take i calls ++ c ∷ []
  taken = take_more calls i c below ∙ ap (λ (x : QuotaCall). take i calls ++ x ∷ []) (sym item)

  step : (o : Option Files) →
      IfSome o (λ f. NoFault faults later → Tells rule new after now (kept_after rule (kept_at before f) (take i calls)) × (found ≡ verdicts rule (kept_at before f) (take i calls))) →
      IfSome o (λ f. NoFault faults latest → Tells rule newer next_after latest_rule (kept_after rule (kept_at before f) (take (i + 1) calls)) × (found ++ v ∷ [] ≡ verdicts rule (kept_at before f) (take (i + 1) calls)))
  step None told = tt
  step (Some f) told = λ well.
      let so_far = told (λ risen. well (rose-then faults later latest on risen)) in
      let kept = kept_after rule (kept_at before f) (take i calls) in
      let here : Answered now (kept_at after kept.files) c newer next_after latest_rule v = rw so_far.0.same_files at answered in
      let there : Answered (once_all kept.begun rule) (kept_at after kept.files) c newer next_after latest_rule v =
      subst (λ (x : Rule). Answered x (kept_at after kept.files) c newer next_after latest_rule v) so_far.0.same_rule here in
      let same : Answered (once_all kept.begun rule) (kept_at kept.book kept.files) c newer next_after latest_rule v =
      subst (λ (b : Option Book). Answered (once_all kept.begun rule) (kept_at b kept.files) c newer next_after latest_rule v) so_far.0.same_book there in
      let due : Answered rule kept c newer next_after latest_rule v = answered-from rule kept c newer next_after latest_rule v same in
      let did = due (λ e. well (rose-after faults later latest first on (rose e))) in (
        subst (λ (cs : List QuotaCall). Tells rule newer next_after latest_rule (kept_after rule (kept_at before f) cs)) (sym taken)
            (subst (λ (k : Kept). Tells rule newer next_after latest_rule k) (sym (kept_after-append rule (kept_at before f) (take i calls) (c ∷ []))) did.1),
        ap (λ (vs : List Verdict). vs ++ v ∷ []) so_far.1
            ∙ ap (λ (x : Verdict). verdicts rule (kept_at before f) (take i calls) ++ x ∷ []) did.0
            ∙ sym (verdicts-append rule (kept_at before f) (take i calls) (c ∷ []))
            ∙ ap (verdicts rule (kept_at before f)) (sym taken),
      )

-- all calls were made
pub all-made : (rule now : Rule) (old new : Option Files) (before after : Option Book) (faults later : ℕ) (calls : List QuotaCall) (found : List Verdict) → Replaying rule now old new before after faults later calls (length calls) found →
    IfSome old (λ f. NoFault faults later → found ≡ verdicts rule (kept_at before f) calls)
all-made rule now old new before after faults later calls found r = at old r.told where
  at : (o : Option Files) → IfSome o (λ f. NoFault faults later → Tells rule new after now (kept_after rule (kept_at before f) (take (length calls) calls)) × (found ≡ verdicts rule (kept_at before f) (take (length calls) calls))) →
      IfSome o (λ f. NoFault faults later → found ≡ verdicts rule (kept_at before f) calls)
  at None told = tt
  at (Some f) told = λ well. (told well).1 ∙ ap (verdicts rule (kept_at before f)) (take_all (length calls) calls (omega arith))

-- the first calls were made, where the next one found no memory
pub first-made : (rule now latest_rule : Rule) (old new newer : Option Files) (before after next_after : Option Book) (faults later latest : ℕ) (calls : List QuotaCall) (i : ℕ) (found : List Verdict) →
    Replaying rule now old new before after faults later calls i found → i ≤ length calls → later ≤ latest → newer ≡ new → next_after ≡ after → latest_rule ≡ now →
    IfSome old (λ f. NoFault faults latest → MadeFirst rule (kept_at before f) calls newer next_after latest_rule i)
first-made rule now latest_rule old new newer before after next_after faults later latest calls i found r within on same_files same_book same_rule = at old r.told where
  at : (o : Option Files) → IfSome o (λ f. NoFault faults later → Tells rule new after now (kept_after rule (kept_at before f) (take i calls)) × (found ≡ verdicts rule (kept_at before f) (take i calls))) →
      IfSome o (λ f. NoFault faults latest → MadeFirst rule (kept_at before f) calls newer next_after latest_rule i)
  at None told = tt
  at (Some f) told = λ well.
      let so_far = told (λ risen. well (rose-then faults later latest on risen)) in
      record { within = within; tells = record { same_files = same_files ∙ so_far.0.same_files; same_book = same_book ∙ so_far.0.same_book; same_rule = same_rule ∙ so_far.0.same_rule } }

budget_after : (A : Option Book) (c : Call) (user : List ℕ) → budget_or (after_call A c) user ≡ budget_or A user
budget_after None c user = refl
budget_after (Some book) (Metadata who path) user = refl
budget_after (Some book) (Listing who path) user = refl
budget_after (Some book) (ReadAt who path place) user = refl
budget_after (Some book) (Begin who path start) user = refl
budget_after (Some book) (Append who path bytes) user = refl

-- a call leaves each user's budget
pub budget_kept : (answer : Result (Unit {0}) StoreError) (before after : Option Book) (c : Call) → OnOk answer (after ≡ after_call before c) → OnErr answer (after ≡ before) →
    (user : List ℕ) → budget_or after user ≡ budget_or before user
budget_kept (Ok x) before after c owned same user = ap (λ (b : Option Book). budget_or b user) owned ∙ budget_after before c user
budget_kept (Err e) before after c owned same user = ap (λ (b : Option Book). budget_or b user) same

-- what becomes of a user's calls is what becomes of them alone
pub told-alone : (old : Option Files) (before : Option Book) (rule : Rule) (max : ℕ) (user : List ℕ) (calls : List QuotaCall) (found : List Verdict) (P : Type 0) → IsApart user calls → rule ≡ memory_rule max →
    IfSome old (λ f. P → found ≡ verdicts rule (kept_at before f) calls) →
    IfSome old (λ f. P → verdicts_to user calls found ≡ verdicts (memory_rule max) (kept_at before f) (calls_of user calls))
told-alone None before rule max user calls found P apart is due = tt
told-alone (Some f) before rule max user calls found P apart is due = λ well.
    ap (verdicts_to user calls) (due well ∙ ap (λ (r : Rule). verdicts r (kept_at before f) calls) is)
    ∙ verdicts-alone user max (kept_at before f) calls apart

-- some of the first calls were made
pub stopped-made : {A E : Type 0} (o : Option Files) (N : Type 0) (r : Result A E) (M : Files → ℕ → Type 0) (i : ℕ) → IfSome o (λ f. N → M f i) → IfSome o (λ f. N → OnErr r ((n : ℕ) × M f n))
stopped-made None N r M i made = tt
stopped-made (Some f) N (Ok x) M i made = λ well. tt
stopped-made (Some f) N (Err e) M i made = λ well. (i, made well)
