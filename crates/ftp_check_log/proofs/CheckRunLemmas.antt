-- How a check ends, by its verdict or explanation and by what the sink took.
use Rattle.std.proofs.Common.{◌≡◌, ℕ, ◌≤◌, ◌⊎◌, inl, inr, Bool, cond, ltb, true, false, List, Option, Some, None, refl, sym, ap, subst, ◌∙◌, arith}
use Rattle.std.specs.Prelude.{◌↔◌, Result, Ok, Err, OnOk, OnErr, IsErrOf, IfSome}
use Rattle.std.proofs.lemmas.Bool.{lt-ltb, ltb-true}
use Rattle.std.proofs.lemmas.Option.{IfSome_then}
use Rattle.ftp_base.specs.Outside.{Writes}
use Rattle.ftp_base.specs.declared.fault.Failed.{Failed}
use Rattle.ftp_base.specs.declared.fault.Failed.TheVariants.{Fault, Memory}
use Rattle.ftp_control.specs.Writing.{WritesFront}
use Rattle.ftp_text.proofs.Exact.{some_is}
use Rattle.ftp_check_log.specs.declared.explanation.Explanation.{Explanation}
use Rattle.ftp_check_log.specs.declared.explanation.Explanation.TheVariants as explanation
use Rattle.ftp_check_log.specs.declared.verdict.Verdict.{Verdict}
use Rattle.ftp_check_log.specs.declared.verdict.Verdict.TheVariants as verdict
use Rattle.ftp_check_log.specs.Explanations.{TellsWhy, Explains, IsNotRight}
use Rattle.ftp_check_log.specs.Verdicts.{TellsOfText}
use Rattle.ftp_check_log.specs.declared.command.CheckCommand.{CheckCommand}
use Rattle.ftp_check_log.specs.declared.command.CheckCommand.TheVariants as command
use Rattle.ftp_check_log.specs.declared.status.CheckStatus.{CheckStatus}
use Rattle.ftp_check_log.specs.declared.status.CheckStatus.TheVariants as status
use Rattle.ftp_check_log.specs.CheckCommands.{AsksFor, text_told}
use Rattle.ftp_check_log.specs.CheckStatuses.{verdict_status, why_status, explanation_status, after_write}
use Rattle.ftp_check_log.specs.declared.telling.TheConstants.{CHECK_HELP, CHECK_VERSION}
use Rattle.ftp_check_log.specs.CheckOutcome.{CheckOutcome, WhyOutcome, TellsText, OutcomeOfCommand}
use Rattle.ftp_check_log.specs.VerdictLines.{verdict_text, explanation_text}

-- ---- a verdict

told-after : {T : Type 0} (r : Result T Failed) (v : Verdict) (bytes : List ℕ) (old new : Option (List ℕ)) →
    TellsOfText v bytes →
    OnOk r (Writes old new (verdict_text v)) →
    OnErr r (WritesFront old new (verdict_text v)) →
    CheckOutcome (after_write r (verdict_status v)) bytes old new
told-after (Ok x) (verdict.Right n) bytes old new so wrote front = record { entries = n; right = so; written = wrote }
told-after (Ok x) (verdict.Decided n due) bytes old new so wrote front = record { verdict = verdict.Decided n due; of_entry = tt; so = so; written = wrote }
told-after (Ok x) (verdict.Acted n) bytes old new so wrote front = record { verdict = verdict.Acted n; of_entry = tt; so = so; written = wrote }
told-after (Ok x) (verdict.BadText k) bytes old new so wrote front = record { so = so; written = wrote }
told-after (Err Fault) v bytes old new so wrote front = inr (v, so, front)
told-after (Err Memory) v bytes old new so wrote front = inr (v, so, front)

-- what the text is and what was written, where the verdict was told
pub told-outcome : {T : Type 0} (r : Result T Failed) (v : Verdict) (s t : CheckStatus) (bytes : List ℕ) (old new : Option (List ℕ)) →
    t ≡ verdict_status v →
    s ≡ after_write r t →
    OnOk r (Writes old new (verdict_text v)) →
    OnErr r (WritesFront old new (verdict_text v)) →
    TellsOfText v bytes →
    CheckOutcome s bytes old new
told-outcome r v s t bytes old new of after wrote front so =
    subst (λ (q : CheckStatus). CheckOutcome q bytes old new) (sym (after ∙ ap (λ (q : CheckStatus). after_write r q) of)) (told-after r v bytes old new so wrote front)

-- the status is that of the one verdict, where the sink does not fail
pub told-status : {T : Type 0} (r : Result T Failed) (v w : Verdict) (s t : CheckStatus) (risen : Type 0) →
    t ≡ verdict_status v →
    s ≡ after_write r t →
    (IsErrOf r Fault → risen) →
    w ≡ v →
    (risen → ⊥) →
    (s ≡ verdict_status w) ⊎ (s ≡ status.OutOfMemory)
told-status (Ok x) v w s t risen of after fault same none = inl (after ∙ of ∙ ap verdict_status (sym same))
told-status (Err Fault) v w s t risen of after fault same none = absurd (none (fault refl))
told-status (Err Memory) v w s t risen of after fault same none = inr after

-- the status of a verdict is no fault of the sink
pub of-no_write : (v : Verdict) → verdict_status v ≡ status.WriteFault → ⊥
of-no_write (verdict.Right n) e = cc
of-no_write (verdict.Decided n due) e = cc
of-no_write (verdict.Acted n) e = cc
of-no_write (verdict.BadText k) e = cc

-- ---- after the last write

pub after-write_fault : {T : Type 0} (r : Result T Failed) (s t : CheckStatus) (risen : Type 0) →
    (t ≡ status.WriteFault → ⊥) →
    s ≡ after_write r t →
    (IsErrOf r Fault → risen) →
    s ≡ status.WriteFault →
    risen
after-write_fault (Ok x) s t risen other after fault is = absurd (other (sym after ∙ is))
after-write_fault (Err Fault) s t risen other after fault is = fault refl
after-write_fault (Err Memory) s t risen other after fault is = absurd (cc)

-- how a run ends that has read its log, if any, where it may find no entry only if that may be
abbrev pub IsTold : Type 0 → CheckStatus → Type 0
IsTold unfound status.ReadFault = ⊥
IsTold unfound status.Usage = ⊥
IsTold unfound status.NoEntry = unfound
IsTold unfound s = Unit {0}

pub text-told : {T : Type 0} (unfound : Type 0) (r : Result T Failed) (s t : CheckStatus) → IsTold unfound t → s ≡ after_write r t → IsTold unfound s
text-told unfound (Ok x) s t told after = subst (IsTold unfound) (sym after) told
text-told unfound (Err Fault) s t told after = subst (IsTold unfound) (sym after) tt
text-told unfound (Err Memory) s t told after = subst (IsTold unfound) (sym after) tt

verdict-told : (unfound : Type 0) (v : Verdict) → IsTold unfound (verdict_status v)
verdict-told unfound (verdict.Right n) = tt
verdict-told unfound (verdict.Decided n due) = tt
verdict-told unfound (verdict.Acted n) = tt
verdict-told unfound (verdict.BadText k) = tt

pub check-told : {T : Type 0} (r : Result T Failed) (v : Verdict) (s t : CheckStatus) → t ≡ verdict_status v → s ≡ after_write r t → IsTold ⊥ s
check-told r v s t of after = text-told ⊥ r s t (subst (IsTold ⊥) (sym of) (verdict-told ⊥ v)) after

-- ---- an explanation

pub explained-no_write : (x : Explanation) → explanation_status x ≡ status.WriteFault → ⊥
explained-no_write (explanation.Found x) e = cc
explained-no_write explanation.NoEntry e = cc
explained-no_write (explanation.Wrong v) e = of-no_write v e

explained-told : (x : Explanation) → IsTold (Unit {0}) (explanation_status x)
explained-told (explanation.Found x) = tt
explained-told explanation.NoEntry = tt
explained-told (explanation.Wrong v) = verdict-told (Unit {0}) v

pub why-told : {T : Type 0} (r : Result T Failed) (x : Explanation) (s t : CheckStatus) → t ≡ explanation_status x → s ≡ after_write r t → IsTold (Unit {0}) s
why-told r x s t of after = text-told (Unit {0}) r s t (subst (IsTold (Unit {0})) (sym of) (explained-told x)) after

why-after : {T : Type 0} (r : Result T Failed) (k : ℕ) (x : Explanation) (bytes : List ℕ) (old new : Option (List ℕ)) →
    TellsWhy k x bytes →
    OnOk r (Writes old new (explanation_text x)) →
    OnErr r (WritesFront old new (explanation_text x)) →
    WhyOutcome k (after_write r (explanation_status x)) bytes old new
why-after (Ok y) k (explanation.Found x) bytes old new so wrote front = record { evidence = x; so = so; written = wrote }
why-after (Ok y) k explanation.NoEntry bytes old new so wrote front = record { so = so; written = wrote }
why-after (Ok y) k (explanation.Wrong (verdict.Right n)) bytes old new so wrote front = absurd so.0
why-after (Ok y) k (explanation.Wrong (verdict.Decided n due)) bytes old new so wrote front = record { verdict = verdict.Decided n due; of_entry = tt; so = so.1; written = wrote }
why-after (Ok y) k (explanation.Wrong (verdict.Acted n)) bytes old new so wrote front = record { verdict = verdict.Acted n; of_entry = tt; so = so.1; written = wrote }
why-after (Ok y) k (explanation.Wrong (verdict.BadText l)) bytes old new so wrote front = record { so = so.1; written = wrote }
why-after (Err Fault) k x bytes old new so wrote front = inr (x, so, front)
why-after (Err Memory) k x bytes old new so wrote front = inr (x, so, front)

-- what the text is and what was written, where the explanation was told
pub why-outcome : {T : Type 0} (r : Result T Failed) (k : ℕ) (x : Explanation) (s t : CheckStatus) (bytes : List ℕ) (old new : Option (List ℕ)) →
    t ≡ explanation_status x →
    s ≡ after_write r t →
    OnOk r (Writes old new (explanation_text x)) →
    OnErr r (WritesFront old new (explanation_text x)) →
    TellsWhy k x bytes →
    WhyOutcome k s bytes old new
why-outcome r k x s t bytes old new of after wrote front so =
    subst (λ (q : CheckStatus). WhyOutcome k q bytes old new) (sym (after ∙ ap (λ (q : CheckStatus). after_write r q) of)) (why-after r k x bytes old new so wrote front)

not-below : (k n : ℕ) → n ≤ k → ltb k n ≡ false
not-below k n le = below (ltb k n) refl where
  below : (b : Bool) → ltb k n ≡ b → b ≡ false
  below true is = absurd (omega (arith, ltb-true k n is, le))
  below false is = refl

-- an explanation by a verdict has another one than right
abbrev IsFaulty : Explanation → Type 0
IsFaulty (explanation.Wrong v) = IsNotRight v
IsFaulty x = Unit {0}

faulty-of : (x : Explanation) (k : ℕ) (bytes : List ℕ) → TellsWhy k x bytes → IsFaulty x
faulty-of (explanation.Found x) k bytes so = tt
faulty-of explanation.NoEntry k bytes so = tt
faulty-of (explanation.Wrong v) k bytes so = so.0

-- the status of an explanation is the one that is due by the verdict
due-status : (x : Explanation) (k : ℕ) (v : Verdict) → IsFaulty x → Explains k x v → explanation_status x ≡ why_status k v
due-status (explanation.Found x) k (verdict.Right n) faulty lt = ap (λ b. cond b status.Done status.NoEntry) (sym (lt-ltb k n lt))
due-status (explanation.Found x) k (verdict.Decided n due) faulty so = absurd so
due-status (explanation.Found x) k (verdict.Acted n) faulty so = absurd so
due-status (explanation.Found x) k (verdict.BadText l) faulty so = absurd so
due-status explanation.NoEntry k (verdict.Right n) faulty le = ap (λ b. cond b status.Done status.NoEntry) (sym (not-below k n le))
due-status explanation.NoEntry k (verdict.Decided n due) faulty so = absurd so
due-status explanation.NoEntry k (verdict.Acted n) faulty so = absurd so
due-status explanation.NoEntry k (verdict.BadText l) faulty so = absurd so
due-status (explanation.Wrong w) k (verdict.Right n) faulty so = absurd (subst IsNotRight (sym so) faulty)
due-status (explanation.Wrong w) k (verdict.Decided n due) faulty so = ap verdict_status (sym so)
due-status (explanation.Wrong w) k (verdict.Acted n) faulty so = ap verdict_status (sym so)
due-status (explanation.Wrong w) k (verdict.BadText l) faulty so = ap verdict_status (sym so)

-- the status is the one that is due, where the sink does not fail
pub why-told_status : {T : Type 0} (r : Result T Failed) (k : ℕ) (x : Explanation) (v : Verdict) (s t : CheckStatus) (risen : Type 0) →
    t ≡ explanation_status x →
    s ≡ after_write r t →
    (IsErrOf r Fault → risen) →
    (bytes : List ℕ) →
    TellsWhy k x bytes →
    Explains k x v →
    (risen → ⊥) →
    (s ≡ why_status k v) ⊎ (s ≡ status.OutOfMemory)
why-told_status (Ok y) k x v s t risen of after fault bytes so explains none = inl (after ∙ of ∙ due-status x k v (faulty-of x k bytes so) explains)
why-told_status (Err Fault) k x v s t risen of after fault bytes so explains none = absurd (none (fault refl))
why-told_status (Err Memory) k x v s t risen of after fault bytes so explains none = inr after

-- ---- commands

-- the command of the words
abbrev pub Finds : List (List ℕ) → Option CheckCommand → Type 0
Finds words found = (c : CheckCommand) → (found ≡ Some c) ↔ AsksFor words c

pub same-command : (words : List (List ℕ)) (found : Option CheckCommand) (c d : CheckCommand) → Finds words found → found ≡ Some c → AsksFor words d → c ≡ d
same-command words found c d is at asks = some_is c d (sym at ∙ (is d).1 asks)

pub no-command : {P : Type 0} (words : List (List ℕ)) (found : Option CheckCommand) (c : CheckCommand) → Finds words found → found ≡ None → AsksFor words c → P
no-command words found c is none asks = let at = (is c).1 asks in absurd (cc)

-- what is so of the command that was found is so of the one that the words are
pub of-command : (P : CheckCommand → Type 0) (words : List (List ℕ)) (found : Option CheckCommand) (c d : CheckCommand) → Finds words found → found ≡ Some c → AsksFor words d → P c → P d
of-command P words found c d is at asks so = subst P (same-command words found c d is at asks) so

-- what is so of whatever is there
pub some-all : {A : Type 0} (P : A → Type 0) (o : Option A) → ((x : A) → P x) → IfSome o P
some-all P None all = tt
some-all P (Some x) all = all x

pub both-some : {A : Type 0} (P Q : A → Type 0) (o : Option A) → IfSome o P → IfSome o Q → IfSome o (λ x. P x × Q x)
both-some P Q None p q = tt
both-some P Q (Some x) p q = (p, q)

-- usage is answered where no command is asked for
pub usage-of : (words : List (List ℕ)) (found : Option CheckCommand) (c : CheckCommand) (s : CheckStatus) → Finds words found → found ≡ Some c → (s ≡ status.Usage → ⊥) → (s ≡ status.Usage) ↔ ((d : CheckCommand) → AsksFor words d → ⊥)
usage-of words found c s is at other = (λ usage. absurd (other usage), λ none. absurd (none c ((is c).0 at)))

-- ---- by the status

-- what came of the command that was found and ended so is what comes of the one that the words are
pub outcome-of : (words : List (List ℕ)) (found : Option CheckCommand) (c d : CheckCommand) (s t : CheckStatus) (all old new : Option (List ℕ)) →
    Finds words found → found ≡ Some c → OutcomeOfCommand c s all old new → AsksFor words d → s ≡ t → OutcomeOfCommand d t all old new
outcome-of words found c d s t all old new is at so asks ends =
    subst (λ (u : CheckStatus). OutcomeOfCommand d u all old new) ends (of-command (λ (e : CheckCommand). OutcomeOfCommand e s all old new) words found c d is at asks so)

-- a log that is not as it is due is told so by either command that reads one
pub faulty-log : (c : CheckCommand) (s t : CheckStatus) (all old new : Option (List ℕ)) →
    ((k : ℕ) (bytes : List ℕ) → WhyOutcome k t bytes old new → CheckOutcome t bytes old new) → ((text : List ℕ) → TellsText t text old new → ⊥) →
    OutcomeOfCommand c s all old new → s ≡ t → IfSome all (λ bytes. CheckOutcome t bytes old new)
faulty-log c s t all old new same unlike so ends = by c (subst (λ (u : CheckStatus). OutcomeOfCommand c u all old new) ends so) where
  by : (c : CheckCommand) → OutcomeOfCommand c t all old new → IfSome all (λ bytes. CheckOutcome t bytes old new)
  by command.Check so = so
  by (command.Why k) so = IfSome_then all so (same k)
  by command.Help so = absurd (unlike CHECK_HELP.now so)
  by command.Version so = absurd (unlike CHECK_VERSION.now so)

pub text-of : (c : CheckCommand) (s : CheckStatus) (all old new : Option (List ℕ)) → OutcomeOfCommand c s all old new → IfSome (text_told c) (λ text. TellsText s text old new)
text-of command.Check s all old new so = tt
text-of (command.Why k) s all old new so = tt
text-of command.Help s all old new so = so
text-of command.Version s all old new so = so
