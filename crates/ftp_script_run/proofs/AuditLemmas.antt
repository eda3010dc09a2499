-- How an audit of a script ends, from what it keeps.
use Rattle.std.proofs.Common.{◌≡◌, ◌⊎◌, ℕ, ◌-◌, ◌^◌, ◌≤◌, inl, inr, List, [], ◌∷◌, ◌++◌, Option, Some, None, refl, subst, append-nil, arith}
use Rattle.std.specs.Prelude.{IfSome, Result, Ok, Err, OnOk, OnErr}
use Rattle.std.proofs.lemmas.Option.{IfSome_then}
use Rattle.std.proofs.lemmas.Bool.{cases_lt}
use Rattle.ftp_base.specs.Outside.{Writes, HasRisen}
use Rattle.ftp_base.specs.declared.fault.Failed.{Failed}
use Rattle.ftp_base.specs.declared.fault.Failed.TheVariants.{Fault, Memory}
use Rattle.ftp_options.specs.declared.options.Options.{Options}
use Rattle.ftp_events.specs.declared.entry.Entry.{Entry}
use Rattle.ftp_control.specs.Writing.{WritesFront}
use Rattle.ftp_hub.specs.Stands.{options_of}
use Rattle.ftp_text.specs.declared.setup.Item.{Item}
use Rattle.ftp_script_run.specs.declared.text_script.ScriptReader.{ScriptReader}
use Rattle.ftp_script_run.specs.Script.{IsScriptOf}
use Rattle.ftp_script_run.specs.ScriptReader.{HasRead, ReadsAhead, StopsBehind, IsLetIn}
use Rattle.ftp_audit.specs.Heard.{AuditState, HasHeard, Stands}
use Rattle.ftp_script_run.specs.declared.run.Run.{Run}
use Rattle.ftp_script_run.specs.declared.status.Status.{Status}
use Rattle.ftp_script_run.specs.declared.status.Status.TheVariants as status
use Rattle.ftp_script_run.specs.Statuses.{ended_by}
use Rattle.ftp_script_run.specs.Outcome.{bad_line}
use Rattle.ftp_script_run.specs.Runs.{Keeps}
use Rattle.ftp_script_run.specs.Audited.{IsNoted, Hearing, Reports, ReportsPart, WritesReport, WritesReportPart, AuditsPart, AuditOutcome}
use Rattle.ftp_script_run.proofs.OutcomeLemmas.{ends-so, reads-writes, front-writes, all-writes}
use Rattle.ftp_script_run.proofs.RunLemmas.{stands-anew}
use Rattle.ftp_control.proofs.WritingLemmas.{front-more, front-longer, on_ok-then, on_err-then}

-- the audit stands for the log of the run
heard-stands : (run : Run) (items : List Item) (log : List Entry) (audit : AuditState) → Keeps None run items log → HasHeard audit log → Stands (options_of run.hub) audit log
heard-stands run items log audit kept heard = let stands = stands-anew run items log kept in record { right = stands.right; acted = stands.acted; heard = heard }

-- ---- reports

-- a part of a report is a part of it with something behind it
pub part-longer : (o : Options) (log : List Entry) (behind : List ℕ) (old new : Option (List ℕ)) → ReportsPart o log [] old new → ReportsPart o log behind old new
part-longer o log behind old new (inl same) = inl same
part-longer o log behind old new (inr part) =
    inr (part.0, part.1, front-longer old new part.0 behind (subst (WritesFront old new) (append-nil part.0) part.2))

-- a report, and then a part of what stands behind it
pub part-more : (o : Options) (log : List Entry) (behind : List ℕ) (old now new : Option (List ℕ)) → Reports o log [] old now → WritesFront now new behind → ReportsPart o log behind old new
part-more o log behind old now new report more =
    inr (report.0, report.1, front-more old now new report.0 behind (subst (Writes old now) (append-nil report.0) report.2) more)

-- ---- the steps

-- one more item was read, and its entry was heard
pub hearing-more : {all left later : Option (List ℕ)} {reader next : ScriptReader} {run after : Run} {audit heard : AuditState} {buffer out : List ℕ} (i : Item) (r : Hearing all reader run audit buffer left) →
    IsLetIn r.items i next →
    ((bytes : List ℕ) → HasRead r.items bytes reader buffer left → HasRead (r.items ++ i ∷ []) bytes next out later) →
    IsNoted after (r.items ++ i ∷ []) r.log heard →
    Hearing all next after heard out later
hearing-more {all} i r in_place told noted = record {
  items = r.items ++ i ∷ [];
  log = noted.0 ++ r.log;
  known = in_place.1;
  kept = noted.1;
  heard = noted.2;
  read = IfSome_then all r.read told;
}

-- nothing was written
pub heard-memory : {all left : Option (List ℕ)} {reader : ScriptReader} {run : Run} {audit : AuditState} {buffer : List ℕ} (failed : Type 0) (later old new : Option (List ℕ)) (r : Hearing all reader run audit buffer left) →
    ((bytes : List ℕ) → HasRead r.items bytes reader buffer left → ReadsAhead r.items bytes later) →
    new ≡ old →
    IfSome all (λ bytes. AuditsPart failed bytes later old new)
heard-memory {all} {run} failed later old new r ahead same =
    IfSome_then all r.read (λ bytes h. front-writes bytes later run r.items r.log (ahead bytes h) r.kept h (inl same, inl same))

pub heard-end : {all left : Option (List ℕ)} {reader : ScriptReader} {run : Run} {audit : AuditState} {buffer : List ℕ} (failed : Type 0) (later old new : Option (List ℕ)) (last : Result Unit Failed) (s : Status) (r : Hearing all reader run audit buffer left) →
    s ≡ ended_by last status.Done →
    ((bytes : List ℕ) → HasRead r.items bytes reader buffer left → IsScriptOf bytes r.items None × (later ≡ Some [])) →
    ((bytes : List ℕ) → HasRead r.items bytes reader buffer left → ReadsAhead r.items bytes later) →
    OnOk last ((o : Options) (log : List Entry) → Stands o audit log → Reports o log [] old new) →
    OnErr last ((o : Options) (log : List Entry) → Stands o audit log → ReportsPart o log [] old new) →
    IfSome all (λ bytes. AuditOutcome s failed bytes later old new)
heard-end {all} {run} {audit} failed later old new last s r is told ahead wrote front =
    let stands = heard-stands run r.items r.log audit r.kept r.heard in
    IfSome_then all r.read
    (λ bytes h. ends-so (WritesReport old new) (WritesReportPart failed old new) status.Done s last bytes later is
    (on_ok-then last wrote (λ wrote. reads-writes run r.items r.log r.kept (told bytes h) (wrote (options_of run.hub) r.log stands)))
    (on_err-then last front (λ front. all-writes bytes later run r.items r.log (ahead bytes h) r.kept None (told bytes h).0 (inr (inl refl), front (options_of run.hub) r.log stands))))

pub heard-bad : {all left : Option (List ℕ)} {reader : ScriptReader} {run : Run} {audit : AuditState} {buffer : List ℕ} (failed : Type 0) (later old new : Option (List ℕ)) (k : ℕ) (last : Result Unit Failed) (s : Status) (r : Hearing all reader run audit buffer left) →
    s ≡ ended_by last (status.BadLine k) →
    ((bytes : List ℕ) → HasRead r.items bytes reader buffer left → IsScriptOf bytes r.items (Some k)) →
    ((bytes : List ℕ) → HasRead r.items bytes reader buffer left → ReadsAhead r.items bytes later) →
    OnOk last ((o : Options) (log : List Entry) → Stands o audit log → Reports o log (bad_line k) old new) →
    OnErr last ((o : Options) (log : List Entry) → Stands o audit log → ReportsPart o log (bad_line k) old new) →
    IfSome all (λ bytes. AuditOutcome s failed bytes later old new)
heard-bad {all} {run} {audit} failed later old new k last s r is told ahead wrote front =
    let stands = heard-stands run r.items r.log audit r.kept r.heard in
    IfSome_then all r.read
    (λ bytes h. ends-so (WritesReport old new) (WritesReportPart failed old new) (status.BadLine k) s last bytes later is
    (on_ok-then last wrote (λ wrote. reads-writes run r.items r.log r.kept (told bytes h, ahead bytes h) (wrote (options_of run.hub) r.log stands)))
    (on_err-then last front (λ front. all-writes bytes later run r.items r.log (ahead bytes h) r.kept (Some k) (told bytes h) (inr (inl refl), front (options_of run.hub) r.log stands))))

pub heard-fault : {all left : Option (List ℕ)} {reader : ScriptReader} {run : Run} {audit : AuditState} {buffer : List ℕ} (failed : Type 0) (later old new : Option (List ℕ)) (last : Result Unit Failed) (s : Status) (r : Hearing all reader run audit buffer left) →
    s ≡ ended_by last status.ReadFault →
    failed →
    ((bytes : List ℕ) → HasRead r.items bytes reader buffer left → StopsBehind r.items bytes later) →
    ((bytes : List ℕ) → HasRead r.items bytes reader buffer left → ReadsAhead r.items bytes later) →
    OnOk last ((o : Options) (log : List Entry) → Stands o audit log → Reports o log [] old new) →
    OnErr last ((o : Options) (log : List Entry) → Stands o audit log → ReportsPart o log [] old new) →
    IfSome all (λ bytes. AuditOutcome s failed bytes later old new)
heard-fault {all} {run} {audit} failed later old new last s r is risen told ahead wrote front =
    let stands = heard-stands run r.items r.log audit r.kept r.heard in
    IfSome_then all r.read
    (λ bytes h. ends-so (WritesReport old new) (WritesReportPart failed old new) status.ReadFault s last bytes later is
    (on_ok-then last wrote (λ wrote. reads-writes run r.items r.log r.kept (told bytes h) (wrote (options_of run.hub) r.log stands)))
    (on_err-then last front (λ front. front-writes bytes later run r.items r.log (ahead bytes h) r.kept h (inr (inr risen), front (options_of run.hub) r.log stands))))

-- ---- a source that fails

-- a source that failed later has failed since
pub risen-earlier : (old now new : ℕ) → old ≤ now → HasRisen now new → now ≤ new → HasRisen old new
risen-earlier old now new up risen more low = elim (cases_lt now (2 ^ 64 - 1)) [
  | inl below ↦ omega (arith, up, risen below)
  | inr last ↦ omega (arith, up, more, low, last)
]

part-earlier : (failed since : Type 0) (bytes : List ℕ) (left old new : Option (List ℕ)) → (failed → since) → AuditsPart failed bytes left old new → AuditsPart since bytes left old new
part-earlier failed since bytes left old new f p = record {
  read = p.read;
  rest = p.rest;
  items = p.items;
  bad = p.bad;
  log = p.log;
  all_is = p.all_is;
  whole = p.whole;
  script = p.script;
  reads = p.reads;
  links = p.links;
  storage = p.storage;
  legal = p.legal;
  wrote = (begun-earlier p.wrote.0, p.wrote.1);
} where
  begun-earlier : (new ≡ old) ⊎ ((p.rest ≡ []) ⊎ failed) → (new ≡ old) ⊎ ((p.rest ≡ []) ⊎ since)
  begun-earlier (inl same) = inl same
  begun-earlier (inr (inl all)) = inr (inl all)
  begun-earlier (inr (inr risen)) = inr (inr (f risen))

pub audited-earlier : (s : Status) (failed since : Type 0) (bytes : List ℕ) (left old new : Option (List ℕ)) → (failed → since) → AuditOutcome s failed bytes left old new → AuditOutcome s since bytes left old new
audited-earlier status.Done failed since bytes left old new f out = out
audited-earlier (status.BadLine k) failed since bytes left old new f out = out
audited-earlier status.ReadFault failed since bytes left old new f out = out
audited-earlier status.WriteFault failed since bytes left old new f out = part-earlier failed since bytes left old new f out
audited-earlier status.OutOfMemory failed since bytes left old new f out = part-earlier failed since bytes left old new f out
audited-earlier status.Usage failed since bytes left old new f out = out

-- what the last step tells is so from the first on
pub audit-ends : (all left now old new : Option (List ℕ)) (first since last : ℕ) (s : Status) →
    first ≤ since →
    since ≤ last →
    now ≡ old →
    IfSome all (λ bytes. AuditOutcome s (HasRisen since last) bytes left now new) →
    IfSome all (λ bytes. AuditOutcome s (HasRisen first last) bytes left old new)
audit-ends all left now old new first since last s up more same out =
    IfSome_then all out
    (λ bytes o. subst (λ (w : Option (List ℕ)). AuditOutcome s (HasRisen first last) bytes left w new) same
    (audited-earlier s (HasRisen since last) (HasRisen first last) bytes left now new (λ risen. risen-earlier first since last up risen more) o))
