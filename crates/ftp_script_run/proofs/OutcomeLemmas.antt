-- How a run ends, from what it keeps.
use Rattle.std.proofs.Common.{◌≡◌, ◌⊎◌, ℕ, inl, inr, List, [], ◌∷◌, ◌++◌, Option, Some, None, refl, sym, subst, ◌∙◌, append-nil}
use Rattle.std.specs.Prelude.{IfSome, Result, Ok, Err, OnOk, OnErr}
use Rattle.std.proofs.lemmas.Option.{IfSome_then}
use Rattle.ftp_base.specs.LinkTable.{Numbered}
use Rattle.ftp_base.specs.Memory.{LinkState}
use Rattle.ftp_base.specs.Outside.{Writes}
use Rattle.ftp_base.specs.declared.fault.Failed.{Failed}
use Rattle.ftp_base.specs.declared.fault.Failed.TheVariants.{Fault, Memory}
use Rattle.ftp_options.specs.declared.options.Options.{Options}
use Rattle.ftp_events.specs.declared.entry.Entry.{Entry}
use Rattle.ftp_control.specs.Writing.{WritesFront}
use Rattle.ftp_text.specs.declared.setup.Item.{Item}
use Rattle.ftp_script_run.specs.declared.text_script.ScriptReader.{ScriptReader}
use Rattle.ftp_script_run.specs.Script.{IsScriptOf}
use Rattle.ftp_script_run.specs.ScriptReader.{IsLawful, HasRead, ReadsAhead, StopsBehind, IsLetIn}
use Rattle.ftp_script_run.proofs.ScriptLemmas.{between_told}
use Rattle.ftp_script_run.proofs.Reading.{script-once}
use Rattle.ftp_script_run.specs.declared.run.Run.{Run}
use Rattle.ftp_script_run.specs.declared.status.Status.{Status}
use Rattle.ftp_script_run.specs.declared.status.Status.TheVariants as status
use Rattle.ftp_script_run.specs.Statuses.{IsCutShort, ended_by}
use Rattle.ftp_script_run.specs.SetUp.{StorageState, IsSetUp}
use Rattle.ftp_hub.specs.Stands.{Stands, options_of}
use Rattle.ftp_script_run.specs.declared.command.Ending.{Ending}
use Rattle.ftp_script_run.specs.Outcome.{log_lines, bad_line, ReadsAndWrites, ReadsFrontAndWrites, ScriptOutcome, WritesLog, WritesLogPart, WritesWhole, WritesPart, Ends, EndsPart, Outcome}
use Rattle.ftp_script_run.specs.Resuming.{IsResumeCut, ResumeOutcome}
use Rattle.ftp_script_run.specs.Runs.{Before, Keeps, IsTaken, IsPartlyTaken, Running}
use Rattle.ftp_script_run.proofs.RunLemmas.{kept-legal, kept-storage, stands-anew}
use Rattle.ftp_control.proofs.WritingLemmas.{writes-more, front-all, front-more, on_ok-then, on_err-then}
use Rattle.ftp_script_run.proofs.Written.{log_lines-append}

-- what was told where there is something to tell
pub told-start : (left : Option (List ℕ)) (reader : ScriptReader) (buffer : List ℕ) →
    ((bytes : List ℕ) → HasRead [] bytes reader buffer (Some bytes)) →
    IfSome left (λ bytes. HasRead [] bytes reader buffer left)
told-start None reader buffer h = tt
told-start (Some bytes) reader buffer h = h bytes

-- ---- the steps

-- one more item was read and taken
unfoldable pub running-more : {before : Before} {all left later first now new : Option (List ℕ)} {reader next : ScriptReader} {run after : Run} {buffer out : List ℕ} (i : Item) (r : Running before all reader run buffer left first now) →
    IsLetIn r.items i next →
    ((bytes : List ℕ) → HasRead r.items bytes reader buffer left → HasRead (r.items ++ i ∷ []) bytes next out later) →
    IsTaken before after (r.items ++ i ∷ []) r.log now new →
    Running before all next after out later first new
running-more {all} {first} {now} {new} i r in_place told took = record {
  items = r.items ++ i ∷ [];
  log = took.0 ++ r.log;
  known = in_place.1;
  kept = took.1;
  read = IfSome_then all r.read told;
  written =
      subst (Writes first new) (sym (log_lines-append took.0 r.log))
      (writes-more first now new (log_lines r.log) (log_lines took.0) r.written took.2);
}

-- ---- what was read of a script, and written

module _ {Wrote : Options → List Entry → Numbered LinkState → StorageState → Type 0} (run : Run) (items : List Item) (log : List Entry) (kept : Keeps None run items log) where
  -- of what was read so the log is the one that is kept
  pub reads-writes : {Read : List Item → Type 0} → Read items → Wrote (options_of run.hub) log run.links run.storage → ReadsAndWrites Read Wrote
  reads-writes read wrote = record { items = items; log = log; read = read; links = run.links; storage = run.storage; legal = kept-legal run items log kept; wrote = wrote }

module _ {Wrote : Options → List Entry → Numbered LinkState → StorageState → Option ℕ → List ℕ → Type 0} (bytes : List ℕ) (later : Option (List ℕ)) (run : Run) (items : List Item) (log : List Entry) (ahead : ReadsAhead items bytes later) (kept : Keeps None run items log) where
  -- a front of the bytes was read, to the end of a line
  pub front-writes : {left : Option (List ℕ)} {reader : ScriptReader} {buffer : List ℕ} (h : HasRead items bytes reader buffer left) →
      Wrote (options_of run.hub) log run.links run.storage None h.bytes → ReadsFrontAndWrites bytes later Wrote
  front-writes h wrote = record {
    read = h.read;
    rest = h.bytes;
    items = items;
    bad = None;
    log = log;
    all_is = h.all_is;
    whole = h.whole;
    script = h.items;
    reads = ahead;
    links = run.links;
    storage = run.storage;
    legal = kept-legal run items log kept;
    wrote = wrote;
  }

  -- all bytes were read
  pub all-writes : (bad : Option ℕ) → IsScriptOf bytes items bad → Wrote (options_of run.hub) log run.links run.storage bad [] → ReadsFrontAndWrites bytes later Wrote
  all-writes bad script wrote = record {
    read = bytes;
    rest = [];
    items = items;
    bad = bad;
    log = log;
    all_is = append-nil bytes;
    whole = inr refl;
    script = script;
    reads = ahead;
    links = run.links;
    storage = run.storage;
    legal = kept-legal run items log kept;
    wrote = wrote;
  }

-- a run that ends with a write ends so where that is done, and else with a part
pub ends-so : (Wrote : Status → Options → List Entry → Numbered LinkState → StorageState → Type 0) (Part : Options → List Entry → Numbered LinkState → StorageState → Option ℕ → List ℕ → Type 0) (s t : Status) (last : Result Unit Failed) (bytes : List ℕ) (left : Option (List ℕ)) → t ≡ ended_by last s →
    OnOk last (ScriptOutcome Wrote Part s bytes left) → OnErr last (ReadsFrontAndWrites bytes left Part) → ScriptOutcome Wrote Part t bytes left
ends-so Wrote Part s t last bytes left is whole part = subst (λ (u : Status). ScriptOutcome Wrote Part u bytes left) (sym is) (by last whole part) where
  by : (last : Result Unit Failed) → OnOk last (ScriptOutcome Wrote Part s bytes left) → OnErr last (ReadsFrontAndWrites bytes left Part) → ScriptOutcome Wrote Part (ended_by last s) bytes left
  by (Ok x) whole part = whole
  by (Err Fault) whole part = part
  by (Err Memory) whole part = part

pub out-memory : {all left before now : Option (List ℕ)} {reader : ScriptReader} {run : Run} {buffer : List ℕ} (e : Ending) (later : Option (List ℕ)) (r : Running None all reader run buffer left before now) →
    ((bytes : List ℕ) → HasRead r.items bytes reader buffer left → ReadsAhead r.items bytes later) →
    IfSome all (λ bytes. WritesPart e bytes later before now)
out-memory {all} {before} {now} {run} e later r ahead =
    IfSome_then all r.read (λ bytes h. front-writes bytes later run r.items r.log (ahead bytes h) r.kept h (inl (front-all before now (log_lines r.log) r.written)))

-- of an item that was read, at most a part of its lines was written
pub out-cut : {all left before now : Option (List ℕ)} {reader next : ScriptReader} {run after : Run} {buffer out : List ℕ} (e : Ending) (later new : Option (List ℕ)) (i : Item) (s : Status) (r : Running None all reader run buffer left before now) →
    IsLawful next out →
    ((bytes : List ℕ) → HasRead r.items bytes reader buffer left → ReadsAhead r.items bytes later) →
    ((bytes : List ℕ) → HasRead r.items bytes reader buffer left → HasRead (r.items ++ i ∷ []) bytes next out later) →
    IsPartlyTaken None after (r.items ++ i ∷ []) r.log now new →
    IsCutShort s →
    IfSome all (λ bytes. Outcome e s bytes later before new)
out-cut {all} {left} {before} {now} {reader} {next} {run} {after} {buffer} {out} e later new i s r lawful ahead told part short =
    IfSome_then all r.read (λ bytes h. cut_short bytes s short (of_part bytes h (told bytes h) part)) where
      cut_short : (bytes : List ℕ) (s : Status) → IsCutShort s → WritesPart e bytes later before new → Outcome e s bytes later before new
      cut_short bytes s (inl is) p = subst (λ (t : Status). Outcome e t bytes later before new) (sym is) p
      cut_short bytes s (inr is) p = subst (λ (t : Status). Outcome e t bytes later before new) (sym is) p

      of_part : (bytes : List ℕ) → HasRead r.items bytes reader buffer left → HasRead (r.items ++ i ∷ []) bytes next out later → IsPartlyTaken None after (r.items ++ i ∷ []) r.log now new → WritesPart e bytes later before new
      of_part bytes h more (inl same) =
          front-writes bytes later run r.items r.log (ahead bytes h) r.kept h
          (inl (front-all before new (log_lines r.log) (subst (λ (w : Option (List ℕ)). Writes before w (log_lines r.log)) (sym same) r.written)))
      of_part bytes h more (inr taken) =
          front-writes bytes later after (r.items ++ i ∷ []) (taken.0 ++ r.log) (between_told (r.items ++ i ∷ []) bytes next out later lawful.len lawful.within more) taken.1 more
          (inl
          (subst (WritesFront before new) (sym (log_lines-append taken.0 r.log))
          (front-more before now new (log_lines r.log) (log_lines taken.0) r.written taken.2)))

-- all bytes were read, and nothing of what is written behind the log, or a part of it
part-end : (e : Ending) (bytes : List ℕ) (left later before now new : Option (List ℕ)) (reader : ScriptReader) (buffer : List ℕ) (run : Run) (items : List Item) (log : List Entry) →
    HasRead items bytes reader buffer left →
    IsScriptOf bytes items None →
    ReadsAhead items bytes later →
    Keeps None run items log →
    Writes before now (log_lines log) →
    EndsPart e (options_of run.hub) log run.links run.storage now new →
    WritesPart e bytes later before new
part-end e bytes left later before now new reader buffer run items log h script ahead kept written (inl same) =
    front-writes bytes later run items log ahead kept h
    (inl (front-all before new (log_lines log) (subst (λ (w : Option (List ℕ)). Writes before w (log_lines log)) (sym same) written)))
part-end e bytes left later before now new reader buffer run items log h script ahead kept written (inr ends) =
    all-writes bytes later run items log ahead kept None script (inr (ends.0, ends.1, front-more before now new (log_lines log) ends.0 written ends.2))

pub out-end : {all left before now : Option (List ℕ)} {reader : ScriptReader} {run : Run} {buffer : List ℕ} (e : Ending) (later new : Option (List ℕ)) (last : Result Unit Failed) (s : Status) (r : Running None all reader run buffer left before now) →
    s ≡ ended_by last status.Done →
    ((bytes : List ℕ) → HasRead r.items bytes reader buffer left → IsScriptOf bytes r.items None × (later ≡ Some [])) →
    ((bytes : List ℕ) → HasRead r.items bytes reader buffer left → ReadsAhead r.items bytes later) →
    OnOk last ((log : List Entry) → Stands run.hub log → Ends e (options_of run.hub) log run.links run.storage now new) →
    OnErr last ((log : List Entry) → Stands run.hub log → EndsPart e (options_of run.hub) log run.links run.storage now new) →
    IfSome all (λ bytes. Outcome e s bytes later before new)
out-end {all} {left} {before} {now} {reader} {run} {buffer} e later new last s r is told ahead wrote front =
    let stands = stands-anew run r.items r.log r.kept in
    IfSome_then all r.read
    (λ bytes h. ends-so (WritesLog e before new) (WritesLogPart e before new) status.Done s last bytes later is
    (on_ok-then last wrote (λ wrote.
    let ends = wrote r.log stands in
    reads-writes run r.items r.log r.kept (told bytes h) (ends.0, ends.1, writes-more before now new (log_lines r.log) ends.0 r.written ends.2)))
    (on_err-then last front (λ front.
    part-end e bytes left later before now new reader buffer run r.items r.log h (told bytes h).0 (ahead bytes h) r.kept r.written (front r.log stands))))

pub out-bad : {all left before now : Option (List ℕ)} {reader : ScriptReader} {run : Run} {buffer : List ℕ} (e : Ending) (later new : Option (List ℕ)) (k : ℕ) (last : Result Unit Failed) (s : Status) (r : Running None all reader run buffer left before now) →
    s ≡ ended_by last (status.BadLine k) →
    ((bytes : List ℕ) → HasRead r.items bytes reader buffer left → IsScriptOf bytes r.items (Some k)) →
    ((bytes : List ℕ) → HasRead r.items bytes reader buffer left → ReadsAhead r.items bytes later) →
    OnOk last (Writes now new (bad_line k)) →
    OnErr last (WritesFront now new (bad_line k)) →
    IfSome all (λ bytes. Outcome e s bytes later before new)
out-bad {all} {before} {now} {run} e later new k last s r is told ahead wrote front =
    IfSome_then all r.read
    (λ bytes h. ends-so (WritesLog e before new) (WritesLogPart e before new) (status.BadLine k) s last bytes later is
    (on_ok-then last wrote (λ wrote. reads-writes run r.items r.log r.kept (told bytes h, ahead bytes h) (writes-more before now new (log_lines r.log) (bad_line k) r.written wrote)))
    (on_err-then last front (λ front.
    all-writes bytes later run r.items r.log (ahead bytes h) r.kept (Some k) (told bytes h) (inr (bad_line k, refl, front-more before now new (log_lines r.log) (bad_line k) r.written front)))))

pub out-fault : {all left before now : Option (List ℕ)} {reader : ScriptReader} {run : Run} {buffer : List ℕ} (later : Option (List ℕ)) (r : Running None all reader run buffer left before now) →
    ((bytes : List ℕ) → HasRead r.items bytes reader buffer left → StopsBehind r.items bytes later) →
    IfSome all (λ bytes. WritesWhole bytes later before now)
out-fault {all} {run} later r told =
    IfSome_then all r.read (λ bytes h. reads-writes run r.items r.log r.kept (told bytes h) r.written)

-- until an event comes, the storage of a run is the one that its items set up
pub kept-set_up : {before : Before} {run : Run} {items : List Item} {log : List Entry} {storage : StorageState} → Keeps before run items log → storage ≡ run.storage → IsSetUp storage items
kept-set_up {before} {run} {items} {log} kept same = λ no_event. same ∙ kept-storage before run items log kept no_event

-- ---- what a status says

-- a run that goes on from a state and was cut short wrote a part, or nothing
pub resume-cut : (s : Status) (all left old new : Option (List ℕ)) → (s ≡ status.ReadFault) ⊎ IsCutShort s → IfSome all (λ bytes. ResumeOutcome s bytes left old new) → IfSome all (λ bytes. IsResumeCut bytes old new)
resume-cut s all left old new (inl is) h = subst (λ (t : Status). IfSome all (λ bytes. ResumeOutcome t bytes left old new)) is h
resume-cut s all left old new (inr (inl is)) h = subst (λ (t : Status). IfSome all (λ bytes. ResumeOutcome t bytes left old new)) is h
resume-cut s all left old new (inr (inr is)) h = subst (λ (t : Status). IfSome all (λ bytes. ResumeOutcome t bytes left old new)) is h

module _ (Wrote : Status → Options → List Entry → Numbered LinkState → StorageState → Type 0) (Part : Options → List Entry → Numbered LinkState → StorageState → Option ℕ → List ℕ → Type 0) where
  -- of two names of a status
  pub outcome-of : (all left : Option (List ℕ)) (s t : Status) → s ≡ t → IfSome all (λ bytes. ScriptOutcome Wrote Part s bytes left) → IfSome all (λ bytes. ScriptOutcome Wrote Part t bytes left)
  outcome-of all left s t same h = subst (λ (u : Status). IfSome all (λ bytes. ScriptOutcome Wrote Part u bytes left)) same h

  -- a run that was cut short wrote a part
  pub cut-part : (s : Status) (bytes : List ℕ) (left : Option (List ℕ)) → IsCutShort s → ScriptOutcome Wrote Part s bytes left → ReadsFrontAndWrites bytes left Part
  cut-part s bytes left (inl is) out = subst (λ (t : Status). ScriptOutcome Wrote Part t bytes left) is out
  cut-part s bytes left (inr is) out = subst (λ (t : Status). ScriptOutcome Wrote Part t bytes left) is out

  -- of a script that was run while nothing failed, all was run
  pub runs_whole : (s : Status) (bytes : List ℕ) (left : Option (List ℕ)) (items : List Item) →
      ScriptOutcome Wrote Part s bytes left →
      IsScriptOf bytes items None →
      (s ≡ status.ReadFault → ⊥) →
      (s ≡ status.WriteFault → ⊥) →
      (s ≡ status.Done) ⊎ (s ≡ status.OutOfMemory)
  runs_whole status.Done bytes left items out is no_read no_write = inl refl
  runs_whole (status.BadLine k) bytes left items out is no_read no_write =
      let other : Some k ≡ None = (script-once bytes items out.items None (Some k) is out.read.0).1 in absurd cc
  runs_whole status.ReadFault bytes left items out is no_read no_write = absurd (no_read refl)
  runs_whole status.WriteFault bytes left items out is no_read no_write = absurd (no_write refl)
  runs_whole status.OutOfMemory bytes left items out is no_read no_write = inr refl
  runs_whole status.Usage bytes left items out is no_read no_write = absurd out

  -- and of other bytes the first bad line was named
  pub names_bad : (s : Status) (k : ℕ) (bytes : List ℕ) (left : Option (List ℕ)) (items : List Item) →
      ScriptOutcome Wrote Part s bytes left →
      IsScriptOf bytes items (Some k) →
      (s ≡ status.ReadFault → ⊥) →
      (s ≡ status.WriteFault → ⊥) →
      (s ≡ status.BadLine k) ⊎ (s ≡ status.OutOfMemory)
  names_bad status.Done k bytes left items out is no_read no_write =
      let other : None ≡ Some k = (script-once bytes items out.items (Some k) None is out.read.0).1 in absurd cc
  names_bad (status.BadLine j) k bytes left items out is no_read no_write =
      let same : Some j ≡ Some k = (script-once bytes items out.items (Some k) (Some j) is out.read.0).1 in inl cc
  names_bad status.ReadFault k bytes left items out is no_read no_write = absurd (no_read refl)
  names_bad status.WriteFault k bytes left items out is no_read no_write = absurd (no_write refl)
  names_bad status.OutOfMemory k bytes left items out is no_read no_write = inr refl
  names_bad status.Usage k bytes left items out is no_read no_write = absurd out
