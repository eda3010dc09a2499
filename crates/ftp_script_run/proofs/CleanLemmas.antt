-- Transfers of which nothing is refused and nothing fails.
use Rattle.std.proofs.Common.{◌≡◌, ℕ, zero, suc, ◌-◌, ◌^◌, ◌<◌, true, false, List, [], ◌∷◌, ◌++◌, append_assoc, Option, Some, None, inl, inr, refl, sym, ap, subst, ◌∙◌, arith}
use Rattle.std.specs.Prelude.{◌⊎◌}
use Rattle.std.specs.FinMap as map
use Rattle.std.proofs.lemmas.Option.{same_Some}
use Rattle.ftp_base.specs.Memory.{LinkState, fault_limit, link_fault_limit}
use Rattle.ftp_base.specs.Storage.{BegunFile, Rule}
use Rattle.ftp_base.specs.declared.fault.LinkFault.{LinkFault}
use Rattle.ftp_options.specs.declared.options.Options.{Options}
use Rattle.ftp_transfer.specs.declared.job.Completion.{Completion}
use Rattle.ftp_transfer.specs.declared.job.Completion.TheVariants as result
use Rattle.ftp_transfer.specs.declared.job.Job.{Job}
use Rattle.ftp_transfer.specs.declared.job.Outcome.{Outcome}
use Rattle.ftp_transfer.specs.Ran.{Told, Moves, begun_by, Takes, IsDone}
use Rattle.ftp_transfer.specs.Transfer.{is_store}
use Rattle.ftp_events.specs.declared.entry.Entry.{Entry}
use Rattle.ftp_events.specs.declared.event.Answer.{Answer}
use Rattle.ftp_events.specs.declared.event.Answer.TheVariants as answer
use Rattle.ftp_events.specs.Leads.{Views, Outside, told_by, RunsJob, LeadsOne, Leads}
use Rattle.ftp_events.specs.Log.{past_of}
use Rattle.ftp_audit.specs.Replay.{once_all}
use Rattle.ftp_script_run.specs.SetUp.{StorageState}
use Rattle.ftp_script_run.specs.Clean.{TakenTransfersAreDone}
use Rattle.ftp_script_run.specs.Legal.{memory_views, start_of}
use Rattle.ftp_script_run.proofs.LeadsLemmas.{one-of, job-ran, script-split}

-- ---- the rule

-- where a store began its file, the rule is the one once that file was begun
begun_by-all : (done : ℕ) (begun : BegunFile) (rule : Rule) → (more : List BegunFile) × (begun_by done begun rule ≡ once_all more rule)
begun_by-all zero begun rule = (begun ∷ [], refl)
begun_by-all (suc done) begun rule = ([], refl)

-- a run changes the rule as the files say that it began
moves-rule : (job : Job) (old new : Told) (m : ℕ) (r : Completion) (fault : Option LinkFault) → Moves job old new m r fault → (more : List BegunFile) × (new.rule ≡ once_all more old.rule)
moves-rule job old new m r fault moves =
    elim (is_store job.command) as (λ b. is_store job.command ≡ b → (more : List BegunFile) × (new.rule ≡ once_all more old.rule)) [
      | false ↦ λ e. ([], moves.rule e)
      | true ↦ λ e.
          elim (moves.owned e) [
            | inl is ↦ (let x = begun_by-all job.done (job.user, job.path) old.rule in (x.0, is ∙ x.1))
            | inr is ↦ ([], is.0)
          ]
    ] refl

one-rule : {S L : Type 0} (v : Views S L) (o : Options) (past : List Entry) (e : Entry) (old new : Outside S L) →
    LeadsOne v o past e old new → (more : List BegunFile) × (v.rule new.storage ≡ once_all more (v.rule old.storage))
one-rule {S} {L} v o past e old new led =
    one-of v o past e old new
    (λ idle. ([], ap (λ (x : Outside S L). v.rule x.storage) idle.same))
    (λ job moved. moves-rule job (told_by v old.storage moved.before) (told_by v new.storage moved.after) moved.bytes result.OutOfMemory None moved.went.moves)
    (λ job ran. moves-rule job (told_by v old.storage ran.before) _ _ _ _ ran.ran.moves)
    (λ number read. ([], ap v.rule read.storage))
    led

-- what a log does changes the rule by the files that were begun alone
pub leads-rule : {S L : Type 0} (v : Views S L) (o : Options) (log newer : List Entry) (old new : Outside S L) →
    Leads v o log newer old new → (begun : List BegunFile) × (v.rule new.storage ≡ once_all begun (v.rule old.storage))
leads-rule {S} {L} v o log [] old new led = ([], ap (λ (x : Outside S L). v.rule x.storage) led)
leads-rule {S} {L} v o log (e ∷ newer) old new led =
    let x : (between : Outside S L) × Leads v o log newer old between × LeadsOne v o (past_of (newer ++ log)) e between new = led in
    let first = leads-rule v o log newer old x.0 x.1 in
    let last = one-rule v o (past_of (newer ++ log)) e x.0 new x.2 in (
      first.0 ++ last.0,
      last.1 ∙ ap (once_all last.0) first.1 ∙ (λ i later. v.rule old.storage (sym (append_assoc first.0 last.0 later) i)),
    )

-- what is done unless memory runs out
or_memory : (r : Completion) → ((r ≡ result.OutOfMemory → ⊥) → IsDone r) → IsDone r ⊎ (r ≡ result.OutOfMemory)
or_memory result.Sent done = inl tt
or_memory result.Written done = inl tt
or_memory result.Listed done = inl tt
or_memory result.WriteFailed done = absurd (done (λ e. cc e))
or_memory (result.Refused k) done = absurd (done (λ e. cc e))
or_memory result.OutOfMemory done = inr refl

-- a job that was run where nothing fails, and of which no call is refused
runs-done : (job : Job) (given : Answer) (old new : Outside StorageState LinkState) (link : LinkState) (outcome : Outcome) →
    RunsJob memory_views job given old new →
    map.get old.links job.number ≡ Some link →
    fault_limit old.storage.inner.calls ≡ 0 →
    link_fault_limit link.calls ≡ 0 →
    Takes job.command job (memory_views.rule old.storage) old.storage.inner.files (Some link.left) →
    given ≡ answer.Done outcome →
    outcome.bytes < 2 ^ 64 - 1 →
    IsDone outcome.result ⊎ (outcome.result ≡ result.OutOfMemory)
runs-done job given old new link outcome ran there storage links takes is below =
    let same : ran.before ≡ link = same_Some _ _ (sym ran.there ∙ there) in
    let told : ran.outcome ≡ outcome = cc (sym ran.given_is ∙ is) in
    let limit : link_fault_limit ran.before.calls ≡ 0 = rw same links in
    let taken : Takes job.command job (memory_views.rule old.storage) old.storage.inner.files (Some ran.before.left) = rw same takes in
    subst (λ (x : Outcome). IsDone x.result ⊎ (x.result ≡ result.OutOfMemory)) told
    (or_memory ran.outcome.result (λ memory.
    ran.complete
    (record {
      unrefused = inl taken;
      storage = λ rose. omega (arith, rose (omega (arith, storage)), storage, ran.storage_counts.limit);
      link = λ rose met. omega (arith, rose (omega (arith, limit)), limit, ran.link_counts.limit);
      memory = memory;
      count = rw told below;
    })))

pub taken-done : TakenTransfersAreDone
taken-done o items older newer e end none led =
    let x = script-split o items older newer e end led in
    let one = x.4 in
    let rule = leads-rule memory_views o [] older (start_of items) x.0 x.2 in (
      x.0,
      x.1,
      x.2,
      one,
      (
        λ job link outcome runs there takes is below.
            (let run : RunsJob memory_views job e.answer x.0 x.1 = job-ran memory_views o (past_of older) e x.0 x.1 job outcome runs is one in
            let was = x.3.links job.number link there in
            let storage : fault_limit x.0.storage.inner.calls ≡ 0 = omega (arith, x.3.storage, none.storage) in
            let links : link_fault_limit link.calls ≡ 0 = omega (arith, was.2.limit, none.links job.number was.0 was.1) in
            runs-done job e.answer x.0 x.1 link outcome run there storage links takes is below),
        rule,
      ),
    )
