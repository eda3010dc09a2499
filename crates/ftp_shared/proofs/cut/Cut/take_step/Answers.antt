use Rattle.std.proofs.Common.{refl, sym, ap, ◌∙◌, subst, ◌≤◌, cond, List, [], ◌∷◌, ◌++◌, length, arith}
use Rattle.std.proofs.Math.Logic.{∥∥₁_elim, ∥∥₁_map}
use Rattle.std.specs.Prelude.{nat_lt}
use Rattle.ftp_events.specs.declared.entry.Entry.{Entry}
use Rattle.ftp_events.specs.Log.{past_of}
use Rattle.ftp_events.specs.Right.{next_entry}
use Rattle.ftp_hub.specs.Twin.{started_job}
use Rattle.ftp_options.specs.declared.options.Options.{Options}
use Rattle.ftp_shared.specs.Cut.{KeepsCut}
use Rattle.ftp_shared.specs.Outbox.{newest}
use Rattle.ftp_shared.proofs.CutLemmas.{cut-at, cut-bounded, cut-ready, cut-step, newest-at}
use Rattle.ftp_shared.proofs.KeepsLemmas.{entry-set, job-set, told-next, turn-next, turn-whole}
use Rattle.ftp_shared.proofs.cut.Cut.take_step.Goals as goal

-- memory that was taken changes nothing
pub invariant_of-self : goal.invariant_of-self
invariant_of-self g c =
    let o = g.L.Serving.options in
    let same = sym c.in-Err.ensures.same_tail in
    let ready = c.ready_cut.ensures in
    record {
      some = c.args.self.now.some;
      bounded = subst (λ (l : List Entry). length l ≤ c.args.self.now.every) same c.args.self.now.bounded;
      kept = ∥∥₁_map c.args.self.now.kept (λ k.
          subst (λ (l : List Entry). KeepsCut o c.ready_cut.new.hub l c.ready_cut.new.outbox) same
          (cut-ready k ready.stands ready.options ready.count ready.outbox));
    }

-- the step keeps all
pub invariant_of-self-2 : goal.invariant_of-self-2
invariant_of-self-2 g c =
    let o = g.L.Serving.options in
    let before : List Entry = c.args.self.now.tail.entries in
    let every = c.args.self.now.every in
    let e = c.step.result.submitted.receipt.entry in
    let box = c.ready_cut.new.outbox in
    let ready = c.ready_cut.ensures in
    let stepped = c.step.ensures in
    let all = c.in-Ok.ensures.sorted in
    let tail = stepped.log ∙ ap (λ (l : List Entry). e ∷ l) c.in-Ok.ensures.cut in
    let one = ap length tail in
    let few = cut-bounded before every c.args.self.now.some in
    record {
      some = c.args.self.now.some;
      bounded = omega (arith, one, few);
      kept = ∥∥₁_map c.args.self.now.kept (λ was.
          subst (λ (l : List Entry). KeepsCut o c.step.new.hub l c.step.new.outbox) (sym tail)
          (cut-step o c.ready_cut.new.hub c.step.new.hub (cond (nat_lt (length before) every) before []) e box c.step.new.outbox c.args.own
          (cut-at o c.ready_cut.new.hub before box every all (cut-ready was ready.stands ready.options ready.count ready.outbox))
          stepped.stands stepped.options stepped.count (newest-at before (nat_lt (length before) every) box.next all) stepped.sorted stepped.next stepped.told));
    }

-- the entry is the next one of a right and acted log, and the replies before it are the last
pub returns-clause-rest : goal.returns-clause-rest
returns-clause-rest g c =
    let before : List Entry = c.args.self.now.tail.entries in
    let ready = c.ready_cut.ensures in
    ∥∥₁_map c.args.self.now.kept (λ was.
    let k = cut-ready was ready.stands ready.options ready.count ready.outbox in
    turn-next g.L.Serving.options c.ready_cut.new.hub (before ++ k.front) (newest before) c.ready_cut.new.outbox c.args.event c.args.answer c.step.result.submitted.receipt.entry c.args.own c.step.result k.kept
    c.in-Ok.ensures.sorted c.step.ensures.due refl (c.step.ensures.place ∙ k.kept.events) c.step.ensures.earlier)

pub returns-clause-next : goal.returns-clause-next
returns-clause-next g c = ∥∥₁_map (returns-clause-rest g c) (λ t. t.next)

-- so it is of every log for which the hub stood
pub returns-clause-due : goal.returns-clause-due
returns-clause-due g c log st =
    let o = g.L.Serving.options in
    let e = c.step.result.submitted.receipt.entry in
    ∥∥₁_elim c.args.self.now.kept (entry-set e (next_entry o log c.args.event c.args.answer)) (λ was.
    told-next o c.ready_cut.new.hub log c.args.event c.args.answer e e (c.ready_cut.ensures.options ∙ was.kept.options) (c.ready_cut.ensures.stands log st) c.step.ensures.due refl)

-- and the hub stands for each of them with it
pub returns-clause-stands : goal.returns-clause-stands
returns-clause-stands g c log st = c.step.ensures.stands log (c.ready_cut.ensures.stands log st)

-- its place is the count
pub returns-clause-place : goal.returns-clause-place
returns-clause-place g c = c.step.ensures.place ∙ c.ready_cut.ensures.count

-- the job is the one that starts with it
pub returns-clause-job : goal.returns-clause-job
returns-clause-job g c log st =
    let e = c.step.result.submitted.receipt.entry in
    ∥∥₁_elim c.args.self.now.kept (job-set c.step.result.submitted.job (started_job g.L.Serving.options (past_of log) e)) (λ was.
    c.step.ensures.job log (c.ready_cut.ensures.stands log st)
    ∙ ap (λ (o : Options). started_job o (past_of log) e) (c.ready_cut.ensures.options ∙ was.kept.options))

-- the tail has the entry that is told
pub returns-clause-tail : goal.returns-clause-tail
returns-clause-tail g c =
    c.step.ensures.log ∙ ap (λ (l : List Entry). c.step.result.submitted.receipt.entry ∷ l) c.in-Ok.ensures.cut

-- all that was waiting is handed out
pub returns-clause-earlier : goal.returns-clause-earlier
returns-clause-earlier g c =
    turn-whole c.args.own c.step.result.earlier c.ready_cut.new.outbox c.args.self.now.outbox (newest c.args.self.now.tail.entries)
    c.step.ensures.earlier c.in-Ok.ensures.sorted c.ready_cut.ensures.outbox
