use Rattle.std.proofs.Common.{refl, sym, ap, ◌∙◌, subst, cond, List, [], ◌∷◌, ◌++◌, length, arith}
use Rattle.std.proofs.Math.Logic.{∥∥₁_elim, ∥∥₁_map}
use Rattle.std.specs.Coded.{Coded-set, coded_ℕ, le_prop}
use Rattle.ftp_options.specs.declared.options.Options.{Options}
use Rattle.ftp_events.specs.declared.entry.Entry.{Entry}
use Rattle.ftp_events.specs.Log.{past_of}
use Rattle.ftp_events.specs.Right.{next_entry}
use Rattle.ftp_events.specs.Words.{is_number}
use Rattle.ftp_hub.specs.Twin.{started_job}
use Rattle.ftp_shared.specs.Keeps.{Keeps}
use Rattle.ftp_shared.specs.Outbox.{newest, outbox_in, replies_in}
use Rattle.ftp_shared.proofs.KeepsLemmas.{entry-set, kept-ready, kept-step, job-set, outbox-step, told-next, turn-next, turn-whole}
use Rattle.ftp_shared.proofs.locked.Locked.take_step.Goals as goal

-- memory that was taken changes nothing
pub invariant_of-self : goal.invariant_of-self
invariant_of-self g c =
    let o = g.L.Serving.options in
    let ready = c.make_ready.ensures in
    record {
      kept = ∥∥₁_map c.args.self.now.kept (λ k.
          subst (λ (l : List Entry). Keeps o c.make_ready.new.hub l c.make_ready.new.outbox) (sym ready.journal)
          (kept-ready k (ready.stands _ k.stands) ready.options ready.count ready.outbox));
      counted = c.args.self.now.counted ∙ sym (ap length ready.journal);
    }

-- the hub has counted as many events as the journal has, and can count one more
pub add-requires : goal.add-requires
add-requires g c =
    let same = c.make_ready.ensures.count in
    let below = c.in-Ok.ensures.fits.fits.below in
    let steps = c.args.self.now.counted in
    ∥∥₁_elim c.args.self.now.kept le_prop (λ k. omega (arith, same, below, steps, k.events))

-- the step keeps all
pub invariant_of-self-2 : goal.invariant_of-self-2
invariant_of-self-2 g c =
    let o = g.L.Serving.options in
    let log = c.args.self.now.journal.entries in
    let e = c.step.result.submitted.receipt.entry in
    let ready = c.make_ready.ensures in
    let stepped = c.step.ensures in
    let journal = stepped.log ∙ ap (λ (l : List Entry). e ∷ l) ready.journal in
    let one = ap length journal in
    let steps = c.args.self.now.counted in
    let more = c.add.ensures.total in
    record {
      kept = ∥∥₁_map c.args.self.now.kept (λ k.
          let now = ready.stands log k.stands in
          subst (λ (l : List Entry). Keeps o c.step.new.hub l c.step.new.outbox) (sym journal)
          (kept-step o c.make_ready.new.hub c.step.new.hub log (newest log) e c.make_ready.new.outbox c.step.new.outbox c.args.own
          (kept-ready k now ready.options ready.count ready.outbox)
          (stepped.stands log now) stepped.options stepped.count c.in-Ok.ensures.sorted stepped.sorted stepped.next stepped.told));
      counted = omega (arith, one, steps, more);
    }

-- the entry is the next one, and the replies before it are the last
pub returns-clause-rest : goal.returns-clause-rest
returns-clause-rest g c =
    let log = c.args.self.now.journal.entries in
    let ready = c.make_ready.ensures in
    ∥∥₁_map c.args.self.now.kept (λ k.
    turn-next g.L.Serving.options c.make_ready.new.hub log (newest log) c.make_ready.new.outbox c.args.event c.args.answer c.step.result.submitted.receipt.entry c.args.own c.step.result
    (kept-ready k (ready.stands log k.stands) ready.options ready.count ready.outbox) c.in-Ok.ensures.sorted c.step.ensures.due refl
    (c.step.ensures.place ∙ ready.count ∙ k.events) c.step.ensures.earlier)

pub returns-clause-next : goal.returns-clause-next
returns-clause-next g c = ∥∥₁_map (returns-clause-rest g c) (λ t. t.next)

pub returns-clause-due : goal.returns-clause-due
returns-clause-due g c =
    let o = g.L.Serving.options in
    let log = c.args.self.now.journal.entries in
    let e = c.step.result.submitted.receipt.entry in
    let ready = c.make_ready.ensures in
    ∥∥₁_elim c.args.self.now.kept (entry-set e (next_entry o log c.args.event c.args.answer)) (λ k.
    told-next o c.make_ready.new.hub log c.args.event c.args.answer e e (ready.options ∙ k.options) (ready.stands log k.stands) c.step.ensures.due refl)

-- the journal has the entry that is told
pub returns-clause-journal : goal.returns-clause-journal
returns-clause-journal g c =
    c.step.ensures.log ∙ ap (λ (l : List Entry). c.step.result.submitted.receipt.entry ∷ l) c.make_ready.ensures.journal

-- at the place behind all others
pub returns-clause-place : goal.returns-clause-place
returns-clause-place g c =
    ∥∥₁_elim c.args.self.now.kept (Coded-set coded_ℕ c.step.result.submitted.receipt.place (length c.args.self.now.journal.entries))
    (λ k. c.step.ensures.place ∙ c.make_ready.ensures.count ∙ k.events)

-- the job is the one that starts with it
pub returns-clause-job : goal.returns-clause-job
returns-clause-job g c =
    let log = c.args.self.now.journal.entries in
    let e = c.step.result.submitted.receipt.entry in
    ∥∥₁_elim c.args.self.now.kept (job-set c.step.result.submitted.job (started_job g.L.Serving.options (past_of log) e)) (λ k.
    c.step.ensures.job log (c.make_ready.ensures.stands log k.stands)
    ∙ ap (λ (o : Options). started_job o (past_of log) e) (c.make_ready.ensures.options ∙ k.options))

-- all that was waiting is handed out
pub returns-clause-earlier : goal.returns-clause-earlier
returns-clause-earlier g c =
    turn-whole c.args.own c.step.result.earlier c.make_ready.new.outbox c.args.self.now.outbox (newest c.args.self.now.journal.entries)
    c.step.ensures.earlier c.in-Ok.ensures.sorted c.make_ready.ensures.outbox

-- and the other outboxes grow by the entry's replies
pub returns-clause-outbox : goal.returns-clause-outbox
returns-clause-outbox g c s =
    let log = c.args.self.now.journal.entries in
    let e = c.step.result.submitted.receipt.entry in
    ap (λ (l : List Entry). outbox_in c.step.new.outbox (newest l) s) c.step.ensures.log
    ∙ outbox-step c.make_ready.new.outbox c.step.new.outbox (newest log) e c.args.own s c.in-Ok.ensures.sorted
    (c.step.ensures.sorted s) c.step.ensures.next c.step.ensures.told
    ∙ ap (λ xs. cond (is_number c.args.own s) [] (xs ++ replies_in e.actions s)) (c.make_ready.ensures.outbox s)
