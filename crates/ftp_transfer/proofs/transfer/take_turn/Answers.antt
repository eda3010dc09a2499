use Rattle.std.proofs.Common.{suc, zero, ◌≡◌, inl, inr, ℕ, ◌<◌, List, [], Option, Some, None, refl, sym, ◌∙◌, arith, rules}
use Rattle.std.specs.Prelude.{IsSome, IfSome}
use Rattle.std.proofs.lemmas.Option.{IfSome_then}
use Rattle.ftp_base.specs.declared.error_kind.ErrorKind.{ErrorKind}
use Rattle.ftp_base.specs.Storage.{Files, Rule, Call, ReadAt, meaning_of}
use Rattle.ftp_transfer.specs.Run.{read_place}
use Rattle.ftp_transfer.specs.Ran.{ByDone, only_first}
use Rattle.ftp_transfer.proofs.RunLemmas.{Caused_later}
use Rattle.ftp_transfer.proofs.BegunLemmas.{begun_by-later, IfSome_any}
use Rattle.ftp_transfer.proofs.GoesOn.{sends-nothing}
use Rattle.ftp_transfer.proofs.transfer.take_turn.Goals as goal

-- a store that was begun before has no first call
later-refused : (files : Option Files) (done : ℕ) (first : Files → Option ErrorKind) (R : Files → ErrorKind → Type 0) → 0 < done →
    IfSome files (λ f. IfSome (only_first done (first f)) (R f))
later-refused None done first R begun = tt
later-refused (Some f) zero first R begun = absurd (omega (arith, begun))
later-refused (Some f) (suc done) first R begun = tt

-- what refuses an append to a file that was begun before
fill-refused : (files : Option Files) (done : ℕ) (P : Files → Type 0) (Q : Files → Type 0) (R : Type 0) → 0 < done →
    IfSome files Q → (IsSome files → R) → IfSome files (λ f. ByDone done (P f) (Q f × R))
fill-refused None done P Q R begun grown refused = tt
fill-refused (Some f) done P Q R begun grown refused = inr (begun, (grown, refused refl))

-- a first call that is refused, by the files where they are told, changes nothing
first-refused : (files new : Option Files) (left later : Option (List ℕ)) (rule : Rule) (call : Call) (R : ErrorKind → Type 0) →
    new ≡ files → later ≡ left → (IsSome files → IfSome (meaning_of rule files call) R) →
    IfSome files (λ f. IfSome (rule [] f call) (λ k. R k × (new ≡ Some f) × (later ≡ left)))
first-refused None new left later rule call R same kept refused = tt
first-refused (Some f) new left later rule call R same kept refused = IfSome_then (rule [] f call) (refused refl) (λ k h. (h, same, kept))

pub returns-in-Retr-clause-moves : goal.returns-in-Retr-clause-moves
returns-in-Retr-clause-moves g c =
    record {
      rule = search rules;
      owned = search rules;
      begun = search rules;
      sent = search rules;
      within = search rules;
      whole = search rules;
      silent = search rules;
      kept = search rules;
      stored = search rules;
      grown = search rules;
      written = search rules;
      countable = search rules;
      cause = search rules;
      refused = rw c.in-Retr.is (first-refused (g.S.Storage.files c.args.storage.now) _ _ _ (g.S.Storage.rule c.args.storage.now) (ReadAt c.args.job.now.user c.args.job.now.path (read_place c.args.job.now.offset c.args.job.now.done)) _ c.retrieve.ensures.files c.retrieve.ensures.only_sends.same_left c.retrieve.ensures.refused);
      unrefused = search rules;
      refused_last = search rules;
      link_well = search rules;
      storage_well = search rules;
    }

pub returns-in-Stor-clause-moves : goal.returns-in-Stor-clause-moves
returns-in-Stor-clause-moves g c =
    let zero : c.args.job.now.done ≡ 0 = omega (arith, c.if-job-eq0.true) in
    record {
      rule = search rules;
      owned = λ begins. rw zero c.store.ensures.owned;
      begun = λ begins held memory. rw (c.in-Stor.is, zero) (c.store.ensures.begins held memory);
      sent = rw c.in-Stor.is (sends-nothing (g.S.Storage.files c.args.storage.now) _ _ c.store.result.bytes c.store.ensures.only_reads.sent);
      within = search rules;
      whole = search rules;
      silent = search rules;
      kept = search rules;
      stored = λ fresh. rw c.in-Stor.is c.store.ensures.stored;
      grown = λ begun. absurd (omega (arith, c.if-job-eq0.true, begun));
      written = search rules;
      countable = search rules;
      cause = rw c.in-Stor.is (Caused_later _ _ _ _ _ _ _ _ _ _ _ _ (λ h. h) (λ h. h) (λ k h. IfSome_then (g.S.Storage.files c.args.storage.now) h (λ f refused. inl (zero, refused))) c.store.ensures.cause);
      refused = rw (c.in-Stor.is, zero) c.store.ensures.refused;
      unrefused = search rules;
      refused_last = λ begins. rw zero c.store.ensures.refused_last;
      link_well = search rules;
      storage_well = search rules;
    }

pub returns-in-Appe-clause-moves : goal.returns-in-Appe-clause-moves
returns-in-Appe-clause-moves g c =
    let zero : c.args.job.now.done ≡ 0 = omega (arith, c.if-job-eq0-2.true) in
    record {
      rule = search rules;
      owned = λ begins. rw zero c.append.ensures.owned;
      begun = λ begins held memory. rw (c.in-Appe.is, zero) (c.append.ensures.begins held memory);
      sent = rw c.in-Appe.is (sends-nothing (g.S.Storage.files c.args.storage.now) _ _ c.append.result.bytes c.append.ensures.only_reads.sent);
      within = search rules;
      whole = search rules;
      silent = search rules;
      kept = search rules;
      stored = λ fresh. rw c.in-Appe.is c.append.ensures.stored;
      grown = λ begun. absurd (omega (arith, c.if-job-eq0-2.true, begun));
      written = search rules;
      countable = search rules;
      cause = rw c.in-Appe.is (Caused_later _ _ _ _ _ _ _ _ _ _ _ _ (λ h. h) (λ h. h) (λ k h. IfSome_then (g.S.Storage.files c.args.storage.now) h (λ f refused. inl (zero, refused))) c.append.ensures.cause);
      refused = rw (c.in-Appe.is, zero) c.append.ensures.refused;
      unrefused = search rules;
      refused_last = λ begins. rw zero c.append.ensures.refused_last;
      link_well = search rules;
      storage_well = search rules;
    }

pub returns-in-Stor-2-clause-moves : goal.returns-in-Stor-2-clause-moves
returns-in-Stor-2-clause-moves g c =
    let begun : 0 < c.args.job.now.done = omega (arith, c.if-job-eq0.false) in
    let later = begun_by-later c.args.job.now.done (c.args.job.now.user, c.args.job.now.path) (g.S.Storage.rule c.args.storage.now) begun in
    record {
      rule = search rules;
      owned = λ stores. inl (c.fill.ensures.storage_kept.same_rule ∙ sym later);
      begun = λ stores held memory. IfSome_any (g.S.Storage.files c.args.storage.now) _ (λ f none. c.fill.ensures.storage_kept.same_rule ∙ sym later);
      sent = rw c.in-Stor-2.is (sends-nothing (g.S.Storage.files c.args.storage.now) _ _ c.fill.result.bytes c.fill.ensures.only_reads.sent);
      within = search rules;
      whole = search rules;
      silent = search rules;
      kept = search rules;
      stored = λ fresh. absurd (omega (arith, begun, fresh));
      grown = λ begun store. c.fill.ensures.grown;
      written = search rules;
      countable = search rules;
      cause = rw c.in-Stor-2.is (Caused_later _ _ _ _ _ _ _ _ _ _ _ _ (λ h. h) (λ h. h) (λ k h. fill-refused (g.S.Storage.files c.args.storage.now) c.args.job.now.done _ _ _ begun c.fill.ensures.grown h) c.fill.ensures.cause);
      refused = rw c.in-Stor-2.is (later-refused (g.S.Storage.files c.args.storage.now) c.args.job.now.done _ _ begun);
      unrefused = search rules;
      refused_last = λ stores. rw later c.fill.ensures.refused_last;
      link_well = search rules;
      storage_well = search rules;
    }

pub returns-in-Appe-2-clause-moves : goal.returns-in-Appe-2-clause-moves
returns-in-Appe-2-clause-moves g c =
    let begun : 0 < c.args.job.now.done = omega (arith, c.if-job-eq0-2.false) in
    let later = begun_by-later c.args.job.now.done (c.args.job.now.user, c.args.job.now.path) (g.S.Storage.rule c.args.storage.now) begun in
    record {
      rule = search rules;
      owned = λ stores. inl (c.fill-in-Appe-2.ensures.storage_kept.same_rule ∙ sym later);
      begun = λ stores held memory. IfSome_any (g.S.Storage.files c.args.storage.now) _ (λ f none. c.fill-in-Appe-2.ensures.storage_kept.same_rule ∙ sym later);
      sent = rw c.in-Appe-2.is (sends-nothing (g.S.Storage.files c.args.storage.now) _ _ c.fill-in-Appe-2.result.bytes c.fill-in-Appe-2.ensures.only_reads.sent);
      within = search rules;
      whole = search rules;
      silent = search rules;
      kept = search rules;
      stored = λ fresh. absurd (omega (arith, begun, fresh));
      grown = λ begun store. c.fill-in-Appe-2.ensures.grown;
      written = search rules;
      countable = search rules;
      cause = rw c.in-Appe-2.is (Caused_later _ _ _ _ _ _ _ _ _ _ _ _ (λ h. h) (λ h. h) (λ k h. fill-refused (g.S.Storage.files c.args.storage.now) c.args.job.now.done _ _ _ begun c.fill-in-Appe-2.ensures.grown h) c.fill-in-Appe-2.ensures.cause);
      refused = rw c.in-Appe-2.is (later-refused (g.S.Storage.files c.args.storage.now) c.args.job.now.done _ _ begun);
      unrefused = search rules;
      refused_last = λ stores. rw later c.fill-in-Appe-2.ensures.refused_last;
      link_well = search rules;
      storage_well = search rules;
    }
