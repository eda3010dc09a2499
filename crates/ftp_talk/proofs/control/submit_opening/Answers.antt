use Rattle.std.proofs.Common.{sym, ◌∙◌, refl}
use Rattle.ftp_talk.proofs.ControlLemmas.{opened-is, journal-open}
use Rattle.ftp_talk.proofs.control.submit_opening.Goals as goal

pub returns-then-not-is_opened-clause-unopened : goal.returns-then-not-is_opened-clause-unopened
returns-then-not-is_opened-clause-unopened g c = λ s.
    let told = c.in-Ok.told in
    let k = c.in-Ok.ensures in
    record {
      entry = told.entry;
      submitted = record { event = k.event; answer = k.answer; earlier = told.earlier; vouched = k.vouched };
      decision = refl;
      unopened = sym c.is_opened.ensures ∙ c.if-not-is_opened.true;
      grew = journal-open (g.D.Desk.view c.args.desk.now).journal told.entry (g.D.Desk.view c.args.desk.now) (g.D.Desk.view c.submit.new.self) told.earlier k.appended;
      share = k.share;
      unsent = refl;
    }

pub returns-clause-opened : goal.returns-clause-opened
returns-clause-opened g c = λ s state peer named begins.
    let told = c.in-Ok.told in
    let k = c.in-Ok.ensures in
    record {
      entry = told.entry;
      peer = peer;
      submitted = record { event = k.event; answer = k.answer; earlier = told.earlier; vouched = k.vouched };
      decision = opened-is told.entry.decision (sym c.is_opened.ensures ∙ c.if-not-is_opened.false);
      named = named;
      begins = begins;
      appended = k.appended;
      share = k.share;
      options = k.options;
      files = k.files;
      count = k.count;
      unrefused = k.unrefused;
    }
