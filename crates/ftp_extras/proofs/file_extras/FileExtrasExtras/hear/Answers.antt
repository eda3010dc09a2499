use Rattle.std.proofs.Common.{◌≡◌, ◌∙◌, true, sym, subst}
use Rattle.ftp_extras.specs.Archive.{is_sound}
use Rattle.ftp_extras.specs.Extra.{seen}
use Rattle.ftp_extras.proofs.FineLemmas.{IsFine, plan_of-fine}
use Rattle.ftp_extras.proofs.ReplyLemmas.{asked-fine}
use Rattle.ftp_extras.proofs.file_extras.FileExtrasExtras.hear.Goals as goal

pub carry_out-requires : goal.carry_out-requires
carry_out-requires g c = record {
  sound = subst IsFine (sym c.in_ok-extra.ensures ∙ c.in-Ask.is) (plan_of-fine c.args.self.now.offers (seen c.args.asker) c.take-pending.result c.args.command.now c.args.line.now);
}

pub returns-in-Do-clause-whole : goal.returns-in-Do-clause-whole
returns-in-Do-clause-whole g c = subst IsFine (sym c.in_ok-extra.ensures ∙ c.in-Do.is) (plan_of-fine c.args.self.now.offers (seen c.args.asker) c.take-pending.result c.args.command.now c.args.line.now)

pub returns-in_ok-done-in-Ask-clause-beside : goal.returns-in_ok-done-in-Ask-clause-beside
returns-in_ok-done-in-Ask-clause-beside g c =
    let sound : is_sound c.in-Ask.request ≡ true = subst IsFine (sym c.in_ok-extra.ensures ∙ c.in-Ask.is) (plan_of-fine c.args.self.now.offers (seen c.args.asker) c.take-pending.result c.args.command.now c.args.line.now) in
    let done = c.in_ok-done-in-Ask.ensures.done in
    (asked-fine c.args.command.now c.in-Ask.request done.0 c.in_ok-done-in-Ask.done sound done.1.0 done.2).0

pub returns-in_ok-done-in-Ask-clause-whole : goal.returns-in_ok-done-in-Ask-clause-whole
returns-in_ok-done-in-Ask-clause-whole g c =
    let sound : is_sound c.in-Ask.request ≡ true = subst IsFine (sym c.in_ok-extra.ensures ∙ c.in-Ask.is) (plan_of-fine c.args.self.now.offers (seen c.args.asker) c.take-pending.result c.args.command.now c.args.line.now) in
    let done = c.in_ok-done-in-Ask.ensures.done in
    (asked-fine c.args.command.now c.in-Ask.request done.0 c.in_ok-done-in-Ask.done sound done.1.0 done.2).1
