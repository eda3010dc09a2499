use Rattle.std.proofs.Common.{◌∙◌, [], Some, ap, refl, sym, subst}
use Rattle.std.proofs.lemmas.Bool.{not-true}
use Rattle.ftp_text.specs.declared.setup.Item.{Item}
use Rattle.ftp_text.specs.Settings.{settings_in}
use Rattle.ftp_script_run.specs.Runs.{Takes, outside}
use Rattle.ftp_control.proofs.WritingLemmas.{on_ok-then}
use Rattle.ftp_script_run.proofs.RunLemmas.{keeps-options, keeps-options-at, keeps-skip}
use Rattle.ftp_script_run.proofs.run.Run.set_up.Goals as goal

pub returns-in-Skip-clause-took : goal.returns-in-Skip-clause-took
returns-in-Skip-clause-took c =
    let run = c.args.self.now in
    subst (λ (i : Item). Takes run i run []) (sym c.in-Skip.is) (λ before items log kept may. keeps-skip before run items log kept)

pub returns-in-Storage-clause-took : goal.returns-in-Storage-clause-took
returns-in-Storage-clause-took c =
    subst (λ (i : Item). Takes c.args.self.now i c.set_storage.new.self []) (sym c.in-Storage.is) c.set_storage.ensures

pub returns-in-Dir-clause-took : goal.returns-in-Dir-clause-took
returns-in-Dir-clause-took c =
    on_ok-then c.make_dir.result c.make_dir.ensures.put (subst (λ (i : Item). Takes c.args.self.now i c.make_dir.new.self []) (sym c.in-Dir.is))

pub returns-in-File-clause-took : goal.returns-in-File-clause-took
returns-in-File-clause-took c =
    on_ok-then c.put_file.result c.put_file.ensures.put (subst (λ (i : Item). Takes c.args.self.now i c.put_file.new.self []) (sym c.in-File.is))

pub returns-in-Quota-clause-took : goal.returns-in-Quota-clause-took
returns-in-Quota-clause-took c =
    subst (λ (i : Item). Takes c.args.self.now i c.set_quota.new.self []) (sym c.in-Quota.is) c.set_quota.ensures

pub returns-in-Budget-clause-took : goal.returns-in-Budget-clause-took
returns-in-Budget-clause-took c =
    on_ok-then c.set_budget.result c.set_budget.ensures.put (subst (λ (i : Item). Takes c.args.self.now i c.set_budget.new.self []) (sym c.in-Budget.is))

pub returns-in-Link-clause-took : goal.returns-in-Link-clause-took
returns-in-Link-clause-took c =
    on_ok-then c.link.result c.link.ensures.put (subst (λ (i : Item). Takes c.args.self.now i c.link.new.self []) (sym c.in-Link.is))

pub returns-in-Options-clause-took : goal.returns-in-Options-clause-took
returns-in-Options-clause-took c =
    let run = c.args.self.now in
    let later = c.start.new.self in
    let i = c.in-Options in
    subst (λ (i : Item). Takes run i later []) (sym c.in-Options.is)
    (λ before items log kept may.
    keeps-options-at before run later items log i.mode i.lo i.hi i.host i.active i.idle i.lockout i.restart
    (keeps-options run later items log _ refl refl (λ n. refl) refl (not-true _ may.stands)
    (c.start.ensures.set ∙ c.options_in.ensures ∙ ap (λ (i : Item). settings_in (Some i)) c.in-Options.is)
    c.start.ensures.fresh c.start.ensures.count (ap outside c.start.ensures.others))
    may.goes_on kept)
