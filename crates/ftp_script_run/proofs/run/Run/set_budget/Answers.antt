use Rattle.std.proofs.Common.{refl}
use Rattle.ftp_text.specs.declared.setup.Item.TheVariants as item
use Rattle.ftp_script_run.proofs.RunLemmas.{keeps-stored}
use Rattle.ftp_script_run.proofs.SetUpLemmas.{budget_first}
use Rattle.ftp_script_run.proofs.run.Run.set_budget.Goals as goal

pub returns-in-Ok-clause-put : goal.returns-in-Ok-clause-put
returns-in-Ok-clause-put c = λ before items log kept may.
    keeps-stored before c.args.self.now
    (record { alloc = c.args.self.now.alloc; hub = c.args.self.now.hub; storage = c.budget.new.self; links = c.args.self.now.links; text = c.args.self.now.text })
    items log (item.Budget c.args.bytes c.args.user) refl refl refl (λ n. refl) (budget_first items c.args.bytes c.args.user may.stands) refl refl
    (λ i. record { inner = c.budget.ensures.inner i; accounts = c.in-Ok.ensures.set i }) kept
