use Rattle.std.proofs.Common.{refl}
use Rattle.ftp_text.specs.declared.setup.Item.TheVariants as item
use Rattle.ftp_script_run.proofs.RunLemmas.{keeps-stored}
use Rattle.ftp_script_run.proofs.SetUpLemmas.{quota_first}
use Rattle.ftp_script_run.proofs.run.Run.set_quota.Goals as goal

pub returns : goal.returns
returns c = λ before items log kept may.
    keeps-stored before c.args.self.now
    (record { alloc = c.args.self.now.alloc; hub = c.args.self.now.hub; storage = c.limit.new.self; links = c.args.self.now.links; text = c.args.self.now.text })
    items log (item.Quota c.args.default) refl refl refl (λ n. refl) (quota_first items c.args.default may.stands) refl refl c.limit.ensures kept
