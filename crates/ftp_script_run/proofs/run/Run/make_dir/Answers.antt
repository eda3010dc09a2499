use Rattle.std.proofs.Common.{refl}
use Rattle.ftp_base.specs.MemoryStorage.{directory_refusal}
use Rattle.ftp_text.specs.declared.setup.Item.TheVariants as item
use Rattle.ftp_script_run.proofs.RunLemmas.{keeps-stored}
use Rattle.ftp_script_run.proofs.SetUpLemmas.{dir_first, dir_taken, dir_unused, not_refused}
use Rattle.ftp_script_run.proofs.run.Run.make_dir.Goals as goal

pub mkdir-requires : goal.mkdir-requires
mkdir-requires c = record { unused = dir_unused c.args.self.now c.args.path c.requires }

pub want_of_memory-requires : goal.want_of_memory-requires
want_of_memory-requires c =
    not_refused (directory_refusal c.args.self.now.storage.inner.files c.args.path) c.in-Err.error
    (dir_taken c.args.self.now c.args.path c.requires) c.in-Err.ensures.refused c.in-Err.ensures.no_fault

pub returns-in-Ok-clause-put : goal.returns-in-Ok-clause-put
returns-in-Ok-clause-put c = λ before items log kept may.
    keeps-stored before c.args.self.now
    (record { alloc = c.args.self.now.alloc; hub = c.args.self.now.hub; storage = c.mkdir.new.self; links = c.args.self.now.links; text = c.args.self.now.text })
    items log (item.Dir c.args.path) refl refl refl (λ n. refl) (dir_first items c.args.path may.stands) refl refl c.in-Ok.ensures.made kept
