use Rattle.std.proofs.Common.{refl, ap, ◌∙◌}
use Rattle.ftp_text.specs.declared.setup.Item.TheVariants as item
use Rattle.ftp_base.specs.Calls.{rises_above}
use Rattle.ftp_base.specs.MemoryStorage.{MemoryState}
use Rattle.ftp_script_run.proofs.RunLemmas.{keeps-stored}
use Rattle.ftp_script_run.proofs.SetUpLemmas.{new_storage-is, storage_first, storage_unused}
use Rattle.ftp_script_run.proofs.run.Run.set_storage.Goals as goal

pub replace-requires : goal.replace-requires
replace-requires c = record { unused = storage_unused c.args.self.now c.args.max c.args.fails c.requires }

pub returns : goal.returns
returns c = λ before items log kept may.
    let made = c.new-storage.ensures in
    let rising = ap (rises_above (λ call. call) 0) c.into_vec.ensures ∙ c.requires.0.1.1 in
    keeps-stored before c.args.self.now
    (record { alloc = c.args.self.now.alloc; hub = c.args.self.now.hub; storage = c.replace.new.self; links = c.args.self.now.links; text = c.args.self.now.text })
    items log (item.Storage c.args.max c.args.fails) refl refl refl (λ n. refl) (storage_first items c.args.max c.args.fails may.stands) refl refl
    (c.replace.ensures
    ∙ ap (λ (s : MemoryState). record c.args.self.now.storage { inner = s })
    (new_storage-is c.new-storage.result c.args.max c.args.fails made.files made.max_file made.no_call made.no_fault (made.kept rising ∙ c.into_vec.ensures)))
    kept
