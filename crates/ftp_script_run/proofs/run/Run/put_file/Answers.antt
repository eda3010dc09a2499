use Rattle.std.proofs.Common.{refl, ap, length, List, ℕ, ◌≡◌, ◌∙◌, None}
use Rattle.ftp_base.specs.MemoryStorage.{file_refusal}
use Rattle.ftp_base.specs.Storage.{with_file}
use Rattle.ftp_text.specs.declared.setup.Item.TheVariants as item
use Rattle.ftp_script_run.proofs.RunLemmas.{keeps-stored}
use Rattle.ftp_script_run.proofs.SetUpLemmas.{file_taken, file_unused, not_refused, file_first}
use Rattle.ftp_script_run.proofs.run.Run.put_file.Goals as goal

pub put_file-requires : goal.put_file-requires
put_file-requires c = record { unused = file_unused c.args.self.now c.args.bytes c.args.path c.requires }

pub want_of_memory-requires : goal.want_of_memory-requires
want_of_memory-requires c =
    let s = c.args.self.now.storage.inner in
    let none : file_refusal s.files s.max_file c.args.path (length c.into_vec.result.items) ≡ None =
    ap (λ (b : List ℕ). file_refusal s.files s.max_file c.args.path (length b)) c.into_vec.ensures ∙ file_taken c.args.self.now c.args.bytes c.args.path c.requires in
    not_refused (file_refusal s.files s.max_file c.args.path (length c.into_vec.result.items)) c.in-Err.error
    none c.in-Err.ensures.refused c.in-Err.ensures.no_fault

pub returns-in-Ok-clause-put : goal.returns-in-Ok-clause-put
returns-in-Ok-clause-put c = λ before items log kept may.
    keeps-stored before c.args.self.now
    (record { alloc = c.args.self.now.alloc; hub = c.args.self.now.hub; storage = c.put_file.new.self; links = c.args.self.now.links; text = c.args.self.now.text })
    items log (item.File c.args.bytes c.args.path) refl refl refl (λ n. refl) (file_first items c.args.bytes c.args.path may.stands) refl refl
    (c.in-Ok.ensures.stored ∙ ap (λ (b : List ℕ). record c.args.self.now.storage { inner = record c.args.self.now.storage.inner { files = with_file c.args.self.now.storage.inner.files c.args.path b } }) c.into_vec.ensures)
    kept
