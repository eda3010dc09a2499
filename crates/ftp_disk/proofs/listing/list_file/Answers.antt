use Rattle.std.proofs.Common.{◌≡◌, ◌∙◌, ◌-◌, ℕ, List, [], length, take, get_or, map, Bor, sym, ap, subst}
use Rattle.ftp_base.specs.declared.storage.FileInfo.{FileInfo}
use Rattle.ftp_disk.specs.Listing.{ListsFile}
use Rattle.ftp_disk.proofs.ListingLemmas.{child-last, ListsFile-shown}
use Rattle.ftp_disk.proofs.VisibleLemmas.{split-last}
use Rattle.ftp_disk.proofs.listing.list_file.Goals as goal

pub returns : goal.returns
returns g c =
    let told = g.S.FileSystem.told c.args.system.now in
    let place = c.args.place.now in
    let parts = c.as_slice.result.now in
    let none : Bor (List ℕ) = record { ref_ptr = (0, 0); now = [] } in
    let before = take (length parts - 1) parts in
    let last = get_or parts (length parts - 1) none in
    let named : map (λ (n : Bor (List ℕ)). n.now) parts ≡ place.names = ap (map (λ (n : Bor (List ℕ)). n.now)) c.as_slice.ensures.value ∙ c.in_ok-names.ensures ∙ sym c.requires.names in
    let leads = child-last place c.in_ok-dir.dir parts before last named (split-last parts none c.in-len1-up.len_at_least) c.in_ok-dir.ensures in
    let shown = rw c.in-Some.is at c.in_ok-found.ensures.exactly in
    record {
      shown = subst (λ (infos : List FileInfo). ListsFile told place infos) (sym c.in_ok-infos.ensures)
          (ListsFile-shown told place c.in_ok-dir.dir last.now c.in-Some.info leads shown);
    }
