use Rattle.std.proofs.Common.{◌∙◌, ℕ, ◌-◌, List, [], ◌∷◌, ◌++◌, length, take, get_or, string_bytes, map, Bor, ap}
use Rattle.ftp_places.specs.Names.{names_of}
use Rattle.ftp_places.specs.Place.{Location, below_by}
use Rattle.ftp_disk.proofs.VisibleLemmas.{IsBeside-last, split-last}
use Rattle.ftp_disk.proofs.home.Home.beside.Goals as goal

pub returns-in-Ok : goal.returns-in-Ok
returns-in-Ok c =
    let root = string_bytes c.args.self.now.root in
    let parts = c.as_slice.result.now in
    let none : Bor (List ℕ) = record { ref_ptr = (0, 0); now = [] } in
    let dir = take (length parts - 1) parts in
    record {
      beside = IsBeside-last root (names_of c.args.path.now) parts dir (get_or parts (length parts - 1) none) c.in_ok-dir.dir c.in-Ok.place
          (ap (map (λ (n : Bor (List ℕ)). n.now)) c.as_slice.ensures.value ∙ c.in_ok-names.ensures)
          (split-last parts none c.in-len1-up.len_at_least)
          (c.in_ok-dir.ensures ∙ ap (λ (p : Location). below_by p.root (take (length dir) p.names)) (c.onto.view_is ∙ c.in_ok-onto.ensures.place))
          (c.in-Ok.ensures.place
          ∙ ap (λ name. below_by c.in_ok-dir.dir.root (c.in_ok-dir.dir.names ++ name ∷ [])) (c.as_slice-2.ensures.value ∙ c.in_ok-name.ensures));
    }
