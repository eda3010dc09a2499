use Rattle.std.proofs.Common.{◌∙◌, sym, ap, Bor, List, ℕ}
use Rattle.std.proofs.lemmas.List.Folds.{list_all-map}
use Rattle.std.specs.List.{list_all}
use Rattle.ftp_disk.specs.Visible.{is_visible_name}
use Rattle.ftp_disk.proofs.visible.are_visible.Goals as goal

pub returns : goal.returns
returns c =
    c.all_visible.ensures
    ∙ ap (list_all (λ (name : Bor (List ℕ)). is_visible_name name.now)) c.as_slice.ensures.value
    ∙ sym (list_all-map is_visible_name (λ (name : Bor (List ℕ)). name.now) c.in_ok-names.names.items)
    ∙ ap (list_all is_visible_name) c.in_ok-names.ensures
