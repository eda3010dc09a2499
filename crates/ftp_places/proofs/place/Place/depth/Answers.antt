use Rattle.std.proofs.Common.{◌∙◌, drop, length, ap}
use Rattle.std.specs.Prelude.{string_bytes}
use Rattle.std.specs.List.{filter}
use Rattle.ftp_places.specs.Names.{is_separator}
use Rattle.ftp_places.specs.Place.{Location}
use Rattle.ftp_places.proofs.PathLemmas.{length-names_in}
use Rattle.ftp_places.proofs.place.Place.depth.Goals as goal

pub returns : goal.returns
returns c =
    let behind = drop c.self.inside.root (string_bytes c.self.inside.text) in
    c.count_slashes.ensures ∙ ap (λ path. length (filter is_separator path)) (c.split_at.ensures.back ∙ ap (drop c.self.inside.root) c.as_bytes.ensures.value)
    ∙ length-names_in behind ∙ ap (λ (place : Location). length place.names) c.self.view_is
