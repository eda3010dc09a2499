use Rattle.std.proofs.Common.{◌≡◌, ◌++◌, true, take, map}
use Rattle.std.specs.Prelude.{string_bytes}
use Rattle.std.specs.List.{list_all}
use Rattle.ftp_places.specs.Names.{is_file_name}
use Rattle.ftp_places.specs.Place.{trail_of}
use Rattle.ftp_places.proofs.place.Place.of.Given as goal

abbrev pub invariant-loop-name : goal.invariant-loop-name
invariant-loop-name l =
    let names = take l.name-index (map (λ n. n.now) l.name-items) in
    (list_all is_file_name names ≡ true) × (string_bytes l.text ≡ l.root ++ trail_of names)
