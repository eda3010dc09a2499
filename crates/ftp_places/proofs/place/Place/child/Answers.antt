use Rattle.std.proofs.Common.{◌≡◌, ◌∙◌, ◌++◌, ◌∷◌, [], ap, sym, refl}
use Rattle.std.specs.Prelude.{string_bytes}
use Rattle.ftp_places.specs.Place.{Location, below_by, slashed}
use Rattle.ftp_places.proofs.PlaceLemmas.{location_of-more}
use Rattle.ftp_places.proofs.place.Place.child.Goals as goal

pub invariant_of-result : goal.invariant_of-result
invariant_of-result c =
    let grown : string_bytes c.put_name.new.text ≡ string_bytes c.self.inside.text ++ slashed c.args.name.now =
    rw (c.in_ok-put_name.ensures, c.in_ok-text.ensures.ok, c.as_str.ensures.value, c.in-Some.ensures.found) refl in
    (location_of-more (string_bytes c.self.inside.text) (string_bytes c.put_name.new.text) c.args.name.now c.self.inside.root c.self.invariant (sym c.in-Some.ensures.named) grown).0

pub returns-clause-place : goal.returns-clause-place
returns-clause-place c =
    let grown : string_bytes c.put_name.new.text ≡ string_bytes c.self.inside.text ++ slashed c.args.name.now =
    rw (c.in_ok-put_name.ensures, c.in_ok-text.ensures.ok, c.as_str.ensures.value, c.in-Some.ensures.found) refl in
    (location_of-more (string_bytes c.self.inside.text) (string_bytes c.put_name.new.text) c.args.name.now c.self.inside.root c.self.invariant (sym c.in-Some.ensures.named) grown).1
    ∙ ap (λ (place : Location). below_by place.root (place.names ++ c.args.name.now ∷ [])) c.self.view_is
