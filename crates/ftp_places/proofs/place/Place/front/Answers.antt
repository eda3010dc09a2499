use Rattle.std.proofs.Common.{◌≡◌, ◌∙◌, ◌+◌, take, drop, ap}
use Rattle.std.specs.Prelude.{string_bytes}
use Rattle.ftp_places.specs.Place.{Location, HasNames, below_by, location_of, names_in}
use Rattle.ftp_places.proofs.PlaceLemmas.{location_of-front}
use Rattle.ftp_places.proofs.place.Place.front.Goals as goal
use Rattle.ftp_places.proofs.place.Place.front.Goals.{In_ok-from_str}

-- the text up to the slash is a place's, by the first names
front_of : (c : In_ok-from_str) →
    HasNames (string_bytes c.in_ok-from_str.field-0) c.self.inside.root
    × (location_of (string_bytes c.in_ok-from_str.field-0) c.self.inside.root
    ≡ below_by (take c.self.inside.root (string_bytes c.self.inside.text)) (take c.args.names (names_in (drop c.self.inside.root (string_bytes c.self.inside.text)))))
front_of c =
    let text = string_bytes c.self.inside.text in
    let root = c.self.inside.root in
    let behind : c.split_at.result.1.now ≡ drop root text = c.split_at.ensures.back ∙ ap (drop root) c.as_bytes.ensures.value in
    let cut = c.in_ok-from_str.ensures.ok ∙ c.split_at-2.ensures.front ∙ ap (take (root + c.find_slash.result)) c.as_str.ensures.value in
    location_of-front text (string_bytes c.in_ok-from_str.field-0) root c.find_slash.result c.args.names c.self.invariant (rw behind at c.find_slash.ensures.front) cut

pub invariant_of-result : goal.invariant_of-result
invariant_of-result c = (front_of c).0

pub returns : goal.returns
returns c = (front_of c).1 ∙ ap (λ (place : Location). below_by place.root (take c.args.names place.names)) c.self.view_is
