use Rattle.std.proofs.Common.{◌≡◌, ◌∙◌, length, map, ap, arith}
use Rattle.std.specs.List.{flat_map}
use Rattle.std.proofs.lemmas.List.{length-map}
use Rattle.ftp_places.specs.Place.{slashed}
use Rattle.ftp_places.proofs.PlainLemmas.{take-whole}
use Rattle.ftp_extras.proofs.TextLemmas.{trail-more}
use Rattle.ftp_extras.proofs.text.trail_of.Goals as goal

pub loop-name-preserved : goal.loop-name-preserved
loop-name-preserved c =
    c.in_ok-put_slashed.ensures ∙ trail-more c.deref-name-items.result.now c.loop-name.name-index _ c.loop-name.text.items (omega arith) c.loop-name.invariant

pub returns : goal.returns
returns c =
    let items = c.deref-name-items.result.now in
    let len : length (map (λ n. n.now) items) ≡ length items = length-map items (λ n. n.now) in
    c.loop-name.invariant
    ∙ ap (flat_map slashed) (take-whole c.loop-name.name-index (map (λ n. n.now) items) (omega (arith, len)) ∙ ap (map (λ n. n.now)) c.deref-name-items.ensures.value ∙ c.in_ok-names.ensures)
