use Rattle.std.proofs.Common.{◌≡◌, ◌∙◌, [], length, map, ap, arith}
use Rattle.std.specs.List.{fold}
use Rattle.std.proofs.lemmas.List.{length-map}
use Rattle.ftp_places.specs.Names.{go}
use Rattle.ftp_places.proofs.PlainLemmas.{fold-go-more, take-whole}
use Rattle.ftp_places.proofs.names.names_of.Goals as goal

pub loop-name-preserved : goal.loop-name-preserved
loop-name-preserved c =
    c.in_ok-go.ensures ∙ fold-go-more c.deref-name-items.result.now c.loop-name.name-index _ (map (λ n. n.now) c.loop-name.names.items) (omega arith) c.loop-name.invariant

pub returns : goal.returns
returns c =
    let items = c.deref-name-items.result.now in
    let len : length (map (λ n. n.now) items) ≡ length items = length-map items (λ n. n.now) in
    c.loop-name.invariant
    ∙ ap (fold go []) (take-whole c.loop-name.name-index (map (λ n. n.now) items) (omega (arith, len)) ∙ ap (map (λ n. n.now)) c.deref-name-items.ensures.value ∙ c.in_ok-parts.ensures)
