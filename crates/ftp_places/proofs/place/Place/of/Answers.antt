use Rattle.std.proofs.Common.{rules, ◌∙◌, length, map, ap, refl, arith}
use Rattle.std.specs.Prelude.{string_bytes}
use Rattle.ftp_places.specs.Names.{names_of}
use Rattle.ftp_places.proofs.PlainLemmas.{bad-item, list_all-taken}
use Rattle.ftp_places.proofs.PlaceLemmas.{location_of-made, placed-more, placed-all}
use Rattle.ftp_places.proofs.place.Place.of.Goals as goal

pub returns-in_default-clause-name : goal.returns-in_default-clause-name
returns-in_default-clause-name c = λ _.
    bad-item c.args.path.now c.deref-name-items.result.now c.loop-name.name-index _ c.file_name.result
    (ap (map (λ n. n.now)) c.deref-name-items.ensures.value ∙ c.in_ok-names.ensures) (omega arith) c.file_name.ensures.named (search rules)

pub loop-name-preserved : goal.loop-name-preserved
loop-name-preserved c =
    placed-more c.deref-name-items.result.now c.loop-name.name-index _ c.args.root.now (string_bytes c.loop-name.text) (string_bytes c.put_name.new.text) c.in-Some.name.now
    (omega arith) c.in-Some.ensures.found c.in-Some.ensures.named c.loop-name.invariant.0 c.loop-name.invariant.1 c.in_ok-put_name.ensures

pub invariant_of-result : goal.invariant_of-result
invariant_of-result c =
    let placed = placed-all c.deref-name-items.result.now c.loop-name.name-index (names_of c.args.path.now) c.args.root.now (string_bytes c.loop-name.text)
    (ap (map (λ n. n.now)) c.deref-name-items.ensures.value ∙ c.in_ok-names.ensures) (omega arith) c.loop-name.invariant.0 c.loop-name.invariant.1 in
    (location_of-made c.args.root.now (string_bytes c.loop-name.text) (names_of c.args.path.now) (length c.args.root.now) refl placed.0 placed.1).0

pub returns-clause-place : goal.returns-clause-place
returns-clause-place c =
    let placed = placed-all c.deref-name-items.result.now c.loop-name.name-index (names_of c.args.path.now) c.args.root.now (string_bytes c.loop-name.text)
    (ap (map (λ n. n.now)) c.deref-name-items.ensures.value ∙ c.in_ok-names.ensures) (omega arith) c.loop-name.invariant.0 c.loop-name.invariant.1 in
    (location_of-made c.args.root.now (string_bytes c.loop-name.text) (names_of c.args.path.now) (length c.args.root.now) refl placed.0 placed.1).1

pub returns-clause-named : goal.returns-clause-named
returns-clause-named c =
    let placed = placed-all c.deref-name-items.result.now c.loop-name.name-index (names_of c.args.path.now) c.args.root.now (string_bytes c.loop-name.text)
    (ap (map (λ n. n.now)) c.deref-name-items.ensures.value ∙ c.in_ok-names.ensures) (omega arith) c.loop-name.invariant.0 c.loop-name.invariant.1 in
    list_all-taken (names_of c.args.path.now) placed.0
