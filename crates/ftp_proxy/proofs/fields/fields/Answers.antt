use Rattle.std.proofs.Common.{◌≡◌, ℕ, List, [], ◌∷◌, ◌++◌, ◌<◌, ◌+◌, ◌-◌, ◌∙◌, sym, ap, subst, length, get_or, drop, arith}
use Rattle.std.proofs.lemmas.Bool.Decides.{nat_tests}
use Rattle.std.proofs.lemmas.List.{length-drop}
use Rattle.ftp_proxy.specs.declared.v2_header.Field.{Field}
use Rattle.ftp_proxy.specs.Reading.{field_of, fields_at}
use Rattle.ftp_proxy.proofs.FieldsReading.{fine, field_with, cut_field, cut_field_is, whole_some, with_front, goes_on, is_cut, is_done}
use Rattle.ftp_proxy.proofs.fields.fields.Goals as goal

pub returns-in_default-clause-made : goal.returns-in_default-clause-made
returns-in_default-clause-made c =
    let t = c.loop-rest-test.true in
    let e = c.is_empty.ensures in
    let some : 0 < length c.loop-rest.rest.now = grind (arith, nat_tests) in
    is_cut c.loop-rest.fields.items (c.args.place + (length c.args.bytes.now - length c.loop-rest.rest.now)) c.loop-rest.rest.now _ some (sym c.field_len.ensures ∙ c.in_default.is) c.loop-rest.invariant.reading

pub loop-rest-preserved : goal.loop-rest-preserved
loop-rest-preserved c =
    let t = c.loop-rest-test.true in
    let e = c.is_empty.ensures in
    let rest : List ℕ = c.loop-rest.rest.now in
    let len : ℕ = c.in-Some.len in
    let some : 0 < length c.loop-rest.rest.now = grind (arith, nat_tests) in
    let whole = sym c.field_len.ensures ∙ c.in-Some.is in
    let w = whole_some c.loop-rest.rest.now c.in-Some.len whole in
    let field : field_with (get_or c.split_at.result.0.now 0 0) c.in_ok-value.value ≡ field_of c.loop-rest.rest.now =
    ap (field_with (get_or c.split_at.result.0.now 0 0)) c.in_ok-value.ensures ∙ ap cut_field c.split_at.ensures.front ∙ cut_field_is c.loop-rest.rest.now c.in-Some.len whole in
    let items = c.in-Ok.ensures.items ∙ ap (λ (f : Field). c.loop-rest.fields.items ++ f ∷ []) field in
    let moved = goes_on c.loop-rest.fields.items (c.args.place + (length c.args.bytes.now - length c.loop-rest.rest.now)) c.loop-rest.rest.now c.in-Some.len _ some whole c.loop-rest.invariant.reading in
    let short = length-drop c.in-Some.len c.loop-rest.rest.now in
    let place : c.args.place + (length c.args.bytes.now - length c.loop-rest.rest.now) + c.in-Some.len ≡ c.args.place + (length c.args.bytes.now - length (drop c.in-Some.len c.loop-rest.rest.now)) =
    omega (arith, short, w.1, c.loop-rest.invariant.within) in
    record {
      within = omega (arith, ap length c.split_at.ensures.back, short, c.loop-rest.invariant.within);
      reading =
          rw (items, c.split_at.ensures.back)
          (subst (λ (q : ℕ). with_front (c.loop-rest.fields.items ++ field_of c.loop-rest.rest.now ∷ []) (fields_at (length (drop c.in-Some.len c.loop-rest.rest.now)) q (drop c.in-Some.len c.loop-rest.rest.now)) ≡ fields_at (length c.args.bytes.now) c.args.place c.args.bytes.now) place moved);
    }

pub returns-clause-made : goal.returns-clause-made
returns-clause-made c =
    let t = c.loop-rest-test.false in
    let e = c.is_empty.ensures in
    let none : length c.loop-rest.rest.now ≡ 0 = grind (arith, nat_tests) in
    ap fine c.from_vec.ensures ∙ is_done c.loop-rest.fields.items _ c.loop-rest.rest.now _ none c.loop-rest.invariant.reading
