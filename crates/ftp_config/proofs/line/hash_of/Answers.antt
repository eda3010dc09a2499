use Rattle.std.proofs.Common.{[], ◌≡◌, ◌∙◌, length, map, sym, ap, arith}
use Rattle.std.proofs.lemmas.Bool.Decides.{nat_tests}
use Rattle.ftp_config.proofs.PartLemmas.{hash_of-five, hash_of-other}
use Rattle.ftp_config.proofs.line.hash_of.Goals as goal
use Rattle.ftp_config.proofs.line.hash_of.Goals.{in_default-via-then-as_slice-lt5, in_default-via-else-as_slice-lt5+else-this-lt6}

pub returns-then-not-is_scheme : goal.returns-then-not-is_scheme
returns-then-not-is_scheme c =
    let five = hash_of-five c.args.text.now c.as_slice.result.now (record { ref_ptr = (0, 0); now = [] }) (ap (map (λ p. p.now)) c.as_slice.ensures.value ∙ c.in_ok-parts.ensures) (omega arith) in
    sym (rw (sym c.is_scheme.ensures ∙ c.if-not-is_scheme.true) at five)

pub returns-in-len5 : goal.returns-in-len5
returns-in-len5 c =
    let five = hash_of-five c.args.text.now c.as_slice.result.now (record { ref_ptr = (0, 0); now = [] }) (ap (map (λ p. p.now)) c.as_slice.ensures.value ∙ c.in_ok-parts.ensures) (omega arith) in
    let same = rw (sym c.is_scheme.ensures ∙ c.if-not-is_scheme.false) at five in
    rw same c.hash_with.ensures

pub returns : goal.returns
returns c =
    let other : length c.as_slice.result.now ≡ 5 → ⊥ = λ n. elim c.in_default.branch [
      | in_default-via-then-as_slice-lt5 w ↦ grind (arith, nat_tests)
      | in_default-via-else-as_slice-lt5+else-this-lt6 w ↦ grind (arith, nat_tests)
    ] in
    sym (hash_of-other c.args.text.now c.as_slice.result.now (ap (map (λ p. p.now)) c.as_slice.ensures.value ∙ c.in_ok-parts.ensures) other)
