use Rattle.std.proofs.Common.{[], ◌≡◌, ◌∙◌, length, map, sym, ap, arith}
use Rattle.std.proofs.lemmas.Bool.Decides.{nat_tests}
use Rattle.ftp_config.proofs.PartLemmas.{spelled_user-four, spelled_user-five, spelled_user-other}
use Rattle.ftp_config.proofs.line.spelled_user.Goals as goal
use Rattle.ftp_config.proofs.line.spelled_user.Goals.{in_default-via-then-as_slice-lt4, in_default-via-else-as_slice-lt4+else-this-lt5+else-this-lt6}

pub returns-in-len4 : goal.returns-in-len4
returns-in-len4 c =
    let four = spelled_user-four c.args.line.now c.as_slice.result.now (record { ref_ptr = (0, 0); now = [] }) (ap (map (λ p. p.now)) c.as_slice.ensures.value ∙ c.in_ok-fields.ensures) (omega arith) in
    rw four c.user_with.ensures

pub returns-in_default-budget_size : goal.returns-in_default-budget_size
returns-in_default-budget_size c =
    let five = spelled_user-five c.args.line.now c.as_slice.result.now (record { ref_ptr = (0, 0); now = [] }) (ap (map (λ p. p.now)) c.as_slice.ensures.value ∙ c.in_ok-fields.ensures) (omega arith) in
    sym (rw (sym c.budget_size.ensures ∙ c.in_default-budget_size.is) at five)

pub returns-in-len5 : goal.returns-in-len5
returns-in-len5 c =
    let five = spelled_user-five c.args.line.now c.as_slice.result.now (record { ref_ptr = (0, 0); now = [] }) (ap (map (λ p. p.now)) c.as_slice.ensures.value ∙ c.in_ok-fields.ensures) (omega arith) in
    let same = rw (sym c.in-Some.ensures) at five in
    rw same c.user_with-in-len5.ensures

pub returns : goal.returns
returns c =
    let four : length c.as_slice.result.now ≡ 4 → ⊥ = λ n. elim c.in_default.branch [
      | in_default-via-then-as_slice-lt4 w ↦ grind (arith, nat_tests)
      | in_default-via-else-as_slice-lt4+else-this-lt5+else-this-lt6 w ↦ grind (arith, nat_tests)
    ] in
    let five : length c.as_slice.result.now ≡ 5 → ⊥ = λ n. elim c.in_default.branch [
      | in_default-via-then-as_slice-lt4 w ↦ grind (arith, nat_tests)
      | in_default-via-else-as_slice-lt4+else-this-lt5+else-this-lt6 w ↦ grind (arith, nat_tests)
    ] in
    sym (spelled_user-other c.args.line.now c.as_slice.result.now (ap (map (λ p. p.now)) c.as_slice.ensures.value ∙ c.in_ok-fields.ensures) four five)
