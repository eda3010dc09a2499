use Rattle.std.proofs.Common.{rules, ◌≡◌, ◌∙◌, length, get_or, refl, ap, sym, below_more, arith}
use Rattle.std.specs.Int.Bits.{bit_xor, xor_self}
use Rattle.std.proofs.lemmas.Bool.Decides.{nat_tests}
use Rattle.std.proofs.lemmas.List.{ext_get_or}
use Rattle.ftp_config.proofs.BitLemmas.{bit_or-none, bit_xor-none}
use Rattle.ftp_config.proofs.pbkdf2.same_key.Goals as goal

pub loop-i-preserved : goal.loop-i-preserved
loop-i-preserved c =
    let a = get_or c.args.a.now c.loop-i.i 0 in
    let b = get_or c.args.b.now c.loop-i.i 0 in (
      λ none.
          let both = bit_or-none c.loop-i.differs (bit_xor a b) none in
          below_more _ _ (c.loop-i.invariant.0 both.0) (bit_xor-none a b both.1),
      λ same.
          let before : c.loop-i.differs ≡ 0 = c.loop-i.invariant.1 same in
          let here : bit_xor a b ≡ 0 = ap (λ l. bit_xor a (get_or l c.loop-i.i 0)) (sym same) ∙ xor_self a in
          rw (before, here) refl,
    )

pub returns : goal.returns
returns c = (
  λ t.
      let none : c.loop-i.differs ≡ 0 = grind (arith, nat_tests) in
      let long : length c.args.a.now ≡ length c.args.b.now = omega arith in
      ext_get_or 0 c.args.a.now c.args.b.now long (λ k lt. c.loop-i.invariant.0 none k (omega arith)),
  λ same.
      let none : c.loop-i.differs ≡ 0 = c.loop-i.invariant.1 same in
      rw none (search rules),
)
