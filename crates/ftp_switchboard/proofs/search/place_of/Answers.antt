use Rattle.std.proofs.Common.{◌≡◌, ℕ, zero, suc, ◌+◌, ◌-◌, ◌*◌, ◌/◌, ◌^◌, ◌<◌, ◌≤◌, List, length, sym, ap, inl, inr, arith}
use Rattle.std.proofs.Math.Nat.{pow-suc}
use Rattle.std.proofs.lemmas.Bool.{cases_eq}
use Rattle.ftp_switchboard.specs.Bits.{Ascends, port_at}
use Rattle.ftp_switchboard.proofs.search.place_of.Goals as goal

-- What is between is halved by each look.
halved : (between left : ℕ) → 0 < between → between < 2 ^ left → (less : ℕ) × (left ≡ less + 1) × (between / 2 < 2 ^ less) × (between - between / 2 - 1 < 2 ^ less)
halved between zero some within = absurd (omega arith)
halved between (suc less) some within =
    let twice : 2 ^ suc less ≡ 2 ^ less * 2 = pow-suc 2 less in
    (less, omega arith, omega arith, omega arith)

lower-more : (pairs : List (ℕ × ℕ)) (port middle i : ℕ) → Ascends pairs → middle < length pairs → port_at pairs middle < port → i < middle + 1 → port_at pairs i < port
lower-more pairs port middle i ascends within less before =
    elim (cases_eq i middle) [
      | inl same ↦ (let at : port_at pairs i ≡ port_at pairs middle = ap (port_at pairs) same in omega arith)
      | inr apart ↦ (let up : port_at pairs i < port_at pairs middle = ascends i middle (omega arith) within in omega arith)
    ]

upper-more : (pairs : List (ℕ × ℕ)) (port middle i : ℕ) → Ascends pairs → i < length pairs → port ≤ port_at pairs middle → middle ≤ i → port ≤ port_at pairs i
upper-more pairs port middle i ascends within more after =
    elim (cases_eq middle i) [
      | inl same ↦ (let at : port_at pairs middle ≡ port_at pairs i = ap (port_at pairs) same in omega arith)
      | inr apart ↦ (let up : port_at pairs middle < port_at pairs i = ascends middle i (omega arith) within in omega arith)
    ]

pub loop-low-init : goal.loop-low-init
loop-low-init c = record {
  order = omega arith;
  within = omega arith;
  lower = λ i before. absurd (omega arith);
  upper = λ i after below. absurd (omega arith);
  looks = omega arith;
  left = (16, omega arith, omega arith);
}

pub loop-low-preserved-then-pair-port : goal.loop-low-preserved-then-pair-port
loop-low-preserved-then-pair-port c =
    let before = c.loop-low.invariant in
    let half = halved (c.loop-low.high - c.loop-low.low) before.left.0 (omega arith) before.left.1 in
    let at : port_at c.args.row.now.pairs.items (c.loop-low.low + (c.loop-low.high - c.loop-low.low) / 2) ≡ c.pair.result.0 = ap (λ (e : ℕ × ℕ). e.0) (sym c.pair.ensures.pair) in
    record {
      order = omega arith;
      within = before.within;
      lower = λ i below. lower-more c.args.row.now.pairs.items c.args.port (c.loop-low.low + (c.loop-low.high - c.loop-low.low) / 2) i c.requires.order (omega arith) (omega arith) below;
      upper = before.upper;
      looks = omega arith;
      left = (half.0, omega (arith, half.3), omega (arith, half.1, before.left.2));
    }

pub loop-low-preserved : goal.loop-low-preserved
loop-low-preserved c =
    let before = c.loop-low.invariant in
    let half = halved (c.loop-low.high - c.loop-low.low) before.left.0 (omega arith) before.left.1 in
    let at : port_at c.args.row.now.pairs.items (c.loop-low.low + (c.loop-low.high - c.loop-low.low) / 2) ≡ c.pair.result.0 = ap (λ (e : ℕ × ℕ). e.0) (sym c.pair.ensures.pair) in
    record {
      order = omega arith;
      within = omega arith;
      lower = before.lower;
      upper = λ i after below. upper-more c.args.row.now.pairs.items c.args.port (c.loop-low.low + (c.loop-low.high - c.loop-low.low) / 2) i c.requires.order below (omega arith) after;
      looks = omega arith;
      left = (half.0, omega (arith, half.2), omega (arith, half.1, before.left.2));
    }
