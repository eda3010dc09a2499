use Rattle.std.proofs.Common.{◌≡◌, ℕ, ◌+◌, ◌-◌, ◌/◌, ◌<◌, ◌≤◌, List, ◌++◌, length, get_or, set, take, true, sym, ap, ◌∙◌, inl, inr, arith, length-set, get_or-set_same, get_or-set_other}
use Rattle.std.specs.BTreeSet.{contains}
use Rattle.std.specs.Ordering.{nat_cmp}
use Rattle.std.proofs.lemmas.Bool.{cases_eq}
use Rattle.std.proofs.lemmas.List.{append-nil, drop_all, get_or-take, length-take-le}
use Rattle.ftp_switchboard.specs.Board.{holder_among}
use Rattle.ftp_switchboard.specs.Bits.{AreAlike, left, port_at, session_of}
use Rattle.ftp_switchboard.proofs.KeptLemmas.{among-all, among-remove, left-below, left-here, left-skip, left-write}
use Rattle.ftp_switchboard.proofs.RowLemmas.{is_row-take}
use Rattle.ftp_switchboard.proofs.ports.keep_live.Goals as goal

module _ (lo hi : ℕ) (words : List ℕ) (pairs : List (ℕ × ℕ)) (kept place : ℕ) (order : kept ≤ place) (below : place < length pairs)
    (alike : AreAlike lo hi words (left kept place pairs)) (e : ℕ × ℕ) (is : e ≡ get_or pairs place (0, 0)) where
  at-place : get_or (left kept place pairs) kept (0, 0) ≡ e
  at-place = left-here pairs kept place order below ∙ sym is

  -- The port of the pair at the place has a bit.
  in_range : (lo ≤ e.0) × (e.0 ≤ hi) × ((e.0 - lo) / 64 < length words)
  in_range =
      let at : port_at (left kept place pairs) kept ≡ e.0 = ap (λ (x : ℕ × ℕ). x.0) at-place in
      let inside = alike.inside kept (left-below pairs kept place order below) in
      let low : lo ≤ port_at (left kept place pairs) kept = inside.0 in
      let high : port_at (left kept place pairs) kept ≤ hi = inside.1 in
      let wide : length words ≡ ((hi - lo) + 1 + 63) / 64 = alike.width in
      (omega arith, omega arith, omega arith)

pub overflow_sub-port : goal.overflow_sub-port
overflow_sub-port c =
    (in_range c.args.range.lo c.args.range.hi c.loop-place.row.words.items c.loop-place.row.pairs.items c.loop-place.kept c.loop-place.place c.loop-place.invariant.order (omega arith)
    c.loop-place.invariant.alike c.pair-port.result c.pair-port.ensures.pair).0

pub clear-requires : goal.clear-requires
clear-requires c = record {
  bit =
      (in_range c.args.range.lo c.args.range.hi c.loop-place.row.words.items c.loop-place.row.pairs.items c.loop-place.kept c.loop-place.place c.loop-place.invariant.order (omega arith)
      c.loop-place.invariant.alike c.pair-port.result c.pair-port.ensures.pair).2;
}

pub loop-place-preserved-then-not-contains : goal.loop-place-preserved-then-not-contains
loop-place-preserved-then-not-contains c =
    let before = c.loop-place.invariant in
    let pairs = c.loop-place.row.pairs.items in
    let kept = c.loop-place.kept in
    let place = c.loop-place.place in
    let below : place < length pairs = omega arith in
    let range = in_range c.args.range.lo c.args.range.hi c.loop-place.row.words.items pairs kept place before.order below before.alike c.pair-port.result c.pair-port.ensures.pair in
    let at = at-place c.args.range.lo c.args.range.hi c.loop-place.row.words.items pairs kept place before.order below before.alike c.pair-port.result c.pair-port.ensures.pair in
    let within = left-below pairs kept place before.order below in
    let skip = left-skip pairs kept place before.order below in
    record {
      order = omega arith;
      len = rw c.clear.ensures.pairs before.len;
      looks = omega arith;
      alike = rw c.clear.ensures.pairs
          (is_row-take c.args.range.lo c.args.range.hi c.loop-place.row.words.items c.clear.new.self.words.items (left kept place pairs) (left kept (place + 1) pairs) before.alike
          c.pair-port.result.0 0 kept (range.0, range.1) c.clear.ensures.others c.clear.ensures.width within (ap (λ (x : ℕ × ℕ). x.0) at) c.clear.ensures.bit skip);
      sessions = λ p. rw c.clear.ensures.pairs
          (ap (λ (xs : List (ℕ × ℕ)). holder_among c.args.live.now (session_of xs p)) skip
          ∙ among-remove c.args.live.now (left kept place pairs) kept before.alike.ascends within
          (ap (λ (x : ℕ × ℕ). contains nat_cmp c.args.live.now x.1) at ∙ sym c.contains.ensures ∙ c.if-not-contains.true) p
          ∙ before.sessions p);
      live = rw c.clear.ensures.pairs before.live;
    }

pub loop-place-preserved : goal.loop-place-preserved
loop-place-preserved c =
    let before = c.loop-place.invariant in
    let pairs = c.loop-place.row.pairs.items in
    let kept = c.loop-place.kept in
    let place = c.loop-place.place in
    let below : place < length pairs = omega arith in
    let written : c.write.new.self.pairs.items ≡ set pairs kept (get_or pairs place (0, 0)) = c.write.ensures.pairs ∙ ap (set pairs kept) c.pair-port.ensures.pair in
    let now : left (kept + 1) (place + 1) c.write.new.self.pairs.items ≡ left kept place pairs = ap (left (kept + 1) (place + 1)) written ∙ left-write pairs kept place before.order below in
    let is_live : contains nat_cmp c.args.live.now (get_or pairs place (0, 0)).1 ≡ true =
    ap (λ (x : ℕ × ℕ). contains nat_cmp c.args.live.now x.1) (sym c.pair-port.ensures.pair) ∙ sym c.contains.ensures ∙ c.if-not-contains.false in
    record {
      order = omega arith;
      len = ap length written ∙ length-set pairs kept (get_or pairs place (0, 0)) ∙ before.len;
      looks = omega arith;
      alike = rw (c.write.ensures.words, now) before.alike;
      sessions = λ p. ap (λ (xs : List (ℕ × ℕ)). holder_among c.args.live.now (session_of xs p)) now ∙ before.sessions p;
      live = λ k less. ap (λ (xs : List (ℕ × ℕ)). contains nat_cmp c.args.live.now (get_or xs k (0, 0)).1) written
          ∙ elim (cases_eq k kept) [
            | inl same ↦ ap (λ (x : ℕ × ℕ). contains nat_cmp c.args.live.now x.1)
                (ap (λ n. get_or (set pairs kept (get_or pairs place (0, 0))) n (0, 0)) same ∙ get_or-set_same pairs kept (get_or pairs place (0, 0)) (0, 0) (omega arith))
                ∙ is_live
            | inr apart ↦ ap (λ (x : ℕ × ℕ). contains nat_cmp c.args.live.now x.1) (get_or-set_other pairs kept k (get_or pairs place (0, 0)) (0, 0) apart)
                ∙ before.live k (omega arith)
          ];
    }

pub returns-clause-sessions : goal.returns-clause-sessions
returns-clause-sessions c p =
    let before = c.loop-place.invariant in
    let pairs = c.loop-place.row.pairs.items in
    let kept = c.loop-place.kept in
    let short : length (take kept pairs) ≡ kept = length-take-le kept pairs (omega arith) in
    let all : left kept c.loop-place.place pairs ≡ take kept pairs =
    ap (λ (rest : List (ℕ × ℕ)). take kept pairs ++ rest) (drop_all c.loop-place.place pairs (omega arith)) ∙ append-nil (take kept pairs) in
    ap (λ (xs : List (ℕ × ℕ)). session_of xs p) c.truncate.ensures.pairs
    ∙ among-all c.args.live.now (take kept pairs) p
    (λ k below. ap (λ (x : ℕ × ℕ). contains nat_cmp c.args.live.now x.1) (get_or-take kept pairs k (0, 0) (omega arith)) ∙ before.live k (omega arith))
    ∙ ap (λ (xs : List (ℕ × ℕ)). holder_among c.args.live.now (session_of xs p)) (sym all)
    ∙ before.sessions p
