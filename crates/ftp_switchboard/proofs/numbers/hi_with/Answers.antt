use Rattle.std.proofs.Common.{◌≡◌, ℕ, ◌+◌, Option, Some, None, unwrap_or, refl, ap, sym, arith}
use Rattle.ftp_switchboard.specs.Settled.{end_at}
use Rattle.ftp_switchboard.proofs.numbers.hi_with.Goals as goal

pub returns-in_default-clause-above : goal.returns-in_default-clause-above
returns-in_default-clause-above c = by_above (end_at c.args.settled.now.entries (c.args.n + 1)) refl
  where
    by_above : (above : Option ℕ) → end_at c.args.settled.now.entries (c.args.n + 1) ≡ above → c.args.n ≡ unwrap_or (end_at c.args.settled.now.entries (c.args.n + 1)) c.args.n
    by_above None none = sym (ap (λ o. unwrap_or o c.args.n) none)
    by_above (Some hi) some =
        let each = c.requires.each (c.args.n + 1) hi some in
        let fits = c.requires.fits (c.args.n + 1) hi some in
        absurd (c.in_default.ensures (omega arith))
