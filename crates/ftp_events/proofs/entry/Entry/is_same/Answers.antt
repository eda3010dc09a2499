use Rattle.std.proofs.Common.{sym, ap, ◌∙◌}
use Rattle.ftp_events.specs.contracts.entry.EntryEq.TheImpl.Laws.{laws-law}
use Rattle.ftp_events.specs.contracts.entry.EntryPartialEq.TheImpl.{ghosts}
use Rattle.ftp_events.proofs.Equal.{exact-entry}
use Rattle.ftp_events.proofs.entry.Entry.is_same.Goals as goal

-- entries that are equal are one, and one entry is equal to itself
pub returns : goal.returns
returns c = (
  λ h. exact-entry.same c.args.self.now c.args.other.now (sym c.eq.ensures ∙ h),
  λ h. c.eq.ensures ∙ ap (λ e. ghosts.eq c.args.self.now e) (sym h) ∙ laws-law.refl c.args.self.now,
)
