use Rattle.std.proofs.Common.{◌≡◌, ◌∙◌, sym, ap, ℕ, List, ◌++◌, Vec, Global, append-nil}
use Rattle.std.specs.List.{flat_map}
use Rattle.ftp_audit.specs.declared.account.Account.{Account}
use Rattle.ftp_audit.specs.declared.account.Mark.{Mark}
use Rattle.ftp_audit.specs.Names.{named}
use Rattle.ftp_audit.specs.Listing.{listed, row_line}
use Rattle.ftp_audit.proofs.ListingLemmas.{listed-listing}
use Rattle.ftp_audit.proofs.accounts.Accounts.report.Goals as goal

pub returns : goal.returns
returns c =
    let end = c.in-None.ensures.steps in
    let all : c.loop-name.text.items ≡ flat_map row_line (listed c.args.self.now) =
    sym (append-nil c.loop-name.text.items)
    ∙ (ap (λ (left : List (Vec ℕ Global × Account)). c.loop-name.text.items ++ flat_map row_line (listed (named left))) (sym end.0) ∙ c.loop-name.invariant)
    in (
      listed (named c.self.inside.users.entries),
      listed-listing c.self.inside.users.entries c.args.self.now c.self.view_is c.into_iter-name-iterator.ensures.into_iter_gives.5,
      all ∙ ap (λ (users : List (List ℕ × List Mark)). flat_map row_line (listed users)) (sym c.self.view_is),
    )
