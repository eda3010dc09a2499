use Rattle.std.proofs.Common.{◌≡◌, ◌∙◌, sym, ap, subst, ℕ, List, ◌++◌, Vec, Global, append-nil}
use Rattle.ftp_audit.specs.declared.account.Account.{Account}
use Rattle.ftp_audit.specs.Marks.{total_of}
use Rattle.ftp_audit.specs.Names.{named}
use Rattle.ftp_audit.specs.Users.{marks_of}
use Rattle.ftp_audit.specs.Listing.{listed, IsListing}
use Rattle.ftp_audit.proofs.ListingLemmas.{listed-listing}
use Rattle.ftp_audit.proofs.accounts.Accounts.rows.Goals as goal

pub returns : goal.returns
returns c =
    let end = c.in-None.ensures.steps in
    let all : c.loop-name.rows.items ≡ listed (named c.self.inside.users.entries) =
    sym (append-nil c.loop-name.rows.items)
    ∙ (ap (λ (left : List (Vec ℕ Global × Account)). c.loop-name.rows.items ++ listed (named left)) (sym end.0) ∙ c.loop-name.invariant)
    in
    subst (IsListing (λ name. total_of (marks_of c.args.self.now name))) (sym all)
    (listed-listing c.self.inside.users.entries c.args.self.now c.self.view_is c.into_iter-name-iterator.ensures.into_iter_gives.5)
