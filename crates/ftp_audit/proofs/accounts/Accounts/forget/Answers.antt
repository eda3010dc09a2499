use Rattle.std.proofs.Common.{rules}
use Rattle.std.proofs.lemmas.Map.Made.{map_same_pairs}
use Rattle.ftp_audit.specs.Marks.{below}
use Rattle.ftp_audit.proofs.UserLemmas.{marks-below}
use Rattle.ftp_audit.proofs.accounts.Accounts.forget.Goals as goal

pub returns : goal.returns
returns c =
    let cut = map_same_pairs _ (below c.args.place) _ (λ k v b w f' t. search rules) _ _ c.retain.ensures.filtered in
    rw (← c.self.view_is) (marks-below c.args.place c.self.inside.users.entries c.retain.new.self.entries cut)
