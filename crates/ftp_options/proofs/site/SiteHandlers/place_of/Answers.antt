use Rattle.std.proofs.Common.{rules}
use Rattle.std.proofs.lemmas.Fn.{always_returns_same}
use Rattle.std.specs.Ordering.{nat_cmp}
use Rattle.std.specs.Cmp.Lexicographic.{slice_cmp}
use Rattle.ftp_options.specs.Site.{upper}
use Rattle.ftp_options.proofs.site.SiteHandlers.place_of.Goals as goal

pub returns-clause-place : goal.returns-clause-place
returns-clause-place g c =
    let by_order = always_returns_same _ _ _ (λ a r k called. search rules) in
    rw (← c.self.view_is, ← c.deref.ensures.value) (c.binary_search_by.ensures.position (λ site. slice_cmp nat_cmp site.0 (upper c.args.name.now)) by_order)
