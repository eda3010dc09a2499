use Rattle.std.proofs.Common.{◌≡◌, Option, Some, None, IsSome, refl, subst, sym, ap, ◌∙◌, MutBor}
use Rattle.std.specs.Option.{OnSome, option_copied_mut}
use Rattle.std.specs.FinMap as map
use Rattle.ftp_base.proofs.Tables.{get-numbers, from_entries-insert-number}
use Rattle.ftp_base.proofs.link_table.LinkTable.get_mut.Goals as goal

-- what holds where there is a value holds where one is lent
on_lent : {X : Type 0} (lent : Option (MutBor X)) (there : Option X) (P : Type 0) → option_copied_mut lent ≡ there → (IsSome there → P) → OnSome lent P
on_lent None there P same holds = tt
on_lent (Some link) there P same holds = holds (subst IsSome same refl)

pub returns : goal.returns
returns g c =
    let entries = c.self.inside.links.entries in
    let number = c.args.number in (
      (
        refl,
        (λ w. on_lent c.get_mut.result _ _ c.get_mut.ensures.value (λ there.
            from_entries-insert-number entries
            (c.get_mut.follows.lender w).entries number w
            ((c.get_mut.follows.holds w).3 there).0
            ∙ ap (λ v. map.insert v number w) c.self.view_is)),
        ap (λ (links : _). map.from_entries links.entries) c.get_mut.follows.holds-at-none ∙ c.self.view_is,
      ),
      record {
        writes_back = tt;
        value =
            c.get_mut.ensures.value
            ∙ sym (get-numbers entries number)
            ∙ ap (λ v. map.get v number) c.self.view_is;
      },
    )
