use Rattle.std.proofs.Common.{◌≡◌, ◌∙◌, ℕ, List, ap, sym, subst}
use Rattle.std.specs.Option.{option_copied, option_or}
use Rattle.ftp_disk.specs.declared.home.Home.{Home}
use Rattle.ftp_disk.specs.Home.{homes_by_user, home_of, home_if}
use Rattle.ftp_disk.proofs.HomeLemmas.{add-absent}
use Rattle.ftp_disk.proofs.home.Homes.add.Goals as goal

pub returns : goal.returns
returns c =
    let entries = c.self.inside.by_user.entries in
    let none_lent : option_copied c.home_of.result ≡ home_of (homes_by_user entries) c.args.user.items = c.home_of.ensures ∙ ap (λ name. home_of (homes_by_user entries) name) c.as_slice.ensures.value in
    record {
      added = λ name.
          subst (λ (old : List (List ℕ × Home)). home_of (homes_by_user c.insert.new.self.entries) name ≡ option_or (home_of old name) (home_if name c.args.user.items c.args.home)) c.self.view_is
          (ap (λ es. home_of (homes_by_user es) name) c.in_ok-insert.ensures.entries
          ∙ add-absent name c.args.user c.args.home entries c.home_of.result none_lent (sym c.is_some.ensures ∙ c.if-is_some.false));
    }
