use Rattle.std.proofs.Common.{◌≡◌, option_map, subst}
use Rattle.toml.specs.Data.{get_member}
use Rattle.toml.specs.View.{table_view, view}
use Rattle.toml.proofs.Views.{table_get}
use Rattle.ftp_config.proofs.value.at.Goals as goal

pub returns : goal.returns
returns c =
    subst (λ key. option_map (λ v. view v.now) c.get.result ≡ get_member key (table_view c.args.table.now)) c.key_name.ensures
    (table_get c.get.result c.key_name.result.now c.args.table.now.entries c.get.ensures.value)
