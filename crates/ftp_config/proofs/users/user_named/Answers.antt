use Rattle.std.proofs.Common.{◌∙◌, sym}
use Rattle.ftp_base.proofs.Named.{lookup-named}
use Rattle.ftp_config.proofs.users.user_named.Goals as goal

pub returns : goal.returns
returns c = c.get.ensures.value ∙ sym (lookup-named c.args.users.now.entries c.args.name.now)
