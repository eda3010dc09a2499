use Rattle.std.proofs.Common.{◌∙◌, sym}
use Rattle.ftp_base.proofs.Named.{lookup-named}
use Rattle.ftp_disk.proofs.home.home_of.Goals as goal

pub returns : goal.returns
returns c = c.get.ensures.value ∙ sym (lookup-named c.args.homes.now.entries c.args.user.now)
